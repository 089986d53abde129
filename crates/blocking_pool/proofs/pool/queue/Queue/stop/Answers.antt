use Rattle.std.proofs.Common.{◌<◌, subst, refl}
use Rattle.blocking_pool.specs.Clients.{Tally}
use Rattle.blocking_pool.specs.ClientTable.{client_at}
use Rattle.blocking_pool.proofs.QueueLemmas.{tally_seen, seats_again, tallied_set}
use Rattle.blocking_pool.proofs.KeptLemmas.{kept_jobs, none_open}
use Rattle.blocking_pool.proofs.pool.queue.Queue.stop.Goals as goal

pub stop-requires : goal.stop-requires
stop-requires c = subst (λ (t : Tally). 0 < t.running)
    (tally_seen _ _ _ _ _ _ c.args.client _ c.self.view_is refl) c.requires

pub invariant_of-self : goal.invariant_of-self
invariant_of-self c =
    let some = subst (λ (t : Tally). 0 < t.running) (tally_seen _ _ _ _ _ _ c.args.client
    (client_at c.self.inside.clients.known c.args.client) c.self.view_is refl) c.requires in
    kept_jobs _ _ _ _ _ _ _ c.self.invariant c.stop.new.self.known c.args.client _ c.stop.ensures
    refl (none_open c.self.inside.limit _ _ c.in-None.is)
    (λ many. seats_again _ _ (λ k. k.running) (client_at c.self.inside.clients.known c.args.client)
    refl refl some _ _ _ c.stop.ensures (c.self.invariant.seats many)) refl

pub returns-in-None : goal.returns-in-None
returns-in-None c =
    tallied_set _ _ _ _ _ _ _ _ c.args.client (client_at c.self.inside.clients.known c.args.client)
    _ _ c.self.view_is refl c.stop.ensures refl
