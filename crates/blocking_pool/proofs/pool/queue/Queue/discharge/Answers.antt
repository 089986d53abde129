use Rattle.std.proofs.Common.{◌<◌, subst, sym, ◌∙◌, refl}
use Rattle.blocking_pool.specs.Clients.{Tally}
use Rattle.blocking_pool.specs.ClientTable.{client_at}
use Rattle.blocking_pool.proofs.QueueLemmas.{tally_seen, seats_again, tallied_set, gave_up}
use Rattle.blocking_pool.proofs.KeptLemmas.{kept_set, kept_given_up, jobs_left, last_named}
use Rattle.blocking_pool.proofs.KeptLemmas.{last_one}
use Rattle.blocking_pool.proofs.pool.queue.Queue.discharge.Goals as goal

pub forget-requires : goal.forget-requires
forget-requires c = last_named c.args.client _ (sym c.is_last_job.ensures ∙ c.if-is_last_job.true)

pub invariant_of-self : goal.invariant_of-self
invariant_of-self c =
    kept_given_up _ _ _ _ _ _ _ c.self.invariant _ _ c.args.client c.self.view_is
    (last_one c.args.client _ (sym c.is_last_job.ensures ∙ c.if-is_last_job.true))
    c.requires.idle c.requires.none_queued
    c.forget.new.self.known c.forget.ensures.states c.forget.ensures.fewer

pub returns-then-is_last_job : goal.returns-then-is_last_job
returns-then-is_last_job c =
    gave_up c.self.inside.places
    _ _ _ _ _ c.args.client (client_at c.self.inside.clients.known c.args.client) c.self.view_is
    refl (last_one c.args.client _ (sym c.is_last_job.ensures ∙ c.if-is_last_job.true))
    c.requires.idle c.requires.none_queued
    c.forget.new.self.known c.forget.ensures.states _

pub discharge-requires : goal.discharge-requires
discharge-requires c = subst (λ (t : Tally). 0 < t.jobs)
    (tally_seen _ _ _ _ _ _ c.args.client _ c.self.view_is refl) c.requires.some

pub invariant_of-self-2 : goal.invariant_of-self-2
invariant_of-self-2 c =
    let some = subst (λ (t : Tally). 0 < t.jobs) (tally_seen _ _ _ _ _
    _ c.args.client (client_at c.self.inside.clients.known c.args.client) c.self.view_is refl)
    c.requires.some in
    kept_set _ _ _ _ _ _ _ c.self.invariant c.discharge.new.self.known c.args.client _
    c.discharge.ensures refl refl
    (λ many. seats_again _ _ (λ k. k.jobs) (client_at c.self.inside.clients.known c.args.client)
    refl refl some _ _ _ c.discharge.ensures (c.self.invariant.seats many))
    (jobs_left _ _ _ _ _ _ c.args.client c.self.view_is some c.requires.none_queued)

pub returns : goal.returns
returns c =
    tallied_set _ _ _ _ _ _ _ _ c.args.client (client_at c.self.inside.clients.known c.args.client)
    _ _ c.self.view_is refl c.discharge.ensures refl
