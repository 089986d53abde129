use Rattle.std.proofs.Common.{◌<◌, subst, ap, ◌∙◌, refl, arith}
use Rattle.blocking_pool.specs.Growth.{greatest}
use Rattle.blocking_pool.specs.Queue.{has_seat}
use Rattle.blocking_pool.specs.Clients.{Tally}
use Rattle.blocking_pool.specs.ClientTable.{client_at}
use Rattle.blocking_pool.proofs.QueueLemmas.{tally_seen, seat_room, seats_kept, tallied_set}
use Rattle.blocking_pool.proofs.KeptLemmas.{kept_set}
use Rattle.blocking_pool.proofs.pool.queue.Queue.enroll.Goals as goal

pub enroll-requires-clause-seat : goal.enroll-requires-clause-seat
enroll-requires-clause-seat c =
    seat_room c.self.inside.clients.known c.args.client c.self.inside.clients.spare
    c.self.inside.heads.room (ap (λ v. has_seat v c.args.client) c.self.view_is ∙ c.requires.room)

pub enroll-requires-clause-left : goal.enroll-requires-clause-left
enroll-requires-clause-left c = subst (λ (t : Tally). t.jobs < greatest)
    (tally_seen _ _ _ _ _ _ c.args.client _ c.self.view_is refl) c.requires.left

pub invariant_of-self : goal.invariant_of-self
invariant_of-self c =
    kept_set _ _ _ _ _ _ _ c.self.invariant c.enroll.new.self.known c.args.client _ c.enroll.ensures
    refl refl
    (λ some. seats_kept _ _ _ _ _ _ _ _ _ _ c.self.view_is c.requires.room c.enroll.ensures
    (c.self.invariant.seats some)) (λ p there e. omega arith)

pub returns : goal.returns
returns c =
    tallied_set _ _ _ _ _ _ _ _ c.args.client (client_at c.self.inside.clients.known c.args.client)
    _ _ c.self.view_is refl c.enroll.ensures refl
