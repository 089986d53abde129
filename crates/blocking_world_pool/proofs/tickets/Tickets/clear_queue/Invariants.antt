-- No client limit is set, the jobs so far were passed over, and the queue gets shorter.
use Rattle.std.proofs.Common.{◌≡◌, length, None}
use Rattle.blocking_world_pool.proofs.Words.{PassesOver}
use Rattle.blocking_world_pool.proofs.tickets.Tickets.clear_queue.Given as goal

abbrev pub invariant-loop-self : goal.invariant-loop-self
invariant-loop-self g l = PassesOver l.initial.self l.self × (l.self.client_limit ≡ None)

abbrev pub decreases-loop-self : goal.decreases-loop-self
decreases-loop-self g l = length l.self.queue
