-- What is left of the hands still fits the pool, and they get fewer.
use Rattle.std.proofs.Common.{vec_len}
use Rattle.blocking_world_pool.proofs.Words.{AreIdle}
use Rattle.blocking_world_pool.proofs.workers.dismiss_all.Given as goal

abbrev pub invariant-loop-hand : goal.invariant-loop-hand
invariant-loop-hand g l = AreIdle l.tickets l.hands.items

abbrev pub decreases-loop-hand : goal.decreases-loop-hand
decreases-loop-hand g l = vec_len l.hands
