use Rattle.std.proofs.Common.{vec_len}
use Rattle.blocking_world_state.proofs.parts.wake_all.Given as goal

abbrev pub invariant-loop-owner : goal.invariant-loop-owner
invariant-loop-owner g l = Unit {0}

abbrev pub decreases-loop-owner : goal.decreases-loop-owner
decreases-loop-owner g l = vec_len l.owners
