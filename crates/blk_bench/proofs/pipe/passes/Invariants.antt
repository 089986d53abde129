use Rattle.std.proofs.Common.{◌≡◌}
use Rattle.blocking_core.specs.Pipes.{empty_pipe}
use Rattle.blk_bench.proofs.pipe.passes.Given as goal

abbrev pub invariant-loop-piece : goal.invariant-loop-piece
invariant-loop-piece l =
    (goal.iterator-loop-piece).can_next l.piece-iterator
    × (goal.iterator-loop-piece).is_finite l.piece-iterator
    × (l.pipe ≡ empty_pipe 65536)
