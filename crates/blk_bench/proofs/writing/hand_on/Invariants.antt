use Rattle.futures.specs.Task.{Keeps}
use Rattle.blk_bench.proofs.writing.hand_on.Given as goal

abbrev pub invariant-loop : goal.invariant-loop
invariant-loop g l = (g.A.AsyncWrite.closed l.owner → ⊥) × Keeps l.initial.cx l.cx
