use Rattle.futures.specs.Task.{Keeps}
use Rattle.blk_bench.proofs.reading.read_to_end.Given as goal

abbrev pub invariant-loop : goal.invariant-loop
invariant-loop g l = (g.A.AsyncRead.closed l.owner → ⊥) × Keeps l.initial.cx l.cx
