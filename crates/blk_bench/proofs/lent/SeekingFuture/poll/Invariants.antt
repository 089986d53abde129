use Rattle.futures.specs.Task.{Keeps}
use Rattle.blk_bench.proofs.lent.SeekingFuture.poll.Given as goal

abbrev pub invariant-loop : goal.invariant-loop
invariant-loop g l = (g.A.AsyncSeek.closed l.self.owner → ⊥) × Keeps l.initial.cx l.cx
