use Rattle.std.proofs.Common.{vec_items}
use Rattle.futures.specs.Task.{Keeps}
use Rattle.blocking_io.specs.Passed.{AddsTo, Gave}
use Rattle.blocking.proofs.whole.ReadingAllFuture.poll.Given as goal

abbrev pub invariant-loop : goal.invariant-loop
invariant-loop g l =
    (g.A.AsyncRead.closed l.self.reader → ⊥) × Keeps l.initial.cx l.cx
    × AddsTo (vec_items l.initial.self.bytes) (vec_items l.self.bytes)
    (λ more. Gave g.A.AsyncRead.reads l.initial.self.reader more l.self.reader)
