use Rattle.futures.specs.Task.{Keeps}
use Rattle.blocking_tests.proofs.ends.items.TakesFuture.poll.Given as goal

abbrev pub invariant-loop : goal.invariant-loop
invariant-loop g l = Keeps l.initial.cx l.cx
