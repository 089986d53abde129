use Rattle.futures.specs.Task.{Keeps}
use Rattle.blocking_tests.proofs.ends.items.PlayedFuture.poll.Given as goal

abbrev pub invariant-loop-place : goal.invariant-loop-place
invariant-loop-place g l = Keeps l.initial.cx l.cx
