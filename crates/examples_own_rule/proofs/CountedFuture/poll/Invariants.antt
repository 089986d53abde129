use Rattle.futures.specs.Task.{Keeps}
use Rattle.examples_own_rule.proofs.CountedFuture.poll.Given as goal

abbrev pub invariant-loop : goal.invariant-loop
invariant-loop g l = Keeps l.initial.cx l.cx
