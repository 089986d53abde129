use Rattle.blocking_schedule.specs.Kept.{IsSound}
use Rattle.blocking_core_tests.proofs.schedule.after.Given as goal

-- each run keeps it
abbrev pub invariant-loop-steps : goal.invariant-loop-steps
invariant-loop-steps l = IsSound l.schedule
