use Rattle.blocking_schedule.specs.Seats.{IsHeard}
use Rattle.blocking_core_tests.proofs.seat.after.Given as goal

-- each run keeps it
abbrev pub invariant-loop-acts : goal.invariant-loop-acts
invariant-loop-acts l = IsHeard l.meeting
