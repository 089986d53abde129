use Rattle.std.proofs.Common.{◌≡◌, ◌++◌, replicate}
use Rattle.blocking_schedule.specs.declared.place.Place.TheVariants.{Outside, Spare}
use Rattle.blocking_schedule.proofs.Moves.{IsQuiet}
use Rattle.blocking_schedule.proofs.schedule.Schedule.new.Given as goal

abbrev pub invariant-loop-caller : goal.invariant-loop-caller
invariant-loop-caller l = record {
  quiet : IsQuiet l.threads.items;
  threads : l.threads.items ≡ replicate l._caller Outside;
}

abbrev pub invariant-loop-spare : goal.invariant-loop-spare
invariant-loop-spare l = record {
  quiet : IsQuiet l.threads.items;
  threads : l.threads.items ≡ replicate l.callers Outside ++ replicate l._spare Spare;
}
