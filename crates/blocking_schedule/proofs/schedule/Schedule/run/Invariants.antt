use Rattle.std.proofs.Common.{take}
use Rattle.blocking_schedule.specs.Kept.{IsSound}
use Rattle.blocking_schedule.specs.Steps.{Runs}
use Rattle.blocking_schedule.proofs.schedule.Schedule.run.Given as goal

-- the steps so far were taken
abbrev pub invariant-loop-step : goal.invariant-loop-step
invariant-loop-step l =
    record { sound : IsSound l.self; runs : Runs (take l.step-index l.steps) l.initial.self l.self }
