use Rattle.std.proofs.Common.{drop}
use Rattle.blocking_schedule.specs.declared.stream.Ring.{Ring}
use Rattle.blocking_schedule.specs.Streams.{IsSound}
use Rattle.blocking_schedule.specs.StreamSteps.{Runs}
use Rattle.blocking_schedule.proofs.stream.Ring.run.Given as goal

-- what the steps that are left lead to, all of them lead to
abbrev pub invariant-loop-step : goal.invariant-loop-step
invariant-loop-step l = record {
  sound : IsSound l.self;
  rest : (last : Ring) → Runs (drop l.step-index l.steps) l.self last → Runs l.steps l.fn.self last;
}
