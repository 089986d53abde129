use Rattle.std.proofs.Common.{◌<◌, length, sym, subst, take, get_or, arith}
use Rattle.std.proofs.lemmas.List.{take_more}
use Rattle.blocking_schedule.specs.Steps.{Steps, Runs}
use Rattle.blocking_schedule.specs.declared.schedule.Schedule.{Schedule}
use Rattle.blocking_schedule.specs.declared.step.Step.{Step}
use Rattle.blocking_schedule.specs.declared.step.Step.TheVariants.{Add}
use Rattle.blocking_schedule.proofs.InWords.{nobody_is_forgotten}
use Rattle.blocking_schedule.proofs.Sequences.{in_turn_more}
use Rattle.blocking_schedule.proofs.schedule.Schedule.run.Goals as goal

pub loop-step-preserved : goal.loop-step-preserved
loop-step-preserved c =
    let steps = c.args.steps.now in
    let within : c.loop-step.step-index < length steps = omega arith in
    let so_far = take c.loop-step.step-index steps in
    record {
      sound = c.step.ensures.sound;
      runs =
          subst (λ done. Runs done c.args.self.now c.step.new.self)
          (sym (take_more steps c.loop-step.step-index (Add 0) within))
          (in_turn_more Schedule Step Steps so_far (get_or steps c.loop-step.step-index (Add 0))
          c.args.self.now c.loop-step.self c.step.new.self c.loop-step.invariant.runs
          c.step.ensures.steps);
    }

pub returns-clause-forgotten : goal.returns-clause-forgotten
returns-clause-forgotten c = nobody_is_forgotten c.loop-step.self.threads.items
    c.loop-step.self.pool c.loop-step.self.is_locked c.loop-step.self.is_manned
    c.loop-step.self.is_queued c.loop-step.invariant.sound
