-- After each step.
use Rattle.blocking_world_state.proofs.invariants.each_step.Goals as goal
use Rattle.blocking_world_state.proofs.laws.Legality.{stays_lawful, same_setting, step_keeps}
use Rattle.blocking_world_state.proofs.laws.Legality.{carried}

pub returns-clause-lawful : goal.returns-clause-lawful
returns-clause-lawful c = λ setting plan w new past step e lawful steps.
    stays_lawful setting plan w past lawful new e step steps

pub returns-clause-setting : goal.returns-clause-setting
returns-clause-setting c = λ setting plan w new past step e lawful steps.
    same_setting setting plan w past lawful new e step steps

pub returns-clause-carried : goal.returns-clause-carried
returns-clause-carried c = carried

pub returns-clause-steps : goal.returns-clause-steps
returns-clause-steps c = λ setting plan w new past step e lawful steps free.
    step_keeps setting plan w past lawful new e step steps free
