-- After each step.
use Rattle.blocking_world_copiers.proofs.Carried.{does_carry}
use Rattle.blocking_world_copiers.proofs.Legality.{does_lawful, does_setting}
use Rattle.blocking_world_copiers.proofs.invariants.each_step.Goals as goal

pub returns-clause-lawful : goal.returns-clause-lawful
returns-clause-lawful c = λ setting plan w new past step e lawful does.
    does_lawful setting plan w past lawful step e new does

pub returns-clause-setting : goal.returns-clause-setting
returns-clause-setting c = λ setting plan w new past step e lawful does.
    does_setting setting plan w past lawful step e new does

pub returns-clause-carried : goal.returns-clause-carried
returns-clause-carried c = λ plan w new step e does. does_carry plan w e new step does
