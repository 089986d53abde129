-- After each step of a copier.
use Rattle.blocking_world_state.proofs.invariants.each_copier_step.Goals as goal
use Rattle.blocking_world_state.proofs.laws.Legality.{copier_lawful, copier_setting}

pub returns-clause-lawful : goal.returns-clause-lawful
returns-clause-lawful c = λ setting plan w new past step who act e lawful moves.
    copier_lawful setting plan w past lawful new e step who act moves

pub returns-clause-setting : goal.returns-clause-setting
returns-clause-setting c = λ setting plan w new past step who act e lawful moves.
    copier_setting setting plan w past lawful new e step who act moves
