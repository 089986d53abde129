-- The cut alone says what is seen.
use Rattle.blocking_world_law_tests.proofs.OneOwnerAct.{one_poll, one_action}
use Rattle.blocking_world_law_tests.proofs.owners.legality.one_act.Goals as goal

pub returns-clause-of_poll : goal.returns-clause-of_poll
returns-clause-of_poll c = one_poll

pub returns-clause-of_job : goal.returns-clause-of_job
returns-clause-of_job c = one_action
