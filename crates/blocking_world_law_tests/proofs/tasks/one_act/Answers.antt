-- A task's laws are equations.
use Rattle.blocking_world_law_tests.proofs.OneAct.{one_poll, one_action}
use Rattle.blocking_world_law_tests.proofs.tasks.one_act.Goals as goal

pub returns-clause-poll : goal.returns-clause-poll
returns-clause-poll c = one_poll

pub returns-clause-action : goal.returns-clause-action
returns-clause-action c = one_action
