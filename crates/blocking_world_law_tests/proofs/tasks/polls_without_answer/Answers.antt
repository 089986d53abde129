-- Two calls, of which one is taken.
use Rattle.std.proofs.Common.{rules}
use Rattle.blocking_world_law_tests.proofs.Orders.{legal_so}
use Rattle.blocking_world_law_tests.proofs.tasks.polls_without_answer.Goals as goal

pub returns-clause-accepts_wait_of_other_task : goal.returns-clause-accepts_wait_of_other_task
returns-clause-accepts_wait_of_other_task c = legal_so (search rules)
