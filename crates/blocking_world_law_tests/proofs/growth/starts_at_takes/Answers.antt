-- A take starts a worker, and jobs are taken in their order.
use Rattle.std.proofs.Common.{rules}
use Rattle.blocking_world_law_tests.proofs.Orders.{legal_so}
use Rattle.blocking_world_law_tests.proofs.growth.starts_at_takes.Goals as goal

pub returns-clause-accepts_start_at_take : goal.returns-clause-accepts_start_at_take
returns-clause-accepts_start_at_take c = legal_so (search rules)

pub returns-clause-accepts_start_at_drop : goal.returns-clause-accepts_start_at_drop
returns-clause-accepts_start_at_drop c = legal_so (search rules)
