-- A take starts a worker for a ready job, and each client is served in its order.
use Rattle.std.proofs.Common.{rules}
use Rattle.blocking_world_law_tests.proofs.Orders.{legal_so}
use Rattle.blocking_world_law_tests.proofs.growth.starts_for_ready_jobs.Goals as goal

pub returns-clause-accepts_start_for_ready : goal.returns-clause-accepts_start_for_ready
returns-clause-accepts_start_for_ready c = legal_so (search rules)
