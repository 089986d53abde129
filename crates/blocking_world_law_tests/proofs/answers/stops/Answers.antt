-- A worker stops over the limit, and jobs are taken in their order.
use Rattle.std.proofs.Common.{rules}
use Rattle.blocking_world_law_tests.proofs.Orders.{legal_so}
use Rattle.blocking_world_law_tests.proofs.answers.stops.Goals as goal

pub returns-clause-accepts_stop_over_limit : goal.returns-clause-accepts_stop_over_limit
returns-clause-accepts_stop_over_limit c = legal_so (search rules)
