-- Two workers take two jobs in their order.
use Rattle.std.proofs.Common.{rules}
use Rattle.blocking_world_law_tests.proofs.Orders.{legal_so}
use Rattle.blocking_world_law_tests.proofs.turns.hands.Goals as goal

pub returns-clause-accepts_one_each : goal.returns-clause-accepts_one_each
returns-clause-accepts_one_each c = legal_so (search rules)
