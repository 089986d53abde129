-- Calls of two clients are served in the order of each.
use Rattle.std.proofs.Common.{rules}
use Rattle.blocking_world_law_tests.proofs.Orders.{legal_so}
use Rattle.blocking_world_law_tests.proofs.legality.calls.Goals as goal

pub returns-clause-accepts_calls_of_clients : goal.returns-clause-accepts_calls_of_clients
returns-clause-accepts_calls_of_clients c = legal_so (search rules)
