-- A client at its limit is passed by, and each client is served in its order.
use Rattle.std.proofs.Common.{rules}
use Rattle.blocking_world_law_tests.proofs.Orders.{legal_so}
use Rattle.blocking_world_law_tests.proofs.answers.clients.Goals as goal

pub returns-clause-accepts_passing_by : goal.returns-clause-accepts_passing_by
returns-clause-accepts_passing_by c = legal_so (search rules)

pub returns-clause-accepts_idle_beside_queued : goal.returns-clause-accepts_idle_beside_queued
returns-clause-accepts_idle_beside_queued c = legal_so (search rules)

pub returns-clause-accepts_raised : goal.returns-clause-accepts_raised
returns-clause-accepts_raised c = legal_so (search rules)

pub returns-clause-accepts_unlimited : goal.returns-clause-accepts_unlimited
returns-clause-accepts_unlimited c = legal_so (search rules)

pub returns-clause-accepts_room_again : goal.returns-clause-accepts_room_again
returns-clause-accepts_room_again c = legal_so (search rules)
