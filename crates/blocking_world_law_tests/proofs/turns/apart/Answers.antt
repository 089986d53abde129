-- Two jobs run, taken in their order.
use Rattle.std.proofs.Common.{rules}
use Rattle.blocking_world_law_tests.proofs.Orders.{legal_so, pooled_so}
use Rattle.blocking_world_law_tests.proofs.turns.apart.Goals as goal

pub returns-clause-accepts_act_beside_parking : goal.returns-clause-accepts_act_beside_parking
returns-clause-accepts_act_beside_parking c = pooled_so (search rules)

pub returns-clause-accepts_act_beside_giving_up : goal.returns-clause-accepts_act_beside_giving_up
returns-clause-accepts_act_beside_giving_up c = legal_so (search rules)

pub returns-clause-accepts_act_beside_drop : goal.returns-clause-accepts_act_beside_drop
returns-clause-accepts_act_beside_drop c = legal_so (search rules)
