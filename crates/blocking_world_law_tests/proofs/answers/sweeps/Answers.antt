-- A sweep puts jobs back, and they are taken in their order.
use Rattle.std.proofs.Common.{rules}
use Rattle.blocking_world_law_tests.proofs.Orders.{pooled_so}
use Rattle.blocking_world_law_tests.proofs.answers.sweeps.Goals as goal

pub returns-clause-accepts_marked : goal.returns-clause-accepts_marked
returns-clause-accepts_marked c = pooled_so (search rules)

pub returns-clause-accepts_marked_beside_unmarked :
    goal.returns-clause-accepts_marked_beside_unmarked
returns-clause-accepts_marked_beside_unmarked c = pooled_so (search rules)

pub returns-clause-accepts_order_of_acceptance : goal.returns-clause-accepts_order_of_acceptance
returns-clause-accepts_order_of_acceptance c = pooled_so (search rules)

pub returns-clause-accepts_sweep_of_late_wait : goal.returns-clause-accepts_sweep_of_late_wait
returns-clause-accepts_sweep_of_late_wait c = pooled_so (search rules)
