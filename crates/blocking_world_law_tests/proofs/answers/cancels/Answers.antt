-- A parked job goes back by a cancel, and is taken in its order.
use Rattle.std.proofs.Common.{rules}
use Rattle.blocking_world_law_tests.proofs.Orders.{pooled_so}
use Rattle.blocking_world_law_tests.proofs.answers.cancels.Goals as goal

pub returns-clause-accepts_parked : goal.returns-clause-accepts_parked
returns-clause-accepts_parked c = pooled_so (search rules)
