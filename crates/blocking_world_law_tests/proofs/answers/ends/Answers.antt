-- A woken job goes back, and is taken in its order.
use Rattle.std.proofs.Common.{rules}
use Rattle.blocking_world_law_tests.proofs.Orders.{pooled_so}
use Rattle.blocking_world_law_tests.proofs.answers.ends.Goals as goal

pub returns-clause-accepts_queued : goal.returns-clause-accepts_queued
returns-clause-accepts_queued c = pooled_so (search rules)
