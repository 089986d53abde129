-- A job runs twice.
use Rattle.std.proofs.Common.{rules}
use Rattle.blocking_world_law_tests.proofs.Orders.{pooled_so}
use Rattle.blocking_world_law_tests.proofs.turns.turns.Goals as goal

pub returns-clause-accepts_next_run : goal.returns-clause-accepts_next_run
returns-clause-accepts_next_run c = pooled_so (search rules)
