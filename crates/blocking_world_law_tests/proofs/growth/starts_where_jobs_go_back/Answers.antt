-- A job that goes back stands behind those that entered meanwhile.
use Rattle.std.proofs.Common.{rules}
use Rattle.blocking_world_law_tests.proofs.Orders.{pooled_so}
use Rattle.blocking_world_law_tests.proofs.growth.starts_where_jobs_go_back.Goals as goal

pub returns-clause-accepts_start_at_sweep : goal.returns-clause-accepts_start_at_sweep
returns-clause-accepts_start_at_sweep c = pooled_so (search rules)

pub returns-clause-accepts_start_at_cancel : goal.returns-clause-accepts_start_at_cancel
returns-clause-accepts_start_at_cancel c = pooled_so (search rules)

pub returns-clause-accepts_queuing_again_without_growth :
    goal.returns-clause-accepts_queuing_again_without_growth
returns-clause-accepts_queuing_again_without_growth c = pooled_so (search rules)
