-- A job that was taken once goes back, beside a start or a refused one.
use Rattle.std.proofs.Common.{rules}
use Rattle.blocking_world_law_tests.proofs.Orders.{pooled_so}
use Rattle.blocking_world_law_tests.proofs.growth.service.Goals as goal

pub returns-clause-accepts_refused_start_in_pool : goal.returns-clause-accepts_refused_start_in_pool
returns-clause-accepts_refused_start_in_pool c = pooled_so (search rules)

pub returns-clause-accepts_start : goal.returns-clause-accepts_start
returns-clause-accepts_start c = pooled_so (search rules)
