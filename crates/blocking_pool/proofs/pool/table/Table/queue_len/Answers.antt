use Rattle.std.proofs.Common.{ap, subst}
use Rattle.blocking_pool.specs.Jobs.{HaveValues}
use Rattle.blocking_pool.specs.Queue.{chain_of}
use Rattle.blocking_pool.proofs.TableLemmas.{valued}
use Rattle.blocking_pool.proofs.pool.table.Table.queue_len.Goals as goal

pub returns-clause-values : goal.returns-clause-values
returns-clause-values g c =
    subst HaveValues (ap (λ table. table.jobs) c.self.view_is)
    (valued c.self.inside.entries (chain_of c.self.inside.queue) c.self.invariant.table)
