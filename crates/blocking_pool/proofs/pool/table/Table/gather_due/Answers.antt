use Rattle.std.proofs.Common.{subst}
use Rattle.blocking_pool.specs.Tables.{Gathers}
use Rattle.blocking_pool.proofs.SweepLemmas.{gathers}
use Rattle.blocking_pool.proofs.pool.table.Table.gather_due.Goals as goal

pub returns-clause-gathered : goal.returns-clause-gathered
returns-clause-gathered g c =
    subst (λ t. Gathers g.J.Job.may_answer t.jobs c.gather.new.due.numbers) c.self.view_is
    (gathers g.J.Job.may_answer c.self.inside.entries c.self.inside.parked c.gather.new.due.numbers
    c.self.invariant.table.apart c.self.invariant.holds c.gather.ensures.gathered)
