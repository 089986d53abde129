use Rattle.std.proofs.Common.{sym, subst}
use Rattle.blocking_pool.specs.Tables.{Gathers}
use Rattle.blocking_pool.proofs.SweepLemmas.{gathers_moved, may_all, sweeps_all}
use Rattle.blocking_pool.proofs.pool.table.Table.sweep.Goals as goal

-- what was gathered, in the order of the serials
sorted : (g : _) (c : goal.After-numbers g)
    → Gathers g.J.Job.may_answer c.args.self.now.jobs c.numbers.result.now
sorted g c =
    subst (Gathers g.J.Job.may_answer c.args.self.now.jobs) (sym c.numbers.ensures)
    (gathers_moved g.J.Job.may_answer c.args.self.now.jobs c.gather_due.new.due.numbers
    c.sort.new.self.numbers c.sort.ensures.same c.gather_due.ensures.gathered)

pub enter_all-requires-clause-once : goal.enter_all-requires-clause-once
enter_all-requires-clause-once g c = (sorted g c).once

pub enter_all-requires-clause-parked : goal.enter_all-requires-clause-parked
enter_all-requires-clause-parked g c =
    may_all g.J.Job.may_answer c.args.self.now c.numbers.result.now c.requires.counted (sorted g c)

pub returns-clause-swept : goal.returns-clause-swept
returns-clause-swept g c =
    sweeps_all g.J.Job.may_answer c.args.self.now c.enter_all.new.self c.gather_due.new.due.numbers
    c.sort.new.self.numbers c.numbers.result.now
    c.gather_due.ensures.gathered c.sort.ensures.same c.sort.ensures.sorted c.numbers.ensures
    c.enter_all.ensures
