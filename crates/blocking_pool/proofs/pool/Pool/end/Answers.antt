use Rattle.std.proofs.Common.{sym, ap, ◌∙◌, subst}
use Rattle.blocking_pool.specs.Jobs.{is_running_as}
use Rattle.blocking_pool.specs.Tables.{MayLeave}
use Rattle.blocking_pool.proofs.PoolLemmas.{may_leave, left_whole}
use Rattle.blocking_pool.proofs.SoundLemmas.{running_busy}
use Rattle.blocking_pool.proofs.pool.Pool.end.Goals as goal

pub remove-requires : goal.remove-requires
remove-requires g c =
    subst (MayLeave c.self.inside.table) (sym c.spend.ensures)
    (may_leave c.self.inside.table c.self.inside.counts c.self.inside.next_serial
    c.self.inside.due.room c.args.turn (ap (is_running_as c.self.inside.table.jobs)
    (sym c.job.ensures) ∙ sym c.if-not-is_running.ensures) c.self.invariant)

pub end_job-requires : goal.end_job-requires
end_job-requires g c =
    running_busy _ c.args.turn c.self.invariant.sound (ap (is_running_as c.self.inside.table.jobs)
    (sym c.job.ensures) ∙ sym c.if-not-is_running.ensures)

pub invariant_of-self : goal.invariant_of-self
invariant_of-self g c =
    left_whole c.self.inside.table c.remove.new.self c.spend.result c.self.inside.counts
    c.end_job.new.self c.self.inside.next_serial c.self.inside.due.room
    (ap (is_running_as c.self.inside.table.jobs) (c.spend.ensures ∙ sym c.job.ensures)
    ∙ sym c.if-not-is_running.ensures)
    c.self.invariant c.remove.ensures c.end_job.ensures
