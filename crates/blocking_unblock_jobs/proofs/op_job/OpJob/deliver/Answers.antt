use Rattle.std.proofs.Common.{◌≡◌, ap, sym, subst, refl}
use Rattle.blocking_core.specs.Machines.{Machine}
use Rattle.blocking_core.specs.Ops.{op_next, op_after}
use Rattle.blocking_core.specs.declared.job.op.OpAction.{OpAction}
use Rattle.blocking_core.specs.declared.job.op.OpAction.TheVariants.{Deliver}
use Rattle.blocking_core.specs.declared.job.op.OpAnswer.TheVariants as by
use Rattle.blocking_unblock_jobs.specs.Works.{IsKept}
use Rattle.blocking_unblock_jobs.specs.OpJobs.{Fits, HasPut}
use Rattle.blocking_unblock_jobs.proofs.Delivered.{delivered}
use Rattle.blocking_unblock_jobs.proofs.op_job.OpJob.deliver.Goals as goal

pub invariant_of-self : goal.invariant_of-self
invariant_of-self g c =
    let P : OpAction → Type 0 = λ next. Fits g.F.CallOn.may_give next c.self.inside.operation
    c.self.inside.handle c.self.inside.gave × HasPut next c.self.inside.put
    × IsKept c.self.inside.handle c.self.inside.given in
    let Q : Machine OpAction → Type 0 = λ core. P core.next in
    let R : Machine OpAction → Type 0 = λ core. op_next core ≡ Deliver in
    let core : Machine OpAction = c.self.inside.core in
    let is : R core = subst R (sym (ap (λ seen. seen.core) c.self.view_is)) c.requires in
    subst Q (sym c.answer.ensures) (delivered Deliver P (λ held. held.0) core.is_waking core.next
    (op_after core by.Delivered).next is (λ waking. rw waking refl) c.self.invariant)
