use Rattle.std.proofs.Common.{◌≡◌, ap, sym, subst, refl}
use Rattle.std.specs.declared.io.Error.{Error}
use Rattle.blocking_core.specs.Writes.{WriteMachine, write_next, write_after}
use Rattle.blocking_core.specs.declared.job.write.WriteAction.{WriteAction}
use Rattle.blocking_core.specs.declared.job.write.WriteAction.TheVariants.{Deliver}
use Rattle.blocking_core.specs.declared.job.write.WriteAnswer.TheVariants as by
use Rattle.blocking_unblock_jobs.specs.Works.{IsKept}
use Rattle.blocking_unblock_jobs.specs.WriteJobs.{Fits, HasClosed, HasFlushed}
use Rattle.blocking_unblock_jobs.proofs.Delivered.{delivered}
use Rattle.blocking_unblock_jobs.proofs.write_job.WriteJob.deliver.Goals as goal

pub invariant_of-self : goal.invariant_of-self
invariant_of-self g c =
    let P : WriteAction
    → Type 0 = λ next. Fits next c.self.inside.work × HasFlushed next c.self.inside.flushed
    × HasClosed next c.self.inside.closed × IsKept c.self.inside.work c.self.inside.given in
    let Q : WriteMachine Error → Type 0 = λ core. P core.next in
    let R : WriteMachine Error → Type 0 = λ core. write_next core ≡ Deliver in
    let core : WriteMachine Error = c.self.inside.core in
    let is : R core = subst R (sym (ap (λ seen. seen.core) c.self.view_is)) c.requires in
    subst Q (sym c.answer.ensures) (delivered Deliver P (λ held. held.0) core.is_waking core.next
    (write_after core by.Delivered).next is (λ waking. rw waking refl) c.self.invariant)
