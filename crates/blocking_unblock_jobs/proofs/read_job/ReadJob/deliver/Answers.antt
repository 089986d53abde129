use Rattle.std.proofs.Common.{◌≡◌, ap, sym, subst, refl}
use Rattle.blocking_core.specs.Machines.{Machine}
use Rattle.blocking_core.specs.Reads.{read_next, read_after}
use Rattle.blocking_core.specs.declared.job.read.ReadAction.{ReadAction}
use Rattle.blocking_core.specs.declared.job.read.ReadAction.TheVariants.{Deliver}
use Rattle.blocking_core.specs.declared.job.read.ReadAnswer.TheVariants as by
use Rattle.blocking_unblock_jobs.specs.Works.{IsKept}
use Rattle.blocking_unblock_jobs.specs.ReadJobs.{Fits, HasClosed}
use Rattle.blocking_unblock_jobs.proofs.Delivered.{delivered}
use Rattle.blocking_unblock_jobs.proofs.read_job.ReadJob.deliver.Goals as goal

pub invariant_of-self : goal.invariant_of-self
invariant_of-self g c =
    let P : ReadAction → Type 0 = λ next. Fits next c.self.inside.work
    × HasClosed next c.self.inside.closed × IsKept c.self.inside.work c.self.inside.given in
    let Q : Machine ReadAction → Type 0 = λ core. P core.next in
    let R : Machine ReadAction → Type 0 = λ core. read_next core ≡ Deliver in
    let core : Machine ReadAction = c.self.inside.core in
    let is : R core = subst R (sym (ap (λ seen. seen.core) c.self.view_is)) c.requires in
    subst Q (sym c.answer.ensures) (delivered Deliver P (λ held. held.0) core.is_waking core.next
    (read_after core by.Delivered).next is (λ waking. rw waking refl) c.self.invariant)
