use Rattle.std.proofs.Common.{◌≡◌, ap, sym, subst, refl}
use Rattle.blocking_core.specs.Machines.{Machine}
use Rattle.blocking_core.specs.Items.{item_next, item_after}
use Rattle.blocking_core.specs.declared.job.item.ItemAction.{ItemAction}
use Rattle.blocking_core.specs.declared.job.item.ItemAction.TheVariants.{Deliver}
use Rattle.blocking_core.specs.declared.job.item.ItemAnswer.TheVariants as by
use Rattle.blocking_unblock_jobs.specs.Works.{IsKept}
use Rattle.blocking_unblock_jobs.specs.ItemJobs.{Fits, HasClosed}
use Rattle.blocking_unblock_jobs.proofs.Delivered.{delivered}
use Rattle.blocking_unblock_jobs.proofs.item_job.ItemJob.deliver.Goals as goal

pub invariant_of-self : goal.invariant_of-self
invariant_of-self g c =
    let P : ItemAction → Type 0 = λ next. ((state : _) → g.T.Iterator.can_next state)
    × Fits next c.self.inside.hand c.self.inside.iterator
    × HasClosed next c.self.inside.end.closed
    × IsKept c.self.inside.iterator c.self.inside.given in
    let Q : Machine ItemAction → Type 0 = λ core. P core.next in
    let R : Machine ItemAction → Type 0 = λ core. item_next core ≡ Deliver in
    let core : Machine ItemAction = c.self.inside.core in
    let is : R core = subst R (sym (ap (λ seen. seen.core) c.self.view_is)) c.requires in
    subst Q (sym c.answer.ensures) (delivered Deliver P (λ held. held.1) core.is_waking core.next
    (item_after core by.Delivered).next is (λ waking. rw waking refl) c.self.invariant)
