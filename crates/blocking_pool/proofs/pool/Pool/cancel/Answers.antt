use Rattle.std.proofs.Common.{refl, sym, ap, ◌∙◌, Some}
use Rattle.blocking_pool.specs.Jobs.{standing_of, entry_after_cancel}
use Rattle.blocking_pool.specs.declared.pool.standing.Standing.TheVariants.{Parked}
use Rattle.blocking_pool.proofs.PoolLemmas.{marked_whole, cancelled_stands}
use Rattle.blocking_pool.proofs.pool.Pool.cancel.Goals as goal

pub invariant_of-self : goal.invariant_of-self
invariant_of-self g c =
    marked_whole c.self.inside.table c.mark_cancelled.new.self c.self.inside.counts
    c.self.inside.next_serial c.self.inside.due.room c.args.no.serial entry_after_cancel
    (λ j. refl) (λ j. refl) c.self.invariant c.mark_cancelled.ensures

pub enter_again-requires : goal.enter_again-requires
enter_again-requires g c =
    ap (λ jobs. standing_of jobs c.args.no) c.mark_cancelled.ensures.jobs_are
    ∙ cancelled_stands c.self.inside.table.jobs c.args.no Parked
    (sym c.standing.ensures ∙ c.in-Some-Parked.is ∙ ap Some c.in-Some-Parked.field-0-is)

pub invariant_of-self-in-Queued-1 : goal.invariant_of-self-in-Queued-1
invariant_of-self-in-Queued-1 g c =
    marked_whole c.self.inside.table c.mark_cancelled-in-Some-Queued.new.self c.self.inside.counts
    c.self.inside.next_serial c.self.inside.due.room c.args.no.serial entry_after_cancel
    (λ j. refl) (λ j. refl) c.self.invariant c.mark_cancelled-in-Some-Queued.ensures
