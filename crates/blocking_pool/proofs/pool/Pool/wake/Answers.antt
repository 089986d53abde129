use Rattle.std.proofs.Common.{refl}
use Rattle.blocking_pool.specs.Jobs.{entry_after_wake}
use Rattle.blocking_pool.proofs.PoolLemmas.{marked_whole}
use Rattle.blocking_pool.proofs.pool.Pool.wake.Goals as goal

pub invariant_of-self : goal.invariant_of-self
invariant_of-self g c =
    marked_whole c.self.inside.table c.mark_woken.new.self c.self.inside.counts
    c.self.inside.next_serial c.self.inside.due.room c.spend-no.result.serial entry_after_wake
    (λ j. refl) (λ j. refl) c.self.invariant c.mark_woken.ensures
