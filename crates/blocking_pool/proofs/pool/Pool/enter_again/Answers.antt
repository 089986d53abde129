use Rattle.std.proofs.Common.{refl, ap, ◌∙◌, ◌∷◌, []}
use Rattle.blocking_pool.specs.Jobs.{standing_of}
use Rattle.blocking_pool.specs.Counts.{after_ring}
use Rattle.blocking_pool.specs.Starters.{asked}
use Rattle.blocking_pool.specs.declared.pool.bell.BellKind.TheVariants.{One}
use Rattle.blocking_pool.proofs.PoolLemmas.{requeued_whole, parked_one, parked_may, enters_again}
use Rattle.blocking_pool.proofs.pool.Pool.enter_again.Goals as goal

pub enter_again-requires : goal.enter_again-requires
enter_again-requires g c = parked_may c.self.inside.table
    c.self.inside.counts c.self.inside.next_serial c.self.inside.due.room c.args.no
    (ap (λ pool. standing_of pool.jobs c.args.no) c.self.view_is ∙ c.requires) c.self.invariant

pub invariant_of-self : goal.invariant_of-self
invariant_of-self g c =
    requeued_whole c.self.inside.table c.enter_again.new.self c.self.inside.counts
    c.ring_one.new.self c.grow.ensures.growth.0 c.self.inside.next_serial c.self.inside.due.room
    (c.args.no.serial ∷ [])
    (refl, tt) (parked_one c.self.inside.table.jobs
    c.args.no (ap (λ pool. standing_of pool.jobs c.args.no) c.self.view_is ∙ c.requires))
    c.self.invariant c.enter_again.ensures
    (c.ring_one.ensures ∙ ap (after_ring One) c.grow.ensures.growth.1.counts)

pub returns-clause-again : goal.returns-clause-again
returns-clause-again g c =
    enters_again (asked g.S.Starter c.args.starter.now c.grow.new.starter) c.self.inside.table
    c.enter_again.new.self c.self.inside.counts c.grow.new.self c.ring_one.new.self
    c.grow.ensures.growth.0 c.self.inside.next_serial c.self.inside.due.room
    c.ready_len.result (c.args.no.serial ∷ [])
    c.args.self.now (refl, tt) (parked_one c.self.inside.table.jobs c.args.no
    (ap (λ pool. standing_of pool.jobs c.args.no) c.self.view_is ∙ c.requires))
    c.self.invariant c.enter_again.ensures c.ready_len.ensures c.grow.ensures.growth.1
    c.ring_one.ensures c.self.view_is
