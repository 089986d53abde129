use Rattle.std.proofs.Common.{sym, subst, ap, ◌∙◌, refl, arith}
use Rattle.blocking_pool.specs.Counts.{after_ring}
use Rattle.blocking_pool.specs.PoolAnswers.{Adds}
use Rattle.blocking_pool.specs.Starters.{asked}
use Rattle.blocking_pool.specs.Tables.{pool_over}
use Rattle.blocking_pool.specs.declared.pool.bell.BellKind.TheVariants.{One}
use Rattle.blocking_pool.proofs.PoolLemmas.{reserved_whole, ready_within, jobs_under, entered_whole}
use Rattle.blocking_pool.proofs.PoolLemmas.{finds_nobody, enters_so}
use Rattle.blocking_pool.proofs.pool.Pool.add_for.Goals as goal

pub ready_with-requires : goal.ready_with-requires
ready_with-requires g c =
    let whole = reserved_whole c.self.inside.table c.reserve.new.self c.self.inside.counts
    c.self.inside.next_serial c.self.inside.due.room c.reserve.new.due.room c.self.invariant
    c.reserve.ensures.same c.reserve.ensures.batch in
    omega (
      arith,
      ready_within c.reserve.new.self c.self.inside.counts c.self.inside.next_serial
          c.reserve.new.due.room whole,
      c.if-self.false,
    )

pub returns-then-workers-eq0-clause-answer : goal.returns-then-workers-eq0-clause-answer
returns-then-workers-eq0-clause-answer g c =
    subst (λ answer. Adds (asked g.S.Starter c.args.starter.now c.grow.new.starter) c.args.self.now
    c.args.client c.args.job answer (pool_over c.reserve.new.self c.grow.new.self
    c.self.inside.next_serial)) (sym c.refuse-then-workers-eq0.ensures) (
      refl,
      finds_nobody (asked g.S.Starter c.args.starter.now c.grow.new.starter) c.self.inside.table
          c.reserve.new.self c.self.inside.counts c.grow.new.self c.grow.ensures.growth.0
          c.self.inside.next_serial c.self.inside.due.room c.reserve.new.due.room c.args.client
          c.ready_with.result c.args.self.now
          c.self.invariant c.reserve.ensures.same c.reserve.ensures.batch
          (omega (arith, c.if-self.false)) c.ready_with.ensures c.grow.ensures.growth.1
          (sym c.workers.ensures.value ∙ c.if-workers-eq0.true) c.self.view_is,
    )

pub insert-requires-clause-left : goal.insert-requires-clause-left
insert-requires-clause-left g c =
    let whole = reserved_whole c.self.inside.table c.reserve.new.self c.self.inside.counts
    c.self.inside.next_serial c.self.inside.due.room c.reserve.new.due.room c.self.invariant
    c.reserve.ensures.same c.reserve.ensures.batch in
    omega (
      arith,
      jobs_under c.reserve.new.self c.self.inside.counts c.self.inside.next_serial
          c.reserve.new.due.room c.args.client whole,
      c.if-self.false,
    )

pub invariant_of-self-2 : goal.invariant_of-self-2
invariant_of-self-2 g c =
    entered_whole c.self.inside.table c.reserve.new.self c.insert.new.self c.insert.result.place
    c.args.client c.args.job c.self.inside.counts c.ring_one.new.self c.grow.ensures.growth.0
    c.self.inside.next_serial c.self.inside.due.room c.reserve.new.due.room c.self.invariant
    c.reserve.ensures.same c.reserve.ensures.batch c.insert.ensures.becomes
    (c.ring_one.ensures ∙ ap (after_ring One) c.grow.ensures.growth.1.counts)

pub returns-clause-answer : goal.returns-clause-answer
returns-clause-answer g c =
    enters_so (asked g.S.Starter c.args.starter.now c.grow.new.starter) c.self.inside.table
    c.reserve.new.self c.insert.new.self c.insert.result c.args.job c.self.inside.counts
    c.grow.new.self c.ring_one.new.self c.grow.ensures.growth.0
    c.self.inside.next_serial c.self.inside.due.room c.reserve.new.due.room c.args.client
    c.ready_with.result c.args.self.now
    c.self.invariant c.reserve.ensures.same c.reserve.ensures.batch (omega (arith, c.if-self.false))
    c.ready_with.ensures c.grow.ensures.growth.1
    (omega (arith, c.workers.ensures.value, c.if-workers-eq0.false)) c.ring_one.ensures
    c.insert.ensures.serial c.insert.ensures.becomes c.self.view_is
