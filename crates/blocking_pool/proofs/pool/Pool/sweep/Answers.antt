use Rattle.std.proofs.Common.{refl, ap, ◌∙◌}
use Rattle.blocking_pool.specs.Counts.{after_ring}
use Rattle.blocking_pool.specs.Starters.{asked}
use Rattle.blocking_pool.specs.declared.pool.bell.BellKind.TheVariants.{One}
use Rattle.blocking_pool.proofs.PoolLemmas.{counted, swept_none, swept_still, swept_some}
use Rattle.blocking_pool.proofs.PoolLemmas.{swept_whole}
use Rattle.blocking_pool.proofs.pool.Pool.sweep.Goals as goal

pub sweep-requires-clause-room : goal.sweep-requires-clause-room
sweep-requires-clause-room g c = c.self.invariant.room

pub sweep-requires-clause-counted : goal.sweep-requires-clause-counted
sweep-requires-clause-counted g c = counted c.self.inside.table c.self.inside.counts
    c.self.inside.next_serial c.self.inside.due.room c.self.invariant

pub invariant_of-self : goal.invariant_of-self
invariant_of-self g c =
    swept_still g.J.Job.may_answer c.self.inside.table c.sweep.new.self
    c.self.inside.counts c.self.inside.next_serial c.self.inside.due.room c.sweep.new.due.room
    c.queue_len-before.result c.queue_len-after.result
    c.self.invariant c.sweep.ensures.swept c.sweep.ensures.kept c.queue_len-before.ensures.value
    c.queue_len-after.ensures.value c.if-count-eq0.true

pub returns-then-count-eq0-clause-answer : goal.returns-then-count-eq0-clause-answer
returns-then-count-eq0-clause-answer g c =
    swept_none g.J.Job.may_answer (asked g.S.Starter c.args.starter.now c.args.starter.now)
    c.self.inside.table c.sweep.new.self c.self.inside.counts c.self.inside.next_serial
    c.self.inside.due.room
    c.queue_len-before.result c.queue_len-after.result c.args.self.now refl c.self.invariant
    c.sweep.ensures.swept c.queue_len-before.ensures.value c.queue_len-after.ensures.value
    c.if-count-eq0.true c.self.view_is

pub invariant_of-self-2 : goal.invariant_of-self-2
invariant_of-self-2 g c =
    swept_whole g.J.Job.may_answer c.self.inside.table c.sweep.new.self c.self.inside.counts
    c.ring_one.new.self c.grow.ensures.growth.0 c.self.inside.next_serial c.self.inside.due.room
    c.sweep.new.due.room c.self.invariant c.sweep.ensures.swept c.sweep.ensures.kept
    (c.ring_one.ensures ∙ ap (after_ring One) c.grow.ensures.growth.1.counts)

pub returns-clause-answer : goal.returns-clause-answer
returns-clause-answer g c =
    swept_some g.J.Job.may_answer (asked g.S.Starter c.args.starter.now c.grow.new.starter)
    c.self.inside.table c.sweep.new.self
    c.self.inside.counts c.grow.new.self c.ring_one.new.self c.grow.ensures.growth.0
    c.self.inside.next_serial c.self.inside.due.room
    c.queue_len-before.result c.queue_len-after.result c.ready_len-ready.result
    c.args.self.now c.self.invariant c.sweep.ensures.swept c.queue_len-before.ensures.value
    c.queue_len-after.ensures.value c.if-count-eq0.false c.ready_len-ready.ensures
    c.grow.ensures.growth.1 c.ring_one.ensures c.self.view_is
