use Rattle.std.proofs.Common.{◌≡◌, ◌<◌, ◌||◌, true, false, sym, subst, ap, ◌∙◌, arith}
use Rattle.std.proofs.lemmas.Bool.{or_left, or_right, or_from}
use Rattle.blocking_pool.specs.Growth.{after_growth}
use Rattle.blocking_pool.specs.Starters.{asked}
use Rattle.blocking_pool.proofs.PoolLemmas.{running_under, taken_whole, takes_front}
use Rattle.blocking_pool.proofs.pool.Pool.take.Goals.{then-cancelled-via-then-cancelled}
use Rattle.blocking_pool.proofs.pool.Pool.take.Goals.{then-cancelled-via-else-cancelled+then-marked}
use Rattle.blocking_pool.proofs.pool.Pool.take.Goals as goal

pub take_first-requires : goal.take_first-requires
take_first-requires g c client =
    omega (
      arith,
      running_under c.self.inside.table c.self.inside.counts c.self.inside.next_serial
          c.self.inside.due.room client c.self.invariant
          (subst (λ pool. pool.counts.arriving < pool.counts.idle) (sym c.self.view_is) c.requires),
      c.workers-workers.ensures.value,
    )

pub invariant_of-self-then-cancelled : goal.invariant_of-self-then-cancelled
invariant_of-self-then-cancelled g c =
    taken_whole c.self.inside.table c.take_first.new.self c.in-Some.front c.self.inside.counts
    c.grow.new.self c.grow.ensures.growth.0 c.self.inside.next_serial c.self.inside.due.room
    c.self.invariant c.in-Some.ensures
    (subst (λ pool. pool.counts.arriving < pool.counts.idle) (sym c.self.view_is) c.requires)
    (c.grow.ensures.growth.1.counts
    ∙ ap (λ counts. after_growth counts c.grow.ensures.growth.0) c.begin_job.ensures)

-- the job was cancelled, or bears a mark
dropped : (g : _) (c : goal.After-new g)
    → (c.in-Some.front.cancelled || c.abandoned-marked.result) ≡ true
dropped g c =
    elim c.then-cancelled.branch [
      | then-cancelled-via-then-cancelled w ↦ or_left _ _ w.if-cancelled.true
      | then-cancelled-via-else-cancelled+then-marked w ↦ or_right _ _ w.if-marked.true
    ]

pub returns-then-cancelled-clause-answer : goal.returns-then-cancelled-clause-answer
returns-then-cancelled-clause-answer g c =
    takes_front g.J.Job.may_answer (asked g.S.Starter c.args.starter.now c.grow.new.starter)
    c.self.inside.table c.take_first.new.self c.in-Some.front c.self.inside.counts
    c.begin_job.new.self c.grow.new.self c.grow.ensures.growth.0
    c.self.inside.next_serial c.self.inside.due.room c.ready_len-left.result c.new.result true
    c.args.self.now
    c.self.invariant c.in-Some.ensures c.new.ensures c.begin_job.ensures c.ready_len-left.ensures
    c.grow.ensures.growth.1 (
      c.abandoned-marked.result,
      c.abandoned-marked.ensures,
      sym (dropped g c),
    ) c.self.view_is

pub invariant_of-self-2 : goal.invariant_of-self-2
invariant_of-self-2 g c =
    taken_whole c.self.inside.table c.take_first.new.self c.in-Some.front c.self.inside.counts
    c.grow.new.self c.grow.ensures.growth.0 c.self.inside.next_serial c.self.inside.due.room
    c.self.invariant c.in-Some.ensures
    (subst (λ pool. pool.counts.arriving < pool.counts.idle) (sym c.self.view_is) c.requires)
    (c.grow.ensures.growth.1.counts
    ∙ ap (λ counts. after_growth counts c.grow.ensures.growth.0) c.begin_job.ensures)

pub returns-clause-answer : goal.returns-clause-answer
returns-clause-answer g c =
    takes_front g.J.Job.may_answer (asked g.S.Starter c.args.starter.now c.grow.new.starter)
    c.self.inside.table c.take_first.new.self c.in-Some.front c.self.inside.counts
    c.begin_job.new.self c.grow.new.self c.grow.ensures.growth.0
    c.self.inside.next_serial c.self.inside.due.room c.ready_len-left.result c.new-2.result false
    c.args.self.now
    c.self.invariant c.in-Some.ensures c.new-2.ensures c.begin_job.ensures c.ready_len-left.ensures
    c.grow.ensures.growth.1 (
      c.abandoned-marked.result,
      c.abandoned-marked.ensures,
      sym (or_from _ _ c.if-cancelled.false c.if-marked.false),
    ) c.self.view_is
