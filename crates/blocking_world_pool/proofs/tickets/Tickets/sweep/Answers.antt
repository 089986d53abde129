use Rattle.std.proofs.Common.{◌≡◌, ◌∙◌, sym, arith}
use Rattle.blocking_world_pool.proofs.Words.{asked, to_sweep}
use Rattle.blocking_world_pool.proofs.growth.Sweeps.{swept_none, swept_some, left_by}
use Rattle.blocking_world_pool.proofs.tickets.Tickets.sweep.Goals as goal

pub returns-then-count-eq0 : goal.returns-then-count-eq0
returns-then-count-eq0 g c =
    let swept =
    swept_none (asked g.S.Starter c.args.starter.now c.sweep-count.new.starter)
    c.args.self.now c.sweep-count.new.self c.sweep-count.result c.requires
    (rw c.self.view_is at c.sweep-count.ensures.answer)
    c.before-before.ensures.sound c.if-count-eq0.true in
    record {
      count = sym c.if-count-eq0.true ∙ swept.count;
      after = swept.after;
      valued = swept.valued;
      due = swept.due;
    }

pub next_after-self-inside-requires : goal.next_after-self-inside-requires
next_after-self-inside-requires g c =
    let swept =
    swept_some (asked g.S.Starter c.args.starter.now c.sweep-count.new.starter)
    c.args.self.now c.sweep-count.new.self c.sweep-count.result c.requires
    (rw c.self.view_is at c.sweep-count.ensures.answer)
    c.growth_since-growth.result c.before-before.ensures.sound c.if-count-eq0.false (cc, cc) in
    let left =
    left_by (g.S.Starter.may_answer c.args.starter.now) c.args.self.now c.sweep-count.new.self
    (to_sweep c.args.self.now) c.growth_since-growth.result swept.after in
    let next : c.self.inside.next_start ≡ c.args.self.now.counts.next_worker = cc in
    omega (arith, left.numbers, next)

pub returns : goal.returns
returns g c =
    let swept =
    swept_some (asked g.S.Starter c.args.starter.now c.sweep-count.new.starter)
    c.args.self.now c.sweep-count.new.self c.sweep-count.result c.requires
    (rw c.self.view_is at c.sweep-count.ensures.answer)
    c.growth_since-growth.result c.before-before.ensures.sound c.if-count-eq0.false (cc, cc) in
    record { count = swept.count; after = swept.after; valued = swept.valued; due = swept.due }

pub invariant_of-self-2 : goal.invariant_of-self-2
invariant_of-self-2 g c =
    let left =
    left_by (g.S.Starter.may_answer c.args.starter.now) c.args.self.now c.sweep-count.new.self
    (to_sweep c.args.self.now) c.growth_since-growth.result (returns g c).after in
    (cc, cc, cc)
