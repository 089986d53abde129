use Rattle.std.proofs.Common.{◌≡◌, arith}
use Rattle.blocking_world_pool.proofs.Words.{asked}
use Rattle.blocking_world_pool.proofs.growth.Calls.{accepts, finds_no_worker}
use Rattle.blocking_world_pool.proofs.growth.Reads.{numbers_last}
use Rattle.blocking_world_pool.proofs.tickets.Tickets.add.Goals as goal

pub next_after-self-inside-requires : goal.next_after-self-inside-requires
next_after-self-inside-requires g c =
    let accepted =
    accepts (asked g.S.Starter c.args.starter.now c.add_for.new.starter)
    c.args.self.now c.add_for.new.self c.args.client c.in-Ok.number c.growth_since-growth.result
    c.before-before.ensures.sound
    (rw (c.self.view_is, c.new.ensures) at c.in-Ok.ensures.answer) (cc, cc) in
    let next : c.self.inside.next_start ≡ c.args.self.now.counts.next_worker = cc in
    omega (arith, numbers_last _ _ _ _ _ _ _ accepted.starts, next)

pub returns-in-Ok : goal.returns-in-Ok
returns-in-Ok g c =
    accepts (asked g.S.Starter c.args.starter.now c.add_for.new.starter)
    c.args.self.now c.add_for.new.self c.args.client c.in-Ok.number c.growth_since-growth.result
    c.before-before.ensures.sound
    (rw (c.self.view_is, c.new.ensures) at c.in-Ok.ensures.answer) (cc, cc)

pub invariant_of-self : goal.invariant_of-self
invariant_of-self g c = rw (returns-in-Ok g c).after_is (cc, cc, cc)

pub returns-in-NoWorker : goal.returns-in-NoWorker
returns-in-NoWorker g c =
    finds_no_worker (asked g.S.Starter c.args.starter.now c.add_for.new.starter) c.args.self.now
    c.add_for.new.self c.args.client c.growth_since-growth-in-NoWorker.result
    c.before-before.ensures.sound c.growth_since-growth-in-NoWorker.ensures.order
    (rw (c.self.view_is, c.in-NoWorker.is) at c.in-Err.ensures.answer.1) (cc, cc)

pub invariant_of-self-in-NoWorker : goal.invariant_of-self-in-NoWorker
invariant_of-self-in-NoWorker g c = rw (returns-in-NoWorker g c).after_is (cc, cc, cc)
