use Rattle.std.proofs.Common.{◌≡◌, arith}
use Rattle.blocking_world_pool.proofs.Words.{asked}
use Rattle.blocking_world_pool.proofs.growth.Calls.{takes_to, take_numbers, take_leaves}
use Rattle.blocking_world_pool.proofs.tickets.Tickets.take.Goals as goal

pub next_after-self-inside-requires : goal.next_after-self-inside-requires
next_after-self-inside-requires g c =
    let asking = asked g.S.Starter c.args.starter.now c.take.new.starter in
    let takes =
    takes_to asking c.args.self.now c.take.new.self c.growth_since-growth.result
    c.before-before.ensures.sound (cc, cc) c.take.result c.in_default.not-Idle
    (rw c.self.view_is at c.take.ensures.answer) in
    let next : c.self.inside.next_start ≡ c.args.self.now.counts.next_worker = cc in
    omega (
      arith,
      take_numbers asking.may_answer c.args.self.now c.take.new.self c.take.result
          c.growth_since-growth.result takes,
      next,
    )

pub returns : goal.returns
returns g c =
    takes_to (asked g.S.Starter c.args.starter.now c.take.new.starter) c.args.self.now
    c.take.new.self c.growth_since-growth.result c.before-before.ensures.sound (cc, cc)
    c.take.result
    c.in_default.not-Idle (rw c.self.view_is at c.take.ensures.answer)

pub invariant_of-self-2 : goal.invariant_of-self-2
invariant_of-self-2 g c =
    let left =
    take_leaves (g.S.Starter.may_answer c.args.starter.now) c.args.self.now c.take.new.self
    c.growth_since-growth.result c.take.result c.in_default.not-Idle (returns g c) in
    (cc, cc, cc)
