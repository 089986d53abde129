use Rattle.std.proofs.Common.{◌≡◌, ap, arith}
use Rattle.blocking_world_pool.proofs.Words.{one_if_free}
use Rattle.blocking_world_pool.proofs.closing.Hands.{last_jobless, last_free, rest_idle}
use Rattle.blocking_world_pool.proofs.workers.dismiss_all.Goals as goal

pub loop-hand-preserved-in-Out : goal.loop-hand-preserved-in-Out
loop-hand-preserved-in-Out g c =
    let free : one_if_free c.in-Some.hand ≡ 0 = ap one_if_free c.in-Out.is in
    rest_idle c.loop-hand.tickets c.loop-hand.hands.items c.pop.new.self.items c.in-Some.hand
    c.in-Some.ensures.items c.loop-hand.invariant
    c.loop-hand.tickets c.loop-hand.invariant.valued (λ rest level. omega (arith, level, free))

pub dismiss-requires-clause-free : goal.dismiss-requires-clause-free
dismiss-requires-clause-free g c =
    let free : one_if_free c.in-Some.hand ≡ 1 = ap one_if_free c.in-Free.is in
    let idle = last_free c.loop-hand.tickets c.loop-hand.hands.items c.pop.new.self.items
    c.in-Some.hand c.in-Some.ensures.items c.loop-hand.invariant in
    omega (arith, free, idle)

pub loop-hand-preserved : goal.loop-hand-preserved
loop-hand-preserved g c =
    let free : one_if_free c.in-Some.hand ≡ 1 = ap one_if_free c.in-Free.is in
    rest_idle c.loop-hand.tickets c.loop-hand.hands.items c.pop.new.self.items c.in-Some.hand
    c.in-Some.ensures.items c.loop-hand.invariant
    c.dismiss.new.self c.dismiss.ensures.valued
    (λ rest level. c.dismiss.ensures.left rest (omega (arith, level, free)))

pub unreachable-requires : goal.unreachable-requires
unreachable-requires g c =
    last_jobless c.loop-hand.tickets c.loop-hand.hands.items c.pop.new.self.items c.in-Some.hand
    c.in-Some.ensures.items c.loop-hand.invariant c.in-Holds._held c.in-Holds.is
