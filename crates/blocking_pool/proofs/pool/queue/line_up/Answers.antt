use Rattle.std.proofs.Common.{refl, arith}
use Rattle.blocking_pool.proofs.EnterLemmas.{end_within, line_small}
use Rattle.blocking_pool.proofs.KeptLemmas.{held_by}
use Rattle.blocking_pool.proofs.LineUpLemmas.{held_now, lining_begins, lining_in, lining_on}
use Rattle.blocking_pool.proofs.LineUpLemmas.{lining_shorter}
use Rattle.blocking_pool.proofs.pool.queue.line_up.Goals as goal

pub places-init : goal.places-init
places-init c =
    lining_begins _ _ _ _ c.first-next.ensures.once c.first-next.ensures.first c.requires.empty

pub offset_bounds-spots-place : goal.offset_bounds-spots-place
offset_bounds-spots-place c =
    let below = c.requires.within c.in-Some.place
    (lining_in _ _ _ _ _ _ _ _ c.in-Some.is c.places.invariant) in
    omega (arith, below)

pub bounds-spots-place : goal.bounds-spots-place
bounds-spots-place c =
    let below = c.requires.within c.in-Some.place
    (lining_in _ _ _ _ _ _ _ _ c.in-Some.is c.places.invariant) in
    let same = c.places.invariant.count in
    omega (arith, below, same)

pub append-line-requires-clause-last : goal.append-line-requires-clause-last
append-line-requires-clause-last c = end_within _ _ _ _ _ _ _ c.places.invariant.lined
    c.in-Some.place _ c.get-state.result c.get-state.ensures

pub append-line-requires-clause-few : goal.append-line-requires-clause-few
append-line-requires-clause-few c =
    let small = line_small _ _ _ _ _ _ _ c.places.invariant.lined c.in-Some.place _
    c.get-state.result c.get-state.ensures in
    let same = c.places.invariant.count in
    omega (arith, small, same, c.requires.short)

pub places-smaller : goal.places-smaller
places-smaller c = lining_shorter _ _ _ _ _ _ _ _ c.in-Some.is c.places.invariant
    c.after-next.result c.after-next.ensures

pub places-preserved : goal.places-preserved
places-preserved c =
    let there = lining_in _ _ _ _ _ _ _ _ c.in-Some.is c.places.invariant in
    let some = held_by _ _ _ (held_now _ _ _ _ _ c.requires.held c.places.invariant.owners
    c.places.invariant.same) c.in-Some.place there refl in
    lining_on _ _ _ _ _ _ _ _ c.in-Some.is c.places.invariant c.after-next.result
    c.after-next.ensures c.requires.within c.requires.short _ c.get-state.result _
    c.append-line.new.spots c.set.new.self.known refl
    c.get-state.ensures c.append-line.ensures.spots c.set.ensures c.append-line.ensures.line refl
    some
