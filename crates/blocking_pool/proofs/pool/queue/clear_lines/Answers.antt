use Rattle.std.proofs.Common.{refl, arith}
use Rattle.blocking_pool.proofs.KeptLemmas.{held_by}
use Rattle.blocking_pool.proofs.LineUpLemmas.{held_still, clearing_begins, clearing_in, clearing_on}
use Rattle.blocking_pool.proofs.LineUpLemmas.{clearing_shorter}
use Rattle.blocking_pool.proofs.pool.queue.clear_lines.Goals as goal

pub places-init : goal.places-init
places-init c =
    clearing_begins _ _ _ _ c.first-next.ensures.once c.first-next.ensures.first c.requires.owned

pub offset_bounds-spots-place : goal.offset_bounds-spots-place
offset_bounds-spots-place c =
    let below = c.requires.within c.in-Some.place
    (clearing_in _ _ _ _ _ _ c.in-Some.is c.places.invariant) in
    omega (arith, below)

pub bounds-spots-place : goal.bounds-spots-place
bounds-spots-place c =
    c.requires.within c.in-Some.place (clearing_in _ _ _ _ _ _ c.in-Some.is c.places.invariant)

pub places-smaller : goal.places-smaller
places-smaller c = clearing_shorter _ _ _ _ _ _ c.in-Some.is c.places.invariant c.after-next.result
    c.after-next.ensures

pub places-preserved : goal.places-preserved
places-preserved c =
    let there = clearing_in _ _ _ _ _ _ c.in-Some.is c.places.invariant in
    let some = held_by _ _ _ (held_still _ _ _ _ c.requires.held c.places.invariant.same)
    c.in-Some.place there refl in
    clearing_on _ _ _ _ _ _ c.in-Some.is c.places.invariant c.after-next.result c.after-next.ensures
    _ c.get-state.result _ c.set.new.self.known refl c.get-state.ensures c.set.ensures refl refl
    some
