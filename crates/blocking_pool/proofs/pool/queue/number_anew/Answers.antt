use Rattle.std.proofs.Common.{arith}
use Rattle.blocking_pool.proofs.NumberLemmas.{next_in, number_less, numbers_small, numbering_on}
use Rattle.blocking_pool.proofs.NumberLemmas.{numbering_shorter}
use Rattle.blocking_pool.proofs.pool.queue.number_anew.Goals as goal

pub offset_bounds-spots-place : goal.offset_bounds-spots-place
offset_bounds-spots-place c =
    let there = next_in _ _ _ _ _ _ c.in-Some.is c.places.invariant in
    let below = c.requires.within c.in-Some.place there in
    omega (arith, below)

pub bounds-spots-place : goal.bounds-spots-place
bounds-spots-place c =
    let there = next_in _ _ _ _ _ _ c.in-Some.is c.places.invariant in
    let below = c.requires.within c.in-Some.place there in
    let same = c.places.invariant.count in
    omega (arith, below, same)

pub overflow_add-number : goal.overflow_add-number
overflow_add-number c =
    let less = number_less _ _ _ _ _ _ c.in-Some.is c.places.invariant in
    let small = numbers_small c.args.places.now.places _ c.places.number c.places.invariant.once
    c.requires.within less in
    omega (arith, small, c.requires.short)

pub places-smaller : goal.places-smaller
places-smaller c = numbering_shorter _ _ _ _ _ _ c.in-Some.is c.places.invariant c.after-next.result
    c.after-next.ensures

pub places-preserved : goal.places-preserved
places-preserved c =
    let there = next_in _ _ _ _ _ _ c.in-Some.is c.places.invariant in
    let below = c.requires.within c.in-Some.place there in
    let same = c.places.invariant.count in
    numbering_on _ _ _ _ _ _ c.in-Some.is c.places.invariant c.after-next.result
    (omega (arith, below, same)) c.after-next.ensures
