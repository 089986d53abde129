use Rattle.std.proofs.Common.{◌≡◌, ℕ, ◌+◌, ◌-◌, ◌<◌, ◌≤◌, ◌∙◌, ◌++◌, List, inl, inr, length, min}
use Rattle.std.proofs.Common.{take, drop, ap, sym, arith, take-add, drop_at, append_assoc}
use Rattle.std.proofs.lemmas.List.{take-append-le}
use Rattle.circular_buffer.proofs.Places.{below_or_not}
use Rattle.blocking_core.proofs.pipe.ring.append_slices.Goals as goal

-- the first f of one list, which are all of them where some of the next one follow, and these
fronts_join : {X : Type 0} (front back : List X) (f b : ℕ) → f ≤ length front
    → (0 < b → f ≡ length front)
    → take f front ++ take b back ≡ take (f + b) (front ++ back)
fronts_join front back f b within whole =
    let later : take b (drop f (front ++ back)) ≡ take b back = elim (below_or_not 0 b) [
      | inl some ↦ ap (take b) (drop_at front back f (sym (whole some)))
      | inr none ↦ let nothing : b ≡ 0 = omega arith in
          ap (λ k. take k (drop f (front ++ back))) nothing ∙ ap (λ k. take k back) (sym nothing)
    ] in
    sym (take-add f b (front ++ back) ∙ (λ i. take-append-le f front back within i ++ later i))

-- as many of both as are asked for, behind what is there
fronts_appended : {X : Type 0} (held front back : List X) (f count : ℕ)
    → f ≡ min (length front) count
    → (held ++ take f front) ++ take (count - f) back ≡ held ++ take count (front ++ back)
fronts_appended held front back f count is =
    let all : f + (count - f) ≡ count = omega (arith, is) in
    append_assoc held (take f front) (take (count - f) back)
    ∙ ap (λ items. held ++ items) (fronts_join front back f (count - f) (omega (arith, is))
    (λ some. omega (arith, is)) ∙ ap (λ n. take n (front ++ back)) all)

pub returns-clause-items : goal.returns-clause-items
returns-clause-items g c =
    rw (c.in-Ok-extend_from_slice.ensures.items, c.in-Ok.ensures.items)
    (fronts_appended c.args.piece.now.items c.args.front.now c.args.back.now c.min-from_front.result
    c.args.count c.min-from_front.ensures)
