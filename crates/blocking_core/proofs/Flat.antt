-- Lemmas on the memory of a flat store.
use Rattle.std.proofs.Common.{◌≡◌, ℕ, ◌+◌, ◌-◌, ◌<◌, ◌≤◌, List, [], ◌++◌, length, get_or, take}
use Rattle.std.proofs.Common.{drop, min, slice_get, Some, refl, sym, ap, ◌∙◌, inl, inr, arith}
use Rattle.std.proofs.Common.{rules, length-take, length-append, length-drop, get_or-take}
use Rattle.std.proofs.Common.{get_or-drop}
use Rattle.std.proofs.lemmas.Bool.{cases_lt}
use Rattle.std.proofs.lemmas.List.{places, same_lists, take_all, drop_all, append-nil}
use Rattle.std.proofs.lemmas.List.{get_or_append_left, get_or-append_right}
use Rattle.std.proofs.lemmas.Option.{slice_get_read}
use Rattle.blocking_core.specs.Flat.{window, written}

-- a place, round the end where it is not before it
wrapped : (at end : ℕ) → (place : ℕ) × (at < end → place ≡ at) × (end ≤ at → place + end ≡ at)
wrapped at end = elim (cases_lt at end) [
  | inl before ↦ (at, λ _. refl, λ behind. absurd (omega arith))
  | inr behind ↦ (at - end, λ before. absurd (omega arith), λ _. omega arith)
]

module _ {X : Type 0} where
  -- a window of no items is empty
  pub window_none : (head n : ℕ) (items : List X) → n ≡ 0 → window head n items ≡ []
  unfolding window
  window_none head n items none = rw none refl

  -- what is written behind all the items follows them
  pub written_behind : (place : ℕ) (given items : List X) → place ≡ length items
      → written place given items ≡ items ++ given
  unfolding written
  written_behind place given items behind =
      rw (
        take_all place items (omega arith),
        drop_all (place + length given) items (omega arith),
        append-nil,
      ) refl

  -- a window has as many items as are asked for, where there are so many
  pub window_length : (head n : ℕ) (items : List X) → n ≤ length items
      → length (window head n items) ≡ n
  unfolding window
  window_length head n items within =
      omega (
        arith,
        length-take n (drop head items ++ take head items),
        length-append
            (drop head items) (take head items),
        length-drop head items,
        length-take head items,
      )

  -- item i of a window stands i places behind the head, round the end
  get_or-window : (head n i place : ℕ) (items : List X) (d : X) → n ≤ length items
      → head ≤ length items → i < n
      → (head + i < length items → place ≡ head + i)
      → (length items ≤ head + i → place + length items ≡ head + i)
      → get_or (window head n items) i d ≡ get_or items place d
  unfolding window
  get_or-window head n i place items d within start less straight round =
      let tail = length-drop head items in
      get_or-take n (drop head items ++ take head items) i d less
      ∙ elim (cases_lt (head + i) (length items)) [
        | inl before ↦ get_or_append_left (drop head items) (take head items) d i (omega arith)
            ∙ get_or-drop head items i d ∙ ap (λ k. get_or items k d) (sym (straight before))
        | inr behind ↦ get_or-append_right (drop head items) (take head items) (length items - head)
            i d tail (omega arith)
            ∙ get_or-take head items _ d (omega arith)
            ∙ ap (λ k. get_or items k d) (omega (arith, round behind))
      ]

-- a store's memory, of which so much is written, and its window
module _ {X : Type 0} (capacity filled head n : ℕ) (items : List X) (long : filled ≡ length items)
    (start_in : head < capacity) (within : n ≤ capacity)
    (most : filled ≤ capacity) (in_order : filled < capacity → head + n ≡ filled) where
  -- the window is what stands before the end, then what stands at the start
  pub window_parts : (first until : ℕ) → first ≡ min n (filled - head) → until ≡ head + first
      → take (until - head) (drop head items) ++ take (n - first) items ≡ window head n items
  unfolding window
  window_parts first until is ends =
      same_lists _ _ (search (rules, places)) (λ k d h. grind (arith, places))

  -- its item i is what stands i places behind the head, round the end
  pub window_item : (i place : ℕ) (item : X) → i < length (window head n items)
      → (head + i < capacity → place ≡ head + i)
      → (capacity ≤ head + i → place + capacity ≡ head + i)
      → item ≡ get_or items place item → slice_get (window head n items) i ≡ Some item
  window_item i place item inside straight round is =
      let enough : n ≤ length items = grind arith in
      let all = window_length head n items enough in
      slice_get_read (window head n items) n i item (sym all) (omega arith)
      (is ∙ sym (get_or-window head n i place items item enough (grind arith) (omega arith)
      (λ before. grind arith) (λ behind. grind arith)))

  -- without the first items it starts behind them, round the end
  pub window_after_drop : (count place : ℕ) → count ≤ length (window head n items)
      → (head + count < capacity → place ≡ head + count)
      → (capacity ≤ head + count → place + capacity ≡ head + count)
      → window place (n - count) items ≡ drop count (window head n items)
  window_after_drop count place some straight round =
      let enough : n ≤ length items = grind arith in
      let all = window_length head n items enough in
      let left = window_length place (n - count) items (omega arith) in
      same_lists _ _ (omega (arith, length-drop count (window head n items))) (λ i d less.
      let j = wrapped (head + (count + i)) (length items) in
      get_or-window place (n - count) i j.0 items d (omega arith) (grind arith) (omega arith)
      (λ before. grind arith) (λ behind. grind arith)
      ∙ sym (get_or-drop count (window head n items) i d ∙ get_or-window head n (count + i) j.0
      items d enough (grind arith) (omega arith) j.1 j.2))

  -- what is written behind it, round the end, makes it longer
  pub window_after_write : (place : ℕ) (given : List X) → n + length given ≤ capacity
      → (head + n < capacity → head + n + length given ≤ capacity)
      → (head + n < capacity → place ≡ head + n)
      → (capacity ≤ head + n → place + capacity ≡ head + n)
      → window head (n + length given) (written place given items) ≡ window head n items ++ given
  unfolding window written
  window_after_write place given fits together straight round =
      same_lists _ _ (search (rules, places)) (λ k d h. grind (arith, places))
