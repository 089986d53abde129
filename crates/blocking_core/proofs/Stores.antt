-- What a store's calls come to, item by item.
use Rattle.std.proofs.Common.{◌≡◌, ℕ, ◌+◌, ◌-◌, ◌<◌, List, [], ◌∷◌, ◌++◌, length, take, drop, set}
use Rattle.std.proofs.Common.{slice_get, get_or, Some, ap, ◌∙◌, sym, arith, append_assoc}
use Rattle.std.proofs.Common.{length-take-le}
use Rattle.std.proofs.lemmas.List.{take_more, drop_more, drop-drop, set-append_right}
use Rattle.std.proofs.lemmas.Option.{slice_get_within, get_or_from_slice_get}
use Rattle.blocking_core.specs.Stores.{Stored, with_more, without_first}

module _ {X : Type 0} where
  -- one item more of the front
  pub one_more : (items : List X) (n : ℕ) (x : X) → slice_get items n ≡ Some x
      → take (n + 1) items ≡ take n items ++ x ∷ []
  one_more items n x at =
      take_more items n x (slice_get_within items n x at)
      ∙ ap (λ y. take n items ++ y ∷ []) (get_or_from_slice_get items n x x at)

  -- and behind others
  pub one_more_behind : (before items : List X) (n : ℕ) (x : X) → slice_get items n ≡ Some x
      → (before ++ take n items) ++ x ∷ [] ≡ before ++ take (n + 1) items
  one_more_behind before items n x at =
      append_assoc before (take n items) (x ∷ [])
      ∙ ap (λ more. before ++ more) (sym (one_more items n x at))

  -- and in its place before what stood there
  pub one_more_copied : (items out : List X) (n : ℕ) (x : X) → slice_get items n ≡ Some x
      → n < length out
      → set (take n items ++ drop n out) n x ≡ take (n + 1) items ++ drop (n + 1) out
  one_more_copied items out n x at within =
      let long = length-take-le n items (omega (arith, slice_get_within items n x at)) in
      let first : n - n ≡ 0 = omega arith in
      set-append_right (take n items) (drop n out) n n x long (omega arith)
      ∙ ap (λ rest. take n items ++ rest) ((λ i. set (drop_more out n x within i) (first i) x))
      ∙ sym (append_assoc (take n items) (x ∷ []) (drop (n + 1) out))
      ∙ ap (λ front. front ++ drop (n + 1) out) (sym (one_more items n x at))

  -- one item more went in
  pub one_more_in : (stored : Stored X) (items : List X) (n : ℕ) (x : X)
      → slice_get items n ≡ Some x
      → with_more (x ∷ []) (with_more (take n items) stored) ≡ with_more (take (n + 1) items) stored
  one_more_in stored items n x at =
      ap (λ inside. record stored { items = inside })
      (one_more_behind stored.items items n x at)

  -- one item more is gone
  pub one_more_gone : (stored : Stored X) (n : ℕ)
      → without_first 1 (without_first n stored) ≡ without_first (n + 1) stored
  one_more_gone stored n =
      ap (λ inside. record stored { items = inside }) (drop-drop 1 n stored.items)
