-- What the heap of heads says in terms of heads.
use Rattle.std.proofs.Common.{◌≡◌, ℕ, zero, suc, ◌≤◌, false, List, [], ◌∷◌, map, arith, nat_cmp}
use Rattle.std.specs.List.{All}
use Rattle.std.specs.Ordering.{ordering_then, is_lt}
use Rattle.std.specs.BinaryHeap.{IsUpperBound}
use Rattle.std.specs.declared.cmp.Reverse.{Reverse}
use Rattle.std.specs.declared.cmp.Ordering.{Ordering}
use Rattle.blocking_pool.specs.Heads.{Head}

-- the order of the heap: who entered first is the greatest
abbrev pub by_entry : Reverse (ℕ × ℕ) → Reverse (ℕ × ℕ) → Ordering
by_entry x y = ordering_then (nat_cmp y.0.0 x.0.0) (nat_cmp y.0.1 x.0.1)

not_later : (x y : Reverse (ℕ × ℕ)) → is_lt (by_entry x y) ≡ false → x.0.0 ≤ y.0.0
not_later x y fails = grind arith

pub least_of : (x : Reverse (ℕ × ℕ)) (ys : List (Reverse (ℕ × ℕ))) → IsUpperBound by_entry x ys
    → All (λ (other : Head). x.0.0 ≤ other.0) (map (λ head. head.0) ys)
least_of x [] bound k d below = absurd (omega (arith, below))
least_of x (y ∷ ys) bound zero d below = not_later x y bound.0
least_of x (y ∷ ys) bound (suc k) d below = least_of x ys bound.1 k d (omega (arith, below))
