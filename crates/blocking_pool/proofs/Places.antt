-- Lists: what stands in a place after one was set or one more was put at the end.
use Rattle.std.proofs.Common.{◌≡◌, ◌⊎◌, inl, inr, ⊎_elim, ℕ, zero, suc, ◌<◌, ◌==◌, List, [], ◌∷◌}
use Rattle.std.proofs.Common.{◌++◌, length, Bool, true, false, refl, ap, arith, if◌then◌else◌, Some}
use Rattle.std.specs.Prelude.{slice_get, slice_set}
use Rattle.std.proofs.lemmas.Bool.{eqb-true, eqb-false}
use Rattle.std.proofs.lemmas.Bool.Decides.{nat_tests}

-- what was set is there
pub got_same : {X : Type 0} (xs : List X) (i : ℕ) (y : X) → i < length xs
    → slice_get (slice_set xs i y) i ≡ Some y
got_same [] i y within = absurd (omega arith)
got_same (x ∷ xs) zero y within = refl
got_same (x ∷ xs) (suc i) y within = got_same xs i y (omega arith)

-- the other places stay
pub got_other : {X : Type 0} (xs : List X) (i j : ℕ) (y : X) → (i ≡ j → ⊥)
    → slice_get (slice_set xs i y) j ≡ slice_get xs j
got_other [] i j y other = refl
got_other (x ∷ xs) zero zero y other = absurd (other refl)
got_other (x ∷ xs) zero (suc j) y other = refl
got_other (x ∷ xs) (suc i) zero y other = refl
got_other (x ∷ xs) (suc i) (suc j) y other = got_other xs i j y (λ same. other (ap suc same))

-- what stands in a list with one more at its end
pub got_pushed : {X : Type 0} (xs : List X) (y : X) (i : ℕ) (b : Bool) → (length xs == i) ≡ b
    → slice_get (xs ++ y ∷ []) i ≡ (if b then Some y else slice_get xs i)
got_pushed [] y zero true at = refl
got_pushed [] y zero false at = absurd (eqb-false 0 0 at refl)
got_pushed [] y (suc i) true at = let same = eqb-true 0 (suc i) at in absurd (omega (arith, same))
got_pushed [] y (suc i) false at = refl
got_pushed (x ∷ xs) y zero true at = let same = eqb-true (suc (length xs)) 0 at in
    absurd (omega (arith, same))
got_pushed (x ∷ xs) y zero false at = refl
got_pushed (x ∷ xs) y (suc i) true at = got_pushed xs y i true (grind (arith, nat_tests))
got_pushed (x ∷ xs) y (suc i) false at = got_pushed xs y i false (grind (arith, nat_tests))

-- what stood there still does
pub got_before : {X : Type 0} (xs : List X) (y : X) (i : ℕ) → i < length xs
    → slice_get (xs ++ y ∷ []) i ≡ slice_get xs i
got_before xs y i within = got_pushed xs y i false (grind (arith, nat_tests))

-- an element of such a list stood there before, or is the new one
pub in_pushed : {X : Type 0} → (xs : List X) (y : X) (i : ℕ) (x : X)
    → slice_get (xs ++ y ∷ []) i ≡ Some x → (slice_get xs i ≡ Some x) ⊎ ((i ≡ length xs) × (y ≡ x))
in_pushed [] y zero x is = inr (refl, cc)
in_pushed [] y (suc i) x is = absurd cc
in_pushed (z ∷ xs) y zero x is = inl is
in_pushed (z ∷ xs) y (suc i) x is =
    ⊎_elim (λ old. inl old) (λ at. inr (ap suc at.0, at.1)) (in_pushed xs y i x is)

-- what stands in a place, set there again, changes nothing
pub set_same : {X : Type 0} (xs : List X) (i : ℕ) (x : X) → slice_get xs i ≡ Some x
    → slice_set xs i x ≡ xs
set_same [] i x is = refl
set_same (y ∷ xs) zero x is = let same : x ≡ y = cc in ap (λ z. z ∷ xs) same
set_same (y ∷ xs) (suc i) x is = ap (λ more. y ∷ more) (set_same xs i x is)
