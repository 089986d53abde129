-- The hands of workers: what stands in a row after a change of one hand, and sums over a row.
use Rattle.std.proofs.Common.{◌≡◌, ℕ, ◌+◌, ◌-◌, ◌<◌, ◌==◌, List, [], ◌∷◌, ◌++◌, Bool, true, false}
use Rattle.std.proofs.Common.{length, refl, sym, ap, ◌∙◌, subst, arith, if◌then◌else◌, Option, Some}
use Rattle.std.proofs.Common.{zero, suc, slice_get, slice_set}
use Rattle.std.proofs.lemmas.Bool.Decides.{nat_tests}
use Rattle.std.proofs.lemmas.Option.{slice_get_past, slice_get_within}
use Rattle.blocking_world_pool.proofs.Types.{Hand, Free, Holds, Out, JobInHand}
use Rattle.blocking_world_pool.proofs.Words.{hand_in, hand_at, with_hand, sum_of}
use Rattle.blocking_pool.proofs.Places.{got_same, got_other, got_pushed}

-- ---- the hand of a worker that is there

pub record IsAt (row : List Hand) (v : ℕ) (h : Hand) : Type 0 where
  pub positive : 0 < v
  pub within : v - 1 < length row
  pub got : slice_get row (v - 1) ≡ Some h

at_by : (b : Bool) (o : Option Hand) (h : Hand) → (if b then Out else hand_in o) ≡ h → (h ≡ Out → ⊥)
    → (b ≡ false) × (o ≡ Some h)
at_by b o h e in_use = grind arith

-- a hand that isn't out stands in the row
pub is_at : (row : List Hand) (v : ℕ) (h : Hand) → hand_at row v ≡ h → (h ≡ Out → ⊥) → IsAt row v h
is_at row v h e in_use = grind (arith, at_by, nat_tests, slice_get_within)

pub at_held : (row : List Hand) (v : ℕ) (held : JobInHand) → hand_at row v ≡ Holds held
    → IsAt row v (Holds held)
at_held row v held e = is_at row v (Holds held) e (λ z. cc)

pub at_free : (row : List Hand) (v : ℕ) (pass : _) → hand_at row v ≡ Free pass
    → IsAt row v (Free pass)
at_free row v pass e = is_at row v (Free pass) e (λ z. cc)

-- a worker's hand by its place
pub hand_of_place : (row : List Hand) (v : ℕ) → 0 < v
    → hand_at row v ≡ hand_in (slice_get row (v - 1))
hand_of_place row v positive = let e : (v == 0) ≡ false = grind (arith, nat_tests) in rw e refl

pub hand_from_place : (row : List Hand) (n : ℕ) (h : Hand) → slice_get row n ≡ Some h
    → hand_at row (n + 1) ≡ h
hand_from_place row n h e = grind arith

set_by : (row : List Hand) (v u : ℕ) (old h : Hand) → IsAt row v old → (b c : Bool) → (v == u) ≡ b
    → (u == 0) ≡ c → hand_at (with_hand row v h) u ≡ (if b then h else hand_at row u)
set_by row v u old h at b c e z = grind (arith, hand_of_place, got_same, nat_tests, got_other)

-- the hands after one has changed
pub hand_set : (row : List Hand) (v u : ℕ) (old h : Hand) → IsAt row v old
    → hand_at (with_hand row v h) u ≡ (if v == u then h else hand_at row u)
hand_set row v u old h at = set_by row v u old h at (v == u) (u == 0) refl refl

pushed_by : (row : List Hand) (u : ℕ) (h : Hand) (b c : Bool) → (length row + 1 == u) ≡ b
    → (u == 0) ≡ c → hand_at (row ++ h ∷ []) u ≡ (if b then h else hand_at row u)
pushed_by row u h true true e z = absurd (grind (arith, nat_tests))
pushed_by row u h false true e z = rw z refl
pushed_by row u h true false e z =
    let there : 0 < u = grind (arith, nat_tests) in
    hand_of_place (row ++ h ∷ []) u there
    ∙ ap hand_in (got_pushed row h (u - 1) true (grind (arith, nat_tests)))
pushed_by row u h false false e z =
    let there : 0 < u = grind (arith, nat_tests) in
    hand_of_place (row ++ h ∷ []) u there
    ∙ ap hand_in (got_pushed row h (u - 1) false (grind (arith, nat_tests)))
    ∙ sym (hand_of_place row u there)

-- the hands after one was added
pub hand_pushed : (row : List Hand) (u : ℕ) (h : Hand)
    → hand_at (row ++ h ∷ []) u ≡ (if length row + 1 == u then h else hand_at row u)
hand_pushed row u h = pushed_by row u h (length row + 1 == u) (u == 0) refl refl

-- the worker after the last has no hand
pub hand_next : (row : List Hand) → hand_at row (length row + 1) ≡ Out
hand_next row = grind (arith, hand_of_place, slice_get_past)

-- ---- sums over a row of hands

-- a sum after one hand has changed
pub sum_set : (one : Hand → ℕ) (row : List Hand) (i : ℕ) (old new : Hand) → slice_get row i
    ≡ Some old → sum_of one (slice_set row i new) + one old ≡ sum_of one row + one new
sum_set one [] i old new e = absurd (cc)
sum_set one (h ∷ row) zero old new e =
    let same : h ≡ old = cc in
    subst (λ g. sum_of one (new ∷ row) + one g ≡ sum_of one (h ∷ row) + one new) same (omega arith)
sum_set one (h ∷ row) (suc i) old new e = let below = sum_set one row i old new e in
    omega (arith, below)

-- a sum after one hand was added
pub sum_pushed : (one : Hand → ℕ) (row : List Hand) (new : Hand)
    → sum_of one (row ++ new ∷ []) ≡ sum_of one row + one new
sum_pushed one [] new = omega arith
sum_pushed one (h ∷ row) new = let below = sum_pushed one row new in omega (arith, below)
