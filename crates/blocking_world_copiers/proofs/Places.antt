-- Which of the copiers is the first, and what is found there.
use Rattle.std.proofs.Common.{◌≡◌, ℕ, zero, suc, ◌<◌, ◌≤◌, List, [], ◌∷◌, length, take, Bool, true}
use Rattle.std.proofs.Common.{false, refl, arith, Some, slice_get, slice_set, nat_lt, remove}
use Rattle.std.proofs.lemmas.Bool.Decides.{nat_tests}
use Rattle.std.specs.List.{position_or_len}
use Rattle.blocking_world_laws.specs.declared.event.Act.{Act}
use Rattle.blocking_world_copiers.specs.Copiers.{CopierState, belongs, has_number, heard, copier_at}
use Rattle.blocking_world_copiers.specs.Copiers.{is_lent, hear_first, without_number}

module _ {X : Type 0} (p : X → Bool) where
  -- it is at most their number
  pub at_most : (xs : List X) → position_or_len p xs ≤ length xs
  at_most [] = grind arith
  at_most (x ∷ xs) = grind (arith, at_most xs)

  -- the first one is here, where none is before
  pub first_here : (xs : List X) (i : ℕ) (x : X) → position_or_len p (take i xs) ≡ i
      → slice_get xs i ≡ Some x → p x ≡ true → position_or_len p xs ≡ i
  first_here [] i x none found is = absurd cc
  first_here (y ∷ xs) zero x none found is = grind arith
  first_here (y ∷ xs) (suc i) x none found is = grind (arith, first_here xs i x)

  -- or it isn't
  pub not_here : (xs : List X) (i : ℕ) (x : X) → position_or_len p (take i xs) ≡ i
      → slice_get xs i ≡ Some x → p x ≡ false → position_or_len p (take (suc i) xs) ≡ suc i
  not_here [] i x none found is = absurd cc
  not_here (y ∷ xs) zero x none found is = grind arith
  not_here (y ∷ xs) (suc i) x none found is = grind (arith, not_here xs i x)

-- ---- what is there

pub lent_is : (h : ℕ) (xs : List CopierState)
    → nat_lt (position_or_len (belongs h) xs) (length xs) ≡ is_lent h xs
lent_is h [] = refl
lent_is h (c ∷ xs) = by (belongs h c) refl (lent_is h xs)
  where
    by : (b : Bool)
        → belongs h c ≡ b → nat_lt (position_or_len (belongs h) xs) (length xs) ≡ is_lent h xs
        → nat_lt (position_or_len (belongs h) (c ∷ xs)) (length (c ∷ xs)) ≡ is_lent h (c ∷ xs)
    by b is more = grind (arith, nat_tests)

pub found_is : (k : ℕ) (xs : List CopierState)
    → slice_get xs (position_or_len (has_number k) xs) ≡ copier_at k xs
found_is k [] = refl
found_is k (c ∷ xs) = by (has_number k c) refl (found_is k xs)
  where
    by : (b : Bool)
        → has_number k c ≡ b → slice_get xs (position_or_len (has_number k) xs) ≡ copier_at k xs
        → slice_get (c ∷ xs) (position_or_len (has_number k) (c ∷ xs)) ≡ copier_at k (c ∷ xs)
    by b is more = grind arith

pub hear_is : (h : ℕ) (act : Act) (xs : List CopierState) (c : CopierState)
    → slice_get xs (position_or_len (belongs h) xs) ≡ Some c
    → slice_set xs (position_or_len (belongs h) xs) (heard c act) ≡ hear_first h act xs
hear_is h act [] c found = absurd cc
hear_is h act (x ∷ xs) c found = by (belongs h x) refl found (hear_is h act xs c)
  where
    by : (b : Bool) → belongs h x ≡ b
        → slice_get (x ∷ xs) (position_or_len (belongs h) (x ∷ xs)) ≡ Some c
        → (slice_get xs (position_or_len (belongs h) xs) ≡ Some c
        → slice_set xs (position_or_len (belongs h) xs) (heard c act) ≡ hear_first h act xs)
        → slice_set (x ∷ xs) (position_or_len (belongs h) (x ∷ xs)) (heard c act)
        ≡ hear_first h act (x ∷ xs)
    by b is found more = grind arith

pub hear_none : (h : ℕ) (act : Act) (xs : List CopierState)
    → position_or_len (belongs h) xs ≡ length xs → xs ≡ hear_first h act xs
hear_none h act [] none = refl
hear_none h act (x ∷ xs) none = by (belongs h x) refl none (hear_none h act xs)
  where
    by : (b : Bool) → belongs h x ≡ b → position_or_len (belongs h) (x ∷ xs) ≡ length (x ∷ xs)
        → (position_or_len (belongs h) xs ≡ length xs → xs ≡ hear_first h act xs)
        → (x ∷ xs) ≡ hear_first h act (x ∷ xs)
    by b is none more = grind arith

pub removed_is : (k : ℕ) (xs : List CopierState) → position_or_len (has_number k) xs < length xs
    → remove xs (position_or_len (has_number k) xs) ≡ without_number k xs
removed_is k [] within = absurd (omega (arith, within))
removed_is k (c ∷ xs) within = by (has_number k c) refl within (removed_is k xs)
  where
    by : (b : Bool) → has_number k c ≡ b → position_or_len (has_number k) (c ∷ xs) < length (c ∷ xs)
        → (position_or_len (has_number k) xs < length xs
        → remove xs (position_or_len (has_number k) xs) ≡ without_number k xs)
        → remove (c ∷ xs) (position_or_len (has_number k) (c ∷ xs)) ≡ without_number k (c ∷ xs)
    by b is within more = grind arith
