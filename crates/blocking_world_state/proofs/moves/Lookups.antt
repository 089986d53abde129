-- What is found among the rows and the tasks.
use Rattle.std.proofs.Common.{◌≡◌, ◌⊎◌, ⊎_elim, ℕ, ◌+◌, ◌-◌, ◌<◌, ◌==◌, ◌++◌, List, [], ◌∷◌, length}
use Rattle.std.proofs.Common.{Bool, true, false, refl, sym, ap, ◌∙◌, arith, Option, Some, None}
use Rattle.std.proofs.Common.{if◌then◌else◌, zero, suc, slice_get, slice_set}
use Rattle.std.proofs.lemmas.Bool.Decides.{nat_tests}
use Rattle.std.proofs.lemmas.Option.{slice_get_within}
use Rattle.blocking_world_state.proofs.Types.{Row}
use Rattle.blocking_world_state.proofs.Words.{row_of}
use Rattle.blocking_pool.proofs.Places.{got_same, got_other, got_pushed}

-- what stands in a list at a place within it
pub there : {X : Type 0} (xs : List X) (k : ℕ) → k < length xs → (x : X) × (slice_get xs k ≡ Some x)
there [] k within = absurd (omega (arith, within))
there (x ∷ xs) zero within = (x, refl)
there (x ∷ xs) (suc k) within = there xs k (omega (arith, within))

-- what is found twice is one
pub one_found : {X : Type 0} (o : Option X) (one other : X) → o ≡ Some one → o ≡ Some other
    → one ≡ other
one_found o one other a b = cc

-- what stands in a list after a place in it was set stood there before, or is what was set
pub in_set : {X : Type 0} (xs : List X) (k : ℕ) (old new : X)
    → slice_get xs k ≡ Some old → (j : ℕ) (x : X) → slice_get (slice_set xs k new) j ≡ Some x
    → (slice_get xs j ≡ Some x) ⊎ ((k ≡ j) × (new ≡ x))
in_set xs k old new found j x is =
    grind (arith, got_same, slice_get_within, one_found, got_other, nat_tests)

-- so it has the same of something as what stood there before, if what was set has
pub kept_in : {X Y : Type 0} (of : X → Y) (xs : List X) (k : ℕ) (old new : X)
    → slice_get xs k ≡ Some old → of old ≡ of new
    → (j : ℕ) (x : X) → slice_get (slice_set xs k new) j ≡ Some x
    → (was : X) × (slice_get xs j ≡ Some was) × (of was ≡ of x)
kept_in of xs k old new found same j x is =
    ⊎_elim (λ before. (x, before, refl)) (λ here. (
      old,
      ap (slice_get xs) (sym here.0) ∙ found,
      same ∙ ap of here.1,
    )) (in_set xs k old new found j x is)

-- ---- rows

-- a row that is found is that of its place
found_by : (b : Bool) (s : ℕ) (rows : List Row) (row : Row) → (s == 0) ≡ b
    → (if b then None else slice_get rows (s - 1)) ≡ Some row
    → (0 < s) × (slice_get rows (s - 1) ≡ Some row)
found_by b s rows row is found = grind arith

pub row_found : (rows : List Row) (s : ℕ) (row : Row) → row_of rows s ≡ Some row
    → (0 < s) × (slice_get rows (s - 1) ≡ Some row)
row_found rows s row found = found_by (s == 0) s rows row refl found

-- and a row at a place is found
pub row_at : (rows : List Row) (s : ℕ) (row : Row) → 0 < s → slice_get rows (s - 1) ≡ Some row
    → row_of rows s ≡ Some row
row_at rows s row positive found = grind arith

-- ---- after one of them was changed

-- the row of a job after it was changed
set_by : (c : Bool) (b : Bool) (rows : List Row) (t s : ℕ) (new : Row) → (s == 0) ≡ c → (t == s) ≡ b
    → 0 < t → t - 1 < length rows
    → (if c then None else slice_get (slice_set rows (t - 1) new) (s - 1))
    ≡ (if b then Some new else (if c then None else slice_get rows (s - 1)))
set_by c b rows t s new zeroed is positive within = grind (arith, nat_tests, got_same, got_other)

pub row_set : (rows : List Row) (t s : ℕ) (old new : Row) → row_of rows t ≡ Some old
    → row_of (slice_set rows (t - 1) new) s ≡ (if t == s then Some new else row_of rows s)
row_set rows t s old new found = grind (arith, row_found, set_by, slice_get_within)

-- the row of a job after one more was put at the end
push_by : (c : Bool) (b : Bool) (rows : List Row) (s : ℕ) (new : Row) → (s == 0) ≡ c
    → (length rows + 1 == s) ≡ b
    → (if c then None else slice_get (rows ++ new ∷ []) (s - 1))
    ≡ (if b then Some new else (if c then None else slice_get rows (s - 1)))
push_by c b rows s new zeroed is = grind (arith, nat_tests, got_pushed)

pub row_pushed : (rows : List Row) (s : ℕ) (new : Row)
    → row_of (rows ++ new ∷ []) s ≡ (if length rows + 1 == s then Some new else row_of rows s)
row_pushed rows s new = push_by (s == 0) (length rows + 1 == s) rows s new refl refl

-- what passes a test that nothing passes where nothing is found is within the list
pub within_by : {X : Type 0} (test : Option X → Bool) → test None ≡ false → (xs : List X) (k : ℕ)
    → test (slice_get xs k) ≡ true → k < length xs
within_by {X} test none xs k is = by (slice_get xs k) refl is
  where
    by : (o : Option X) → slice_get xs k ≡ o → test o ≡ true → k < length xs
    by o found is = grind (arith, slice_get_within)
