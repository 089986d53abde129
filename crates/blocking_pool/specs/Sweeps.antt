-- Sweeps: which of the parked jobs bear a mark.
use Rattle.std.specs.Prelude.{◌≡◌, ℕ, zero, suc, ◌&&◌, Bool, List, [], ◌∷◌, ◌++◌, filter, Some}
use Rattle.std.specs.FinMap.{get}
use Rattle.blocking_pool.specs.Jobs.{Job, Jobs, is_parked_job}
use Rattle.blocking_pool.specs.declared.pool.standing.Standing.TheVariants.{Parked}

-- the serials below this one, from the first on: so jobs were accepted
abbrev pub serials_below : ℕ → List ℕ
serials_below zero = []
serials_below (suc serial) = serials_below serial ++ serial ∷ []

module _ {J : Type 0} where
  -- Each parked job was asked for its mark, and may answer so.
  abbrev pub AreAsked : (J → Bool → Type 0) → Jobs J → (ℕ → Bool) → Type 0
  AreAsked may_answer jobs marked =
      (serial : ℕ) (job : Job J) (value : J) → get jobs serial ≡ Some job → job.standing ≡ Parked
      → job.value ≡ Some value → may_answer value (marked serial)

  -- whether a job is parked, and bears a mark
  abbrev pub is_due : Jobs J → (ℕ → Bool) → ℕ → Bool
  is_due jobs marked serial = is_parked_job (get jobs serial) && marked serial

  -- those of these jobs that a sweep puts back
  abbrev pub swept : Jobs J → (ℕ → Bool) → List ℕ → List ℕ
  swept jobs marked serials = filter (is_due jobs marked) serials
