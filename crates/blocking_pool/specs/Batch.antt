-- Numbers of jobs that a sweep gathers. No public clause cites this file.
use Rattle.std.specs.Prelude.{◌≡◌, ℕ, ◌<◌, true, List, [], ◌∷◌, map}
use Rattle.blocking_pool.specs.Jobs.{JobNumber}
use Rattle.blocking_pool.specs.Lists.{is_in}

-- what contracts see of a batch: its numbers in order, and for how many of them there is room
pub record Batch : Type 0 where
  pub numbers : List JobNumber
  pub room : ℕ

-- the serials of these numbers
abbrev pub serials_of : List JobNumber → List ℕ
serials_of numbers = map (λ number. number.serial) numbers

-- each number is less than all that come after it
abbrev pub IsRising : List ℕ → Type 0
IsRising [] = Unit {0}
IsRising (number ∷ numbers) =
    ((other : ℕ) → is_in other numbers ≡ true → number < other) × IsRising numbers
