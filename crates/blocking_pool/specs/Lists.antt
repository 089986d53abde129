-- Lists of numbers: what is in one, and what is left of it.
use Rattle.std.specs.Prelude.{◌≡◌, ℕ, ◌==◌, not, if◌then◌else◌, Bool, false, List, [], ◌∷◌, filter}
use Rattle.std.specs.Prelude.{Option, Some, None}
use Rattle.std.specs.List.{list_any}

-- whether the number is in the list
abbrev pub is_in : ℕ → List ℕ → Bool
is_in number numbers = list_any (λ other. number == other) numbers

-- no number stands twice
abbrev pub IsOnce : List ℕ → Type 0
IsOnce [] = Unit {0}
IsOnce (number ∷ numbers) = (is_in number numbers ≡ false) × IsOnce numbers

-- the list without this number
abbrev pub without : ℕ → List ℕ → List ℕ
without number numbers = filter (λ other. not (number == other)) numbers

-- the first number of the list
abbrev pub first_of : List ℕ → Option ℕ
first_of [] = None
first_of (number ∷ numbers) = Some number

-- what comes after this number in the list
abbrev pub rest_after : ℕ → List ℕ → List ℕ
rest_after number [] = []
rest_after number (first ∷ rest) = if number == first then rest else rest_after number rest
