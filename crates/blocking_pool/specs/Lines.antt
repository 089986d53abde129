-- Lines of places, one for each client, each place linked to the one after it.
use Rattle.std.specs.Prelude.{◌≡◌, ℕ, zero, suc, ◌<◌, true, List, [], ◌∷◌}
use Rattle.blocking_pool.specs.Lists.{is_in, IsOnce}
use Rattle.blocking_pool.specs.declared.pool.clients.Line.{Line}

-- what comes after the first
abbrev pub rest_of : List ℕ → List ℕ
rest_of [] = []
rest_of (place ∷ places) = places

-- the last of a list
abbrev pub last_of : ℕ → List ℕ → ℕ
last_of place [] = place
last_of place (next ∷ places) = last_of next places

-- so many places from this one on
abbrev pub walk_line : (ℕ → ℕ) → ℕ → ℕ → List ℕ
walk_line after zero place = []
walk_line after (suc count) place = place ∷ walk_line after count (after place)

-- the places of a line
abbrev pub places_of : (ℕ → ℕ) → Line → List ℕ
places_of after line = walk_line after line.len line.first

-- Each line ends with its last place, each place is below the bound, and no place stands twice, in
-- one line or in two.
pub record AreLined (after : ℕ → ℕ) (bound : ℕ) (lines : ℕ → Line) : Type 0 where
  pub last : (client : ℕ) → 0 < (lines client).len
      → (lines client).last ≡ last_of 0 (places_of after (lines client))
  pub within : (client place : ℕ) → is_in place (places_of after (lines client)) ≡ true
      → place < bound
  pub once : (client : ℕ) → IsOnce (places_of after (lines client))
  pub apart : (client other place : ℕ) → is_in place (places_of after (lines client)) ≡ true
      → is_in place (places_of after (lines other)) ≡ true → client ≡ other
