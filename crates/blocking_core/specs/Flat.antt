-- What a flat store's memory holds.
use Rattle.std.specs.Prelude.{ℕ, ◌+◌, ◌++◌, List, length, take, drop}

module _ {X : Type 0} where
  -- the first n items from the head on, round the end
  unfoldable pub window : ℕ → ℕ → List X → List X
  window head n items = take n (drop head items ++ take head items)

  -- these items over those from a place on
  unfoldable pub written : ℕ → List X → List X → List X
  written place given items = take place items ++ (given ++ drop (place + length given) items)
