-- What a place rule says of a list of items.
use Rattle.std.specs.Prelude.{◌≡◌, ℕ, ◌+◌, List, slice_get, Some}

-- each item holds at its place, and the first one's place is n
abbrev pub HoldFrom : {X : Type 0} → (ℕ → X → Type 0) → ℕ → List X → Type 0
HoldFrom {X} holds n items = (i : ℕ) (x : X) → slice_get items i ≡ Some x → holds (n + i) x
