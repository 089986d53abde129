-- What a store of whole pieces is made of.
use Rattle.std.specs.Prelude.{◌≡◌, ℕ, ◌+◌, ◌-◌, ◌*◌, ◌^◌, ◌<◌, ◌≤◌, List, ◌++◌, length, take, All}
use Rattle.std.specs.Prelude.{flat_map}

-- Pieces in a row, with so many items in all of them: all but the last have `piece` of them, and
-- the last has one at least and no more.
pub record IsRow {V X : Type 0} (items_of : V → List X) (pieces : List V) (piece total : ℕ) :
    Type 0 where
  pub some : 0 < piece
  pub all : total ≡ length (flat_map items_of pieces)
  pub full : All (λ v. length (items_of v) ≡ piece) (take (length pieces - 1) pieces)
  pub low : length pieces * piece < total + piece
  pub high : total ≤ length pieces * piece

-- What stands in such a row: of the first piece so many items are gone, none where nothing is
-- inside.
pub record IsCount (gone len piece capacity : ℕ) : Type 0 where
  pub before : gone < piece
  pub none : len ≡ 0 → gone ≡ 0
  pub within : len ≤ capacity
  pub some : 0 < capacity
  pub counted : capacity + piece < 2 ^ 64

-- Memory for pieces, inside and spent, but for so many that are out: each has room for so many
-- items, and there is a place for all of them on either side.
pub record IsMemory {V : Type 0} (room_of : V → ℕ) (pieces spent : List V)
    (out piece places spent_places : ℕ) : Type 0 where
  pub inside : All (λ v. piece ≤ room_of v) pieces
  pub spare : All (λ v. piece ≤ room_of v) spent
  pub fit : length pieces + length spent + out ≤ places
  pub spare_fit : length pieces + length spent + out ≤ spent_places

-- A piece `last` was taken from behind a row of `total` items: those before it are all full, and it
-- has what is left.
pub record IsLast {V X : Type 0} (items_of : V → List X) (pieces before : List V) (last : V)
    (piece total : ℕ) : Type 0 where
  pub full : All (λ v. length (items_of v) ≡ piece) before
  pub all : length before * piece + length (items_of last) ≡ total
  pub less : length (items_of last) < piece
  pub items : flat_map items_of before ++ items_of last ≡ flat_map items_of pieces
