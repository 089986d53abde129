-- What contracts see of a store.
use Rattle.std.specs.Prelude.{◌≡◌, ℕ, ◌-◌, ◌<◌, ◌++◌, List, [], length, drop}

-- What stands in a store, first the item that goes first, and how many items it holds at most.
pub record Stored (X : Type 0) : Type 0 where
  pub items : List X
  pub capacity : ℕ

module _ {X : Type 0} where
  -- nothing inside
  abbrev pub empty_store : ℕ → Stored X
  empty_store capacity = record { items = []; capacity = capacity }

  -- how many more items it holds
  abbrev pub free : Stored X → ℕ
  free stored = stored.capacity - length stored.items

  -- with these items behind those inside
  abbrev pub with_more : List X → Stored X → Stored X
  with_more given stored = record stored { items = stored.items ++ given }

  -- without the first n items
  abbrev pub without_first : ℕ → Stored X → Stored X
  without_first n stored = record stored { items = drop n stored.items }

-- what stands ready is a copy of what is given, or nothing
abbrev pub IsReady : {X : Type 0} → List X → List X → Type 0
IsReady ready given = 0 < length ready → ready ≡ given
