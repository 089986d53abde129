-- What a job works with, until it is given back, and what it keeps to show that it did what it
-- owed.
use Rattle.std.specs.Prelude.{Option, Some, None, IsSome}

-- both are there, and so related
abbrev pub Both : {W : Type 0} → Option W → Option W → (W → W → Type 0) → Type 0
Both (Some was) (Some is) R = R was is
Both was is R = ⊥

-- a handle is with its job, or was given back
abbrev pub IsKept : {W G : Type 0} → Option W → Option G → Type 0
IsKept (Some work) given = Unit {0}
IsKept None given = IsSome given
