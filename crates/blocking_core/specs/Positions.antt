-- Positions of a handle.
use Rattle.std.specs.Prelude.{◌==◌, ℤ, pos, negsuc, Bool, false}
use Rattle.blocking_core.specs.declared.io.Position.{Position}
use Rattle.blocking_core.specs.declared.io.Position.TheVariants.{Start, Current, End}

-- whether two integers are the same
abbrev pub same_offset : ℤ → ℤ → Bool
same_offset (pos a) (pos b) = a == b
same_offset (negsuc a) (negsuc b) = a == b
same_offset a b = false

-- whether two positions say the same: the same offset, from the same place
abbrev pub same_position : Position → Position → Bool
same_position (Start a) (Start b) = a == b
same_position (Current a) (Current b) = same_offset a b
same_position (End a) (End b) = same_offset a b
same_position a b = false
