-- Which position a word says.
use Rattle.std.specs.Prelude.{ℕ, List, drop, Option, None, option_map, if◌then◌else◌}
use Rattle.blocking_core.specs.declared.io.Position.{Position}
use Rattle.blocking_core.specs.declared.io.Position.TheVariants.{Start, Current, End}
use Rattle.blk_commands.specs.Numbers.{begins_with, number_of, signed_number_of}

-- the position that a word says: a letter for where it counts from (s for the start, c for where
-- the handle is now, e for the end), and behind it how many bytes, with a sign but from the start
abbrev pub position_of : List ℕ → Option Position
position_of word =
    if begins_with 115 word then option_map Start (number_of 64 (drop 1 word))
    else (if begins_with 99 word then option_map Current (signed_number_of (drop 1 word))
    else (if begins_with 101 word then option_map End (signed_number_of (drop 1 word))
    else None))
