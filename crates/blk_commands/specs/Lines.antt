-- What one line of a script says.
use Rattle.std.specs.Prelude.{ℕ, ◌==◌, ◌&&◌, ◌||◌, not, nat_lt, Bool, List, length, codes, bytes_eq}
use Rattle.std.specs.Prelude.{slice_index, Option, Some, None, option_map, if◌then◌else◌}
use Rattle.std.specs.List.{after_first, before_first, list_all, position_or_len}
use Rattle.blk_commands.specs.Instructions.{instruction_of, is_space, words_of}
use Rattle.blk_commands.specs.declared.line.Saying.{Saying}
use Rattle.blk_commands.specs.declared.line.Saying.TheVariants.{Nothing, Setting, Plan, Does}

-- whether a line is empty or a comment
abbrev pub is_silent : List ℕ → Bool
is_silent line = length line == 0 || slice_index line 0 == 35

-- the sign of a start that is refused, and the signs of all starts
abbrev pub is_minus : ℕ → Bool
is_minus byte = byte == 45

abbrev pub is_sign : ℕ → Bool
is_sign byte = byte == 43 || is_minus byte

-- whether a text is a plan: signs alone, and at least one
abbrev pub is_plan : List ℕ → Bool
is_plan text = not (length text == 0) && list_all is_sign text

-- whether a space ends the first word of a line, and that word is this one
abbrev pub begins_with_word : List ℕ → List ℕ → Bool
begins_with_word word line = nat_lt (position_or_len is_space line) (length line)
    && bytes_eq (before_first is_space line) word

-- what a line says by itself; None where it is no line of a script
abbrev pub saying_of : List ℕ → Option Saying
saying_of line =
    if is_silent line then Some Nothing
    else (if begins_with_word (codes "setting") line then Some Setting
    else (if begins_with_word (codes "starts") line
    then (if is_plan (after_first is_space line) then Some Plan else None)
    else option_map Does (instruction_of (words_of line))))
