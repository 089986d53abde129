-- What a script's lines say together.
use Rattle.std.specs.Prelude.{◌≡◌, ℕ, ◌+◌, ◌<◌, ◌==◌, ◌&&◌, Bool, true, false, List, [], ◌∷◌, ◌++◌}
use Rattle.std.specs.Prelude.{length, take, map, slice_get, Option, Some, None, option_map, is_none}
use Rattle.std.specs.Prelude.{Result, Ok, Err, string_bytes}
use Rattle.std.specs.List.{after_first, filter_map, flat_map, slice_index_or, slice_split}
use Rattle.blk_commands.specs.Instructions.{is_space}
use Rattle.blk_commands.specs.Lines.{is_minus, saying_of}
use Rattle.blk_commands.specs.declared.instruction.Instruction.{Instruction}
use Rattle.blk_commands.specs.declared.line.Saying.{Saying}
use Rattle.blk_commands.specs.declared.line.Saying.TheVariants.{Nothing, Setting, Plan, Does}
use Rattle.blk_commands.specs.declared.script.Script.{Script}
use Rattle.blk_commands.specs.declared.script.ScriptFault.{ScriptFault}
use Rattle.blk_commands.specs.declared.script.ScriptFault.TheVariants.{NotAStep, Memory}

-- the lines of a text: what stands before, between and behind its line feeds
abbrev pub lines_of : List ℕ → List (List ℕ)
lines_of text = slice_split (λ byte. byte == 10) text

-- ---- what lines say together

-- the text of the setting that a line names, if it names one
abbrev pub setting_said : Option Saying → List ℕ → Option (List ℕ)
setting_said (Some Setting) line = Some (after_first is_space line)
setting_said _ line = None

-- the plan that a line gives, if it gives one
abbrev pub plan_said : Option Saying → List ℕ → List Bool
plan_said (Some Plan) line = map is_minus (after_first is_space line)
plan_said _ line = []

-- the instruction that a line gives, if it gives one
abbrev pub instruction_said : Option Saying → Option Instruction
instruction_said (Some (Does instruction)) = Some instruction
instruction_said _ = None

-- the first text of a setting, the plans, and all instructions
abbrev pub setting_in : List (List ℕ) → Option (List ℕ)
setting_in lines = slice_get (filter_map (λ line. setting_said (saying_of line) line) lines) 0

abbrev pub plan_in : List (List ℕ) → List Bool
plan_in lines = flat_map (λ line. plan_said (saying_of line) line) lines

abbrev pub instructions_in : List (List ℕ) → List Instruction
instructions_in lines = filter_map (λ line. instruction_said (saying_of line)) lines

-- ---- which lines may stand where

-- whether what a line says may be said: a setting and a plan before the first instruction alone,
-- and each once
abbrev pub may_say : Option Saying → Bool → Bool → Bool → Bool
may_say None at_head unset unplanned = false
may_say (Some Nothing) at_head unset unplanned = true
may_say (Some Setting) at_head unset unplanned = at_head && unset
may_say (Some Plan) at_head unset unplanned = at_head && unplanned
may_say (Some (Does _)) at_head unset unplanned = true

-- whether a line may stand behind these
abbrev pub may_follow : List (List ℕ) → List ℕ → Bool
may_follow before line =
    may_say (saying_of line) (length (instructions_in before) == 0) (is_none (setting_in before))
    (length (plan_in before) == 0)

-- each of the first n lines may stand behind those before it
abbrev pub AllMayStand : List (List ℕ) → ℕ → Type 0
AllMayStand lines n = (k : ℕ) → k < n → may_follow (take k lines) (slice_index_or lines k []) ≡ true

-- the line of this number, counted from 1, is the first that may not stand behind those before it
pub record IsFirstBadLine (lines : List (List ℕ)) (number : ℕ) : Type 0 where
  pub place : ℕ
  pub counted : number ≡ place + 1
  pub there : place < length lines
  pub others : AllMayStand lines place
  pub bad_line : may_follow (take place lines) (slice_index_or lines place []) ≡ false

-- the script says what the lines say
pub record IsScriptOf (said : List (List ℕ)) (script : Script) : Type 0 where
  pub setting : option_map string_bytes script.setting ≡ setting_in said
  pub plan : script.plan.items ≡ plan_in said
  pub instructions : script.instructions.items ≡ instructions_in said

-- ---- reading

-- what the reading of lines answers: the script, where each line may stand where it stands, or the
-- first line that may not
abbrev pub Reads : List (List ℕ) → Result Script ScriptFault → Type 0
Reads lines (Ok script) = AllMayStand lines (length lines) × IsScriptOf lines script
Reads lines (Err (NotAStep number)) = IsFirstBadLine lines number
Reads lines (Err Memory) = Unit {0}

-- what the reading of one more line answers
abbrev pub AddsLine : List (List ℕ) → List ℕ → ℕ → Script → Result (Unit {0}) ScriptFault → Type 0
AddsLine before line number script (Ok _) =
    (may_follow before line ≡ true) × IsScriptOf (before ++ line ∷ []) script
AddsLine before line number script (Err (NotAStep n)) =
    (may_follow before line ≡ false) × (n ≡ number)
AddsLine before line number script (Err Memory) = Unit {0}
