-- What a command line does.
use Rattle.std.specs.Prelude.{◌≡◌, ℕ, ◌+◌, ◌⊎◌, List, [], Option, Some, None, Result, Ok, Err}
use Rattle.std.specs.Prelude.{String, codes, decimal, length, string_bytes, take}
use Rattle.std.specs.Global.{Global}
use Rattle.std.specs.Io.KnownBytes.{Appends, Consumes, IsAtEnd}
use Rattle.std.specs.Str.{IsUtf8}
use Rattle.blk_commands.specs.Faults.{command_fault_text, fault_status}
use Rattle.blk_commands.specs.Plays.{ShowsScript, line_of}
use Rattle.blk_commands.specs.Scripts.{AllMayStand, IsFirstBadLine, instructions_in, lines_of}
use Rattle.blk_commands.specs.Scripts.{plan_in, setting_in}
use Rattle.blk_commands.specs.declared.fault.BlkFault.TheVariants.{Writing}
use Rattle.blk_commands.specs.declared.fault.CommandFault.{CommandFault}
use Rattle.blk_commands.specs.declared.fault.CommandFault.TheVariants.{Failed, NotText, NotAStep}
use Rattle.blk_commands.specs.declared.request.Request.{Request}
use Rattle.blk_commands.specs.declared.request.Request.TheVariants.{Call, Limit, Steps}

-- what is said of a wrong command line
abbrev pub usage : List ℕ
usage = codes "usage: blk call N | blk limit [TEXT] | blk steps | blk copy"

-- ---- what a script is answered

-- a script of these bytes shows this text: it is one, and the text is what its steps show in a new
-- world of its setting and its plan
pub record ShowsText (bytes text : List ℕ) : Type 0 where
  pub utf8 : IsUtf8 bytes
  pub stand : AllMayStand (lines_of bytes) (length (lines_of bytes))
  pub shown : ShowsScript (setting_in (lines_of bytes)) (plan_in (lines_of bytes))
      (instructions_in (lines_of bytes)) text

-- these bytes are no script, and this is why
abbrev pub IsNoScript : List ℕ → CommandFault → Type 0
IsNoScript bytes NotText = ¬ (IsUtf8 bytes)
IsNoScript bytes (NotAStep number) = IsUtf8 bytes × IsFirstBadLine (lines_of bytes) number
IsNoScript bytes _ = ⊥

-- all of the input was read, and it was these bytes
abbrev pub ReadsAll : Option (List ℕ) → Option (List ℕ) → List ℕ → Type 0
ReadsAll old new bytes = Consumes old new bytes × IsAtEnd new

-- what is known of a fault: whether the input is to blame, and why
abbrev pub Blames : Option (List ℕ) → Option (List ℕ) → CommandFault → Type 0
Blames old new NotText = (bytes : List ℕ) × ReadsAll old new bytes × IsNoScript bytes NotText
Blames old new (NotAStep number) =
    (bytes : List ℕ) × ReadsAll old new bytes × IsNoScript bytes (NotAStep number)
Blames old new _ = Unit {0}

-- the text of an input that was read, by what was left of it before and after
abbrev pub ReadsText : Option (List ℕ) → Option (List ℕ) → Result (String Global) CommandFault
    → Type 0
ReadsText old new (Ok text) = ReadsAll old new (string_bytes text) × IsUtf8 (string_bytes text)
ReadsText old new (Err fault) = Blames old new fault

-- what a script that was read is answered
abbrev pub Shows : Option (List ℕ) → Option (List ℕ) → Result (String Global) CommandFault → Type 0
Shows old new (Ok text) =
    (bytes : List ℕ) × ReadsAll old new bytes × ShowsText bytes (string_bytes text)
Shows old new (Err fault) = Blames old new fault

-- ---- what a request is answered

-- a request may be answered with this text: a call with the number that follows, a limit with
-- itself, and a script with what it shows
abbrev pub IsAnswer : Request → Option (List ℕ) → Option (List ℕ) → List ℕ → Type 0
IsAnswer (Call number) old new text = text ≡ line_of (decimal (number + 1))
IsAnswer (Limit limit) old new text = text ≡ line_of (decimal limit)
IsAnswer Steps old new text = (bytes : List ℕ) × ReadsAll old new bytes × ShowsText bytes text

-- what a fault leaves of the output's bytes: all as it was, where nothing was to be written yet
abbrev pub FailsBy : CommandFault → Option (List ℕ) → Option (List ℕ) → Type 0
FailsBy (Failed Writing) old new = Unit {0}
FailsBy _ old new = new ≡ old

-- what is known of the fault of a request: only a script can be to blame
abbrev pub BlamesFor : Request → Option (List ℕ) → Option (List ℕ) → CommandFault → Type 0
BlamesFor Steps old new fault = Blames old new fault
BlamesFor _ old new fault = fault_status fault ≡ 1

-- the answer was written, or there is a fault
abbrev pub Answers : Request → Option (List ℕ) → Option (List ℕ) → Option (List ℕ)
    → Result (Unit {0}) CommandFault → Option (List ℕ) → Type 0
Answers request unread_old unread_new old (Ok _) new =
    (text : List ℕ) × IsAnswer request unread_old unread_new text × Appends old new text
Answers request unread_old unread_new old (Err fault) new =
    FailsBy fault old new × BlamesFor request unread_old unread_new fault

-- ---- what a command line does

-- the input is only read where a script is asked for
abbrev pub LeavesInput : Option Request → Type 0 → Type 0
LeavesInput (Some Steps) same = Unit {0}
LeavesInput _ same = same

-- what is added to the two writers, by the status that is answered: the answer and nothing, or
-- nothing and why not
abbrev pub Does : Option Request → Option (List ℕ) → Option (List ℕ) → ℕ → List ℕ → List ℕ → Type 0
Does None old new status output faults = (status ≡ 2) × (output ≡ []) × (faults ≡ line_of usage)
Does (Some request) old new status output faults =
    ((status ≡ 0) × IsAnswer request old new output × (faults ≡ []))
    ⊎ ((fault : CommandFault) × (status ≡ 2) × (output ≡ []) × (fault_status fault ≡ 2)
    × BlamesFor request old new fault × (faults ≡ line_of (command_fault_text fault)))

-- a first part of these bytes is added, and nothing else
abbrev pub AppendsPart : Option (List ℕ) → Option (List ℕ) → List ℕ → Type 0
AppendsPart old new bytes = (n : ℕ) × Appends old new (take n bytes)

-- What a command line asks for was done, or it was found wrong: this was added to the output, and a
-- first part of this to what is told.
pub record Done (request : Option Request)
    (unread_old unread_new old new told_old told_new : Option (List ℕ)) (status : ℕ) : Type 0 where
  pub output : List ℕ
  pub faults : List ℕ
  pub does : Does request unread_old unread_new status output faults
  pub written : Appends old new output
  pub told : AppendsPart told_old told_new faults

-- A command failed by a fault of status 1: it left of the output what that fault leaves, and a
-- first part of its line was told.
pub record HasFailed (old new told_old told_new : Option (List ℕ)) : Type 0 where
  pub fault : CommandFault
  pub status : fault_status fault ≡ 1
  pub left : FailsBy fault old new
  pub told : AppendsPart told_old told_new (line_of (command_fault_text fault))
