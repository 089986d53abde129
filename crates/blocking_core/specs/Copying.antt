-- What a copy does after an answer.
use Rattle.std.specs.Prelude.{zero, suc, ◌+◌, ◌-◌, ◌^◌, ℕ, min, nat_le, nat_lt, if◌then◌else◌, Bool}
use Rattle.std.specs.Prelude.{true, false}
use Rattle.blocking_core.specs.declared.io.Fault.TheVariants.{WriteZero}
use Rattle.blocking_core.specs.declared.copy.CopyAction.{CopyAction}
use Rattle.blocking_core.specs.declared.copy.CopyAction.TheVariants.{Read, Write, Flush, Done}
use Rattle.blocking_core.specs.declared.copy.CopyAnswer.{CopyAnswer}
use Rattle.blocking_core.specs.declared.copy.CopyAnswer.TheVariants as by
use Rattle.blocking_core.specs.declared.copy.CopyEnd.{CopyEnd}
use Rattle.blocking_core.specs.declared.copy.CopyEnd.TheVariants.{Copied, Reading, Writing}

-- A copy's machine: what it does next, how many bytes it reads at once, how many were written, and
-- whether a write took nothing.
pub record CopyMachine (E : Type 0) : Type 0 where
  pub next : CopyAction E
  pub piece : ℕ
  pub copied : ℕ
  pub is_short : Bool

module _ {E : Type 0} where
  -- a copy that hasn't begun
  abbrev pub new_copy : ℕ → CopyMachine E
  new_copy piece = record { next = Read piece; piece = piece; copied = 0; is_short = false }

  -- What is next where so many of the bytes from one place of the piece up to another were written:
  -- the rest of them, and after the last another piece. More than were offered don't count.
  abbrev pub next_in_piece : ℕ → ℕ → ℕ → ℕ → CopyAction E
  next_in_piece piece from to count =
      if nat_lt count (to - from) then Write (from + count) to else if nat_le count (to - from)
      then Read piece else Write from to

  -- how a copy that was flushed ends: with its count, or with a fault where a write took nothing
  abbrev pub end_of_copy : Bool → ℕ → CopyEnd E
  end_of_copy true copied = Writing WriteZero
  end_of_copy false copied = Copied copied

  -- What follows an answer to this action. The reader's end and a write that took nothing lead to
  -- the flush; a fault ends the copy at once. An answer to another action changes nothing.
  abbrev pub next_after : ℕ → ℕ → Bool → CopyAction E → CopyAnswer E → CopyAction E
  next_after piece copied short (Read most) (by.Gave zero) = Flush
  next_after piece copied short (Read most) (by.Gave (suc count)) =
      if nat_le (suc count) most then Write 0 (suc count) else Read most
  next_after piece copied short (Read most) (by.Failed why) = Done (Reading why)
  next_after piece copied short (Write from to) (by.Took zero) = Flush
  next_after piece copied short (Write from to) (by.Took (suc count)) =
      next_in_piece piece from to (suc count)
  next_after piece copied short (Write from to) (by.Failed why) = Done (Writing why)
  next_after piece copied short Flush by.Flushed = Done (end_of_copy short copied)
  next_after piece copied short Flush (by.Failed why) = Done (Writing why)
  next_after piece copied short action answer = action

  abbrev pub next_by : CopyMachine E → CopyAnswer E → CopyAction E
  next_by core answer = next_after core.piece core.copied core.is_short core.next answer

  -- how many bytes were written, as a number of 64 bits that stays at the greatest once it is there
  abbrev pub copied_by : ℕ → CopyAction E → CopyAnswer E → ℕ
  copied_by copied (Write from to) (by.Took count) =
      if nat_le count (to - from) then min (copied + count) (2 ^ 64 - 1) else copied
  copied_by copied action answer = copied

  -- whether this was a write that took nothing
  abbrev pub took_none : CopyAction E → CopyAnswer E → Bool
  took_none (Write from to) (by.Took zero) = true
  took_none action answer = false

  -- the machine after an answer
  abbrev pub copy_after : CopyMachine E → CopyAnswer E → CopyMachine E
  copy_after core answer = record {
    next = next_by core answer;
    piece = core.piece;
    copied = copied_by core.copied core.next answer;
    is_short = if core.is_short then true else took_none core.next answer;
  }
