-- What answers a copy's actions, and how its machine stands over the piece that was read.
use Rattle.std.specs.Prelude.{◌≡◌, ◌-◌, ◌<◌, ◌≤◌, suc, ℕ, Bool, true, false, List, [], slice_range}
use Rattle.std.specs.Coded.{×_prop, Unit-prop, le_prop}
use Rattle.std.proofs.Math.Bool.{Bool-set}
use Rattle.std.proofs.Math.Nat.{ℕ_set}
use Rattle.blocking_core.specs.Copying.{CopyMachine}
use Rattle.blocking_core.specs.declared.copy.CopyAction.{CopyAction}
use Rattle.blocking_core.specs.declared.copy.CopyAction.TheVariants.{Read, Write, Flush, Done}
use Rattle.blocking_core.specs.declared.copy.CopyAnswer.{CopyAnswer}
use Rattle.blocking_core.specs.declared.copy.CopyAnswer.TheVariants as by
use Rattle.blocking_core.specs.declared.copy.CopyEnd.TheVariants.{Copied, Reading, Writing}

module _ {E : Type 0} where
  -- whether a copy is over
  abbrev pub is_over : CopyAction E → Bool
  is_over (Done end) = true
  is_over action = false

  -- This is an answer to that action: a reader gives no more than it was asked for, and a writer
  -- takes no more than it was offered.
  abbrev pub AnswersTo : CopyAction E → CopyAnswer E → Type 0
  AnswersTo (Read most) by.Pending = Unit {0}
  AnswersTo (Read most) (by.Gave count) = count ≤ most
  AnswersTo (Read most) (by.Failed why) = Unit {0}
  AnswersTo (Write from to) by.Pending = Unit {0}
  AnswersTo (Write from to) (by.Took count) = count ≤ to - from
  AnswersTo (Write from to) (by.Failed why) = Unit {0}
  AnswersTo Flush by.Pending = Unit {0}
  AnswersTo Flush by.Flushed = Unit {0}
  AnswersTo Flush (by.Failed why) = Unit {0}
  AnswersTo action answer = ⊥

  -- what holds where it has to be waited for
  abbrev pub IfWaits : CopyAnswer E → Type 0 → Type 0
  IfWaits by.Pending P = P
  IfWaits answer P = Unit {0}

  -- what was read and is to be written yet
  abbrev pub rest_of : CopyAction E → List ℕ → List ℕ
  rest_of (Write from to) piece = slice_range piece from to
  rest_of action piece = []

  -- no write took nothing, and none failed
  abbrev pub IsWholeAt : Bool → CopyAction E → Type 0
  IsWholeAt true action = ⊥
  IsWholeAt false (Done (Writing why)) = ⊥
  IsWholeAt false action = Unit {0}

  abbrev pub IsWhole : CopyMachine E → Type 0
  IsWhole core = IsWholeAt core.is_short core.next

  -- A machine stands so over a piece of so many bytes: what it writes next stands in the piece;
  -- while it reads and writes no write took nothing; and a copy that ended well did so with the
  -- count, and no write took nothing.
  abbrev pub StandsAt : CopyAction E → ℕ → Bool → ℕ → Type 0
  StandsAt (Read most) copied short length = (most ≡ length) × (short ≡ false)
  StandsAt (Write from to) copied short length = ((from < to) × (to ≤ length)) × (short ≡ false)
  StandsAt Flush copied short length = Unit {0}
  StandsAt (Done (Copied count)) copied short length = (count ≡ copied) × (short ≡ false)
  StandsAt (Done (Reading why)) copied short length = Unit {0}
  StandsAt (Done (Writing why)) copied short length = Unit {0}

  abbrev pub Stands : CopyMachine E → ℕ → Type 0
  Stands core length =
      StandsAt core.next core.copied core.is_short length × ((core.piece ≡ length) × (0 < length))

  pub stands_prop : (core : CopyMachine E) (length : ℕ) → IsProp (Stands core length)
  stands_prop core length =
      ×_prop (at_prop core.next core.copied core.is_short length)
      (×_prop (ℕ_set core.piece length) (le_prop {n = suc 0} {m = length}))
    where
      at_prop : (action : CopyAction E) (copied : ℕ) (short : Bool) (length : ℕ)
          → IsProp (StandsAt action copied short length)
      at_prop (Read most) copied short length = ×_prop (ℕ_set most length) (Bool-set short false)
      at_prop (Write from to) copied short length =
          ×_prop (×_prop (le_prop {n = suc from} {m = to}) (le_prop {n = to} {m = length}))
          (Bool-set short false)
      at_prop Flush copied short length = Unit-prop
      at_prop (Done (Copied count)) copied short length =
          ×_prop (ℕ_set count copied) (Bool-set short false)
      at_prop (Done (Reading why)) copied short length = Unit-prop
      at_prop (Done (Writing why)) copied short length = Unit-prop
