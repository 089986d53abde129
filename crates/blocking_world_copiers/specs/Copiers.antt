-- Copiers as contracts see them: what each hears, and what it does next.
use Rattle.std.specs.Prelude.{◌≡◌, ℕ, ◌-◌, ◌==◌, ◌||◌, if◌then◌else◌, Bool, true, false, List, []}
use Rattle.std.specs.Prelude.{◌∷◌, take, drop, filter, not, Option, Some, None}
use Rattle.blocking_core.specs.Copying.{CopyMachine, new_copy, copy_after}
use Rattle.blocking_core.specs.declared.copy.CopyAction.{CopyAction}
use Rattle.blocking_core.specs.declared.copy.CopyAction.TheVariants as action
use Rattle.blocking_core.specs.declared.copy.CopyAnswer.{CopyAnswer}
use Rattle.blocking_core.specs.declared.copy.CopyAnswer.TheVariants as by
use Rattle.blocking_core.specs.declared.copy.CopyEnd.TheVariants as end
use Rattle.blocking_world_laws.specs.Lent.{Copier}
use Rattle.blocking_world_laws.specs.Copies.{CopierAction, AskReader, AskWriter, Tells}
use Rattle.blocking_world_laws.specs.declared.event.Act.{Act}
use Rattle.blocking_world_laws.specs.declared.event.Act.TheVariants.{Got, Replied, Copied}
use Rattle.blocking_world_laws.specs.declared.event.Act.TheVariants.{CopyFailed}
use Rattle.blocking_world_laws.specs.declared.event.CopySide.TheVariants as side
use Rattle.blocking_world_laws.specs.declared.event.Reply.{Reply}
use Rattle.blocking_world_laws.specs.declared.event.Reply.TheVariants as reply
use Rattle.blocking_world_laws.specs.declared.step.HandleCall.{HandleCall}
use Rattle.blocking_world_laws.specs.declared.step.HandleCall.TheVariants as call
use Rattle.blocking_world_copiers.specs.declared.copier.CopierNext.{CopierNext}
use Rattle.blocking_world_copiers.specs.declared.copier.CopierNext.TheVariants as next

-- A copier: its number, its owners, its core, and what it read last.
pub record CopierState : Type 0 where
  pub number : ℕ
  pub reader : ℕ
  pub writer : ℕ
  pub core : CopyMachine ℕ
  pub piece : List ℕ

-- a copier that hasn't begun
abbrev pub new_copier : ℕ → ℕ → ℕ → ℕ → CopierState
new_copier k a b n = record { number = k; reader = a; writer = b; core = new_copy n; piece = [] }

-- the copier, as the laws speak of it
abbrev pub shown : CopierState → Copier
shown c = record { number = c.number; reader = c.reader; writer = c.writer; piece = c.core.piece }

-- whether a copier has this number
abbrev pub has_number : ℕ → CopierState → Bool
has_number k c = c.number == k

-- whether an owner belongs to a copier
abbrev pub belongs : ℕ → CopierState → Bool
belongs h c = c.reader == h || c.writer == h

-- the bytes from the one place up to the other
abbrev pub between : ℕ → ℕ → List ℕ → List ℕ
between from to bytes = take (to - from) (drop from bytes)

-- ---- what it hears

-- the bytes that an owner got by an act
abbrev pub bytes_got : Act → List ℕ
bytes_got (Got bytes told) = bytes
bytes_got _ = []

-- what a reply answers to this action of a copy; one that answers another action is none
abbrev pub answer_of : CopyAction ℕ → Reply → CopyAnswer ℕ
answer_of (action.Read most) (reply.Count n) = by.Gave n
answer_of (action.Write from to) (reply.Count n) = by.Took n
answer_of action.Flush reply.Okay = by.Flushed
answer_of asked (reply.Failed why) = by.Failed why
answer_of asked told = by.Pending

-- the copier after an act of one of its owners
abbrev pub heard : CopierState → Act → CopierState
heard c (Got bytes told) = record c { piece = bytes }
heard c (Replied told) = record c { core = copy_after c.core (answer_of c.core.next told) }
heard c act = c

-- ---- what it does next

abbrev pub next_by : CopyAction ℕ → List ℕ → CopierNext
next_by (action.Read most) piece = next.AskReader (call.Read most)
next_by (action.Write from to) piece = next.AskWriter (call.Write (between from to piece))
next_by action.Flush piece = next.AskWriter call.Flush
next_by (action.Done (end.Copied n)) piece = next.Copied n
next_by (action.Done (end.Reading why)) piece = next.Failed side.Reading
next_by (action.Done (end.Writing why)) piece = next.Failed side.Writing

abbrev pub next_of : CopierState → CopierNext
next_of c = next_by c.core.next c.piece

-- the bytes that it asks to have written
abbrev pub bytes_in_call : HandleCall → List ℕ
bytes_in_call (call.Write bytes) = bytes
bytes_in_call _ = []

abbrev pub next_bytes : CopierNext → List ℕ
next_bytes (next.AskWriter asked) = bytes_in_call asked
next_bytes _ = []

-- the same, as the laws speak of it
abbrev pub as_action : CopierNext → CopierAction
as_action (next.AskReader asked) = AskReader asked
as_action (next.AskWriter asked) = AskWriter asked
as_action (next.Copied n) = Tells (Copied n)
as_action (next.Failed at) = Tells (CopyFailed at)

-- ---- a list of them

-- the copier of this number, if it is one of these
abbrev pub copier_at : ℕ → List CopierState → Option CopierState
copier_at k [] = None
copier_at k (c ∷ more) = if has_number k c then Some c else copier_at k more

-- whether an owner belongs to one of these
abbrev pub is_lent : ℕ → List CopierState → Bool
is_lent h [] = false
is_lent h (c ∷ more) = if belongs h c then true else is_lent h more

-- these, after the first one to which this owner belongs heard its act
abbrev pub hear_first : ℕ → Act → List CopierState → List CopierState
hear_first h act [] = []
hear_first h act (c ∷ more) = if belongs h c then heard c act ∷ more else c ∷ hear_first h act more

-- these without the one of this number
abbrev pub without_number : ℕ → List CopierState → List CopierState
without_number k [] = []
without_number k (c ∷ more) = if has_number k c then more else c ∷ without_number k more
