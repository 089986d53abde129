-- What is told to be over is over.
use Rattle.std.specs.Prelude.{◌≡◌, zero, suc, Bool, true, false, ◌||◌, List, [], ◌∷◌, Option, Some}
use Rattle.std.specs.Prelude.{None}
use Rattle.blocking_world_laws.specs.Seen.{own}
use Rattle.blocking_world_laws.specs.JobTable.{Kind, Writing}
use Rattle.blocking_world_laws.specs.Sessions.{call}
use Rattle.blocking_world_laws.specs.Passed.{gave, got, accepted, taken, last_job, last_kind}
use Rattle.blocking_world_laws.specs.declared.event.Act.{Act}
use Rattle.blocking_world_laws.specs.declared.event.Act.TheVariants.{Asked, Back, Replied, Answered}
use Rattle.blocking_world_laws.specs.declared.event.Event.{Event}
use Rattle.blocking_world_laws.specs.declared.event.Reply.{Reply}
use Rattle.blocking_world_laws.specs.declared.event.Reply.TheVariants.{Okay, Count, NoMore}
use Rattle.blocking_world_laws.specs.declared.step.HandleAnswer.{HandleAnswer}
use Rattle.blocking_world_laws.specs.declared.step.HandleAnswer.TheVariants.{Number, Gave}
use Rattle.blocking_world_laws.specs.declared.step.HandleAnswer.TheVariants.{Fine, NoItem}
use Rattle.blocking_world_laws.specs.declared.step.HandleAnswer.TheVariants.{Failed}
use Rattle.blocking_world_laws.specs.declared.step.HandleCall.{HandleCall}
use Rattle.blocking_world_laws.specs.declared.step.HandleCall.TheVariants.{Read, Flush, Close, Next}

-- the answers of a job's handle, the newest first
abbrev pub handle_answers : List Act → List HandleAnswer
handle_answers [] = []
handle_answers (Answered answer ∷ past) = answer ∷ handle_answers past
handle_answers (_ ∷ past) = handle_answers past

-- whether an answer is the end of a handle: no bytes, or no item
abbrev pub is_end : HandleAnswer → Bool
is_end (Gave []) = true
is_end NoItem = true
is_end _ = false

-- whether an answer is a failure
abbrev pub is_failure : HandleAnswer → Bool
is_failure (Failed e) = true
is_failure _ = false

-- whether one of the answers is a failure
abbrev pub has_failure : List HandleAnswer → Bool
has_failure [] = false
has_failure (answer ∷ more) = is_failure answer || has_failure more

-- whether an answer is that of a write that failed: a failure, or nothing was taken
abbrev pub is_failed_write : HandleAnswer → Bool
is_failed_write (Number zero) = true
is_failed_write (Failed e) = true
is_failed_write _ = false

-- whether one of the answers is that of a write that failed
abbrev pub has_failed_write : List HandleAnswer → Bool
has_failed_write [] = false
has_failed_write (answer ∷ more) = is_failed_write answer || has_failed_write more

-- whether one of the answers is that of a flush that went well
abbrev pub has_flush : List HandleAnswer → Bool
has_flush [] = false
has_flush (Fine ∷ more) = true
has_flush (_ ∷ more) = has_flush more

-- whether the last answer was the end of the handle
abbrev pub last_is_end : List HandleAnswer → Bool
last_is_end [] = false
last_is_end (answer ∷ more) = is_end answer

-- The last session gave its owner all that the handle gave, up to its end, and met no failure.
pub record IsReadWhole (cut : List Event) : Type 0 where
  pub all : got (own cut) ≡ gave (last_job cut)
  pub ended : last_is_end (handle_answers (last_job cut)) ≡ true
  pub sound : has_failure (handle_answers (last_job cut)) ≡ false

-- The writer of the last session took all that was accepted, no write of it failed, and it was
-- flushed.
pub record IsFlushed (cut : List Event) : Type 0 where
  pub all : taken (last_job cut) ≡ accepted (own cut)
  pub sound : has_failed_write (handle_answers (last_job cut)) ≡ false
  pub flushed : has_flush (handle_answers (last_job cut)) ≡ true

-- the part of the cut up to the handle's return, after an act: none of a poll that begins
abbrev pub back_by : Act → List Event → Option (List Event) → Option (List Event)
back_by Back here before = Some here
back_by (Asked call) here before = None
back_by _ here before = before

-- the part of the cut up to the newest return of the handle in the poll under way, if there was one
abbrev pub came_back : List Event → Option (List Event)
came_back [] = None
came_back (now ∷ cut) = back_by now.act (now ∷ cut) (came_back cut)

-- the handle came back, from a session that was read whole
abbrev pub IsReadBack : Option (List Event) → Type 0
IsReadBack (Some cut) = IsReadWhole cut
IsReadBack None = ⊥

-- a session of this kind was flushed, if it was one that writes
abbrev pub IsFlushedIf : Kind → List Event → Type 0
IsFlushedIf Writing cut = IsFlushed cut
IsFlushedIf kind cut = Unit {0}

-- if the handle came back, from a session that writes, that was flushed
abbrev pub IsFlushedBack : Option (List Event) → Type 0
IsFlushedBack (Some cut) = IsFlushedIf (last_kind cut) cut
IsFlushedBack None = Unit {0}

-- a read into a buffer with room replies none, and a call for an item that none is left, only where
-- the handle came back in this poll, from a session that was read whole; a flush and a close reply
-- without a fault only where no handle came back in this poll from a session that writes and wasn't
-- flushed
abbrev pub IsTrueEnd : Option HandleCall → Reply → Option (List Event) → Type 0
IsTrueEnd (Some (Read (suc n))) (Count zero) back = IsReadBack back
IsTrueEnd (Some Next) NoMore back = IsReadBack back
IsTrueEnd (Some Flush) Okay back = IsFlushedBack back
IsTrueEnd (Some Close) Okay back = IsFlushedBack back
IsTrueEnd _ _ back = Unit {0}

-- The law of ends: what a reply tells to be over is over.
abbrev pub EndsTruly : List Event → Act → Type 0
EndsTruly cut (Replied reply) = IsTrueEnd (call (own cut)) reply (came_back cut)
EndsTruly cut _ = Unit {0}
