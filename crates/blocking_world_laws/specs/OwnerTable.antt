-- The table of an owner: what its poll does next, read from its own acts, the newest first.
use Rattle.std.specs.Prelude.{ℕ, zero, Bool, true, false, if◌then◌else◌, List, [], ◌∷◌, length}
use Rattle.std.specs.Prelude.{Option, Some, None}
use Rattle.blocking_core.specs.declared.io.Fault.{Fault}
use Rattle.blocking_core.specs.declared.io.Fault.TheVariants as why
use Rattle.blocking_world_laws.specs.Core.{same_position}
use Rattle.blocking_world_laws.specs.Seen.{own, acts_of}
use Rattle.blocking_world_laws.specs.JobTable.{Kind, Reading, Writing, Streaming, Seeking, fault}
use Rattle.blocking_world_laws.specs.JobTable.{number}
use Rattle.blocking_world_laws.specs.Sessions.{Session, call, last_session, has_begun, State}
use Rattle.blocking_world_laws.specs.Sessions.{Closed, Idle, In, state}
use Rattle.blocking_world_laws.specs.declared.event.Act.{Act}
use Rattle.blocking_world_laws.specs.declared.event.Act.TheVariants.{Asked, Accepted, Refused}
use Rattle.blocking_world_laws.specs.declared.event.Act.TheVariants.{OwnerClosed, JobWoken, Got}
use Rattle.blocking_world_laws.specs.declared.event.Act.TheVariants.{GotItem, GotEnd, Filled}
use Rattle.blocking_world_laws.specs.declared.event.Act.TheVariants.{FillShut, Back, ResultGot}
use Rattle.blocking_world_laws.specs.declared.event.Event.{Event}
use Rattle.blocking_world_laws.specs.declared.event.Reply.{Reply}
use Rattle.blocking_world_laws.specs.declared.event.Reply.TheVariants.{Okay, Count, OneItem, NoMore}
use Rattle.blocking_world_laws.specs.declared.event.Reply.TheVariants.{Handle, Failed, NotBegun}
use Rattle.blocking_pool.specs.declared.pool.answer.Refusal.{Refusal}
use Rattle.blocking_world_laws.specs.declared.step.HandleCall.{HandleCall}
use Rattle.blocking_world_laws.specs.declared.step.HandleCall.TheVariants.{Read, Write, Flush}
use Rattle.blocking_world_laws.specs.declared.step.HandleCall.TheVariants.{Close, Seek, Next}
use Rattle.blocking_world_laws.specs.declared.step.HandleCall.TheVariants.{Operate, OperateAgain}
use Rattle.blocking_world_laws.specs.declared.step.HandleCall.TheVariants.{GetMut, IntoInner}

-- The next action of a poll: it begins a session, closes the owner's end of the pipe, wakes this
-- job, drains at most so many bytes, fills the pipe with these, receives an item, looks into the
-- job's slot, looks for the operation's result, or replies; or there is nothing to do.
pub data OwnerAction : Type 0 where
  Begin : OwnerAction
  CloseOwn : OwnerAction
  WakeJob : ℕ → OwnerAction
  Drain : ℕ → OwnerAction
  Fill : List ℕ → OwnerAction
  Receive : OwnerAction
  PollSlot : OwnerAction
  PollPlace : OwnerAction
  Say : Reply → OwnerAction
  Rest : OwnerAction

-- The table: what a call does where the handle is there. From a session that isn't its own it stops
-- that: it closes the owner's end where that is open, and looks for the handle; a seek looks for
-- the handle in its own session too. A flush and a close have no session of their own, and of an
-- idle handle nothing is left to be written.
abbrev pub table : HandleCall → State → OwnerAction
table (Read zero) at = Say (Count 0)
table (Write []) at = Say (Count 0)
table Flush Idle = Say Okay
table Flush Closed = Say Okay
table Close Idle = Say Okay
table Close Closed = Say Okay
table GetMut Idle = Say Handle
table IntoInner Idle = Say Handle
table call Idle = Begin
table call Closed = Rest
table (Read n) (In Reading true) = Drain n
table (Write bytes) (In Writing true) = Fill bytes
table Next (In Streaming true) = Receive
table call (In Reading true) = CloseOwn
table call (In Writing true) = CloseOwn
table call (In Streaming true) = CloseOwn
table call at = PollSlot

-- what a call does that was just asked: one for the result of an operation whose session has begun
-- looks for it, any other goes by the table
abbrev pub at_asked : HandleCall → Bool → State → OwnerAction
at_asked OperateAgain true at = PollPlace
at_asked call begun at = table call at

-- what the call does whose session was just begun: an operation looks for its result, any other
-- goes by the table
abbrev pub at_accepted : Option HandleCall → State → OwnerAction
at_accepted None at = Rest
at_accepted (Some Operate) at = PollPlace
at_accepted (Some OperateAgain) at = PollPlace
at_accepted (Some call) at = table call at

-- how a call tells that its session was refused
abbrev pub refusal : Option HandleCall → Refusal → Reply
refusal (Some Next) reason = NotBegun reason
refusal (Some Operate) reason = NotBegun reason
refusal (Some OperateAgain) reason = NotBegun reason
refusal asked reason = Failed (why.Refused reason)

-- whether a call tells the fault of a session that is over
abbrev pub tells_faults : HandleCall → Bool
tells_faults Next = false
tells_faults Operate = false
tells_faults OperateAgain = false
tells_faults GetMut = false
tells_faults IntoInner = false
tells_faults _ = true

-- what a call does once the handle is back from a session of this kind, whose job was answered this
-- number last: the end where it saw that; a seek tells where the handle is, if that job moved it to
-- the very position; else what the call does with an idle handle
abbrev pub after_end : HandleCall → Bool → Kind → ℕ → OwnerAction
after_end Next true kind n = Say NoMore
after_end call true kind n = Say (Count 0)
after_end (Seek to) false (Seeking from) n = if same_position from to then Say (Count n) else Begin
after_end call false kind n = table call Idle

-- what follows once the handle is back: its fault, where there is one and the call tells it
abbrev pub after_back : HandleCall → Option (Fault ℕ) → Bool → Kind → ℕ → OwnerAction
after_back call None ended kind n = after_end call ended kind n
after_back call (Some found) ended kind n =
    if tells_faults call then Say (Failed found) else after_end call ended kind n

-- whether the owner has just seen the pipe's end
abbrev pub is_at_end : List Act → Bool
is_at_end (GotEnd ∷ past) = true
is_at_end _ = false

-- what follows once the handle is back, by the call and the session
abbrev pub at_back : Option HandleCall → Option Session → Bool → List Event → OwnerAction
at_back (Some call) (Some s) ended cut =
    after_back call (fault s.kind (acts_of s.serial cut)) ended s.kind
    (number (acts_of s.serial cut))
at_back _ _ ended cut = Rest

-- what follows the owner's last act, were no job to be woken first
abbrev pub owner_next_but_wake : List Event → List Act → OwnerAction
owner_next_but_wake cut [] = Rest
owner_next_but_wake cut (Asked call ∷ past) = at_asked call (has_begun past) (state past)
owner_next_but_wake cut (Accepted s ∷ past) = at_accepted (call past) (state (Accepted s ∷ past))
owner_next_but_wake cut (Refused reason ∷ past) = Say (refusal (call past) reason)
owner_next_but_wake cut (OwnerClosed told ∷ past) = PollSlot
owner_next_but_wake cut (Got bytes told ∷ past) = Say (Count (length bytes))
owner_next_but_wake cut (GotItem x told ∷ past) = Say (OneItem x)
owner_next_but_wake cut (GotEnd ∷ past) = PollSlot
owner_next_but_wake cut (Filled n told ∷ past) = Say (Count n)
owner_next_but_wake cut (FillShut ∷ past) = Say (Count 0)
owner_next_but_wake cut (ResultGot n ∷ past) = Say (Count n)
owner_next_but_wake cut (Back ∷ past) = at_back (call past) (last_session past) (is_at_end past) cut
owner_next_but_wake cut (JobWoken s woke ∷ past) = owner_next_but_wake cut past
owner_next_but_wake cut (_ ∷ past) = Rest

-- the job whose note an act of the owner took out of its seat
abbrev pub note_in : Act → Option ℕ
note_in (OwnerClosed told) = told
note_in (Got bytes told) = told
note_in (GotItem x told) = told
note_in (Filled n told) = told
note_in _ = None

-- a job whose note was taken is woken before all else
abbrev pub deliver_first : Option ℕ → OwnerAction → OwnerAction
deliver_first (Some s) action = WakeJob s
deliver_first None action = action

-- the owner's next action, by its own acts
abbrev pub next_of_owner_by : List Event → List Act → OwnerAction
next_of_owner_by cut [] = Rest
next_of_owner_by cut (act ∷ past) =
    deliver_first (note_in act) (owner_next_but_wake cut (act ∷ past))

-- the owner's next action, by its cut
abbrev pub next_of_owner : List Event → OwnerAction
next_of_owner cut = next_of_owner_by cut (own cut)
