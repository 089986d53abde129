-- What an owner is doing, read from its own acts, the newest first.
use Rattle.std.specs.Prelude.{ℕ, ◌==◌, ◌&&◌, ◌||◌, not, if◌then◌else◌, Bool, true, false, List, []}
use Rattle.std.specs.Prelude.{◌∷◌, Option, Some, None}
use Rattle.blocking_world_laws.specs.JobTable.{Kind, Calling, Reading, Writing, Streaming, Seeking}
use Rattle.blocking_world_laws.specs.JobTable.{Operating}
use Rattle.blocking_world_laws.specs.declared.event.Act.{Act}
use Rattle.blocking_world_laws.specs.declared.event.Act.TheVariants.{Made, Asked, Accepted}
use Rattle.blocking_world_laws.specs.declared.event.Act.TheVariants.{OwnerClosed, Waits, Back}
use Rattle.blocking_world_laws.specs.declared.event.Act.TheVariants.{Replied, HolderDropped}
use Rattle.blocking_world_laws.specs.declared.event.Reply.{Reply}
use Rattle.blocking_world_laws.specs.declared.event.Reply.TheVariants.{Okay}
use Rattle.blocking_world_laws.specs.declared.step.HandleCall.{HandleCall}
use Rattle.blocking_world_laws.specs.declared.step.HandleCall.TheVariants.{Read, Write, Flush}
use Rattle.blocking_world_laws.specs.declared.step.HandleCall.TheVariants.{Close, Seek, Next}
use Rattle.blocking_world_laws.specs.declared.step.HandleCall.TheVariants.{Operate, OperateAgain}
use Rattle.blocking_world_laws.specs.declared.step.HandleCall.TheVariants.{IntoInner}

-- ---- polls

-- the call that was asked last
abbrev pub call : List Act → Option HandleCall
call [] = None
call (Asked c ∷ past) = Some c
call (_ ∷ past) = call past

-- the call that is being polled: none before the first, and none once the poll waits or has replied
abbrev pub under_way : List Act → Option HandleCall
under_way [] = None
under_way (Asked c ∷ past) = Some c
under_way (Made h capacity ∷ past) = None
under_way (Waits ∷ past) = None
under_way (Replied reply ∷ past) = None
under_way (HolderDropped ∷ past) = None
under_way (_ ∷ past) = under_way past

-- whether no call is being polled
abbrev pub is_poll_over : Option HandleCall → Bool
is_poll_over None = true
is_poll_over (Some c) = false

-- whether the owner was made
abbrev pub is_made : List Act → Bool
is_made [] = false
is_made (Made h capacity ∷ past) = true
is_made (_ ∷ past) = is_made past

-- whether the owner was dropped
abbrev pub is_dropped : List Act → Bool
is_dropped [] = false
is_dropped (HolderDropped ∷ past) = true
is_dropped (_ ∷ past) = is_dropped past

-- whether a call asks for the handle for good
abbrev pub is_into_inner : Option HandleCall → Bool
is_into_inner (Some IntoInner) = true
is_into_inner _ = false

-- whether the handle was ever asked for for good
abbrev pub was_asked_inner : List Act → Bool
was_asked_inner [] = false
was_asked_inner (Asked IntoInner ∷ past) = true
was_asked_inner (_ ∷ past) = was_asked_inner past

-- whether the owner is no more: it was dropped, or it gave its handle back for good
abbrev pub is_owner_gone : List Act → Bool
is_owner_gone [] = false
is_owner_gone (HolderDropped ∷ past) = true
is_owner_gone (Replied reply ∷ past) = is_into_inner (call past) || is_owner_gone past
is_owner_gone (_ ∷ past) = is_owner_gone past

-- whether the owner is there and no poll of it is under way, so that it may be asked or dropped
abbrev pub rests : List Act → Bool
rests acts = is_made acts && not (is_owner_gone acts) && is_poll_over (under_way acts)

-- whether a reply ends a close without a fault, after which the handle is gone
abbrev pub ends_close : Reply → Option HandleCall → Bool
ends_close Okay (Some Close) = true
ends_close reply asked = false

-- whether the handle was dropped by a close
abbrev pub is_closed : List Act → Bool
is_closed [] = false
is_closed (Replied reply ∷ past) = ends_close reply (call past) || is_closed past
is_closed (_ ∷ past) = is_closed past

-- what may be asked of an owner whose handle is gone
abbrev pub is_for_closed : HandleCall → Bool
is_for_closed Flush = true
is_for_closed Close = true
is_for_closed _ = false

-- whether a call asks for an operation, or for its result
abbrev pub is_operation : Option HandleCall → Bool
is_operation (Some Operate) = true
is_operation (Some OperateAgain) = true
is_operation _ = false

-- whether an operation is pending: the owner's last act was a wait for one
abbrev pub is_pending_operation : List Act → Bool
is_pending_operation (Waits ∷ past) = is_operation (call past)
is_pending_operation _ = false

-- whether the operation that was asked last has begun its session
abbrev pub has_begun : List Act → Bool
has_begun [] = false
has_begun (Accepted s ∷ past) = true
has_begun (Asked Operate ∷ past) = false
has_begun (_ ∷ past) = has_begun past

-- whether a call asks for the result of a pending operation
abbrev pub is_again : HandleCall → Bool
is_again OperateAgain = true
is_again _ = false

-- whether the owner may be asked for this: once its handle is gone only to flush and to close, once
-- its handle was asked for for good only for that, and for the result of an operation only where
-- one is pending
abbrev pub may_ask : List Act → HandleCall → Bool
may_ask acts c =
    rests acts && (not (is_closed acts) || is_for_closed c)
    && (not (was_asked_inner acts) || is_into_inner (Some c))
    && (not (is_again c) || is_pending_operation acts)

-- ---- sessions

-- a session: the serial of the job that was lent the handle, and what that job is for
pub record Session : Type 0 where
  pub serial : ℕ
  pub kind : Kind

-- the kind of the session that a call begins
abbrev pub kind_of : Option HandleCall → Kind
kind_of (Some (Read n)) = Reading
kind_of (Some (Write bytes)) = Writing
kind_of (Some Next) = Streaming
kind_of (Some (Seek position)) = Seeking position
kind_of (Some Operate) = Operating
kind_of (Some OperateAgain) = Operating
kind_of _ = Calling

-- the session that began last
abbrev pub last_session : List Act → Option Session
last_session [] = None
last_session (Accepted s ∷ past) = Some (record { serial = s; kind = kind_of (call past) })
last_session (_ ∷ past) = last_session past

-- the session that isn't over: from the acceptance of its job until the handle is back
abbrev pub session : List Act → Option Session
session [] = None
session (Back ∷ past) = None
session (Accepted s ∷ past) = Some (record { serial = s; kind = kind_of (call past) })
session (_ ∷ past) = session past

-- whether the owner's end of the pipe was closed in the last session
abbrev pub is_shut : List Act → Bool
is_shut [] = false
is_shut (OwnerClosed told ∷ past) = true
is_shut (Accepted s ∷ past) = false
is_shut (_ ∷ past) = is_shut past

-- the owner's jobs, the newest first
abbrev pub jobs_of : List Act → List ℕ
jobs_of [] = []
jobs_of (Accepted s ∷ past) = s ∷ jobs_of past
jobs_of (_ ∷ past) = jobs_of past

-- the kind of the session whose job has this serial
abbrev pub kind_of_job : ℕ → List Act → Kind
kind_of_job s [] = Calling
kind_of_job s (Accepted t ∷ past) = if t == s then kind_of (call past) else kind_of_job s past
kind_of_job s (_ ∷ past) = kind_of_job s past

-- how many bytes, or items, the pipe of a session of this kind holds, where the owner names no
-- number
abbrev pub default_capacity : Kind → ℕ
default_capacity Streaming = 8192
default_capacity _ = 8388608

-- how many bytes, or items, the pipe of a session of this kind holds: the number that its owner was
-- made with, or the default
abbrev pub capacity : Kind → List Act → ℕ
capacity kind [] = 0
capacity kind (Made h n ∷ past) = if n == 0 then default_capacity kind else n
capacity kind (_ ∷ past) = capacity kind past

-- Where the handle is: nowhere after a close, with its owner, or with the job of a session of this
-- kind, with the owner's end of the pipe open or not. Of a session without a pipe it counts as
-- open.
pub data State : Type 0 where
  Closed : State
  Idle : State
  In : Kind → Bool → State

-- the state by the session that isn't over
abbrev pub state_in : Option Session → Bool → State
state_in None shut = Idle
state_in (Some s) shut = In s.kind (not shut)

-- the same, and by whether the handle was dropped by a close
abbrev pub state_by : Bool → Option Session → Bool → State
state_by true last shut = Closed
state_by false last shut = state_in last shut

-- the state that the own acts tell
abbrev pub state : List Act → State
state acts = state_by (is_closed acts) (session acts) (is_shut acts)
