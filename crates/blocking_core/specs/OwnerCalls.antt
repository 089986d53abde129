-- What a poll of an owner does, by its call and where the handle is.
use Rattle.std.specs.Prelude.{ℕ, zero, suc, nat_le, if◌then◌else◌, Bool, true, false, Option, Some}
use Rattle.std.specs.Prelude.{None}
use Rattle.blocking_core.specs.Machines.{wake_first}
use Rattle.blocking_core.specs.Positions.{same_position}
use Rattle.blocking_core.specs.declared.io.Fault.{Fault}
use Rattle.blocking_core.specs.declared.io.Fault.TheVariants as fault
use Rattle.blocking_core.specs.declared.unblock.PollCall.{PollCall}
use Rattle.blocking_core.specs.declared.unblock.PollCall.TheVariants.{Read, Write, Flush}
use Rattle.blocking_core.specs.declared.unblock.PollCall.TheVariants.{Close as CloseCall, Seek}
use Rattle.blocking_core.specs.declared.unblock.PollCall.TheVariants.{Next, Operate, GetMut}
use Rattle.blocking_core.specs.declared.unblock.PollCall.TheVariants.{IntoInner}
use Rattle.blocking_core.specs.declared.unblock.OwnerEnd.{OwnerEnd}
use Rattle.blocking_core.specs.declared.unblock.OwnerEnd.TheVariants.{Open, Shut}
use Rattle.blocking_core.specs.declared.unblock.SessionKind.{SessionKind}
use Rattle.blocking_core.specs.declared.unblock.SessionKind.TheVariants.{Reading, Writing}
use Rattle.blocking_core.specs.declared.unblock.SessionKind.TheVariants.{Streaming, Seeking}
use Rattle.blocking_core.specs.declared.unblock.SessionKind.TheVariants.{Operating}
use Rattle.blocking_core.specs.declared.unblock.State.{State}
use Rattle.blocking_core.specs.declared.unblock.State.TheVariants.{Idle, Lent, Closed}
use Rattle.blocking_core.specs.declared.unblock.Reply.TheVariants.{Count, Position, End, Item}
use Rattle.blocking_core.specs.declared.unblock.Reply.TheVariants.{Result, Handle, Failed, NotBegun}
use Rattle.blocking_core.specs.declared.unblock.Reply.TheVariants.{Done, Closed as NoHandle}
use Rattle.blocking_core.specs.declared.unblock.OwnerAction.{OwnerAction}
use Rattle.blocking_core.specs.declared.unblock.OwnerAction.TheVariants.{Begin, Close, Drain, Fill}
use Rattle.blocking_core.specs.declared.unblock.OwnerAction.TheVariants.{Receive, PollSlot}
use Rattle.blocking_core.specs.declared.unblock.OwnerAction.TheVariants.{PollResult, DropHandle}
use Rattle.blocking_core.specs.declared.unblock.OwnerAction.TheVariants.{Deliver, Reply, Pending}
use Rattle.blocking_core.specs.declared.unblock.OwnerAnswer.{OwnerAnswer}
use Rattle.blocking_core.specs.declared.unblock.OwnerAnswer.TheVariants as by
use Rattle.blocking_pool.specs.declared.pool.answer.Refusal.{Refusal}

-- A poll: its call, where the handle is, what it does next, whether it has to spend a note before
-- that, and whether it saw the end of the pipe.
pub record OwnerMachine (E : Type 0) : Type 0 where
  pub call : PollCall
  pub state : State
  pub next : OwnerAction E
  pub is_waking : Bool
  pub is_at_end : Bool

-- ---- sessions

-- the kind of session that a call begins; the other calls begin none
abbrev pub kind_begun : PollCall → Option SessionKind
kind_begun (Read most) = Some Reading
kind_begun (Write most) = Some Writing
kind_begun Next = Some Streaming
kind_begun (Seek to) = Some (Seeking to)
kind_begun (Operate begun) = Some Operating
kind_begun call = None

-- Whether a call goes on in a session of this kind, and doesn't stop it. A seek meets whatever seek
-- is under way; an operation only the session that it began itself.
abbrev pub goes_on_in : SessionKind → PollCall → Bool
goes_on_in Reading (Read most) = true
goes_on_in Writing (Write most) = true
goes_on_in Streaming Next = true
goes_on_in (Seeking other) (Seek to) = true
goes_on_in Operating (Operate begun) = begun
goes_on_in kind call = false

-- whether a session of this kind has a pipe, whose end on the owner's side may be closed
abbrev pub has_pipe : SessionKind → Bool
has_pipe Reading = true
has_pipe Writing = true
has_pipe Streaming = true
has_pipe kind = false

-- where the handle is once a session of this kind began, if it is one
abbrev pub begun_in : Option SessionKind → State
begun_in (Some kind) = Lent kind Open
begun_in None = Idle

-- where the handle is once a session of this call began
abbrev pub begun_by : PollCall → State
begun_by call = begun_in (kind_begun call)

-- the same session, once the owner's end is closed
abbrev pub shut : State → State
shut (Lent kind end) = Lent kind Shut
shut state = state

-- whether a call tells the fault of a session that is over
abbrev pub tells_faults : PollCall → Bool
tells_faults Next = false
tells_faults (Operate begun) = false
tells_faults GetMut = false
tells_faults IntoInner = false
tells_faults call = true

-- whether a call asks for the position that a session sought
abbrev pub sought_by : State → PollCall → Bool
sought_by (Lent (Seeking from) end) (Seek to) = same_position from to
sought_by state call = false

module _ {E : Type 0} where
  -- ---- the table

  -- what a call does with a handle that is with its owner
  abbrev pub at_idle : PollCall → OwnerAction E
  at_idle GetMut = Reply Handle
  at_idle IntoInner = Reply Handle
  at_idle Flush = Reply Done
  at_idle CloseCall = DropHandle
  at_idle call = Begin

  -- what a call does in a session that is its own, with the owner's end open
  abbrev pub in_own : PollCall → OwnerAction E
  in_own (Read most) = Drain most
  in_own (Write most) = Fill most
  in_own Next = Receive
  in_own (Operate begun) = PollResult
  in_own call = PollSlot

  -- how a call stops a session: it closes the owner's end where there is a pipe and that is open,
  -- and then looks for the handle
  abbrev pub stop : Bool → OwnerEnd → OwnerAction E
  stop true Open = Close
  stop piped end = PollSlot

  -- what a call does in a session, by whether that is its own
  abbrev pub in_session : Bool → PollCall → SessionKind → OwnerEnd → OwnerAction E
  in_session true call kind Open = in_own call
  in_session own call kind end = stop (has_pipe kind) end

  -- what a call does once the handle is gone
  abbrev pub at_closed : PollCall → OwnerAction E
  at_closed Flush = Reply Done
  at_closed CloseCall = Reply Done
  at_closed call = Reply NoHandle

  -- what a call does where the handle is, were it to move some bytes
  abbrev pub at_state : PollCall → State → OwnerAction E
  at_state call Idle = at_idle call
  at_state call (Lent kind end) = in_session (goes_on_in kind call) call kind end
  at_state call Closed = at_closed call

  -- The table: what a call does where the handle is. A read and a write of nothing do nothing; from
  -- a session that isn't its own a call stops that. A flush and a close have no session of their
  -- own, and the calls for the handle neither.
  abbrev pub table : PollCall → State → OwnerAction E
  table (Read zero) state = Reply (Count 0)
  table (Write zero) state = Reply (Count 0)
  table call state = at_state call state

  -- ---- a poll

  -- a poll that begins
  abbrev pub new_poll : PollCall → State → OwnerMachine E
  new_poll call state = record {
    call = call;
    state = state;
    next = table call state;
    is_waking = false;
    is_at_end = false;
  }

  -- the next action
  abbrev pub owner_next : OwnerMachine E → OwnerAction E
  owner_next poll = wake_first poll.is_waking Deliver poll.next

  -- ---- answers

  -- how a call tells that no session could begin: a stream and an operation have a word of their
  -- own for it
  abbrev pub refusal : PollCall → Refusal → OwnerAction E
  refusal Next why = Reply (NotBegun why)
  refusal (Operate begun) why = Reply (NotBegun why)
  refusal call why = Reply (Failed (fault.Refused why))

  -- what a call does that saw the end of the pipe, once the handle is back; another goes on as from
  -- an idle handle
  abbrev pub at_end : PollCall → OwnerAction E
  at_end (Read most) = Reply (Count 0)
  at_end Next = Reply End
  at_end call = table call Idle

  -- what a call does once the handle is back with no fault to be told
  abbrev pub after_end : PollCall → Bool → OwnerAction E
  after_end call true = at_end call
  after_end call false = table call Idle

  -- What a call does once the handle is back: it tells the job's fault, if it tells faults; else
  -- the end, where it saw that; else it goes on as it does from an idle handle.
  abbrev pub after_back : PollCall → Bool → Option (Fault E) → OwnerAction E
  after_back call ended None = after_end call ended
  after_back call ended (Some why) =
      if tells_faults call then Reply (Failed why) else after_end call ended

  -- what a call does once the handle is back from a seek that went well: it tells where the handle
  -- is now, if it asked for that position
  abbrev pub after_seek : State → PollCall → ℕ → OwnerAction E
  after_seek state call place =
      if sought_by state call then Reply (Position place) else table call Idle

  -- some bytes came out or went in, and no more than were asked for or offered
  abbrev pub after_got : ℕ → ℕ → Bool → OwnerMachine E → OwnerMachine E
  after_got most zero noted poll = poll
  after_got most (suc count) noted poll =
      if nat_le (suc count) most
      then record poll { next = Reply (Count (suc count)); is_waking = noted } else poll

  -- a session began, or was refused
  abbrev pub after_begin : OwnerAnswer E → OwnerMachine E → OwnerMachine E
  after_begin by.Begun poll = record poll { state = begun_by poll.call; next = in_own poll.call }
  after_begin (by.Refused why) poll = record poll { next = refusal poll.call why }
  after_begin answer poll = poll

  -- the owner's end was closed
  abbrev pub after_close : OwnerAnswer E → OwnerMachine E → OwnerMachine E
  after_close (by.Closed noted) poll =
      record poll { state = shut poll.state; next = PollSlot; is_waking = noted }
  after_close answer poll = poll

  -- bytes came out of the pipe, or it is at its end, or the owner waits
  abbrev pub after_drain : ℕ → OwnerAnswer E → OwnerMachine E → OwnerMachine E
  after_drain most (by.Got count noted) poll = after_got most count noted poll
  after_drain most by.Ended poll = record poll { next = PollSlot; is_at_end = true }
  after_drain most (by.WaitsAtPipe seat) poll = record poll { next = Pending }
  after_drain most answer poll = poll

  -- bytes went into the pipe, or none as the job's end is closed, or the owner waits
  abbrev pub after_fill : ℕ → OwnerAnswer E → OwnerMachine E → OwnerMachine E
  after_fill most (by.Took count noted) poll = after_got most count noted poll
  after_fill most by.Shut poll = record poll { next = Reply (Count 0) }
  after_fill most (by.WaitsAtPipe seat) poll = record poll { next = Pending }
  after_fill most answer poll = poll

  -- an item came out of the pipe, or it is at its end, or the owner waits
  abbrev pub after_receive : OwnerAnswer E → OwnerMachine E → OwnerMachine E
  after_receive (by.Received noted) poll = record poll { next = Reply Item; is_waking = noted }
  after_receive by.Ended poll = record poll { next = PollSlot; is_at_end = true }
  after_receive (by.WaitsAtPipe seat) poll = record poll { next = Pending }
  after_receive answer poll = poll

  -- the handle was dropped
  abbrev pub after_drop : OwnerAnswer E → OwnerMachine E → OwnerMachine E
  after_drop by.Dropped poll = record poll { state = Closed; next = Reply Done }
  after_drop answer poll = poll

  -- the handle came back, from a seek that went well with its position; or the owner waits
  abbrev pub after_slot : OwnerAnswer E → OwnerMachine E → OwnerMachine E
  after_slot (by.WaitsInSlot seat) poll = record poll { next = Pending }
  after_slot (by.Back why) poll =
      record poll { state = Idle; next = after_back poll.call poll.is_at_end why }
  after_slot (by.Sought place) poll =
      record poll { state = Idle; next = after_seek poll.state poll.call place }
  after_slot answer poll = poll

  -- the result of the operation came, or the owner waits
  abbrev pub after_result : OwnerAnswer E → OwnerMachine E → OwnerMachine E
  after_result by.Resulted poll = record poll { next = Reply Result }
  after_result (by.WaitsInSlot seat) poll = record poll { next = Pending }
  after_result answer poll = poll

  -- What follows an answer to this action. An answer to another one changes nothing.
  abbrev pub owner_by : OwnerAction E → OwnerAnswer E → OwnerMachine E → OwnerMachine E
  owner_by Begin answer poll = after_begin answer poll
  owner_by Close answer poll = after_close answer poll
  owner_by (Drain most) answer poll = after_drain most answer poll
  owner_by (Fill most) answer poll = after_fill most answer poll
  owner_by Receive answer poll = after_receive answer poll
  owner_by PollSlot answer poll = after_slot answer poll
  owner_by PollResult answer poll = after_result answer poll
  owner_by DropHandle answer poll = after_drop answer poll
  owner_by action answer poll = poll

  -- a poll that has to spend a note waits for that alone
  abbrev pub owner_after_wake : OwnerAnswer E → OwnerMachine E → OwnerMachine E
  owner_after_wake by.Delivered poll = record poll { is_waking = false }
  owner_after_wake answer poll = poll

  abbrev pub owner_in : Bool → OwnerAnswer E → OwnerMachine E → OwnerMachine E
  owner_in true answer poll = owner_after_wake answer poll
  owner_in false answer poll = owner_by poll.next answer poll

  -- the poll after an answer
  abbrev pub owner_after : OwnerMachine E → OwnerAnswer E → OwnerMachine E
  owner_after poll answer = owner_in poll.is_waking answer poll
