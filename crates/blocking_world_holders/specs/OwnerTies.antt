-- How owners hang together with what was seen: each with its cut.
use Rattle.std.specs.Prelude.{◌≡◌, ◌<◌, ◌≤◌, ◌+◌, ◌⊎◌, ◌||◌, ℕ, zero, suc, not, Bool, true, false}
use Rattle.std.specs.Prelude.{List, [], ◌∷◌, ◌++◌, length, take, slice_get, Option, Some, None}
use Rattle.std.specs.Prelude.{is_some, is_none}
use Rattle.blocking_core.specs.OwnerCalls.{OwnerMachine, has_pipe}
use Rattle.blocking_core.specs.Pipes.{room}
use Rattle.blocking_core.specs.Slots.{Slot, Content, Empty, Full, GivenUp, Abandoned}
use Rattle.blocking_core.specs.declared.io.Fault.{Fault}
use Rattle.blocking_core.specs.declared.unblock.OwnerAction.{OwnerAction}
use Rattle.blocking_core.specs.declared.unblock.OwnerAction.TheVariants as action
use Rattle.blocking_core.specs.declared.unblock.OwnerEnd.{OwnerEnd}
use Rattle.blocking_core.specs.declared.unblock.OwnerEnd.TheVariants.{Open, Shut}
use Rattle.blocking_core.specs.declared.unblock.Reply.{Reply}
use Rattle.blocking_core.specs.declared.unblock.Reply.TheVariants as reply
use Rattle.blocking_core.specs.declared.unblock.SessionKind.{SessionKind}
use Rattle.blocking_core.specs.declared.unblock.SessionKind.TheVariants as session_kind
use Rattle.blocking_core.specs.declared.unblock.State.{State}
use Rattle.blocking_core.specs.declared.unblock.State.TheVariants as state
use Rattle.blocking_world_laws.specs.Ends.{handle_answers, has_failure, has_failed_write, has_flush}
use Rattle.blocking_world_laws.specs.Ends.{last_is_end, came_back, IsReadBack, IsFlushedBack}
use Rattle.blocking_world_laws.specs.JobTable.{Kind, Reading, Writing, Streaming, Seeking}
use Rattle.blocking_world_laws.specs.JobTable.{Operating, JobAction, FindRoom, AskBytes, PutPiece}
use Rattle.blocking_world_laws.specs.JobTable.{Peek, OfferBytes, Consume, AskFlush, AskItem}
use Rattle.blocking_world_laws.specs.JobTable.{SendItem, CloseEnd, AskResult, PutResult, Finish}
use Rattle.blocking_world_laws.specs.JobTable.{Over, next_but_wake, is_over, fault, has_closed}
use Rattle.blocking_world_laws.specs.JobTable.{has_result, has_finished, has_given_up, AskSeek}
use Rattle.blocking_world_laws.specs.JobTable.{number}
use Rattle.blocking_world_laws.specs.Jobs.{holder}
use Rattle.blocking_world_laws.specs.OwnerLaws.{OwnerLaws}
use Rattle.blocking_world_laws.specs.OwnerSeats.{is_job_seated, pipe_seat, result_seat, slot_seat}
use Rattle.blocking_world_laws.specs.OwnerTable.{owner_next_but_wake, note_in, is_at_end}
use Rattle.blocking_world_laws.specs.OwnerTable as law
use Rattle.blocking_world_laws.specs.Passed.{gave, got, answered, was_put, data_of, accepted}
use Rattle.blocking_world_laws.specs.Passed.{peeked, taken as taken_by, removed, kind_in, is_serial}
use Rattle.blocking_world_laws.specs.Seen.{IsBeginning, events, acts_of, own, cut}
use Rattle.blocking_world_laws.specs.Sessions.{call, under_way, is_made, is_dropped, is_into_inner}
use Rattle.blocking_world_laws.specs.Sessions.{is_operation, is_owner_gone, has_begun}
use Rattle.blocking_world_laws.specs.Sessions.{was_asked_inner, last_session, is_shut, jobs_of}
use Rattle.blocking_world_laws.specs.Sessions.{kind_of_job, capacity}
use Rattle.blocking_world_laws.specs.Sessions as sessions
use Rattle.blocking_world_laws.specs.Steps.{owners}
use Rattle.blocking_world_laws.specs.Wakes.{is_waiting, was_woken}
use Rattle.blocking_world_laws.specs.declared.event.Act.{Act}
use Rattle.blocking_world_laws.specs.declared.event.Act.TheVariants.{Accepted, ResultGot}
use Rattle.blocking_world_laws.specs.declared.event.Event.{Event}
use Rattle.blocking_world_laws.specs.declared.event.Moment.{Moment}
use Rattle.blocking_world_laws.specs.declared.event.Party.TheVariants.{Owner as ByOwner}
use Rattle.blocking_world_laws.specs.declared.event.Reply.{Reply as Told}
use Rattle.blocking_world_laws.specs.declared.event.Reply.TheVariants as told
use Rattle.blocking_world_laws.specs.declared.step.HandleCall.{HandleCall}
use Rattle.blocking_world_laws.specs.declared.step.HandleCall.TheVariants as handle_call
use Rattle.blocking_world_holders.specs.Owners.{Owner, capacity_of, number_of, note_at, is_gone}
use Rattle.blocking_world_holders.specs.Owners.{is_no_more, poll_call_of, reply_as, last_item}
use Rattle.blocking_world_holders.specs.Sessions.{Session, goods_of}
use Rattle.blocking_world_holders.specs.declared.owner.OwnerStage.{OwnerStage}
use Rattle.blocking_world_holders.specs.declared.owner.OwnerStage.TheVariants as stage
use Rattle.blocking_world_holders.specs.declared.owner.PollEnd.{PollEnd}
use Rattle.blocking_world_holders.specs.declared.owner.PollEnd.TheVariants as poll_end
use Rattle.blocking_pool.specs.Jobs.{JobNumber}
use Rattle.blocking_pool.specs.Lists.{is_in}

-- ---- its polls

-- the call that is being polled
abbrev pub called_at : OwnerStage → Option HandleCall → Option HandleCall
called_at (stage.Polls poll) asked = asked
called_at (stage.Wakes poll note) asked = asked
called_at _ asked = None

-- what the job of a session is for, in the words of the laws
abbrev pub kind_as : SessionKind → Kind
kind_as session_kind.Reading = Reading
kind_as session_kind.Writing = Writing
kind_as session_kind.Streaming = Streaming
kind_as (session_kind.Seeking position) = Seeking position
kind_as session_kind.Operating = Operating

-- whether the owner's end of the pipe is open
abbrev pub is_end_open : OwnerEnd → Bool
is_end_open Open = true
is_end_open Shut = false

-- where the handle is, in the words of the laws
abbrev pub state_as : State → sessions.State
state_as state.Idle = sessions.Idle
state_as (state.Lent kind end) = sessions.In (kind_as kind) (is_end_open end)
state_as state.Closed = sessions.Closed

-- what a poll does that is over with this reply
abbrev pub say : Option Told → law.OwnerAction
say None = law.Rest
say (Some told) = law.Say told

-- What the machine does next that was asked for this, in the words of the laws, where this item or
-- result came out last. To drop its handle is to reply that all is done. Where it would deliver or
-- wait the law has no such thing.
abbrev pub action_as : ℕ → HandleCall → OwnerAction ℕ → law.OwnerAction
action_as x call action.Begin = law.Begin
action_as x call action.Close = law.CloseOwn
action_as x call (action.Drain most) = law.Drain most
action_as x call (action.Fill most) = law.Fill (data_of (Some call))
action_as x call action.Receive = law.Receive
action_as x call action.PollSlot = law.PollSlot
action_as x call action.PollResult = law.PollPlace
action_as x call action.DropHandle = law.Say told.Okay
action_as x call (action.Reply reply) = say (reply_as x reply)
action_as x call _ = law.Rest

-- the job whose note the newest of these acts took
abbrev pub newest_note : List Act → Option ℕ
newest_note [] = None
newest_note (act ∷ past) = note_in act

-- a reply that tells the end of the reader, or that all is done, comes after the handle came back
-- so; one that tells a position answers a seek, and one that tells a result an operation
abbrev pub EndAs : HandleCall → Reply ℕ → Option (List Event) → Type 0
EndAs (handle_call.Read (suc n)) (reply.Count zero) back = IsReadBack back
EndAs (handle_call.Seek goal) (reply.Position place) back = Unit {0}
EndAs call (reply.Position place) back = ⊥
EndAs call reply.Result back = is_operation (Some call) ≡ true
EndAs handle_call.Next reply.End back = IsReadBack back
EndAs handle_call.Flush reply.Done back = IsFlushedBack back
EndAs handle_call.Close reply.Done back = IsFlushedBack back
EndAs _ _ back = Unit {0}

-- a close that is all done has left no handle
abbrev pub IsGoneBy : Reply ℕ → HandleCall → State → Type 0
IsGoneBy reply.Done handle_call.Close at = at ≡ state.Closed
IsGoneBy _ _ at = Unit {0}

-- whether a session of this kind has a pipe
abbrev pub is_piped_kind : Kind → Bool
is_piped_kind (Seeking goal) = false
is_piped_kind Operating = false
is_piped_kind kind = true

-- who looks for the handle has closed the own end of the pipe, if there is one; or reads or takes
-- items, and saw the other end closed
abbrev pub LooksFrom : HandleCall → State → Bool → Type 0
LooksFrom call (state.Lent kind Shut) false = Unit {0}
LooksFrom call (state.Lent kind Open) false = has_pipe kind ≡ false
LooksFrom (handle_call.Read most) (state.Lent session_kind.Reading Open) true = Unit {0}
LooksFrom handle_call.Next (state.Lent session_kind.Streaming Open) true = Unit {0}
LooksFrom _ _ _ = ⊥

-- a call that begins a session reads some bytes, or writes some, or wants an item, or seeks, or
-- operates
abbrev pub BeginsBy : HandleCall → Type 0
BeginsBy (handle_call.Read (suc n)) = Unit {0}
BeginsBy (handle_call.Write (byte ∷ bytes)) = Unit {0}
BeginsBy handle_call.Next = Unit {0}
BeginsBy (handle_call.Seek goal) = Unit {0}
BeginsBy handle_call.Operate = Unit {0}
BeginsBy handle_call.OperateAgain = Unit {0}
BeginsBy _ = ⊥

-- the handle is with a job, and there is a pipe, whose own end is open
abbrev pub IsLentOpen : State → Type 0
IsLentOpen (state.Lent kind Open) = has_pipe kind ≡ true
IsLentOpen _ = ⊥

-- whether a reply is told to those who ask an owner
abbrev pub is_told : Reply ℕ → Bool
is_told reply.Closed = false
is_told _ = true

-- What is next fits the call, where the handle is, whether the end of the pipe was just seen, and
-- what came back in the poll.
abbrev pub FitsNext : HandleCall → OwnerMachine ℕ → OwnerAction ℕ → Bool → Option (List Event)
    → Type 0
FitsNext call poll action.Begin ended back =
    BeginsBy call × (poll.state ≡ state.Idle) × (poll.is_at_end ≡ false)
FitsNext call poll action.Close ended back = IsLentOpen poll.state × (poll.is_at_end ≡ false)
FitsNext call poll (action.Drain most) ended back =
    (call ≡ handle_call.Read most) × (0 < most)
    × (poll.state ≡ state.Lent session_kind.Reading Open) × (poll.is_at_end ≡ false)
FitsNext call poll (action.Fill most) ended back =
    (bytes : List ℕ) × (call ≡ handle_call.Write bytes) × (most ≡ length bytes) × (0 < most)
    × (poll.state ≡ state.Lent session_kind.Writing Open) × (poll.is_at_end ≡ false)
FitsNext call poll action.Receive ended back =
    (call ≡ handle_call.Next) × (poll.state ≡ state.Lent session_kind.Streaming Open)
    × (poll.is_at_end ≡ false)
FitsNext call poll action.PollResult ended back =
    (is_operation (Some call) ≡ true) × (poll.state ≡ state.Lent session_kind.Operating Open)
    × (poll.is_at_end ≡ false)
FitsNext call poll action.PollSlot ended back =
    LooksFrom call poll.state poll.is_at_end × (poll.is_at_end ≡ ended)
FitsNext call poll action.DropHandle ended back =
    (call ≡ handle_call.Close) × (poll.state ≡ state.Idle) × IsFlushedBack back
FitsNext call poll (action.Reply reply) ended back =
    (is_told reply ≡ true) × EndAs call reply back × IsGoneBy reply call poll.state
FitsNext call poll _ ended back = ⊥

-- A poll that is under way, by the item or result that came out last, the call that was asked last,
-- where the handle is, what is next, whether the end of the pipe was just seen, and what came back
-- in the poll.
pub record PollAs (poll : OwnerMachine ℕ) (x : ℕ) (asked : Option HandleCall) (at : sessions.State)
    (next : law.OwnerAction) (ended : Bool)
    (back : Option (List Event)) : Type 0 where
  pub call : HandleCall
  pub asked_is : asked ≡ Some call
  -- whether its session had begun before
  pub begun : Bool
  pub call_is : poll.call ≡ poll_call_of begun call
  pub at_is : at ≡ state_as poll.state
  pub next_is : next ≡ action_as x call poll.next
  pub fits : FitsNext call poll poll.next ended back

-- where an owner is in its polls, by the same, and by the note that it has to deliver
abbrev pub StageBy : OwnerStage → ℕ → Option HandleCall → sessions.State → law.OwnerAction → Bool
    → Option (List Event) → Option ℕ → Type 0
StageBy (stage.Rests here end) x asked at next ended back note =
    (at ≡ state_as here) × (next ≡ law.Rest) × (note ≡ None)
StageBy (stage.Polls poll) x asked at next ended back note =
    PollAs poll x asked at next ended back × (poll.is_waking ≡ false) × (note ≡ None)
StageBy (stage.Wakes poll number) x asked at next ended back note =
    PollAs poll x asked at next ended back × (poll.is_waking ≡ true) × (note ≡ Some number.serial)
StageBy stage.Dropped x asked at next ended back note = (next ≡ law.Rest) × (note ≡ None)
StageBy stage.TakenBack x asked at next ended back note = (next ≡ law.Rest) × (note ≡ None)

abbrev pub StageAs : OwnerStage → ℕ → List Event → Type 0
StageAs here x cut =
    StageBy here x (call (own cut)) (sessions.state (own cut)) (owner_next_but_wake cut (own cut))
    (is_at_end (own cut)) (came_back cut)
    (newest_note (own cut))

-- ---- its operations

-- whether the result of the last session's operation came out of its place
abbrev pub has_found : List Act → Bool
has_found [] = false
has_found (Accepted s ∷ past) = false
has_found (ResultGot n ∷ past) = true
has_found (_ ∷ past) = has_found past

-- An operation looks for its result once its session has begun, and until that was found; what it
-- does before that it does where its session hasn't begun.
abbrev pub IsOperating : OwnerAction ℕ → Bool → Bool → Bool → Type 0
IsOperating action.PollResult operates begun found = (begun ≡ true) × (found ≡ false)
IsOperating (action.Reply reply) operates begun found = Unit {0}
IsOperating _ operates begun found = operates ≡ true → begun ≡ false

-- How the last poll ended. An operation that waits elsewhere than for its result hasn't begun its
-- session.
abbrev pub EndsAs : PollEnd → State → Bool → Bool → Bool → Bool → Type 0
EndsAs poll_end.Replied at waits operates begun found = waits ≡ false
EndsAs poll_end.Waits at waits operates begun found =
    (waits ≡ true) × (operates ≡ true → begun ≡ false)
EndsAs poll_end.WaitsForResult at waits operates begun found =
    (waits ≡ true) × (operates ≡ true) × (begun ≡ true) × (found ≡ false)
    × (at ≡ state.Lent session_kind.Operating Open)

-- where an owner is in its operations, by whether it waits, whether it was asked for an operation,
-- whether the session of that has begun, and whether the result was found
abbrev pub OperatesBy : OwnerStage → Bool → Bool → Bool → Bool → Type 0
OperatesBy (stage.Rests at end) waits operates begun found =
    EndsAs end at waits operates begun found
OperatesBy (stage.Polls poll) waits operates begun found =
    IsOperating poll.next operates begun found
OperatesBy (stage.Wakes poll number) waits operates begun found =
    IsOperating poll.next operates begun found
OperatesBy _ waits operates begun found = Unit {0}

abbrev pub OperatesAs : Owner → List Act → Type 0
OperatesAs owner acts = OperatesBy owner.stage (is_waiting acts) (is_operation owner.asked)
    (has_begun acts) (has_found acts)

-- ---- what passes between it and its job

-- What a job that reads was given and what it put, by its acts: all the bytes of its reader, those
-- that are or were in the pipe, those of the last answer, whether its reader failed, and whether it
-- ended; and what it wrote.
pub record Passed : Type 0 where
  pub given : List ℕ
  pub put : List ℕ
  pub held : List ℕ
  pub failed : Bool
  pub ended : Bool
  pub written : List ℕ

abbrev pub passed_by : List Act → Passed
passed_by acts = record {
  given = gave acts;
  put = was_put acts;
  held = answered acts;
  failed = has_failure (handle_answers acts);
  ended = last_is_end (handle_answers acts);
  written = taken_by acts;
}

-- All that a job was given is in the pipe but these bytes, and nothing failed.
abbrev pub IsSound : List ℕ → Passed → Type 0
IsSound left passed = (passed.given ≡ passed.put ++ left) × (passed.failed ≡ false)

-- All that a job was given is in the pipe, up to the end of its reader or to a failure; or it was
-- stopped before.
abbrev pub GaveAll : Bool → Passed → Type 0
GaveAll true passed = Unit {0}
GaveAll false passed = (passed.given ≡ passed.put) × (passed.failed || passed.ended ≡ true)

-- What a job has given on by its next action, how much room it found for that, whether its end of
-- the pipe is open, and whether it was stopped.
abbrev pub PassedAs : JobAction → ℕ → Bool → Bool → Passed → Type 0
PassedAs FindRoom room lasts stopped passed = (lasts ≡ true) × IsSound [] passed
PassedAs (AskBytes most) room lasts stopped passed =
    (lasts ≡ true) × IsSound [] passed × (most ≤ room)
PassedAs (PutPiece bytes) room lasts stopped passed =
    (lasts ≡ true) × IsSound bytes passed × (length bytes ≤ room) × (passed.held ≡ bytes)
PassedAs AskItem room lasts stopped passed = (lasts ≡ true) × IsSound [] passed
PassedAs (SendItem x) room lasts stopped passed =
    (lasts ≡ true) × IsSound (x ∷ []) passed × (passed.held ≡ x ∷ [])
PassedAs CloseEnd room lasts stopped passed = (lasts ≡ true) × GaveAll stopped passed
PassedAs Finish room lasts stopped passed = (lasts ≡ false) × GaveAll stopped passed
PassedAs Over room lasts stopped passed = GaveAll stopped passed
PassedAs _ room lasts stopped passed = ⊥

-- Which session it is, what passes through its pipe, and that this holds no more than it may.
pub record LentAs (s : Session) (kind : Kind) (capacity : ℕ) (last : Option sessions.Session)
    (shut : Bool) : Type 0 where
  pub begun : last ≡ Some (record { serial = s.number.serial; kind = kind })
  pub goods : s.goods ≡ goods_of kind
  pub some : 0 < capacity
  pub holds : s.pipe.capacity ≡ capacity
  pub within : length s.pipe.items ≤ capacity
  pub shut_is : shut ≡ not s.pipe.is_owner_open

-- What went through the pipe of a session that reads, or takes items: what the job put is what its
-- owner took and what is inside, and a beginning of what the job was given, which is no more than
-- what its owner took, what the pipe holds, and so many that the job may have in hand.
pub record FlowAs (hand : ℕ) (s : Session) (shut : Bool) (taken : List ℕ) (next : JobAction)
    (closed given_up : Bool) (passed : Passed) : Type 0 where
  pub closed_is : closed ≡ not s.pipe.is_job_open
  pub inside : passed.put ≡ taken ++ s.pipe.items
  pub put : IsBeginning passed.put passed.given
  pub bounded : length passed.given ≤ length taken + s.pipe.capacity + hand
  pub passed_is : PassedAs next (room s.pipe) s.pipe.is_job_open (shut || given_up) passed
  -- a job that takes items meets no failure
  pub sound : hand ≡ 1 → passed.failed ≡ false
  -- a job that reads or takes items writes nothing
  pub unwritten : passed.written ≡ []
  -- a job that is over has closed its end, unless it gave up
  pub unclosed : is_over next ≡ true → s.pipe.is_job_open ≡ true → given_up ≡ true

-- What a job that writes did, by its acts: what its writer took, how many bytes left the pipe, the
-- piece that it found last, whether a write failed, whether the writer was flushed, and its fault;
-- and what it was given.
pub record Wrote : Type 0 where
  pub taken : List ℕ
  pub removed : ℕ
  pub found : List ℕ
  pub failed : Bool
  pub flushed : Bool
  pub fault : Option (Fault ℕ)
  pub given : List ℕ

abbrev pub wrote_by : List Act → Wrote
wrote_by acts = record {
  taken = taken_by acts;
  removed = removed acts;
  found = peeked acts;
  failed = has_failed_write (handle_answers acts);
  flushed = has_flush (handle_answers acts);
  fault = fault Writing acts;
  given = gave acts;
}

-- Of a job that met no fault nothing is left inside, and its owner's end is closed, so that nothing
-- will be.
abbrev pub IsDrained : List ℕ → Bool → Option (Fault ℕ) → Type 0
IsDrained items shut why = why ≡ None → (items ≡ []) × (shut ≡ true)

-- And its writer was flushed.
abbrev pub IsDone : List ℕ → Bool → Wrote → Type 0
IsDone items shut wrote =
    IsDrained items shut wrote.fault × (wrote.fault ≡ None → wrote.flushed ≡ true)

-- What the writer of a job took, by the job's next action: what left the pipe, before these bytes,
-- and where they are about to leave it, what is at its front; what it is offered is at the front.
-- Before the job closes its end it is drained or has a fault, and flushed.
abbrev pub WrittenAs : JobAction → List ℕ → List ℕ → Bool → Bool → Bool → Wrote → Type 0
WrittenAs Peek out items lasts shut given_up wrote = (lasts ≡ true) × (wrote.taken ≡ out)
WrittenAs (OfferBytes piece) out items lasts shut given_up wrote =
    (lasts ≡ true) × (wrote.taken ≡ out) × IsBeginning piece items × (wrote.found ≡ piece)
WrittenAs (Consume n) out items lasts shut given_up wrote =
    (lasts ≡ true) × (wrote.taken ≡ out ++ take n items) × (n ≤ length items)
WrittenAs AskFlush out items lasts shut given_up wrote =
    (lasts ≡ true) × (wrote.taken ≡ out) × IsDrained items shut wrote.fault
WrittenAs CloseEnd out items lasts shut given_up wrote =
    (lasts ≡ true) × (wrote.taken ≡ out) × IsDone items shut wrote
WrittenAs Finish out items lasts shut given_up wrote =
    (lasts ≡ false) × (wrote.taken ≡ out) × IsDone items shut wrote
WrittenAs Over out items lasts shut given_up wrote = given_up ≡ false
    → (wrote.taken ≡ out) × IsDone items shut wrote
WrittenAs _ out items lasts shut given_up wrote = ⊥

-- What went through the pipe of a session that writes: what its owner's writes brought in is what
-- left it and what is inside, and the writer took a beginning of that. Its owner got nothing, and
-- its job was given nothing.
pub record WriteFlowAs (s : Session) (shut : Bool) (got accepted : List ℕ) (next : JobAction)
    (closed given_up : Bool) (wrote : Wrote) : Type 0 where
  pub closed_is : closed ≡ not s.pipe.is_job_open
  pub out : List ℕ
  pub inside : accepted ≡ out ++ s.pipe.items
  pub removed : wrote.removed ≡ length out
  pub begun : IsBeginning wrote.taken accepted
  pub written_is : WrittenAs next out s.pipe.items s.pipe.is_job_open shut given_up wrote
  -- a write that failed is a fault
  pub sound : wrote.fault ≡ None → wrote.failed ≡ false
  pub ungot : got ≡ []
  pub ungiven : wrote.given ≡ []
  -- a job that is over has closed its end, unless it gave up
  pub unclosed : is_over next ≡ true → s.pipe.is_job_open ≡ true → given_up ≡ true

-- Through the pipe that a session without one has nothing went, and nobody sits there.
pub record PlainFlow (s : Session) (got accepted : List ℕ) (closed : Bool)
    (given found written : List ℕ) : Type 0 where
  pub closed_is : closed ≡ not s.pipe.is_job_open
  pub inside : s.pipe.items ≡ []
  pub unseated : s.pipe.owner_seat ≡ None
  pub ungot : got ≡ []
  pub unfilled : accepted ≡ []
  pub ungiven : given ≡ []
  pub unfound : found ≡ []
  pub unwritten : written ≡ []

-- A job that seeks seeks, puts its result, or is over.
abbrev pub IsSeekAction : JobAction → Type 0
IsSeekAction AskSeek = Unit {0}
IsSeekAction Finish = Unit {0}
IsSeekAction Over = Unit {0}
IsSeekAction _ = ⊥

-- A session that seeks has no pipe, and once its job finished it tells where that found the handle.
pub record SeekFlowAs (s : Session) (got accepted : List ℕ) (next : JobAction) (acts : List Act) :
    Type 0 where
  pub plain : PlainFlow s got accepted (has_closed acts) (gave acts) (peeked acts) (taken_by acts)
  pub next_is : IsSeekAction next
  pub place : has_finished acts ≡ true → s.left ≡ number acts

-- A job that runs an operation runs it, puts its result, then its own, or is over.
abbrev pub IsOperationAction : JobAction → Type 0
IsOperationAction AskResult = Unit {0}
IsOperationAction PutResult = Unit {0}
IsOperationAction Finish = Unit {0}
IsOperationAction Over = Unit {0}
IsOperationAction _ = ⊥

-- A session that runs an operation has no pipe.
pub record OperationFlowAs (s : Session) (got accepted : List ℕ) (next : JobAction)
    (acts : List Act) : Type 0 where
  pub plain : PlainFlow s got accepted (has_closed acts) (gave acts) (peeked acts) (taken_by acts)
  pub next_is : IsOperationAction next

-- what went through the pipe of a session of this kind
abbrev pub Flows : Kind → Session → Bool → List ℕ → List ℕ → JobAction → List Act → Type 0
Flows Reading s shut got accepted next acts =
    FlowAs 0 s shut got next (has_closed acts) (has_given_up acts) (passed_by acts)
Flows Streaming s shut got accepted next acts =
    FlowAs 1 s shut got next (has_closed acts) (has_given_up acts) (passed_by acts)
Flows Writing s shut got accepted next acts =
    WriteFlowAs s shut got accepted next (has_closed acts) (has_given_up acts) (wrote_by acts)
Flows (Seeking goal) s shut got accepted next acts = SeekFlowAs s got accepted next acts
Flows Operating s shut got accepted next acts = OperationFlowAs s got accepted next acts
Flows _ s shut got accepted next acts = ⊥

-- what stands in the slot, by whether the job finished or gave up, whether the handle is back, and
-- the job's fault
abbrev pub SlotAs : Content (Option (Fault ℕ)) → Bool → Bool → Bool → Option (Fault ℕ) → Type 0
SlotAs Empty finished given_up back why = (finished ≡ back) × (given_up ≡ false)
SlotAs (Full found) finished given_up back why =
    (finished ≡ true) × (given_up ≡ false) × (back ≡ false) × (found ≡ why)
SlotAs GivenUp finished given_up back why = (finished ≡ false) × (given_up ≡ true) × (back ≡ false)
SlotAs (Abandoned over) finished given_up back why = ⊥

-- whether a job looks for room, or for bytes, or sends an item, by its next action
abbrev pub is_finding : JobAction → Bool
is_finding FindRoom = true
is_finding (SendItem x) = true
is_finding Peek = true
is_finding _ = false

-- a job that reads or takes items can't go on at a full pipe, and one that writes not at an empty
-- one
abbrev pub IsStuckIn : Kind → Session → Type 0
IsStuckIn Writing s = s.pipe.items ≡ []
IsStuckIn kind s = room s.pipe ≡ 0

-- and its owner, the other way round
abbrev pub IsOwnerStuckIn : Kind → Session → Type 0
IsOwnerStuckIn Writing s = room s.pipe ≡ 0
IsOwnerStuckIn kind s = s.pipe.items ≡ []

-- What came of the job: it is over once it finished or gave up, and gave up only where its owner
-- was dropped.
pub record ResultAs (content : Content (Option (Fault ℕ)))
    (finished given_up over back dropped : Bool) (why : Option (Fault ℕ)) : Type 0 where
  pub slot : SlotAs content finished given_up back why
  pub over_is : finished || given_up ≡ over
  pub let_go : given_up ≡ true → dropped ≡ true

-- Who is seated has reason to be: a job that looks for room or for bytes, or sends an item, or gave
-- up, where it can't go on and its owner's end is open; an owner at a pipe where it can't go on and
-- the job's end is open; an owner at the slot of a job that isn't over, once an end of the pipe was
-- closed, if there is a pipe.
pub record HaveReason (s : Session) (kind : Kind) (waits : Bool) : Type 0 where
  pub job : is_some s.pipe.job_seat ≡ true
      → (waits ≡ true) × IsStuckIn kind s × (s.pipe.is_owner_open ≡ true)
  pub owner : is_some s.pipe.owner_seat ≡ true → IsOwnerStuckIn kind s × (s.pipe.is_job_open ≡ true)
  pub slot :
      is_some s.slot.seat ≡ true
      → (s.slot.content ≡ Empty) × ((s.pipe.is_owner_open ≡ false)
      ⊎ ((s.pipe.is_job_open ≡ false) ⊎ (is_piped_kind kind ≡ false)))

-- the job's seat, by whether it is seated
abbrev pub seat_of : Bool → JobNumber → Option JobNumber
seat_of true number = Some number
seat_of false number = None

-- Who is seated: the job in the pipe, the owner there, and the owner in the slot.
pub record SeatsAs (s : Session) (kind : Kind) (waits job_seated pipe_seated slot_seated : Bool) :
    Type 0 where
  pub job : s.pipe.job_seat ≡ seat_of job_seated s.number
  pub owner : pipe_seated ≡ is_some s.pipe.owner_seat
  pub slot : slot_seated ≡ is_some s.slot.seat
  pub reason : HaveReason s kind waits

-- The last session, by what its owner's acts tell: of which kind it is, which it is, whether the
-- owner's end is closed, whether the handle is back, whether the owner was dropped, what it got,
-- and what was accepted of its writes; by the acts of its job; and by who is seated.
pub record SessionAs (s : Session) (kind : Kind) (capacity : ℕ) (last : Option sessions.Session)
    (shut back dropped : Bool) (got accepted : List ℕ)
    (acts : List Act) (job_seated pipe_seated slot_seated : Bool) : Type 0 where
  pub lent : LentAs s kind capacity last shut
  pub flow : Flows kind s shut got accepted (next_but_wake kind acts) acts
  pub result : ResultAs s.slot.content (has_finished acts) (has_given_up acts)
      (is_over (next_but_wake kind acts)) back dropped (fault kind acts)
  pub seats : SeatsAs s kind (is_finding (next_but_wake kind acts) || has_given_up acts) job_seated
      pipe_seated slot_seated

-- the last session, if there was one, by the same of each job
abbrev pub LastBy : Option Session → (Kind → ℕ) → Option sessions.Session → Bool → Bool → Bool
    → List ℕ → List ℕ → (ℕ → List Act) → Bool → Bool → Bool → Type 0
LastBy None capacity last shut back dropped got accepted acts job_seated pipe_seated slot_seated =
    (last ≡ None) × (got ≡ []) × (accepted ≡ [])
LastBy (Some s) capacity last shut back dropped got accepted acts job_seated pipe_seated
    slot_seated =
    SessionAs s (kind_in last) (capacity (kind_in last)) last shut back dropped got accepted
    (acts s.number.serial) job_seated pipe_seated slot_seated

abbrev pub LastAs : Option Session → (Kind → ℕ) → List Event → Type 0
LastAs held capacity cut =
    LastBy held capacity (last_session (own cut)) (is_shut (own cut))
    (is_none (sessions.session (own cut))) (is_dropped (own cut))
    (got (own cut)) (accepted (own cut)) (λ s. acts_of s cut) (is_job_seated cut) (pipe_seat cut)
    (slot_seat cut)

-- ---- the place of a result

-- The result of an operation was put before its job puts its own, and that of no other job.
abbrev pub IsPutBy : Kind → JobAction → Bool → Bool → Type 0
IsPutBy Operating Finish given_up put = put ≡ true
IsPutBy Operating Over given_up put = given_up ≡ false → put ≡ true
IsPutBy kind next given_up put = put ≡ false

-- what stands in the place, by whether the job put the result, whether the owner found it, and the
-- number that the job was answered
abbrev pub HoldsResult : Content ℕ → Bool → Bool → ℕ → Type 0
HoldsResult Empty put found n = put ≡ found
HoldsResult (Full m) put found n = (put ≡ true) × (found ≡ false) × (m ≡ n)
HoldsResult _ put found n = ⊥

-- The place of a result, by what its job does next, whether that gave up, whether it put the
-- result, whether the owner found it, the number, and whether the owner is seated. Who is seated
-- there has reason to be: its operation's result wasn't put.
pub record PlaceAs (place : Slot ℕ (Unit {0})) (kind : Kind) (next : JobAction)
    (given_up put found : Bool) (n : ℕ) (seated : Bool) : Type 0 where
  pub put_is : IsPutBy kind next given_up put
  pub content : HoldsResult place.content put found n
  pub seat : seated ≡ is_some place.seat
  pub reason : is_some place.seat ≡ true → (kind ≡ Operating) × (put ≡ false)

-- the same, by the acts of the job
abbrev pub PlaceBy : Slot ℕ (Unit {0}) → Kind → List Act → Bool → Bool → Type 0
PlaceBy place kind acts found seated =
    PlaceAs place kind (next_but_wake kind acts) (has_given_up acts) (has_result acts) found
    (number acts) seated

-- the place of the last session's result, if there was one
abbrev pub PlaceFor : Option Session → Kind → (ℕ → List Act) → Bool → Bool → Type 0
PlaceFor None kind acts found seated = Unit {0}
PlaceFor (Some s) kind acts found seated = PlaceBy s.result kind (acts s.number.serial) found seated

abbrev pub PlaceIn : Option Session → List Event → Type 0
PlaceIn held cut = PlaceFor held (kind_in (last_session (own cut))) (λ s. acts_of s cut)
    (has_found (own cut)) (result_seat cut)

-- a poll that saw the end of the pipe, and looks for the handle, found it empty, with the job's end
-- closed and its own open
abbrev pub IsAtEnd : Session → Type 0
IsAtEnd s = (s.pipe.items ≡ []) × (s.pipe.is_job_open ≡ false) × (s.pipe.is_owner_open ≡ true)

abbrev pub EndedIn : Option Session → Type 0
EndedIn None = ⊥
EndedIn (Some s) = IsAtEnd s

-- whether the owner is seated
abbrev pub is_seated : Option Session → Bool
is_seated None = false
is_seated (Some s) = is_some s.pipe.owner_seat || (is_some s.slot.seat || is_some s.result.seat)

-- ---- one owner

-- Whether the owner was dropped, whether it is no more, and whether its handle was asked for for
-- good, which then its last call does.
abbrev pub GoneBy : OwnerStage → Option HandleCall → List Act → Type 0
GoneBy here asked acts = (is_dropped acts ≡ is_gone here) × (is_owner_gone acts ≡ is_no_more here)
    × (was_asked_inner acts ≡ is_into_inner asked)

-- An owner, by its cut: what it did itself, and what its jobs did.
pub record OwnerAs (owner : Owner) (cut : List Event) : Type 0 where
  pub made : is_made (own cut) ≡ true
  pub gone : GoneBy owner.stage owner.asked (own cut)
  pub asked : call (own cut) ≡ owner.asked
  pub polled : under_way (own cut) ≡ called_at owner.stage owner.asked
  pub bytes : (kind : Kind) → capacity kind (own cut) ≡ capacity_of owner kind
  pub stage : StageAs owner.stage (last_item owner.session) cut
  pub operates : OperatesAs owner (own cut)
  pub last : LastAs owner.session (capacity_of owner) cut
  pub place : PlaceIn owner.session cut
  pub ended : is_at_end (own cut) ≡ true → EndedIn owner.session
  -- a job of an earlier session is over but for the waker that it has to call
  pub earlier :
      (s : ℕ) → is_in s (jobs_of (own cut)) ≡ true
      → is_serial (last_session (own cut)) (Some s) ≡ false
      → next_but_wake (kind_of_job s (own cut)) (acts_of s cut) ≡ Over
  -- the note that it has to deliver is of the last session's job
  pub noted : (number : JobNumber) → note_at owner.stage ≡ Some number
      → number_of owner ≡ Some number
  -- an owner that waits is there, and was woken, or sits in a seat
  pub told : is_waiting (own cut) ≡ true
      → (is_gone owner.stage ≡ false) × ((was_woken cut ≡ true) ⊎ (is_seated owner.session ≡ true))

-- ---- all owners

-- Each owner is tied to its cut, and holds the jobs that its sessions began with.
pub record Owned (row : List Owner) (past : List Moment) : Type 0 where
  pub count : length row ≡ owners past
  pub each : (h : ℕ) (owner : Owner) → slice_get row h ≡ Some owner
      → OwnerAs owner (cut h (events past))
  -- nothing was seen yet of an owner that isn't there, nor of a job that nobody holds
  pub unborn : (h : ℕ) → length row ≤ h → cut h (events past) ≡ []
  pub unheld : (s : ℕ) → holder past s ≡ None → acts_of s (events past) ≡ []
  pub begun : (h s : ℕ) → holder past s ≡ Some (ByOwner h)
      → is_in s (jobs_of (own (cut h (events past)))) ≡ true
  pub held : (h s : ℕ) → is_in s (jobs_of (own (cut h (events past)))) ≡ true
      → holder past s ≡ Some (ByOwner h)
  -- the acts of its jobs stand all in its cut
  pub acts : (h s : ℕ) → holder past s ≡ Some (ByOwner h)
      → acts_of s (cut h (events past)) ≡ acts_of s (events past)

-- the tie of the owners, and their laws
pub record OwnersHold (row : List Owner) (past : List Moment) : Type 0 where
  pub tied : Owned row past
  pub laws : (h : ℕ) → OwnerLaws (cut h (events past))
