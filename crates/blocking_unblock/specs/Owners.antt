-- What a poll of an owner does: where the handle is, what it may answer to each action, and what
-- its reply says of it.
use Rattle.std.specs.Prelude.{◌≡◌, ◌+◌, ◌<◌, ◌≤◌, ℕ, if◌then◌else◌, Bool, true, false, List, []}
use Rattle.std.specs.Prelude.{◌∷◌, Option, Some, None, IsSome, Result, Ok, Err}
use Rattle.blocking_core.specs.OwnerCalls.{OwnerMachine, new_poll, owner_next, owner_after, table}
use Rattle.blocking_core.specs.OwnerCalls.{has_pipe}
use Rattle.blocking_core.specs.declared.io.Fault.{Fault}
use Rattle.blocking_core.specs.declared.io.Fault.TheVariants as fault
use Rattle.blocking_core.specs.declared.io.JobFault.{JobFault}
use Rattle.blocking_core.specs.declared.io.JobFault.TheVariants as job
use Rattle.blocking_core.specs.declared.pipe.Drained.{Drained}
use Rattle.blocking_core.specs.declared.pipe.Drained.TheVariants as drained
use Rattle.blocking_core.specs.declared.pipe.Filled.{Filled}
use Rattle.blocking_core.specs.declared.pipe.Filled.TheVariants as filled
use Rattle.blocking_pool.specs.declared.pool.answer.Refusal.{Refusal}
use Rattle.blocking_pool.specs.declared.pool.answer.Refused.{Refused}
use Rattle.blocking_pool.specs.declared.pool.token.WakeNote.{WakeNote}
use Rattle.blocking_core.specs.declared.unblock.PollCall.{PollCall}
use Rattle.blocking_core.specs.declared.unblock.PollCall.TheVariants.{Read, Write, Next}
use Rattle.blocking_core.specs.declared.unblock.OwnerEnd.TheVariants.{Open, Shut}
use Rattle.blocking_core.specs.declared.unblock.SessionKind.{SessionKind}
use Rattle.blocking_core.specs.declared.unblock.SessionKind.TheVariants as kind
use Rattle.blocking_core.specs.declared.unblock.State.{State}
use Rattle.blocking_core.specs.declared.unblock.State.TheVariants as state
use Rattle.blocking_core.specs.declared.unblock.Reply.{Reply}
use Rattle.blocking_core.specs.declared.unblock.Reply.TheVariants as reply
use Rattle.blocking_core.specs.declared.unblock.OwnerAction.{OwnerAction}
use Rattle.blocking_core.specs.declared.unblock.OwnerAction.TheVariants as act
use Rattle.blocking_core.specs.declared.unblock.OwnerAnswer.{OwnerAnswer}
use Rattle.blocking_core.specs.declared.unblock.OwnerAnswer.TheVariants as by
use Rattle.futures.specs.declared.task.Poll.{Poll}
use Rattle.futures.specs.declared.task.Poll.TheVariants.{Ready, Pending}
use Rattle.std.specs.declared.io.Error.{Error}
use Rattle.blocking_unblock.specs.declared.handle_state.HandleState.{HandleState}
use Rattle.blocking_unblock.specs.declared.handle_state.HandleState.TheVariants as place
use Rattle.blocking_unblock.specs.declared.session.Side.{Side}
use Rattle.blocking_unblock.specs.declared.session.Side.TheVariants as side

-- whether there is a value
abbrev pub has : {A : Type 0} → Option A → Bool
has (Some value) = true
has None = false

-- the note of the job that comes with a drain
abbrev pub note_of_drain : Drained → Option WakeNote
note_of_drain (drained.Got count note) = note
note_of_drain drained.Ended = None
note_of_drain (drained.Waits seat) = None

-- the note of the job that comes with a fill
abbrev pub note_of_fill : Filled → Option WakeNote
note_of_fill (filled.Took count note) = note
note_of_fill filled.Shut = None
note_of_fill (filled.Waits seat) = None

-- how many bytes a call may bring
abbrev pub wanted : PollCall → ℕ
wanted (Read most) = most
wanted call = 0

-- how many bytes a call has to hand on
abbrev pub offered : PollCall → ℕ
offered (Write most) = most
offered call = 0

-- whether a call goes on in the session that is under way: a read, a write or the next item in one
-- of its own that is open
abbrev pub goes_on : PollCall → State → Bool
goes_on (Read most) (state.Lent kind.Reading Open) = true
goes_on (Write most) (state.Lent kind.Writing Open) = true
goes_on Next (state.Lent kind.Streaming Open) = true
goes_on call now = false

-- no pipe is open at its owner's end
abbrev pub IsLetGo : State → Type 0
IsLetGo (state.Lent kind end) = has_pipe kind ≡ true → end ≡ Shut
IsLetGo now = Unit {0}

-- whether the session of an operation is under way
abbrev pub operates : State → Bool
operates (state.Lent kind.Operating Open) = true
operates now = false

module _ {T I H : Type 0} where
  -- how many bytes or items crossed the pipe of a session: into it from its owner, or out of it to
  -- its owner
  abbrev pub crossed : Side T I H → ℕ
  crossed (side.Reading end way_back) = end.hand.received
  crossed (side.Writing end way_back) = end.sent
  crossed (side.Streaming end way_back) = end.received
  crossed (side.Seeking to way_back) = 0
  crossed (side.Operating way_back) = 0

  -- its owner's end of the pipe has seen that nothing comes any more
  abbrev pub SawEndOf : Side T I H → Type 0
  SawEndOf (side.Reading end way_back) = IsSome end.ended
  SawEndOf (side.Streaming end way_back) = IsSome end.ended
  SawEndOf other = ⊥

  -- whether the handle of a session was taken out of its slot
  abbrev pub is_back : Side T I H → Bool
  is_back (side.Reading end way_back) = way_back.is_back
  is_back (side.Writing end way_back) = way_back.is_back
  is_back (side.Streaming end way_back) = way_back.is_back
  is_back (side.Seeking to way_back) = way_back.is_back
  is_back (side.Operating way_back) = way_back.is_back

  -- the kind of a session
  abbrev pub kind_of : Side T I H → SessionKind
  kind_of (side.Reading end way_back) = kind.Reading
  kind_of (side.Writing end way_back) = kind.Writing
  kind_of (side.Streaming end way_back) = kind.Streaming
  kind_of (side.Seeking to way_back) = kind.Seeking to
  kind_of (side.Operating way_back) = kind.Operating

  -- where the handle is: with its owner, with the job of a session of some kind whose end on the
  -- owner's side stands so, or nowhere
  abbrev pub state_of : HandleState T I H → State
  state_of (place.Idle handle) = state.Idle
  state_of (place.Lent session) = state.Lent (kind_of session.side) session.owner_end
  state_of place.Closed = state.Closed

  -- whether the handle of the session that is under way was taken out of its slot, and is nowhere
  -- now
  abbrev pub is_lost : HandleState T I H → Bool
  is_lost (place.Lent session) = is_back session.side
  is_lost (place.Idle handle) = false
  is_lost place.Closed = false

  -- No handle is lost: that of a session which is under way is to come yet.
  abbrev pub IsHeld : HandleState T I H → Type 0
  IsHeld place = is_lost place ≡ false

  -- what crossed the pipe of the session that is under way
  abbrev pub crossed_at : HandleState T I H → ℕ
  crossed_at (place.Lent session) = crossed session.side
  crossed_at (place.Idle handle) = 0
  crossed_at place.Closed = 0

  -- the session that is under way has seen that nothing comes any more
  abbrev pub SawEndAt : HandleState T I H → Type 0
  SawEndAt (place.Lent session) = SawEndOf session.side
  SawEndAt place = ⊥

  -- what had crossed before the pipe in which a call goes on: nothing, where it has yet to begin a
  -- session of its own
  abbrev pub crossed_before : PollCall → HandleState T I H → ℕ
  crossed_before call place = if goes_on call (state_of place) then crossed_at place else 0

  -- so many bytes, or the item, that a reply tells have crossed a pipe that so many had crossed
  -- before
  abbrev pub HasCrossed : {E : Type 0} → Reply E → HandleState T I H → ℕ → Type 0
  HasCrossed (reply.Count count) place before = 0 < count → crossed_at place ≡ before + count
  HasCrossed reply.Item place before = crossed_at place ≡ before + 1
  HasCrossed reply place before = Unit {0}

  -- the handle is where the state says
  abbrev pub IsAt : State → HandleState T I H → Type 0
  IsAt state place = state_of place ≡ state

  -- the handle, where it is with its owner
  abbrev pub handle_in : HandleState T I H → Option T
  handle_in (place.Idle handle) = Some handle
  handle_in (place.Lent session) = None
  handle_in place.Closed = None

  -- whether the handle is with the job of an operation
  abbrev pub is_operating : HandleState T I H → Bool
  is_operating place = operates (state_of place)

  -- the handle was dropped
  abbrev pub IsClosed : HandleState T I H → Type 0
  IsClosed place = IsAt state.Closed place

  -- a session that is there is this client's
  abbrev pub IsFor : ℕ → HandleState T I H → Type 0
  IsFor client (place.Lent session) = session.job.client ≡ client
  IsFor client _ = Unit {0}

module _ {E : Type 0} where
  -- A fault that a job gives back with its handle: its handle's own, or that a write got nothing
  -- on. It is no refusal.
  abbrev pub IsOfJob : Option (Fault E) → Type 0
  IsOfJob None = Unit {0}
  IsOfJob (Some (fault.Io error)) = Unit {0}
  IsOfJob (Some fault.WriteZero) = Unit {0}
  IsOfJob (Some (fault.Refused why)) = ⊥

  -- a fault of a job, as its owner tells it
  abbrev pub told : JobFault E → Fault E
  told (job.Io error) = fault.Io error
  told job.WriteZero = fault.WriteZero

  -- where a seek came to, as its owner tells it: the place, or its fault
  abbrev pub told_of_seek : Result ℕ E → OwnerAnswer E
  told_of_seek (Ok place) = by.Sought place
  told_of_seek (Err error) = by.Back (Some (fault.Io error))

  -- the handle is back, with the fault of its job or with none
  abbrev pub IsBack : OwnerAnswer E → Type 0
  IsBack (by.Back why) = IsOfJob why
  IsBack answer = ⊥

  -- the handle is back from a seek: with where it is now, or with its fault
  abbrev pub IsSought : OwnerAnswer E → Type 0
  IsSought (by.Sought place) = Unit {0}
  IsSought (by.Back (Some (fault.Io error))) = Unit {0}
  IsSought answer = ⊥

  -- how the handle comes back from a session of this kind
  abbrev pub BackFrom : SessionKind → OwnerAnswer E → Type 0
  BackFrom (kind.Seeking to) answer = IsSought answer
  BackFrom kind answer = IsBack answer

  abbrev pub BackAt : State → OwnerAnswer E → Type 0
  BackAt (state.Lent kind end) answer = BackFrom kind answer
  BackAt state answer = ⊥

  -- This is an answer to that action, where the handle is there: what comes out of a pipe, or goes
  -- into one, is a byte at least, and no more than was asked for or offered; and only a seek brings
  -- a position.
  abbrev pub AnswersTo : State → OwnerAction E → OwnerAnswer E → Type 0
  AnswersTo state act.Begin by.Begun = Unit {0}
  AnswersTo state act.Begin (by.Refused why) = Unit {0}
  AnswersTo state act.Close (by.Closed noted) = Unit {0}
  AnswersTo state (act.Drain most) (by.Got count noted) = (0 < count) × (count ≤ most)
  AnswersTo state (act.Drain most) by.Ended = Unit {0}
  AnswersTo state (act.Drain most) (by.WaitsAtPipe seat) = Unit {0}
  AnswersTo state (act.Fill most) (by.Took count noted) = (0 < count) × (count ≤ most)
  AnswersTo state (act.Fill most) by.Shut = Unit {0}
  AnswersTo state (act.Fill most) (by.WaitsAtPipe seat) = Unit {0}
  AnswersTo state act.Receive (by.Received noted) = Unit {0}
  AnswersTo state act.Receive by.Ended = Unit {0}
  AnswersTo state act.Receive (by.WaitsAtPipe seat) = Unit {0}
  AnswersTo state act.PollSlot (by.WaitsInSlot seat) = Unit {0}
  AnswersTo state act.PollSlot answer = BackAt state answer
  AnswersTo state act.PollResult by.Resulted = Unit {0}
  AnswersTo state act.PollResult (by.WaitsInSlot seat) = Unit {0}
  AnswersTo state act.DropHandle by.Dropped = Unit {0}
  AnswersTo state act.Deliver by.Delivered = Unit {0}
  AnswersTo state _ _ = ⊥

  -- the machine comes from one to the other by these answers, each to the action that was next
  abbrev pub Runs : OwnerMachine E → List (OwnerAnswer E) → OwnerMachine E → Type 0
  Runs old [] new = new ≡ old
  Runs old (answer ∷ rest) new =
      AnswersTo old.state (owner_next old) answer × Runs (owner_after old answer) rest new

  abbrev pub Reaches : OwnerMachine E → OwnerMachine E → Type 0
  Reaches old new = (answers : List (OwnerAnswer E)) × Runs old answers new

  -- the machine has ended: it replies so, or the poll is pending
  abbrev pub EndsWith : OwnerMachine E → Poll (Reply E) → Type 0
  EndsWith end (Ready reply) = owner_next end ≡ act.Reply reply
  EndsWith end Pending = owner_next end ≡ act.Pending

  -- what holds where no session could begin
  abbrev pub IfRefused : Poll (Reply E) → Type 0 → Type 0
  IfRefused (Ready (reply.Failed (fault.Refused why))) P = P
  IfRefused (Ready (reply.NotBegun why)) P = P
  IfRefused _ P = Unit {0}

  -- what a drain means to the machine: what came out and whether there is a note, the end, or that
  -- the owner waits
  abbrev pub answer_of_drain : Drained → OwnerAnswer E
  answer_of_drain (drained.Got count note) = by.Got count (has note)
  answer_of_drain drained.Ended = by.Ended
  answer_of_drain (drained.Waits seat) = by.WaitsAtPipe seat

  -- what a fill means to the machine: what went in and whether there is a note, that nothing goes
  -- in any more, or that the owner waits
  abbrev pub answer_of_fill : Filled → OwnerAnswer E
  answer_of_fill (filled.Took count note) = by.Took count (has note)
  answer_of_fill filled.Shut = by.Shut
  answer_of_fill (filled.Waits seat) = by.WaitsAtPipe seat

  -- what a read or a write answers, as a reply
  abbrev pub reply_of_count : Poll (Result ℕ (Fault E)) → Poll (Reply E)
  reply_of_count (Ready (Ok count)) = Ready (reply.Count count)
  reply_of_count (Ready (Err why)) = Ready (reply.Failed why)
  reply_of_count Pending = Pending

  -- what a seek answers, as a reply
  abbrev pub reply_of_seek : Poll (Result ℕ (Fault E)) → Poll (Reply E)
  reply_of_seek (Ready (Ok place)) = Ready (reply.Position place)
  reply_of_seek (Ready (Err why)) = Ready (reply.Failed why)
  reply_of_seek Pending = Pending

  -- what a flush or a close answers, as a reply
  abbrev pub reply_of_done : {A : Type 0} → Poll (Result A (Fault E)) → Poll (Reply E)
  reply_of_done (Ready (Ok _)) = Ready reply.Done
  reply_of_done (Ready (Err why)) = Ready (reply.Failed why)
  reply_of_done Pending = Pending

-- what the call for the next item answers, as a reply
abbrev pub reply_of_next : {A : Type 0} → Poll (Option (Result A Refusal)) → Poll (Reply Error)
reply_of_next (Ready (Some (Ok item))) = Ready reply.Item
reply_of_next (Ready (Some (Err why))) = Ready (reply.NotBegun why)
reply_of_next (Ready None) = Ready reply.End
reply_of_next Pending = Pending

-- what an operation answers, as a reply
abbrev pub reply_of_operate : {A F : Type 0} → Poll (Result A (Refused F)) → Poll (Reply Error)
reply_of_operate (Ready (Ok gave)) = Ready reply.Result
reply_of_operate (Ready (Err refused)) = Ready (reply.NotBegun refused.why)
reply_of_operate Pending = Pending

-- what a call for the handle answers, as a reply
abbrev pub reply_of_get : {A : Type 0} → Poll A → Poll (Reply Error)
reply_of_get (Ready handle) = Ready reply.Handle
reply_of_get Pending = Pending

-- What a poll does and answers: its machine begins by the call and where the handle is, gets
-- answers, each to the action that was next, and ends where the handle is then; the reply is the
-- machine's.
abbrev pub Follows : {T I H E : Type 0} → PollCall → HandleState T I H → Poll (Reply E)
    → HandleState T I H
    → Type 0
Follows {T} {I} {H} {E} call old reply new =
    (end : OwnerMachine E) × Reaches (new_poll call (state_of old)) end × EndsWith end reply
    × IsAt end.state new

-- Where no session could begin the handle is with its owner, and as it was, where it was there
-- before.
abbrev pub KeepsRefused : {T I H E : Type 0} → HandleState T I H → Poll (Reply E)
    → HandleState T I H → Type 0
KeepsRefused old reply new =
    IfRefused reply (IsAt state.Idle new × (IsAt state.Idle old → new ≡ old))

-- the poll has its reply
abbrev pub HasReply : {E : Type 0} → OwnerAction E → Type 0
HasReply (act.Reply reply) = Unit {0}
HasReply action = ⊥

-- A call that has its reply at once, where the handle is, leaves the handle as it is.
abbrev pub KeepsAtOnce : {T I H : Type 0} → PollCall → HandleState T I H → HandleState T I H
    → Type 0
KeepsAtOnce call old new = HasReply {E = Error} (table call (state_of old)) → new ≡ old
