-- What holds of the machine of a poll between two actions. No public clause cites this file.
use Rattle.std.specs.Prelude.{◌≡◌, ◌⊎◌, ◌+◌, ◌<◌, ◌≤◌, ℕ, Bool, true, false}
use Rattle.blocking_core.specs.OwnerCalls.{OwnerMachine, begun_by, shut, has_pipe}
use Rattle.blocking_core.specs.declared.io.Fault.TheVariants as fault
use Rattle.blocking_core.specs.declared.unblock.PollCall.{PollCall}
use Rattle.blocking_core.specs.declared.unblock.PollCall.TheVariants as call
use Rattle.blocking_core.specs.declared.unblock.OwnerEnd.TheVariants.{Open}
use Rattle.blocking_core.specs.declared.unblock.SessionKind.TheVariants.{Reading, Writing}
use Rattle.blocking_core.specs.declared.unblock.SessionKind.TheVariants.{Streaming, Seeking}
use Rattle.blocking_core.specs.declared.unblock.SessionKind.TheVariants.{Operating}
use Rattle.blocking_core.specs.declared.unblock.State.{State}
use Rattle.blocking_core.specs.declared.unblock.State.TheVariants.{Idle, Lent, Closed}
use Rattle.blocking_core.specs.declared.unblock.Reply.{Reply}
use Rattle.blocking_core.specs.declared.unblock.Reply.TheVariants as reply
use Rattle.blocking_core.specs.declared.unblock.OwnerAction.{OwnerAction}
use Rattle.blocking_core.specs.declared.unblock.OwnerAction.TheVariants as act
use Rattle.blocking_core.specs.declared.unblock.OwnerAnswer.{OwnerAnswer}
use Rattle.blocking_core.specs.declared.unblock.OwnerAnswer.TheVariants as by
use Rattle.futures.specs.declared.task.Poll.{Poll}
use Rattle.futures.specs.declared.task.Poll.TheVariants.{Ready, Pending}
use Rattle.blocking_unblock.specs.Owners.{state_of, crossed_at, HasCrossed, SawEndAt, IsAt, BackAt}
use Rattle.blocking_unblock.specs.declared.handle_state.HandleState.{HandleState}

-- what a call has beside its buffers: where it waits for a result, the item that came, the result
-- that came
pub data Kept : Type 0 where
  Way : Kept
  Item : Kept
  Gave : Kept

-- it begins a session, where the handle is with its owner
abbrev pub Starts : PollCall → Type 0
Starts (call.Read most) = 0 < most
Starts (call.Write most) = 0 < most
Starts (call.Seek to) = Unit {0}
Starts call.Next = Unit {0}
Starts (call.Operate begun) = Unit {0}
Starts asked = ⊥

-- it is an operation
abbrev pub Operates : PollCall → Type 0
Operates (call.Operate begun) = Unit {0}
Operates asked = ⊥

-- there is a session, or one with a pipe
abbrev pub HasSession : State → Type 0
HasSession (Lent kind end) = Unit {0}
HasSession state = ⊥

abbrev pub HasPipe : State → Type 0
HasPipe (Lent kind end) = has_pipe kind ≡ true
HasPipe state = ⊥

-- It is at the end of a session of its own, after which no other begins: a read or a stream that
-- saw the end of the pipe, or a seek.
abbrev pub AtOwnEnd : PollCall → State → Bool → Type 0
AtOwnEnd (call.Read most) state true = state ≡ Lent Reading Open
AtOwnEnd call.Next state true = state ≡ Lent Streaming Open
AtOwnEnd (call.Seek to) state at_end = state ≡ Lent (Seeking to) Open
AtOwnEnd asked state at_end = ⊥

-- a read or a stream that saw the end of the pipe of its session
abbrev pub SawEnd : PollCall → State → Bool → Type 0
SawEnd (call.Read most) state true = state ≡ Lent Reading Open
SawEnd call.Next state true = state ≡ Lent Streaming Open
SawEnd asked state at_end = ⊥

-- after a session began that brings the handle here: an operation waits for its result, and another
-- call is as ready as before
abbrev pub Onward : State → Type 0 → Type 0 → Type 0
Onward (Lent Operating end) again way = way
Onward state again way = again

module _ {E : Type 0} where
  -- A reply fits its call: a read and a write count no more than they wanted or offered, an item
  -- and a result have come, a fault is told with the handle back, who wants the handle gets it, and
  -- a flush and a close are done once no session is left.
  abbrev pub FitsReply : PollCall → State → Reply E → Type 0 → (Kept → Type 0) → Type 0
  FitsReply (call.Read most) state (reply.Count count) ready kept = count ≤ most
  FitsReply (call.Write most) state (reply.Count count) ready kept = count ≤ most
  FitsReply (call.Seek to) state (reply.Position place) ready kept = state ≡ Idle
  FitsReply call.Next state reply.Item ready kept = kept Item
  FitsReply call.Next state reply.End ready kept = state ≡ Idle
  FitsReply (call.Operate begun) state reply.Result ready kept = kept Gave
  FitsReply call.Next state (reply.NotBegun why) ready kept = state ≡ Idle
  FitsReply (call.Operate begun) state (reply.NotBegun why) ready kept = (state ≡ Idle) × ready
  FitsReply call.GetMut state reply.Handle ready kept = state ≡ Idle
  FitsReply call.IntoInner state reply.Handle ready kept = state ≡ Idle
  FitsReply call.Flush state reply.Done ready kept = (state ≡ Idle) ⊎ (state ≡ Closed)
  FitsReply call.Close state reply.Done ready kept = state ≡ Closed
  FitsReply (call.Read most) state (reply.Failed why) ready kept = state ≡ Idle
  FitsReply (call.Write most) state (reply.Failed why) ready kept = state ≡ Idle
  FitsReply (call.Seek to) state (reply.Failed why) ready kept = state ≡ Idle
  FitsReply call.Flush state (reply.Failed why) ready kept = state ≡ Idle
  FitsReply call.Close state (reply.Failed why) ready kept = state ≡ Idle
  FitsReply call.Flush state reply.Closed ready kept = ⊥
  FitsReply call.Close state reply.Closed ready kept = ⊥
  FitsReply asked state reply.Closed ready kept = state ≡ Closed
  FitsReply _ _ _ _ _ = ⊥

  -- there is something to do yet
  abbrev pub IsGoing : OwnerAction E → Type 0
  IsGoing (act.Reply reply) = ⊥
  IsGoing act.Pending = ⊥
  IsGoing act.Deliver = ⊥
  IsGoing _ = Unit {0}

-- Where an operation may go on from that waits: it is still to begin, or it waits for its result.
abbrev pub Resumes : PollCall → State → Type 0 → Type 0 → Type 0
Resumes (call.Operate begun) state ready way = ready ⊎ ((state ≡ Lent Operating Open) × way)
Resumes asked state ready way = Unit {0}

-- B is what a call brings. It begins sessions that bring the handle to these states, and has these
-- things.
module _ {B : Type 0} (begins : B → State → Type 0) (keeps : B → Kept → Type 0) where
  -- A call that may be asked where the handle is: an operation that has begun is in its session and
  -- waits for its result, and any other call is ready to begin.
  abbrev pub MayAsk : PollCall → State → B → Type 0
  MayAsk (call.Operate true) state brought = (state ≡ Lent Operating Open) × keeps brought Way
  MayAsk asked state brought = begins brought (begun_by asked)

  module _ {E : Type 0} where
    -- what is next fits the call, and where the handle is; who waits has registered
    abbrev pub FitsAction : Type 0 → PollCall → State → OwnerAction E → B → Type 0
    FitsAction armed asked state act.Begin brought =
        (state ≡ Idle) × Starts asked × begins brought (begun_by asked)
    FitsAction armed asked state act.Close brought = HasPipe state × begins brought (begun_by asked)
    FitsAction armed asked state (act.Drain most) brought =
        (state ≡ Lent Reading Open) × (asked ≡ call.Read most) × (0 < most)
        × begins brought (begun_by asked)
    FitsAction armed asked state (act.Fill most) brought =
        (state ≡ Lent Writing Open) × (asked ≡ call.Write most) × (0 < most)
    FitsAction armed asked state act.Receive brought =
        (state ≡ Lent Streaming Open) × (asked ≡ call.Next) × begins brought (begun_by asked)
    FitsAction armed asked state act.PollSlot brought =
        HasSession state × begins brought (begun_by asked)
    FitsAction armed asked state act.PollResult brought =
        (state ≡ Lent Operating Open) × Operates asked × keeps brought Way
    FitsAction armed asked state act.DropHandle brought = (state ≡ Idle) × (asked ≡ call.Close)
    FitsAction armed asked state act.Deliver brought = ⊥
    FitsAction armed asked state (act.Reply reply) brought =
        FitsReply asked state reply (begins brought (begun_by asked)) (keeps brought)
    FitsAction armed asked state act.Pending brought =
        armed × Resumes asked state (begins brought (begun_by asked)) (keeps brought Way)

    -- Between two actions: no note is to be spent, what is next fits, and the handle is where the
    -- machine says.
    pub record Stands {T I H : Type 0} (armed : Type 0) (poll : OwnerMachine E)
        (place : HandleState T I H) (brought : B) : Type 0 where
      pub awake : poll.is_waking ≡ false
      pub fits : FitsAction armed poll.call poll.state poll.next brought
      pub at : IsAt poll.state place

    -- an action can be done where the handle is so, with a buffer of so many bytes and so many to
    -- write
    abbrev pub CanDo : {T I H : Type 0} → OwnerAction E → HandleState T I H → ℕ → ℕ → B → Type 0
    CanDo act.Begin place room given brought =
        IsAt Idle place × ((state : State) × begins brought state)
    CanDo act.Close place room given brought = HasPipe (state_of place)
    CanDo (act.Drain most) place room given brought =
        IsAt (Lent Reading Open) place × (most ≡ room) × (0 < room)
    CanDo (act.Fill most) place room given brought =
        IsAt (Lent Writing Open) place × (most ≡ given) × (0 < given)
    CanDo act.Receive place room given brought = IsAt (Lent Streaming Open) place
    CanDo act.PollSlot place room given brought = HasSession (state_of place)
    CanDo act.PollResult place room given brought = keeps brought Way
    CanDo act.DropHandle place room given brought = IsAt Idle place
    CanDo _ place room given brought = ⊥

    -- what becomes of what a call brings: where its session began it goes on, what came it has, and
    -- else it is as it was
    abbrev pub Brings : OwnerAction E → OwnerAnswer E → B → B → Type 0
    Brings act.Begin by.Begun old new = (state : State) → begins old state
        → Onward state (begins new state) (keeps new Way)
    Brings act.Receive (by.Received noted) old new = keeps new Item
    Brings act.PollResult by.Resulted old new = keeps new Gave
    Brings _ _ old new = new ≡ old

-- From one moment of a call to a later one: what was closed is closed, and else only a close
-- closes.
pub record KeepsOpen (asked : PollCall) (before after : State) : Type 0 where
  pub stays : before ≡ Closed → after ≡ Closed
  pub closes : after ≡ Closed → (before ≡ Closed) ⊎ (asked ≡ call.Close)

module _ {E : Type 0} where
  -- bytes came out of a pipe, or it is at its end, or the owner waits and has registered
  abbrev pub Drains : ℕ → OwnerAnswer E → Bool → Type 0 → Type 0
  Drains most (by.Got count noted) has_note armed =
      (noted ≡ has_note) × (0 < count) × (count ≤ most)
  Drains most by.Ended false armed = Unit {0}
  Drains most (by.WaitsAtPipe seat) false armed = armed
  Drains most answer has_note armed = ⊥

  -- bytes went into a pipe, or none do any more, or the owner waits and has registered
  abbrev pub Fills : ℕ → OwnerAnswer E → Bool → Type 0 → Type 0
  Fills most (by.Took count noted) has_note armed =
      (noted ≡ has_note) × (0 < count) × (count ≤ most)
  Fills most by.Shut false armed = Unit {0}
  Fills most (by.WaitsAtPipe seat) false armed = armed
  Fills most answer has_note armed = ⊥

  -- an item came out of a pipe, or it is at its end, or the owner waits and has registered
  abbrev pub Receives : OwnerAnswer E → Bool → Type 0 → Type 0
  Receives (by.Received noted) has_note armed = noted ≡ has_note
  Receives by.Ended false armed = Unit {0}
  Receives (by.WaitsAtPipe seat) false armed = armed
  Receives answer has_note armed = ⊥

-- how many bytes or items an answer tells to have crossed a pipe
abbrev pub crossed_by : {E : Type 0} → OwnerAnswer E → ℕ
crossed_by (by.Got count noted) = count
crossed_by (by.Took count noted) = count
crossed_by (by.Received noted) = 1
crossed_by answer = 0

-- what holds where an answer tells the end of a pipe
abbrev pub OnEnded : {E : Type 0} → OwnerAnswer E → Type 0 → Type 0
OnEnded by.Ended P = P
OnEnded answer P = Unit {0}

-- the handle is where it was, and the end of its session has counted what the answer tells, or seen
-- the end that it tells
abbrev pub Crosses : {T I H E : Type 0} → HandleState T I H → OwnerAnswer E → HandleState T I H
    → Type 0
Crosses old answer new = IsAt (state_of old) new
    × (crossed_at new ≡ crossed_at old + crossed_by answer) × OnEnded answer (SawEndAt new)

module _ {T I H E : Type 0} where
  -- What the doing of an action does with the handle: its answer, whether a note was taken, and
  -- where the handle is then. A wait is registered. begun says where the handle may be once a
  -- session began.
  abbrev pub Does : (State → Type 0) → OwnerAction E → HandleState T I H → OwnerAnswer E → Bool
      → HandleState T I H → Type 0 → Type 0
  Does begun act.Begin old by.Begun false new armed =
      ((state : State) → begun state → IsAt state new) × (crossed_at new ≡ 0)
  Does begun act.Begin old (by.Refused why) false new armed = new ≡ old
  Does begun act.Close old (by.Closed noted) has_note new armed =
      (noted ≡ has_note) × IsAt (shut (state_of old)) new
  Does begun (act.Drain most) old answer has_note new armed =
      Drains most answer has_note armed × Crosses old answer new
  Does begun (act.Fill most) old answer has_note new armed =
      Fills most answer has_note armed × Crosses old answer new
  Does begun act.Receive old answer has_note new armed =
      Receives answer has_note armed × Crosses old answer new
  Does begun act.PollSlot old (by.WaitsInSlot seat) false new armed = (new ≡ old) × armed
  Does begun act.PollSlot old answer false new armed = IsAt Idle new × BackAt (state_of old) answer
  Does begun act.PollResult old by.Resulted false new armed = new ≡ old
  Does begun act.PollResult old (by.WaitsInSlot seat) false new armed = (new ≡ old) × armed
  Does begun act.DropHandle old by.Dropped false new armed = IsAt Closed new
  Does _ _ _ _ _ _ _ = ⊥

  -- What crosses a pipe in a poll before which so many had crossed that in which it goes on: no
  -- more yet, where it is still to be asked; what the reply tells, once it has one. A poll that
  -- begins a session of its own, or stops another's, goes on in none.
  abbrev pub Crossing : PollCall → State → OwnerAction E → Bool → HandleState T I H → ℕ → Type 0
  Crossing asked state act.Begin at_end place before = before ≡ 0
  Crossing asked state act.Close at_end place before = before ≡ 0
  Crossing asked state act.PollSlot at_end place before = (before ≡ 0) ⊎ SawEnd asked state at_end
  Crossing asked state (act.Drain most) at_end place before = crossed_at place ≡ before
  Crossing asked state (act.Fill most) at_end place before = crossed_at place ≡ before
  Crossing asked state act.Receive at_end place before = crossed_at place ≡ before
  Crossing asked state (act.Reply reply) at_end place before = HasCrossed reply place before
  Crossing asked state _ at_end place before = Unit {0}

  -- What a poll that began with an idle handle keeps: the handle is as it was where a session is to
  -- begin or was refused, and a session gives it back at its end alone, after which no other
  -- begins.
  abbrev pub KeepsFirst : PollCall → State → OwnerAction E → Bool → HandleState T I H
      → HandleState T I H
      → Type 0
  KeepsFirst asked state act.Begin at_end place first = place ≡ first
  KeepsFirst asked state act.Close at_end place first = ⊥
  KeepsFirst asked state act.PollSlot at_end place first = AtOwnEnd asked state at_end
  KeepsFirst asked state (act.Reply (reply.Failed (fault.Refused why))) at_end place first =
      place ≡ first
  KeepsFirst asked state (act.Reply (reply.NotBegun why)) at_end place first = place ≡ first
  KeepsFirst asked state _ at_end place first = Unit {0}

-- the last action of a poll that answers so
abbrev pub last_action : {E : Type 0} → Poll (Reply E) → OwnerAction E
last_action (Ready reply) = act.Reply reply
last_action Pending = act.Pending

-- what an operation's poll keeps until a session began, or where none could: what it brought, as it
-- was; one that waits has that still or waits for its result
abbrev pub KeepsBrought : {E B : Type 0} → (B → Kept → Type 0) → PollCall → OwnerAction E → B → B
    → Type 0
KeepsBrought keeps (call.Operate begun) act.Begin brought first = brought ≡ first
KeepsBrought keeps (call.Operate begun) act.Close brought first = brought ≡ first
KeepsBrought keeps (call.Operate begun) act.PollSlot brought first = brought ≡ first
KeepsBrought keeps (call.Operate begun) (act.Reply (reply.NotBegun why)) brought first =
    brought ≡ first
KeepsBrought keeps (call.Operate begun) act.Pending brought first =
    (brought ≡ first) ⊎ keeps brought Way
KeepsBrought keeps asked next brought first = Unit {0}
