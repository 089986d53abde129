-- What crossed the pipe of a session by a round of a poll, and by the whole poll.
use Rattle.std.proofs.Common.{◌≡◌, if◌then◌else◌, ◌⊎◌, ◌+◌, ◌<◌, ℕ, zero, suc, Bool, true, false}
use Rattle.std.proofs.Common.{Option, Some, None, inl, inr, refl, sym, ap, ◌∙◌, subst, arith}
use Rattle.blocking_core.specs.OwnerCalls.{OwnerMachine, table, in_own, in_session, stop}
use Rattle.blocking_core.specs.OwnerCalls.{goes_on_in, has_pipe, begun_by, refusal, after_end}
use Rattle.blocking_core.specs.OwnerCalls.{after_back, after_seek, new_poll, owner_next}
use Rattle.blocking_core.specs.OwnerCalls.{owner_after}
use Rattle.blocking_core.specs.Positions.{same_position}
use Rattle.blocking_core.specs.declared.io.Fault.{Fault}
use Rattle.blocking_core.specs.declared.io.Position.{Position}
use Rattle.blocking_core.specs.declared.unblock.PollCall.{PollCall}
use Rattle.blocking_core.specs.declared.unblock.PollCall.TheVariants.{Read, Write, Flush, Close}
use Rattle.blocking_core.specs.declared.unblock.PollCall.TheVariants.{Seek, Next, Operate, GetMut}
use Rattle.blocking_core.specs.declared.unblock.PollCall.TheVariants.{IntoInner}
use Rattle.blocking_core.specs.declared.unblock.OwnerEnd.{OwnerEnd}
use Rattle.blocking_core.specs.declared.unblock.OwnerEnd.TheVariants.{Open, Shut}
use Rattle.blocking_core.specs.declared.unblock.SessionKind.{SessionKind}
use Rattle.blocking_core.specs.declared.unblock.SessionKind.TheVariants.{Reading, Writing}
use Rattle.blocking_core.specs.declared.unblock.SessionKind.TheVariants.{Streaming, Seeking}
use Rattle.blocking_core.specs.declared.unblock.SessionKind.TheVariants.{Operating}
use Rattle.blocking_core.specs.declared.unblock.State.{State}
use Rattle.blocking_core.specs.declared.unblock.State.TheVariants.{Idle, Lent, Closed}
use Rattle.blocking_core.specs.declared.unblock.Reply.{Reply}
use Rattle.blocking_core.specs.declared.unblock.Reply.TheVariants as reply
use Rattle.blocking_core.specs.declared.unblock.OwnerAction.{OwnerAction}
use Rattle.blocking_core.specs.declared.unblock.OwnerAction.TheVariants as act
use Rattle.blocking_core.specs.declared.unblock.OwnerAnswer.{OwnerAnswer}
use Rattle.blocking_core.specs.declared.unblock.OwnerAnswer.TheVariants as by
use Rattle.blocking_pool.specs.declared.pool.answer.Refusal.{Refusal}
use Rattle.blocking_unblock.specs.Owners.{BackAt, HasCrossed, IsAt, state_of, has, crossed_at}
use Rattle.blocking_unblock.specs.Owners.{crossed_before, goes_on}
use Rattle.blocking_unblock.specs.Polls.{Kept, Starts, FitsAction, Stands, IsGoing, Does, Crossing}
use Rattle.blocking_unblock.specs.Polls.{SawEnd}
use Rattle.blocking_unblock.specs.declared.handle_state.HandleState.{HandleState}
use Rattle.blocking_unblock.proofs.Rounds.{told}
use Rattle.blocking_unblock.proofs.Standing.{got_is, not_back}

module _ {T I H : Type 0} (E : Type 0) (place : HandleState T I H) (before : ℕ) where
  -- a reply of no bytes says nothing of the pipe
  none_crosses : 0 < 0 → crossed_at place ≡ before + 0
  none_crosses some = let no : 0 < 0 = some in absurd (omega arith)

  -- what a call does first with an idle handle
  idle_crosses : (call : PollCall) (at_end : Bool) → before ≡ 0
      → Crossing {E = E} call Idle (table call Idle) at_end place before
  idle_crosses (Read zero) at_end none = none_crosses
  idle_crosses (Read (suc most)) at_end none = none
  idle_crosses (Write zero) at_end none = none_crosses
  idle_crosses (Write (suc most)) at_end none = none
  idle_crosses Flush at_end none = tt
  idle_crosses Close at_end none = tt
  idle_crosses (Seek to) at_end none = none
  idle_crosses Next at_end none = none
  idle_crosses (Operate begun) at_end none = none
  idle_crosses GetMut at_end none = tt
  idle_crosses IntoInner at_end none = tt

  -- to stop a session
  stop_crosses : (call : PollCall) (kind : SessionKind) (end : OwnerEnd) (at_end : Bool)
      → before ≡ 0
      → Crossing {E = E} call (Lent kind end) (stop (has_pipe kind) end) at_end place before
  stop_crosses call Reading Open at_end none = none
  stop_crosses call Reading Shut at_end none = inl none
  stop_crosses call Writing Open at_end none = none
  stop_crosses call Writing Shut at_end none = inl none
  stop_crosses call Streaming Open at_end none = none
  stop_crosses call Streaming Shut at_end none = inl none
  stop_crosses call (Seeking to) Open at_end none = inl none
  stop_crosses call (Seeking to) Shut at_end none = inl none
  stop_crosses call Operating Open at_end none = inl none
  stop_crosses call Operating Shut at_end none = inl none

  -- how a call is refused
  refusal_crosses : (call : PollCall) (why : Refusal) (state : State) (at_end : Bool) → Starts call
      → Crossing {E = E} call state (refusal call why) at_end place before
  refusal_crosses (Read most) why state at_end starts = tt
  refusal_crosses (Write most) why state at_end starts = tt
  refusal_crosses (Seek to) why state at_end starts = tt
  refusal_crosses Next why state at_end starts = tt
  refusal_crosses (Operate begun) why state at_end starts = tt
  refusal_crosses Flush why state at_end starts = absurd starts
  refusal_crosses Close why state at_end starts = absurd starts
  refusal_crosses GetMut why state at_end starts = absurd starts
  refusal_crosses IntoInner why state at_end starts = absurd starts

  -- what a call does once its session began
  begun_crosses : (call : PollCall) (at_end : Bool) → Starts call → crossed_at place ≡ 0
      → before ≡ 0 → Crossing {E = E} call (begun_by call) (in_own call) at_end place before
  begun_crosses (Read most) at_end starts fresh none = fresh ∙ sym none
  begun_crosses (Write most) at_end starts fresh none = fresh ∙ sym none
  begun_crosses (Seek to) at_end starts fresh none = inl none
  begun_crosses Next at_end starts fresh none = fresh ∙ sym none
  begun_crosses (Operate begun) at_end starts fresh none = tt
  begun_crosses Flush at_end starts fresh none = absurd starts
  begun_crosses Close at_end starts fresh none = absurd starts
  begun_crosses GetMut at_end starts fresh none = absurd starts
  begun_crosses IntoInner at_end starts fresh none = absurd starts

  -- what a call does once the handle is back
  end_crosses : (call : PollCall) (at_end : Bool) → before ≡ 0
      → Crossing {E = E} call Idle (after_end call at_end) at_end place before
  end_crosses (Read most) true none = none_crosses
  end_crosses Next true none = tt
  end_crosses (Write most) true none = idle_crosses (Write most) true none
  end_crosses Flush true none = idle_crosses Flush true none
  end_crosses Close true none = idle_crosses Close true none
  end_crosses (Seek to) true none = idle_crosses (Seek to) true none
  end_crosses (Operate begun) true none = idle_crosses (Operate begun) true none
  end_crosses GetMut true none = idle_crosses GetMut true none
  end_crosses IntoInner true none = idle_crosses IntoInner true none
  end_crosses call false none = idle_crosses call false none

  back_crosses : (call : PollCall) (state : State) (at_end : Bool) (why : Option (Fault E))
      → (before ≡ 0) ⊎ SawEnd call state at_end
      → Crossing call Idle (after_back call at_end why) at_end place before
  back_crosses call state at_end None (inl none) = end_crosses call at_end none
  back_crosses (Read most) state at_end (Some why) (inl none) = tt
  back_crosses (Write most) state at_end (Some why) (inl none) = tt
  back_crosses Flush state at_end (Some why) (inl none) = tt
  back_crosses Close state at_end (Some why) (inl none) = tt
  back_crosses (Seek to) state at_end (Some why) (inl none) = tt
  back_crosses Next state at_end (Some why) (inl none) = end_crosses Next at_end none
  back_crosses (Operate begun) state at_end (Some why) (inl none) =
      end_crosses (Operate begun) at_end none
  back_crosses GetMut state at_end (Some why) (inl none) = end_crosses GetMut at_end none
  back_crosses IntoInner state at_end (Some why) (inl none) = end_crosses IntoInner at_end none
  back_crosses (Read most) state true None (inr saw) = none_crosses
  back_crosses (Read most) state true (Some why) (inr saw) = tt
  back_crosses Next state true None (inr saw) = tt
  back_crosses Next state true (Some why) (inr saw) = tt
  back_crosses (Read most) state false why (inr saw) = absurd saw
  back_crosses Next state false why (inr saw) = absurd saw
  back_crosses (Write most) state at_end why (inr saw) = absurd saw
  back_crosses Flush state at_end why (inr saw) = absurd saw
  back_crosses Close state at_end why (inr saw) = absurd saw
  back_crosses (Seek to) state at_end why (inr saw) = absurd saw
  back_crosses (Operate begun) state at_end why (inr saw) = absurd saw
  back_crosses GetMut state at_end why (inr saw) = absurd saw
  back_crosses IntoInner state at_end why (inr saw) = absurd saw

  sought_crosses : (is : Bool) (to : Position) (came : ℕ) (at_end : Bool) → before ≡ 0
      → Crossing {E = E} (Seek to) Idle
      (if is then act.Reply (reply.Position came) else table (Seek to) Idle) at_end place before
  sought_crosses true to came at_end none = tt
  sought_crosses false to came at_end none = none

  seek_crosses : (kind : SessionKind) (end : OwnerEnd) (call : PollCall) (came : ℕ) (at_end : Bool)
      → before ≡ 0
      → Crossing {E = E} call Idle (after_seek (Lent kind end) call came) at_end place before
  seek_crosses (Seeking from) end (Seek to) came at_end none =
      sought_crosses (same_position from to) to came at_end none
  seek_crosses kind end call came at_end none = idle_crosses call at_end none

  -- no seek ends a session whose pipe was at its end
  saw_none : (call : PollCall) (state : State) (at_end : Bool) (came : ℕ) → SawEnd call state at_end
      → BackAt {E = E} state (by.Sought came) → ⊥
  saw_none (Read most) state true came saw from = let P : State → Type 0 =
      λ s. BackAt {E = E} s (by.Sought came) in subst P saw from
  saw_none Next state true came saw from = let P : State → Type 0 =
      λ s. BackAt {E = E} s (by.Sought came) in subst P saw from
  saw_none (Read most) state false came saw from = saw
  saw_none Next state false came saw from = saw
  saw_none (Write most) state at_end came saw from = saw
  saw_none Flush state at_end came saw from = saw
  saw_none Close state at_end came saw from = saw
  saw_none (Seek to) state at_end came saw from = saw
  saw_none (Operate begun) state at_end came saw from = saw
  saw_none GetMut state at_end came saw from = saw
  saw_none IntoInner state at_end came saw from = saw

  sought_back : (call : PollCall) (state : State) (at_end : Bool) (came : ℕ)
      → (before ≡ 0) ⊎ SawEnd call state at_end → BackAt {E = E} state (by.Sought came)
      → Crossing {E = E} call Idle (after_seek state call came) at_end place before
  sought_back call (Lent kind end) at_end came (inl none) from =
      seek_crosses kind end call came at_end none
  sought_back call Idle at_end came (inl none) from = absurd from
  sought_back call Closed at_end came (inl none) from = absurd from
  sought_back call state at_end came (inr saw) from =
      absurd (saw_none call state at_end came saw from)

-- ---- a round

module _ {T I H B : Type 0} (E : Type 0) (begins : B → State → Type 0) (keeps : B → Kept → Type 0)
    (was armed : Type 0) (old new : HandleState T I H) (brought : B) (before : ℕ) where
  -- what crossed by a moment of a machine
  abbrev At : OwnerMachine E → HandleState T I H → Type 0
  At poll place = Crossing poll.call poll.state poll.next poll.is_at_end place before

  module _ (call : PollCall) (state : State) (at_end : Bool) where
    abbrev between : OwnerAction E → OwnerMachine E
    between next =
        record { call = call; state = state; next = next; is_waking = false; is_at_end = at_end }

    abbrev Goes : OwnerAction E → OwnerAnswer E → Bool → Type 0
    Goes next answer noted = FitsAction begins keeps was call state next brought → IsAt state old
        → Does (begins brought) next old answer noted new armed
        → Crossing call state next at_end old before → At (told noted (between next) answer) new

    abbrev replied : Reply E → Bool → OwnerMachine E
    replied reply noted = record {
      call = call;
      state = state;
      next = act.Reply reply;
      is_waking = noted;
      is_at_end = at_end;
    }

    -- a machine that has a reply, whether a note came with it or not
    reply_crosses : (next : OwnerAction E) (answer : OwnerAnswer E) (reply : Reply E) (noted : Bool)
        → owner_after (between next) answer ≡ replied reply noted
        → At (replied reply false) new → At (told noted (between next) answer) new
    reply_crosses next answer reply true is crosses =
        let end : told true (between next) answer ≡ replied reply false =
        ap (λ m. owner_after m by.Delivered) is in
        let P : OwnerMachine E → Type 0 = λ m. At m new in subst P (sym end) crosses
    reply_crosses next answer reply false is crosses = let P : OwnerMachine E → Type 0 =
        λ m. At m new in subst P (sym is) crosses

    begin_crosses : (answer : OwnerAnswer E) (noted : Bool) → Goes act.Begin answer noted
    begin_crosses by.Begun false fits at does none =
        begun_crosses E new before call at_end fits.1 does.1 none
    begin_crosses (by.Refused why) false fits at does none =
        refusal_crosses E new before call why state at_end fits.1
    begin_crosses by.Begun true fits at does none = absurd does
    begin_crosses (by.Refused why) true fits at does none = absurd does
    begin_crosses answer noted fits at does none = absurd does

    close_crosses : (answer : OwnerAnswer E) (noted : Bool) → Goes act.Close answer noted
    close_crosses (by.Closed true) true fits at does none = inl none
    close_crosses (by.Closed false) false fits at does none = inl none
    close_crosses (by.Closed true) false fits at does none = let e = does.0 in cc
    close_crosses (by.Closed false) true fits at does none = let e = does.0 in cc
    close_crosses answer noted fits at does none = absurd does

    -- so many more crossed
    more : (count : ℕ) → crossed_at new ≡ crossed_at old + count → crossed_at old ≡ before
        → crossed_at new ≡ before + count
    more count is same = is ∙ ap (λ n. n + count) same

    drain_crosses : (most : ℕ) (answer : OwnerAnswer E) (noted : Bool)
        → Goes (act.Drain most) answer noted
    drain_crosses most (by.Got zero n) noted fits at does same = let none : 0 < 0 = does.0.1 in
        absurd (omega arith)
    drain_crosses most (by.Got (suc count) n) noted fits at does same =
        let Q : Bool → Type 0 =
        λ b. At (told noted (between (act.Drain most)) (by.Got (suc count) b)) new in
        subst Q (sym does.0.0)
        (reply_crosses (act.Drain most) (by.Got (suc count) noted) (reply.Count (suc count)) noted
        (got_is most count noted (between (act.Drain most)) does.0.2)
        (λ some. more (suc count) does.1.1 same))
    drain_crosses most by.Ended false fits at does same =
        let P : PollCall → Type 0 = λ c. (before ≡ 0) ⊎ SawEnd c state true in
        subst P (sym fits.1) (inr fits.0)
    drain_crosses most (by.WaitsAtPipe seat) false fits at does same = tt
    drain_crosses most answer noted fits at does same = absurd does.0

    fill_crosses : (most : ℕ) (answer : OwnerAnswer E) (noted : Bool)
        → Goes (act.Fill most) answer noted
    fill_crosses most (by.Took zero n) noted fits at does same = let none : 0 < 0 = does.0.1 in
        absurd (omega arith)
    fill_crosses most (by.Took (suc count) n) noted fits at does same =
        let Q : Bool → Type 0 =
        λ b. At (told noted (between (act.Fill most)) (by.Took (suc count) b)) new in
        subst Q (sym does.0.0)
        (reply_crosses (act.Fill most) (by.Took (suc count) noted) (reply.Count (suc count)) noted
        (got_is most count noted (between (act.Fill most)) does.0.2)
        (λ some. more (suc count) does.1.1 same))
    fill_crosses most by.Shut false fits at does same = none_crosses E new before
    fill_crosses most (by.WaitsAtPipe seat) false fits at does same = tt
    fill_crosses most answer noted fits at does same = absurd does.0

    receive_crosses : (answer : OwnerAnswer E) (noted : Bool) → Goes act.Receive answer noted
    receive_crosses (by.Received n) noted fits at does same =
        let Q : Bool → Type 0 = λ b. At (told noted (between act.Receive) (by.Received b)) new in
        subst Q (sym does.0) (reply_crosses act.Receive (by.Received noted) reply.Item noted refl
        (more 1 does.1.1 same))
    receive_crosses by.Ended false fits at does same =
        let P : PollCall → Type 0 = λ c. (before ≡ 0) ⊎ SawEnd c state true in
        subst P (sym fits.1) (inr fits.0)
    receive_crosses (by.WaitsAtPipe seat) false fits at does same = tt
    receive_crosses answer noted fits at does same = absurd does.0

    slot_crosses : (answer : OwnerAnswer E) (noted : Bool) → Goes act.PollSlot answer noted
    slot_crosses (by.WaitsInSlot seat) false fits at does ends = tt
    slot_crosses (by.Back why) false fits at does ends =
        back_crosses E new before call state at_end why ends
    slot_crosses (by.Sought came) false fits at does ends =
        let P : State → Type 0 = λ s. BackAt {E = E} s (by.Sought came) in
        sought_back E new before call state at_end came ends (subst P at does.1)
    slot_crosses (by.WaitsInSlot seat) true fits at does ends = absurd does
    slot_crosses (by.Back why) true fits at does ends = absurd does
    slot_crosses (by.Sought came) true fits at does ends = absurd does
    slot_crosses answer true fits at does ends = absurd does
    slot_crosses answer false fits at does ends = absurd (not_back (state_of old) answer tt does.1)

    result_crosses : (answer : OwnerAnswer E) (noted : Bool) → Goes act.PollResult answer noted
    result_crosses by.Resulted false fits at does ends = tt
    result_crosses (by.WaitsInSlot seat) false fits at does ends = tt
    result_crosses answer noted fits at does ends = absurd does

    drop_crosses : (answer : OwnerAnswer E) (noted : Bool) → Goes act.DropHandle answer noted
    drop_crosses by.Dropped false fits at does ends = tt
    drop_crosses answer noted fits at does ends = absurd does

    goes : (next : OwnerAction E) (answer : OwnerAnswer E) (noted : Bool) → IsGoing next
        → Goes next answer noted
    goes act.Begin answer noted going = begin_crosses answer noted
    goes act.Close answer noted going = close_crosses answer noted
    goes (act.Drain most) answer noted going = drain_crosses most answer noted
    goes (act.Fill most) answer noted going = fill_crosses most answer noted
    goes act.Receive answer noted going = receive_crosses answer noted
    goes act.PollSlot answer noted going = slot_crosses answer noted
    goes act.PollResult answer noted going = result_crosses answer noted
    goes act.DropHandle answer noted going = drop_crosses answer noted
    goes act.Deliver answer noted going = absurd going
    goes (act.Reply reply) answer noted going = absurd going
    goes act.Pending answer noted going = absurd going

  -- A round of a machine that stands.
  crossed_on : (poll : OwnerMachine E) (answer : OwnerAnswer E) (noted : Bool) → IsGoing poll.next
      → Stands begins keeps was poll old brought
      → Does (begins brought) poll.next old answer noted new armed → At poll old
      → At (told noted poll answer) new
  crossed_on poll answer noted going stands does =
      let is : record poll { is_waking = false } ≡ poll = rw stands.awake refl in
      let P : OwnerMachine E → Type 0 = λ m. At m old → At (told noted m answer) new in
      subst P is (goes poll.call poll.state poll.is_at_end poll.next answer noted going stands.fits
      stands.at does)

  -- the same where no note was taken, and where one was
  pub crossed_plain : {N : Type 0} (poll end : OwnerMachine E) (action : OwnerAction E)
      (answer : OwnerAnswer E) (note : Option N)
      → IsGoing poll.next → Stands begins keeps was poll old brought → action ≡ owner_next poll
      → Does (begins brought) action old answer (has note) new armed → note ≡ None
      → end ≡ owner_after poll answer → At poll old → At end new
  crossed_plain {N} poll end action answer note going stands is does none came =
      let next : action ≡ poll.next = is ∙ (rw stands.awake refl) in
      let P : OwnerAction E → Type 0 =
      λ a. Does (begins brought) a old answer (has note) new armed in
      let Q : Option N → Type 0 =
      λ n. Does (begins brought) poll.next old answer (has n) new armed in
      let R : OwnerMachine E → Type 0 = λ m. At poll old → At m new in
      subst R (sym came)
      (crossed_on poll answer false going stands (subst Q none (subst P next does)))

  pub crossed_noted : {N : Type 0} (poll mid end : OwnerMachine E) (action : OwnerAction E)
      (answer : OwnerAnswer E) (note : Option N) (taken : N)
      → IsGoing poll.next → Stands begins keeps was poll old brought → action ≡ owner_next poll
      → Does (begins brought) action old answer (has note) new armed → note ≡ Some taken
      → mid ≡ owner_after poll answer → end ≡ owner_after mid by.Delivered → At poll old
      → At end new
  crossed_noted {N} poll mid end action answer note taken going stands is does some first came =
      let next : action ≡ poll.next = is ∙ (rw stands.awake refl) in
      let P : OwnerAction E → Type 0 =
      λ a. Does (begins brought) a old answer (has note) new armed in
      let Q : Option N → Type 0 =
      λ n. Does (begins brought) poll.next old answer (has n) new armed in
      let R : OwnerMachine E → Type 0 = λ m. At poll old → At m new in
      let whole : told true poll answer ≡ end =
      ap (λ m. owner_after m by.Delivered) (sym first) ∙ sym came in
      subst R whole (crossed_on poll answer true going stands (subst Q some (subst P next does)))

-- ---- how a poll begins

module _ {T I H : Type 0} (E : Type 0) where
  -- what a call does in a session: it goes on in its own, or stops it
  lent_crosses : (kind : SessionKind) (call : PollCall) (end : OwnerEnd) (place : HandleState T I H)
      → Crossing {E = E} call (Lent kind end) (in_session (goes_on_in kind call) call kind end)
      false place (if goes_on call (Lent kind end) then crossed_at place else 0)
  lent_crosses Reading (Read most) Open place = refl
  lent_crosses Writing (Write most) Open place = refl
  lent_crosses Streaming Next Open place = refl
  lent_crosses (Seeking from) (Seek to) Open place = inl refl
  lent_crosses Operating (Operate true) Open place = tt
  lent_crosses kind call end place = stop_crosses E place 0 call kind end false refl

  -- what a call does first
  table_crosses : (call : PollCall) (state : State) (place : HandleState T I H)
      → Crossing {E = E} call state (table call state) false place
      (if goes_on call state then crossed_at place else 0)
  table_crosses (Read zero) state place = λ some. let no : 0 < 0 = some in absurd (omega arith)
  table_crosses (Write zero) state place = λ some. let no : 0 < 0 = some in absurd (omega arith)
  table_crosses (Read (suc most)) (Lent kind end) place =
      lent_crosses kind (Read (suc most)) end place
  table_crosses (Write (suc most)) (Lent kind end) place =
      lent_crosses kind (Write (suc most)) end place
  table_crosses Flush (Lent kind end) place = lent_crosses kind Flush end place
  table_crosses Close (Lent kind end) place = lent_crosses kind Close end place
  table_crosses (Seek to) (Lent kind end) place = lent_crosses kind (Seek to) end place
  table_crosses Next (Lent kind end) place = lent_crosses kind Next end place
  table_crosses (Operate begun) (Lent kind end) place = lent_crosses kind (Operate begun) end place
  table_crosses GetMut (Lent kind end) place = lent_crosses kind GetMut end place
  table_crosses IntoInner (Lent kind end) place = lent_crosses kind IntoInner end place
  table_crosses call Idle place = idle_crosses E place 0 call false refl
  table_crosses (Read (suc most)) Closed place = tt
  table_crosses (Write (suc most)) Closed place = tt
  table_crosses Flush Closed place = tt
  table_crosses Close Closed place = tt
  table_crosses (Seek to) Closed place = tt
  table_crosses Next Closed place = tt
  table_crosses (Operate begun) Closed place = tt
  table_crosses GetMut Closed place = tt
  table_crosses IntoInner Closed place = tt

module _ {T I H E : Type 0} where
  pub first_crosses : (poll : OwnerMachine E) (call : PollCall) (state : State)
      (place : HandleState T I H) → poll ≡ new_poll call state → state ≡ state_of place
      → Crossing poll.call poll.state poll.next poll.is_at_end place
      (crossed_before poll.call place)
  first_crosses poll call state place is at =
      let P : OwnerMachine E → Type 0 =
      λ m. Crossing m.call m.state m.next m.is_at_end place (crossed_before m.call place) in
      let Q : State → Type 0 =
      λ s. Crossing {E = E} call s (table call s) false place (crossed_before call place) in
      subst P (sym is) (subst Q (sym at) (table_crosses E call (state_of place) place))

  -- a poll that has its reply
  pub reply_crossed : (poll first : OwnerMachine E) (call : PollCall) (state : State)
      (place was : HandleState T I H) (reply : Reply E) → poll.is_waking ≡ false
      → act.Reply reply ≡ owner_next poll → first ≡ new_poll call state
      → Crossing poll.call poll.state poll.next poll.is_at_end place (crossed_before first.call was)
      → HasCrossed reply place (crossed_before call was)
  reply_crossed poll first call state place was reply awake is began crosses =
      let next : act.Reply reply ≡ poll.next = is ∙ (rw awake refl) in
      let P : OwnerAction E → Type 0 = λ a.
      Crossing poll.call poll.state a poll.is_at_end place (crossed_before first.call was) in
      let Q : PollCall → Type 0 = λ c. HasCrossed reply place (crossed_before c was) in
      subst Q (ap (λ m. m.call) began) (subst P (sym next) crosses)
