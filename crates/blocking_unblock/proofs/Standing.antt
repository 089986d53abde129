-- How a poll's machine stands between two rounds: its next action fits, and what it keeps of its
-- first state and of what was brought.
use Rattle.std.proofs.Common.{◌≡◌, if◌then◌else◌, ◌<◌, ◌≤◌, ℕ, zero, suc, Bool, true, false, List}
use Rattle.std.proofs.Common.{[], ◌∷◌, ◌++◌, Option, Some, None, inl, inr, refl, sym, ◌∙◌, subst}
use Rattle.std.proofs.Common.{arith}
use Rattle.std.proofs.lemmas.Bool.{le-leb}
use Rattle.blocking_core.specs.OwnerCalls.{OwnerMachine, table, in_own, in_session, stop, at_state}
use Rattle.blocking_core.specs.OwnerCalls.{goes_on_in, has_pipe, begun_by, shut, refusal, after_end}
use Rattle.blocking_core.specs.OwnerCalls.{after_back, after_seek, owner_after, after_got}
use Rattle.blocking_core.specs.Positions.{same_position}
use Rattle.blocking_core.specs.declared.io.Fault.{Fault}
use Rattle.blocking_core.specs.declared.io.Fault.TheVariants as fault
use Rattle.blocking_core.specs.declared.io.Position.{Position}
use Rattle.blocking_core.specs.declared.io.Position.TheVariants as position
use Rattle.blocking_core.specs.declared.unblock.PollCall.{PollCall}
use Rattle.blocking_core.specs.declared.unblock.PollCall.TheVariants.{Read, Write, Flush, Close}
use Rattle.blocking_core.specs.declared.unblock.PollCall.TheVariants.{Seek, Next, Operate, GetMut}
use Rattle.blocking_core.specs.declared.unblock.PollCall.TheVariants.{IntoInner}
use Rattle.blocking_core.specs.declared.unblock.OwnerEnd.{OwnerEnd}
use Rattle.blocking_core.specs.declared.unblock.OwnerEnd.TheVariants.{Open, Shut}
use Rattle.blocking_core.specs.declared.unblock.SessionKind.{SessionKind}
use Rattle.blocking_core.specs.declared.unblock.SessionKind.TheVariants.{Reading, Writing}
use Rattle.blocking_core.specs.declared.unblock.SessionKind.TheVariants.{Streaming, Seeking}
use Rattle.blocking_core.specs.declared.unblock.SessionKind.TheVariants.{Operating}
use Rattle.blocking_core.specs.declared.unblock.State.{State}
use Rattle.blocking_core.specs.declared.unblock.State.TheVariants.{Idle, Lent, Closed}
use Rattle.blocking_core.specs.declared.unblock.Reply.{Reply}
use Rattle.blocking_core.specs.declared.unblock.Reply.TheVariants as reply
use Rattle.blocking_core.specs.declared.unblock.OwnerAction.{OwnerAction}
use Rattle.blocking_core.specs.declared.unblock.OwnerAction.TheVariants as act
use Rattle.blocking_core.specs.declared.unblock.OwnerAnswer.{OwnerAnswer}
use Rattle.blocking_core.specs.declared.unblock.OwnerAnswer.TheVariants as by
use Rattle.blocking_pool.specs.declared.pool.answer.Refusal.{Refusal}
use Rattle.blocking_unblock.specs.Owners.{BackAt, IsOfJob, Runs, Reaches}
use Rattle.blocking_unblock.specs.Polls.{Kept, Way, Item, Starts, HasSession, HasPipe, AtOwnEnd}
use Rattle.blocking_unblock.specs.Polls.{Onward, Resumes, MayAsk, FitsAction, KeepsOpen, KeepsFirst}
use Rattle.blocking_unblock.specs.Polls.{KeepsBrought}
use Rattle.blocking_unblock.specs.declared.handle_state.HandleState.{HandleState}

-- what a call that begins nothing on its own has to bring: some bytes, or an operation whose
-- session is still to begin
abbrev Moves : PollCall → Type 0
Moves (Read most) = 0 < most
Moves (Write most) = 0 < most
Moves (Operate true) = ⊥
Moves call = Unit {0}

-- ---- what is next fits

module _ {B : Type 0} (begins : B → State → Type 0) (keeps : B → Kept → Type 0) (E : Type 0)
    (armed : Type 0) where
  -- what a call does first with an idle handle fits
  idle_fits : (call : PollCall) (brought : B) → begins brought (begun_by call)
      → FitsAction begins keeps {E = E} armed call Idle (table call Idle) brought
  idle_fits (Read zero) brought ready = omega arith
  idle_fits (Read (suc most)) brought ready = (refl, omega arith, ready)
  idle_fits (Write zero) brought ready = omega arith
  idle_fits (Write (suc most)) brought ready = (refl, omega arith, ready)
  idle_fits Flush brought ready = inl refl
  idle_fits Close brought ready = (refl, refl)
  idle_fits (Seek to) brought ready = (refl, tt, ready)
  idle_fits Next brought ready = (refl, tt, ready)
  idle_fits (Operate begun) brought ready = (refl, tt, ready)
  idle_fits GetMut brought ready = refl
  idle_fits IntoInner brought ready = refl

  -- to stop a session fits
  stop_fits : (call : PollCall) (kind : SessionKind) (end : OwnerEnd) (brought : B)
      → begins brought (begun_by call)
      → FitsAction begins keeps {E = E} armed call (Lent kind end) (stop (has_pipe kind) end)
      brought
  stop_fits call Reading Open brought ready = (refl, ready)
  stop_fits call Reading Shut brought ready = (tt, ready)
  stop_fits call Writing Open brought ready = (refl, ready)
  stop_fits call Writing Shut brought ready = (tt, ready)
  stop_fits call Streaming Open brought ready = (refl, ready)
  stop_fits call Streaming Shut brought ready = (tt, ready)
  stop_fits call (Seeking to) Open brought ready = (tt, ready)
  stop_fits call (Seeking to) Shut brought ready = (tt, ready)
  stop_fits call Operating Open brought ready = (tt, ready)
  stop_fits call Operating Shut brought ready = (tt, ready)

  -- what a call does in a session fits
  lent_fits : (kind : SessionKind) (call : PollCall) (end : OwnerEnd) (brought : B) → Moves call
      → begins brought (begun_by call)
      → FitsAction begins keeps {E = E} armed call (Lent kind end)
      (in_session (goes_on_in kind call) call kind end) brought
  lent_fits Reading (Read most) Open brought moves ready = (refl, refl, moves, ready)
  lent_fits Writing (Write most) Open brought moves ready = (refl, refl, moves)
  lent_fits Streaming Next Open brought moves ready = (refl, refl, ready)
  lent_fits (Seeking from) (Seek to) Open brought moves ready = (tt, ready)
  lent_fits Operating (Operate true) end brought moves ready = absurd moves
  lent_fits kind call end brought moves ready = stop_fits call kind end brought ready

  -- what a call does first fits, if it isn't an operation that has begun
  first_fits : (call : PollCall) (state : State) (brought : B) → Moves call
      → begins brought (begun_by call)
      → FitsAction begins keeps {E = E} armed call state (at_state call state) brought
  first_fits (Read most) Idle brought moves ready = (refl, moves, ready)
  first_fits (Write most) Idle brought moves ready = (refl, moves, ready)
  first_fits Flush Idle brought moves ready = inl refl
  first_fits Close Idle brought moves ready = (refl, refl)
  first_fits (Seek to) Idle brought moves ready = (refl, tt, ready)
  first_fits Next Idle brought moves ready = (refl, tt, ready)
  first_fits (Operate begun) Idle brought moves ready = (refl, tt, ready)
  first_fits GetMut Idle brought moves ready = refl
  first_fits IntoInner Idle brought moves ready = refl
  first_fits call (Lent kind end) brought moves ready = lent_fits kind call end brought moves ready
  first_fits (Read most) Closed brought moves ready = refl
  first_fits (Write most) Closed brought moves ready = refl
  first_fits Flush Closed brought moves ready = inr refl
  first_fits Close Closed brought moves ready = refl
  first_fits (Seek to) Closed brought moves ready = refl
  first_fits Next Closed brought moves ready = refl
  first_fits (Operate begun) Closed brought moves ready = refl
  first_fits GetMut Closed brought moves ready = refl
  first_fits IntoInner Closed brought moves ready = refl

  -- what a poll does first fits
  pub table_fits : (call : PollCall) (state : State) (brought : B)
      → MayAsk begins keeps call state brought
      → FitsAction begins keeps {E = E} armed call state (table call state) brought
  table_fits (Read zero) state brought may = omega arith
  table_fits (Read (suc most)) state brought may =
      first_fits (Read (suc most)) state brought (omega arith) may
  table_fits (Write zero) state brought may = omega arith
  table_fits (Write (suc most)) state brought may =
      first_fits (Write (suc most)) state brought (omega arith) may
  table_fits Flush state brought may = first_fits Flush state brought tt may
  table_fits Close state brought may = first_fits Close state brought tt may
  table_fits (Seek to) state brought may = first_fits (Seek to) state brought tt may
  table_fits Next state brought may = first_fits Next state brought tt may
  table_fits (Operate true) state brought may =
      let P : State → Type 0 = λ s.
      FitsAction begins keeps {E = E} armed (Operate true) s (table (Operate true) s) brought in
      subst P (sym may.0) (refl, tt, may.1)
  table_fits (Operate false) state brought may = first_fits (Operate false) state brought tt may
  table_fits GetMut state brought may = first_fits GetMut state brought tt may
  table_fits IntoInner state brought may = first_fits IntoInner state brought tt may

  -- what a call does once its session began fits
  pub begun_fits : (call : PollCall) (brought : B) → Starts call
      → Onward (begun_by call) (begins brought (begun_by call)) (keeps brought Way)
      → FitsAction begins keeps {E = E} armed call (begun_by call) (in_own call) brought
  begun_fits (Read most) brought starts onward = (refl, refl, starts, onward)
  begun_fits (Write most) brought starts onward = (refl, refl, starts)
  begun_fits (Seek to) brought starts onward = (tt, onward)
  begun_fits Next brought starts onward = (refl, refl, onward)
  begun_fits (Operate begun) brought starts onward = (refl, tt, onward)
  begun_fits Flush brought starts onward = absurd starts
  begun_fits Close brought starts onward = absurd starts
  begun_fits GetMut brought starts onward = absurd starts
  begun_fits IntoInner brought starts onward = absurd starts

  -- what it does once the handle is back fits
  end_fits : (call : PollCall) (at_end : Bool) (brought : B) → begins brought (begun_by call)
      → FitsAction begins keeps {E = E} armed call Idle (after_end call at_end) brought
  end_fits (Read most) true brought ready = omega arith
  end_fits Next true brought ready = refl
  end_fits (Write most) true brought ready = idle_fits (Write most) brought ready
  end_fits Flush true brought ready = idle_fits Flush brought ready
  end_fits Close true brought ready = idle_fits Close brought ready
  end_fits (Seek to) true brought ready = idle_fits (Seek to) brought ready
  end_fits (Operate begun) true brought ready = idle_fits (Operate begun) brought ready
  end_fits GetMut true brought ready = idle_fits GetMut brought ready
  end_fits IntoInner true brought ready = idle_fits IntoInner brought ready
  end_fits call false brought ready = idle_fits call brought ready

  pub back_fits : (call : PollCall) (at_end : Bool) (why : Option (Fault E)) (brought : B)
      → begins brought (begun_by call)
      → FitsAction begins keeps armed call Idle (after_back call at_end why) brought
  back_fits call at_end None brought ready = end_fits call at_end brought ready
  back_fits (Read most) at_end (Some why) brought ready = refl
  back_fits (Write most) at_end (Some why) brought ready = refl
  back_fits Flush at_end (Some why) brought ready = refl
  back_fits Close at_end (Some why) brought ready = refl
  back_fits (Seek to) at_end (Some why) brought ready = refl
  back_fits Next at_end (Some why) brought ready = end_fits Next at_end brought ready
  back_fits (Operate begun) at_end (Some why) brought ready =
      end_fits (Operate begun) at_end brought ready
  back_fits GetMut at_end (Some why) brought ready = end_fits GetMut at_end brought ready
  back_fits IntoInner at_end (Some why) brought ready = end_fits IntoInner at_end brought ready

  sought_fits : (is : Bool) (to : Position) (place : ℕ) (brought : B)
      → begins brought (begun_by (Seek to))
      → FitsAction begins keeps {E = E} armed (Seek to) Idle
      (if is then act.Reply (reply.Position place) else table (Seek to) Idle) brought
  sought_fits true to place brought ready = refl
  sought_fits false to place brought ready = idle_fits (Seek to) brought ready

  pub seek_fits : (kind : SessionKind) (end : OwnerEnd) (call : PollCall) (place : ℕ) (brought : B)
      → begins brought (begun_by call)
      → FitsAction begins keeps {E = E} armed call Idle (after_seek (Lent kind end) call place)
      brought
  seek_fits (Seeking from) end (Seek to) place brought ready =
      sought_fits (same_position from to) to place brought ready
  seek_fits kind end call place brought ready = idle_fits call brought ready

  -- what waits may go on
  pub resumes : (call : PollCall) (state : State) (brought : B) → begins brought (begun_by call)
      → Resumes call state (begins brought (begun_by call)) (keeps brought Way)
  resumes (Operate begun) state brought ready = inl ready
  resumes call state brought ready = tt

-- ---- what a reply says

module _ (E : Type 0) where
  -- how a call is refused fits
  pub refusal_fits : (call : PollCall) (why : Refusal) {B : Type 0} (begins : B → State → Type 0)
      (keeps : B → Kept → Type 0) (armed : Type 0) (brought : B) → Starts call
      → begins brought (begun_by call)
      → FitsAction begins keeps {E = E} armed call Idle (refusal call why) brought
  refusal_fits (Read most) why begins keeps armed brought starts ready = refl
  refusal_fits (Write most) why begins keeps armed brought starts ready = refl
  refusal_fits (Seek to) why begins keeps armed brought starts ready = refl
  refusal_fits Next why begins keeps armed brought starts ready = refl
  refusal_fits (Operate begun) why begins keeps armed brought starts ready = (refl, ready)
  refusal_fits Flush why begins keeps armed brought starts ready = absurd starts
  refusal_fits Close why begins keeps armed brought starts ready = absurd starts
  refusal_fits GetMut why begins keeps armed brought starts ready = absurd starts
  refusal_fits IntoInner why begins keeps armed brought starts ready = absurd starts

module _ {E : Type 0} where
  -- a poll that moved bytes replies their count
  pub got_is : (most count : ℕ) (noted : Bool) (poll : OwnerMachine E) → suc count ≤ most
      → after_got most (suc count) noted poll
      ≡ record poll { next = act.Reply (reply.Count (suc count)); is_waking = noted }
  got_is most count noted poll le = rw (le-leb (suc count) most le)

  -- runs join
  pub runs_on : (old mid new : OwnerMachine E) (xs ys : List (OwnerAnswer E)) → Runs old xs mid
      → Runs mid ys new → Runs old (xs ++ ys) new
  runs_on old mid new [] ys first rest = let P : OwnerMachine E → Type 0 = λ m. Runs m ys new in
      subst P first rest
  runs_on old mid new (x ∷ xs) ys first rest =
      (first.0, runs_on (owner_after old x) mid new xs ys first.1 rest)

  pub reaches_on : (old mid new : OwnerMachine E) → Reaches old mid → Reaches mid new
      → Reaches old new
  reaches_on old mid new first rest =
      (first.0 ++ rest.0, runs_on old mid new first.0 rest.0 first.1 rest.1)

  -- no other answer brings the handle back
  abbrev pub IsOther : OwnerAnswer E → Type 0
  IsOther (by.Back why) = ⊥
  IsOther (by.Sought place) = ⊥
  IsOther (by.WaitsInSlot seat) = ⊥
  IsOther answer = Unit {0}

  pub not_back : (at : State) (answer : OwnerAnswer E) → IsOther answer → BackAt at answer → ⊥
  not_back Idle answer other from = from
  not_back Closed answer other from = from
  not_back (Lent kind end) (by.Back why) other from = other
  not_back (Lent kind end) (by.Sought place) other from = other
  not_back (Lent kind end) (by.WaitsInSlot seat) other from = other
  not_back (Lent (Seeking to) end) answer other from = from
  not_back (Lent Reading end) answer other from = from
  not_back (Lent Writing end) answer other from = from
  not_back (Lent Streaming end) answer other from = from
  not_back (Lent Operating end) answer other from = from

-- a position is the same as itself
same_refl : (to : Position) → same_position to to ≡ true
same_refl (position.Start place) = grind (arith)
same_refl (position.Current offset) = grind (arith)
same_refl (position.End offset) = grind (arith)

-- ---- what is closed

-- where there is a session nothing is closed
pub session_open : (state : State) → HasSession state → state ≡ Closed → ⊥
session_open state is closed = subst HasSession closed is

pub pipe_session : (state : State) → HasPipe state → HasSession state
pipe_session (Lent kind end) is = tt
pipe_session Idle is = absurd is
pipe_session Closed is = absurd is

pub shut_session : (state : State) → HasSession state → HasSession (shut state)
shut_session (Lent kind end) is = tt
shut_session Idle is = absurd is
shut_session Closed is = absurd is

pub begun_session : (call : PollCall) → Starts call → HasSession (begun_by call)
begun_session (Read most) starts = tt
begun_session (Write most) starts = tt
begun_session (Seek to) starts = tt
begun_session Next starts = tt
begun_session (Operate begun) starts = tt
begun_session Flush starts = absurd starts
begun_session Close starts = absurd starts
begun_session GetMut starts = absurd starts
begun_session IntoInner starts = absurd starts

-- what isn't closed before and after is kept open
pub opens : (call : PollCall) (before after : State) → (before ≡ Closed → ⊥) → (after ≡ Closed → ⊥)
    → KeepsOpen call before after
opens call before after was is = record { stays = λ e. absurd (was e); closes = λ e. absurd (is e) }

pub same_open : (call : PollCall) (state : State) → KeepsOpen call state state
same_open call state = record { stays = λ e. e; closes = λ e. inl e }

pub open_on : (call : PollCall) (a b c : State) → KeepsOpen call a b → KeepsOpen call b c
    → KeepsOpen call a c
open_on call a b c first rest = record {
  stays = λ e. rest.stays (first.stays e);
  closes = λ e. elim (rest.closes e) [ inl was ↦ first.closes was | inr asked ↦ inr asked ];
}

-- ---- what a poll keeps

module _ {T I H : Type 0} (E : Type 0) where
  -- a session that a call begins gives the handle back at its end alone
  pub begun_first : (call : PollCall) (at_end : Bool) (place first : HandleState T I H)
      → Starts call
      → KeepsFirst {E = E} call (begun_by call) (in_own call) at_end place first
  begun_first (Read most) at_end place first starts = tt
  begun_first (Write most) at_end place first starts = tt
  begun_first (Seek to) at_end place first starts = refl
  begun_first Next at_end place first starts = tt
  begun_first (Operate begun) at_end place first starts = tt
  begun_first Flush at_end place first starts = absurd starts
  begun_first Close at_end place first starts = absurd starts
  begun_first GetMut at_end place first starts = absurd starts
  begun_first IntoInner at_end place first starts = absurd starts

  pub refused_first : (call : PollCall) (why : Refusal) (state : State) (at_end : Bool)
      (place first : HandleState T I H) → place ≡ first
      → KeepsFirst {E = E} call state (refusal call why) at_end place first
  refused_first (Read most) why state at_end place first is = is
  refused_first (Write most) why state at_end place first is = is
  refused_first (Seek to) why state at_end place first is = is
  refused_first Next why state at_end place first is = is
  refused_first (Operate begun) why state at_end place first is = is
  refused_first Flush why state at_end place first is = is
  refused_first Close why state at_end place first is = is
  refused_first GetMut why state at_end place first is = is
  refused_first IntoInner why state at_end place first is = is

  -- a fault of a job is no refusal
  failed_first : (call : PollCall) (why : Fault E) (state : State) (at_end : Bool)
      (place first : HandleState T I H) → IsOfJob (Some why)
      → KeepsFirst call state (act.Reply (reply.Failed why)) at_end place first
  failed_first call (fault.Io error) state at_end place first own = tt
  failed_first call fault.WriteZero state at_end place first own = tt
  failed_first call (fault.Refused why) state at_end place first own = absurd own

  sought_first : (is : Bool) (call : PollCall) (to : Position) (place : ℕ) (state : State)
      (at_end : Bool) (new first : HandleState T I H) → is ≡ true
      → KeepsFirst {E = E} call state
      (if is then act.Reply (reply.Position place) else table (Seek to) Idle) at_end new first
  sought_first true call to place state at_end new first is = tt
  sought_first false call to place state at_end new first is = absurd (cc)

  -- at the end of its own session a call has its reply
  pub back_first : (call : PollCall) (state : State) (at_end : Bool) (why : Option (Fault E))
      (place first : HandleState T I H) → AtOwnEnd call state at_end
      → BackAt state (by.Back why)
      → KeepsFirst call Idle (after_back call at_end why) at_end place first
  back_first (Read most) state true None place first own from = tt
  back_first (Read most) state true (Some why) place first own from =
      let P : State → Type 0 = λ s. BackAt s (by.Back (Some why)) in
      failed_first (Read most) why Idle true place first (subst P own from)
  back_first (Read most) state false why place first own from = absurd own
  back_first Next state true None place first own from = tt
  back_first Next state true (Some why) place first own from = tt
  back_first Next state false why place first own from = absurd own
  back_first (Seek to) state at_end None place first own from =
      let P : State → Type 0 = λ s. BackAt {E = E} s (by.Back None) in
      let no : ⊥ = subst P own from in absurd no
  back_first (Seek to) state at_end (Some (fault.Io error)) place first own from = tt
  back_first (Seek to) state at_end (Some fault.WriteZero) place first own from = tt
  back_first (Seek to) state at_end (Some (fault.Refused why)) place first own from =
      let P : State → Type 0 = λ s. BackAt {E = E} s (by.Back (Some (fault.Refused why))) in
      let no : ⊥ = subst P own from in absurd no
  back_first (Write most) state at_end why place first own from = absurd own
  back_first Flush state at_end why place first own from = absurd own
  back_first Close state at_end why place first own from = absurd own
  back_first (Operate begun) state at_end why place first own from = absurd own
  back_first GetMut state at_end why place first own from = absurd own
  back_first IntoInner state at_end why place first own from = absurd own

  pub seek_first : (call : PollCall) (state : State) (at_end : Bool) (came : ℕ)
      (place first : HandleState T I H) → AtOwnEnd call state at_end
      → BackAt {E = E} state (by.Sought came)
      → KeepsFirst {E = E} call Idle (after_seek state call came) at_end place first
  seek_first (Read most) state true came place first own from =
      let P : State → Type 0 = λ s. BackAt {E = E} s (by.Sought came) in
      let no : ⊥ = subst P own from in absurd no
  seek_first (Read most) state false came place first own from = absurd own
  seek_first Next state true came place first own from =
      let P : State → Type 0 = λ s. BackAt {E = E} s (by.Sought came) in
      let no : ⊥ = subst P own from in absurd no
  seek_first Next state false came place first own from = absurd own
  seek_first (Seek to) state at_end came place first own from =
      let P : State → Type 0 =
      λ s. KeepsFirst {E = E} (Seek to) Idle (after_seek s (Seek to) came) at_end place first in
      subst P (sym own) (sought_first (same_position to to) (Seek to) to came Idle at_end place
      first (same_refl to))
  seek_first (Write most) state at_end came place first own from = absurd own
  seek_first Flush state at_end came place first own from = absurd own
  seek_first Close state at_end came place first own from = absurd own
  seek_first (Operate begun) state at_end came place first own from = absurd own
  seek_first GetMut state at_end came place first own from = absurd own
  seek_first IntoInner state at_end came place first own from = absurd own

  -- a poll that begins with an idle handle has that
  pub idle_first : (call : PollCall) (place : HandleState T I H)
      → KeepsFirst {E = E} call Idle (table call Idle) false place place
  idle_first (Read zero) place = tt
  idle_first (Read (suc most)) place = refl
  idle_first (Write zero) place = tt
  idle_first (Write (suc most)) place = refl
  idle_first Flush place = tt
  idle_first Close place = tt
  idle_first (Seek to) place = refl
  idle_first Next place = refl
  idle_first (Operate begun) place = refl
  idle_first GetMut place = tt
  idle_first IntoInner place = tt

module _ {B : Type 0} (E : Type 0) (keeps : B → Kept → Type 0) (before after first : B) where
  -- what is brought stays as it was
  pub same_brought : (call : PollCall) (next : OwnerAction E) → after ≡ first
      → KeepsBrought keeps call next after first
  same_brought (Operate begun) act.Begin is = is
  same_brought (Operate begun) act.Close is = is
  same_brought (Operate begun) act.PollSlot is = is
  same_brought (Operate begun) (act.Reply (reply.NotBegun why)) is = is
  same_brought (Operate begun) act.Pending is = inl is
  same_brought call next is = tt

  -- nothing is kept once a session began
  pub own_brought : (call : PollCall) → KeepsBrought {E = E} keeps call (in_own call) after first
  own_brought (Read most) = tt
  own_brought (Write most) = tt
  own_brought Flush = tt
  own_brought Close = tt
  own_brought (Seek to) = tt
  own_brought Next = tt
  own_brought (Operate begun) = tt
  own_brought GetMut = tt
  own_brought IntoInner = tt

  -- where the next was to stop or to begin, what was kept is kept
  pub on_brought : (call : PollCall) (next : OwnerAction E)
      → after ≡ before → KeepsBrought {E = E} keeps call act.PollSlot before first
      → KeepsBrought keeps call next after first
  on_brought (Operate begun) next same kept = same_brought (Operate begun) next (same ∙ kept)
  on_brought (Read most) next same kept = tt
  on_brought (Write most) next same kept = tt
  on_brought Flush next same kept = tt
  on_brought Close next same kept = tt
  on_brought (Seek to) next same kept = tt
  on_brought Next next same kept = tt
  on_brought GetMut next same kept = tt
  on_brought IntoInner next same kept = tt

  pub begin_brought : (call : PollCall) (next : OwnerAction E)
      → after ≡ before → KeepsBrought {E = E} keeps call act.Begin before first
      → KeepsBrought keeps call next after first
  begin_brought (Operate begun) next same kept = same_brought (Operate begun) next (same ∙ kept)
  begin_brought (Read most) next same kept = tt
  begin_brought (Write most) next same kept = tt
  begin_brought Flush next same kept = tt
  begin_brought Close next same kept = tt
  begin_brought (Seek to) next same kept = tt
  begin_brought Next next same kept = tt
  begin_brought GetMut next same kept = tt
  begin_brought IntoInner next same kept = tt

  pub close_brought : (call : PollCall) (next : OwnerAction E)
      → after ≡ before → KeepsBrought {E = E} keeps call act.Close before first
      → KeepsBrought keeps call next after first
  close_brought (Operate begun) next same kept = same_brought (Operate begun) next (same ∙ kept)
  close_brought (Read most) next same kept = tt
  close_brought (Write most) next same kept = tt
  close_brought Flush next same kept = tt
  close_brought Close next same kept = tt
  close_brought (Seek to) next same kept = tt
  close_brought Next next same kept = tt
  close_brought GetMut next same kept = tt
  close_brought IntoInner next same kept = tt

  -- who waits for a result keeps nothing else
  pub way_brought : (call : PollCall) → keeps after Way
      → KeepsBrought {E = E} keeps call act.Pending after first
  way_brought (Operate begun) way = inr way
  way_brought call way = tt

  pub result_brought : (call : PollCall)
      → KeepsBrought {E = E} keeps call (act.Reply reply.Result) after first
  result_brought (Operate begun) = tt
  result_brought call = tt

  pub done_brought : (call : PollCall)
      → KeepsBrought {E = E} keeps call (act.Reply reply.Done) after first
  done_brought (Operate begun) = tt
  done_brought call = tt

  pub count_brought : (call : PollCall) (count : ℕ)
      → KeepsBrought {E = E} keeps call (act.Reply (reply.Count count)) after first
  count_brought (Operate begun) count = tt
  count_brought call count = tt

  pub item_brought : (call : PollCall)
      → KeepsBrought {E = E} keeps call (act.Reply reply.Item) after first
  item_brought (Operate begun) = tt
  item_brought call = tt
