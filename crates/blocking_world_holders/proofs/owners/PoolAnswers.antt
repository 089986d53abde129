-- An owner is asked and dropped, and the pool answers it: each keeps its law and its tie.
use Rattle.std.proofs.Common.{◌≡◌, ℕ, suc, zero, ◌<◌, ◌==◌, List, [], ◌∷◌, length, Bool, true}
use Rattle.std.proofs.Common.{false, refl, sym, ap, ◌∙◌, subst, arith, Option, Some, None}
use Rattle.std.proofs.Common.{if◌then◌else◌, ◌||◌, ◌&&◌, not, is_none}
use Rattle.std.proofs.lemmas.Bool.{or_left}
use Rattle.std.proofs.lemmas.Bool.Decides.{nat_tests}
use Rattle.blocking_world_holders.proofs.Types.{Fault, OwnerAction, OwnerAnswer, OwnerEnd, Open}
use Rattle.blocking_world_holders.proofs.Types.{Shut, PollCall, Reply, SessionKind, State, Refusal}
use Rattle.blocking_world_holders.proofs.Types.{Woke, Act, Accepted, Asked, HolderDropped, JobWoken}
use Rattle.blocking_world_holders.proofs.Types.{Refused, Event, HandleCall, OwnerStage, PollEnd}
use Rattle.blocking_world_holders.proofs.Words.{OwnerMachine, new_poll, owner_after, owner_in}
use Rattle.blocking_world_holders.proofs.Words.{Abandoned, Content, Empty, Full, GivenUp}
use Rattle.blocking_world_holders.proofs.Words.{empty_slot, Growth, JobNumber, is_in, came_back}
use Rattle.blocking_world_holders.proofs.Words.{Kind, Over, Streaming, fault, has_finished}
use Rattle.blocking_world_holders.proofs.Words.{has_given_up, next_but_wake, Polls, deliver_first}
use Rattle.blocking_world_holders.proofs.Words.{owner_next_but_wake, is_serial, kind_in, acts_of}
use Rattle.blocking_world_holders.proofs.Words.{own, SeenSession, SeenState, seen_call}
use Rattle.blocking_world_holders.proofs.Words.{default_capacity, seen_has_begun as has_begun}
use Rattle.blocking_world_holders.proofs.Words.{is_again, seen_is_closed, seen_is_dropped}
use Rattle.blocking_world_holders.proofs.Words.{is_for_closed, seen_is_into_inner, is_operation}
use Rattle.blocking_world_holders.proofs.Words.{seen_is_pending_operation, seen_is_shut, jobs_of}
use Rattle.blocking_world_holders.proofs.Words.{seen_kind_of as kind_of, kind_of_job}
use Rattle.blocking_world_holders.proofs.Words.{seen_last_session, seen_rests, seen_session}
use Rattle.blocking_world_holders.proofs.Words.{seen_state, seen_state_by, seen_state_in}
use Rattle.blocking_world_holders.proofs.Words.{seen_was_asked_inner, is_waiting, by_owner}
use Rattle.blocking_world_holders.proofs.Words.{BeginsBy, EndsAs, FitsNext, IsOperating, LastAs}
use Rattle.blocking_world_holders.proofs.Words.{LooksFrom, OwnerAs, PlaceBy, SessionAs, SlotAs}
use Rattle.blocking_world_holders.proofs.Words.{action_as, has_found, is_end_open, kind_as}
use Rattle.blocking_world_holders.proofs.Words.{newest_note, state_as, is_for_result, is_pending}
use Rattle.blocking_world_holders.proofs.Words.{last_item, may_call_at, poll_call_of, Session}
use Rattle.blocking_world_holders.proofs.Words.{goods_of, new_session}
use Rattle.blocking_world_holders.proofs.Clashes.{never, nothing}
use Rattle.blocking_core.specs.OwnerCalls as machine
use Rattle.blocking_world_laws.specs.OwnerTable as law
use Rattle.blocking_world_holders.proofs.owners.Cuts.{next_with, next_stays, kind_of_last}
use Rattle.blocking_world_holders.proofs.owners.Asked.{all_true, asks_inner, pending_is}
use Rattle.blocking_world_holders.proofs.owners.Polls.{Goes, owner_by_parts, bound, turned, lawful}
use Rattle.blocking_world_holders.proofs.owners.Polls.{fits_at, last_is}
use Rattle.blocking_world_holders.proofs.owners.Results.{begun as place_begun}
use Rattle.blocking_world_holders.proofs.owners.States.{IsThere, is_away, gone_is, lent_by}
use Rattle.blocking_world_holders.proofs.owners.States.{may_be_asked, is_there, of_session}
use Rattle.blocking_world_holders.proofs.owners.Drains.{IsLending, begins}

-- ---- it is asked

-- in each session the machine does what the law says
abbrev DoesSo : ℕ → HandleCall → SessionKind → OwnerEnd → Type 0
DoesSo x call kind end =
    law.table call (SeenState.In (kind_as kind) (is_end_open end))
    ≡ action_as x call (machine.in_session (machine.goes_on_in kind (poll_call_of false call))
    (poll_call_of false call) kind end)

-- the machine's table is that of the laws, wherever the call may be asked
table_at : (x : ℕ) (call : HandleCall) (at : State) → may_call_at at call ≡ true → IsThere at
    → law.table call (state_as at) ≡ action_as x call (machine.table (poll_call_of false call) at)
table_at x (HandleCall.Read zero) at may there = refl
table_at x (HandleCall.Write []) at may there = refl
table_at x (HandleCall.Read (suc n)) (State.Lent kind end) may there =
    of_session (DoesSo x (HandleCall.Read (suc n))) refl refl refl refl refl refl (λ goal. refl)
    (λ goal. refl) refl refl kind end there
table_at x (HandleCall.Write (byte ∷ more)) (State.Lent kind end) may there =
    of_session (DoesSo x (HandleCall.Write (byte ∷ more))) refl refl refl refl refl refl
    (λ goal. refl) (λ goal. refl) refl refl kind end there
table_at x (HandleCall.Read (suc n)) State.Closed may there = absurd (cc)
table_at x (HandleCall.Write (byte ∷ more)) State.Closed may there = absurd (cc)
table_at x HandleCall.Flush State.Closed may there = refl
table_at x HandleCall.Close State.Closed may there = refl
table_at x (HandleCall.Read (suc n)) State.Idle may there = refl
table_at x (HandleCall.Write (byte ∷ more)) State.Idle may there = refl
table_at x _ State.Idle may there = refl
table_at x _ State.Closed may there = absurd (cc)
table_at x call (State.Lent kind end) may there = of_session (DoesSo x call) refl refl refl refl
    refl refl (λ goal. refl) (λ goal. refl) refl refl kind end there

-- who stops a session closes the own end of its pipe, or looks for the handle
stop_fits : (call : HandleCall) (kind : SessionKind) (end : OwnerEnd)
    → FitsNext call (new_poll (poll_call_of false call) (State.Lent kind end))
    (machine.stop (machine.has_pipe kind) end) false None
stop_fits call kind end = by (machine.has_pipe kind) end refl
  where
    by : (pipe : Bool) (end : OwnerEnd) → machine.has_pipe kind ≡ pipe
        → FitsNext call (new_poll (poll_call_of false call) (State.Lent kind end))
        (machine.stop pipe end) false None
    by true Open is = (is, refl)
    by true Shut is = (tt, refl)
    by false Open is = (is, refl)
    by false Shut is = (tt, refl)

-- so what is done in a session fits, if what is done in a session of the call's own does
session_fits : (call : HandleCall) (kind : SessionKind) (end : OwnerEnd) (own : Bool)
    → machine.goes_on_in kind (poll_call_of false call) ≡ own
    → (machine.goes_on_in kind (poll_call_of false call) ≡ true
    → FitsNext call (new_poll (poll_call_of false call) (State.Lent kind Open))
    (machine.in_own (poll_call_of false call)) false None)
    → FitsNext call (new_poll (poll_call_of false call) (State.Lent kind end))
    (machine.in_session own (poll_call_of false call) kind end) false None
session_fits call kind Open true is fits = fits is
session_fits call kind Open false is fits = stop_fits call kind Open
session_fits call kind Shut true is fits = stop_fits call kind Shut
session_fits call kind Shut false is fits = stop_fits call kind Shut

-- a flush, a close and the calls for the handle have no session of their own, and an operation that
-- hasn't begun its session stops any other
record Stops (kind : SessionKind) : Type 0 where
  pub flush : machine.goes_on_in kind PollCall.Flush ≡ true → ⊥
  pub close : machine.goes_on_in kind PollCall.Close ≡ true → ⊥
  pub get : machine.goes_on_in kind PollCall.GetMut ≡ true → ⊥
  pub inner : machine.goes_on_in kind PollCall.IntoInner ≡ true → ⊥
  pub operate : machine.goes_on_in kind (PollCall.Operate false) ≡ true → ⊥

stops : (kind : SessionKind) → Stops kind
stops SessionKind.Reading = record {
  flush = λ own. cc;
  close = λ own. cc;
  get = λ own. cc;
  inner = λ own. cc;
  operate = λ own. cc;
}
stops _ = record {
  flush = λ own. cc;
  close = λ own. cc;
  get = λ own. cc;
  inner = λ own. cc;
  operate = λ own. cc;
}

table_fits : (call : HandleCall) (at : State) → may_call_at at call ≡ true → FitsNext call
    (new_poll (poll_call_of false call) at) (machine.table (poll_call_of false call) at) false None
table_fits (HandleCall.Read zero) at may = (refl, tt, tt)
table_fits (HandleCall.Read (suc n)) State.Idle may = (tt, refl, refl)
table_fits (HandleCall.Read (suc n)) (State.Lent kind end) may =
    session_fits (HandleCall.Read (suc n)) kind end
    (machine.goes_on_in kind (PollCall.Read (suc n))) refl (own kind)
  where
    own : (kind : SessionKind) → machine.goes_on_in kind (PollCall.Read (suc n)) ≡ true
        → FitsNext (HandleCall.Read (suc n))
        (new_poll (PollCall.Read (suc n)) (State.Lent kind Open)) (OwnerAction.Drain (suc n))
        false None
    own SessionKind.Reading is = (refl, omega arith, refl, refl)
    own _ is = absurd (never is)
table_fits (HandleCall.Read (suc n)) State.Closed may = absurd (never may)
table_fits (HandleCall.Write []) at may = (refl, tt, tt)
table_fits (HandleCall.Write (byte ∷ more)) State.Idle may = (tt, refl, refl)
table_fits (HandleCall.Write (byte ∷ more)) (State.Lent kind end) may =
    session_fits (HandleCall.Write (byte ∷ more)) kind end
    (machine.goes_on_in kind (PollCall.Write (length (byte ∷ more)))) refl (own kind)
  where
    own : (kind : SessionKind)
        → machine.goes_on_in kind (PollCall.Write (length (byte ∷ more))) ≡ true
        → FitsNext (HandleCall.Write (byte ∷ more))
        (new_poll (PollCall.Write (length (byte ∷ more))) (State.Lent kind Open))
        (OwnerAction.Fill (length (byte ∷ more))) false None
    own SessionKind.Writing is = (byte ∷ more, refl, refl, omega arith, refl, refl)
    own _ is = absurd (never is)
table_fits (HandleCall.Write (byte ∷ more)) State.Closed may = absurd (never may)
table_fits HandleCall.Flush State.Idle may = (refl, tt, tt)
table_fits HandleCall.Flush (State.Lent kind end) may = session_fits HandleCall.Flush kind end
    (machine.goes_on_in kind PollCall.Flush) refl (λ own. absurd ((stops kind).flush own))
table_fits HandleCall.Flush State.Closed may = (refl, tt, tt)
table_fits HandleCall.Close State.Idle may = (refl, refl, tt)
table_fits HandleCall.Close (State.Lent kind end) may = session_fits HandleCall.Close kind end
    (machine.goes_on_in kind PollCall.Close) refl (λ own. absurd ((stops kind).close own))
table_fits HandleCall.Close State.Closed may = (refl, tt, refl)
table_fits HandleCall.GetMut State.Idle may = (refl, tt, tt)
table_fits HandleCall.GetMut (State.Lent kind end) may = session_fits HandleCall.GetMut kind end
    (machine.goes_on_in kind PollCall.GetMut) refl (λ own. absurd ((stops kind).get own))
table_fits HandleCall.IntoInner State.Idle may = (refl, tt, tt)
table_fits HandleCall.IntoInner (State.Lent kind end) may = session_fits HandleCall.IntoInner kind
    end (machine.goes_on_in kind PollCall.IntoInner) refl (λ own. absurd ((stops kind).inner own))
table_fits HandleCall.Next (State.Lent kind end) may =
    session_fits HandleCall.Next kind end (machine.goes_on_in kind PollCall.Next) refl (own kind)
  where
    own : (kind : SessionKind) → machine.goes_on_in kind PollCall.Next ≡ true
        → FitsNext HandleCall.Next (new_poll PollCall.Next (State.Lent kind Open))
        OwnerAction.Receive false None
    own SessionKind.Streaming is = (refl, refl, refl)
    own _ is = absurd (never is)
table_fits (HandleCall.Seek to) (State.Lent kind end) may = session_fits (HandleCall.Seek to) kind
    end (machine.goes_on_in kind (PollCall.Seek to)) refl (own kind)
  where
    own : (kind : SessionKind) → machine.goes_on_in kind (PollCall.Seek to) ≡ true
        → FitsNext (HandleCall.Seek to) (new_poll (PollCall.Seek to) (State.Lent kind Open))
        OwnerAction.PollSlot false None
    own (SessionKind.Seeking goal) is = (refl, refl)
    own _ is = absurd (never is)
table_fits _ State.Closed may = absurd (never may)
table_fits _ State.Idle may = (tt, refl, refl)
table_fits call (State.Lent kind end) may =
    session_fits call kind end (machine.goes_on_in kind (PollCall.Operate false)) refl
    (λ own. absurd ((stops kind).operate own))

-- ---- its operations

-- who stops a session hasn't begun one of its own
stop_operates : (piped : Bool) (end : OwnerEnd) (operates begun found : Bool)
    → (operates ≡ true → begun ≡ false) → IsOperating (machine.stop piped end) operates begun found
stop_operates true Open operates begun found before = before
stop_operates true Shut operates begun found before = before
stop_operates false end operates begun found before = before

in_operates : (own : Bool) (call : PollCall) (kind : SessionKind) (end : OwnerEnd)
    (operates begun found : Bool) → (operates ≡ true → begun ≡ false)
    → (own ≡ true → IsOperating (machine.in_own call) operates begun found)
    → IsOperating (machine.in_session own call kind end) operates begun found
in_operates true call kind Open operates begun found before goes = goes refl
in_operates true call kind Shut operates begun found before goes =
    stop_operates (machine.has_pipe kind) Shut operates begun found before
in_operates false call kind end operates begun found before goes =
    stop_operates (machine.has_pipe kind) end operates begun found before

-- what a call does first that hasn't begun a session of its own
table_operates : (call : HandleCall) (at : State) (operates begun found : Bool)
    → (operates ≡ true → begun ≡ false)
    → IsOperating (machine.table (poll_call_of false call) at) operates begun found
table_operates (HandleCall.Read zero) at operates begun found before = tt
table_operates (HandleCall.Write []) at operates begun found before = tt
table_operates (HandleCall.Read (suc n)) State.Idle operates begun found before = before
table_operates (HandleCall.Write (byte ∷ more)) State.Idle operates begun found before = before
table_operates HandleCall.Flush State.Idle operates begun found before = tt
table_operates HandleCall.GetMut State.Idle operates begun found before = tt
table_operates HandleCall.IntoInner State.Idle operates begun found before = tt
table_operates (HandleCall.Read (suc n)) State.Closed operates begun found before = tt
table_operates (HandleCall.Write (byte ∷ more)) State.Closed operates begun found before = tt
table_operates _ State.Closed operates begun found before = tt
table_operates _ State.Idle operates begun found before = before
table_operates HandleCall.Operate (State.Lent kind end) operates begun found before =
    in_operates (machine.goes_on_in kind (PollCall.Operate false)) (PollCall.Operate false) kind end
    operates begun found before (λ own. absurd ((stops kind).operate own))
table_operates HandleCall.OperateAgain (State.Lent kind end) operates begun found before =
    in_operates (machine.goes_on_in kind (PollCall.Operate false)) (PollCall.Operate false) kind end
    operates begun found before (λ own. absurd ((stops kind).operate own))
table_operates call (State.Lent kind end) operates begun found before =
    in_operates (machine.goes_on_in kind (poll_call_of false call)) (poll_call_of false call) kind
    end operates begun found before (λ own. before)

-- ---- what a call does that was just asked

-- What it does is what the law says, and fits; and where it is in its operations.
record Asks (x : ℕ) (call : HandleCall) (c : PollCall) (at : State) (past : List Act) : Type 0 where
  pub next_is : law.at_asked call (has_begun past) (seen_state past)
      ≡ action_as x call (machine.table c at)
  pub fits : FitsNext call (new_poll c at) (machine.table c at) false None
  pub operates : IsOperating (machine.table c at) (is_operation (Some call))
      (has_begun (Asked call ∷ past)) (has_found past)

-- a call goes by the table whose session hasn't begun
asks_first : (x : ℕ) (call : HandleCall) (at : State) (past : List Act) → may_call_at at call ≡ true
    → IsThere at → seen_state past ≡ state_as at
    → law.at_asked call (has_begun past) (seen_state past) ≡ law.table call (seen_state past)
    → (is_operation (Some call) ≡ true → has_begun (Asked call ∷ past) ≡ false)
    → Asks x call (poll_call_of false call) at past
asks_first x call at past may there here by_table before = record {
  next_is = by_table ∙ ap (law.table call) here ∙ table_at x call at may there;
  fits = table_fits call at may;
  operates = table_operates call at (is_operation (Some call)) (has_begun (Asked call ∷ past))
      (has_found past) before;
}

-- one for the result of an operation goes on where that was
asks_again : (x : ℕ) (end : PollEnd) (asked : Option HandleCall) (at : State) (past : List Act)
    → may_call_at at HandleCall.OperateAgain ≡ true → IsThere at → seen_state past ≡ state_as at
    → (is_pending end && is_operation asked) ≡ true
    → EndsAs end at (is_waiting past) (is_operation asked) (has_begun past) (has_found past)
    → Asks x HandleCall.OperateAgain (poll_call_of (is_for_result end) HandleCall.OperateAgain) at
    past
asks_again x PollEnd.Replied asked at past may there here pends ends = absurd (cc)
asks_again x PollEnd.Waits asked at past may there here pends ends =
    asks_first x HandleCall.OperateAgain at past may there here
    (ap (λ b. law.at_asked HandleCall.OperateAgain b (seen_state past)) (ends.1 pends))
    (λ is. ends.1 pends)
asks_again x PollEnd.WaitsForResult asked at past may there here pends ends =
    subst (λ st. Asks x HandleCall.OperateAgain (PollCall.Operate true) st past) (sym ends.4)
    (record {
      next_is = ap (λ b. law.at_asked HandleCall.OperateAgain b (seen_state past)) ends.2;
      fits = (refl, refl, refl);
      operates = (ends.2, ends.3);
    })

-- any call
asks_so : (x : ℕ) (call : HandleCall) (end : PollEnd) (asked : Option HandleCall) (at : State)
    (past : List Act) → may_call_at at call ≡ true
    → (not (is_again call) || (is_pending end && is_operation asked)) ≡ true → IsThere at
    → seen_state past ≡ state_as at
    → EndsAs end at (is_waiting past) (is_operation asked) (has_begun past) (has_found past)
    → Asks x call (poll_call_of (is_for_result end) call) at past
asks_so x HandleCall.OperateAgain end asked at past may pends there here ends =
    asks_again x end asked at past may there here pends ends
asks_so x HandleCall.Operate end asked at past may pends there here ends =
    asks_first x HandleCall.Operate at past may there here refl (λ is. refl)
asks_so x call end asked at past may pends there here ends =
    asks_first x call at past may there here refl (λ is. absurd (never is))

-- it rests, by the law
rests_so : (bytes client : ℕ) (asked : Option HandleCall)
    (here : State) (end : PollEnd) (last : Option Session) (cut : List Event)
    → OwnerAs (owner_by_parts bytes client asked (OwnerStage.Rests here end) last) cut
    → seen_rests (own cut) ≡ true
rests_so bytes client asked here end last cut t = rw (t.made, t.gone.1, t.polled) refl

-- it waits, as its last poll ended
waits_so : (end : PollEnd) (at : State) (waits operates begun found : Bool)
    → EndsAs end at waits operates begun found → waits ≡ is_pending end
waits_so PollEnd.Replied at waits operates begun found ends = ends
waits_so _ at waits operates begun found ends = ends.0

-- and an operation is pending, by the law, where it is by the holder
pub pends_so : (bytes client : ℕ) (asked : Option HandleCall)
    (here : State) (end : PollEnd) (last : Option Session) (cut : List Event)
    → OwnerAs (owner_by_parts bytes client asked (OwnerStage.Rests here end) last) cut
    → seen_is_pending_operation (own cut) ≡ (is_pending end && is_operation asked)
pends_so bytes client asked here end last cut t =
    pending_is (own cut) ∙ ap (λ c. is_waiting (own cut) && is_operation c) t.asked
    ∙ ap (λ b. b && is_operation asked) (waits_so end here (is_waiting (own cut))
    (is_operation asked) (has_begun (own cut)) (has_found (own cut)) t.operates)

pub ask_goes : (bytes client : ℕ) (asked : Option HandleCall) (here : State) (end : PollEnd)
    (last : Option Session) (h first : ℕ) (growth : Growth) (cut : List Event) (call : HandleCall)
    → may_call_at here call ≡ true
    → (not (seen_is_into_inner asked) || seen_is_into_inner (Some call)) ≡ true
    → (not (is_again call) || (is_pending end && is_operation asked)) ≡ true
    → OwnerAs (owner_by_parts bytes client asked (OwnerStage.Rests here end) last) cut
    → Goes (owner_by_parts bytes client (Some call)
    (OwnerStage.Polls (new_poll (poll_call_of (is_for_result end) call) here)) last) cut
    (by_owner h (Asked call) first growth)
ask_goes bytes client asked here end last h first growth cut call may still pends t =
    let a = asks_so (last_item last) call end asked here (own cut) may pends
    (is_there last (bound bytes) cut here t.last t.stage.0) t.stage.0 t.operates in
    let inner : (not (seen_was_asked_inner (own cut)) || seen_is_into_inner (Some call)) ≡ true =
    ap (λ b. not b || seen_is_into_inner (Some call)) t.gone.2 ∙ still in
    record {
      acts = all_true (seen_rests (own cut)) (not (seen_is_closed (own cut)) || is_for_closed call)
          (not (seen_was_asked_inner (own cut)) || seen_is_into_inner (Some call))
          (not (is_again call) || seen_is_pending_operation (own cut))
          (rests_so bytes client asked here end last cut t)
          (ap (λ b. not b || is_for_closed call) (gone_is (own cut) here t.stage.0)
          ∙ may_be_asked here call ∙ may)
          inner
          (ap (λ b. not (is_again call) || b) (pends_so bytes client asked here end last cut t)
          ∙ pends);
      ends = tt;
      tie = record {
        made = t.made;
        gone = (t.gone.0, t.gone.1, asks_inner call (own cut) inner);
        asked = refl;
        polled = refl;
        bytes = t.bytes;
        stage = (
          record {
            call = call;
            asked_is = refl;
            begun = is_for_result end;
            call_is = refl;
            at_is = t.stage.0;
            next_is = a.next_is;
            fits = a.fits;
          },
          refl,
          refl,
        );
        operates = a.operates;
        last = t.last;
        place = t.place;
        ended = λ is_end. absurd (never is_end);
        earlier = t.earlier;
        noted = λ number is. absurd (nothing is);
        told = λ waits. absurd (never waits);
      };
    }

-- ---- it is dropped

dropped_last :
    (last : Option Session) (bytes : Kind → ℕ) (h first : ℕ) (growth : Growth) (cut : List Event)
    → LastAs last bytes cut → LastAs last bytes (by_owner h HolderDropped first growth ∷ cut)
dropped_last None bytes h first growth cut t = t
dropped_last (Some s) bytes h first growth cut t = record {
  lent = t.lent;
  flow = t.flow;
  result = record { slot = t.result.slot; over_is = t.result.over_is; let_go = λ is. refl };
  seats = t.seats;
}

pub drop_goes : (bytes client : ℕ) (asked : Option HandleCall) (here : State) (end : PollEnd)
    (last : Option Session) (h first : ℕ) (growth : Growth) (cut : List Event)
    → OwnerAs (owner_by_parts bytes client asked (OwnerStage.Rests here end) last) cut
    → Goes (owner_by_parts bytes client asked OwnerStage.Dropped last) cut
    (by_owner h HolderDropped first growth)
drop_goes bytes client asked here end last h first growth cut t = record {
  acts = rests_so bytes client asked here end last cut t;
  ends = tt;
  tie = record {
    made = t.made;
    gone = (refl, refl, t.gone.2);
    asked = t.asked;
    polled = refl;
    bytes = t.bytes;
    stage = (refl, refl);
    operates = tt;
    last = dropped_last last (bound bytes) h first growth cut t.last;
    place = t.place;
    ended = λ is_end. absurd (never is_end);
    earlier = t.earlier;
    noted = λ number is. absurd (nothing is);
    told = λ waits. absurd (never waits);
  };
}

-- ---- a session is refused

-- how a call tells that its session was refused
abbrev refused_reply : HandleCall → Refusal → Reply ℕ
refused_reply HandleCall.Next reason = Reply.NotBegun reason
refused_reply HandleCall.Operate reason = Reply.NotBegun reason
refused_reply HandleCall.OperateAgain reason = Reply.NotBegun reason
refused_reply _ reason = Reply.Failed (Fault.Refused reason)

-- what the machine does then is what the law says, and fits
record Refuses (begun : Bool) (x : ℕ) (call : HandleCall) (p : OwnerMachine ℕ) (reason : Refusal)
    (back : Option (List Event)) : Type 0 where
  pub replies : machine.refusal {E = ℕ} (poll_call_of begun call) reason
      ≡ OwnerAction.Reply (refused_reply call reason)
  pub says : law.Say (law.refusal (Some call) reason)
      ≡ action_as x call (OwnerAction.Reply (refused_reply call reason))
  pub fits : FitsNext call p (OwnerAction.Reply (refused_reply call reason)) false back

refused : (begun : Bool) (x : ℕ) (call : HandleCall) (p : OwnerMachine ℕ) (reason : Refusal)
    (back : Option (List Event)) → BeginsBy call → Refuses begun x call p reason back
refused begun x (HandleCall.Read (suc n)) p reason back begins =
    record { replies = refl; says = refl; fits = (refl, tt, tt) }
refused begun x (HandleCall.Write (byte ∷ more)) p reason back begins =
    record { replies = refl; says = refl; fits = (refl, tt, tt) }
refused begun x HandleCall.Next p reason back begins =
    record { replies = refl; says = refl; fits = (refl, tt, tt) }
refused begun x (HandleCall.Seek goal) p reason back begins =
    record { replies = refl; says = refl; fits = (refl, tt, tt) }
refused begun x HandleCall.Operate p reason back begins =
    record { replies = refl; says = refl; fits = (refl, tt, tt) }
refused begun x HandleCall.OperateAgain p reason back begins =
    record { replies = refl; says = refl; fits = (refl, tt, tt) }
refused begun x _ p reason back begins = absurd begins

pub refuse_goes : (bytes client : ℕ) (asked : Option HandleCall) (p : OwnerMachine ℕ)
    (last : Option Session) (h first : ℕ) (growth : Growth) (cut : List Event) (reason : Refusal)
    → p.next ≡ OwnerAction.Begin
    → OwnerAs (owner_by_parts bytes client asked (OwnerStage.Polls p) last) cut
    → Goes (owner_by_parts bytes
    client asked (OwnerStage.Polls (owner_after p (OwnerAnswer.Refused reason))) last) cut
    (by_owner h (Refused reason) first growth)
refuse_goes bytes client asked p last h first growth cut reason is t =
    let c = t.stage.0.call in
    let q : OwnerMachine ℕ = record p { next = OwnerAction.Reply (refused_reply c reason) } in
    let r = refused t.stage.0.begun (last_item last) c q reason (came_back cut)
    (fits_at bytes client asked p cut last OwnerAction.Begin t is).0 in
    let same : owner_after p (OwnerAnswer.Refused reason) ≡ q =
    turned p OwnerAction.Begin (OwnerAnswer.Refused reason) t.stage.1 is
    ∙ ap (λ k. record p { next = machine.refusal k reason }) t.stage.0.call_is
    ∙ ap (λ (n : OwnerAction ℕ). record p { next = n }) r.replies in
    subst (λ (m : OwnerMachine ℕ). Goes (owner_by_parts bytes client asked (OwnerStage.Polls m)
    last) cut (by_owner h (Refused reason) first growth)) (sym same)
    (record {
      acts = subst (λ n. Polls cut n (Refused reason))
          (sym (lawful bytes client asked p cut last OwnerAction.Begin t is)) tt;
      ends = tt;
      tie = record {
        made = t.made;
        gone = t.gone;
        asked = t.asked;
        polled = t.polled;
        bytes = t.bytes;
        stage = (
          record {
            call = c;
            asked_is = t.stage.0.asked_is;
            begun = t.stage.0.begun;
            call_is = t.stage.0.call_is;
            at_is = t.stage.0.at_is;
            next_is = ap (λ o. law.Say (law.refusal o reason)) t.stage.0.asked_is ∙ r.says;
            fits = r.fits;
          },
          t.stage.1,
          refl,
        );
        operates = tt;
        last = t.last;
        place = t.place;
        ended = λ is_end. absurd (never is_end);
        earlier = t.earlier;
        noted = λ number is. absurd (nothing is);
        told = λ waits. absurd (never waits);
      };
    })

-- ---- a note is delivered

fits_then : (c : HandleCall) (p : OwnerMachine ℕ) (next : OwnerAction ℕ) (ended : Bool)
    (back : Option (List Event)) → ended ≡ false → FitsNext c p next ended back
    → FitsNext c (record p { is_waking = false }) next false back
fits_then c p OwnerAction.Begin ended back e f = f
fits_then c p OwnerAction.Close ended back e f = f
fits_then c p (OwnerAction.Drain most) ended back e f = f
fits_then c p (OwnerAction.Fill most) ended back e f = f
fits_then c p OwnerAction.Receive ended back e f = f
fits_then c p OwnerAction.PollResult ended back e f = f
fits_then c p OwnerAction.PollSlot ended back e f = (f.0, f.1 ∙ e)
fits_then c p OwnerAction.DropHandle ended back e f = f
fits_then c p (OwnerAction.Reply r) ended back e f = f
fits_then c p _ ended back e f = absurd f

-- an act that took a note didn't see the end
noted_goes_on : (acts : List Act) (n : ℕ) → newest_note acts ≡ Some n → law.is_at_end acts ≡ false
noted_goes_on acts n e = grind arith

pub deliver_goes : (bytes client : ℕ) (asked : Option HandleCall) (p : OwnerMachine ℕ)
    (note : JobNumber) (last : Option Session) (h first : ℕ) (growth : Growth) (cut : List Event)
    (woke : Woke)
    → OwnerAs (owner_by_parts bytes client asked (OwnerStage.Wakes p note) last) cut
    → Goes (owner_by_parts
    bytes client asked (OwnerStage.Polls (owner_after p OwnerAnswer.Delivered)) last) cut
    (by_owner h (JobWoken note.serial woke) first growth)
deliver_goes bytes client asked p note last h first growth cut woke t =
    let e = by_owner h (JobWoken note.serial woke) first growth in
    let q : OwnerMachine ℕ = record p { is_waking = false } in
    let same : owner_after p OwnerAnswer.Delivered ≡ q =
    ap (λ b. owner_in b OwnerAnswer.Delivered p) t.stage.1 in
    let wakes =
    next_with cut ∙ ap (λ n. deliver_first n (owner_next_but_wake cut (own cut))) t.stage.2 in
    subst (λ (m : OwnerMachine ℕ).
    Goes (owner_by_parts bytes client asked (OwnerStage.Polls m) last) cut e) (sym same)
    (record {
      acts = subst (λ n. Polls cut n (JobWoken note.serial woke)) (sym wakes) refl;
      ends = tt;
      tie = record {
        made = t.made;
        gone = t.gone;
        asked = t.asked;
        polled = t.polled;
        bytes = t.bytes;
        stage = (
          record {
            call = t.stage.0.call;
            asked_is = t.stage.0.asked_is;
            begun = t.stage.0.begun;
            call_is = t.stage.0.call_is;
            at_is = t.stage.0.at_is;
            next_is =
                next_stays (e ∷ cut) cut (own cut) (λ back k s. (refl, refl)) ∙ t.stage.0.next_is;
            fits = fits_then t.stage.0.call p p.next (law.is_at_end (own cut)) (came_back cut)
                (noted_goes_on (own cut) note.serial t.stage.2) t.stage.0.fits;
          },
          refl,
          refl,
        );
        operates = t.operates;
        last = t.last;
        place = t.place;
        ended = λ is_end. absurd (never is_end);
        earlier = t.earlier;
        noted = λ number is. absurd (nothing is);
        told = λ waits. absurd (never waits);
      };
    })

-- ---- a session begins

-- the pipes of its sessions hold something
some_default : (kind : Kind) → 0 < default_capacity kind
some_default Streaming = omega arith
some_default _ = omega arith

some_bound : (bytes : ℕ) (kind : Kind) → 0 < bound bytes kind
some_bound bytes kind = at (bytes == 0) refl
  where
    at : (b : Bool) → (bytes == 0) ≡ b → 0 < (if b then default_capacity kind else bytes)
    at true e = some_default kind
    at false e = grind (arith, nat_tests)

-- the new job is in the list of its jobs, before the others
in_more : (t s : ℕ) (jobs : List ℕ) → (t == s) ≡ false → is_in t (s ∷ jobs) ≡ true
    → is_in t jobs ≡ true
in_more t s jobs other e = ap (λ b. b || is_in t jobs) (sym other) ∙ e

-- the handle was back, so the job of the last session is over
last_over : (last : Option Session) (bytes : Kind → ℕ) (cut : List Event) → LastAs last bytes cut
    → seen_state_in (seen_session (own cut)) (seen_is_shut (own cut)) ≡ SeenState.Idle → (t : ℕ)
    → is_serial (seen_last_session (own cut)) (Some t) ≡ true
    → next_but_wake (kind_of_job t (own cut)) (acts_of t cut) ≡ Over
last_over None bytes cut l idle t is =
    absurd (let none = ap (λ r. is_serial r (Some t)) (sym l.0) ∙ is in cc)
last_over (Some s) bytes cut l idle t is =
    let test : (t == s.number.serial) ≡ true =
    ap (λ r. is_serial r (Some t)) (sym l.lent.begun) ∙ is in
    let same : t ≡ s.number.serial = grind (arith, nat_tests) in
    let kind = kind_in (seen_last_session (own cut)) in
    let of_it : kind_of_job s.number.serial (own cut) ≡ kind =
    kind_of_last (own cut) (record { serial = s.number.serial; kind = kind }) l.lent.begun in
    let works = acts_of s.number.serial cut in
    let finished = back_finished s.slot.content (has_finished works)
    (has_given_up works) (is_none (seen_session (own cut))) (fault kind works)
    (back (seen_session (own cut)) (seen_is_shut (own cut)) idle) l.result.slot in
    ap (λ n. next_but_wake (kind_of_job n (own cut)) (acts_of n cut)) same
    ∙ ap (λ k. next_but_wake k works) of_it
    ∙ last_is (next_but_wake kind works)
    (sym l.result.over_is ∙ or_left (has_finished works) (has_given_up works) finished)
  where
    back : (r : Option SeenSession) (shut : Bool) → seen_state_in r shut ≡ SeenState.Idle
        → is_none r ≡ true
    back r shut e = grind arith

    back_finished : (content : Content (Option (Fault ℕ))) (finished given_up back : Bool)
        (found : Option (Fault ℕ)) → back ≡ true → SlotAs content finished given_up back found
        → finished ≡ true
    back_finished Empty finished given_up back found is slot = slot.0 ∙ is
    back_finished (Full w) finished given_up back found is slot = slot.0
    back_finished GivenUp finished given_up back found is slot =
        absurd (let not_back = slot.2 in cc)
    back_finished (Abandoned over) finished given_up back found is slot = absurd slot

-- Where the handle is once a session of a call began, that the call goes on there, and where it is
-- in its operations.
record Began (begun : Bool) (c : HandleCall) (p : OwnerMachine ℕ) (back : Option (List Event)) :
    Type 0 where
  pub lending : IsLending (kind_of (Some c))
  pub at_is : SeenState.In (kind_of (Some c)) true
      ≡ state_as (machine.begun_by (poll_call_of begun c))
  pub next_is : law.at_accepted (Some c) (SeenState.In (kind_of (Some c)) true)
      ≡ action_as 0 c (machine.in_own (poll_call_of begun c))
  pub fits : FitsNext c (record p {
    state = machine.begun_by (poll_call_of begun c);
    next = machine.in_own (poll_call_of begun c);
  })
      (machine.in_own (poll_call_of begun c)) false back
  pub operates : IsOperating (machine.in_own (poll_call_of begun c)) (is_operation (Some c)) true
      false

begins_by : (begun : Bool) (c : HandleCall) (p : OwnerMachine ℕ) (back : Option (List Event))
    → BeginsBy c → p.is_at_end ≡ false → Began begun c p back
begins_by begun (HandleCall.Read (suc n)) p back begins end = record {
  lending = tt;
  at_is = refl;
  next_is = refl;
  fits = (refl, omega arith, refl, end);
  operates = λ is. absurd (never is);
}
begins_by begun (HandleCall.Write (byte ∷ more)) p back begins end =
    record {
      lending = tt;
      at_is = refl;
      next_is = refl;
      fits = (byte ∷ more, refl, refl, omega arith, refl, end);
      operates = λ is. absurd (never is);
    }
begins_by begun HandleCall.Next p back begins end = record {
  lending = tt;
  at_is = refl;
  next_is = refl;
  fits = (refl, refl, end);
  operates = λ is. absurd (never is);
}
begins_by begun (HandleCall.Seek goal) p back begins end = record {
  lending = tt;
  at_is = refl;
  next_is = refl;
  fits = (
    subst (λ b. LooksFrom (HandleCall.Seek goal) (State.Lent (SessionKind.Seeking goal) Open) b)
        (sym end) refl,
    end,
  );
  operates = λ is. absurd (never is);
}
begins_by begun HandleCall.Operate p back begins end = record {
  lending = tt;
  at_is = refl;
  next_is = refl;
  fits = (refl, refl, end);
  operates = (refl, refl);
}
begins_by begun HandleCall.OperateAgain p back begins end = record {
  lending = tt;
  at_is = refl;
  next_is = refl;
  fits = (refl, refl, end);
  operates = (refl, refl);
}
begins_by begun _ p back begins end = absurd begins

pub begin_goes : (bytes client : ℕ) (asked : Option HandleCall) (p : OwnerMachine ℕ)
    (last : Option Session) (h first : ℕ) (growth : Growth) (cut : List Event) (number : JobNumber)
    → p.next ≡ OwnerAction.Begin
    → is_in number.serial (jobs_of (own cut)) ≡ false → acts_of number.serial cut ≡ []
    → OwnerAs (owner_by_parts bytes client asked (OwnerStage.Polls p) last) cut
    → Goes (owner_by_parts bytes client asked (OwnerStage.Polls (owner_after p OwnerAnswer.Begun))
    (Some (new_session number (goods_of (kind_of asked)) (bound bytes (kind_of asked))))) cut
    (by_owner h (Accepted number.serial) first growth)
begin_goes bytes client asked p last h first growth cut number is fresh quiet t =
    let c = t.stage.0.call in
    let fits = fits_at bytes client asked p cut last OwnerAction.Begin t is in
    let e = by_owner h (Accepted number.serial) first growth in
    let k = t.stage.0.begun in
    let b = begins_by k c p (came_back cut) fits.0 fits.2 in
    let q : OwnerMachine ℕ = record p {
      state = machine.begun_by (poll_call_of k c);
      next = machine.in_own (poll_call_of k c);
    } in
    let turn : owner_after p OwnerAnswer.Begun
    ≡ record p { state = machine.begun_by p.call; next = machine.in_own p.call } =
    turned p OwnerAction.Begin OwnerAnswer.Begun t.stage.1 is in
    let same : owner_after p OwnerAnswer.Begun ≡ q = turn ∙ ap
    (λ k. record p { state = machine.begun_by k; next = machine.in_own k }) t.stage.0.call_is in
    let there : is_away p.state ≡ false = ap is_away fits.1 in
    let kind : kind_of (seen_call (own cut)) ≡ kind_of (Some c) = ap kind_of t.stage.0.asked_is in
    let began : Option SeenSession =
    Some (record { serial = number.serial; kind = kind_of (seen_call (own cut)) }) in
    let opened : seen_state_by (seen_is_closed (own cut)) began false
    ≡ SeenState.In (kind_of (Some c)) true =
    ap (λ b. seen_state_by b began false) (gone_is (own cut) p.state t.stage.0.at_is ∙ there)
    ∙ ap (λ k. SeenState.In k true) kind in
    let idle = lent_by (own cut) p.state there t.stage.0.at_is ∙ ap state_as fits.1 in
    let s = new_session number (goods_of (kind_of asked)) (bound bytes (kind_of asked)) in
    let same_kind : kind_of (Some c) ≡ kind_of asked = sym kind ∙ ap kind_of t.asked in
    subst (λ (m : OwnerMachine ℕ).
    Goes (owner_by_parts bytes client asked (OwnerStage.Polls m) (Some s)) cut e) (sym same)
    (record {
      acts = subst (λ n. Polls cut n (Accepted number.serial))
          (sym (lawful bytes client asked p cut last OwnerAction.Begin t is)) fresh;
      ends = tt;
      tie = record {
        made = t.made;
        gone = t.gone;
        asked = t.asked;
        polled = t.polled;
        bytes = t.bytes;
        stage = (
          record {
            call = c;
            asked_is = t.stage.0.asked_is;
            begun = t.stage.0.begun;
            call_is = t.stage.0.call_is;
            at_is = opened ∙ b.at_is;
            next_is = ap (λ st. law.at_accepted (seen_call (own cut)) st) opened ∙ ap
                (λ o. law.at_accepted o (SeenState.In (kind_of (Some c)) true)) t.stage.0.asked_is
                ∙ b.next_is;
            fits = b.fits;
          },
          t.stage.1,
          refl,
        );
        operates =
            subst (λ o. IsOperating (machine.in_own (poll_call_of k c)) (is_operation o) true false)
            (sym t.stage.0.asked_is ∙ t.asked) b.operates;
        place = subst (λ (l : List Act). PlaceBy empty_slot (kind_of (seen_call (own cut))) l false
            false) (sym quiet) (place_begun (kind_of (seen_call (own cut))));
        last = subst (λ (k : Kind). SessionAs s
            k (bound bytes k) (Some (record { serial = number.serial; kind = k })) false
            false (seen_is_dropped (own cut)) [] [] (acts_of number.serial cut) false false false)
            (sym kind)
            (subst
            (λ (l : List Act). SessionAs s (kind_of (Some c)) (bound bytes (kind_of (Some c)))
            (Some (record { serial = number.serial; kind = kind_of (Some c) })) false false
            (seen_is_dropped (own cut)) [] [] l false false false) (sym quiet)
            (subst (λ (k : Kind). SessionAs (new_session number (goods_of k) (bound bytes k))
            (kind_of (Some c)) (bound bytes (kind_of (Some c)))
            (Some (record { serial = number.serial; kind = kind_of (Some c) })) false false
            (seen_is_dropped (own cut)) [] [] [] false false false) same_kind
            (begins number (kind_of (Some c)) (bound bytes (kind_of (Some c)))
            (seen_is_dropped (own cut)) b.lending (some_bound bytes (kind_of (Some c))))));
        ended = λ is_end. absurd (never is_end);
        earlier = λ s among other. ap (λ b. next_but_wake (if b then kind_of (seen_call (own cut))
            else kind_of_job s (own cut)) (acts_of s cut)) (turned_round s number.serial other)
            ∙ earlier s (is_serial (seen_last_session (own cut)) (Some s)) refl
            (in_more s number.serial (jobs_of (own cut)) other among) idle;
        noted = λ number is. absurd (nothing is);
        told = λ waits. absurd (never waits);
      };
    })
  where
    turned_round : (s n : ℕ) → (s == n) ≡ false → (n == s) ≡ false
    turned_round s n test = grind (arith, nat_tests)

    earlier : (s : ℕ) (b : Bool)
        → is_serial (seen_last_session (own cut)) (Some s) ≡ b → is_in s (jobs_of (own cut)) ≡ true
        → seen_state_in (seen_session (own cut)) (seen_is_shut (own cut)) ≡ SeenState.Idle
        → next_but_wake (kind_of_job s (own cut)) (acts_of s cut) ≡ Over
    earlier s true of among idle = last_over last (bound bytes) cut t.last idle s of
    earlier s false of among idle = t.earlier s among of
