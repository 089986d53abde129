-- No wake between an owner and its job is lost: an owner that waits for a job at rest was woken.
use Rattle.std.proofs.Common.{◌≡◌, ◌⊎◌, inl, inr, ℕ, ◌==◌, List, [], ◌∷◌, Bool, true, false, refl}
use Rattle.std.proofs.Common.{sym, ap, subst, Option, Some, None, ◌&&◌, ◌||◌, not, slice_get}
use Rattle.std.proofs.Common.{is_some, arith}
use Rattle.std.specs.FinMap.{get}
use Rattle.std.proofs.lemmas.Bool.{eq-eqb, or_left}
use Rattle.blocking_world_state.proofs.Types.{Act, Accepted, Event, Moment, ByOwner, OwnerStage}
use Rattle.blocking_world_state.proofs.Words.{JobNumber, is_in, Kind, has_finished, has_given_up}
use Rattle.blocking_world_state.proofs.Words.{holder, is_woken, is_running, is_parked, standing}
use Rattle.blocking_world_state.proofs.Words.{is_job_seated, events, is_this, acts_of, cut, own}
use Rattle.blocking_world_state.proofs.Words.{last_session, session, jobs_of, capacity, turn}
use Rattle.blocking_world_state.proofs.Words.{newest_note, StageAs, LastAs, OwnerAs, Owner, note_at}
use Rattle.blocking_world_state.proofs.Words.{Session, Parts, is_at_first, is_waiting_in, is_left}
use Rattle.blocking_world_state.proofs.Words.{seated_in, is_number, IsMet, Tied}
use Rattle.blocking_world_laws.specs.OwnerWakes.{HasReason, IsSessionOf, NoLostOwnerWake}
use Rattle.blocking_world_laws.specs.OwnerWakes.{ParksRightly, is_waking}
use Rattle.blocking_world_laws.specs.Sessions as sessions
use Rattle.blocking_world_laws.specs.Wakes.{is_at_rest, is_waiting, was_woken}
use Rattle.blocking_world_holders.proofs.owners.States.{session_is_last}
use Rattle.blocking_world_holders.proofs.owners.Wakes.{not_lost, seated_reason}
use Rattle.blocking_world_state.proofs.laws.Wakes.{rests_over}
use Rattle.blocking_world_state.proofs.ties.Jobs.{held_row}
use Rattle.blocking_world_state.proofs.ties.Releases.{owner_there}

never : (b : Bool) → b ≡ false → b ≡ true → ⊥
never b none some = cc

-- ---- the session

-- the job of the last session is one of the owner's
last_among : (acts : List Act) (r : sessions.Session) → last_session acts ≡ Some r
    → is_in r.serial (jobs_of acts) ≡ true
last_among [] r is = absurd cc
last_among (Accepted s ∷ past) r is =
    let same : s ≡ r.serial = ap (serial_in s) is in
    or_left (r.serial == s) (is_in r.serial (jobs_of past)) (eq-eqb r.serial s (sym same))
  where
    serial_in : ℕ → Option sessions.Session → ℕ
    serial_in n None = n
    serial_in n (Some r) = r.serial
last_among (_ ∷ past) r is = last_among past r is

-- and so is that of the session that isn't over
session_among : (acts : List Act) (s : ℕ) → IsSessionOf (session acts) s
    → is_in s (jobs_of acts) ≡ true
session_among acts s of = grind (arith, last_among, session_is_last)

-- ---- where the owner meets its job

-- so an owner that waits meets a job that is left to it in the pipe
waits_met : (owner : Owner) (X : List Event) (s : ℕ) → OwnerAs owner X → is_waiting (own X) ≡ true
    → IsMet owner s → is_job_seated X ≡ true
waits_met owner X s t waits o = grind arith

-- ---- why a job waits

-- a job that sits in the pipe has reason to
seated_so : (last : Option Session) (bytes : Kind → ℕ) (X : List Event) (s : ℕ)
    → ((kind : Kind) → capacity kind (own X) ≡ bytes kind) → LastAs last bytes X
    → is_number (seated_in last) s ≡ true → HasReason X
seated_so None bytes X s same t is = absurd cc
seated_so (Some held) bytes X s same t is =
    seated_reason held bytes X same t (some_seat held.pipe.job_seat is)
  where
    some_seat : (seat : Option JobNumber) → is_number seat s ≡ true → is_some seat ≡ true
    some_seat seat is = grind arith

-- the job whose note was taken just now has a wake under way
noted_waking : (acts : List Act) (s n : ℕ) → newest_note acts ≡ Some n → is_this s (Some n) ≡ true
    → is_waking s acts ≡ true
noted_waking acts s n is same = grind arith

noted_under_way : (here : OwnerStage) (x : ℕ) (X : List Event) (s : ℕ) → StageAs here x X
    → is_number (note_at here) s ≡ true → is_waking s (own X) ≡ true
noted_under_way here x X s t noted = grind (arith, noted_waking)

-- so a job that is left to its owner has reason to wait, or a wake of it is under way
parks_met : (owner : Owner) (X : List Event) (s : ℕ) → OwnerAs owner X → is_waking s (own X) ≡ false
    → IsMet owner s → HasReason X
parks_met owner X s t still o = grind (arith, seated_so, never, noted_under_way)

-- ---- all of them

module _ (setting : ℕ) (plan : List Bool) (w : Parts) (past : List Moment)
    (t : Tied setting plan w past) where
  -- a parked job is left to its owner
  left_of : (s : ℕ) → is_parked (standing past s) ≡ true → is_left past s ≡ true
  left_of s parked = or_left (is_parked (standing past s))
      (is_running (standing past s) && is_waiting_in (turn past s) && not (is_woken past s)) parked

  -- a job at rest is over, or is seated at an owner that waits
  rests_so : (h s : ℕ) (owner : Owner) → slice_get w.owners h ≡ Some owner
      → holder past s ≡ Some (ByOwner h) → is_waiting (own (cut h (events past))) ≡ true
      → is_at_rest past s ≡ true
      → (has_finished (acts_of s (cut h (events past))) || has_given_up
      (acts_of s (cut h (events past))) ≡ true) ⊎ (is_job_seated (cut h (events past)) ≡ true)
  rests_so h s owner found held waits rests = by (is_parked (standing past s)) refl
    where
      by : (b : Bool) → is_parked (standing past s) ≡ b
          → (has_finished (acts_of s (cut h (events past)))
          || has_given_up (acts_of s (cut h (events past))) ≡ true)
          ⊎ (is_job_seated (cut h (events past)) ≡ true)
      by true parked =
          inr (waits_met owner (cut h (events past)) s (t.owned.each h owner found) waits
          (t.crossed h s owner found held (left_of s parked)))
      by false unparked =
          let row = held_row setting plan w past t s (ByOwner h) held in
          let over =
          rests_over (get w.crew.pool.jobs s) (standing past s) _ _ _ _ (turn past s)
          (is_at_first row.0.core) (acts_of s (events past)) (t.crewed.tied.filed s)
          (t.rowed.each s row.0 row.1).place
          (λ parked. never (is_parked (standing past s)) unparked (ap is_parked parked)) rests in
          inl (subst (λ acts. has_finished acts || has_given_up acts ≡ true)
          (sym (t.owned.acts h s held)) over)

  -- so that owner was woken
  woken_of : (h s : ℕ) → IsSessionOf (session (own (cut h (events past)))) s
      → is_waiting (own (cut h (events past))) ≡ true → is_at_rest past s ≡ true
      → was_woken (cut h (events past)) ≡ true
  woken_of h s of waits rests =
      let held = t.owned.held h s (session_among (own (cut h (events past))) s of) in
      let owner = owner_there setting plan w past t h s held in
      not_lost owner.0 (cut h (events past)) (t.owned.each h owner.0 owner.1) s of waits
      (rests_so h s owner.0 owner.1 held waits rests)

  -- a parked job has reason to wait
  parks_rightly : (h s : ℕ) → holder past s ≡ Some (ByOwner h)
      → ParksRightly past s (cut h (events past))
  parks_rightly h s held parked still =
      let owner = owner_there setting plan w past t h s held in
      parks_met owner.0 (cut h (events past)) s (t.owned.each h owner.0 owner.1) still
      (t.crossed h s owner.0 owner.1 held (left_of s parked))

  -- no wake between an owner and its job is lost
  pub no_lost_owner_wake : NoLostOwnerWake past
  no_lost_owner_wake = record {
    owners = λ h s of waits rests. inl (woken_of h s of waits rests);
    jobs = parks_rightly;
  }
