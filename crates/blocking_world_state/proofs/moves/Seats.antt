-- Where an owner meets a job that is left to it, after each step: in the pipe's seat, or by the
-- note that it has to deliver.
use Rattle.std.proofs.Common.{◌≡◌, ◌⊎◌, inl, inr, ℕ, Bool, true, sym, ap, ◌∙◌, subst, Option, Some}
use Rattle.std.proofs.Common.{None, arith}
use Rattle.blocking_world_state.proofs.Types.{Refusal, Act, JobParked, HandleCall, SessionJob}
use Rattle.blocking_world_state.proofs.Types.{OwnerStage}
use Rattle.blocking_world_state.proofs.Words.{JobNumber, seat_of, Owner, rests, note_at}
use Rattle.blocking_world_state.proofs.Words.{owner_after_ask, Did, did, owner_after_refusal}
use Rattle.blocking_world_state.proofs.Words.{owner_after_delivery, owner_after_drop, Worked}
use Rattle.blocking_world_state.proofs.Words.{worked, owner_after_give_up, Session, seated_in}
use Rattle.blocking_world_state.proofs.Words.{is_number, IsMet}
use Rattle.blocking_world_state.proofs.moves.SessionActs.{SessionAct, DoesSo, Fits, after, seen}
use Rattle.blocking_world_state.proofs.moves.SessionActs.{worked_so}

-- ---- its poll

-- where the owner meets job s, by where it is in its polls and by its session
abbrev MetAt : OwnerStage → Option Session → ℕ → Type 0
MetAt here last s = (is_number (seated_in last) s ≡ true) ⊎ (is_number (note_at here) s ≡ true)

-- it is asked
pub asked_met : (call : HandleCall) (owner : Owner) (s : ℕ) → IsMet owner s
    → IsMet (owner_after_ask call owner) s
asked_met call owner s met = grind arith

-- a session is refused
pub refused_met : (why : Refusal) (owner : Owner) (s : ℕ) → IsMet owner s
    → IsMet (owner_after_refusal why owner) s
refused_met why owner s met = grind arith

-- a note is delivered, which is another job's
pub delivered_met : (owner : Owner) (s : ℕ) → (is_number (note_at owner.stage) s ≡ true → ⊥)
    → IsMet owner s → IsMet (owner_after_delivery owner) s
delivered_met owner s other met = grind arith

-- it is dropped: it closes nothing, and empties no seat
pub dropped_met : (owner : Owner) (s : ℕ) → rests owner ≡ true → IsMet owner s
    → IsMet (owner_after_drop owner) s
dropped_met owner s rests met = grind arith

-- its poll acts
pub did_met : (owner : Owner) (s : ℕ) (done : Did) → did owner ≡ Some done → IsMet owner s
    → IsMet done.owner s
did_met owner s done does met = grind arith

-- ---- its job

-- who is seated in the pipe after an act of the job: the job itself, which has to wait, or who was
-- seated before
abbrev pub SeatsSo : Session → Act → Option JobNumber → Type 0
SeatsSo session act seat =
    ((act ≡ JobParked → ⊥) × (seat ≡ session.pipe.job_seat)) ⊎ (seat ≡ Some session.number)

seats_after : (job : SessionJob) (session : Session) (act : SessionAct) → Fits act job session
    → SeatsSo session (seen act) (after act session).pipe.job_seat
seats_after job session act fits = grind arith

-- the seat is empty, or that of the last session's job
abbrev pub SeatAs : Bool → Option Session → Type 0
SeatAs seated None = Unit {0}
SeatAs seated (Some session) = session.pipe.job_seat ≡ seat_of seated session.number

-- so who was seated still is
still_seated : (session : Session) (act : Act) (seat : Option JobNumber) (s : ℕ) (seated : Bool)
    → SeatsSo session act seat → SeatAs seated (Some session)
    → is_number session.pipe.job_seat s ≡ true
    → is_number seat s ≡ true
still_seated session act seat s seated o tie is = grind arith

-- a job acts
pub worked_met : (job : SessionJob) (owner : Owner) (done : Worked) (s : ℕ) (seated : Bool)
    → worked job owner ≡ Some done → SeatAs seated owner.session → IsMet owner s
    → IsMet done.owner s
worked_met job owner done s seated does tie met = by (worked_so job owner done does)
  where
    there : (last new : Option Session)
        → (is_number (seated_in last) s ≡ true → is_number (seated_in new) s ≡ true)
        → MetAt owner.stage last s → MetAt owner.stage new s
    there last new still (inl seat) = inl (still seat)
    there last new still (inr other) = inr other

    by : DoesSo job owner done → IsMet done.owner s
    by (inl wakes) = subst (λ (o : Owner). IsMet o s) (sym wakes.1) met
    by (inr so) =
        subst (λ (o : Owner). IsMet o s) (sym so.owner_is)
        (there owner.session (Some (after so.act so.session))
        (λ is.
        still_seated so.session (seen so.act) (after so.act so.session).pipe.job_seat s seated
        (seats_after job so.session so.act so.fits) (subst (SeatAs seated) so.here tie)
        (ap (λ o. is_number (seated_in o) s) (sym so.here) ∙ is)) met)

-- a job gives up
pub gave_up_met : (owner : Owner) (s : ℕ) → IsMet owner s → IsMet (owner_after_give_up owner) s
gave_up_met owner s met = grind arith
