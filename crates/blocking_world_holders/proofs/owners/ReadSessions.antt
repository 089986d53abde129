-- The session of an owner after each act of its job.
use Rattle.std.proofs.Common.{◌≡◌, ℕ, ◌<◌, ◌≤◌, ◌==◌, List, [], ◌∷◌, ◌++◌, length, length-append}
use Rattle.std.proofs.Common.{append_assoc, Bool, true, false, refl, sym, ap, ◌∙◌, subst, arith}
use Rattle.std.proofs.Common.{Option, None, if◌then◌else◌, inl, inr, ◌||◌, ◌+◌, ◌-◌, nat_le, not}
use Rattle.std.proofs.Common.{take, is_some, eqb-true, append-nil}
use Rattle.std.proofs.lemmas.Bool.{or_left, or_right}
use Rattle.std.proofs.lemmas.Bool.Decides.{nat_tests}
use Rattle.std.proofs.Math.Seq.{take-length}
use Rattle.blocking_world_holders.proofs.Types.{Fault, Act, Answered, Finished, GaveUp, HolderWoken}
use Rattle.blocking_world_holders.proofs.Types.{JobClosed, JobParked, Lost, Put, RoomFree, RoomShut}
use Rattle.blocking_world_holders.proofs.Types.{HolderWaker, HandleAnswer, Failed, Gave}
use Rattle.blocking_world_holders.proofs.Words.{room, Closed, Served, Waiting, find_room, hand_in}
use Rattle.blocking_world_holders.proofs.Words.{Abandoned, Content, Empty, Full, GivenUp, Slot}
use Rattle.blocking_world_holders.proofs.Words.{slot_after, slot_without_job, handle_answers}
use Rattle.blocking_world_holders.proofs.Words.{has_failure, AskBytes, CloseEnd, FindRoom, Finish}
use Rattle.blocking_world_holders.proofs.Words.{JobAction, Kind, Operating, Over, PutPiece, Reading}
use Rattle.blocking_world_holders.proofs.Words.{Seeking, Streaming, Writing, fault, has_finished}
use Rattle.blocking_world_holders.proofs.Words.{has_given_up, is_answer, is_over}
use Rattle.blocking_world_holders.proofs.Words.{job_next_after_answer as next_after_answer}
use Rattle.blocking_world_holders.proofs.Words.{next_but_wake, number, answered, carried, counted}
use Rattle.blocking_world_holders.proofs.Words.{gave, got, peeked, was_put, SeenSession, Flows}
use Rattle.blocking_world_holders.proofs.Words.{GaveAll, LentAs, PassedAs, ResultAs, SeatsAs}
use Rattle.blocking_world_holders.proofs.Words.{SessionAs, SlotAs, is_finding, passed_by, Session}
use Rattle.blocking_world_holders.proofs.Words.{session_after_finish, session_after_give_up}
use Rattle.blocking_world_holders.proofs.Words.{session_after_job_close, session_after_put}
use Rattle.blocking_world_holders.proofs.Words.{session_after_room}
use Rattle.blocking_world_holders.proofs.owners.Drains.{lent_with, job_sits, flow_with}
use Rattle.blocking_world_holders.proofs.owners.Drains.{written_with, plain_still, same_stuck}
use Rattle.blocking_world_holders.proofs.owners.Drains.{same_owner_stuck}

-- ---- what a job finds

-- a job that finds room finds some
pub some_room : (free n : ℕ) (lasts : Bool) → find_room free lasts ≡ Served n → (n ≡ free) × (0 < n)
some_room free n false e = absurd (cc)
some_room free n true e = at (free == 0) refl e
  where
    at : (b : Bool) → (free == 0) ≡ b → (if b then Waiting else Served free) ≡ Served n
        → (n ≡ free) × (0 < n)
    at true t e = absurd (cc)
    at false t e = let same : n ≡ free = cc in (same, grind (arith, nat_tests))

-- a job that waits for room finds the pipe full, and its owner's end open
pub no_room : (free : ℕ) (lasts : Bool) → find_room free lasts ≡ Waiting
    → (free ≡ 0) × (lasts ≡ true)
no_room free false e = absurd (cc)
no_room free true e = at (free == 0) refl e
  where
    at : (b : Bool) → (free == 0) ≡ b → (if b then Waiting else Served free) ≡ Waiting
        → (free ≡ 0) × (true ≡ true)
    at true t e = (eqb-true free 0 t, refl)
    at false t e = absurd (cc)

-- a job that is told so finds its owner's end closed
pub shut_room : (free : ℕ) (lasts : Bool) → find_room free lasts ≡ Closed → lasts ≡ false
shut_room free false e = refl
shut_room free true e = at (free == 0) e
  where
    at : (b : Bool) → (if b then Waiting else Served free) ≡ Closed → true ≡ false
    at b e = grind arith

module _ {W : Type 0} where
  -- what fits is put where the owner's end is open, and lost where it is closed
  pub put_is : (n free : ℕ) (lasts : Bool) (seat : Option W) (got : Option W)
      → hand_in n free lasts seat ≡ Served got → (got ≡ seat) × (n ≤ free)
  put_is n free false seat got e = absurd (cc)
  put_is n free true seat got e = at (nat_le n free) refl e
    where
      at : (b : Bool) → nat_le n free ≡ b → (if b then Served seat else Waiting) ≡ Served got
          → (got ≡ seat) × (n ≤ free)
      at true t e = let same : got ≡ seat = cc in (same, grind (arith, nat_tests))
      at false t e = absurd (cc)

  pub lost_is : (n free : ℕ) (lasts : Bool) (seat : Option W) → hand_in n free lasts seat ≡ Closed
      → lasts ≡ false
  lost_is n free false seat e = refl
  lost_is n free true seat e = at (nat_le n free) e
    where
      at : (b : Bool) → (if b then Served seat else Waiting) ≡ Closed → true ≡ false
      at b e = grind arith

-- ---- its parts by the job's next action

pub neither : (a b : Bool) → a || b ≡ false → (a ≡ false) × (b ≡ false)
neither false false e = (refl, refl)
neither false true e = absurd (cc)
neither true b e = absurd (cc)

-- where nobody sits in the job's seat, whether it waits doesn't matter
pub nobody_sits : (s : Session) (kind : Kind) (waits after js ps ss : Bool)
    → (is_some s.pipe.job_seat ≡ true → ⊥) → SeatsAs s kind waits js ps ss
    → SeatsAs s kind after js ps ss
nobody_sits s kind waits after js ps ss none t = record {
  job = t.job;
  owner = t.owner;
  slot = t.slot;
  reason =
      record { job = λ seated. absurd (none seated); owner = t.reason.owner; slot = t.reason.slot };
}

-- where the job doesn't wait, nobody sits in its seat
pub unseated : (s : Session) (kind : Kind) (waits after js ps ss : Bool) → waits ≡ false
    → SeatsAs s kind waits js ps ss → SeatsAs s kind after js ps ss
unseated s kind waits after js ps ss e t =
    nobody_sits s kind waits after js ps ss (λ seated. let w = (t.reason.job seated).0 in cc) t

-- ---- the tie, by the job's next action

module _ (s : Session) (kind : Kind) (capacity : ℕ) (last : Option SeenSession)
    (shut back dropped : Bool) (took accepted : List ℕ) (acts : List Act) (js ps ss : Bool) where
  -- the tie, by the job's next action
  pub record At (next : JobAction) : Type 0 where
    pub lent : LentAs s kind capacity last shut
    pub flow : Flows kind s shut took accepted next acts
    pub result : ResultAs s.slot.content (has_finished acts) (has_given_up acts) (is_over next) back
        dropped (fault kind acts)
    pub seats : SeatsAs s kind (is_finding next || has_given_up acts) js ps ss

  -- from the tie to that, and back
  pub at : (next : JobAction) → next_but_wake kind acts ≡ next
      → SessionAs s kind capacity last shut back dropped took accepted acts js ps ss → At next
  at next e t = record {
    lent = t.lent;
    flow = subst (λ a. Flows kind s shut took accepted a acts) e t.flow;
    result = subst (λ a. ResultAs s.slot.content (has_finished acts) (has_given_up acts) (is_over a)
        back dropped (fault kind acts)) e t.result;
    seats = subst (λ a. SeatsAs s kind (is_finding a || has_given_up acts) js ps ss) e t.seats;
  }

  pub tied_at : (next : JobAction) → next_but_wake kind acts ≡ next → At next
      → SessionAs s kind capacity last shut back dropped took accepted acts js ps ss
  tied_at next e t = record {
    lent = t.lent;
    flow = subst (λ a. Flows kind s shut took accepted a acts) (sym e) t.flow;
    result = subst (λ a. ResultAs s.slot.content (has_finished acts) (has_given_up acts) (is_over a)
        back dropped (fault kind acts)) (sym e) t.result;
    seats =
        subst (λ a. SeatsAs s kind (is_finding a || has_given_up acts) js ps ss) (sym e) t.seats;
  }

-- ---- acts of a job of any kind

-- a job that isn't over has put nothing into the slot, from which nothing was taken
pub record IsGoing (content : Content (Option (Fault ℕ))) (finished given_up back : Bool) :
    Type 0 where
  pub empty : content ≡ Empty
  pub unfinished : finished ≡ false
  pub stays : given_up ≡ false
  pub lent : back ≡ false

pub going : (content : Content (Option (Fault ℕ))) (finished given_up back dropped : Bool)
    (why : Option (Fault ℕ))
    → ResultAs content finished given_up false back dropped why
    → IsGoing content finished given_up back
going content finished given_up back dropped why r =
    by_slot content (neither finished given_up r.over_is) r.slot
  where
    by_slot : (content : Content (Option (Fault ℕ))) → (finished ≡ false) × (given_up ≡ false)
        → SlotAs content finished given_up back why → IsGoing content finished given_up back
    by_slot Empty both slot =
        record { empty = refl; unfinished = both.0; stays = both.1; lent = sym slot.0 ∙ both.0 }
    by_slot (Full found) both slot = absurd (let a = slot.0 in let b = both.0 in cc)
    by_slot GivenUp both slot = absurd (let a = slot.1 in let b = both.1 in cc)
    by_slot (Abandoned over) both slot = absurd slot

-- what went through the pipe, where the waker that the job took was called
called_flow : (s : Session) (kind : Kind) (shut : Bool) (took accepted : List ℕ) (acts : List Act)
    → Flows kind s shut took accepted (next_but_wake kind acts) acts
    → Flows kind s shut took accepted (next_but_wake kind acts) (HolderWoken ∷ acts)
called_flow s Reading shut took accepted acts t = t
called_flow s Streaming shut took accepted acts t = t
called_flow s Writing shut took accepted acts t = t
called_flow s (Seeking goal) shut took accepted acts t =
    record { plain = t.plain; next_is = t.next_is; place = t.place }
called_flow s Operating shut took accepted acts t = record { plain = t.plain; next_is = t.next_is }
called_flow s _ shut took accepted acts t = t

-- and where it gave up
left_flow : (s : Session) (slot : Slot (Option (Fault ℕ)) (Unit {0})) (kind : Kind) (shut : Bool)
    (took accepted : List ℕ) (next : JobAction) (acts : List Act) (waker : HolderWaker)
    → Flows kind s shut took accepted next acts
    → Flows kind (record s { slot = slot }) shut took accepted Over (GaveUp waker ∷ acts)
left_flow s slot Reading shut took accepted next acts waker t =
    flow_with s t.closed_is
    (subst (λ b. GaveAll b (passed_by acts)) (sym (or_right shut true refl)) tt)
    (λ is lasts. refl) t
left_flow s slot Streaming shut took accepted next acts waker t =
    flow_with s t.closed_is
    (subst (λ b. GaveAll b (passed_by acts)) (sym (or_right shut true refl)) tt)
    (λ is lasts. refl) t
left_flow s slot Writing shut took accepted next acts waker t =
    written_with s t t.closed_is (λ stays. absurd (cc)) (λ is lasts. refl)
left_flow s slot (Seeking goal) shut took accepted next acts waker t =
    record { plain = plain_still s t.plain; next_is = tt; place = t.place }
left_flow s slot Operating shut took accepted next acts waker t =
    record { plain = plain_still s t.plain; next_is = tt }
left_flow s slot _ shut took accepted next acts waker t = absurd t

-- and where it closed its end
closed_flow : (s : Session) (kind : Kind) (shut : Bool) (took accepted : List ℕ) (acts : List Act)
    (waker : HolderWaker)
    → Flows kind s shut took accepted CloseEnd acts
    → Flows kind (session_after_job_close s) shut took accepted Finish (JobClosed waker ∷ acts)
closed_flow s Reading shut took accepted acts waker t =
    flow_with s refl (refl, t.passed_is.1) (λ is. absurd (cc)) t
closed_flow s Streaming shut took accepted acts waker t =
    flow_with s refl (refl, t.passed_is.1) (λ is. absurd (cc)) t
closed_flow s Writing shut took accepted acts waker t =
    written_with s t refl (refl, t.written_is.1, t.written_is.2) (λ is. absurd (cc))
closed_flow s (Seeking goal) shut took accepted acts waker t = absurd t.next_is
closed_flow s Operating shut took accepted acts waker t = absurd t.next_is
closed_flow s _ shut took accepted acts waker t = absurd t

-- a job that seeks leaves where the handle is
abbrev pub Leaves : Kind → Session → List Act → Type 0
Leaves (Seeking goal) s acts = s.left ≡ number acts
Leaves kind s acts = Unit {0}

-- and where it put its result
finished_flow : (s : Session) (slot : Slot (Option (Fault ℕ)) (Unit {0})) (kind : Kind)
    (shut : Bool) (took accepted : List ℕ) (acts : List Act) (waker : HolderWaker)
    → Leaves kind s acts → Flows kind s shut took accepted Finish acts
    → Flows kind (record s { slot = slot }) shut took accepted Over (Finished waker ∷ acts)
finished_flow s slot Reading shut took accepted acts waker leaves t =
    flow_with s t.closed_is t.passed_is.1 (λ is lasts. absurd (let closed = t.passed_is.0 in cc)) t
finished_flow s slot Streaming shut took accepted acts waker leaves t =
    flow_with s t.closed_is t.passed_is.1 (λ is lasts. absurd (let closed = t.passed_is.0 in cc)) t
finished_flow s slot Writing shut took accepted acts waker leaves t =
    written_with s t t.closed_is (λ stays. (t.written_is.1, t.written_is.2))
    (λ is lasts. absurd (let closed = t.written_is.0 in cc))
finished_flow s slot (Seeking goal) shut took accepted acts waker leaves t =
    record { plain = plain_still s t.plain; next_is = tt; place = λ is. leaves }
finished_flow s slot Operating shut took accepted acts waker leaves t =
    record { plain = plain_still s t.plain; next_is = tt }
finished_flow s slot _ shut took accepted acts waker leaves t = absurd t

module _ (s : Session) (kind : Kind) (capacity : ℕ) (last : Option SeenSession)
    (shut back dropped : Bool) (took accepted : List ℕ) (acts : List Act) (js ps ss : Bool) where
  -- the waker that it took is called
  pub calls : SessionAs s kind capacity last shut back dropped took accepted acts js ps ss
      → SessionAs s kind capacity last shut back dropped took accepted (HolderWoken ∷ acts) js ps ss
  calls t = record {
    lent = t.lent;
    flow = called_flow s kind shut took accepted acts t.flow;
    result = t.result;
    seats = t.seats;
  }

  -- it closes its end of the pipe
  pub closes : (waker : HolderWaker)
      → At s kind capacity last shut back dropped took accepted acts js ps ss CloseEnd
      → SessionAs (session_after_job_close s) kind capacity last shut back dropped took accepted
      (JobClosed waker ∷ acts) js false ss
  closes waker t =
      let none = (going s.slot.content (has_finished acts) (has_given_up acts) back dropped
      (fault kind acts) t.result).stays in
      record {
        lent = lent_with s t.lent t.lent.within;
        flow = closed_flow s kind shut took accepted acts waker t.flow;
        result = t.result;
        seats = record {
          job = t.seats.job;
          owner = refl;
          slot = t.seats.slot;
          reason = record {
            job = λ seated. (let w = (t.seats.reason.job seated).0 in absurd (cc));
            owner = λ seated. absurd (cc);
            slot = λ seated. (let r = t.seats.reason.slot seated in (r.0, inr (inl refl)));
          };
        };
      }

  -- it puts its result
  pub finishes : (waker : HolderWaker) (why : Option (Fault ℕ))
      → why ≡ fault kind acts → Leaves kind s acts
      → At s kind capacity last shut back dropped took accepted acts js ps ss Finish
      → SessionAs (session_after_finish why s) kind capacity last shut back dropped took accepted
      (Finished waker ∷ acts) js ps false
  finishes waker why same leaves t =
      let g = going s.slot.content (has_finished acts) (has_given_up acts) back dropped
      (fault kind acts) t.result in
      let none = g.stays in
      let put : slot_after s.slot.content s.slot.seat why
      ≡ record { content = Full why; seat = None } =
      ap (λ c. slot_after c s.slot.seat why) g.empty in
      let full = ap (λ (l : Slot (Option (Fault ℕ)) (Unit {0})). l.content) put in
      let out = ap (λ (l : Slot (Option (Fault ℕ)) (Unit {0})). l.seat) put in
      record {
        lent = lent_with s t.lent t.lent.within;
        flow = finished_flow s (slot_after s.slot.content s.slot.seat why) kind shut took accepted
            acts waker leaves t.flow;
        result = record {
          slot = subst (λ c. SlotAs c true (has_given_up acts) back (fault kind acts)) (sym full)
              (refl, none, g.lent, same);
          over_is = refl;
          let_go = t.result.let_go;
        };
        seats = record {
          job = t.seats.job;
          owner = t.seats.owner;
          slot = sym (ap is_some out);
          reason = record {
            job = λ seated. (let w = (t.seats.reason.job seated).0 in absurd (cc));
            owner = λ seated. (let r = t.seats.reason.owner seated in
                (same_owner_stuck s (slot_after s.slot.content s.slot.seat why) kind r.0, r.1));
            slot = λ seated. (let w = sym (ap is_some out) ∙ seated in absurd (cc));
          };
        };
      }

  -- it gives up
  pub gives_up : (waker : HolderWaker) → is_over (next_but_wake kind acts) ≡ false → dropped ≡ true
      → SessionAs s kind capacity last shut back dropped took accepted acts js ps ss
      → SessionAs (session_after_give_up s) kind capacity last shut back dropped took accepted
      (GaveUp waker ∷ acts) js ps false
  gives_up waker goes gone t =
      let result = subst (λ b. ResultAs s.slot.content (has_finished acts) (has_given_up acts) b
      back dropped (fault kind acts)) goes t.result in
      let g = going s.slot.content (has_finished acts) (has_given_up acts) back dropped
      (fault kind acts) result in
      let given : slot_without_job s.slot.content s.slot.seat
      ≡ record { content = GivenUp; seat = None } =
      ap (λ c. slot_without_job c s.slot.seat) g.empty in
      let full = ap (λ (l : Slot (Option (Fault ℕ)) (Unit {0})). l.content) given in
      let out = ap (λ (l : Slot (Option (Fault ℕ)) (Unit {0})). l.seat) given in
      record {
        lent = lent_with s t.lent t.lent.within;
        flow = left_flow s (slot_without_job s.slot.content s.slot.seat) kind shut took accepted
            (next_but_wake kind acts) acts waker t.flow;
        result = record {
          slot = subst (λ c. SlotAs c (has_finished acts) true back (fault kind acts)) (sym full)
              (g.unfinished, refl, g.lent);
          over_is = or_right (has_finished acts) true refl;
          let_go = λ is. gone;
        };
        seats = record {
          job = t.seats.job;
          owner = t.seats.owner;
          slot = sym (ap is_some out);
          reason = record {
            job = λ seated. (let r = t.seats.reason.job seated in
                (refl, same_stuck s (slot_without_job s.slot.content s.slot.seat) kind r.1, r.2));
            owner = λ seated. (let r = t.seats.reason.owner seated in
                (same_owner_stuck s (slot_without_job s.slot.content s.slot.seat) kind r.0, r.1));
            slot = λ seated. (let w = sym (ap is_some out) ∙ seated in absurd (cc));
          };
        };
      }

-- ---- acts of a job that reads

module _ (s : Session) (capacity : ℕ) (last : Option SeenSession) (shut back dropped : Bool)
    (took accepted : List ℕ) (acts : List Act) (js ps ss : Bool) where
  -- it finds room
  pub finds : (n : ℕ) → find_room (room s.pipe) s.pipe.is_owner_open ≡ Served n
      → At s Reading capacity last shut back dropped took accepted acts js ps ss FindRoom
      → SessionAs s Reading capacity last shut back dropped took accepted (RoomFree n ∷ acts) js ps
      ss
  finds n found t =
      let p = t.flow.passed_is in
      let some = some_room (room s.pipe) n s.pipe.is_owner_open found in
      let free = some.0 in
      let any = some.1 in
      record {
        lent = t.lent;
        flow = record {
          closed_is = t.flow.closed_is;
          inside = t.flow.inside;
          put = t.flow.put;
          bounded = t.flow.bounded;
          sound = t.flow.sound;
          passed_is = (p.0, p.1, omega (arith, free));
          unclosed = λ is. absurd (cc);
          unwritten = t.flow.unwritten;
        };
        result = t.result;
        seats = nobody_sits s Reading (true || has_given_up acts) (false || has_given_up acts)
            js ps ss (λ seated. let full = (t.seats.reason.job seated).1 in
            omega (arith, full, free, any)) t.seats;
      }

  -- it finds the owner's end closed
  pub finds_shut : find_room (room s.pipe) s.pipe.is_owner_open ≡ Closed
      → At s Reading capacity last shut back dropped took accepted acts js ps ss FindRoom
      → SessionAs s Reading capacity last shut back dropped took accepted (RoomShut ∷ acts) js ps ss
  finds_shut found t =
      let closed = shut_room (room s.pipe) s.pipe.is_owner_open found in
      let stopped : shut ≡ true = t.lent.shut_is ∙ ap not closed in
      record {
        lent = t.lent;
        flow = flow_with s t.flow.closed_is (
          t.flow.passed_is.0,
          subst (λ b. GaveAll (b || has_given_up acts) (passed_by acts))
              (sym stopped) tt,
        ) (λ is. absurd (cc)) t.flow;
        result = t.result;
        seats = nobody_sits s Reading (true || has_given_up acts) (false || has_given_up acts) js ps
            ss (λ seated. let lasts = (t.seats.reason.job seated).2 in cc) t.seats;
      }

  -- it finds none, and is seated
  pub parks : find_room (room s.pipe) s.pipe.is_owner_open ≡ Waiting
      → next_but_wake Reading acts ≡ FindRoom
      → SessionAs s Reading capacity last shut back dropped took accepted acts js ps ss
      → SessionAs (session_after_room Waiting s) Reading capacity last shut back dropped took
      accepted (JobParked ∷ acts) true ps ss
  parks found e t =
      let full = no_room (room s.pipe) s.pipe.is_owner_open found in
      record {
        lent = lent_with s t.lent t.lent.within;
        flow = flow_with s t.flow.closed_is t.flow.passed_is t.flow.unclosed t.flow;
        result = t.result;
        seats = job_sits s t.seats
            (or_left (is_finding (next_but_wake Reading acts)) (has_given_up acts)
            (ap is_finding e))
            full;
      }

-- ---- its reader answers

-- so its fault is told to nobody yet
pub still : (content : Content (Option (Fault ℕ))) (finished given_up back dropped : Bool)
    (why new : Option (Fault ℕ))
    → ResultAs content finished given_up false back dropped why
    → ResultAs content finished given_up false back dropped new
still content finished given_up back dropped why new r =
    let g = going content finished given_up back dropped why r in
    record {
      slot = subst (λ c. SlotAs c finished given_up back new) (sym g.empty)
          (g.unfinished ∙ sym g.lent, g.stays);
      over_is = r.over_is;
      let_go = r.let_go;
    }

pub longer : (put given more : List ℕ) → (rest : List ℕ) × (given ≡ put ++ rest)
    → (rest : List ℕ) × (given ++ more ≡ put ++ rest)
longer put given more found =
    (found.0 ++ more, ap (λ l. l ++ more) found.1 ∙ append_assoc put found.0 more)

-- a job that reads has nothing in hand
no_hand : {a b : ℕ} → a ≤ b → a ≤ b + 0
no_hand within = omega arith

-- what goes into the room that was found is bounded, where all that was given before was taken or
-- is inside
bounds : (given put taken items more : List ℕ) (capacity : ℕ) → given ≡ put ++ []
    → put ≡ taken ++ items → length items ≤ capacity → length more ≤ capacity - length items
    → length (given ++ more) ≤ length taken + capacity
bounds given put taken items more capacity all inside within fits =
    let whole : length given ≡ length taken + length items =
    ap (λ (l : List ℕ). length l) (all ∙ append-nil put ∙ inside) ∙ length-append taken items in
    rw length-append (omega (arith, whole, within, fits))

module _ (s : Session) (capacity : ℕ) (last : Option SeenSession) (shut back dropped : Bool)
    (took accepted : List ℕ) (acts : List Act) (js ps ss : Bool) (most : ℕ) where
  -- what an answer leaves of a job that asks for bytes
  left : (answer : HandleAnswer) (next : JobAction) → is_over next ≡ false
      → is_finding next ≡ false → next_after_answer (AskBytes most) answer ≡ next
      → ((piece : List ℕ) → counted answer piece ≡ []) → next_but_wake Reading acts ≡ AskBytes most
      → PassedAs next (room s.pipe) s.pipe.is_job_open (shut || has_given_up acts)
      (passed_by (Answered answer ∷ acts)) → length (carried answer) ≤ room s.pipe
      → SessionAs s Reading capacity last shut back dropped took accepted acts js ps ss → SessionAs
      s Reading capacity last shut back dropped took accepted (Answered answer ∷ acts) js ps ss
  left answer next goes on table uncounted e passed fits t =
      let a = at s Reading capacity last shut back dropped took accepted acts js ps ss
      (AskBytes most) e t in
      let within = a.lent.within in
      let holds = a.lent.holds in
      let whole : length s.pipe.items ≤ s.pipe.capacity = omega (arith, within, holds) in
      let none = (going s.slot.content (has_finished acts) (has_given_up acts) back dropped
      (fault Reading acts) a.result).stays in
      tied_at s Reading capacity last shut back dropped took accepted (Answered answer ∷ acts) js ps
      ss next (ap (λ n. next_after_answer n answer) e ∙ table)
      (record {
        lent = a.lent;
        flow = record {
          closed_is = a.flow.closed_is;
          inside = a.flow.inside;
          put = longer (was_put acts) (gave acts) (carried answer) a.flow.put;
          bounded = no_hand (bounds (gave acts) (was_put acts) took s.pipe.items (carried answer)
              s.pipe.capacity a.flow.passed_is.1.0 a.flow.inside whole fits);
          sound = λ hand. absurd (omega (arith, hand));
          passed_is = passed;
          unclosed = λ is. absurd (cc);
          unwritten = ap (λ l. l ++ counted answer (peeked acts)) a.flow.unwritten
              ∙ uncounted (peeked acts);
        };
        result = subst (λ b. ResultAs s.slot.content (has_finished acts) (has_given_up acts) b back
            dropped (fault Reading (Answered answer ∷ acts))) (sym goes)
            (still s.slot.content (has_finished acts) (has_given_up acts) back dropped
            (fault Reading acts) (fault Reading (Answered answer ∷ acts)) a.result);
        seats = unseated s Reading (false || has_given_up acts)
            (is_finding next || has_given_up acts) js ps ss none a.seats;
      })

  -- the reader answers what it was asked for
  pub answers : (answer : HandleAnswer) → is_answer (AskBytes most) answer ≡ true
      → next_but_wake Reading acts ≡ AskBytes most
      → SessionAs s Reading capacity last shut back dropped took accepted acts js ps ss → SessionAs
      s Reading capacity last shut back dropped took accepted (Answered answer ∷ acts) js ps ss
  answers (Gave (b ∷ bs)) fits e t =
      let p = (at s Reading capacity last shut back dropped took accepted acts js ps ss
      (AskBytes most) e t).flow.passed_is in
      let room = p.2 in
      left (Gave (b ∷ bs)) (PutPiece (b ∷ bs)) refl refl refl (λ piece. refl) e (
        p.0,
        (ap (λ l. l ++ (b ∷ bs)) (p.1.0 ∙ append-nil (was_put acts)), p.1.1),
        grind (arith, nat_tests),
        refl,
      ) (grind (arith, nat_tests)) t
  answers (Gave []) fits e t =
      let p = (at s Reading capacity last shut back dropped took accepted acts js ps ss
      (AskBytes most) e t).flow.passed_is in
      left (Gave []) CloseEnd refl refl refl (λ piece. refl) e (
        p.0,
        gave_all (shut || has_given_up acts) (append-nil (gave acts) ∙ p.1.0
            ∙ append-nil (was_put acts)) (or_right (has_failure (handle_answers acts)) true refl),
      )
      (omega arith) t
    where
      gave_all : (b : Bool)
          → gave acts ++ [] ≡ was_put acts → has_failure (handle_answers acts) || true ≡ true
          → GaveAll b (passed_by (Answered (Gave []) ∷ acts))
      gave_all true same ended = tt
      gave_all false same ended = (same, ended)
  answers (Failed error) fits e t =
      let p = (at s Reading capacity last shut back dropped took accepted acts js ps ss
      (AskBytes most) e t).flow.passed_is in
      left (Failed error) CloseEnd refl refl refl (λ piece. refl) e (
        p.0,
        gave_all (shut || has_given_up acts)
            (append-nil (gave acts) ∙ p.1.0 ∙ append-nil (was_put acts)),
      ) (omega arith) t
    where
      gave_all : (b : Bool) → gave acts ++ [] ≡ was_put acts
          → GaveAll b (passed_by (Answered (Failed error) ∷ acts))
      gave_all true same = tt
      gave_all false same = (same, refl)
  answers _ fits e t = absurd (cc)

-- ---- it puts bytes

module _ (s : Session) (capacity : ℕ) (last : Option SeenSession) (shut back dropped : Bool)
    (took accepted : List ℕ) (acts : List Act) (js ps ss : Bool) (bytes : List ℕ) where
  -- they are inside
  pub puts : (waker : HolderWaker) (seat : Option (Unit {0}))
      → hand_in (length bytes) (room s.pipe) s.pipe.is_owner_open s.pipe.owner_seat ≡ Served seat
      → At s Reading capacity last shut back dropped took accepted acts js ps ss (PutPiece bytes)
      → SessionAs (session_after_put bytes (Served seat) s) Reading capacity last shut back dropped
      took accepted (Put (length bytes) waker ∷ acts) js false ss
  puts waker seat found t =
      let p = t.flow.passed_is in
      let none = (going s.slot.content (has_finished acts) (has_given_up acts) back dropped
      (fault Reading acts) t.result).stays in
      let fits = (put_is (length bytes) (room s.pipe) s.pipe.is_owner_open s.pipe.owner_seat seat
      found).1 in
      let within = t.lent.within in
      let holds = t.lent.holds in
      let whole : take (length bytes) (answered acts) ≡ bytes =
      ap (take (length bytes)) p.3 ∙ take-length bytes in
      let more : was_put acts ++ take (length bytes) (answered acts) ≡ was_put acts ++ bytes =
      ap (λ l. was_put acts ++ l) whole in
      record {
        lent = lent_with s t.lent (rw length-append (omega (arith, within, holds, fits)));
        flow = record {
          closed_is = t.flow.closed_is;
          inside = more ∙ ap (λ l. l ++ bytes) t.flow.inside ∙ append_assoc took s.pipe.items bytes;
          put = (
            [],
            p.1.0 ∙ sym more
                ∙ sym (append-nil (was_put acts ++ take (length bytes) (answered acts))),
          );
          bounded = t.flow.bounded;
          sound = t.flow.sound;
          passed_is = (
            p.0,
            (
              p.1.0 ∙ sym more
                  ∙ sym (append-nil (was_put acts ++ take (length bytes) (answered acts))),
              p.1.1,
            ),
          );
          unclosed = λ is. absurd (cc);
          unwritten = t.flow.unwritten;
        };
        result = t.result;
        seats = record {
          job = t.seats.job;
          owner = refl;
          slot = t.seats.slot;
          reason = record {
            job = λ seated. (let w = (t.seats.reason.job seated).0 in absurd (cc));
            owner = λ seated. absurd (cc);
            slot = t.seats.reason.slot;
          };
        };
      }

  -- they are lost
  pub loses : hand_in (length bytes) (room s.pipe) s.pipe.is_owner_open s.pipe.owner_seat ≡ Closed
      → At s Reading capacity last shut back dropped took accepted acts js ps ss (PutPiece bytes)
      → SessionAs s Reading capacity last shut back dropped took accepted
      (Lost (length bytes) ∷ acts) js ps ss
  loses found t =
      let none = (going s.slot.content (has_finished acts) (has_given_up acts) back dropped
      (fault Reading acts) t.result).stays in
      let closed =
      lost_is (length bytes) (room s.pipe) s.pipe.is_owner_open s.pipe.owner_seat found in
      let stopped : shut ≡ true = t.lent.shut_is ∙ ap not closed in
      record {
        lent = t.lent;
        flow = flow_with s t.flow.closed_is (
          t.flow.passed_is.0,
          subst (λ b. GaveAll (b || has_given_up acts) (passed_by acts))
              (sym stopped) tt,
        ) (λ is. absurd (cc)) t.flow;
        result = t.result;
        seats = unseated s Reading (false || has_given_up acts) (false || has_given_up acts) js ps
            ss none t.seats;
      }
