-- What the cut of an owner says, by the tie of the owner to it.
use Rattle.std.proofs.Common.{◌≡◌, ℕ, ◌≤◌, ◌&&◌, cond, List, [], ◌∷◌, ◌++◌, length, append_assoc}
use Rattle.std.proofs.Common.{Bool, true, false, refl, sym, ap, ◌∙◌, subst, arith, Option, Some}
use Rattle.std.proofs.Common.{None, if◌then◌else◌, ◌+◌, ◌-◌, not, drop, map, filter, is_none}
use Rattle.std.proofs.Common.{eq-eqb}
use Rattle.std.proofs.Math.Seq.{drop-append_seam}
use Rattle.blocking_world_holders.proofs.Types.{Act, Accepted, Back, Got, GotEnd, GotItem, JobWoken}
use Rattle.blocking_world_holders.proofs.Types.{Waits, Event, HandleCall}
use Rattle.blocking_world_holders.proofs.Words.{room, Closed, Met, Served, Waiting, drain, receive}
use Rattle.blocking_world_holders.proofs.Words.{JobNumber, JobAction, Kind, Operating, Reading}
use Rattle.blocking_world_holders.proofs.Words.{Seeking, Streaming, Writing, fault, has_closed}
use Rattle.blocking_world_holders.proofs.Words.{next_but_wake, number, is_job_seated, note_of}
use Rattle.blocking_world_holders.proofs.Words.{noted, after_back, at_back, deliver_first}
use Rattle.blocking_world_holders.proofs.Words.{is_at_end, next_of_owner, next_of_owner_by}
use Rattle.blocking_world_holders.proofs.Words.{owner_next_but_wake, PassesOn, accepted, gave, got}
use Rattle.blocking_world_holders.proofs.Words.{in_hand, inside, inside_by, is_of_session, kind_in}
use Rattle.blocking_world_holders.proofs.Words.{last_job, last_kind, room_in, taken, seen_drain}
use Rattle.blocking_world_holders.proofs.Words.{seen_receive, IsBeginning, acts_of, is_nothing}
use Rattle.blocking_world_holders.proofs.Words.{is_of_pool, is_some_worker, own, SeenSession}
use Rattle.blocking_world_holders.proofs.Words.{seen_call as call, seen_capacity as capacity}
use Rattle.blocking_world_holders.proofs.Words.{seen_is_shut as is_shut, seen_kind_of, kind_of_job}
use Rattle.blocking_world_holders.proofs.Words.{seen_last_session as last_session, seen_session}
use Rattle.blocking_world_holders.proofs.Words.{Flows, LastAs, newest_note, seat_of, Session}
use Rattle.blocking_world_holders.proofs.Words.{serial_of}

-- ---- the last session

-- its job's acts
pub last_job_is : (cut : List Event) (r : SeenSession) → last_session (own cut) ≡ Some r
    → last_job cut ≡ acts_of r.serial cut
last_job_is cut r e = ap (λ l. map (λ e. e.act) (filter (is_of_session l) cut)) e

-- its job is of its kind
pub kind_of_last : (acts : List Act) (r : SeenSession) → last_session acts ≡ Some r
    → kind_of_job r.serial acts ≡ r.kind
kind_of_last [] r e = absurd (cc)
kind_of_last (Accepted n ∷ past) r e =
    let same : record { serial = n; kind = seen_kind_of (call past) } ≡ r = cc in
    subst (λ q. kind_of_job q.serial (Accepted n ∷ past) ≡ q.kind) same
    (ap (λ b. if b then seen_kind_of (call past) else kind_of_job n past) (eq-eqb n n refl))
kind_of_last (_ ∷ past) r e = kind_of_last past r e

pub not_not : (a b : Bool) → a ≡ not b → not a ≡ b
not_not a true e = ap not e
not_not a false e = ap not e

-- ---- what went through its pipe, by its kind

module _ (s : Session) (shut : Bool) (next : JobAction) (owner acts : List Act) where
  inside_at : (kind : Kind) → Flows kind s shut (got owner) (accepted owner) next acts
      → inside_by kind owner acts ≡ s.pipe.items
  inside_at Reading t =
      ap (λ l. drop (length (got owner)) l) t.inside ∙ drop-append_seam (got owner) s.pipe.items
  inside_at Streaming t =
      ap (λ l. drop (length (got owner)) l) t.inside ∙ drop-append_seam (got owner) s.pipe.items
  inside_at Writing t = ap (λ n. drop n (accepted owner)) t.removed
      ∙ ap (λ l. drop (length t.out) l) t.inside ∙ drop-append_seam t.out s.pipe.items
  inside_at (Seeking goal) t = sym t.plain.inside
  inside_at Operating t = sym t.plain.inside
  inside_at _ t = absurd t

  closed_at : (kind : Kind) → Flows kind s shut (got owner) (accepted owner) next acts
      → has_closed acts ≡ not s.pipe.is_job_open
  closed_at Reading t = t.closed_is
  closed_at Streaming t = t.closed_is
  closed_at Writing t = t.closed_is
  closed_at (Seeking goal) t = t.plain.closed_is
  closed_at Operating t = t.plain.closed_is
  closed_at _ t = absurd t

  read_at : (kind : Kind) → Flows kind s shut (got owner) (accepted owner) next acts
      → IsBeginning (got owner) (gave acts)
  read_at Reading t = (
    s.pipe.items ++ t.put.0,
    t.put.1 ∙ ap (λ l. l ++ t.put.0) t.inside ∙ append_assoc (got owner) s.pipe.items t.put.0,
  )
  read_at Streaming t = (
    s.pipe.items ++ t.put.0,
    t.put.1 ∙ ap (λ l. l ++ t.put.0) t.inside ∙ append_assoc (got owner) s.pipe.items t.put.0,
  )
  read_at Writing t = (gave acts, ap (λ l. l ++ gave acts) (sym t.ungot))
  read_at (Seeking goal) t = (gave acts, ap (λ l. l ++ gave acts) (sym t.plain.ungot))
  read_at Operating t = (gave acts, ap (λ l. l ++ gave acts) (sym t.plain.ungot))
  read_at _ t = absurd t

  written_at : (kind : Kind) → Flows kind s shut (got owner) (accepted owner) next acts
      → IsBeginning (taken acts) (accepted owner)
  written_at Reading t = (accepted owner, ap (λ l. l ++ accepted owner) (sym t.unwritten))
  written_at Streaming t = (accepted owner, ap (λ l. l ++ accepted owner) (sym t.unwritten))
  written_at Writing t = t.begun
  written_at (Seeking goal) t =
      (accepted owner, ap (λ l. l ++ accepted owner) (sym t.plain.unwritten))
  written_at Operating t = (accepted owner, ap (λ l. l ++ accepted owner) (sym t.plain.unwritten))
  written_at _ t = absurd t

  bounded_at : (kind : Kind) → Flows kind s shut (got owner) (accepted owner) next acts
      → length (gave acts) ≤ length (got owner) + s.pipe.capacity + in_hand kind
  bounded_at Reading t = t.bounded
  bounded_at Streaming t = t.bounded
  bounded_at Writing t =
      subst (λ l. length l ≤ length (got owner) + s.pipe.capacity + 0) (sym t.ungiven) (omega arith)
  bounded_at (Seeking goal) t = subst (λ l. length l ≤ length (got owner) + s.pipe.capacity + 0)
      (sym t.plain.ungiven) (omega arith)
  bounded_at Operating t = subst (λ l. length l ≤ length (got owner) + s.pipe.capacity + 0)
      (sym t.plain.ungiven) (omega arith)
  bounded_at _ t = absurd t

module _ (s : Session) (bytes : Kind → ℕ) (cut : List Event) (t : LastAs (Some s) bytes cut) where
  -- the kind of the session
  abbrev pub its_kind : Kind
  its_kind = kind_in (last_session (own cut))

  pub kind_is : kind_of_job s.number.serial (own cut) ≡ its_kind
  kind_is =
      kind_of_last (own cut) (record { serial = s.number.serial; kind = its_kind }) t.lent.begun

  pub its_job : last_job cut ≡ acts_of s.number.serial cut
  its_job = last_job_is cut (record { serial = s.number.serial; kind = its_kind }) t.lent.begun

  abbrev acts : List Act
  acts = acts_of s.number.serial cut

  abbrev next : JobAction
  next = next_but_wake its_kind acts

  -- what is inside its pipe
  pub inside_is : inside cut ≡ s.pipe.items
  inside_is = ap (λ l. inside_by its_kind (own cut) l) its_job
      ∙ inside_at s (is_shut (own cut)) next (own cut) acts its_kind t.flow

  pub room_is : ((kind : Kind) → capacity kind (own cut) ≡ bytes kind) → room_in cut ≡ room s.pipe
  room_is same = ap (λ (l : List ℕ). capacity its_kind (own cut) - length l) inside_is
      ∙ ap (λ n. n - length s.pipe.items) (same its_kind ∙ sym t.lent.holds)

  -- which ends are open
  pub closed_is : has_closed acts ≡ not s.pipe.is_job_open
  closed_is = closed_at s (is_shut (own cut)) next (own cut) acts its_kind t.flow

  pub lasts_is : not (has_closed (last_job cut)) ≡ s.pipe.is_job_open
  lasts_is =
      ap (λ l. not (has_closed l)) its_job ∙ not_not (has_closed acts) s.pipe.is_job_open closed_is

  pub open_is : not (is_shut (own cut)) ≡ s.pipe.is_owner_open
  open_is = not_not (is_shut (own cut)) s.pipe.is_owner_open t.lent.shut_is

  -- the note of the job that is seated
  pub noted_is : serial_of s.pipe.job_seat ≡ noted cut
  noted_is = ap serial_of t.seats.job ∙ seat_note its_kind (is_job_seated cut)
      ∙ ap (λ l. note_of l (is_job_seated cut)) (sym t.lent.begun)
    where
      seat_note : (kind : Kind) (b : Bool) → serial_of (seat_of b s.number)
          ≡ note_of (Some (record { serial = s.number.serial; kind = kind })) b
      seat_note kind b = grind arith

no_more : (b : Bool) (e : Event) (seen : List Event) → b ≡ false → seen ≡ []
    → cond b (e ∷ seen) seen ≡ []
no_more b e seen out none = grind arith

-- no event is of a session that there isn't
of_none : (seen : List Event) → filter (is_of_session None) seen ≡ []
of_none [] = refl
of_none (e ∷ seen) = no_more (is_of_session None e) e (filter (is_of_session None) seen)
    (out (is_of_pool e.act) (is_nothing e.act) (is_some_worker e.party)) (of_none seen)
  where
    out : (pool nothing worker : Bool) → (not pool && not nothing && worker && false) ≡ false
    out pool nothing worker = grind arith

-- what passed is what the tie says
pub passes : (last : Option Session) (bytes : Kind → ℕ) (cut : List Event)
    → ((kind : Kind) → capacity kind (own cut) ≡ bytes kind) → LastAs last bytes cut → PassesOn cut
passes None bytes cut same t = record {
  read = (
    gave (last_job cut),
    ap (λ l. gave (last_job cut)) t.0 ∙ ap (λ l. l ++ gave (last_job cut)) (sym t.1),
  );
  written = (
    accepted (own cut),
    ap (λ l. l ++ accepted (own cut))
        (sym (ap (λ r. taken (map (λ e. e.act) (filter (is_of_session r) cut))) t.0
        ∙ ap (λ l. taken (map (λ e. e.act) l)) (of_none cut))),
  );
  within = subst (λ l. length l ≤ capacity (last_kind cut) (own cut))
      (sym (ap (λ l. inside_by (kind_in l) (own cut) (last_job cut)) t.0)) (omega arith);
  bounded = subst (λ l. length (gave l)
      ≤ length (got (own cut)) + capacity (last_kind cut) (own cut) + in_hand (last_kind cut))
      (sym (ap (λ l. map (λ e. e.act) (filter (is_of_session l) cut)) t.0
      ∙ ap (λ l. map (λ e. e.act) l) (of_none cut))) (omega arith);
}
passes (Some s) bytes cut same t =
    let within = t.lent.within in
    let holds = t.lent.holds in
    let kind = kind_in (last_session (own cut)) in
    let acts = acts_of s.number.serial cut in
    let shut = is_shut (own cut) in
    let next = next_but_wake kind acts in
    let job = its_job s bytes cut t in
    let bounded = bounded_at s shut next (own cut) acts kind t.flow in
    let whole = same (kind_in (last_session (own cut))) in
    record {
      read = subst (λ l. IsBeginning (got (own cut)) (gave l)) (sym job)
          (read_at s shut next (own cut) acts kind t.flow);
      written = subst (λ l. IsBeginning (taken l) (accepted (own cut))) (sym job)
          (written_at s shut next (own cut) acts kind t.flow);
      within = subst (λ l. length l ≤ capacity kind (own cut)) (sym (inside_is s bytes cut t))
          (omega (arith, within, whole));
      bounded = subst (λ l. length (gave l) ≤ length (got (own cut)) + capacity kind (own cut)
          + in_hand kind) (sym job) (omega (arith, bounded, holds, whole));
    }

-- ---- what comes next

-- a note is delivered before all else
pub next_with : (cut : List Event)
    → next_of_owner cut ≡ deliver_first (newest_note (own cut)) (owner_next_but_wake cut (own cut))
next_with cut = by_acts (own cut)
  where
    by_acts : (acts : List Act) → next_of_owner_by cut acts
        ≡ deliver_first (newest_note acts) (owner_next_but_wake cut acts)
    by_acts acts = grind arith

-- What is next stays where the faults of jobs and their numbers do: they matter once the handle is
-- back.
pub next_stays : (new old : List Event) (acts : List Act)
    → (is_none (seen_session acts) ≡ true
    → (k : Kind) (s : ℕ) → (fault k (acts_of s new) ≡ fault k (acts_of s old))
    × (number (acts_of s new) ≡ number (acts_of s old)))
    → owner_next_but_wake new acts ≡ owner_next_but_wake old acts
next_stays new old (Back ∷ past) same = back (call past) (last_session past)
  where
    back : (asked : Option HandleCall) (r : Option SeenSession)
        → at_back asked r (is_at_end past) new ≡ at_back asked r (is_at_end past) old
    back None r = refl
    back (Some c) None = refl
    back (Some c) (Some r) =
        ap (λ f. after_back c f (is_at_end past) r.kind (number (acts_of r.serial new)))
        (same refl r.kind r.serial).0
        ∙ ap (λ n. after_back c (fault r.kind (acts_of r.serial old)) (is_at_end past) r.kind n)
        (same refl r.kind r.serial).1
next_stays new old (JobWoken s woke ∷ past) same = next_stays new old past same
next_stays new old _ same = refl

-- ---- what a drain is seen to find

abbrev pub drain_act : Met (List ℕ × Option JobNumber) → Act
drain_act (Served got) = Got got.0 (serial_of got.1)
drain_act Waiting = Waits
drain_act Closed = GotEnd

pub drain_seen : (n : ℕ) (items : List ℕ) (lasts : Bool) (seat : Option JobNumber)
    → drain_act (drain n items lasts seat) ≡ seen_drain (drain n items lasts (serial_of seat))
drain_seen n items lasts seat = grind arith

-- and a receipt
abbrev pub receive_act : Met (ℕ × Option JobNumber) → Act
receive_act (Served got) = GotItem got.0 (serial_of got.1)
receive_act Waiting = Waits
receive_act Closed = GotEnd

pub receive_shown : (items : List ℕ) (lasts : Bool) (seat : Option JobNumber)
    → receive_act (receive items lasts seat) ≡ seen_receive (receive items lasts (serial_of seat))
receive_shown items lasts seat = grind arith
