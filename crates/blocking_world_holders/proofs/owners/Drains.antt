-- The session of an owner after each act of the owner itself.
use Rattle.std.proofs.Common.{◌≡◌, ℕ, ◌<◌, ◌≤◌, List, [], ◌∷◌, ◌++◌, length, length-append}
use Rattle.std.proofs.Common.{append_assoc, Bool, true, false, refl, sym, ap, ◌∙◌, subst, arith}
use Rattle.std.proofs.Common.{Option, Some, inl, ◌||◌, ◌⊎◌, not, ◌-◌, min, max, take, drop}
use Rattle.std.proofs.Common.{take-append-drop, length-drop, length-take}
use Rattle.std.proofs.lemmas.List.{take_min}
use Rattle.blocking_world_holders.proofs.Types.{Fault, Act}
use Rattle.blocking_world_holders.proofs.Words.{room, Closed, Served, Waiting, drain, Empty, Full}
use Rattle.blocking_world_holders.proofs.Words.{Slot, JobNumber, AskBytes, AskFlush, AskItem}
use Rattle.blocking_world_holders.proofs.Words.{CloseEnd, Consume, FindRoom, Finish, JobAction}
use Rattle.blocking_world_holders.proofs.Words.{Kind, OfferBytes, Operating, Over, Peek, PutPiece}
use Rattle.blocking_world_holders.proofs.Words.{Reading, Seeking, SendItem, Streaming, Writing}
use Rattle.blocking_world_holders.proofs.Words.{fault, has_finished, has_given_up, is_over}
use Rattle.blocking_world_holders.proofs.Words.{next_but_wake, SeenSession, FlowAs, Flows, IsDone}
use Rattle.blocking_world_holders.proofs.Words.{IsDrained, IsOwnerStuckIn, IsStuckIn, LentAs}
use Rattle.blocking_world_holders.proofs.Words.{Passed, PassedAs, PlainFlow, SeatsAs, SessionAs}
use Rattle.blocking_world_holders.proofs.Words.{SlotAs, WriteFlowAs, WrittenAs, Wrote}
use Rattle.blocking_world_holders.proofs.Words.{is_piped_kind, passed_by, first_action, wrote_by}
use Rattle.blocking_world_holders.proofs.Words.{OfNothing, Session, goods_of, new_session}
use Rattle.blocking_world_holders.proofs.Words.{session_after_close, session_after_drain}
use Rattle.blocking_world_holders.proofs.Words.{session_after_look}

-- ---- what a drain finds

module _ {X N : Type 0} where
  -- an owner that finds nothing yet found the pipe empty, with the job's end open
  pub nothing_yet : (n : ℕ) (items : List X) (lasts : Bool) (seat : Option N)
      → drain n items lasts seat ≡ Waiting → (items ≡ []) × (lasts ≡ true)
  nothing_yet n [] true seat e = (refl, refl)
  nothing_yet n [] false seat e = absurd (cc)
  nothing_yet n (x ∷ xs) lasts seat e = absurd (cc)

  -- an owner that finds the end found it empty, with the job's end closed
  pub at_end : (n : ℕ) (items : List X) (lasts : Bool) (seat : Option N)
      → drain n items lasts seat ≡ Closed → (items ≡ []) × (lasts ≡ false)
  at_end n [] true seat e = absurd (cc)
  at_end n [] false seat e = (refl, refl)
  at_end n (x ∷ xs) lasts seat e = absurd (cc)

  -- an owner that finds something found the front of what was inside
  pub front : (n : ℕ) (items : List X) (lasts : Bool) (seat : Option N) (got : List X × Option N)
      → drain n items lasts seat ≡ Served got
      → (got.0 ≡ take n items) × (got.1 ≡ seat) × (items ≡ [] → ⊥)
  front n [] true seat got e = absurd (cc)
  front n [] false seat got e = absurd (cc)
  front n (x ∷ xs) lasts seat got e = let same : got ≡ (take n (x ∷ xs), seat) = cc in
      (ap (λ g. g.0) same, ap (λ g. g.1) same, λ none. cc)

  -- room for as much as is inside is as good as room for all that is wanted
  pub reached : (n : ℕ) (items : List X) (lasts : Bool) (seat : Option N) → 0 < n
      → drain (max 1 (min (max 1 n) (length items))) items lasts seat ≡ drain n items lasts seat
  reached n [] true seat some = refl
  reached n [] false seat some = refl
  reached n (x ∷ xs) lasts seat some =
      let one : max 1 n ≡ n = omega arith in
      let inner : max 1 (min n (length (x ∷ xs))) ≡ min n (length (x ∷ xs)) = omega arith in
      ap (λ front. Served (front, seat)) (ap (λ k. take (max 1 (min k (length (x ∷ xs)))) (x ∷ xs))
      one ∙ ap (λ k. take k (x ∷ xs)) inner ∙ take_min n (x ∷ xs))

-- ---- what a job may still give on

-- it may where there is more room
pub more_room : (next : JobAction) (old new : ℕ) (lasts stopped : Bool) (g : Passed) → old ≤ new
    → PassedAs next old lasts stopped g → PassedAs next new lasts stopped g
more_room FindRoom old new lasts stopped g more p = p
more_room (AskBytes most) old new lasts stopped g more p = let fits = p.2 in
    (p.0, p.1, omega (arith, fits, more))
more_room (PutPiece bytes) old new lasts stopped g more p = let fits = p.2 in
    (p.0, p.1, omega (arith, fits, more), p.3)
more_room AskItem old new lasts stopped g more p = p
more_room (SendItem x) old new lasts stopped g more p = p
more_room CloseEnd old new lasts stopped g more p = p
more_room Finish old new lasts stopped g more p = p
more_room Over old new lasts stopped g more p = p
more_room _ old new lasts stopped g more p = absurd p

-- and of one that is stopped nothing more is asked
stops : (next : JobAction) (room : ℕ) (lasts stopped : Bool) (g : Passed)
    → PassedAs next room lasts stopped g → PassedAs next room lasts true g
stops FindRoom room lasts stopped g p = p
stops (AskBytes most) room lasts stopped g p = p
stops (PutPiece bytes) room lasts stopped g p = p
stops AskItem room lasts stopped g p = p
stops (SendItem x) room lasts stopped g p = p
stops CloseEnd room lasts stopped g p = (p.0, tt)
stops Finish room lasts stopped g p = (p.0, tt)
stops Over room lasts stopped g p = tt
stops _ room lasts stopped g p = absurd p

-- the same of one that writes: what is drained may be so as its owner's end is closed
drained : (items : List ℕ) (shut : Bool) (why : Option (Fault ℕ)) → IsDrained items shut why
    → IsDrained items true why
drained items shut why p = λ none. ((p none).0, refl)

done : (items : List ℕ) (shut : Bool) (w : Wrote) → IsDone items shut w → IsDone items true w
done items shut w p = (drained items shut w.fault p.0, p.1)

stops_writing : (next : JobAction) (out items : List ℕ) (lasts shut given_up : Bool) (w : Wrote)
    → WrittenAs next out items lasts shut given_up w
    → WrittenAs next out items lasts true given_up w
stops_writing Peek out items lasts shut given_up w p = p
stops_writing (OfferBytes piece) out items lasts shut given_up w p = p
stops_writing (Consume n) out items lasts shut given_up w p = p
stops_writing AskFlush out items lasts shut given_up w p =
    (p.0, p.1, drained items shut w.fault p.2)
stops_writing CloseEnd out items lasts shut given_up w p = (p.0, p.1, done items shut w p.2)
stops_writing Finish out items lasts shut given_up w p = (p.0, p.1, done items shut w p.2)
stops_writing Over out items lasts shut given_up w p =
    λ stays. ((p stays).0, done items shut w (p stays).1)
stops_writing _ out items lasts shut given_up w p = absurd p

-- ---- what depends on the kind of the session

-- what passes through the pipe of a session, and which it is, whoever sits there, whatever stands
-- in its places, and with these items inside, of which there are no more than there may be
pub lent_with : (s : Session) {item left : ℕ} {items : List ℕ} {runs : Bool}
    {at_job : Option JobNumber} {at_owner : Option (Unit {0})} {result : Slot ℕ (Unit {0})}
    {slot : Slot (Option (Fault ℕ)) (Unit {0})} {kind : Kind} {capacity : ℕ}
    {last : Option SeenSession} {shut : Bool} → LentAs s kind capacity last shut
    → length items ≤ capacity
    → LentAs (record {
      number = s.number;
      goods = s.goods;
      item = item;
      pipe = record s.pipe {
        items = items;
        is_job_open = runs;
        job_seat = at_job;
        owner_seat = at_owner;
      };
      result = result;
      slot = slot;
      left = left;
    }) kind capacity last shut
lent_with s t within = assumption

-- what passed through a pipe has passed there whoever sits at it, whatever end is closed, and
-- whatever stands in the slot
pub flow_with : {hand : ℕ} (s : Session) {runs lasts : Bool} {at_job : Option JobNumber}
    {at_owner : Option (Unit {0})} {slot : Slot (Option (Fault ℕ)) (Unit {0})} {shut shuts : Bool}
    {took : List ℕ} {next after : JobAction} {closed closes given_up gives_up : Bool}
    {passed : Passed}
    → closes ≡ not runs → PassedAs after (room s.pipe) runs (shuts || gives_up) passed
    → (is_over after ≡ true → runs ≡ true → gives_up ≡ true)
    → FlowAs hand s shut took next closed given_up passed
    → FlowAs hand (record s {
      pipe = record s.pipe {
        is_job_open = runs;
        is_owner_open = lasts;
        job_seat = at_job;
        owner_seat = at_owner;
      };
      slot = slot;
    }) shuts took after closes
    gives_up passed
flow_with s closed_is passed_is unclosed t = assumption

-- the same where the job writes
pub written_with : (s : Session) {runs lasts : Bool} {at_job : Option JobNumber}
    {at_owner : Option (Unit {0})} {slot : Slot (Option (Fault ℕ)) (Unit {0})} {shut shuts : Bool}
    {took accepted : List ℕ} {next after : JobAction}
    {closed closes given_up gives_up : Bool} {wrote : Wrote}
    (t : WriteFlowAs s shut took accepted next closed given_up wrote) → closes ≡ not runs
    → WrittenAs after t.out s.pipe.items runs shuts gives_up wrote
    → (is_over after ≡ true → runs ≡ true → gives_up ≡ true)
    → WriteFlowAs (record s {
      pipe = record s.pipe {
        is_job_open = runs;
        is_owner_open = lasts;
        job_seat = at_job;
        owner_seat = at_owner;
      };
      slot = slot;
    }) shuts took accepted after
    closes gives_up wrote
written_with s t closed_is written_is unclosed = record {
  closed_is = closed_is;
  out = t.out;
  inside = t.inside;
  removed = t.removed;
  begun = t.begun;
  written_is = written_is;
  sound = t.sound;
  ungot = t.ungot;
  ungiven = t.ungiven;
  unclosed = unclosed;
}

-- through the pipe of a session without one nothing went, be its end closed and its places others
pub plain_still : (s : Session) {item left : ℕ} {lasts : Bool} {at_job : Option JobNumber}
    {result : Slot ℕ (Unit {0})} {slot : Slot (Option (Fault ℕ)) (Unit {0})}
    {took accepted : List ℕ} {closed : Bool} {given found written : List ℕ}
    → PlainFlow s took accepted closed given found written
    → PlainFlow (record {
      number = s.number;
      goods = s.goods;
      item = item;
      pipe = record s.pipe { is_owner_open = lasts; job_seat = at_job };
      result = result;
      slot = slot;
      left = left;
    }) took accepted closed given found written
plain_still s t = assumption

-- what went through its pipe, where its owner's end was closed
shut_flow : (s : Session) (kind : Kind) (shut : Bool) (took accepted : List ℕ) (next : JobAction)
    (acts : List Act)
    → Flows kind s shut took accepted next acts
    → Flows kind (session_after_close s) true took accepted next acts
shut_flow s Reading shut took accepted next acts t =
    flow_with s t.closed_is (stops next
    (room s.pipe) s.pipe.is_job_open (shut || has_given_up acts) (passed_by acts) t.passed_is)
    t.unclosed t
shut_flow s Streaming shut took accepted next acts t =
    flow_with s t.closed_is (stops next
    (room s.pipe) s.pipe.is_job_open (shut || has_given_up acts) (passed_by acts) t.passed_is)
    t.unclosed t
shut_flow s Writing shut took accepted next acts t =
    written_with s t t.closed_is
    (stops_writing next t.out s.pipe.items s.pipe.is_job_open shut (has_given_up acts)
    (wrote_by acts) t.written_is) t.unclosed
shut_flow s (Seeking goal) shut took accepted next acts t = record {
  plain = plain_still s t.plain;
  next_is = t.next_is;
  place = t.place;
}
shut_flow s Operating shut took accepted next acts t =
    record { plain = plain_still s t.plain; next_is = t.next_is }
shut_flow s _ shut took accepted next acts t = absurd t

-- where the slot is another, what went through the pipe is the same
pub same_flow : (s : Session) (slot : Slot (Option (Fault ℕ)) (Unit {0})) (kind : Kind)
    (shut : Bool) (took accepted : List ℕ) (next : JobAction) (acts : List Act)
    → Flows kind s shut took accepted next acts
    → Flows kind (record s { slot = slot }) shut took accepted next acts
same_flow s slot Reading shut took accepted next acts t =
    flow_with s t.closed_is t.passed_is t.unclosed t
same_flow s slot Streaming shut took accepted next acts t =
    flow_with s t.closed_is t.passed_is t.unclosed t
same_flow s slot Writing shut took accepted next acts t =
    written_with s t t.closed_is t.written_is t.unclosed
same_flow s slot (Seeking goal) shut took accepted next acts t =
    record { plain = plain_still s t.plain; next_is = t.next_is; place = t.place }
same_flow s slot Operating shut took accepted next acts t =
    record { plain = plain_still s t.plain; next_is = t.next_is }
same_flow s slot _ shut took accepted next acts t = absurd t

-- who can't go on at the pipe can't where the slot is another
pub same_stuck : (s : Session) (slot : Slot (Option (Fault ℕ)) (Unit {0})) (kind : Kind)
    → IsStuckIn kind s → IsStuckIn kind (record s { slot = slot })
same_stuck s slot Writing e = e
same_stuck s slot Reading e = e
same_stuck s slot _ e = e

pub same_owner_stuck : (s : Session) (slot : Slot (Option (Fault ℕ)) (Unit {0})) (kind : Kind)
    → IsOwnerStuckIn kind s → IsOwnerStuckIn kind (record s { slot = slot })
same_owner_stuck s slot Writing e = e
same_owner_stuck s slot Reading e = e
same_owner_stuck s slot _ e = e

-- or somebody else sits there
seats_stuck : (s : Session) (at_job : Option JobNumber) (at_owner : Option (Unit {0})) (kind : Kind)
    → (IsStuckIn kind s → IsStuckIn kind
    (record s { pipe = record s.pipe { job_seat = at_job; owner_seat = at_owner } }))
    × (IsOwnerStuckIn kind s → IsOwnerStuckIn kind
    (record s { pipe = record s.pipe { job_seat = at_job; owner_seat = at_owner } }))
seats_stuck s at_job at_owner Writing = (λ e. e, λ e. e)
seats_stuck s at_job at_owner Reading = (λ e. e, λ e. e)
seats_stuck s at_job at_owner _ = (λ e. e, λ e. e)

-- so who can't go on at the pipe may be seated there: the owner, or the job
pub owner_sits : (s : Session) {kind : Kind} {waits js ps ss : Bool} → SeatsAs s kind waits js ps ss
    → IsOwnerStuckIn kind s × (s.pipe.is_job_open ≡ true)
    → SeatsAs (record s { pipe = record s.pipe { owner_seat = Some tt } }) kind waits js true ss
owner_sits s {kind} t stuck =
    let still = seats_stuck s s.pipe.job_seat (Some tt) kind in
    record {
      job = t.job;
      owner = refl;
      slot = t.slot;
      reason = record {
        job = λ seated. (let r = t.reason.job seated in (r.0, still.0 r.1, r.2));
        owner = λ seated. (still.1 stuck.0, stuck.1);
        slot = t.reason.slot;
      };
    }

pub job_sits : (s : Session) {kind : Kind} {waits stays js ps ss : Bool}
    → SeatsAs s kind waits js ps ss → stays ≡ true
    → IsStuckIn kind s × (s.pipe.is_owner_open ≡ true)
    → SeatsAs (record s { pipe = record s.pipe { job_seat = Some s.number } }) kind stays true ps ss
job_sits s {kind} t waits stuck =
    let still = seats_stuck s (Some s.number) s.pipe.owner_seat kind in
    record {
      job = refl;
      owner = t.owner;
      slot = t.slot;
      reason = record {
        job = λ seated. (waits, still.0 stuck.0, stuck.1);
        owner = λ seated. (let r = t.reason.owner seated in (still.1 r.0, r.1));
        slot = t.reason.slot;
      };
    }

-- an owner that can't go on still can't where its end is closed
shut_stuck : (s : Session) (kind : Kind) → IsOwnerStuckIn kind s
    → IsOwnerStuckIn kind (session_after_close s)
shut_stuck s Writing e = e
shut_stuck s Reading e = e
shut_stuck s _ e = e

-- ---- each act, of a session of any kind

module _ (s : Session) (kind : Kind) (capacity : ℕ) (last : Option SeenSession)
    (shut back dropped : Bool) (took accepted : List ℕ) (acts : List Act) (js ps ss : Bool) where
  -- it closes its end of the pipe
  pub shuts : SessionAs s kind capacity last shut back dropped took accepted acts js ps ss
      → SessionAs (session_after_close s) kind capacity last true back dropped took accepted acts
      false ps ss
  shuts t = record {
    lent = record {
      begun = t.lent.begun;
      goods = t.lent.goods;
      some = t.lent.some;
      holds = t.lent.holds;
      within = t.lent.within;
      shut_is = refl;
    };
    flow = shut_flow s kind shut took accepted (next_but_wake kind acts) acts t.flow;
    result = t.result;
    seats = record {
      job = refl;
      owner = t.seats.owner;
      slot = t.seats.slot;
      reason = record {
        job = λ seated. absurd (cc);
        owner = λ seated. (let r = t.seats.reason.owner seated in (shut_stuck s kind r.0, r.1));
        slot = λ seated. ((t.seats.reason.slot seated).0, inl refl);
      };
    };
  }

  -- it looks into the slot, where the handle is
  pub returns : (why : Option (Fault ℕ)) → s.slot.content ≡ Full why
      → SessionAs s kind capacity last shut back dropped took accepted acts js ps ss
      → SessionAs (session_after_look (Full why) s) kind capacity last shut true dropped took
      accepted acts js ps ss
  returns why found t =
      let slot =
      subst (λ c. SlotAs c (has_finished acts) (has_given_up acts) back (fault kind acts)) found
      t.result.slot in
      let emptied : Slot (Option (Fault ℕ)) (Unit {0}) = record s.slot { content = Empty } in
      record {
        lent = lent_with s t.lent t.lent.within;
        flow = same_flow s emptied kind shut took accepted (next_but_wake kind acts) acts t.flow;
        result = record {
          slot = (slot.0, slot.1);
          over_is = t.result.over_is;
          let_go = t.result.let_go;
        };
        seats = record {
          job = t.seats.job;
          owner = t.seats.owner;
          slot = t.seats.slot;
          reason = record {
            job = λ seated.
                (let r = t.seats.reason.job seated in (r.0, same_stuck s emptied kind r.1, r.2));
            owner = λ seated.
                (let r = t.seats.reason.owner seated in (same_owner_stuck s emptied kind r.0, r.1));
            slot = λ seated. (let empty = (t.seats.reason.slot seated).0 in absurd (cc));
          };
        };
      }

  -- and where it isn't, and is seated there
  pub waits_for_it : s.slot.content ≡ Empty → (s.pipe.is_owner_open ≡ false)
      ⊎ ((s.pipe.is_job_open ≡ false) ⊎ (is_piped_kind kind ≡ false))
      → SessionAs s kind capacity last shut back dropped took accepted acts js ps ss
      → SessionAs (session_after_look Empty s) kind capacity last shut back dropped took accepted
      acts js ps true
  waits_for_it found closed t =
      let sat : Slot (Option (Fault ℕ)) (Unit {0}) = record s.slot { seat = Some tt } in
      record {
        lent = lent_with s t.lent t.lent.within;
        flow = same_flow s sat kind shut took accepted (next_but_wake kind acts) acts t.flow;
        result = t.result;
        seats = record {
          job = t.seats.job;
          owner = t.seats.owner;
          slot = refl;
          reason = record {
            job = λ seated.
                (let r = t.seats.reason.job seated in (r.0, same_stuck s sat kind r.1, r.2));
            owner = λ seated.
                (let r = t.seats.reason.owner seated in (same_owner_stuck s sat kind r.0, r.1));
            slot = λ seated. (found, closed);
          };
        };
      }

-- ---- of one that reads

module _ (s : Session) (capacity : ℕ) (last : Option SeenSession) (shut back dropped : Bool)
    (took accepted : List ℕ) (acts : List Act) (js ps ss : Bool) where
  -- it drains the pipe, and gets bytes
  pub takes : (n : ℕ) (got : List ℕ × Option JobNumber)
      → drain n s.pipe.items s.pipe.is_job_open s.pipe.job_seat ≡ Served got
      → SessionAs s Reading capacity last shut back dropped took accepted acts js ps ss
      → SessionAs (session_after_drain (Served got) s) Reading capacity last shut back dropped
      (took ++ got.0) accepted acts false ps ss
  takes n got found t =
      let f = front n s.pipe.items s.pipe.is_job_open s.pipe.job_seat got found in
      let within = t.lent.within in
      let bounded = t.flow.bounded in
      let shorter : length (drop (length got.0) s.pipe.items) ≤ length s.pipe.items =
      simp length-drop (omega arith) in
      record {
        lent = lent_with s t.lent (omega (arith, shorter, within));
        flow = record {
          closed_is = t.flow.closed_is;
          inside = t.flow.inside ∙ ap (λ l. took ++ l) (sym (rejoined n s.pipe.items got.0 f.0))
              ∙ sym (append_assoc took got.0 (drop (length got.0) s.pipe.items));
          put = t.flow.put;
          bounded = rw length-append (omega (arith, bounded));
          sound = t.flow.sound;
          passed_is = more_room (next_but_wake Reading acts) (room s.pipe)
              (s.pipe.capacity - length (drop (length got.0) s.pipe.items)) s.pipe.is_job_open
              (shut || has_given_up acts) (passed_by acts)
              (omega (arith, shorter)) t.flow.passed_is;
          unclosed = t.flow.unclosed;
          unwritten = t.flow.unwritten;
        };
        result = t.result;
        seats = record {
          job = refl;
          owner = t.seats.owner;
          slot = t.seats.slot;
          reason = record {
            job = λ seated. absurd (cc);
            owner = λ seated. absurd (f.2 (t.seats.reason.owner seated).0);
            slot = t.seats.reason.slot;
          };
        };
      }
    where
      rejoined : (n : ℕ) (items front : List ℕ) → front ≡ take n items
          → front ++ drop (length front) items ≡ items
      rejoined n items front e =
          let same : take (length front) items ≡ front =
          ap (λ (l : List ℕ). take (length l) items) e
          ∙ ap (λ k. take k items) (length-take n items) ∙ take_min n items ∙ sym e in
          ap (λ l. l ++ drop (length front) items) (sym same)
          ∙ take-append-drop (length front) items

  -- it drains the pipe, and is seated there
  pub waits : (n : ℕ) → drain n s.pipe.items s.pipe.is_job_open s.pipe.job_seat ≡ Waiting
      → SessionAs s Reading capacity last shut back dropped took accepted acts js ps ss
      → SessionAs (session_after_drain Waiting s) Reading capacity last shut back dropped took
      accepted acts js true ss
  waits n found t = record {
    lent = lent_with s t.lent t.lent.within;
    flow = flow_with s t.flow.closed_is t.flow.passed_is t.flow.unclosed t.flow;
    result = t.result;
    seats = owner_sits s t.seats
        (nothing_yet n s.pipe.items s.pipe.is_job_open s.pipe.job_seat found);
  }

-- ---- a session that begins

-- jobs that are lent a handle
abbrev pub IsLending : Kind → Type 0
IsLending Reading = Unit {0}
IsLending Streaming = Unit {0}
IsLending Writing = Unit {0}
IsLending (Seeking goal) = Unit {0}
IsLending Operating = Unit {0}
IsLending _ = ⊥

-- what goes through a session's pipe tells that it is such a one
pub lends : (s : Session) (shut : Bool) (got accepted : List ℕ) (next : JobAction) (acts : List Act)
    (kind : Kind) → Flows kind s shut got accepted next acts → IsLending kind
lends s shut got accepted next acts Reading flow = tt
lends s shut got accepted next acts Streaming flow = tt
lends s shut got accepted next acts Writing flow = tt
lends s shut got accepted next acts (Seeking goal) flow = tt
lends s shut got accepted next acts Operating flow = tt
lends s shut got accepted next acts _ flow = absurd flow

-- nothing went through the pipe of a new session, nor through that of one without a pipe
new_plain : (number : JobNumber) (capacity : ℕ)
    → PlainFlow (new_session number OfNothing capacity) [] [] false [] [] []
new_plain number capacity = record {
  closed_is = refl;
  inside = refl;
  unseated = refl;
  ungot = refl;
  unfilled = refl;
  ungiven = refl;
  unfound = refl;
  unwritten = refl;
}

new_flow : (number : JobNumber) (kind : Kind) (capacity : ℕ) → IsLending kind
    → Flows kind (new_session number (goods_of kind) capacity) false [] [] (first_action kind) []
new_flow number Reading capacity lending = record {
  closed_is = refl;
  inside = refl;
  put = ([], refl);
  bounded = omega arith;
  sound = λ hand. refl;
  passed_is = (refl, (refl, refl));
  unclosed = λ is. absurd (cc);
  unwritten = refl;
}
new_flow number Streaming capacity lending = record {
  closed_is = refl;
  inside = refl;
  put = ([], refl);
  bounded = omega arith;
  sound = λ hand. refl;
  passed_is = (refl, (refl, refl));
  unclosed = λ is. absurd (cc);
  unwritten = refl;
}
new_flow number Writing capacity lending = record {
  closed_is = refl;
  out = [];
  inside = refl;
  removed = refl;
  begun = ([], refl);
  written_is = (refl, refl);
  sound = λ none. refl;
  ungot = refl;
  ungiven = refl;
  unclosed = λ is. absurd (cc);
}
new_flow number (Seeking goal) capacity lending =
    record { plain = new_plain number capacity; next_is = tt; place = λ is. absurd (cc) }
new_flow number Operating capacity lending =
    record { plain = new_plain number capacity; next_is = tt }
new_flow number _ capacity lending = absurd lending

-- no job is over as it begins
not_over : (kind : Kind) → false ≡ is_over (first_action kind)
not_over kind = grind arith

pub begins : (number : JobNumber) (kind : Kind) (capacity : ℕ) (dropped : Bool) → IsLending kind
    → 0 < capacity
    → SessionAs (new_session number (goods_of kind) capacity) kind capacity
    (Some (record { serial = number.serial; kind = kind })) false false dropped [] [] [] false
    false false
begins number kind capacity dropped lending some = record {
  lent = record {
    begun = refl;
    goods = refl;
    some = some;
    holds = refl;
    within = omega arith;
    shut_is = refl;
  };
  flow = new_flow number kind capacity lending;
  result = record { slot = (refl, refl); over_is = not_over kind; let_go = λ is. absurd (cc) };
  seats = record {
    job = refl;
    owner = refl;
    slot = refl;
    reason = record {
      job = λ seated. absurd (cc);
      owner = λ seated. absurd (cc);
      slot = λ seated. absurd (cc);
    };
  };
}
