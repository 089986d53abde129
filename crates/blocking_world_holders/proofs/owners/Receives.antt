-- The session of an owner that takes items after each act of the owner itself.
use Rattle.std.proofs.Common.{◌≡◌, ℕ, ◌≤◌, List, [], ◌∷◌, ◌++◌, length, length-append, append_assoc}
use Rattle.std.proofs.Common.{Bool, true, false, refl, sym, ap, ◌∙◌, arith, Option, ◌||◌, ◌-◌, drop}
use Rattle.std.proofs.Common.{length-drop}
use Rattle.blocking_world_holders.proofs.Types.{Act}
use Rattle.blocking_world_holders.proofs.Words.{room, Closed, Served, Waiting, receive, JobNumber}
use Rattle.blocking_world_holders.proofs.Words.{Streaming, has_given_up, next_but_wake, SeenSession}
use Rattle.blocking_world_holders.proofs.Words.{SessionAs, passed_by, Session, received}
use Rattle.blocking_world_holders.proofs.Words.{session_after_receive}
use Rattle.blocking_world_holders.proofs.owners.Drains.{lent_with, flow_with, more_room, owner_sits}

-- an owner that finds an item found the first of what was inside
pub first_item : {N : Type 0} (items : List ℕ) (lasts : Bool) (seat : Option N) (got : ℕ × Option N)
    → receive items lasts seat ≡ Served got → (items ≡ got.0 ∷ drop 1 items) × (got.1 ≡ seat)
first_item [] true seat got e = absurd (cc)
first_item [] false seat got e = absurd (cc)
first_item (x ∷ xs) lasts seat got e = let same : got ≡ (x, seat) = cc in
    (ap (λ g. g.0 ∷ xs) (sym same), ap (λ g. g.1) same)

pub no_item_yet : {N : Type 0} (items : List ℕ) (lasts : Bool) (seat : Option N)
    → receive items lasts seat ≡ Waiting → (items ≡ []) × (lasts ≡ true)
no_item_yet [] true seat e = (refl, refl)
no_item_yet [] false seat e = absurd (cc)
no_item_yet (x ∷ xs) lasts seat e = absurd (cc)

pub no_more_items : {N : Type 0} (items : List ℕ) (lasts : Bool) (seat : Option N)
    → receive items lasts seat ≡ Closed → (items ≡ []) × (lasts ≡ false)
no_more_items [] true seat e = absurd (cc)
no_more_items [] false seat e = (refl, refl)
no_more_items (x ∷ xs) lasts seat e = absurd (cc)

module _ (s : Session) (capacity : ℕ) (last : Option SeenSession) (shut back dropped : Bool)
    (took accepted : List ℕ) (acts : List Act) (js ps ss : Bool) where
  -- it receives an item
  pub receives : (got : ℕ × Option JobNumber) → received s ≡ Served got
      → SessionAs s Streaming capacity last shut back dropped took accepted acts js ps ss
      → SessionAs (session_after_receive (Served got) s) Streaming capacity last shut back dropped
      (took ++ got.0 ∷ []) accepted acts false ps ss
  receives got found t =
      let f = first_item s.pipe.items s.pipe.is_job_open s.pipe.job_seat got found in
      let within = t.lent.within in
      let bounded = t.flow.bounded in
      let shorter : length (drop 1 s.pipe.items) ≤ length s.pipe.items =
      simp length-drop (omega arith) in
      record {
        lent = lent_with s t.lent (omega (arith, shorter, within));
        flow = record {
          closed_is = t.flow.closed_is;
          inside = t.flow.inside ∙ ap (λ l. took ++ l) f.0
              ∙ sym (append_assoc took (got.0 ∷ []) (drop 1 s.pipe.items));
          put = t.flow.put;
          bounded = rw length-append (omega (arith, bounded));
          sound = t.flow.sound;
          passed_is = more_room (next_but_wake Streaming acts)
              (room s.pipe) (s.pipe.capacity - length (drop 1 s.pipe.items)) s.pipe.is_job_open
              (shut || has_given_up acts) (passed_by acts)
              (omega (arith, shorter)) t.flow.passed_is;
          unclosed = t.flow.unclosed;
          unwritten = t.flow.unwritten;
        };
        result = t.result;
        seats = record {
          job = refl;
          owner = t.seats.owner;
          slot = t.seats.slot;
          reason = record {
            job = λ seated. absurd (cc);
            owner = λ seated. absurd (let none = sym (t.seats.reason.owner seated).0 ∙ f.0 in cc);
            slot = t.seats.reason.slot;
          };
        };
      }

  -- there is none yet, and it is seated
  pub waits_for_item : received s ≡ Waiting
      → SessionAs s Streaming capacity last shut back dropped took accepted acts js ps ss
      → SessionAs (session_after_receive Waiting s) Streaming capacity last shut back dropped took
      accepted acts js true ss
  waits_for_item found t = record {
    lent = lent_with s t.lent t.lent.within;
    flow = flow_with s t.flow.closed_is t.flow.passed_is t.flow.unclosed t.flow;
    result = t.result;
    seats = owner_sits s t.seats
        (no_item_yet s.pipe.items s.pipe.is_job_open s.pipe.job_seat found);
  }
