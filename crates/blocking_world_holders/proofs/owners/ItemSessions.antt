-- The session of an owner after each act of a job that runs an iterator.
use Rattle.std.proofs.Common.{◌≡◌, ℕ, ◌≤◌, List, [], ◌∷◌, ◌++◌, length, length-append, append_assoc}
use Rattle.std.proofs.Common.{Bool, true, false, refl, sym, ap, ◌∙◌, subst, arith, Option}
use Rattle.std.proofs.Common.{if◌then◌else◌, ◌||◌, ◌+◌, nat_le, not, take, append-nil}
use Rattle.std.proofs.lemmas.Bool.{or_left, or_right}
use Rattle.std.proofs.lemmas.Bool.Decides.{nat_tests}
use Rattle.std.proofs.Math.Seq.{take-length}
use Rattle.blocking_world_holders.proofs.Types.{Act, Answered, JobParked, Lost, Put, HolderWaker}
use Rattle.blocking_world_holders.proofs.Types.{HandleAnswer, Item, NoItem}
use Rattle.blocking_world_holders.proofs.Words.{room, Closed, Served, Waiting, hand_in}
use Rattle.blocking_world_holders.proofs.Words.{handle_answers, has_failure, AskItem, CloseEnd}
use Rattle.blocking_world_holders.proofs.Words.{SendItem, Streaming, fault, has_finished}
use Rattle.blocking_world_holders.proofs.Words.{has_given_up, is_answer}
use Rattle.blocking_world_holders.proofs.Words.{job_next_after_answer as next_after_answer}
use Rattle.blocking_world_holders.proofs.Words.{next_but_wake, answered, gave, was_put, SeenSession}
use Rattle.blocking_world_holders.proofs.Words.{GaveAll, SessionAs, is_finding, passed_by, Session}
use Rattle.blocking_world_holders.proofs.Words.{session_after_send}
use Rattle.blocking_world_holders.proofs.owners.Drains.{lent_with, job_sits, flow_with}
use Rattle.blocking_world_holders.proofs.owners.ReadSessions.{At, at, tied_at, going, longer}
use Rattle.blocking_world_holders.proofs.owners.ReadSessions.{lost_is, put_is, still, unseated}
use Rattle.blocking_world_holders.proofs.owners.ReadSessions.{nobody_sits}

-- a job that waits to send finds the pipe full, and its owner's end open
pub no_space : {W : Type 0} (free : ℕ) (lasts : Bool) (seat : Option W)
    → hand_in 1 free lasts seat ≡ Waiting → (free ≡ 0) × (lasts ≡ true)
no_space free false seat e = absurd (cc)
no_space free true seat e = at (nat_le 1 free) refl e
  where
    at : (b : Bool) → nat_le 1 free ≡ b → (if b then Served seat else Waiting) ≡ Waiting
        → (free ≡ 0) × (true ≡ true)
    at true t e = absurd (cc)
    at false t e = (grind (arith, nat_tests), refl)

-- an item in hand is one more than what was taken and what is inside
one_more : (given put taken items : List ℕ) (x capacity : ℕ)
    → given ≡ put ++ [] → put ≡ taken ++ items → length items ≤ capacity
    → length (given ++ x ∷ []) ≤ length taken + capacity + 1
one_more given put taken items x capacity all inside within =
    let whole : length given ≡ length taken + length items =
    ap (λ (l : List ℕ). length l) (all ∙ append-nil put ∙ inside) ∙ length-append taken items in
    rw length-append (omega (arith, whole, within))

module _ (s : Session) (capacity : ℕ) (last : Option SeenSession) (shut back dropped : Bool)
    (took accepted : List ℕ) (acts : List Act) (js ps ss : Bool) (x : ℕ) where
  -- its item is inside
  pub sends : (waker : HolderWaker) (seat : Option (Unit {0}))
      → hand_in 1 (room s.pipe) s.pipe.is_owner_open s.pipe.owner_seat ≡ Served seat
      → At s Streaming capacity last shut back dropped took accepted acts js ps ss (SendItem x)
      → SessionAs (session_after_send x (Served seat) s) Streaming capacity last shut back dropped
      took accepted (Put 1 waker ∷ acts) js false ss
  sends waker seat found t =
      let p = t.flow.passed_is in
      let fits = (put_is 1 (room s.pipe) s.pipe.is_owner_open s.pipe.owner_seat seat found).1 in
      let within = t.lent.within in
      let holds = t.lent.holds in
      let whole : take 1 (answered acts) ≡ x ∷ [] = ap (take 1) p.2 ∙ take-length (x ∷ []) in
      let more : was_put acts ++ take 1 (answered acts) ≡ was_put acts ++ x ∷ [] =
      ap (λ l. was_put acts ++ l) whole in
      record {
        lent = lent_with s t.lent (rw length-append (omega (arith, within, holds, fits)));
        flow = record {
          closed_is = t.flow.closed_is;
          inside =
              more ∙ ap (λ l. l ++ x ∷ []) t.flow.inside ∙ append_assoc took s.pipe.items (x ∷ []);
          put = ([], p.1.0 ∙ sym more ∙ sym (append-nil (was_put acts ++ take 1 (answered acts))));
          bounded = t.flow.bounded;
          sound = t.flow.sound;
          passed_is = (
            p.0,
            (
              p.1.0 ∙ sym more
                  ∙ sym (append-nil (was_put acts ++ take 1 (answered acts))),
              p.1.1,
            ),
          );
          unclosed = λ is. absurd (cc);
          unwritten = t.flow.unwritten;
        };
        result = t.result;
        seats = record {
          job = t.seats.job;
          owner = refl;
          slot = t.seats.slot;
          reason = record {
            job = λ seated.
                (let full = (t.seats.reason.job seated).1 in absurd (omega (arith, full, fits)));
            owner = λ seated. absurd (cc);
            slot = t.seats.reason.slot;
          };
        };
      }

  -- it is lost
  pub send_loses : hand_in 1 (room s.pipe) s.pipe.is_owner_open s.pipe.owner_seat ≡ Closed
      → At s Streaming capacity last shut back dropped took accepted acts js ps ss (SendItem x)
      → SessionAs s Streaming capacity last shut back dropped took accepted (Lost 1 ∷ acts) js ps ss
  send_loses found t =
      let closed = lost_is 1 (room s.pipe) s.pipe.is_owner_open s.pipe.owner_seat found in
      let stopped : shut ≡ true = t.lent.shut_is ∙ ap not closed in
      record {
        lent = t.lent;
        flow = flow_with s t.flow.closed_is (
          t.flow.passed_is.0,
          subst (λ b. GaveAll (b || has_given_up acts) (passed_by acts))
              (sym stopped) tt,
        ) (λ is. absurd (cc)) t.flow;
        result = t.result;
        seats = nobody_sits s Streaming (true || has_given_up acts) (false || has_given_up acts) js
            ps ss (λ seated. let lasts = (t.seats.reason.job seated).2 in cc) t.seats;
      }

  -- there is no room for it, and the job is seated, with the item in hand
  pub send_parks : hand_in 1 (room s.pipe) s.pipe.is_owner_open s.pipe.owner_seat ≡ Waiting
      → next_but_wake Streaming acts ≡ SendItem x
      → SessionAs s Streaming capacity last shut back dropped took accepted acts js ps ss
      → SessionAs (session_after_send x Waiting s) Streaming capacity last shut back dropped took
      accepted (JobParked ∷ acts) true ps ss
  send_parks found e t =
      let full = no_space (room s.pipe) s.pipe.is_owner_open s.pipe.owner_seat found in
      record {
        lent = lent_with s t.lent t.lent.within;
        flow = flow_with s t.flow.closed_is t.flow.passed_is t.flow.unclosed t.flow;
        result = t.result;
        seats = job_sits s t.seats
            (or_left (is_finding (next_but_wake Streaming acts)) (has_given_up acts)
            (ap is_finding e))
            full;
      }

module _ (s : Session) (capacity : ℕ) (last : Option SeenSession) (shut back dropped : Bool)
    (took accepted : List ℕ) (acts : List Act) (js ps ss : Bool) where
  -- the handle answers what it was asked for
  pub item_answers : (answer : HandleAnswer) → is_answer AskItem answer ≡ true
      → next_but_wake Streaming acts ≡ AskItem
      → SessionAs s Streaming capacity last shut back dropped took accepted acts js ps ss
      → SessionAs s Streaming capacity last shut back dropped took accepted (Answered answer ∷ acts)
      js ps ss
  item_answers (Item x) fits e t =
      let a =
      at s Streaming capacity last shut back dropped took accepted acts js ps ss AskItem e t in
      let p = a.flow.passed_is in
      let within = a.lent.within in
      let holds = a.lent.holds in
      let whole : length s.pipe.items ≤ s.pipe.capacity = omega (arith, within, holds) in
      let none = (going s.slot.content (has_finished acts) (has_given_up acts) back dropped
      (fault Streaming acts) a.result).stays in
      tied_at s Streaming capacity last shut back dropped took accepted (Answered (Item x) ∷ acts)
      js ps ss (SendItem x) (ap (λ n. next_after_answer n (Item x)) e)
      (record {
        lent = a.lent;
        flow = record {
          closed_is = a.flow.closed_is;
          inside = a.flow.inside;
          put = longer (was_put acts) (gave acts) (x ∷ []) a.flow.put;
          bounded = one_more (gave acts) (was_put acts) took s.pipe.items x s.pipe.capacity p.1.0
              a.flow.inside whole;
          sound = a.flow.sound;
          passed_is =
              (p.0, (ap (λ l. l ++ x ∷ []) (p.1.0 ∙ append-nil (was_put acts)), p.1.1), refl);
          unclosed = λ is. absurd (cc);
          unwritten = ap (λ l. l ++ []) a.flow.unwritten;
        };
        result = still s.slot.content (has_finished acts) (has_given_up acts) back dropped
            (fault Streaming acts) (fault Streaming (Answered (Item x) ∷ acts)) a.result;
        seats = unseated s Streaming (false || has_given_up acts) (true || has_given_up acts) js ps
            ss none a.seats;
      })
  item_answers NoItem fits e t =
      let a =
      at s Streaming capacity last shut back dropped took accepted acts js ps ss AskItem e t in
      let p = a.flow.passed_is in
      let none = (going s.slot.content (has_finished acts) (has_given_up acts) back dropped
      (fault Streaming acts) a.result).stays in
      tied_at s Streaming capacity last shut back dropped took accepted (Answered NoItem ∷ acts) js
      ps ss CloseEnd (ap (λ n. next_after_answer n NoItem) e)
      (record {
        lent = a.lent;
        flow = record {
          closed_is = a.flow.closed_is;
          inside = a.flow.inside;
          put = longer (was_put acts) (gave acts) [] a.flow.put;
          bounded = subst (λ (l : List ℕ). length l ≤ length took + s.pipe.capacity + 1)
              (sym (append-nil (gave acts))) a.flow.bounded;
          sound = a.flow.sound;
          passed_is = (
            p.0,
            gave_all (shut || has_given_up acts)
                (append-nil (gave acts) ∙ p.1.0 ∙ append-nil (was_put acts))
                (or_right (has_failure (handle_answers acts)) true refl),
          );
          unclosed = λ is. absurd (cc);
          unwritten = ap (λ l. l ++ []) a.flow.unwritten;
        };
        result = still s.slot.content (has_finished acts) (has_given_up acts) back dropped
            (fault Streaming acts) (fault Streaming (Answered NoItem ∷ acts)) a.result;
        seats = unseated s Streaming (false || has_given_up acts) (false || has_given_up acts) js ps
            ss none a.seats;
      })
    where
      gave_all : (b : Bool)
          → gave acts ++ [] ≡ was_put acts → has_failure (handle_answers acts) || true ≡ true
          → GaveAll b (passed_by (Answered NoItem ∷ acts))
      gave_all true same ended = tt
      gave_all false same ended = (same, ended)
  item_answers _ fits e t = absurd (cc)
