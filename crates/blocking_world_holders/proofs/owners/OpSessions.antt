-- The session of an owner that operates, after each act of its job, and once its owner looked for
-- the result.
use Rattle.std.proofs.Common.{◌≡◌, ℕ, List, ◌∷◌, Bool, true, refl, ap, Option}
use Rattle.blocking_world_holders.proofs.Types.{Act, Answered, ResultPut, HolderWaker, HandleAnswer}
use Rattle.blocking_world_holders.proofs.Types.{Number}
use Rattle.blocking_world_holders.proofs.Words.{Slot, AskResult, Operating, PutResult, fault}
use Rattle.blocking_world_holders.proofs.Words.{has_finished, has_given_up, is_answer}
use Rattle.blocking_world_holders.proofs.Words.{job_next_after_answer as next_after_answer}
use Rattle.blocking_world_holders.proofs.Words.{next_but_wake, SeenSession, SessionAs, Session}
use Rattle.blocking_world_holders.proofs.owners.ReadSessions.{At, tied_at, unseated, going, still}
use Rattle.blocking_world_holders.proofs.owners.SeekSessions.{plain_answer, counts_none}
use Rattle.blocking_world_holders.proofs.owners.Drains.{lent_with, plain_still}

module _ (s : Session) (capacity : ℕ) (last : Option SeenSession) (shut back dropped : Bool)
    (took accepted : List ℕ) (acts : List Act) (js ps ss : Bool) where
  abbrev Tied : Session → List Act → Type 0
  Tied now l = SessionAs now Operating capacity last shut back dropped took accepted l js ps ss

  -- whatever is kept, and whatever stands in the place of the result
  pub kept_with : (kept : ℕ) (result : Slot ℕ (Unit {0})) → Tied s acts
      → Tied (record s { item = kept; result = result }) acts
  kept_with kept result t = record {
    lent = lent_with s t.lent t.lent.within;
    flow = record { plain = plain_still s t.flow.plain; next_is = t.flow.next_is };
    result = t.result;
    seats = assumption;
  }

  -- its operation gives a number
  pub op_answers : (answer : HandleAnswer) → is_answer AskResult answer ≡ true
      → next_but_wake Operating acts ≡ AskResult
      → At s Operating capacity last shut back dropped took accepted acts js ps ss AskResult
      → Tied s (Answered answer ∷ acts)
  op_answers (Number n) fits e t =
      let on = going s.slot.content (has_finished acts) (has_given_up acts) back dropped
      (fault Operating acts) t.result in
      tied_at s Operating capacity last shut back dropped took accepted (Answered (Number n) ∷ acts)
      js ps ss PutResult (ap (λ next. next_after_answer next (Number n)) e)
      (record {
        lent = t.lent;
        flow = record {
          plain = plain_answer s took accepted acts (Number n) refl (counts_none (Number n))
              t.flow.plain;
          next_is = tt;
        };
        result = still s.slot.content (has_finished acts) (has_given_up acts) back dropped
            (fault Operating acts) (fault Operating (Answered (Number n) ∷ acts)) t.result;
        seats =
            unseated s Operating (has_given_up acts) (has_given_up acts) js ps ss on.stays t.seats;
      })
  op_answers _ fits e t = absurd (cc)

  -- it puts the result
  pub result_puts : (waker : HolderWaker) (result : Slot ℕ (Unit {0}))
      → At s Operating capacity last shut back dropped took accepted acts js ps ss PutResult
      → Tied (record s { result = result }) (ResultPut waker ∷ acts)
  result_puts waker result t = record {
    lent = lent_with s t.lent t.lent.within;
    flow = record { plain = plain_still s t.flow.plain; next_is = tt };
    result = t.result;
    seats = assumption;
  }
