-- The session of an owner that seeks after each act of its job.
use Rattle.std.proofs.Common.{arith, ◌≡◌, ℕ, List, [], ◌∷◌, ◌++◌, Bool, true, false, refl, ap, ◌∙◌}
use Rattle.std.proofs.Common.{Option, take}
use Rattle.blocking_world_holders.proofs.Types.{Fault, Position, Act, Answered, Finished}
use Rattle.blocking_world_holders.proofs.Types.{HolderWaker, HandleAnswer, Failed, Number}
use Rattle.blocking_world_holders.proofs.Words.{AskSeek, Finish, Seeking, fault, has_closed}
use Rattle.blocking_world_holders.proofs.Words.{has_finished, has_given_up, is_answer}
use Rattle.blocking_world_holders.proofs.Words.{job_next_after_answer as next_after_answer}
use Rattle.blocking_world_holders.proofs.Words.{next_but_wake, number, carried, counted, gave}
use Rattle.blocking_world_holders.proofs.Words.{peeked, taken, SeenSession, PlainFlow, SessionAs}
use Rattle.blocking_world_holders.proofs.Words.{Session, session_after_finish}
use Rattle.blocking_world_holders.proofs.owners.Drains.{lent_with, plain_still}
use Rattle.blocking_world_holders.proofs.owners.ReadSessions.{At, tied_at, unseated, going, still}
use Rattle.blocking_world_holders.proofs.owners.ReadSessions.{finishes}

-- of nothing nothing is taken
none_taken : (n : ℕ) → take {A = ℕ} n [] ≡ []
none_taken n = grind arith

-- an answer that carries nothing, of one that was offered nothing, leaves nothing passed
pub plain_answer : (s : Session) (took accepted : List ℕ) (acts : List Act) (answer : HandleAnswer)
    → carried answer ≡ [] → counted answer [] ≡ []
    → PlainFlow s took accepted (has_closed acts) (gave acts) (peeked acts) (taken acts)
    → PlainFlow s took accepted (has_closed (Answered answer ∷ acts))
    (gave (Answered answer ∷ acts)) (peeked (Answered answer ∷ acts))
    (taken (Answered answer ∷ acts))
plain_answer s took accepted acts answer nothing none t = record {
  closed_is = t.closed_is;
  inside = t.inside;
  unseated = t.unseated;
  ungot = t.ungot;
  unfilled = t.unfilled;
  ungiven = ap (λ l. l ++ carried answer) t.ungiven ∙ nothing;
  unfound = t.unfound;
  unwritten = ap (λ l. l ++ counted answer (peeked acts)) t.unwritten
      ∙ ap (counted answer) t.unfound ∙ none;
}

pub counts_none : (answer : HandleAnswer) → counted answer [] ≡ []
counts_none (Number n) = none_taken n
counts_none _ = refl

module _ (s : Session) (goal : Position) (capacity : ℕ) (last : Option SeenSession)
    (shut back dropped : Bool) (took accepted : List ℕ) (acts : List Act) (js ps ss : Bool) where
  -- the handle answers it
  answered : (answer : HandleAnswer) → carried answer ≡ []
      → next_but_wake (Seeking goal) (Answered answer ∷ acts) ≡ Finish
      → At s (Seeking goal) capacity last shut back dropped took accepted acts js ps ss AskSeek
      → SessionAs s (Seeking goal) capacity last shut back dropped took accepted
      (Answered answer ∷ acts) js ps ss
  answered answer nothing next t =
      let on = going s.slot.content (has_finished acts) (has_given_up acts) back dropped
      (fault (Seeking goal) acts) t.result in
      let unfinished = on.unfinished in
      tied_at s (Seeking goal) capacity last shut back dropped took accepted
      (Answered answer ∷ acts) js ps ss Finish next
      (record {
        lent = t.lent;
        flow = record {
          plain =
              plain_answer s took accepted acts answer nothing (counts_none answer) t.flow.plain;
          next_is = tt;
          place = λ is. absurd (cc);
        };
        result = still s.slot.content (has_finished acts) (has_given_up acts) back dropped
            (fault (Seeking goal) acts) (fault (Seeking goal) (Answered answer ∷ acts)) t.result;
        seats = unseated s (Seeking goal) (has_given_up acts) (has_given_up acts) js ps ss on.stays
            t.seats;
      })

  pub seek_answers : (answer : HandleAnswer) → is_answer AskSeek answer ≡ true
      → next_but_wake (Seeking goal) acts ≡ AskSeek
      → At s (Seeking goal) capacity last shut back dropped took accepted acts js ps ss AskSeek
      → SessionAs s (Seeking goal) capacity last shut back dropped took accepted
      (Answered answer ∷ acts) js ps ss
  seek_answers (Number place) fits e t =
      answered (Number place) refl (ap (λ n. next_after_answer n (Number place)) e) t
  seek_answers (Failed error) fits e t =
      answered (Failed error) refl (ap (λ n. next_after_answer n (Failed error)) e) t
  seek_answers _ fits e t = absurd (cc)

  -- it leaves where the handle is
  leaving : (place : ℕ)
      → At s (Seeking goal) capacity last shut back dropped took accepted acts js ps ss Finish
      → At (record s { left = place }) (Seeking goal) capacity last shut back dropped took accepted
      acts js ps ss Finish
  leaving place t =
      let unfinished = (going s.slot.content (has_finished acts) (has_given_up acts) back dropped
      (fault (Seeking goal) acts) t.result).unfinished in
      record {
        lent = lent_with s t.lent t.lent.within;
        flow =
            record { plain = plain_still s t.flow.plain; next_is = tt; place = λ is. absurd (cc) };
        result = t.result;
        seats = assumption;
      }

  -- it puts its result
  pub seek_puts : (waker : HolderWaker) (why : Option (Fault ℕ)) (place : ℕ)
      → why ≡ fault (Seeking goal) acts → place ≡ number acts
      → At s (Seeking goal) capacity last shut back dropped took accepted acts js ps ss Finish
      → SessionAs (record (session_after_finish why s) { left = place }) (Seeking goal) capacity
      last shut back dropped took accepted (Finished waker ∷ acts) js ps false
  seek_puts waker why place same counted t =
      finishes (record s { left = place }) (Seeking goal) capacity last shut back dropped took
      accepted acts js ps ss waker why same counted (leaving place t)
