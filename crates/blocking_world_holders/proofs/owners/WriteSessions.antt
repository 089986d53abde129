-- The session of an owner who writes after each act of its job.
use Rattle.std.proofs.Common.{◌≡◌, ℕ, zero, suc, ◌≤◌, List, [], ◌∷◌, ◌++◌, length, length-append}
use Rattle.std.proofs.Common.{append_assoc, Bool, true, false, refl, sym, ap, ◌∙◌, subst, arith}
use Rattle.std.proofs.Common.{Option, Some, None, ◌||◌, ◌+◌, not, take, drop, append-nil}
use Rattle.std.proofs.Common.{take-append-drop, length-drop, length-take}
use Rattle.std.proofs.lemmas.Bool.{or_left}
use Rattle.std.proofs.lemmas.Bool.Decides.{nat_tests}
use Rattle.std.proofs.lemmas.List.{take-append-le}
use Rattle.blocking_world_holders.proofs.Types.{Fault, Io, WriteZero, Act, Answered, Drained}
use Rattle.blocking_world_holders.proofs.Types.{JobParked, Peeked, TakenOut as Taken, HolderWaker}
use Rattle.blocking_world_holders.proofs.Types.{HandleAnswer, Failed, Fine, Number}
use Rattle.blocking_world_holders.proofs.Words.{Closed, Served, Waiting, peek, handle_answers}
use Rattle.blocking_world_holders.proofs.Words.{has_failed_write, AskBytes, AskCall, AskFlush}
use Rattle.blocking_world_holders.proofs.Words.{AskItem, AskResult, AskSeek, CloseEnd, Consume}
use Rattle.blocking_world_holders.proofs.Words.{JobAction, OfferBytes, Peek, Writing}
use Rattle.blocking_world_holders.proofs.Words.{job_earlier as earlier, fault, fault_in}
use Rattle.blocking_world_holders.proofs.Words.{has_finished, has_given_up, is_answer, is_over}
use Rattle.blocking_world_holders.proofs.Words.{job_next_after_answer as next_after_answer}
use Rattle.blocking_world_holders.proofs.Words.{next_but_wake, carried, counted, peeked, taken}
use Rattle.blocking_world_holders.proofs.Words.{IsBeginning, SeenSession, ResultAs, SessionAs}
use Rattle.blocking_world_holders.proofs.Words.{WrittenAs, is_finding, wrote_by, Session}
use Rattle.blocking_world_holders.proofs.Words.{found_piece, session_after_consume}
use Rattle.blocking_world_holders.proofs.Words.{session_after_peek}
use Rattle.blocking_world_holders.proofs.owners.Drains.{lent_with, job_sits, written_with}
use Rattle.blocking_world_holders.proofs.owners.ReadSessions.{At, at, tied_at, unseated, going}
use Rattle.blocking_world_holders.proofs.owners.ReadSessions.{still, nobody_sits}

-- ---- what a job finds

module _ {X : Type 0} where
  -- a job that finds a piece finds the front of what is inside
  pub some_piece : (n : ℕ) (items : List X) (lasts : Bool) (piece : List X)
      → peek n items lasts ≡ Served piece → (piece ≡ take n items) × (items ≡ [] → ⊥)
  some_piece n [] true piece e = absurd (cc)
  some_piece n [] false piece e = absurd (cc)
  some_piece n (x ∷ xs) lasts piece e = let same : piece ≡ take n (x ∷ xs) = cc in
      (same, λ none. cc)

  -- a job that waits finds nothing inside, and its owner's end open
  pub no_piece : (n : ℕ) (items : List X) (lasts : Bool) → peek n items lasts ≡ Waiting
      → (items ≡ []) × (lasts ≡ true)
  no_piece n [] true e = (refl, refl)
  no_piece n [] false e = absurd (cc)
  no_piece n (x ∷ xs) lasts e = absurd (cc)

  -- a job that finds it drained finds nothing inside, and its owner's end closed
  pub drained_is : (n : ℕ) (items : List X) (lasts : Bool) → peek n items lasts ≡ Closed
      → (items ≡ []) × (lasts ≡ false)
  drained_is n [] true e = absurd (cc)
  drained_is n [] false e = (refl, refl)
  drained_is n (x ∷ xs) lasts e = absurd (cc)

-- ---- each act

module _ (s : Session) (capacity : ℕ) (last : Option SeenSession) (shut back dropped : Bool)
    (took accepted : List ℕ) (acts : List Act) (js ps ss : Bool) where
  -- it finds a piece
  pub peeks : (piece : List ℕ) → found_piece s ≡ Served piece
      → At s Writing capacity last shut back dropped took accepted acts js ps ss Peek
      → SessionAs s Writing capacity last shut back dropped took accepted (Peeked piece ∷ acts) js
      ps ss
  peeks piece found t =
      let p = t.flow.written_is in
      let some = some_piece 65536 s.pipe.items s.pipe.is_owner_open piece found in
      record {
        lent = t.lent;
        flow = record {
          closed_is = t.flow.closed_is;
          out = t.flow.out;
          inside = t.flow.inside;
          removed = t.flow.removed;
          begun = t.flow.begun;
          written_is = (
            p.0,
            p.1,
            (
              drop 65536 s.pipe.items,
              sym (ap (λ l. l ++ drop 65536 s.pipe.items)
                  some.0 ∙ take-append-drop 65536 s.pipe.items),
            ),
            refl,
          );
          sound = t.flow.sound;
          ungot = t.flow.ungot;
          ungiven = t.flow.ungiven;
          unclosed = λ is. absurd (cc);
        };
        result = t.result;
        seats = nobody_sits s Writing (true || has_given_up acts) (false || has_given_up acts) js ps
            ss (λ seated. some.1 (t.seats.reason.job seated).1) t.seats;
      }

  -- it finds nothing, and is seated
  pub peek_parks : found_piece s ≡ Waiting → next_but_wake Writing acts ≡ Peek
      → SessionAs s Writing capacity last shut back dropped took accepted acts js ps ss
      → SessionAs (session_after_peek Waiting s) Writing capacity last shut back dropped took
      accepted (JobParked ∷ acts) true ps ss
  peek_parks found e t =
      let none = no_piece 65536 s.pipe.items s.pipe.is_owner_open found in
      record {
        lent = lent_with s t.lent t.lent.within;
        flow = written_with s t.flow t.flow.closed_is t.flow.written_is t.flow.unclosed;
        result = t.result;
        seats = job_sits s t.seats
            (or_left (is_finding (next_but_wake Writing acts)) (has_given_up acts)
            (ap is_finding e))
            none;
      }

  -- it finds the pipe drained for good
  pub drains : found_piece s ≡ Closed
      → At s Writing capacity last shut back dropped took accepted acts js ps ss Peek
      → SessionAs s Writing capacity last shut back dropped took accepted (Drained ∷ acts) js ps ss
  drains found t =
      let p = t.flow.written_is in
      let none = drained_is 65536 s.pipe.items s.pipe.is_owner_open found in
      let closed = none.1 in
      record {
        lent = t.lent;
        flow = written_with s t.flow t.flow.closed_is (
          p.0,
          p.1,
          λ sound. (none.0, t.lent.shut_is ∙ ap not closed),
        ) (λ is. absurd (cc));
        result = t.result;
        seats = nobody_sits s Writing (true || has_given_up acts) (false || has_given_up acts) js ps
            ss (λ seated. let lasts = (t.seats.reason.job seated).2 in cc) t.seats;
      }

  -- what its writer took leaves the pipe
  pub consumes : (n : ℕ) (waker : HolderWaker)
      → At s Writing capacity last shut back dropped took accepted acts js ps ss (Consume n)
      → SessionAs (session_after_consume n s) Writing capacity last shut back dropped took accepted
      (Taken n waker ∷ acts) js false ss
  consumes n waker t =
      let p = t.flow.written_is in
      let none = (going s.slot.content (has_finished acts) (has_given_up acts) back dropped
      (fault Writing acts) t.result).stays in
      let within = t.lent.within in
      let fits = p.2 in
      let before = t.flow.removed in
      let first = take n s.pipe.items in
      let rest = drop n s.pipe.items in
      let shorter : length rest ≤ length s.pipe.items = simp length-drop (omega arith) in
      let many : length first ≡ n = length-take n s.pipe.items ∙ omega (arith, fits) in
      record {
        lent = lent_with s t.lent (omega (arith, shorter, within));
        flow = record {
          closed_is = t.flow.closed_is;
          out = t.flow.out ++ first;
          inside = t.flow.inside ∙ ap (λ l. t.flow.out ++ l) (sym (take-append-drop n s.pipe.items))
              ∙ sym (append_assoc t.flow.out first rest);
          removed = rw length-append (omega (arith, before, many));
          begun = t.flow.begun;
          written_is = (p.0, p.1);
          sound = t.flow.sound;
          ungot = t.flow.ungot;
          ungiven = t.flow.ungiven;
          unclosed = λ is. absurd (cc);
        };
        result = t.result;
        seats = record {
          job = t.seats.job;
          owner = refl;
          slot = t.seats.slot;
          reason = record {
            job = λ seated. (let w = (t.seats.reason.job seated).0 in absurd (cc));
            owner = λ seated. absurd (cc);
            slot = t.seats.reason.slot;
          };
        };
      }

-- ---- its writer answers

-- the first of a front are the first of the whole
front_of : (k : ℕ) (piece items : List ℕ) → IsBeginning piece items → k ≤ length piece
    → take k piece ≡ take k items
front_of k piece items found fits = sym (ap (take k) found.1 ∙ take-append-le k piece found.0 fits)

-- a fault stays
kept : (before : Option (Fault ℕ)) → earlier before None ≡ before
kept before = grind arith

-- and where there is one now there is one
faulty : (before : Option (Fault ℕ)) (why : Fault ℕ) → earlier before (Some why) ≡ None → ⊥
faulty None why e = cc
faulty (Some first) why e = cc

module _ (s : Session) (capacity : ℕ) (last : Option SeenSession) (shut back dropped : Bool)
    (took accepted : List ℕ) (acts : List Act) (js ps ss : Bool) where
  -- its fault after an answer
  fault_after : (action : JobAction) (answer : HandleAnswer) → next_but_wake Writing acts ≡ action
      → fault
      Writing (Answered answer ∷ acts) ≡ earlier (fault Writing acts) (fault_in action answer)
  fault_after action answer e = ap (λ n. earlier (fault Writing acts) (fault_in n answer)) e

  -- a failure is a fault
  fails : (action : JobAction) (answer : HandleAnswer) (why : Fault ℕ)
      → next_but_wake Writing acts ≡ action → fault_in action answer ≡ Some why
      → fault Writing (Answered answer ∷ acts) ≡ None → ⊥
  fails action answer why e is none = faulty (fault Writing acts) why
      (ap (earlier (fault Writing acts)) (sym is) ∙ sym (fault_after action answer e) ∙ none)

  -- and where it is none, there was none before
  goes_well : (action : JobAction) (answer : HandleAnswer) → next_but_wake Writing acts ≡ action
      → fault_in action answer ≡ None → fault Writing (Answered answer ∷ acts) ≡ None
      → fault Writing acts ≡ None
  goes_well action answer e is none = sym (kept (fault Writing acts))
      ∙ ap (earlier (fault Writing acts)) (sym is) ∙ sym (fault_after action answer e) ∙ none

  -- what an answer leaves of a job that asks its writer
  left : (action : JobAction) (answer : HandleAnswer) (next : JobAction) → is_over action ≡ false
      → is_finding action ≡ false → is_over next ≡ false → carried answer ≡ []
      → next_after_answer action answer ≡ next → next_but_wake Writing acts ≡ action
      → (t : At s Writing capacity last shut back dropped took accepted acts js ps ss action)
      → IsBeginning (taken acts ++ counted answer (peeked acts)) accepted
      → WrittenAs next t.flow.out s.pipe.items s.pipe.is_job_open shut (has_given_up acts)
      (wrote_by (Answered answer ∷ acts))
      → (fault Writing (Answered answer ∷ acts) ≡ None
      → has_failed_write (handle_answers (Answered answer ∷ acts)) ≡ false)
      → SessionAs s Writing capacity last shut back dropped took accepted (Answered answer ∷ acts)
      js ps ss
  left action answer next going_on waits goes nothing table e t begun written sound =
      let result = subst (λ b. ResultAs s.slot.content (has_finished acts) (has_given_up acts) b
      back dropped (fault Writing acts)) going_on t.result in
      let none = (going s.slot.content (has_finished acts) (has_given_up acts) back dropped
      (fault Writing acts) result).stays in
      let still_none : is_finding action || has_given_up acts ≡ false =
      ap (λ b. b || has_given_up acts) waits ∙ none in
      tied_at s Writing capacity last shut back dropped took accepted (Answered answer ∷ acts) js ps
      ss next (ap (λ n. next_after_answer n answer) e ∙ table)
      (record {
        lent = t.lent;
        flow = record {
          closed_is = t.flow.closed_is;
          out = t.flow.out;
          inside = t.flow.inside;
          removed = t.flow.removed;
          begun = begun;
          written_is = written;
          sound = sound;
          ungot = t.flow.ungot;
          ungiven = ap (λ l. l ++ carried answer) t.flow.ungiven ∙ nothing;
          unclosed = λ is. absurd (cc);
        };
        result = subst (λ b. ResultAs s.slot.content (has_finished acts) (has_given_up acts) b back
            dropped (fault Writing (Answered answer ∷ acts))) (sym goes)
            (still s.slot.content (has_finished acts) (has_given_up acts) back dropped
            (fault Writing acts) (fault Writing (Answered answer ∷ acts)) result);
        seats = unseated s Writing (is_finding action || has_given_up acts)
            (is_finding next || has_given_up acts) js ps ss still_none t.seats;
      })

  -- it took nothing, where that is a fault: the job has its writer flushed
  nothing_taken : (piece : List ℕ) (answer : HandleAnswer) (why : Fault ℕ)
      → ((found : List ℕ) → counted answer found ≡ []) → carried answer ≡ []
      → fault_in (OfferBytes piece) answer ≡ Some why
      → next_after_answer (OfferBytes piece) answer ≡ AskFlush
      → next_but_wake Writing acts ≡ OfferBytes piece
      → At s Writing capacity last shut back dropped took accepted acts js ps ss (OfferBytes piece)
      → SessionAs s Writing capacity last shut back dropped took accepted (Answered answer ∷ acts)
      js ps ss
  nothing_taken piece answer why uncounted nothing failed table e t =
      let p = t.flow.written_is in
      let same : taken acts ++ counted answer (peeked acts) ≡ taken acts =
      ap (λ l. taken acts ++ l) (uncounted (peeked acts)) ∙ append-nil (taken acts) in
      left (OfferBytes piece) answer AskFlush refl refl refl nothing table e t
      (subst (λ l. IsBeginning l accepted) (sym same) t.flow.begun)
      (p.0, same ∙ p.1, λ none. absurd (fails (OfferBytes piece) answer why e failed none))
      (λ none. absurd (fails (OfferBytes piece) answer why e failed none))

  -- it answers what it was asked for
  pub write_answers : (action : JobAction) (answer : HandleAnswer) → is_answer action answer ≡ true
      → next_but_wake Writing acts ≡ action
      → SessionAs s Writing capacity last shut back dropped took accepted acts js ps ss
      → SessionAs s Writing capacity last shut back dropped took accepted (Answered answer ∷ acts)
      js ps ss
  write_answers (OfferBytes piece) (Number (suc k)) fits e t =
      let a = at s Writing capacity last shut back dropped took accepted acts js ps ss
      (OfferBytes piece) e t in
      let p = a.flow.written_is in
      let out = a.flow.out in
      let items = s.pipe.items in
      let many : suc k ≤ length piece = grind (arith, nat_tests) in
      let whole : length items ≡ length piece + length p.2.0 =
      ap (λ (l : List ℕ). length l) p.2.1 ∙ length-append piece p.2.0 in
      let took_is : taken acts ++ take (suc k) (peeked acts) ≡ out ++ take (suc k) items =
      ap (λ l. l ++ take (suc k) (peeked acts)) p.1 ∙ ap (λ l. out ++ take (suc k) l) p.3
      ∙ ap (λ l. out ++ l) (front_of (suc k) piece items p.2 many) in
      left (OfferBytes piece) (Number (suc k)) (Consume (suc k)) refl refl refl refl refl e a (
        drop (suc k) items,
        a.flow.inside ∙ ap (λ l. out ++ l) (sym (take-append-drop (suc k) items))
            ∙ sym (append_assoc out (take (suc k) items) (drop (suc k) items))
            ∙ ap (λ l. l ++ drop (suc k) items) (sym took_is),
      )
      (p.0, took_is, omega (arith, many, whole))
      (λ none. a.flow.sound (goes_well (OfferBytes piece) (Number (suc k)) e refl none))
  write_answers (OfferBytes piece) (Number zero) fits e t =
      nothing_taken piece (Number 0) WriteZero (λ found. refl) refl refl refl e (at s Writing
      capacity last shut back dropped took accepted acts js ps ss (OfferBytes piece) e t)
  write_answers (OfferBytes piece) (Failed error) fits e t =
      nothing_taken piece (Failed error) (Io error) (λ found. refl) refl refl refl e (at s Writing
      capacity last shut back dropped took accepted acts js ps ss (OfferBytes piece) e t)
  write_answers (OfferBytes piece) _ fits e t = absurd (cc)
  write_answers AskFlush Fine fits e t =
      let a =
      at s Writing capacity last shut back dropped took accepted acts js ps ss AskFlush e t in
      let p = a.flow.written_is in
      let same = append-nil (taken acts) in
      left AskFlush Fine CloseEnd refl refl refl refl refl e a
      (subst (λ l. IsBeginning l accepted) (sym same) a.flow.begun)
      (p.0, same ∙ p.1, (λ none. p.2 (goes_well AskFlush Fine e refl none), λ none. refl))
      (λ none. a.flow.sound (goes_well AskFlush Fine e refl none))
  write_answers AskFlush (Failed error) fits e t =
      let a =
      at s Writing capacity last shut back dropped took accepted acts js ps ss AskFlush e t in
      let p = a.flow.written_is in
      let same = append-nil (taken acts) in
      left AskFlush (Failed error) CloseEnd refl refl refl refl refl e a
      (subst (λ l. IsBeginning l accepted) (sym same) a.flow.begun) (
        p.0,
        same ∙ p.1,
        (
          λ none. absurd (fails AskFlush (Failed error) (Io error) e refl none),
          λ none. absurd (fails AskFlush (Failed error) (Io error) e refl none),
        ),
      )
      (λ none. absurd (fails AskFlush (Failed error) (Io error) e refl none))
  write_answers AskFlush _ fits e t = absurd (cc)
  write_answers AskCall answer fits e t = absurd ((at s Writing capacity last shut back dropped
      took accepted acts js ps ss AskCall e t).flow.written_is)
  write_answers (AskBytes n) answer fits e t = absurd ((at s Writing capacity last shut back
      dropped took accepted acts js ps ss (AskBytes n) e t).flow.written_is)
  write_answers AskItem answer fits e t = absurd ((at s Writing capacity last shut back dropped
      took accepted acts js ps ss AskItem e t).flow.written_is)
  write_answers AskSeek answer fits e t = absurd ((at s Writing capacity last shut back dropped
      took accepted acts js ps ss AskSeek e t).flow.written_is)
  write_answers AskResult answer fits e t = absurd ((at s Writing capacity last shut back dropped
      took accepted acts js ps ss AskResult e t).flow.written_is)
  write_answers _ answer fits e t = absurd (cc)
