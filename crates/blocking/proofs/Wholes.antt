-- Whole reads over several polls, and bytes in memory that are read to their end.
use Rattle.std.proofs.Common.{◌≡◌, ◌∙◌, ◌++◌, ap, sym, refl, subst, zero-lt-suc}
use Rattle.std.proofs.Common.{ℕ, suc, List, [], ◌∷◌, append-nil, Result, Ok, Err, IfOk}
use Rattle.futures.specs.Poll.{OnPending}
use Rattle.futures.specs.declared.task.Poll.{Poll}
use Rattle.futures.specs.declared.task.Poll.TheVariants.{Ready, Pending}
use Rattle.blocking_io.specs.Copies.{EndsRead, Passes, all_read}
use Rattle.blocking_io.specs.Passed.{AddsTo, Gave}
use Rattle.blocking_io.specs.Polled.{ReaderPoll, OfRead}
use Rattle.blocking_io.proofs.Passes.{assoc}
use Rattle.blocking_io.proofs.Wholes.{adds_all}
use Rattle.blocking.specs.Wholes.{GivesMore, ReadsFirst}

-- what holds of a value of Ok, so does what follows from it
pub ok_so : {T E : Type 0} {P Q : T → Type 0} → ((x : T) → P x → Q x) → (r : Result T E) → IfOk r P
    → IfOk r Q
ok_so so (Ok x) holds = so x holds
ok_so so (Err why) holds = tt

-- what holds anyhow
pub if_pending : {R P : Type 0} (r : Poll R) → P → OnPending r P
if_pending (Ready out) holds = tt
if_pending Pending holds = holds

module _ {A : Type 0} (reads : A → ReaderPoll → A → Type 0) where
  -- a poll that waits adds nothing
  pub adds_none : (old new : A) (bytes : List ℕ) (room : ℕ) → reads old (OfRead room Pending) new
      → AddsTo bytes bytes (λ more. Gave reads old more new)
  adds_none old new bytes room read =
      ([], sym (append-nil bytes), (OfRead room Pending ∷ [], (new, read, refl), refl))

  -- one that gives bytes adds these
  pub adds_once : (old new : A) (before after bytes : List ℕ) (room : ℕ)
      → reads old (OfRead room (Ready (Ok bytes))) new → after ≡ before ++ bytes
      → AddsTo before after (λ more. Gave reads old more new)
  adds_once old new before after bytes room read is =
      (bytes, is, (OfRead room (Ready (Ok bytes)) ∷ [], (new, read, refl), append-nil bytes))

  -- what is read behind polls is read behind all that came before them
  pub goes_on : {Z E : Type 0} (items : Z → List ℕ) (old mid : A) (before between : List ℕ)
      → AddsTo before between (λ more. Gave reads old more mid) → (out : Result Z E)
      → IfOk out (λ all. GivesMore reads mid between (items all))
      → IfOk out (λ all. GivesMore reads old before (items all))
  goes_on items old mid before between first (Ok all) rest =
      (rest.0, adds_all reads old mid rest.0 before between (items all) first rest.1)
  goes_on items old mid before between first (Err why) rest = tt

module _ {S : Type 0} (left : S → List ℕ) where
  abbrev pub FirstOf : S → ReaderPoll → S → Type 0
  FirstOf old poll new = ReadsFirst (left old) poll (left new)

  gave : (polls : List ReaderPoll) (old new : S) → Passes FirstOf old polls new
      → left old ≡ all_read polls ++ left new
  gave [] old new is = ap left (sym is)
  gave (OfRead room (Ready (Ok bytes)) ∷ polls) old new passes =
      passes.1.0 ∙ (ap (λ l. bytes ++ l) (gave polls passes.0 new passes.2)
      ∙ sym (assoc bytes (all_read polls) (left new)))
  gave (OfRead room (Ready (Err why)) ∷ polls) old new passes = absurd passes.1
  gave (OfRead room Pending ∷ polls) old new passes = absurd passes.1

  none_left : (before : List ReaderPoll) (room : ℕ) (old new : S)
      → Passes FirstOf old (before ++ (OfRead (suc room) (Ready (Ok [])) ∷ [])) new
      → left new ≡ []
  none_left [] room old new passes = ap left passes.2 ∙ passes.1.1 (zero-lt-suc room) refl
  none_left (poll ∷ before) room old new passes = none_left before room passes.0 new passes.2

  -- bytes that are read to their end gave all that was left of them
  pub gives_all : (polls : List ReaderPoll) (old new : S) → Passes FirstOf old polls new
      → EndsRead polls → all_read polls ≡ left old
  gives_all polls old new passes ends =
      let Q : List ReaderPoll → Type 0 = λ l. Passes FirstOf old l new in
      let none = none_left ends.0 ends.1 old new (subst Q ends.2 passes) in
      sym (append-nil (all_read polls)) ∙ (ap (λ l. all_read polls ++ l) (sym none)
      ∙ sym (gave polls old new passes))
