-- What steps of a copier keep, and how they join.
use Rattle.std.proofs.Common.{◌≡◌, ◌++◌, false, refl, subst, ℕ, List, [], ◌∷◌, Result}
use Rattle.blocking_core.specs.declared.copy.CopyAction.{CopyAction}
use Rattle.blocking_core.specs.declared.copy.CopyAction.TheVariants.{Read, Write, Flush, Done}
use Rattle.blocking_core.specs.declared.copy.CopyAnswer.{CopyAnswer}
use Rattle.blocking_core.specs.declared.copy.CopyEnd.{CopyEnd}
use Rattle.std.specs.declared.io.Error.{Error}
use Rattle.futures.specs.Poll.{IfReady, OnPending}
use Rattle.futures.specs.declared.task.Poll.{Poll}
use Rattle.futures.specs.declared.task.Poll.TheVariants.{Ready, Pending}
use Rattle.blocking_io.specs.Copies.{EndsWith, MayEnd, Runs, Reaches, Steps}
use Rattle.blocking_io.proofs.Copied.{may_end}
use Rattle.blocking_io.specs.CopySteps.{is_over}
use Rattle.blocking_io.specs.Polled.{ReaderPoll, WriterPoll}
use Rattle.blocking_io.specs.declared.copy.Copier.{Copier}
use Rattle.blocking_io.specs.declared.copy.CopyFault.{CopyFault}

module _ {A B : Type 0} (reads : A → ReaderPoll → A → Type 0)
    (writes : B → WriterPoll → B → Type 0) where
  -- one more step
  pub runs_on :
      (old mid new : Copier A B) (answers : List (CopyAnswer Error)) (answer : CopyAnswer Error)
      → Runs reads writes old answers mid → Steps reads writes mid answer new
      → Runs reads writes old (answers ++ (answer ∷ [])) new
  runs_on old mid new [] answer first step = let P : Copier A B → Type 0 =
      λ m. Steps reads writes m answer new in (new, subst P first step, refl)
  runs_on old mid new (x ∷ rest) answer first step =
      (first.0, first.1, runs_on first.0 mid new rest answer first.2 step)

  pub reaches_on : (old mid new : Copier A B) → Reaches reads writes old mid
      → (answer : CopyAnswer Error) × Steps reads writes mid answer new
      → Reaches reads writes old new
  reaches_on old mid new first last =
      (first.0 ++ (last.0 ∷ []), runs_on old mid new first.0 last.0 first.1 last.1)

  pub runs_join : (old mid new : Copier A B) (xs ys : List (CopyAnswer Error))
      → Runs reads writes old xs mid → Runs reads writes mid ys new
      → Runs reads writes old (xs ++ ys) new
  runs_join old mid new [] ys first rest = let P : Copier A B → Type 0 =
      λ m. Runs reads writes m ys new in subst P first rest
  runs_join old mid new (x ∷ xs) ys first rest =
      (first.0, first.1, runs_join first.0 mid new xs ys first.2 rest)

  pub reaches_join : (old mid new : Copier A B) → Reaches reads writes old mid
      → Reaches reads writes mid new → Reaches reads writes old new
  reaches_join old mid new first rest =
      (first.0 ++ rest.0, runs_join old mid new first.0 rest.0 first.1 rest.1)

  -- a copier that is ready gives what its trait says, and one that waits no less than before
  pub ends_by : (old new : Copier A B) (r : Poll (Result ℕ CopyFault))
      → Reaches reads writes old new → IfReady r (λ out. EndsWith new.core.next out)
      → IfReady r (MayEnd reads writes old)
  ends_by old new (Ready out) reaches ends = may_end reads writes old new out reaches ends
  ends_by old new Pending reaches ends = tt

  pub same_ends : (old new : Copier A B) (r : Poll (Result ℕ CopyFault))
      → Reaches reads writes old new
      → OnPending r ((out : Result ℕ CopyFault) → MayEnd reads writes new out
      → MayEnd reads writes old out)
  same_ends old new (Ready out) reaches = tt
  same_ends old new Pending reaches = λ out may. may_end reads writes old may.new out
      (reaches_join old new may.new reaches may.reaches) may.ends

-- what a poll may be asked again with
pub three_on : {A P Q : Type 0} (R : Type 0) (r : Poll A) → P × Q → OnPending r R
    → OnPending r (P × Q × R)
three_on R (Ready _) both rest = tt
three_on R Pending both rest = (both.0, both.1, rest)

module _ {E : Type 0} where
  not_over : (seen : CopyAction E) → ((end : CopyEnd E) → seen ≡ Done end → ⊥)
      → is_over seen ≡ false
  not_over (Read most) other = refl
  not_over (Write from to) other = refl
  not_over Flush other = refl
  not_over (Done end) other = absurd (other end refl)

  -- a copy that isn't over goes on
  pub going_by : (seen next : CopyAction E) → seen ≡ next
      → ((end : CopyEnd E) → seen ≡ Done end → ⊥) → is_over next ≡ false
  going_by seen next is other = let P : CopyAction E → Type 0 = λ a. is_over a ≡ false in
      subst P is (not_over seen other)
