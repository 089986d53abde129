-- What the kit's traits ask of a writer, said by the polls of one of ours, with the proofs of their
-- laws.
use Rattle.std.proofs.Common.{◌≡◌, ◌⊎◌, ◌∙◌, ap, sym, subst, refl, ℕ, Bool, true, false, List, []}
use Rattle.std.proofs.Common.{◌++◌, Result, Ok, Err, append-nil}
use Rattle.std.specs.IoError.{error_kind}
use Rattle.std.specs.declared.io.Error.{Error}
use Rattle.std.specs.declared.io.ErrorKind.TheVariants.{BrokenPipe}
use Rattle.futures.specs.declared.task.Poll.{Poll}
use Rattle.futures.specs.declared.task.Poll.TheVariants.{Ready}
use Rattle.blocking_core.specs.Faults.{IsToldAs}
use Rattle.blocking_core.specs.declared.io.Fault.{Fault}
use Rattle.blocking_io.specs.Passed.{Took}
use Rattle.blocking_io.specs.Polled.{WriterPoll, OfFlush, OfWrite}
use Rattle.blocking_io.proofs.Wholes.{took_join}

-- a write failed as one behind a shutdown does
abbrev pub IsBroken : Poll (Result ℕ Error) → Type 0
IsBroken told =
    (error : Error) × (told ≡ Ready (Err error)) × (error_kind error ≡ BrokenPipe)

module _ {A : Type 0} (writes : A → WriterPoll → A → Type 0) where
  -- Polls of writes and flushes led from the one state to the other, and these are all bytes that
  -- they took, in order. The writer may be shut down on the way: what was shut stays so and takes
  -- nothing more.
  abbrev pub Takes : Bool → A → List ℕ → Bool → A → Type 0
  Takes true old bytes is_shut new = (bytes ≡ []) × (is_shut ≡ true)
  Takes false old bytes is_shut new =
      (last : A) × Took writes old bytes last × (is_shut ≡ false → new ≡ last)

  -- a flush that was done led to this state
  abbrev pub WasFlushed : A → Type 0
  WasFlushed new = (old : A) × writes old (OfFlush (Ready (Ok tt))) new

  -- a write that took nothing led to this state
  abbrev pub TookNone : A → Type 0
  TookNone new = (old : A) × writes old (OfWrite (Ready (Ok []))) new

  -- a write or a flush led to this state by a fault that is told as this error of the system
  abbrev pub WriteFails : A → Error → Type 0
  WriteFails new error =
      (old : A) × (fault : Fault Error) × (writes old (OfWrite (Ready (Err fault))) new
      ⊎ writes old (OfFlush (Ready (Err fault))) new)
      × IsToldAs fault error

  pub takes_nothing : (is_shut : Bool) (writer : A) → Takes is_shut writer [] is_shut writer
  takes_nothing true writer = (refl, refl)
  takes_nothing false writer = (writer, ([], refl, refl), λ _. refl)

  both_nothing : (xs ys : List ℕ) → xs ≡ [] → ys ≡ [] → xs ++ ys ≡ []
  both_nothing xs ys none nor = ap (λ l. l ++ ys) none ∙ nor

  pub takes_in_order : (was : Bool) (old : A) (xs : List ℕ) (between : Bool) (mid : A) (ys : List ℕ)
      (is : Bool) (new : A)
      → Takes was old xs between mid → Takes between mid ys is new → Takes was old (xs ++ ys) is new
  takes_in_order true old xs true mid ys is new first rest =
      (both_nothing xs ys first.0 rest.0, rest.1)
  takes_in_order true old xs false mid ys is new first rest = cc
  takes_in_order false old xs true mid ys is new first rest = (
    first.0,
    (first.1.0, first.1.1, first.1.2 ∙ (sym (append-nil xs) ∙ ap (λ l. xs ++ l) (sym rest.0))),
    λ is_open. cc,
  )
  takes_in_order false old xs false mid ys is new first rest =
      let Q : A → Type 0 = λ m. Took writes m ys rest.0 in
      let more = subst Q (first.2 refl) rest.1 in
      (rest.0, took_join writes old first.0 rest.0 xs ys (xs ++ ys) first.1 more refl, rest.2)
