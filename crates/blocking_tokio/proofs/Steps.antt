-- What one poll of ours comes to, as the kit asks for it.
use Rattle.std.proofs.Common.{◌≡◌, ◌∙◌, ◌⊎◌, inl, inr, ap, sym, subst, refl, ℕ, Bool, true, false}
use Rattle.std.proofs.Common.{List, [], ◌∷◌, Result, Ok, Err, append-nil}
use Rattle.std.specs.declared.io.Error.{Error}
use Rattle.futures.specs.declared.task.Poll.{Poll}
use Rattle.futures.specs.declared.task.Poll.TheVariants.{Ready, Pending}
use Rattle.tokio.specs.Io.Moved.{IfReadyErr, bytes_moved}
use Rattle.blocking_core.specs.declared.io.Fault.{Fault}
use Rattle.blocking_io.specs.Copies.{bytes_of}
use Rattle.blocking_io.specs.Polled.{ReaderPoll, WriterPoll, OfFlush, OfRead, OfWrite, with_bytes}
use Rattle.blocking_tokio.specs.Errors.{IsTold}
use Rattle.blocking_tokio.specs.Reading.{Gives, ReadFails}
use Rattle.blocking_tokio.specs.Writing.{Takes, WriteFails}

-- the answers of our polls, and of the kit's
abbrev Count : Type 0
Count = Poll (Result ℕ (Fault Error))

abbrev Done : Type 0
Done = Poll (Result (Unit {0}) (Fault Error))

same_bytes : (r : Count) (told : Poll (Result ℕ Error)) (bytes : List ℕ) → IsTold r told
    → bytes_of (with_bytes r bytes) ≡ bytes_moved told bytes
same_bytes (Ready (Ok count)) told bytes is = sym (ap (λ t. bytes_moved t bytes) is)
same_bytes (Ready (Err fault)) told bytes is = sym (ap (λ t. bytes_moved t bytes) is.1)
same_bytes Pending told bytes is = sym (ap (λ t. bytes_moved t bytes) is)

module _ {A : Type 0} (reads : A → ReaderPoll → A → Type 0) where
  pub gives_told : (old new : A) (room : ℕ) (bytes : List ℕ) (r : Count)
      (told : Poll (Result ℕ Error)) → IsTold r told
      → reads old (OfRead room (with_bytes r bytes)) new
      → Gives reads old (bytes_moved told bytes) new
  gives_told old new room bytes r told is read = (
    OfRead room (with_bytes r bytes) ∷ [],
    (new, read, refl),
    append-nil (bytes_of (with_bytes r bytes)) ∙ same_bytes r told bytes is,
  )

  pub fails_told : (old new : A) (room : ℕ) (bytes : List ℕ) (r : Count)
      (told : Poll (Result ℕ Error)) → IsTold r told
      → reads old (OfRead room (with_bytes r bytes)) new → IfReadyErr told (ReadFails reads new)
  fails_told old new room bytes (Ready (Ok count)) told is read = let Q : Poll (Result ℕ Error)
      → Type 0 = λ t. IfReadyErr t (ReadFails reads new) in subst Q (sym is) tt
  fails_told old new room bytes (Ready (Err fault)) told is read =
      let Q : Poll (Result ℕ Error) → Type 0 = λ t. IfReadyErr t (ReadFails reads new) in
      subst Q (sym is.1) (old, room, fault, read, is.2)
  fails_told old new room bytes Pending told is read = let Q : Poll (Result ℕ Error) → Type 0 =
      λ t. IfReadyErr t (ReadFails reads new) in subst Q (sym is) tt

module _ {A : Type 0} (writes : A → WriterPoll → A → Type 0) where
  pub takes_told : (is_shut : Bool) (old new : A) (bytes : List ℕ) (r : Count)
      (told : Poll (Result ℕ Error)) → is_shut ≡ false → IsTold r told
      → writes old (OfWrite (with_bytes r bytes)) new
      → Takes writes is_shut old (bytes_moved told bytes) is_shut new
  takes_told true old new bytes r told is_open is wrote = cc
  takes_told false old new bytes r told is_open is wrote = (
    new,
    (
      OfWrite (with_bytes r bytes) ∷ [],
      (new, wrote, refl),
      append-nil (bytes_of (with_bytes r bytes)) ∙ same_bytes r told bytes is,
    ),
    λ _. refl,
  )

  pub write_fails_told : (is_shut : Bool) (old new : A) (bytes : List ℕ) (r : Count)
      (told : Poll (Result ℕ Error)) → IsTold r told
      → writes old (OfWrite (with_bytes r bytes)) new
      → IfReadyErr told (λ error. (is_shut ≡ true) ⊎ WriteFails writes new error)
  write_fails_told is_shut old new bytes (Ready (Ok count)) told is wrote =
      let Q : Poll (Result ℕ Error)
      → Type 0 = λ t. IfReadyErr t (λ error. (is_shut ≡ true) ⊎ WriteFails writes new error) in
      subst Q (sym is) tt
  write_fails_told is_shut old new bytes (Ready (Err fault)) told is wrote =
      let Q : Poll (Result ℕ Error) → Type 0 =
      λ t. IfReadyErr t (λ error. (is_shut ≡ true) ⊎ WriteFails writes new error) in
      subst Q (sym is.1) (inr (old, fault, inl wrote, is.2))
  write_fails_told is_shut old new bytes Pending told is wrote =
      let Q : Poll (Result ℕ Error)
      → Type 0 = λ t. IfReadyErr t (λ error. (is_shut ≡ true) ⊎ WriteFails writes new error) in
      subst Q (sym is) tt

  pub takes_by_flush : (is_shut : Bool) (old new : A) (poll : Done) → writes old (OfFlush poll) new
      → Takes writes is_shut old [] is_shut new
  takes_by_flush true old new poll flushed = (refl, refl)
  takes_by_flush false old new poll flushed =
      (new, (OfFlush poll ∷ [], (new, flushed, refl), refl), λ _. refl)
