-- Polls one after the other, and the bytes that went by them.
use Rattle.std.proofs.Common.{◌≡◌, ◌∙◌, ◌++◌, ap, sym, refl, subst, rules, ℕ, List, [], ◌∷◌}
use Rattle.std.proofs.lemmas.Grind.{common_steps}
use Rattle.blocking_io.specs.Copies.{EndsRead, Passes, all_read, all_written, bytes_of}
use Rattle.blocking_io.specs.Polled.{ReaderPoll, WriterPoll, OfFlush, OfRead, OfWrite}

pub passes_join : {S P : Type 0} (polls : S → P → S → Type 0) (old mid new : S) (xs ys : List P)
    → Passes polls old xs mid → Passes polls mid ys new
    → Passes polls old (xs ++ ys) new
passes_join {S = S} polls old mid new [] ys first rest = let Q : S → Type 0 =
    λ m. Passes polls m ys new in subst Q first rest
passes_join polls old mid new (x ∷ xs) ys first rest =
    (first.0, first.1, passes_join polls first.0 mid new xs ys first.2 rest)

pub assoc : (xs ys zs : List ℕ) → (xs ++ ys) ++ zs ≡ xs ++ (ys ++ zs)
assoc xs ys zs = search (rules, common_steps)

pub read_on : (xs ys : List ReaderPoll) → all_read (xs ++ ys) ≡ all_read xs ++ all_read ys
read_on [] ys = refl
read_on (OfRead room x ∷ xs) ys =
    ap (λ l. bytes_of x ++ l) (read_on xs ys) ∙ sym (assoc (bytes_of x) (all_read xs) (all_read ys))

pub written_on : (xs ys : List WriterPoll)
    → all_written (xs ++ ys) ≡ all_written xs ++ all_written ys
written_on [] ys = refl
written_on (OfWrite x ∷ xs) ys = ap (λ l. bytes_of x ++ l) (written_on xs ys)
    ∙ sym (assoc (bytes_of x) (all_written xs) (all_written ys))
written_on (OfFlush x ∷ xs) ys = written_on xs ys

pub read_to_end_on : (xs ys : List ReaderPoll) → EndsRead ys → EndsRead (xs ++ ys)
read_to_end_on xs ys ends =
    (xs ++ ends.0, ends.1, ap (λ l. xs ++ l) ends.2 ∙ sym (polls_assoc xs ends.0 _))
  where
    polls_assoc : (xs ys zs : List ReaderPoll) → (xs ++ ys) ++ zs ≡ xs ++ (ys ++ zs)
    polls_assoc xs ys zs = search (rules, common_steps)
