-- What Ok says of a copy that was begun anew.
use Rattle.std.proofs.Common.{◌≡◌, ◌≤◌, ◌+◌, ◌++◌, ap, arith, min, sym, subst, ℕ, List, []}
use Rattle.std.proofs.Common.{vec_items, vec_len, Result, Ok, Err, rules}
use Rattle.std.proofs.lemmas.Grind.{common_steps}
use Rattle.std.specs.declared.io.Error.{Error}
use Rattle.blocking_core.specs.Copying.{new_copy}
use Rattle.blocking_core.specs.declared.copy.CopyAction.{CopyAction}
use Rattle.blocking_core.specs.declared.copy.CopyAction.TheVariants.{Read, Write, Flush, Done}
use Rattle.blocking_core.specs.declared.copy.CopyEnd.TheVariants.{Copied, Reading, Writing}
use Rattle.blocking_io.specs.Copies.{Carries, EndsWith, IsCopied, MayEnd, Reaches, SaysOf, greatest}
use Rattle.blocking_io.specs.Copies.{is_copied, is_ending, unwritten}
use Rattle.blocking_io.specs.CopySteps.{IsWholeAt, StandsAt, is_over, rest_of}
use Rattle.blocking_io.specs.Polled.{ReaderPoll, WriterPoll}
use Rattle.blocking_io.specs.declared.copy.Copier.{Copier}
use Rattle.blocking_io.specs.declared.copy.CopyFault.{CopyFault}
use Rattle.blocking_io.proofs.Carrying.{reaches_carry}

ended : (action : CopyAction Error) (count : ℕ) → EndsWith action (Ok count)
    → action ≡ Done (Copied count)
ended (Read most) count ends = absurd ends
ended (Write from to) count ends = absurd ends
ended Flush count ends = absurd ends
ended (Done (Copied n)) count ends = cc
ended (Done (Reading why)) count ends = cc
ended (Done (Writing why)) count ends = cc

-- all that was read was written, where nothing is left
all_there : (before read written rest after : List ℕ) → before ≡ [] → after ≡ [] → rest ≡ after
    → before ++ read ≡ written ++ rest → written ≡ read
all_there before read written rest after none no_more same order = grind (rules)

none_is_within : (n most : ℕ) → n ≡ 0 → n ≤ most
none_is_within n most none = grind (arith)

from_none : (count copied before written most : ℕ) → count ≡ copied
    → copied ≡ min (before + written) most → before ≡ 0 → count ≡ min written most
from_none count copied before written most same counts none = grind (arith, common_steps)

module _ {A B : Type 0} (reads : A → ReaderPoll → A → Type 0)
    (writes : B → WriterPoll → B → Type 0) where
  all_copied : (old new : Copier A B) (piece count : ℕ) → old.core ≡ new_copy piece
      → Carries reads writes old new
      → EndsWith new.core.next (Ok count) → IsCopied reads writes old.reader old.writer count
  all_copied old new piece count begun carries ends =
      let over = ended new.core.next count ends in
      let stands =
      subst (λ action. StandsAt action new.core.copied new.core.is_short (vec_len new.piece))
      over new.stands.0 in
      let at_end : IsWholeAt new.core.is_short (Done (Copied count)) =
      subst (λ b. IsWholeAt {E = Error} b (Done (Copied count))) (sym stands.1) tt in
      let is_whole = subst (IsWholeAt new.core.is_short) (sym over) at_end in
      let zero : old.core.copied ≡ 0 = ap (λ core. core.copied) begun in
      record {
        last_reader = new.reader;
        last_writer = new.writer;
        read = carries.read;
        written = carries.written;
        by_reader = carries.by_reader;
        by_writer = carries.by_writer;
        ended = carries.ended (ap (λ core. is_ending core.next) begun) is_whole (ap is_ending over);
        all =
            all_there (unwritten old) _ _ carries.rest (unwritten new)
            (ap (λ core. rest_of core.next (vec_items old.piece)) begun)
            (ap (λ action. rest_of action (vec_items new.piece)) over) (carries.whole is_whole).1
            carries.in_order;
        flushed = carries.flushed (ap (λ core. is_over core.next) begun) (ap is_copied over);
        counts =
            from_none count new.core.copied old.core.copied _ greatest stands.0
            (carries.counts (none_is_within old.core.copied greatest zero)) zero;
      }

  -- what a copier may give, by what it comes to
  pub may_end : (old new : Copier A B) (out : Result ℕ CopyFault) → Reaches reads writes old new
      → EndsWith new.core.next out → MayEnd reads writes old out
  may_end old new out reaches ends =
      let carries = reaches_carry reads writes old new reaches in record {
        new = new;
        reaches = reaches;
        carries = carries;
        ends = ends;
        says = λ piece begun. says out ends piece begun carries;
      }
    where
      says : (o : Result ℕ CopyFault) → EndsWith new.core.next o → (piece : ℕ)
          → old.core ≡ new_copy piece → Carries reads writes old new
          → SaysOf reads writes old.reader old.writer o
      says (Ok count) ends piece begun carries = all_copied old new piece count begun carries ends
      says (Err why) ends piece begun carries = tt
