-- No byte of a copy is lost, added or changed, in any number of steps.
use Rattle.std.proofs.Common.{◌≡◌, ◌∙◌, ◌<◌, ◌≤◌, ◌+◌, ◌++◌, ◌⊎◌, inl, inr, ap, sym, refl, subst, ℕ}
use Rattle.std.proofs.Common.{Bool, true, false, List, [], ◌∷◌, length, min, if◌then◌else◌}
use Rattle.std.proofs.Common.{slice_range, vec_items, vec_len, arith, rules}
use Rattle.std.proofs.lemmas.Grind.{common_steps}
use Rattle.std.proofs.lemmas.List.{length-append}
use Rattle.std.proofs.Math.Nat.{min-le_right}
use Rattle.std.specs.declared.io.Error.{Error}
use Rattle.blocking_core.specs.Copying.{next_after, took_none}
use Rattle.blocking_core.specs.declared.copy.CopyAction.{CopyAction}
use Rattle.blocking_core.specs.declared.copy.CopyAction.TheVariants.{Read, Write, Flush, Done}
use Rattle.blocking_core.specs.declared.copy.CopyAnswer.{CopyAnswer}
use Rattle.blocking_core.specs.declared.copy.CopyAnswer.TheVariants as by
use Rattle.blocking_io.specs.Copies.{Acts, Carries, EndsFlushed, EndsRead, Passes, Reaches, Runs}
use Rattle.blocking_io.specs.Copies.{Steps, all_read, all_written, greatest, is_copied}
use Rattle.blocking_io.specs.Copies.{is_ending, told_flush, told_poll, unwritten}
use Rattle.blocking_io.specs.CopySteps.{AnswersTo, IsWhole, IsWholeAt, StandsAt, is_over, rest_of}
use Rattle.blocking_io.specs.Polled.{ReaderPoll, WriterPoll, OfFlush, OfRead, OfWrite}
use Rattle.blocking_io.specs.declared.copy.Copier.{Copier}
use Rattle.blocking_io.proofs.Passes.{assoc, passes_join, read_on, read_to_end_on, written_on}
use Rattle.blocking_io.proofs.CopyBytes.{StaysPut, and_nothing, counted, flush_reads_no_more, given}
use Rattle.blocking_io.proofs.CopyBytes.{is_done_reading, read_ends, read_goes_on, some_rest}
use Rattle.blocking_io.proofs.CopyBytes.{stays_counted, stopped, taken, was_whole, whole_or_not}
use Rattle.blocking_io.proofs.CopyBytes.{write_goes_on, write_is_no_end}

flushed_on : (xs ys : List WriterPoll) → EndsFlushed ys → EndsFlushed (xs ++ ys)
flushed_on xs ys ends = (xs ++ ends.0, ap (λ l. xs ++ l) ends.1 ∙ sym (polls_assoc xs ends.0 _))
  where
    polls_assoc : (xs ys zs : List WriterPoll) → (xs ++ ys) ++ zs ≡ xs ++ (ys ++ zs)
    polls_assoc xs ys zs = search (rules, common_steps)

and_no_reads : (xs : List ReaderPoll) → xs ++ [] ≡ xs
and_no_reads xs = search (rules, common_steps)

-- equations of lists, part by part
by_parts : (a r r' w w' c : List ℕ) → r ≡ r' → w ≡ w' → a ++ r' ≡ w' ++ c → a ++ r ≡ w ++ c
by_parts a r r' w w' c er ew e = ap (λ x. a ++ x) er ∙ (e ∙ ap (λ x. x ++ c) (sym ew))

in_turn : (a r w b s v c : List ℕ) → a ++ r ≡ w ++ b → b ++ s ≡ v ++ c
    → a ++ (r ++ s) ≡ (w ++ v) ++ c
in_turn a r w b s v c first rest =
    sym (assoc a r s)
    ∙ (ap (λ x. x ++ s) first ∙ (assoc w b s ∙ (ap (λ x. w ++ x) rest ∙ sym (assoc w v c))))

nothing_then : (a r w b s v : List ℕ) → a ++ r ≡ w ++ b → s ≡ [] → v ≡ []
    → a ++ (r ++ s) ≡ (w ++ v) ++ b
nothing_then a r w b s v first none nor =
    ap (λ x. a ++ (r ++ x)) none ∙ (ap (λ x. a ++ x) (and_nothing r)
    ∙ (first ∙ (ap (λ x. x ++ b) (sym (and_nothing w)) ∙ ap (λ x. (w ++ x) ++ b) (sym nor))))

both_nothing : (xs ys : List ℕ) → xs ≡ [] → ys ≡ [] → xs ++ ys ≡ []
both_nothing xs ys none nor = ap (λ l. l ++ ys) none ∙ nor

and_no_polls : (xs : List WriterPoll) → xs ++ [] ≡ xs
and_no_polls xs = search (rules, common_steps)

count_on : (copied first rest most : ℕ)
    → min (min (copied + first) most + rest) most ≡ min (copied + (first + rest)) most
count_on copied first rest most = grind (arith, common_steps)

either : (b : Bool) → (b ≡ true) ⊎ (b ≡ false)
either true = inl refl
either false = inr refl

-- what is over isn't answered
over_is_not_asked : (action : CopyAction Error) (answer : CopyAnswer Error) → is_over action ≡ true
    → AnswersTo action answer → ⊥
over_is_not_asked (Read most) answer over is = cc
over_is_not_asked (Write from to) answer over is = cc
over_is_not_asked Flush answer over is = cc
over_is_not_asked (Done end) answer over is = is

not_both : (b : Bool) → b ≡ true → b ≡ false → ⊥
not_both true is isnt = cc
not_both false is isnt = cc

ending_reads_no_more : (action : CopyAction Error) → is_ending action ≡ true
    → is_done_reading action ≡ true
ending_reads_no_more (Read most) is = cc
ending_reads_no_more (Write from to) is = cc
ending_reads_no_more Flush is = refl
ending_reads_no_more (Done end) is = refl

copied_is_over : (action : CopyAction Error) → is_copied action ≡ true → is_over action ≡ false → ⊥
copied_is_over (Read most) is going = cc
copied_is_over (Write from to) is going = cc
copied_is_over Flush is going = cc
copied_is_over (Done end) is going = cc

module _ {A B : Type 0} (reads : A → ReaderPoll → A → Type 0)
    (writes : B → WriterPoll → B → Type 0) where
  -- the polls of one step, and what they moved
  record Moved (action : CopyAction Error) (answer : CopyAnswer Error) (old new : Copier A B) :
      Type 0 where
    read : List ReaderPoll
    written : List WriterPoll
    by_reader : Passes reads old.reader read new.reader
    by_writer : Passes writes old.writer written new.writer
    is_read : all_read read ≡ given action answer (vec_items new.piece)
    is_written : all_written written ≡ taken action answer (vec_items old.piece)
    stays : StaysPut action (vec_items old.piece) (vec_items new.piece)
    ended : is_ending action ≡ false
        → IsWholeAt (if old.core.is_short then true else took_none action answer)
        (next_after old.core.piece old.core.copied old.core.is_short action answer)
        → is_ending (next_after old.core.piece old.core.copied old.core.is_short action answer)
        ≡ true → EndsRead read
    flushed : is_copied (next_after old.core.piece old.core.copied old.core.is_short action answer)
        ≡ true → EndsFlushed written
    quiet : is_done_reading action ≡ true → (read ≡ []) × (is_done_reading
        (next_after old.core.piece old.core.copied old.core.is_short action answer) ≡ true)

  moved_by : (action : CopyAction Error) (answer : CopyAnswer Error) (old new : Copier A B)
      → StandsAt action old.core.copied old.core.is_short (vec_len old.piece)
      → 0 < vec_len old.piece → Acts reads writes action answer old new
      → Moved action answer old new
  moved_by (Read most) answer old new stands some acts = record {
    read = OfRead most (told_poll answer (vec_items new.piece)) ∷ [];
    written = [];
    by_reader = (new.reader, acts.0, refl);
    by_writer = acts.1;
    is_read = and_nothing _;
    is_written = refl;
    stays = tt;
    ended = λ before whole is.
        read_ends old.core.piece old.core.copied most old.core.is_short answer (vec_items new.piece)
        (subst (λ n. 0 < n) (sym stands.0) some) is;
    quiet = λ is. cc;
    flushed =
        λ is. absurd (read_goes_on old.core.piece old.core.copied most old.core.is_short answer is);
  }
  moved_by (Write from to) answer old new stands some acts = record {
    read = [];
    written = OfWrite (told_poll answer (slice_range (vec_items old.piece) from to)) ∷ [];
    by_reader = acts.1;
    by_writer = (new.writer, acts.0, refl);
    is_read = refl;
    is_written = and_nothing _;
    stays = acts.2;
    ended = λ before whole is. absurd
        (write_is_no_end old.core.piece old.core.copied from to old.core.is_short answer whole is);
    quiet = λ is. cc;
    flushed = λ is.
        absurd (write_goes_on old.core.piece old.core.copied from to old.core.is_short answer is);
  }
  moved_by Flush answer old new stands some acts = record {
    read = [];
    written = OfFlush (told_flush answer) ∷ [];
    by_reader = acts.1;
    by_writer = (new.writer, acts.0, refl);
    is_read = refl;
    is_written = refl;
    stays = acts.2;
    ended = λ before whole is. cc;
    quiet =
        λ is. (refl, flush_reads_no_more old.core.piece old.core.copied old.core.is_short answer);
    flushed = flushed_by answer;
  }
    where
      flushed_by : (a : CopyAnswer Error)
          → is_copied (next_after old.core.piece old.core.copied old.core.is_short Flush a) ≡ true
          → EndsFlushed (OfFlush (told_flush a) ∷ [])
      flushed_by by.Pending is = cc
      flushed_by (by.Gave n) is = cc
      flushed_by (by.Took n) is = cc
      flushed_by by.Flushed is = ([], refl)
      flushed_by (by.Failed why) is = cc
  moved_by (Done end) answer old new stands some acts = absurd acts

  -- What steps carry, and what lets it be joined: after a loss nothing more is moved, and what is
  -- over stays as it is.
  record Kept (old new : Copier A B) : Type 0 where
    carries : Carries reads writes old new
    stops : (IsWhole old.core → ⊥)
        → (all_read carries.read ≡ []) × (all_written carries.written ≡ [])
    over : is_over old.core.next ≡ true → (carries.written ≡ []) × (new.core.next ≡ old.core.next)
    quiet : is_done_reading old.core.next ≡ true
        → (carries.read ≡ []) × (is_done_reading new.core.next ≡ true)

  step_keeps : (old new : Copier A B) (answer : CopyAnswer Error)
      → Steps reads writes old answer new → Kept old new
  step_keeps old new answer step =
      let m = moved_by old.core.next answer old new old.stands.0 old.stands.1.1 step.1 in
      let stands = subst (StandsAt old.core.next old.core.copied old.core.is_short) old.piece.ok.0
      old.stands.0 in
      let left = some_rest old.core.next answer old.core.piece old.core.copied old.core.is_short _ _
      step.0 m.stays in record {
        carries = record {
          read = m.read;
          written = m.written;
          rest = left.0;
          by_reader = m.by_reader;
          by_writer = m.by_writer;
          in_order = by_parts (unwritten old) _ _ _ _ left.0 m.is_read m.is_written left.1;
          whole =
              λ whole.
              let w = subst IsWhole step.2 whole in (
                was_whole old.core.next answer _ old.core.is_short step.0 w,
                left.2 w ∙ sym (ap (λ core. rest_of core.next (vec_items new.piece)) step.2),
              );
          counts =
              λ le. ap (λ core. core.copied) step.2
              ∙ (counted old.core.next answer old.core.copied old.core.is_short
              (vec_items old.piece) step.0 stands le
              ∙ ap (λ bytes. min (old.core.copied + length bytes) greatest) (sym m.is_written));
          ended = λ before whole is. m.ended before (subst IsWhole step.2 whole)
              (subst (λ core. is_ending core.next ≡ true) step.2 is);
          flushed = λ going is. m.flushed (subst (λ core. is_copied core.next ≡ true) step.2 is);
        };
        stops =
            λ lost.
            let s = stopped old.core.next answer old.core.copied _ old.core.is_short
            (vec_items old.piece) (vec_items new.piece) old.stands.0 lost in
            (m.is_read ∙ s.0, m.is_written ∙ s.1);
        over = λ over. absurd (over_is_not_asked old.core.next answer over step.0);
        quiet =
            λ is. let q = m.quiet is in
            (q.0, subst (λ core. is_done_reading core.next ≡ true) (sym step.2) q.1);
      }

  nothing : (old : Copier A B) → Kept old old
  nothing old = record {
    carries = record {
      read = [];
      written = [];
      rest = unwritten old;
      by_reader = refl;
      by_writer = refl;
      in_order = and_nothing _;
      whole = λ whole. (whole, refl);
      counts = λ le. stays_counted old.core.copied greatest le;
      ended = λ before whole is. absurd (not_both _ is before);
      flushed = λ going is. absurd (copied_is_over old.core.next is going);
    };
    stops = λ lost. (refl, refl);
    over = λ over. (refl, refl);
    quiet = λ is. (refl, is);
  }

  -- what was written all in all is a beginning of what was to be written and read
  rest_on : (old mid new : Copier A B) (first : Kept old mid) (rest : Kept mid new)
      → (left : List ℕ)
      × (unwritten old ++ (all_read first.carries.read ++ all_read rest.carries.read)
      ≡ (all_written first.carries.written ++ all_written rest.carries.written) ++ left)
      × (IsWhole new.core → IsWhole old.core × (left ≡ unwritten new))
  rest_on old mid new first rest = elim (whole_or_not mid.core.is_short mid.core.next) [
    | inl whole ↦ (
      rest.carries.rest,
      in_turn (unwritten old) _ _ first.carries.rest _ _ _ first.carries.in_order
          (ap (λ l. l ++ all_read rest.carries.read) (first.carries.whole whole).1
          ∙ rest.carries.in_order),
      λ now. ((first.carries.whole (rest.carries.whole now).0).0, (rest.carries.whole now).1),
    )
    | inr lost ↦ (
      first.carries.rest,
      nothing_then (unwritten old) _ _ _ _ _ first.carries.in_order (rest.stops lost).0
          (rest.stops lost).1,
      λ now. absurd (lost (rest.carries.whole now).0),
    )
  ]

  flushed_then : (old mid new : Copier A B) (first : Kept old mid) (rest : Kept mid new)
      → is_over old.core.next ≡ false
      → is_copied new.core.next ≡ true → EndsFlushed (first.carries.written ++ rest.carries.written)
  flushed_then old mid new first rest going is = elim (either (is_over mid.core.next)) [
    | inl over ↦
        let o = rest.over over in
        subst EndsFlushed
        (sym (ap (λ l. first.carries.written ++ l) o.0 ∙ and_no_polls first.carries.written))
        (first.carries.flushed going (subst (λ action. is_copied action ≡ true) o.1 is))
    | inr on ↦ flushed_on first.carries.written rest.carries.written (rest.carries.flushed on is)
  ]

  ended_then : (old mid new : Copier A B) (first : Kept old mid) (rest : Kept mid new)
      → is_ending old.core.next ≡ false → IsWhole new.core
      → is_ending new.core.next ≡ true → EndsRead (first.carries.read ++ rest.carries.read)
  ended_then old mid new first rest before whole is = elim (either (is_ending mid.core.next)) [
    | inl ends ↦
        let none = (rest.quiet (ending_reads_no_more mid.core.next ends)).0 in
        subst EndsRead
        (sym (ap (λ l. first.carries.read ++ l) none ∙ and_no_reads first.carries.read))
        (first.carries.ended before (rest.carries.whole whole).0 ends)
    | inr on ↦ read_to_end_on first.carries.read rest.carries.read (rest.carries.ended on whole is)
  ]

  counts_on : (old mid new : Copier A B) (first : Kept old mid) (rest : Kept mid new)
      → old.core.copied ≤ greatest
      → new.core.copied ≡ min (old.core.copied
      + length (all_written (first.carries.written ++ rest.carries.written))) greatest
  counts_on old mid new first rest le =
      let then_counted = first.carries.counts le in
      let bound : mid.core.copied ≤ greatest =
      subst (λ n. n ≤ greatest) (sym then_counted) (min-le_right _ _) in
      let all =
      ap (λ (l : List ℕ). length l) (written_on first.carries.written rest.carries.written)
      ∙ length-append (all_written first.carries.written) (all_written rest.carries.written) in
      rest.carries.counts bound
      ∙ (ap (λ n. min (n + length (all_written rest.carries.written)) greatest) then_counted
      ∙ (count_on old.core.copied _ _ greatest
      ∙ ap (λ n. min (old.core.copied + n) greatest) (sym all)))

  both : (old mid new : Copier A B) → Kept old mid → Kept mid new → Kept old new
  both old mid new first rest =
      let left = rest_on old mid new first rest in record {
        carries = record {
          read = first.carries.read ++ rest.carries.read;
          written = first.carries.written ++ rest.carries.written;
          rest = left.0;
          by_reader = passes_join reads old.reader mid.reader new.reader _ _ first.carries.by_reader
              rest.carries.by_reader;
          by_writer = passes_join writes old.writer mid.writer new.writer _ _
              first.carries.by_writer rest.carries.by_writer;
          in_order =
              by_parts (unwritten old) _ _ _ _ left.0 (read_on first.carries.read rest.carries.read)
              (written_on first.carries.written rest.carries.written) left.1;
          whole = left.2;
          counts = counts_on old mid new first rest;
          ended = ended_then old mid new first rest;
          flushed = flushed_then old mid new first rest;
        };
        stops =
            λ lost.
            let f = first.stops lost in
            let r = rest.stops (λ whole. lost (first.carries.whole whole).0) in (
              read_on first.carries.read rest.carries.read ∙ both_nothing _ _ f.0 r.0,
              written_on first.carries.written rest.carries.written ∙ both_nothing _ _ f.1 r.1,
            );
        over =
            λ over.
            let f = first.over over in
            let r = rest.over (subst (λ action. is_over action ≡ true) (sym f.1) over) in
            (ap (λ l. l ++ rest.carries.written) f.0 ∙ r.0, r.1 ∙ f.1);
        quiet =
            λ is.
            let f = first.quiet is in
            let r = rest.quiet f.1 in (ap (λ l. l ++ rest.carries.read) f.0 ∙ r.0, r.1);
      }

  runs_keep : (old new : Copier A B) (answers : List (CopyAnswer Error))
      → Runs reads writes old answers new → Kept old new
  runs_keep old new [] run = subst (Kept old) (sym run) (nothing old)
  runs_keep old new (answer ∷ rest) run =
      both old run.0 new (step_keeps old run.0 answer run.1) (runs_keep run.0 new rest run.2)

  pub reaches_carry : (old new : Copier A B) → Reaches reads writes old new
      → Carries reads writes old new
  reaches_carry old new reaches = (runs_keep old new reaches.0 reaches.1).carries
