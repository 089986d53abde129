-- No byte of a copy is lost, added or changed, in one step.
use Rattle.std.proofs.Common.{◌≡◌, ◌∙◌, ◌<◌, ◌≤◌, ◌+◌, ◌-◌, ◌++◌, ◌⊎◌, inl, inr, sym, refl, subst}
use Rattle.std.proofs.Common.{zero, suc, ℕ, Bool, true, false, List, [], ◌∷◌, take, drop, length}
use Rattle.std.proofs.Common.{min, slice_range, nat_lt, nat_le, if◌then◌else◌, arith, ap, rules}
use Rattle.std.specs.declared.io.Error.{Error}
use Rattle.std.proofs.lemmas.Bool.{le-leb}
use Rattle.std.proofs.Math.Seq.{take-add}
use Rattle.std.proofs.lemmas.List.{drop-drop, take-append-drop, take-take}
use Rattle.std.proofs.lemmas.Grind.{common_steps}
use Rattle.blocking_core.specs.Copying.{copied_by, next_after, next_in_piece, took_none}
use Rattle.blocking_core.specs.declared.copy.CopyAction.{CopyAction}
use Rattle.blocking_core.specs.declared.copy.CopyAction.TheVariants.{Read, Write, Flush, Done}
use Rattle.blocking_core.specs.declared.copy.CopyAnswer.{CopyAnswer}
use Rattle.blocking_core.specs.declared.copy.CopyAnswer.TheVariants as by
use Rattle.blocking_core.specs.declared.copy.CopyEnd.TheVariants.{Copied, Reading, Writing}
use Rattle.blocking_io.specs.Copies.{EndsRead, bytes_of, greatest, is_copied, is_ending, told_poll}
use Rattle.blocking_io.specs.Polled.{OfRead}
use Rattle.blocking_io.specs.CopySteps.{AnswersTo, IsWholeAt, StandsAt, rest_of}

pub and_nothing : (xs : List ℕ) → xs ++ [] ≡ xs
and_nothing xs = search (rules, common_steps)

-- a range is its front and the rest behind it
range_cut : (xs : List ℕ) (from to n : ℕ) → n ≤ to - from
    → slice_range xs from to ++ [] ≡ take n (slice_range xs from to) ++ slice_range xs (from + n) to
range_cut xs from to n le =
    let ys = drop from xs in
    let k = to - from in
    let m = to - (from + n) in
    let parts : k ≡ n + m = grind (arith) in
    and_nothing (take k ys) ∙ (ap (λ j. take j ys) parts ∙ (take-add n m ys
    ∙ (ap (λ l. l ++ take m (drop n ys)) (sym (take-take n k ys le))
    ∙ ap (λ l. take n (take k ys) ++ take m l) (drop-drop n from xs))))

-- the front of a range that is as long as it is all of it
range_whole : (xs : List ℕ) (from to n : ℕ) → to - from ≤ n
    → slice_range xs from to ++ [] ≡ take n (slice_range xs from to) ++ []
range_whole xs from to n le = grind (arith, common_steps)

reaches_end : (n m : ℕ) → nat_lt n m ≡ false → m ≤ n
reaches_end n m e = grind (arith, common_steps)

cut : (piece from to n : ℕ) (xs : List ℕ) (is_part is_all : Bool) → nat_lt n (to - from) ≡ is_part
    → is_all ≡ true → n ≤ to - from
    → slice_range xs from to ++ []
    ≡ take n (slice_range xs from to)
    ++ rest_of {E = Error}
    (if is_part then Write (from + n) to else if is_all then Read piece else Write from to) xs
cut piece from to n xs true is_all part all le = range_cut xs from to n le
cut piece from to n xs false true part all le =
    range_whole xs from to n (reaches_end n (to - from) part)
cut piece from to n xs false false part all le = search rules

took_part : (piece from to n : ℕ) (before after : List ℕ) → n ≤ to - from → after ≡ before
    → slice_range before from to ++ [] ≡ take n (slice_range before from to)
    ++ rest_of {E = Error} (next_in_piece piece from to n) after
took_part piece from to n before after le stays =
    let P : List ℕ → Type 0 = λ xs. slice_range before from to ++ []
    ≡ take n (slice_range before from to) ++ rest_of {E = Error} (next_in_piece piece from to n) xs
    in subst P (sym stays) (cut piece from to n before _ _ refl (le-leb n (to - from) le) le)

stays_to_write : (from to : ℕ) (before after : List ℕ) → after ≡ before
    → slice_range before from to ++ [] ≡ slice_range after from to
stays_to_write from to before after stays = search (rules, common_steps)

gave_part : (most n : ℕ) (after : List ℕ) → n ≤ most
    → take n after ≡ rest_of {E = Error} (if nat_le n most then Write 0 n else Read most) after
gave_part most n after le =
    let P : Bool → Type 0 =
    λ b. take n after ≡ rest_of {E = Error} (if b then Write 0 n else Read most) after in
    let all : n ≡ n - 0 = grind (arith) in
    subst P (sym (le-leb n most le)) (ap (λ j. take j after) all)

-- the bytes that an answer brings in, and those that it takes out
abbrev pub given : CopyAction Error → CopyAnswer Error → List ℕ → List ℕ
given (Read most) answer piece = bytes_of (told_poll answer piece)
given action answer piece = []

abbrev pub taken : CopyAction Error → CopyAnswer Error → List ℕ → List ℕ
taken (Write from to) answer piece = bytes_of (told_poll answer (slice_range piece from to))
taken action answer piece = []

-- the piece stays as it is, unless it is read into
abbrev pub StaysPut : CopyAction Error → List ℕ → List ℕ → Type 0
StaysPut (Read most) before after = Unit {0}
StaysPut action before after = after ≡ before

pub in_order : (action : CopyAction Error) (answer : CopyAnswer Error) (piece copied : ℕ)
    (short : Bool) (before after : List ℕ)
    → AnswersTo action answer → StaysPut action before after
    → IsWholeAt (if short then true else took_none action answer)
    (next_after piece copied short action answer)
    → rest_of action before ++ given action answer after
    ≡ taken action answer before ++ rest_of (next_after piece copied short action answer) after
in_order action answer piece copied true before after is stays whole = absurd whole
in_order (Read most) by.Pending piece copied false before after is stays whole = refl
in_order (Read most) (by.Gave zero) piece copied false before after is stays whole = refl
in_order (Read most) (by.Gave (suc n)) piece copied false before after is stays whole =
    gave_part most (suc n) after is
in_order (Read most) (by.Took n) piece copied false before after is stays whole = absurd is
in_order (Read most) by.Flushed piece copied false before after is stays whole = absurd is
in_order (Read most) (by.Failed why) piece copied false before after is stays whole = refl
in_order (Write from to) by.Pending piece copied false before after is stays whole =
    stays_to_write from to before after stays
in_order (Write from to) (by.Gave n) piece copied false before after is stays whole = absurd is
in_order (Write from to) (by.Took zero) piece copied false before after is stays whole =
    absurd whole
in_order (Write from to) (by.Took (suc n)) piece copied false before after is stays whole =
    took_part piece from to (suc n) before after is stays
in_order (Write from to) by.Flushed piece copied false before after is stays whole = absurd is
in_order (Write from to) (by.Failed why) piece copied false before after is stays whole =
    absurd whole
in_order Flush by.Pending piece copied false before after is stays whole = refl
in_order Flush (by.Gave n) piece copied false before after is stays whole = absurd is
in_order Flush (by.Took n) piece copied false before after is stays whole = absurd is
in_order Flush by.Flushed piece copied false before after is stays whole = refl
in_order Flush (by.Failed why) piece copied false before after is stays whole = absurd whole
in_order (Done end) answer piece copied false before after is stays whole = absurd is

-- what was lost stays lost
pub was_whole : (action : CopyAction Error) (answer : CopyAnswer Error) (next : CopyAction Error)
    (short : Bool) → AnswersTo action answer
    → IsWholeAt (if short then true else took_none action answer) next → IsWholeAt short action
was_whole action answer next true is whole = absurd whole
was_whole (Read most) answer next false is whole = tt
was_whole (Write from to) answer next false is whole = tt
was_whole Flush answer next false is whole = tt
was_whole (Done end) answer next false is whole = absurd is

-- what is left of what was read, where nothing is said of what comes next
abbrev left : CopyAction Error → CopyAnswer Error → List ℕ → List ℕ → List ℕ
left (Read most) answer before after = bytes_of (told_poll answer after)
left (Write from to) (by.Took n) before after = drop n (slice_range before from to)
left (Write from to) answer before after = slice_range before from to
left action answer before after = []

cut_there : (action : CopyAction Error) (answer : CopyAnswer Error) (before after : List ℕ)
    → AnswersTo action answer
    → rest_of action before ++ given action answer after
    ≡ taken action answer before ++ left action answer before after
cut_there (Read most) answer before after is = refl
cut_there (Write from to) by.Pending before after is = and_nothing _
cut_there (Write from to) (by.Gave n) before after is = absurd is
cut_there (Write from to) (by.Took n) before after is =
    and_nothing _ ∙ sym (take-append-drop n (slice_range before from to))
cut_there (Write from to) by.Flushed before after is = absurd is
cut_there (Write from to) (by.Failed why) before after is = and_nothing _
cut_there Flush answer before after is = refl
cut_there (Done end) answer before after is = absurd is

pub whole_or_not : (short : Bool) (action : CopyAction Error)
    → IsWholeAt short action ⊎ (IsWholeAt short action → ⊥)
whole_or_not true action = inr (λ whole. whole)
whole_or_not false (Read most) = inl tt
whole_or_not false (Write from to) = inl tt
whole_or_not false Flush = inl tt
whole_or_not false (Done (Copied count)) = inl tt
whole_or_not false (Done (Reading why)) = inl tt
whole_or_not false (Done (Writing why)) = inr (λ whole. whole)

-- what is written is a beginning of what was to be written and of what was read
pub some_rest : (action : CopyAction Error) (answer : CopyAnswer Error) (piece copied : ℕ)
    (short : Bool) (before after : List ℕ)
    → AnswersTo action answer → StaysPut action before after
    → (rest : List ℕ)
    × (rest_of action before ++ given action answer after ≡ taken action answer before ++ rest)
    × (IsWholeAt (if short then true else took_none action answer)
    (next_after piece copied short action answer)
    → rest ≡ rest_of (next_after piece copied short action answer) after)
some_rest action answer piece copied short before after is stays =
    elim (whole_or_not (if short then true else took_none action answer)
    (next_after piece copied short action answer)) [
      | inl whole ↦ (
        rest_of (next_after piece copied short action answer) after,
        in_order action answer piece copied short before after is stays whole,
        λ w. refl,
      )
      | inr lost ↦ (
        left action answer before after,
        cut_there action answer before after is,
        λ w. absurd (lost w),
      )
    ]

-- where something was lost, no more is read or written
pub stopped : (action : CopyAction Error) (answer : CopyAnswer Error) (copied length : ℕ)
    (short : Bool) (before after : List ℕ)
    → StandsAt action copied short length → (IsWholeAt short action → ⊥)
    → (given action answer after ≡ []) × (taken action answer before ≡ [])
stopped (Read most) answer copied length short before after stands lost =
    let P : Bool → Type 0 = λ b. IsWholeAt {E = Error} b (Read most) in
    absurd (lost (subst P (sym stands.1) tt))
stopped (Write from to) answer copied length short before after stands lost =
    let P : Bool → Type 0 = λ b. IsWholeAt {E = Error} b (Write from to) in
    absurd (lost (subst P (sym stands.1) tt))
stopped Flush answer copied length short before after stands lost = (refl, refl)
stopped (Done end) answer copied length short before after stands lost = (refl, refl)

pub stays_counted : (n most : ℕ) → n ≤ most → n ≡ min (n + 0) most
stays_counted n most le = grind (arith, common_steps)

range_length : (xs : List ℕ) (from to n : ℕ) → to ≤ length xs → n ≤ to - from
    → length (take n (slice_range xs from to)) ≡ n
range_length xs from to n within le = grind (arith, common_steps)

count_taken : (copied n m most : ℕ) (is_offered : Bool) → is_offered ≡ true → m ≡ n
    → (if is_offered then min (copied + n) most else copied) ≡ min (copied + m) most
count_taken copied n m most true is same = ap (λ k. min (copied + k) most) (sym same)
count_taken copied n m most false is same = search rules

-- what is written is counted
pub counted : (action : CopyAction Error) (answer : CopyAnswer Error) (copied : ℕ) (short : Bool)
    (before : List ℕ) → AnswersTo action answer
    → StandsAt action copied short (length before) → copied ≤ greatest
    → copied_by copied action answer ≡ min (copied + length (taken action answer before)) greatest
counted (Read most) answer copied short before is stands le = stays_counted copied greatest le
counted (Write from to) by.Pending copied short before is stands le =
    stays_counted copied greatest le
counted (Write from to) (by.Gave n) copied short before is stands le = absurd is
counted (Write from to) (by.Took n) copied short before is stands le =
    count_taken copied n _ greatest _ (le-leb n (to - from) is)
    (range_length before from to n stands.0.1 is)
counted (Write from to) by.Flushed copied short before is stands le = absurd is
counted (Write from to) (by.Failed why) copied short before is stands le =
    stays_counted copied greatest le
counted Flush answer copied short before is stands le = stays_counted copied greatest le
counted (Done end) answer copied short before is stands le = stays_counted copied greatest le

piece_goes_on : (piece from to n : ℕ) (is_part is_all : Bool)
    → is_copied (if is_part then Write (from + n) to else if is_all then Read piece
    else Write from to) ≡ true → ⊥
piece_goes_on piece from to n true is_all is = cc
piece_goes_on piece from to n false true is = cc
piece_goes_on piece from to n false false is = cc

gave_goes_on : (most n : ℕ) (fits : Bool) → is_copied (if fits then Write 0 n else Read most) ≡ true
    → ⊥
gave_goes_on most n true is = cc
gave_goes_on most n false is = cc

-- only a flush ends a copy well
pub read_goes_on : (piece copied most : ℕ) (short : Bool) (answer : CopyAnswer Error)
    → is_copied (next_after piece copied short (Read most) answer) ≡ true → ⊥
read_goes_on piece copied most short by.Pending is = cc
read_goes_on piece copied most short (by.Gave zero) is = cc
read_goes_on piece copied most short (by.Gave (suc n)) is = gave_goes_on most (suc n) _ is
read_goes_on piece copied most short (by.Took n) is = cc
read_goes_on piece copied most short by.Flushed is = cc
read_goes_on piece copied most short (by.Failed why) is = cc

pub write_goes_on : (piece copied from to : ℕ) (short : Bool) (answer : CopyAnswer Error)
    → is_copied (next_after piece copied short (Write from to) answer) ≡ true → ⊥
write_goes_on piece copied from to short by.Pending is = cc
write_goes_on piece copied from to short (by.Gave n) is = cc
write_goes_on piece copied from to short (by.Took zero) is = cc
write_goes_on piece copied from to short (by.Took (suc n)) is =
    piece_goes_on piece from to (suc n) _ _ is
write_goes_on piece copied from to short by.Flushed is = cc
write_goes_on piece copied from to short (by.Failed why) is = cc

gave_is_no_end : (most n : ℕ) (fits : Bool)
    → is_ending (if fits then Write 0 n else Read most) ≡ true → ⊥
gave_is_no_end most n true is = cc
gave_is_no_end most n false is = cc

piece_is_no_end : (piece from to n : ℕ) (is_part is_all : Bool)
    → is_ending (if is_part then Write (from + n) to else if is_all then Read piece
    else Write from to) ≡ true → ⊥
piece_is_no_end piece from to n true is_all is = cc
piece_is_no_end piece from to n false true is = cc
piece_is_no_end piece from to n false false is = cc

-- a read leads to the flush only where it met the end
pub read_ends : (piece copied most : ℕ) (short : Bool) (answer : CopyAnswer Error) (after : List ℕ)
    → 0 < most
    → is_ending (next_after piece copied short (Read most) answer) ≡ true
    → EndsRead (OfRead most (told_poll answer after) ∷ [])
read_ends piece copied zero short answer after some is = absurd (omega (arith, some))
read_ends piece copied (suc most) short by.Pending after some is = cc
read_ends piece copied (suc most) short (by.Gave zero) after some is = ([], most, refl)
read_ends piece copied (suc most) short (by.Gave (suc n)) after some is =
    absurd (gave_is_no_end (suc most) (suc n) _ is)
read_ends piece copied (suc most) short (by.Took n) after some is = cc
read_ends piece copied (suc most) short by.Flushed after some is = cc
read_ends piece copied (suc most) short (by.Failed why) after some is = cc

-- a write that took something leads to no flush
pub write_is_no_end : (piece copied from to : ℕ) (short : Bool) (answer : CopyAnswer Error)
    → IsWholeAt (if short then true else took_none (Write from to) answer)
    (next_after piece copied short (Write from to) answer)
    → is_ending (next_after piece copied short (Write from to) answer) ≡ true → ⊥
write_is_no_end piece copied from to true answer whole is = whole
write_is_no_end piece copied from to false by.Pending whole is = cc
write_is_no_end piece copied from to false (by.Gave n) whole is = cc
write_is_no_end piece copied from to false (by.Took zero) whole is = whole
write_is_no_end piece copied from to false (by.Took (suc n)) whole is =
    piece_is_no_end piece from to (suc n) _ _ is
write_is_no_end piece copied from to false by.Flushed whole is = cc
write_is_no_end piece copied from to false (by.Failed why) whole is = cc

-- whether no more is read
abbrev pub is_done_reading : CopyAction Error → Bool
is_done_reading (Read most) = false
is_done_reading (Write from to) = false
is_done_reading action = true

pub flush_reads_no_more : (piece copied : ℕ) (short : Bool) (answer : CopyAnswer Error)
    → is_done_reading (next_after piece copied short Flush answer) ≡ true
flush_reads_no_more piece copied short by.Pending = refl
flush_reads_no_more piece copied short (by.Gave n) = refl
flush_reads_no_more piece copied short (by.Took n) = refl
flush_reads_no_more piece copied short by.Flushed = refl
flush_reads_no_more piece copied short (by.Failed why) = refl
