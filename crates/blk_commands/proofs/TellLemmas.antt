-- What is known of bytes that are written in parts.
use Rattle.std.proofs.Common.{◌≡◌, ◌∙◌, ℕ, ◌-◌, List, [], ◌∷◌, ◌++◌, length, take, drop, Option}
use Rattle.std.proofs.Common.{Some, None, Result, Ok, Err, OnOk, IfSome, ap, append_assoc}
use Rattle.std.proofs.Common.{append-nil, subst, sym, take-append-drop}
use Rattle.std.proofs.Math.Seq.{take-append_seam}
use Rattle.std.proofs.lemmas.List.{take_rest}
use Rattle.std.specs.Fmt.{WritesInCalls, WritesText, with_newline}
use Rattle.std.specs.Io.KnownBytes.{Appends, Keeps}
use Rattle.std.specs.List.{FoldsTo, concat}
use Rattle.blk_commands.specs.Outcomes.{AppendsPart}
use Rattle.blk_commands.specs.Plays.{line_of}

-- ---- known bytes

-- where nothing is added, known bytes stay
pub appends_nothing : (known : Option (List ℕ)) → Appends known known []
appends_nothing None = tt
appends_nothing (Some xs) = sym (append-nil xs)

-- two additions are one
appends_both : (a b c : Option (List ℕ)) (early late : List ℕ) → Appends a b early
    → Appends b c late → Appends a c (early ++ late)
appends_both None b c early late p q = tt
appends_both (Some x) None c early late p q = absurd p
appends_both (Some x) (Some y) None early late p q = absurd q
appends_both (Some x) (Some y) (Some z) early late p q =
    q ∙ (ap (λ l. l ++ late) p ∙ append_assoc x early late)

-- what was added stays
appends_kept : (a b c : Option (List ℕ)) (bytes : List ℕ) → Appends a b bytes → Keeps b c
    → Appends a c bytes
appends_kept None b c bytes p q = tt
appends_kept (Some x) None c bytes p q = absurd p
appends_kept (Some x) (Some y) None bytes p q = absurd q
appends_kept (Some x) (Some y) (Some z) bytes p q = q ∙ p

-- nothing is a first part of anything
pub part_nothing : (known : Option (List ℕ)) (bytes : List ℕ) → AppendsPart known known bytes
part_nothing known bytes = (0, appends_nothing known)

-- ---- a front and its rest

-- the front of these bytes was added, and the rest is to be
pub record Written (old new : Option (List ℕ)) (bytes rest : List ℕ) : Type 0 where
  pub front : List ℕ
  pub split : bytes ≡ front ++ rest
  pub added : Appends old new front

-- n more bytes were added
pub written_more : (a b c : Option (List ℕ)) (bytes rest : List ℕ) (n : ℕ) → Written a b bytes rest
    → Appends b c (take n rest)
    → Written a c bytes (take (length rest - n) (drop n rest))
written_more a b c bytes rest n so_far more = record {
  front = so_far.front ++ take n rest;
  split = so_far.split ∙ (ap (λ l. so_far.front ++ l) (sym (take-append-drop n rest))
      ∙ (sym (append_assoc so_far.front (take n rest) (drop n rest))
      ∙ ap (λ l. (so_far.front ++ take n rest) ++ l) (sym (take_rest rest n))));
  added = appends_both a b c so_far.front (take n rest) so_far.added more;
}

-- nothing more was added
pub written_kept : (a b c : Option (List ℕ)) (bytes rest : List ℕ) → Written a b bytes rest
    → Keeps b c → Written a c bytes rest
written_kept a b c bytes rest so_far kept = record {
  front = so_far.front;
  split = so_far.split;
  added = appends_kept a b c so_far.front so_far.added kept;
}

-- the front is a first part
pub written_part : (old new : Option (List ℕ)) (bytes rest : List ℕ) → Written old new bytes rest
    → AppendsPart old new bytes
written_part old new bytes rest so_far = (
  length so_far.front,
  subst (Appends old new) (sym (ap (take (length so_far.front)) so_far.split
      ∙ take-append_seam so_far.front rest)) so_far.added,
)

-- where no rest is left, the front is all
pub written_whole : (old new : Option (List ℕ)) (bytes rest : List ℕ) → Written old new bytes rest
    → rest ≡ [] → Appends old new bytes
written_whole old new bytes rest so_far none =
    subst (Appends old new) (sym (so_far.split
    ∙ (ap (λ l. so_far.front ++ l) none ∙ append-nil so_far.front))) so_far.added

-- ---- a text that is made in a room of its own

module _ {T : Type 0} (IsIntact : T → Type 0) (text : T → List ℕ) where
  -- what a call adds to an intact text
  abbrev Adds : T → List ℕ → T → Type 0
  Adds s bytes t = IsIntact s → IsIntact t × (text t ≡ text s ++ bytes)

  -- what several calls add
  calls_add : (s : T) (parts : List (List ℕ)) (t : T) → FoldsTo Adds s parts t
      → Adds s (concat parts) t
  calls_add s [] t same intact =
      (subst IsIntact same intact, ap text (sym same) ∙ sym (append-nil (text s)))
  calls_add s (part ∷ parts) t calls intact =
      let first = calls.1 intact in
      let rest = calls_add calls.0 parts t calls.2 first.0 in (
        rest.0,
        rest.1
            ∙ (ap (λ l. l ++ concat parts) first.1 ∙ append_assoc (text s) part (concat parts)),
      )

  -- what was written into an empty text is that text
  pub text_written : (s : T) (bytes : List ℕ) (t : T) → IsIntact s → text s ≡ []
      → WritesInCalls Adds s bytes t → text t ≡ bytes
  text_written s bytes t intact empty wrote =
      (calls_add s wrote.parts t wrote.calls intact).1
      ∙ (ap (λ l. l ++ concat wrote.parts) empty ∙ wrote.whole)

  -- the line of a text was made, and a first part of it was added
  pub line_part : (output : Option (List ℕ)) (s t : T) (old new : Option (List ℕ)) (bytes : List ℕ)
      → IsIntact s → text s ≡ []
      → WritesText Adds s (with_newline output) t → bytes ≡ text t → AppendsPart old new bytes
      → IfSome output (λ o. AppendsPart old new (line_of o))
  line_part None s t old new bytes intact empty wrote same part = tt
  line_part (Some o) s t old new bytes intact empty wrote same part =
      subst (AppendsPart old new) (same ∙ text_written s (line_of o) t intact empty wrote) part

  -- the same, where all of it was added
  pub line_whole : {E : Type 0} (r : Result (Unit {0}) E) (output : Option (List ℕ)) (s t : T)
      (old new : Option (List ℕ)) (bytes : List ℕ)
      → IsIntact s → text s ≡ [] → WritesText Adds s (with_newline output) t → bytes ≡ text t
      → OnOk r (Appends old new bytes)
      → OnOk r (IfSome output (λ o. Appends old new (line_of o)))
  line_whole (Ok u) None s t old new bytes intact empty wrote same whole = tt
  line_whole (Ok u) (Some o) s t old new bytes intact empty wrote same whole =
      subst (Appends old new) (same ∙ text_written s (line_of o) t intact empty wrote) whole
  line_whole (Err e) output s t old new bytes intact empty wrote same whole = tt
