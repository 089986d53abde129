-- The first job of a list whose client has room is the first one of its client there.
use Rattle.std.proofs.Common.{◌≡◌, refl, ℕ, ◌+◌, ◌==◌, Bool, true, false, cond, List, [], ◌∷◌, ◌++◌}
use Rattle.std.proofs.Common.{Some, ap, ◌∙◌, arith}
use Rattle.std.specs.Prelude.{filter, not}
use Rattle.std.proofs.lemmas.Bool.{eqb-true}
use Rattle.std.proofs.lemmas.List.{append-nil}
use Rattle.std.proofs.lemmas.List.Elements.{filter-append}
use mathlib.Core.Path.{subst, sym}
use Rattle.blocking_pool.specs.Jobs.{one_if}
use Rattle.blocking_pool.specs.Lists.{is_in, without, first_of}
use Rattle.blocking_pool.proofs.Lists.{turned, without-first, filter_same}
use Rattle.blocking_world_laws.specs.Seen.{joined}
use Rattle.blocking_world_laws.specs.Queue.{times}
use Rattle.blocking_world_laws.proofs.Times.{same_self, times_more, times_kept, not_in}

-- the jobs of one client, by whose each job is
abbrev pub part : (ℕ → ℕ) → ℕ → List ℕ → List ℕ
part client c jobs = filter (λ s. client s == c) jobs

pub part_joined : (client : ℕ → ℕ) (c : ℕ) (xs ys : List ℕ)
    → part client c (joined xs ys) ≡ part client c xs ++ part client c ys
part_joined client c xs [] = sym (append-nil (part client c xs))
part_joined client c xs (y ∷ ys) = filter-append (λ s. client s == c) xs (y ∷ ys)

-- a client's part is the same wherever each job's client is the same
pub part_same : (client other : ℕ → ℕ) (c : ℕ) (jobs : List ℕ)
    → ((s : ℕ) → is_in s jobs ≡ true → client s ≡ other s) → part client c jobs ≡ part other c jobs
part_same client other c jobs same = filter_same (λ s. client s == c) (λ s. other s == c) jobs
    (λ s found. ap (λ (d : ℕ). d == c) (same s found))

-- a job stands in its own client's part as often as in the list
pub times_part : (client : ℕ → ℕ) (s : ℕ) (jobs : List ℕ)
    → times s (part client (client s) jobs) ≡ times s jobs
times_part client s jobs =
    times_kept (λ t. client t == client s) s jobs
    ∙ ap (λ (b : Bool). cond b (times s jobs) 0) (same_self (client s))

-- what a test keeps passes it, so the first of it does
pub first_passes : (test : ℕ → Bool) (t : ℕ) (line : List ℕ) → first_of (filter test line) ≡ Some t
    → test t ≡ true
first_passes test t [] e = absurd cc
first_passes test t (q ∷ line) e = by (test q) refl e (λ f. first_passes test t line f)
  where
    by : (b : Bool) → test q ≡ b → first_of (cond b (q ∷ filter test line) (filter test line))
        ≡ Some t → (first_of (filter test line) ≡ Some t → test t ≡ true) → test t ≡ true
    by true is f later = let same : q ≡ t = cc in ap test (sym same) ∙ is
    by false is f later = later f

-- A job that stands in the list once, and is the first there.
pub without_head : (t : ℕ) (line : List ℕ) → first_of line ≡ Some t → times t line ≡ 1
    → line ≡ t ∷ without t line
without_head t [] e once = absurd cc
without_head t (q ∷ line) e once =
    let same : q ≡ t = cc in
    subst (λ (u : ℕ). u ∷ line ≡ t ∷ without t (u ∷ line)) (sym same)
    (ap (λ (ns : List ℕ). t ∷ ns) (sym (without-first t line (not_in t line (none_more same)))))
  where
    none_more : q ≡ t → times t line ≡ 0
    none_more same =
        let count = times_more t q line in
        let one : one_if (q == t) ≡ 1 = ap one_if (ap (λ (m : ℕ). m == t) same ∙ same_self t) in
        omega (arith, count, one, once)

-- a job of another client than the taken one's stays where it is
beside : (a b : Bool) (q t : ℕ) (before after : List ℕ) → (a ≡ true → b ≡ false)
    → before ≡ cond b (t ∷ []) [] ++ after
    → cond a (q ∷ before) before ≡ cond b (t ∷ []) [] ++ cond a (q ∷ after) after
beside true true q t before after apart e = let bad : true ≡ false = apart refl in absurd cc
beside true false q t before after apart e = ap (λ (ns : List ℕ). q ∷ ns) e
beside false b q t before after apart e = e

module _ (room : ℕ → Bool) (client : ℕ → ℕ) (c t : ℕ) where
  abbrev pub Leaves : List ℕ → Type 0
  Leaves line = part client c line ≡ part client c (t ∷ []) ++ part client c (without t line)

  at_front : (line : List ℕ) → first_of line ≡ Some t → times t line ≡ 1 → Leaves line
  at_front line e once = ap (part client c) (without_head t line e once)
      ∙ filter-append (λ s. client s == c) (t ∷ []) (without t line)

  -- clients that aren't alike in having room aren't the same
  apart : (q : ℕ) → room (client q) ≡ false → room (client t) ≡ true → (client q == c) ≡ true
      → (client t == c) ≡ false
  apart q shut free same = by (client t == c) refl
    where
      by : (b : Bool) → (client t == c) ≡ b → b ≡ false
      by false e = refl
      by true e =
          let one : client q ≡ client t =
          eqb-true (client q) c same ∙ sym (eqb-true (client t) c e) in
          let bad : false ≡ true = sym shut ∙ ap room one ∙ free in
          absurd cc

  -- another job stands before it
  stays : (q : ℕ) (line : List ℕ) → room (client q) ≡ false → room (client t) ≡ true
      → (q == t) ≡ false → Leaves line → Leaves (q ∷ line)
  stays q line shut free differs leaves =
      let other : without t (q ∷ line) ≡ q ∷ without t line = ap (λ (b : Bool).
      cond (not b) (q ∷ without t line) (without t line)) (turned t q ∙ differs) in
      beside (client q == c) (client t == c) q t (part client c line)
      (part client c (without t line)) (apart q shut free) leaves
      ∙ ap (λ (ns : List ℕ). part client c (t ∷ []) ++ part client c ns) (sym other)

  -- The first job whose client has room leaves each client's part at its front, or isn't in it.
  pub first_leaves : (line : List ℕ) → first_of (filter (λ s. room (client s)) line) ≡ Some t
      → times t line ≡ 1 → Leaves line
  first_leaves [] e once = absurd cc
  first_leaves (q ∷ line) e once =
      by (room (client q)) refl e (λ f count. first_leaves line f count)
    where
      differs : room (client q) ≡ false → room (client t) ≡ true → (b : Bool) → (q == t) ≡ b
          → b ≡ false
      differs shut free false same = refl
      differs shut free true same =
          let bad : false ≡ true =
          sym shut ∙ ap (λ (s : ℕ). room (client s)) (eqb-true q t same) ∙ free in
          absurd cc

      later : room (client q) ≡ false → first_of (filter (λ s. room (client s)) line) ≡ Some t
          → (times t line ≡ 1 → Leaves line) → Leaves (q ∷ line)
      later shut f leaves =
          let free : room (client t) ≡ true = first_passes (λ s. room (client s)) t line f in
          let other : (q == t) ≡ false = differs shut free (q == t) refl in
          let count : times t (q ∷ line) ≡ one_if false + times t line =
          times_more t q line ∙ ap (λ (b : Bool). one_if b + times t line) other in
          let one : times t line ≡ 1 = omega (arith, count, once) in
          stays q line shut free other (leaves one)

      by : (b : Bool) → room (client q) ≡ b → first_of (cond b
          (q ∷ filter (λ s. room (client s)) line) (filter (λ s. room (client s)) line)) ≡ Some t
          → (first_of (filter (λ s. room (client s)) line) ≡ Some t → times t line ≡ 1
          → Leaves line) → Leaves (q ∷ line)
      by true is f leaves = at_front (q ∷ line) f once
      by false is f leaves = later is f (leaves f)

-- where each client has room each job is kept
pub all_kept : (test : ℕ → Bool) (line : List ℕ) → ((s : ℕ) → test s ≡ true)
    → filter test line ≡ line
all_kept test [] all = refl
all_kept test (q ∷ line) all =
    ap (λ (b : Bool). cond b (q ∷ filter test line) (filter test line)) (all q)
    ∙ ap (λ (ns : List ℕ). q ∷ ns) (all_kept test line all)
