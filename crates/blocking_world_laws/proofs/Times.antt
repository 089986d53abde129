-- How often a number stands in a list.
use Rattle.std.proofs.Common.{◌≡◌, refl, ℕ, ◌+◌, ◌<◌, ◌==◌, ◌||◌, if◌then◌else◌, Bool, true, false}
use Rattle.std.proofs.Common.{cond, List, [], ◌∷◌, ◌++◌, length, Some, ap, ◌∙◌, arith, add-zero}
use Rattle.std.proofs.Common.{length-append}
use Rattle.std.specs.Prelude.{filter, not}
use Rattle.std.proofs.lemmas.Bool.{eqb-true, or_from}
use Rattle.std.proofs.lemmas.Bool.Decides.{nat_tests}
use Rattle.std.proofs.lemmas.List.Elements.{filter-append}
use mathlib.Core.Path.{sym}
use Rattle.blocking_pool.specs.Jobs.{one_if}
use Rattle.blocking_pool.specs.Lists.{is_in, without, first_of}
use Rattle.blocking_pool.proofs.Lists.{turned}
use Rattle.blocking_world_laws.specs.Seen.{without_all, joined}
use Rattle.blocking_world_laws.specs.Queue.{times}

pub same_self : (n : ℕ) → (n == n) ≡ true
same_self n = grind (arith, nat_tests)

pub times_both : (s : ℕ) (xs ys : List ℕ) → times s (xs ++ ys) ≡ times s xs + times s ys
times_both s xs ys = ap length (filter-append (λ m. m == s) xs ys)
    ∙ length-append (filter (λ m. m == s) xs) (filter (λ m. m == s) ys)

more_if : (b : Bool) (n : ℕ) (ns : List ℕ) → length (cond b (n ∷ ns) ns) ≡ one_if b + length ns
more_if true n ns = omega arith
more_if false n ns = omega arith

pub times_more : (s n : ℕ) (ns : List ℕ) → times s (n ∷ ns) ≡ one_if (n == s) + times s ns
times_more s n ns = more_if (n == s) n (filter (λ m. m == s) ns)

pub times_one : (s n : ℕ) → times s (n ∷ []) ≡ one_if (n == s)
times_one s n = times_more s n [] ∙ add-zero (one_if (n == s))

pub times_joined : (s : ℕ) (xs ys : List ℕ) → times s (joined xs ys) ≡ times s xs + times s ys
times_joined s xs [] = sym (add-zero (times s xs))
times_joined s xs (y ∷ ys) = times_both s xs (y ∷ ys)

kept_if : (c : Bool) (s n : ℕ) (ns : List ℕ)
    → times s (cond c (n ∷ ns) ns) ≡ (if c then one_if (n == s) + times s ns else times s ns)
kept_if true s n ns = times_more s n ns
kept_if false s n ns = refl

kept_count : (b c d : Bool) (n m : ℕ) → (d ≡ true → c ≡ b) → n ≡ (if b then m else 0)
    → (if c then one_if d + n else n) ≡ (if b then one_if d + m else 0)
kept_count true true d n m same e = ap (λ k. one_if d + k) e
kept_count true false true n m same e = let bad : false ≡ true = same refl in absurd cc
kept_count true false false n m same e = omega (arith, e)
kept_count false true true n m same e = let bad : true ≡ false = same refl in absurd cc
kept_count false true false n m same e = omega (arith, e)
kept_count false false d n m same e = e

none_either : (b : Bool) (n : ℕ) → n ≡ 0 → n ≡ (if b then n else 0)
none_either true n e = refl
none_either false n e = e

-- what a test keeps stands there as often as before
pub times_kept : (keep : ℕ → Bool) (s : ℕ) (ns : List ℕ)
    → times s (filter keep ns) ≡ (if keep s then times s ns else 0)
times_kept keep s [] = none_either (keep s) (times s []) refl
times_kept keep s (n ∷ ns) =
    kept_if (keep n) s n (filter keep ns)
    ∙ kept_count (keep s) (keep n) (n == s) (times s (filter keep ns)) (times s ns)
    (λ e. ap keep (eqb-true n s e)) (times_kept keep s ns)
    ∙ ap (λ (k : ℕ). if keep s then k else 0) (sym (times_more s n ns))

left_by : (b c : Bool) (n : ℕ)
    → (if c then 0 else (if not b then n else 0)) ≡ (if b || c then 0 else n)
left_by true true n = refl
left_by true false n = refl
left_by false true n = refl
left_by false false n = refl

pub times_left : (s : ℕ) (gone ns : List ℕ)
    → times s (without_all gone ns) ≡ (if is_in s gone then 0 else times s ns)
times_left s [] ns = refl
times_left s (g ∷ gone) ns =
    times_left s gone (without g ns)
    ∙ ap (λ (k : ℕ). if is_in s gone then 0 else k) (times_kept (λ n. not (g == n)) s ns
    ∙ ap (λ (b : Bool). if not b then times s ns else 0) (turned g s))
    ∙ left_by (s == g) (is_in s gone) (times s ns)

pub times_after : (s : ℕ) (gone new ns : List ℕ) → times s (joined (without_all gone ns) new)
    ≡ (if is_in s gone then 0 else times s ns) + times s new
times_after s gone new ns = times_joined s (without_all gone ns) new
    ∙ ap (λ (k : ℕ). k + times s new) (times_left s gone ns)

differs : (b : Bool) (n t m : ℕ) → (n == t) ≡ b → one_if b + m ≡ 0 → (t == n) ≡ false
differs true n t m e none = absurd (omega (arith, none))
differs false n t m e none = grind (arith, nat_tests)

rest_none : (b : Bool) (m : ℕ) → one_if b + m ≡ 0 → m ≡ 0
rest_none true m e = omega (arith, e)
rest_none false m e = omega (arith, e)

-- a number that stands nowhere in a list isn't in it
pub not_in : (t : ℕ) (ns : List ℕ) → times t ns ≡ 0 → is_in t ns ≡ false
not_in t [] none = refl
not_in t (n ∷ ns) none =
    let count : one_if (n == t) + times t ns ≡ 0 = sym (times_more t n ns) ∙ none in
    or_from (t == n) (is_in t ns) (differs (n == t) n t (times t ns) refl count)
    (not_in t ns (rest_none (n == t) (times t ns) count))

-- what is in a list stands there
pub counts_in : (t : ℕ) (ns : List ℕ) → is_in t ns ≡ true → times t ns ≡ 0 → ⊥
counts_in t ns found none = let bad : true ≡ false = sym found ∙ not_in t ns none in cc

-- the first of a list stands there
pub first_counts : (t : ℕ) (ns : List ℕ) → first_of ns ≡ Some t → 0 < times t ns
first_counts t [] e = absurd cc
first_counts t (n ∷ ns) e =
    let same : n ≡ t = cc in
    let count = times_more t n ns in
    let self : (n == t) ≡ true = ap (λ (m : ℕ). m == t) same ∙ same_self t in
    let one : one_if (n == t) ≡ 1 = ap one_if self in
    omega (arith, count, one)

-- without a number a list is shorter by as often as it stood there
pub length_left : (t : ℕ) (ns : List ℕ) → length ns ≡ times t ns + length (without t ns)
length_left t [] = refl
length_left t (n ∷ ns) = by (n == t) (turned t n) (times_more t n ns) (length_left t ns)
  where
    by : (b : Bool) → (t == n) ≡ b → times t (n ∷ ns) ≡ one_if b + times t ns
        → length ns ≡ times t ns + length (without t ns)
        → length (n ∷ ns) ≡ times t (n ∷ ns) + length (without t (n ∷ ns))
    by true same count rest = rw same (omega (arith, count, rest))
    by false same count rest = rw same (omega (arith, count, rest))

pub length_joined : (xs ys : List ℕ) → length (joined xs ys) ≡ length xs + length ys
length_joined xs [] = sym (add-zero (length xs))
length_joined xs (y ∷ ys) = length-append xs (y ∷ ys)
