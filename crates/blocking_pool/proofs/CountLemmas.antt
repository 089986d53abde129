-- How many serials below one pass a test.
use Rattle.std.proofs.Common.{◌≡◌, ◌≢◌, ℕ, zero, suc, ◌+◌, ◌<◌, ◌≤◌, Bool, true, false, not, eqb}
use Rattle.std.proofs.Common.{◌&&◌, refl, ap, ◌∙◌, inl, inr, arith}
use Rattle.std.proofs.lemmas.Bool.{cases_eq, eq-eqb, ne_eqb}
use Rattle.std.proofs.Math.Bool.{and-true, and-false}
use Rattle.blocking_pool.specs.Jobs.{one_if, count_below}

-- tests that agree below a serial count the same
pub count_same : (p q : ℕ → Bool) (next : ℕ) → ((s : ℕ) → s < next → p s ≡ q s)
    → count_below p next ≡ count_below q next
count_same p q zero same = refl
count_same p q (suc next) same =
    let rest = count_same p q next (λ s below. same s (omega (arith, below))) in
    let here = ap one_if (same next (omega arith)) in
    omega (arith, rest, here)

-- tests that differ at one serial
pub count_changed : (p q : ℕ → Bool) (serial next : ℕ)
    → ((other : ℕ) → other ≢ serial → q other ≡ p other) → serial < next
    → count_below q next + one_if (p serial) ≡ count_below p next + one_if (q serial)
count_changed p q serial zero same below = absurd (omega (arith, below))
count_changed p q serial (suc next) same below =
    elim (cases_eq next serial) [
      | inl here ↦
          let rest =
          count_same q p next (λ s less. same s (λ e. absurd (omega (arith, e, here, less)))) in
          let was = ap (λ s. one_if (p s)) here in
          let is = ap (λ s. one_if (q s)) here in
          omega (arith, rest, was, is)
      | inr far ↦
          let rest = count_changed p q serial next same (omega (arith, below, far)) in
          let here = ap one_if (same next far) in
          omega (arith, rest, here)
    ]

-- what passes is counted
pub count_some : (p : ℕ → Bool) (serial next : ℕ) → serial < next → p serial ≡ true
    → 0 < count_below p next
count_some p serial zero below passes = absurd (omega (arith, below))
count_some p serial (suc next) below passes =
    elim (cases_eq next serial) [
      | inl here ↦
          let one : one_if (p next) ≡ 1 = ap (λ s. one_if (p s)) here ∙ ap one_if passes in
          omega (arith, one)
      | inr far ↦ omega (arith, count_some p serial next (omega (arith, below, far)) passes)
    ]

pub count_none : (p : ℕ → Bool) (next : ℕ) → ((s : ℕ) → p s ≡ false) → count_below p next ≡ 0
count_none p zero none = refl
count_none p (suc next) none =
    let rest = count_none p next none in
    let here = ap one_if (none next) in
    omega (arith, rest, here)

at_most_one : (b : Bool) → one_if b ≤ 1
at_most_one true = omega arith
at_most_one false = omega arith

-- no more are counted than there are
pub count_within : (p : ℕ → Bool) (next : ℕ) → count_below p next ≤ next
count_within p zero = omega arith
count_within p (suc next) = omega (arith, count_within p next, at_most_one (p next))

-- where each that passes one test passes another
pub count_less : (p q : ℕ → Bool) (next : ℕ) → ((s : ℕ) → p s ≡ true → q s ≡ true)
    → count_below p next ≤ count_below q next
count_less p q zero each = omega arith
count_less p q (suc next) each =
    omega (arith, count_less p q next each, here (p next) (q next) (each next))
  where
    here : (a b : Bool) → (a ≡ true → b ≡ true) → one_if a ≤ one_if b
    here true b passes = let one = ap one_if (passes refl) in omega (arith, one)
    here false b passes = omega arith

-- where one is counted, no other passes
pub count_one : (p : ℕ → Bool) (serial other next : ℕ) → count_below p next ≡ 1 → p serial ≡ true
    → serial < next → other < next → other ≢ serial → p other ≡ false
count_one p serial other next one passes below under differs = by_test (p other) refl
  where
    q : ℕ → Bool
    q s = p s && not (eqb s serial)

    here : q serial ≡ false
    here = ap (λ b. p serial && not b) (eq-eqb serial serial refl) ∙ and-false (p serial)

    others : (s : ℕ) → s ≢ serial → q s ≡ p s
    others s far = ap (λ b. p s && not b) (ne_eqb s serial far) ∙ and-true (p s)

    none : count_below q next ≡ 0
    none =
        let moved = count_changed p q serial next others below in
        let was = ap one_if passes in
        let is = ap one_if here in
        omega (arith, moved, was, is, one)

    by_test : (b : Bool) → p other ≡ b → p other ≡ false
    by_test false is = is
    by_test true is =
        absurd (omega (arith, none, count_some q other next under (others other differs ∙ is)))
