-- Lists of numbers: how often a number stands in one, and what is left without it.
use Rattle.std.proofs.Common.{◌≡◌, ℕ, ◌+◌, ◌==◌, ◌||◌, cond, Bool, List, [], ◌∷◌, length, ap, ◌∙◌}
use Rattle.std.proofs.Common.{arith, zero, suc, filter, not, nat_lt}
use Rattle.std.proofs.lemmas.List.Filters.{length-filter_both}
use Rattle.std.proofs.lemmas.Bool.Decides.{nat_tests}
use Rattle.blocking_world_pool.proofs.Words.{one_if, is_in, without, serials_below, times}
use Rattle.blocking_pool.proofs.Lists.{turned}
use Rattle.blocking_world_laws.proofs.Queues.{times_both, times_one}

-- ---- one number

in_by : (c b : Bool) (m s : ℕ) (ns : List ℕ) → (times s ns ≡ one_if b → is_in s ns ≡ b)
    → length (cond c (m ∷ filter (λ n. n == s) ns) (filter (λ n. n == s) ns)) ≡ one_if b
    → (c || is_in s ns) ≡ b
in_by c b m s ns rest e = grind (arith, rest, e)

-- a number that stands there once or never is in the list or not
pub in_times : (s : ℕ) (ns : List ℕ) (b : Bool) → times s ns ≡ one_if b → is_in s ns ≡ b
in_times s [] b e = grind (arith, e)
in_times s (m ∷ ns) b e =
    ap (λ c. c || is_in s ns) (turned s m) ∙ in_by (m == s) b m s ns (in_times s ns b) e

-- what is left without a number, and how often it stood there
pub without_times : (t : ℕ) (ns : List ℕ) → length (without t ns) + times t ns ≡ length ns
without_times t ns = length-filter_both (λ n. not (t == n)) (λ n. n == t)
    (λ n. turned n t ∙ (let twice : (t == n) ≡ not (not (t == n)) = grind arith in twice)) ns

-- the first of a list, and the rest
pub times_first : (s m : ℕ) (ns : List ℕ) (k : ℕ) → times s (m ∷ ns) ≡ k
    → times s ns + one_if (m == s) ≡ k
times_first s m ns k e = grind arith

-- ---- serials

-- each number below stands there once
pub times_below : (n s : ℕ) → times s (serials_below n) ≡ one_if (nat_lt s n)
times_below zero s = grind (arith, nat_tests)
times_below (suc n) s =
    times_both s (serials_below n) (n ∷ []) ∙ ap (λ k. k + times s (n ∷ [])) (times_below n s)
    ∙ ap (λ k. one_if (nat_lt s n) + k) (times_one s n) ∙ grind (arith, nat_tests)
