-- What was taken of each client, and what entered.
use Rattle.std.proofs.Common.{◌≡◌, refl, ℕ, ◌==◌, Bool, true, false, cond, [], ◌∷◌, ◌++◌, arith}
use Rattle.std.specs.Prelude.{filter}
use Rattle.std.proofs.lemmas.Bool.Decides.{nat_tests}
use Rattle.std.proofs.lemmas.List.Elements.{filter-append}
use Rattle.blocking_world_law_tests.proofs.answers.order.Goals as goal

pub returns-clause-accepts_front : goal.returns-clause-accepts_front
returns-clause-accepts_front c = λ client.
    (filter (λ s. 0 == client) (2 ∷ []), filter-append (λ s. 0 == client) (1 ∷ []) (2 ∷ []))

pub returns-clause-accepts_front_before_woken : goal.returns-clause-accepts_front_before_woken
returns-clause-accepts_front_before_woken c = λ client.
    (filter (λ s. 0 == client) (1 ∷ []), filter-append (λ s. 0 == client) (1 ∷ 2 ∷ []) (1 ∷ []))

pub returns-clause-refuses_woken_job_first : goal.returns-clause-refuses_woken_job_first
returns-clause-refuses_woken_job_first c =
    λ order. (let first : 1 ∷ 2 ∷ 1 ∷ [] ≡ 1 ∷ 1 ∷ (order 0).0 = (order 0).1 in cc)

-- a number isn't both
not_both : (client : ℕ) → (7 == client) ≡ true → (8 == client) ≡ false
not_both client e = grind (arith, nat_tests)

-- jobs 1 and 2 are of one client, and job 3 of another
by_client : (a b : Bool) → (a ≡ true → b ≡ false) → (one two three : ℕ)
    → cond a (one ∷ cond a (two ∷ cond b (three ∷ []) []) (cond b (three ∷ []) []))
    (cond a (two ∷ cond b (three ∷ []) []) (cond b (three ∷ []) []))
    ≡ cond a (one ∷ cond b (three ∷ []) []) (cond b (three ∷ []) []) ++ cond a (two ∷ []) []
by_client true true apart one two three = let bad : true ≡ false = apart refl in absurd cc
by_client true false apart one two three = refl
by_client false true apart one two three = refl
by_client false false apart one two three = refl

pub returns-clause-accepts_other_client : goal.returns-clause-accepts_other_client
returns-clause-accepts_other_client c = λ client.
    (cond (7 == client) (2 ∷ []) [], by_client (7 == client) (8 == client) (not_both client) 1 2 3)

pub returns-clause-refuses_passing_over : goal.returns-clause-refuses_passing_over
returns-clause-refuses_passing_over c =
    λ order. (let first : 1 ∷ 2 ∷ [] ≡ 2 ∷ (order 7).0 = (order 7).1 in cc)
