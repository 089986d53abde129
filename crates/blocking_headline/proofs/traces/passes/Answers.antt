use Rattle.std.proofs.Common.{◌≡◌, refl, ℕ, ◌<◌, List, [], ◌∷◌, ap, arith, false, true, None, Some}
use Rattle.blocking_world_laws.specs.declared.step.HandleAnswer.TheVariants.{Failed}
use Rattle.blocking_headline.specs.Words.{Fine, HandleAnswer}
use Rattle.blocking_headline.proofs.traces.passes.Goals as goal

abbrev head_of : List ℕ → ℕ
head_of [] = 0
head_of (n ∷ ns) = n

other_head : (n m : ℕ) (ns ms : List ℕ) → n < m → n ∷ ns ≡ m ∷ ms → ⊥
other_head n m ns ms less e = let same : n ≡ m = ap head_of e in omega (arith, less, same)

some_left : (n : ℕ) (ns : List ℕ) → [] ≡ n ∷ ns → ⊥
some_left n ns e = cc

not_all : (n : ℕ) (ns : List ℕ) {Rest : Type 0} → ([] ≡ n ∷ ns) × Rest → ⊥
not_all n ns both = some_left n ns both.0

lie : false ≡ true → ⊥
lie e = cc

no_end : {All : Type 0} → All × (false ≡ true) → ⊥
no_end both = lie both.1

still_lent : {A Rest : Type 0} (x : A) → (Some x ≡ None) × Rest → ⊥
still_lent x both = let bad = both.0 in cc

second : {A B : Type 0} → A × B → B
second both = both.1

pub returns-clause-refuses_swapped : goal.returns-clause-refuses_swapped
returns-clause-refuses_swapped c = λ at. other_head 97 98 _ _ (omega arith) (at.reads 0).1

pub returns-clause-refuses_swapped_writing : goal.returns-clause-refuses_swapped_writing
returns-clause-refuses_swapped_writing c = λ at. other_head 120 121 _ _ (omega arith) (at.writes 0).1

pub returns-clause-refuses_early_end : goal.returns-clause-refuses_early_end
returns-clause-refuses_early_end c = λ at. not_all 97 _ (at.all 0 refl)

pub returns-clause-accepts_flush : goal.returns-clause-accepts_flush
returns-clause-accepts_flush c = (refl, λ back some. (refl, _, refl))

pub returns-clause-refuses_early_flush : goal.returns-clause-refuses_early_flush
returns-clause-refuses_early_flush c = λ at. still_lent _ (at.all 0 refl)

two_more : (a b c d : ℕ) → a ∷ b ∷ [] ≡ a ∷ b ∷ c ∷ d ∷ [] → ⊥
two_more a b c d e = cc

pub returns-clause-refuses_end_before_the_rest : goal.returns-clause-refuses_end_before_the_rest
returns-clause-refuses_end_before_the_rest c = λ at. two_more 97 98 99 100 (at.all 0 refl).0

pub returns-clause-refuses_end_untold : goal.returns-clause-refuses_end_untold
returns-clause-refuses_end_untold c = λ at. no_end (at.all 0 refl)

pub returns-clause-refuses_early_end_of_items : goal.returns-clause-refuses_early_end_of_items
returns-clause-refuses_early_end_of_items c = λ at. no_end (at.all 0 refl)

not_empty : (n : ℕ) (ns : List ℕ) → n ∷ ns ≡ [] → ⊥
not_empty n ns e = cc

one_more : (a b : ℕ) → a ∷ [] ≡ a ∷ b ∷ [] → ⊥
one_more a b e = cc

pub returns-clause-refuses_flush_of_part : goal.returns-clause-refuses_flush_of_part
returns-clause-refuses_flush_of_part c = λ at. one_more 120 121
    (second (at.all 0 refl) refl (λ none. not_empty 120 (121 ∷ []) none)).0

not_fine : (n : ℕ) (others older : List HandleAnswer) → Failed n ∷ others ≡ Fine ∷ older → ⊥
not_fine n others older e = cc

pub returns-clause-refuses_failed_flush : goal.returns-clause-refuses_failed_flush
returns-clause-refuses_failed_flush c = λ at. not_fine 9 _ _
    (second (at.all 0 refl) refl (λ none. not_empty 120 (121 ∷ 122 ∷ []) none)).2

pub returns-clause-accepts_later_flush : goal.returns-clause-accepts_later_flush
returns-clause-accepts_later_flush c = (refl, λ back some. absurd (lie back))

pub returns-clause-accepts_flush_of_nothing : goal.returns-clause-accepts_flush_of_nothing
returns-clause-accepts_flush_of_nothing c = (refl, λ back some. absurd (some refl))
