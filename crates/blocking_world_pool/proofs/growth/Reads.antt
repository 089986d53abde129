-- What a pool has grown, read off its counts before and after.
use Rattle.std.proofs.Common.{◌≡◌, ℕ, ◌+◌, ◌-◌, ◌≤◌, Bool, false, arith, inl, inr}
use Rattle.std.proofs.lemmas.Bool.{cases_lt}
use Rattle.blocking_world_pool.proofs.Words.{Counts, limit_of, greatest, is_due, Asking}
use Rattle.blocking_world_pool.proofs.Words.{StartAnswer, Growth, IsGrowth, after_growth, Grows}
use Rattle.blocking_world_pool.proofs.Words.{GrowsBy}

-- the start of the greatest number is refused
never_greatest : (may_answer : ℕ → Bool → Type 0) (n : ℕ) → n ≡ greatest
    → StartAnswer may_answer n false → ⊥
never_greatest may_answer n last made = grind arith

-- so the starts of a growth have numbers
pub numbers_last : (may_answer : ℕ → Bool → Type 0) (ready idle workers limit first : ℕ)
    (growth : Growth)
    → IsGrowth (StartAnswer may_answer) ready idle workers limit first growth → first ≤ greatest
    → first + growth.started ≤ greatest
numbers_last may_answer ready idle workers limit first growth starts within =
    elim (cases_lt greatest (first + growth.started)) [
      | inl over ↦ absurd (never_greatest may_answer (first + (greatest - first)) (omega arith)
          (starts.each (greatest - first) (omega arith)).1)
      | inr under ↦ under
    ]

-- what the code read of a growth, by what it knew before
abbrev pub IsRead : ℕ → ℕ → ℕ → Counts → Growth → Type 0
IsRead ready workers limit new seen = (seen.started ≡ new.workers - workers)
    × (seen.refused ≡ is_due ready new.idle new.workers limit 0)

-- The counts are those after what was read.
pub record Reads (may_answer : ℕ → Bool → Type 0) (ready : ℕ) (old new : Counts) (seen : Growth) :
    Type 0 where
  pub starts : GrowsBy may_answer ready old seen
  pub counts : new ≡ after_growth old seen

-- since what was read is the growth
pub reads : (asking : Asking) (ready : ℕ) (old new : Counts) (growth seen : Growth)
    → Grows asking ready old new growth → IsRead ready old.workers (limit_of old) new seen
    → Reads asking.may_answer ready old new seen
reads asking ready old new growth seen grows read = grind arith
