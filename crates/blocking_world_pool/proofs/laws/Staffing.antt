-- What the workers hold is what was seen: so many passes, and a turn for each running job.
use Rattle.std.proofs.Common.{◌≡◌, ℕ, ◌+◌, List, [], ◌∷◌, Bool, length, refl, sym, ap, ◌∙◌, subst}
use Rattle.std.proofs.Common.{arith, Option, Some, zero, suc, ◌&&◌, slice_get, is_some, is_none}
use Rattle.blocking_world_pool.proofs.Types.{Moment, Hand}
use Rattle.blocking_world_pool.proofs.Words.{one_if, is_there, is_free, hand, Crew, sum_of}
use Rattle.blocking_world_pool.proofs.Words.{one_if_free, free_hands, one_if_busy, busy_hands}
use Rattle.blocking_world_pool.proofs.Words.{IsReady, HandAs, Crewed, Holding}
use Rattle.blocking_world_laws.specs.Staffed.{count_to, passes, turns, IsStaffed, AreAsSeen}
use Rattle.blocking_world_pool.proofs.hands.Rows.{hand_from_place}

-- ---- what a test of the workers counts is a sum over their hands

-- a count by its first worker
count_first : (test : ℕ → Bool) (n : ℕ)
    → count_to test (suc n) ≡ one_if (test 1) + count_to (λ v. test (v + 1)) n
count_first test zero = omega arith
count_first test (suc n) =
    let below = count_first test n in
    let same : one_if (test (suc n + 1)) ≡ one_if (test (n + 1 + 1)) =
    ap (λ m. one_if (test m)) (omega arith) in
    omega (arith, below, same)

-- the test tells what each hand adds
abbrev Tells : (Hand → ℕ) → (ℕ → Bool) → List Hand → Type 0
Tells one test row = (n : ℕ) (h : Hand) → slice_get row n ≡ Some h → one_if (test (n + 1)) ≡ one h

count_is : (one : Hand → ℕ) (test : ℕ → Bool) (row : List Hand) → Tells one test row
    → count_to test (length row) ≡ sum_of one row
count_is one test [] tells = refl
count_is one test (h ∷ row) tells =
    let first : one_if (test 1) ≡ one h = tells 0 h refl in
    let shifted : Tells one (λ v. test (v + 1)) row =
    λ n g e. ap (λ m. one_if (test m)) (omega arith) ∙ tells (suc n) g e in
    let rest = count_is one (λ v. test (v + 1)) row shifted in
    let split = count_first test (length row) in
    omega (arith, first, rest, split)

-- a hand by what was seen of its worker
free_tells : (h : Hand) (there : Bool) (job : Option ℕ) → HandAs h there job
    → one_if (there && is_none job) ≡ one_if_free h
free_tells h there job tied = grind arith

busy_tells : (h : Hand) (there : Bool) (job : Option ℕ) → HandAs h there job
    → one_if (is_some job) ≡ one_if_busy h
busy_tells h there job tied = grind arith

module _ (setting : ℕ) (crew : Crew) (past : List Moment) (t : Crewed setting crew past) where
  -- the hand in a place, by what was seen of its worker
  seen_hand : (n : ℕ) (h : Hand) → slice_get crew.hands n ≡ Some h
      → HandAs h (is_there past (n + 1)) (hand past (n + 1))
  seen_hand n h e = subst (λ g. HandAs g (is_there past (n + 1)) (hand past (n + 1)))
      (hand_from_place crew.hands n h e) (t.handed.each (n + 1))

  -- the passes are the free hands
  passes_are : passes past ≡ free_hands crew.hands
  passes_are =
      ap (count_to (is_free past)) (sym t.counted.hands_are)
      ∙ count_is one_if_free (is_free past) crew.hands
      (λ n h e. free_tells h (is_there past (n + 1)) (hand past (n + 1)) (seen_hand n h e))

  -- the turns are the hands that hold jobs
  turns_are : turns past ≡ busy_hands crew.hands
  turns_are =
      ap (count_to (λ v. is_some (hand past v))) (sym t.counted.hands_are)
      ∙ count_is one_if_busy (λ v. is_some (hand past v)) crew.hands
      (λ n h e. busy_tells h (is_there past (n + 1)) (hand past (n + 1)) (seen_hand n h e))

  -- What the workers hold is what was seen, and there is a turn for each running job.
  pub holding : Holding crew past
  holding = record {
    passes_are = sym passes_are;
    turns_are = sym turns_are;
    jobs_are = turns_are ∙ t.counted.busy_are;
  }

  -- So what the hands hold accounts for the workers.
  pub staffed : IsReady crew → IsStaffed (free_hands crew.hands) (busy_hands crew.hands) past
  staffed ready = grind arith

  -- And it is what was seen.
  pub as_seen : AreAsSeen (free_hands crew.hands) (busy_hands crew.hands) past
  as_seen = record { passes_are = sym passes_are; turns_are = sym turns_are }
