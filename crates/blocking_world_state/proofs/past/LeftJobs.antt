-- When a job is left to its owner: it was so before, or has just found that it has to wait; and a
-- wake takes it back.
use Rattle.std.proofs.Common.{◌≡◌, ◌⊎◌, inl, inr, ℕ, ◌==◌, List, ◌∷◌, Bool, true, false, refl}
use Rattle.std.proofs.Common.{Option, Some, if◌then◌else◌, ◌&&◌, ◌||◌, not, is_some, arith}
use Rattle.blocking_world_state.proofs.Types.{Entered, MarkedBy, Standing, Queued, Running, Act}
use Rattle.blocking_world_state.proofs.Types.{Accepted, Ended, GaveUp, HandedOut, JobCancelled}
use Rattle.blocking_world_state.proofs.Types.{JobParked, JobWoken, Stays, Stopped, Swept, Took}
use Rattle.blocking_world_state.proofs.Types.{TookDropped, Moment, Party}
use Rattle.blocking_world_state.proofs.Words.{PoolAnswers, has_given_up, woken_by, is_woken}
use Rattle.blocking_world_state.proofs.Words.{is_marked, sweeps, stands_by, is_running, is_parked}
use Rattle.blocking_world_state.proofs.Words.{standing, PoolLaw, EachMayFollow, is_of_job, Turn}
use Rattle.blocking_world_state.proofs.Words.{GoesOn, MustGiveUp, HasGivenUp, turn_by, turn}
use Rattle.blocking_world_state.proofs.Words.{hand_of, HoldsOne, PlaceAs, is_waiting_in, is_left}
use Rattle.blocking_world_laws.proofs.Queues.{held_so}

-- ---- how it stands

-- whether a job is left to its owner that stands so, where it is in its turn, and by whether a wake
-- has met it
abbrev pub left_in : Option Standing → Turn → Bool → Bool
left_in stand at woken = is_parked stand || (is_running stand && is_waiting_in at && not woken)

-- it stands somewhere
pub left_stands : (stand : Option Standing) (at : Turn) (woken : Bool)
    → left_in stand at woken ≡ true → is_some stand ≡ true
left_stands stand at woken left = grind arith

-- and is at its first action, and hasn't given up
pub left_place : (stand : Option Standing) (at : Turn) (woken first : Bool) (acts : List Act)
    → left_in stand at woken ≡ true → PlaceAs stand at first acts
    → (first ≡ true) × (has_given_up acts ≡ false)
left_place stand at woken first acts left place = grind arith

-- ---- what each act does to that

module _ (stand : Option Standing) (at : Turn) (woken : Bool) where
  -- a job that is queued isn't left
  queued_left : (b : Bool) → left_in (if b then Some Queued else stand) at woken ≡ true
      → left_in stand at woken ≡ true
  queued_left b left = grind arith

  -- nor is one that is taken
  taken_left : (b : Bool) (new : Turn) → is_waiting_in new ≡ false
      → left_in (if b then Some Running else stand) (if b then new else at) (not b && woken) ≡ true
      → left_in stand at woken ≡ true
  taken_left b new goes left = grind arith

  -- one whose turn goes on from a wait was left, where it still is
  turned_left : (b : Bool) (new : Turn) → is_waiting_in new ≡ false
      → left_in stand (if b then new else at) woken ≡ true → left_in stand at woken ≡ true
  turned_left b new goes left = grind arith

  -- one that a wake met was left, where it still is
  marked_left : (b : Bool) → left_in stand at (b || woken) ≡ true → left_in stand at woken ≡ true
  marked_left b left = grind arith

-- ---- one more moment

-- the job in a party's hand runs
hand_runs : (setting : ℕ) (plan : List Bool) (past : List Moment)
    → EachMayFollow (PoolLaw setting plan) past → (who : Party) (s : ℕ) → hand_of past who ≡ Some s
    → standing past s ≡ Some Running
hand_runs setting plan past laws who s is = grind (arith, held_so)

module _ (setting : ℕ) (plan : List Bool) (past : List Moment) (now : Moment)
    (laws : EachMayFollow (PoolLaw setting plan) (now ∷ past)) (s : ℕ) where
  -- whether it is left after this act, which may be its own
  abbrev left_after : Act → Bool → Bool
  left_after act own =
      left_in (if sweeps act && is_parked (standing past s) && is_marked past s then Some Queued
      else stands_by act s (standing past s)) (turn_by act own s (turn past s))
      (woken_by act s (is_woken past s))

  -- it was left before, or found just now that it has to wait
  pub left_before : is_left (now ∷ past) s ≡ true
      → (is_left past s ≡ true) ⊎ ((now.event.act ≡ JobParked) × (is_of_job s now.event ≡ true))
  left_before left = by now.event.act (is_of_job s now.event) laws.0.turns.one laws.0.answers left
    where
      ended : (t : ℕ) (how : Standing) (b : Bool) → (t == s) ≡ b
          → hand_of past now.event.party ≡ Some t → PoolAnswers setting past now (Ended t how)
          → left_in (if b then Some how else standing past s) (turn past s) (is_woken past s) ≡ true
          → is_left past s ≡ true
      ended t how b same hand answers left = grind (arith, hand_runs)

      by : (act : Act) (own : Bool) → HoldsOne past now.event act → PoolAnswers setting past now act
          → left_after act own ≡ true → (is_left past s ≡ true) ⊎ ((act ≡ JobParked) × (own ≡ true))
      by (Accepted t) own one answers left =
          inl (queued_left (standing past s) (turn past s) (is_woken past s) (t == s) left)
      by (JobWoken t Entered) own one answers left =
          inl (queued_left (standing past s) (turn past s) (is_woken past s) (t == s) left)
      by (JobWoken t MarkedBy) own one answers left =
          inl (marked_left (standing past s) (turn past s) (is_woken past s) (t == s) left)
      by (JobCancelled t Entered) own one answers left =
          inl (queued_left (standing past s) (turn past s) (is_woken past s) (t == s) left)
      by (Took t) own one answers left = inl
          (taken_left (standing past s) (turn past s) (is_woken past s) (t == s) GoesOn refl left)
      by (TookDropped t) own one answers left = inl (taken_left (standing past s) (turn past s)
          (is_woken past s) (t == s) MustGiveUp refl left)
      by (Ended t how) own one answers left = inl (ended t how (t == s) refl one answers left)
      by (HandedOut t) own one answers left = inl (turned_left (standing past s) (turn past s)
          (is_woken past s) (t == s) MustGiveUp refl left)
      by (GaveUp waker) own one answers left = inl
          (turned_left (standing past s) (turn past s) (is_woken past s) own HasGivenUp refl left)
      by JobParked true one answers left = inr (refl, refl)
      by (Swept n) own one answers left = inl (queued_left (standing past s) (turn past s)
          (is_woken past s) (true && is_parked (standing past s) && is_marked past s) left)
      by (Stays v end) own one answers left =
          inl (queued_left (standing past s) (turn past s) (is_woken past s)
          (sweeps (Stays v end) && is_parked (standing past s) && is_marked past s) left)
      by (Stopped v end) own one answers left =
          inl (queued_left (standing past s) (turn past s) (is_woken past s)
          (sweeps (Stopped v end) && is_parked (standing past s) && is_marked past s) left)
      by _ _ one answers left = inl left
