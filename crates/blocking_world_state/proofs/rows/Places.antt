-- What a job has done, by how it stands, where it is in its turn, and its core: after an event that
-- is no act of it.
use Rattle.std.proofs.Common.{◌≡◌, ℕ, ◌==◌, List, ◌∷◌, Bool, true, false, refl, sym, ap, ◌∙◌, subst}
use Rattle.std.proofs.Common.{Option, Some, if◌then◌else◌, ◌&&◌, ◌||◌, arith}
use Rattle.blocking_world_state.proofs.Types.{Entered, Standing, Parked, Queued, Running, Act}
use Rattle.blocking_world_state.proofs.Types.{Accepted, Ended, HandedOut, JobCancelled, JobWoken}
use Rattle.blocking_world_state.proofs.Types.{Took, TookDropped, Moment, Party}
use Rattle.blocking_world_state.proofs.Words.{take_answer, end_of, PoolAnswers, has_finished}
use Rattle.blocking_world_state.proofs.Words.{has_given_up, accepts, ends_for_good, is_marked}
use Rattle.blocking_world_state.proofs.Words.{sweeps, stands_by, is_parked, standing, PoolLaw}
use Rattle.blocking_world_state.proofs.Words.{EachMayFollow, is_of_job, Turn, GoesOn, MustGiveUp}
use Rattle.blocking_world_state.proofs.Words.{turn_by, turn, hand_of, HoldsOne, PlaceAs}
use Rattle.blocking_world_laws.proofs.Queues.{held_so}
use Rattle.blocking_world_pool.proofs.jobs.Lookups.{woken_is, cancelled_is}
use Rattle.blocking_world_state.proofs.past.Drops.{handed_out}
use Rattle.blocking_world_state.proofs.past.Standings.{Takes, taken_queued}

-- ---- the end of a turn

-- a job that is over has put its result or given up
abbrev pub IsOver : List Act → Type 0
IsOver acts = has_finished acts || has_given_up acts ≡ true

ended_by : (at : Turn) (drop woken : Bool) (s : ℕ) (how : Standing) (first : Bool) (acts : List Act)
    → Ended s how ≡ end_of at drop woken s → (ends_for_good (Ended s how) s ≡ true → IsOver acts)
    → PlaceAs (Some Running) at first acts → PlaceAs (Some how) at first acts
ended_by at drop woken s how first acts is over place = grind arith

-- the job in a party's hand runs
hand_runs : (setting : ℕ) (plan : List Bool) (past : List Moment)
    → EachMayFollow (PoolLaw setting plan) past → (who : Party) (s : ℕ) → hand_of past who ≡ Some s
    → standing past s ≡ Some Running
hand_runs setting plan past laws who s is = grind (arith, held_so)

-- ---- a parked job is queued again

-- what holds of a job that is parked holds of one that is queued, wherever it was in its turn
parked_queued : (stand : Option Standing) (at : Turn) (first : Bool) (acts : List Act)
    → PlaceAs stand at first acts → is_parked stand ≡ true
    → (first ≡ true) × (has_given_up acts ≡ false)
parked_queued stand at first acts place is = grind arith

swept_parked : (a b m : Bool) → (a && b && m) ≡ true → b ≡ true
swept_parked a b m is = grind arith

-- ---- an event that is no act of the job

module _ (setting : ℕ) (plan : List Bool)
    (past : List Moment) (laws : EachMayFollow (PoolLaw setting plan) past) (now : Moment)
    (law : PoolLaw setting plan past now) (s : ℕ) (first : Bool) (acts : List Act)
    (over : ends_for_good now.event.act s ≡ true → IsOver acts)
    (place : PlaceAs (standing past s) (turn past s) first acts) where
  stands : (how : Option Standing) → standing past s ≡ how → PlaceAs how (turn past s) first acts
  stands how is = subst (λ o. PlaceAs o (turn past s) first acts) is place

  -- an act names a job, and that may be this one
  named : (t : ℕ) (how : Standing)
      → (t ≡ s → PlaceAs (Some how) (turn past s) first acts) → (b : Bool) → (t == s) ≡ b
      → PlaceAs (if b then Some how else standing past s) (turn past s) first acts
  named t how this b same = grind arith

  taken : (t : ℕ) (at : Turn) → (t ≡ s → PlaceAs (Some Running) at first acts)
      → (b : Bool) → (t == s) ≡ b → PlaceAs (if b then Some Running else standing past s)
      (if b then at else turn past s) first acts
  taken t at this b same = grind arith

  -- a job that waits is handed out where it runs
  handed : (t : ℕ) → standing past t ≡ Some Running
      → (t ≡ s → PlaceAs (Some Running) MustGiveUp first acts) → (b : Bool) → (t == s) ≡ b
      → PlaceAs (standing past s) (if b then MustGiveUp else turn past s) first acts
  handed t runs this b same = grind arith

  was_queued : (t : ℕ) → Takes (take_answer past) t → t ≡ s
      → PlaceAs (Some Queued) (turn past s) first acts
  was_queued t takes same = stands (Some Queued)
      (ap (standing past) (sym same) ∙ taken_queued setting plan past laws t takes)

  -- the job whose turn ends runs
  was_running : (t : ℕ) → hand_of past now.event.party ≡ Some t → t ≡ s
      → PlaceAs (Some Running) (turn past t) first acts
  was_running t held same = grind (arith, hand_runs)

  by_act : (act : Act) → now.event.act ≡ act
      → PoolAnswers setting past now act → HoldsOne past now.event act → accepts s act ≡ false
      → PlaceAs (stands_by act s (standing past s)) (turn_by act false s (turn past s)) first acts
  by_act (Accepted t) is answers one fresh =
      subst (λ b. PlaceAs (if b then Some Queued else standing past s) (turn past s) first acts)
      (sym fresh) place
  by_act (JobWoken t Entered) is answers one fresh =
      named t Queued (λ same. stands (Some Parked)
      (ap (standing past) (sym same) ∙ woken_is (standing past t) answers)) (t == s) refl
  by_act (JobCancelled t Entered) is answers one fresh =
      named t Queued (λ same. stands (Some Parked)
      (ap (standing past) (sym same) ∙ cancelled_is (standing past t) answers)) (t == s) refl
  by_act (Took t) is answers one fresh = taken t GoesOn
      (λ same. (was_queued t (subst (λ a. Takes a t) answers refl) same).1) (t == s) refl
  by_act (TookDropped t) is answers one fresh =
      taken t MustGiveUp (was_queued t (subst (λ a. Takes a t) answers refl)) (t == s) refl
  by_act (Ended t how) is answers one fresh =
      named t how
      (λ same. subst (λ n. PlaceAs (Some how) (turn past n) first acts) same
      (ended_by (turn past t) _ _ t how first acts answers
      (λ e. over (ap (λ a. ends_for_good a s) is ∙ ap (ends_for_good (Ended t how)) (sym same) ∙ e))
      (was_running t one same))) (t == s) refl
  by_act (HandedOut t) is answers one fresh =
      handed t (hand_runs setting plan past laws now.event.party t one)
      (λ same. subst (λ at. PlaceAs (Some Running) at first acts)
      (handed_out (turn past t) _ _ t answers).0 (was_running t one same)) (t == s) refl
  by_act _ is answers one fresh = place

  -- an event that is no act of a job, and doesn't accept it, leaves what it has done
  pub place_after : accepts s now.event.act ≡ false → is_of_job s now.event ≡ false
      → PlaceAs (standing (now ∷ past) s) (turn (now ∷ past) s) first acts
  place_after fresh out =
      subst (λ own. PlaceAs (standing (now ∷ past) s) (turn_by now.event.act own s (turn past s))
      first acts) (sym out)
      (swept (sweeps now.event.act && is_parked (standing past s) && is_marked past s) refl)
    where
      swept : (b : Bool)
          → (sweeps now.event.act && is_parked (standing past s) && is_marked past s) ≡ b
          → PlaceAs (if b then Some Queued else stands_by now.event.act s (standing past s))
          (turn_by now.event.act false s (turn past s)) first acts
      swept true is = parked_queued (standing past s) (turn past s) first acts place
          (swept_parked (sweeps now.event.act) (is_parked (standing past s)) (is_marked past s) is)
      swept false is = by_act now.event.act refl law.answers law.turns.one fresh
