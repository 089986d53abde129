-- A sweep puts back what was seen to be parked and marked, in the order in which it was accepted.
use Rattle.std.proofs.Common.{arith, ◌≡◌, ℕ, ◌&&◌, cond, Bool, List, ◌∷◌, ap, ◌∙◌, Option, is_some}
use Rattle.std.proofs.Common.{filter}
use Rattle.std.proofs.lemmas.List.Elements.{filter_agree}
use Rattle.std.specs.FinMap.{get}
use Rattle.blocking_world_pool.proofs.Types.{Standing, Moment}
use Rattle.blocking_world_pool.proofs.Words.{is_in, accepted_jobs, is_woken, is_cancelled}
use Rattle.blocking_world_pool.proofs.Words.{has_ended, is_marked, standing, seen_to_sweep, Crew}
use Rattle.blocking_world_pool.proofs.Words.{is_due_to_sweep, to_sweep, CrewHolds}
use Rattle.blocking_world_laws.specs.Jobs.{is_parked}
use Rattle.blocking_world_pool.proofs.jobs.Lookups.{in_filter}
use Rattle.blocking_world_pool.proofs.ties.Entries.{due_filed}
use Rattle.blocking_world_pool.proofs.ties.Standings.{get_zero, accepted_in}

-- what is parked was accepted, so that being swept is being parked and marked
swept_test : (stand : Option Standing) (mark : Bool)
    → ((is_parked stand && mark) && is_some stand) ≡ (is_parked stand && mark)
swept_test stand mark = grind arith

module _ (setting : ℕ) (plan : List Bool) (crew : Crew) (past : List Moment)
    (h : CrewHolds setting plan crew past) where
  -- a sweep puts back what was seen to be due
  pub sweep_same : to_sweep crew.pool ≡ seen_to_sweep past
  sweep_same =
      let pool = crew.pool in
      ap (filter (λ serial. is_due_to_sweep (get pool.jobs serial))) h.tied.numbered.all_are
      ∙ ap (λ o. cond (is_due_to_sweep o)
      (0 ∷ filter (λ serial. is_due_to_sweep (get pool.jobs serial)) (accepted_jobs past))
      (filter (λ serial. is_due_to_sweep (get pool.jobs serial)) (accepted_jobs past)))
      (get_zero setting plan crew past h)
      ∙ filter_agree (λ serial. is_due_to_sweep (get pool.jobs serial))
      (λ s. is_parked (standing past s) && is_marked past s)
      (λ s. due_filed (get pool.jobs s) (standing past s) (is_woken past s) (is_cancelled past s)
      (is_marked past s) (has_ended past s) (h.tied.filed s)) (accepted_jobs past)

  pub due_test : (s : ℕ)
      → is_in s (to_sweep crew.pool) ≡ (is_parked (standing past s) && is_marked past s)
  due_test s = grind (arith, in_filter, accepted_in, swept_test)
