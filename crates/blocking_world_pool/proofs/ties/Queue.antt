-- Each move keeps the pool's queue that of the past, and the serials those of the jobs that were
-- accepted.
use Rattle.std.proofs.Common.{ℕ, List, ◌∷◌, Bool, Option, refl}
use Rattle.blocking_world_pool.proofs.Types.{Moment, Step}
use Rattle.blocking_world_pool.proofs.Words.{IsPlanned, Crew, Move, call_of, Arrives, SetsLimit}
use Rattle.blocking_world_pool.proofs.Words.{SetsClientLimit, after, May, Lined, Numbered}
use Rattle.blocking_world_pool.proofs.Words.{CrewHolds, moment_of, IsAsked}
use Rattle.blocking_world_pool.proofs.ties.Flows.{flows, kept}

module _ (setting : ℕ) (plan : List Bool) (crew : Crew) (past : List Moment) (step : Step)
    (owner : Option ℕ) (h : CrewHolds setting plan crew past) where
  -- Each move keeps the pool's queue that of the past.
  pub queue_after : (move : Move)
      → May (IsPlanned plan) crew move → IsAsked crew past step (call_of move)
      → Lined (after crew move).pool (moment_of crew move step owner ∷ past)
  queue_after (Arrives pass) may asked = h.tied.lined
  queue_after (SetsLimit n) may asked = h.tied.lined
  queue_after (SetsClientLimit limit) may asked = h.tied.lined
  queue_after move may asked = (flows setting plan crew past step owner h move may asked refl).lined

  -- Each move keeps the serials those of the jobs that were accepted.
  pub serials_after : (move : Move)
      → May (IsPlanned plan) crew move → IsAsked crew past step (call_of move)
      → Numbered (after crew move).pool (moment_of crew move step owner ∷ past)
  serials_after (Arrives pass) may asked =
      kept setting plan crew past step owner h (after crew (Arrives pass)).pool _ refl refl
  serials_after (SetsLimit n) may asked =
      kept setting plan crew past step owner h (after crew (SetsLimit n)).pool _ refl refl
  serials_after (SetsClientLimit limit) may asked =
      kept setting plan crew past step owner h (after crew (SetsClientLimit limit)).pool _ refl refl
  serials_after move may asked =
      (flows setting plan crew past step owner h move may asked refl).numbered
