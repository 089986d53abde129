-- Each move grows as the law of growth says.
use Rattle.std.proofs.Common.{◌≡◌, ℕ, ◌-◌, List, ◌∷◌, length, Bool, true, false, refl, ap, ◌∙◌}
use Rattle.std.proofs.Common.{arith, Option}
use Rattle.blocking_world_laws.specs.Queue.{ready as ready_by_law}
use Rattle.blocking_world_laws.proofs.Queues.{sound_of, sound_after}
use Rattle.blocking_world_pool.proofs.Types.{Moment, Step}
use Rattle.blocking_world_pool.proofs.Words.{IsPlanned, Growth, grows, StartsRightly, GrowthLaw}
use Rattle.blocking_world_pool.proofs.Words.{running, workers, limit, ready, Crew, Move, Arrives}
use Rattle.blocking_world_pool.proofs.Words.{SetsLimit, SetsClientLimit, call_of, after, May}
use Rattle.blocking_world_pool.proofs.Words.{CrewHolds, moment_of, IsAsked}
use Rattle.blocking_world_pool.proofs.laws.Answers.{answer_law}
use Rattle.blocking_world_pool.proofs.laws.Turns.{turn_law}
use Rattle.blocking_world_pool.proofs.ties.Clients.{clients_after, client_limit_after}
use Rattle.blocking_world_pool.proofs.ties.Flows.{Flow, flows, gone_of, workers_now}
use Rattle.blocking_world_pool.proofs.ties.Jobs.{jobs_after}
use Rattle.blocking_world_pool.proofs.ties.Queue.{queue_after, serials_after}
use Rattle.blocking_world_pool.proofs.ties.Ready.{ready_is}

module _ (setting : ℕ) (plan : List Bool) (crew : Crew) (past : List Moment) (step : Step)
    (owner : Option ℕ) (h : CrewHolds setting plan crew past) where
  -- After each move the ready jobs of the pool are those that the past tells, since all else is as
  -- it was seen.
  pub ready_after : (move : Move)
      → May (IsPlanned plan) crew move → IsAsked crew past step (call_of move)
      → ready (after crew move).pool ≡ ready_by_law (moment_of crew move step owner ∷ past)
  ready_after move may asked =
      ready_is (after crew move).pool (moment_of crew move step owner ∷ past)
      (
      sound_after setting past (moment_of crew move step owner) (sound_of setting plan past h.laws)
      (answer_law setting plan crew past step owner h move may asked)
      (turn_law setting plan crew past step owner h move may).one
      )
      (serials_after setting plan crew past step owner h move may asked)
      (jobs_after setting plan crew past step owner h move may asked)
      (clients_after setting plan crew past step owner h move may asked)
      (client_limit_after setting plan crew past step owner h move may)
      (queue_after setting plan crew past step owner h move may asked)

  -- a flow keeps the law of growth
  grown : (gone : ℕ) (last : Moment) (new : Crew)
      → Flow setting plan crew past step owner h gone last new
      → ready new.pool ≡ ready_by_law (last ∷ past) → GrowthLaw setting plan past last
  grown gone last new f same = record {
    first = f.first ∙ h.tied.counted.next_is;
    starting = by (grows past last.event.act) refl;
    worker = f.worker;
  }
    where
      by : (b : Bool) → grows past last.event.act ≡ b → StartsRightly b setting plan past last
      by true is =
          let hired = workers_now setting plan crew past step owner h in
          let balance = f.balance in
          let idle : f.free ≡ workers past - length (running (last ∷ past)) =
          omega (arith, hired, balance) in
          rw (← same, ← idle, ← hired, ← h.tied.counted.limit_is, f.first) (f.starts is)
      by false is = let none = f.grew.none is in
          (ap (λ (g : Growth). g.started) none, ap (λ (g : Growth). g.refused) none)

  -- Each move grows as the law of growth says.
  pub growth_law : (move : Move)
      → May (IsPlanned plan) crew move → IsAsked crew past step (call_of move)
      → GrowthLaw setting plan past (moment_of crew move step owner)
  growth_law (Arrives pass) may asked =
      record { first = h.tied.counted.next_is; starting = (refl, refl); worker = tt }
  growth_law (SetsLimit n) may asked =
      record { first = h.tied.counted.next_is; starting = (refl, refl); worker = tt }
  growth_law (SetsClientLimit limit) may asked =
      record { first = h.tied.counted.next_is; starting = (refl, refl); worker = tt }
  growth_law move may asked =
      grown (gone_of move) (moment_of crew move step owner) (after crew move) (flows setting plan
      crew past step owner h move may asked refl) (ready_after move may asked)
