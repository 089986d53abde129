-- Where jobs are queued and no worker is left, the last start that was tried was refused: no job
-- runs then, so that each is ready.
use Rattle.std.proofs.Common.{◌≡◌, ◌<◌, ◌≤◌, ◌+◌, ◌-◌, ◌&&◌, ◌||◌, nat_lt, ℕ, Bool, true, false}
use Rattle.std.proofs.Common.{List, [], ◌∷◌, length, refl, sym, ap, ◌∙◌, subst, arith, Option}
use Rattle.std.proofs.Common.{IfSome, inl, inr}
use Rattle.std.proofs.lemmas.Bool.Decides.{nat_tests}
use Rattle.blocking_world_pool.proofs.Types.{Stop, WorkerPass, Moment, WaitEnd, Step}
use Rattle.blocking_world_pool.proofs.Words.{Counts, limit_of, Growth, limit_after, is_empty}
use Rattle.blocking_world_pool.proofs.Words.{workers, limit_by, limit, grows, turned_away}
use Rattle.blocking_world_pool.proofs.Words.{IsPlanned, ready, running, has_timed_out, Crew, Move}
use Rattle.blocking_world_pool.proofs.Words.{Arrives, HasWaited, SetsLimit, SetsClientLimit}
use Rattle.blocking_world_pool.proofs.Words.{call_of, event_of, after, May, JobPool, GrowsBy}
use Rattle.blocking_world_pool.proofs.Words.{Limited, Served, CrewHolds, moment_of, IsAsked}
use Rattle.blocking_world_laws.specs.Queue.{ready as ready_by_law}
use Rattle.blocking_world_laws.specs.Served.{last_refused, last_refused_by}
use Rattle.blocking_world_laws.proofs.Queues.{ready_beside_none}
use Rattle.blocking_world_pool.proofs.laws.Growth.{ready_after}
use Rattle.blocking_world_pool.proofs.ties.Clients.{client_limit_after}
use Rattle.blocking_world_pool.proofs.ties.Counts.{counts_after}
use Rattle.blocking_world_pool.proofs.ties.Flows.{Flow, flows, growth_in, workers_now, swept}
use Rattle.blocking_world_pool.proofs.ties.Queue.{queue_after}

-- ---- the limit stays above 0

positive_grown : (r : Bool) (l n : ℕ) → 0 < l → 0 < limit_after l n r
positive_grown r l n positive = grind arith

-- ---- starts

some_queued : (ns : List ℕ) → (ns ≡ [] → ⊥) → 0 < length ns
some_queued [] some = absurd (some refl)
some_queued (n ∷ ns) some = omega arith

none_left : (ns : List ℕ) → length ns ≡ 0 → ns ≡ []
none_left [] none = refl
none_left (n ∷ ns) none = absurd (omega (arith, none))

-- so where the pool has grown and no worker is there, the next start was refused
grew_none : (may_answer : ℕ → Bool → Type 0) (ready : ℕ) (counts : Counts) (growth : Growth)
    → GrowsBy may_answer ready counts growth → 0 < ready → 0 < limit_of counts
    → counts.idle ≤ counts.workers
    → counts.workers + growth.started ≡ 0 → growth.refused ≡ true
grew_none may_answer ready counts growth g some positive fewer nobody = grind arith

module _ (setting : ℕ) (plan : List Bool) (crew : Crew) (past : List Moment) (step : Step)
    (owner : Option ℕ) (h : CrewHolds setting plan crew past) (s : Served setting past) where
  acts : (move : Move) → May (IsPlanned plan) crew move
      → 0 < limit_by (event_of crew move).act (limit setting past)
  acts move may = grind arith

  -- who serves the queue of the pool
  before : (crew.pool.queue ≡ [] → ⊥) → crew.pool.counts.workers ≡ 0 → last_refused past ≡ true
  before some none = s.served (λ e. some (h.tied.lined ∙ e))
      (sym (workers_now setting plan crew past step owner h) ∙ none)

  positive : 0 < limit_of crew.pool.counts
  positive = rw h.tied.counted.limit_is s.positive

  -- where no worker stops
  served_by : (last : Moment) (new : Crew) → Flow setting plan crew past step owner h 0 last new
      → ready new.pool ≡ ready_by_law (last ∷ past) → Limited new.pool (last ∷ past)
      → (new.pool.queue ≡ [] → ⊥)
      → new.pool.counts.workers ≡ 0 → last_refused (last ∷ past) ≡ true
  served_by last new f same limited some none = by (grows past last.event.act) refl
    where
      nobody : crew.pool.counts.workers + last.event.started ≡ 0
      nobody = let hired = f.grew.workers in omega (arith, hired, none)

      none_runs : running (last ∷ past) ≡ []
      none_runs = let balance = f.balance in
          none_left (running (last ∷ past)) (omega (arith, nobody, balance))

      all_ready : ready new.pool ≡ new.pool.queue
      all_ready =
          same
          ∙ ready_beside_none (last ∷ past) none_runs (subst
          (λ (most : Option ℕ). IfSome most (λ n. 0 < n)) limited.limit_is limited.positive)
          ∙ sym f.lined

      by : (b : Bool) → grows past last.event.act ≡ b
          → last_refused_by last.event.started last.event.start_refused (last_refused past) ≡ true
      by true is =
          let balance = f.balance in
          let more = some_queued (ready new.pool) (λ empty. some (sym all_ready ∙ empty)) in
          ap (λ c. last_refused_by last.event.started c (last_refused past))
          (grew_none
          (IsPlanned plan) (length (ready new.pool) + turned_away past last last.event.act)
          (record crew.pool.counts { idle = f.free }) (growth_in last) (f.starts is)
          (omega (arith, more)) positive (omega (arith, balance)) nobody)
      by false is =
          elim (f.queued is) [
            | inl same ↦
                subst (λ (g : Growth). last_refused_by g.started g.refused (last_refused past)
                ≡ true) (sym (f.grew.none is))
                (before (λ empty. some (same ∙ empty)) (omega (arith, nobody)))
            | inr there ↦ absurd (omega (arith, there, none))
          ]

  empty_by : (a late : Bool) (q : List ℕ) → (a || late && is_empty q) ≡ true → (a ≡ true → ⊥)
      → q ≡ []
  empty_by a late q e never = grind arith

  one_left : (l hired : ℕ) → 0 < l → hired - 1 ≡ 0 → nat_lt l hired ≡ true → ⊥
  one_left l hired positive none e = grind (arith, nat_tests)

  -- the last worker stops only where no job is queued
  stops : (v : ℕ) (pass : WorkerPass) (end : WaitEnd) (growth : Growth) (pool : JobPool)
      → May (IsPlanned plan) crew (HasWaited v pass end Stop growth pool) → (pool.queue ≡ [] → ⊥)
      → pool.counts.workers ≡ 0 → ⊥
  stops v pass end growth pool may some none =
      let between = may.1.between in
      let g = (swept setting plan crew past step owner h (has_timed_out end) growth between
      may.1.sweep).grew in
      let left : between.counts.workers - 1 ≡ 0 =
      ap (λ (p : JobPool). p.counts.workers) (sym may.1.answer.1) ∙ none in
      let most : 0 < limit_of between.counts = rw g.most (positive_grown growth.refused
      (limit_of crew.pool.counts) (crew.pool.counts.workers + growth.started) positive) in
      let empty : between.queue ≡ [] =
      empty_by (nat_lt (limit_of between.counts) between.counts.workers) (has_timed_out end)
      between.queue may.1.answer.0
      (one_left (limit_of between.counts) between.counts.workers most left) in
      some (ap (λ (p : JobPool). p.queue) may.1.answer.1 ∙ empty)

  -- who serves the queue after a move
  service : (move : Move) → May (IsPlanned plan) crew move → IsAsked crew past step (call_of move)
      → ((after crew move).pool.queue ≡ [] → ⊥) → (after crew move).pool.counts.workers ≡ 0
      → last_refused (moment_of crew move step owner ∷ past) ≡ true
  service (Arrives pass) may asked some none = before some none
  service (SetsLimit n) may asked some none = before some none
  service (SetsClientLimit limit) may asked some none = before some none
  service (HasWaited v pass end Stop growth pool) may asked some none =
      absurd (stops v pass end growth pool may some none)
  service move may asked some none =
      served_by (moment_of crew move step owner)
      (after crew move) (flows setting plan crew past step owner h move may asked refl)
      (ready_after setting plan crew past step owner h move may asked)
      (client_limit_after setting plan crew past step owner h move may) some none

  -- Each move leaves queued jobs served, or the last start refused.
  pub served_after : (move : Move)
      → May (IsPlanned plan) crew move → IsAsked crew past step (call_of move)
      → Served setting (moment_of crew move step owner ∷ past)
  served_after move may asked =
      let e = (counts_after setting plan crew past step owner h move may asked).workers_are in
      let hired : (after crew move).pool.counts.workers
      ≡ workers (moment_of crew move step owner ∷ past) = omega (arith, e) in
      record {
        positive = positive_grown (event_of crew move).start_refused
            (limit_by (event_of crew move).act (limit setting past))
            (workers past + (event_of crew move).started) (acts move may);
        served = λ some none. service move may asked
            (λ f. some (sym (queue_after setting plan crew past step owner h move may asked) ∙ f))
            (hired ∙ none);
      }
