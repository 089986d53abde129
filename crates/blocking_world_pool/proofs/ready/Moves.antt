-- Every move that there may be keeps a crew ready.
use Rattle.std.proofs.Common.{◌≡◌, ℕ, Bool, true, refl, sym, subst, arith, false, ap, Ok, Err}
use Rattle.std.specs.FinMap.{get}
use Rattle.blocking_world_pool.proofs.Types.{Memory, NoWorker, Numbers, Stay, Stop, Entered, Marked}
use Rattle.blocking_world_pool.proofs.Types.{Nothing, Event, Free, Out}
use Rattle.blocking_world_pool.proofs.Words.{after_arrival, has_timed_out, Crew, stage_after}
use Rattle.blocking_world_pool.proofs.Words.{IsReady, Call, Move, Idles, Adds, Arrives, TakesJob}
use Rattle.blocking_world_pool.proofs.Words.{TakesNone, Works, EndsTurn, Parks, HasWaited}
use Rattle.blocking_world_pool.proofs.Words.{SetsLimit, SetsClientLimit, Sweeps, IsWoken}
use Rattle.blocking_world_pool.proofs.Words.{IsCancelled, IsLetGo, Tells, first_stage, after, May}
use Rattle.blocking_world_pool.proofs.Words.{Moves, JobPool}
use Rattle.blocking_world_pool.specs.declared.hand.TurnStage.TheVariants as stage
use Rattle.blocking_world_pool.specs.declared.tickets.Parking.TheVariants as parking
use Rattle.blocking_world_pool.proofs.growth.Sweeps.{sweep_level}
use Rattle.blocking_world_pool.proofs.jobs.Marks.{let_go_alone}
use Rattle.blocking_world_pool.proofs.ready.Changes.{pool_ready, push_ready}
use Rattle.blocking_world_pool.proofs.ready.Hands.{one_free, free_ready, turn_ready, over_ready}
use Rattle.blocking_world_pool.proofs.ready.Hands.{left_ready, taken_ready}
use Rattle.blocking_world_pool.proofs.ready.Jobs.{same_kept, kept_after}

-- the crew after a move is ready
pub ready_after : (may_answer : ℕ → Bool → Type 0) (crew : Crew) (move : Move) → IsReady crew
    → May may_answer crew move → IsReady (after crew move)
ready_after may_answer crew (Idles call) ready may = ready
ready_after may_answer crew (Adds party client (Ok number) growth pool) ready may =
    pool_ready crew pool ready (λ s. kept_after may_answer crew
    (Adds party client (Ok number) growth pool) s may) (rw may.after_is (omega arith))
ready_after may_answer crew (Adds party client (Err Memory) growth pool) ready may = rw may.1 ready
ready_after may_answer crew (Adds party client (Err Numbers) growth pool) ready may = rw may.2 ready
ready_after may_answer crew (Adds party client (Err NoWorker) growth pool) ready may =
    pool_ready crew pool ready (λ s. kept_after may_answer crew
    (Adds party client (Err NoWorker) growth pool) s may) (rw may.after_is (omega arith))
ready_after may_answer crew (Arrives pass) ready may =
    push_ready crew (record crew.pool { counts = after_arrival crew.pool.counts }) pass ready refl
    (omega (arith, may))
ready_after may_answer crew (TakesJob v old to_drop turn ticket growth pool) ready may =
    taken_ready may_answer
    crew pool v old turn ticket to_drop (first_stage to_drop) growth ready may.0 may.1
    (λ s. kept_after may_answer crew (TakesJob v old to_drop turn ticket growth pool) s may)
ready_after may_answer crew (TakesNone v old pass) ready may =
    free_ready crew crew.pool v old (Free pass) ready may.0 (λ held is. cc)
    (λ s. same_kept false (get crew.pool.jobs s)) (omega arith)
ready_after may_answer crew (Works v held act) ready may =
    turn_ready crew v held held.turn (stage_after act held.stage) ready may.0 refl
ready_after may_answer crew (EndsTurn v held pass) ready may =
    over_ready crew v held pass ready may.0
ready_after may_answer crew (Parks v held ticket (parking.Parked pass) pool) ready may =
    left_ready may_answer crew (Parks v held ticket (parking.Parked pass) pool) v held pass ready
    may may.0 (λ s. refl) (rw may.2.effect.2 refl) (rw may.2.effect.2 refl)
ready_after may_answer crew (Parks v held ticket (parking.Queued pass) pool) ready may =
    left_ready may_answer crew (Parks v held ticket (parking.Queued pass) pool) v held pass ready
    may may.0 (λ s. refl) (rw may.2.effect.2 refl) (rw may.2.effect.2 refl)
ready_after may_answer crew (Parks v held ticket (parking.HandedOut turn) pool) ready may =
    rw may.2.effect.2 (turn_ready crew v held turn stage.MustGiveUp ready may.0 may.2.effect.1)
ready_after may_answer crew (HasWaited v pass end (Stay back) growth pool) ready may =
    free_ready crew pool v pass (Free back) ready may.0 (λ held is. cc)
    (λ s. kept_after may_answer crew (HasWaited v pass end (Stay back) growth pool) s may)
    (rw may.1.answer.1 (let level = sweep_level (has_timed_out end) may_answer crew.pool
    may.1.between growth may.1.sweep in omega (arith, level)))
ready_after may_answer crew (HasWaited v pass end Stop growth pool) ready may =
    let some = one_free crew v pass ready may.0 in
    free_ready crew pool v pass Out ready may.0 (λ held is. cc)
    (λ s. kept_after may_answer crew (HasWaited v pass end Stop growth pool) s may)
    (rw may.1.answer.1 (let level = sweep_level (has_timed_out end) may_answer crew.pool
    may.1.between growth may.1.sweep in omega (arith, level, some)))
ready_after may_answer crew (SetsLimit n) ready may = pool_ready crew
    (after crew (SetsLimit n)).pool ready (λ s. same_kept false (get crew.pool.jobs s)) refl
ready_after may_answer crew (SetsClientLimit limit) ready may =
    pool_ready crew (after crew (SetsClientLimit limit)).pool ready
    (λ s. same_kept false (get crew.pool.jobs s)) refl
ready_after may_answer crew (Sweeps growth pool) ready may =
    pool_ready crew pool ready (λ s. kept_after may_answer crew (Sweeps growth pool) s may)
    (sweep_level true may_answer crew.pool pool growth may)
ready_after may_answer crew (IsWoken party number Entered growth pool) ready may =
    pool_ready crew pool ready (λ s. kept_after may_answer crew
    (IsWoken party number Entered growth pool) s may) (rw may.effect.after_is (omega arith))
ready_after may_answer crew (IsWoken party number Marked growth pool) ready may =
    pool_ready crew pool ready (λ s. kept_after may_answer crew
    (IsWoken party number Marked growth pool) s may) (rw may.effect.1 refl)
ready_after may_answer crew (IsWoken party number Nothing growth pool) ready may =
    rw may.effect.1 ready
ready_after may_answer crew (IsCancelled party number Entered growth pool) ready may =
    pool_ready crew pool ready (λ s. kept_after may_answer crew
    (IsCancelled party number Entered growth pool) s may) (rw may.effect.after_is (omega arith))
ready_after may_answer crew (IsCancelled party number Marked growth pool) ready may =
    pool_ready crew pool ready (λ s. kept_after may_answer crew
    (IsCancelled party number Marked growth pool) s may) (rw may.effect.1 refl)
ready_after may_answer crew (IsCancelled party number Nothing growth pool) ready may =
    rw may.effect.1 ready
ready_after may_answer crew (IsLetGo party act number) ready may =
    pool_ready crew (after crew (IsLetGo party act number)).pool
    ready (λ s. kept_after may_answer crew (IsLetGo party act number) s may)
    (rw (ap (λ (p : JobPool). p.counts) (let_go_alone crew.pool number)) refl)
ready_after may_answer crew (Tells party act) ready may = ready

-- and so is the crew after a call
pub moved_ready : {may_answer : ℕ → Bool → Type 0} {call : Call} {seen old new : Crew}
    {event : Event} → IsReady seen → seen ≡ old → Moves may_answer call old event new → IsReady new
moved_ready {may_answer} {call} {seen} {old} {new} {event} ready same moves =
    subst IsReady (sym moves.after_is)
    (ready_after may_answer old moves.move (subst IsReady same ready) moves.may)
