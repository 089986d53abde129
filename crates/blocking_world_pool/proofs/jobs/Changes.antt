-- What each move makes of the pool's jobs.
use Rattle.std.proofs.Common.{◌≡◌, ℕ, ◌==◌, ◌&&◌, Bool, true, false, refl, ap, ◌∙◌, if◌then◌else◌}
use Rattle.std.proofs.Common.{Option, Some, None, option_map, Ok, Err, arith}
use Rattle.std.specs.FinMap.{get}
use Rattle.blocking_world_pool.proofs.Types.{Memory, NoWorker, Numbers, Stay, Stop, Entered, Marked}
use Rattle.blocking_world_pool.proofs.Types.{Nothing, Ticket}
use Rattle.blocking_world_pool.proofs.Words.{Growth, Job as Entry, new_job, entry_after_take}
use Rattle.blocking_world_pool.proofs.Words.{entry_after_requeue, entry_after_park}
use Rattle.blocking_world_pool.proofs.Words.{entry_after_wake, entry_after_cancel, job_of, value_at}
use Rattle.blocking_world_pool.proofs.Words.{is_in, has_timed_out, Crew, Move, Adds, TakesJob}
use Rattle.blocking_world_pool.proofs.Words.{EndsTurn, Parks, HasWaited, Sweeps, IsWoken}
use Rattle.blocking_world_pool.proofs.Words.{IsCancelled, IsLetGo, after, May, new_ticket, JobPool}
use Rattle.blocking_world_pool.proofs.Words.{to_sweep, SweepsIf}
use Rattle.blocking_world_pool.specs.declared.tickets.Parking.TheVariants as parking
use Rattle.blocking_world_pool.proofs.growth.Sweeps.{left_by}
use Rattle.blocking_world_pool.proofs.jobs.Lookups.{job_put, job_out, job_changed, changed_twice}
use Rattle.blocking_world_pool.proofs.jobs.Lookups.{job_requeued}
use Rattle.blocking_world_pool.proofs.jobs.Marks.{mark_by, marked_by}

-- Which jobs change, and into what.
pub record Change : Type 0 where
  pub which : ℕ → Bool
  pub becomes : Option (Entry Ticket) → Option (Entry Ticket)

-- the job of this serial does
abbrev pub of_one : ℕ → (Option (Entry Ticket) → Option (Entry Ticket)) → Change
of_one t becomes = record { which = λ s. t == s; becomes = becomes }

abbrev pub change_of : Crew → Move → Change
change_of crew (Adds who client (Ok number) growth pool) =
    of_one number.serial (λ found. Some (new_job number.place client new_ticket))
change_of crew (TakesJob v old to_drop turn ticket growth pool) =
    of_one turn.serial (option_map entry_after_take)
change_of crew (EndsTurn v held pass) = of_one held.turn.serial (λ found. None)
change_of crew (Parks v held ticket (parking.Parked pass) pool) =
    of_one held.turn.serial (option_map (entry_after_park ticket))
change_of crew (Parks v held ticket (parking.Queued pass) pool) = of_one held.turn.serial
    (λ found. option_map entry_after_requeue (option_map (entry_after_park ticket) found))
change_of crew (HasWaited v pass end waited growth pool) =
    record {
      which = λ s. has_timed_out end && is_in s (to_sweep crew.pool);
      becomes = option_map entry_after_requeue;
    }
change_of crew (Sweeps growth pool) =
    record { which = λ s. is_in s (to_sweep crew.pool); becomes = option_map entry_after_requeue }
change_of crew (IsWoken who number Entered growth pool) =
    of_one number.serial (option_map entry_after_requeue)
change_of crew (IsWoken who number Marked growth pool) =
    of_one number.serial (option_map entry_after_wake)
change_of crew (IsCancelled who number Entered growth pool) = of_one number.serial
    (λ found. option_map entry_after_requeue (option_map entry_after_cancel found))
change_of crew (IsCancelled who number Marked growth pool) =
    of_one number.serial (option_map entry_after_cancel)
change_of crew (IsLetGo who act (Some number)) =
    of_one number.serial (option_map (mark_by (value_at (job_of crew.pool.jobs number))))
change_of crew move = record { which = λ s. false; becomes = λ found. found }

swept_at : (late : Bool) (may_answer : ℕ → Bool → Type 0) (old new : JobPool) (growth : Growth)
    (s : ℕ) → SweepsIf late may_answer old growth new
    → get new.jobs s ≡ (if late && is_in s (to_sweep old)
    then option_map entry_after_requeue (get old.jobs s) else get old.jobs s)
swept_at late may_answer old new growth s sweeps = grind (arith, left_by, job_requeued)

-- a job after a move
pub found_after : (may_answer : ℕ → Bool → Type 0) (crew : Crew) (move : Move) (s : ℕ)
    → May may_answer crew move
    → get (after crew move).pool.jobs s ≡ (if (change_of crew move).which s
    then (change_of crew move).becomes (get crew.pool.jobs s) else get crew.pool.jobs s)
found_after may_answer crew (Adds who client (Ok number) growth pool) s may =
    rw (may.after_is, may.serial) (job_put crew.pool.jobs crew.pool.next_serial
    (new_job number.place client new_ticket) s (crew.pool.next_serial == s) refl)
found_after may_answer crew (Adds who client (Err Memory) growth pool) s may =
    ap (λ (p : JobPool). get p.jobs s) may.1
found_after may_answer crew (Adds who client (Err Numbers) growth pool) s may =
    ap (λ (p : JobPool). get p.jobs s) may.2
found_after may_answer crew (Adds who client (Err NoWorker) growth pool) s may =
    ap (λ (p : JobPool). get p.jobs s) may.after_is
found_after may_answer crew (TakesJob v old to_drop turn ticket growth pool) s may =
    ap (λ (p : JobPool). get p.jobs s) may.1.after_is
    ∙ job_changed crew.pool.jobs turn.serial entry_after_take s (Some may.1.job) may.1.found
found_after may_answer crew (EndsTurn v held pass) s may =
    job_out crew.pool.jobs held.turn.serial s (held.turn.serial == s) refl
found_after may_answer crew (Parks v held ticket (parking.Parked pass) pool) s may =
    ap (λ (p : JobPool). get p.jobs s) may.2.effect.2 ∙ job_changed crew.pool.jobs held.turn.serial
    (entry_after_park ticket) s (get crew.pool.jobs held.turn.serial) refl
found_after may_answer crew (Parks v held ticket (parking.Queued pass) pool) s may =
    ap (λ (p : JobPool). get p.jobs s) may.2.effect.2 ∙ changed_twice crew.pool.jobs
    held.turn.serial (entry_after_park ticket) entry_after_requeue s
found_after may_answer crew (Parks v held ticket (parking.HandedOut back) pool) s may =
    ap (λ (p : JobPool). get p.jobs s) may.2.effect.2
found_after may_answer crew (HasWaited v pass end (Stay back) growth pool) s may =
    ap (λ (p : JobPool). get p.jobs s) may.1.answer.1
    ∙ swept_at (has_timed_out end) may_answer crew.pool may.1.between growth s may.1.sweep
found_after may_answer crew (HasWaited v pass end Stop growth pool) s may =
    ap (λ (p : JobPool). get p.jobs s) may.1.answer.1
    ∙ swept_at (has_timed_out end) may_answer crew.pool may.1.between growth s may.1.sweep
found_after may_answer crew (Sweeps growth pool) s may =
    swept_at true may_answer crew.pool pool growth s may
found_after may_answer crew (IsWoken who number Entered growth pool) s may =
    ap (λ (p : JobPool). get p.jobs s) may.effect.after_is ∙ job_changed crew.pool.jobs
    number.serial entry_after_requeue s (get crew.pool.jobs number.serial) refl
found_after may_answer crew (IsWoken who number Marked growth pool) s may =
    ap (λ (p : JobPool). get p.jobs s) may.effect.1 ∙ job_changed crew.pool.jobs number.serial
    entry_after_wake s (get crew.pool.jobs number.serial) refl
found_after may_answer crew (IsWoken who number Nothing growth pool) s may =
    ap (λ (p : JobPool). get p.jobs s) may.effect.1
found_after may_answer crew (IsCancelled who number Entered growth pool) s may =
    ap (λ (p : JobPool). get p.jobs s) may.effect.after_is
    ∙ changed_twice crew.pool.jobs number.serial entry_after_cancel entry_after_requeue s
found_after may_answer crew (IsCancelled who number Marked growth pool) s may =
    ap (λ (p : JobPool). get p.jobs s) may.effect.1 ∙ job_changed crew.pool.jobs number.serial
    entry_after_cancel s (get crew.pool.jobs number.serial) refl
found_after may_answer crew (IsCancelled who number Nothing growth pool) s may =
    ap (λ (p : JobPool). get p.jobs s) may.effect.1
found_after may_answer crew (IsLetGo who act (Some number)) s may =
    marked_by crew.pool number s (value_at (job_of crew.pool.jobs number))
found_after may_answer crew move s may = refl
