-- What a move leaves of each job: it runs on at its place, but where its turn ends, and it has its
-- ticket, where it doesn't run.
use Rattle.std.proofs.Common.{◌≡◌, ℕ, ◌==◌, ◌||◌, Bool, true, false, refl, sym, ap, ◌∙◌, Option}
use Rattle.std.proofs.Common.{Some, None, arith, option_map, Ok}
use Rattle.std.specs.FinMap.{get}
use Rattle.std.proofs.lemmas.Bool.{eqb-true, and_parts, cond_both}
use Rattle.blocking_world_pool.proofs.Types.{Entered, Marked, Parked, Queued, Ticket}
use Rattle.blocking_world_pool.proofs.Words.{JobNumber, Job, new_job, entry_after_take}
use Rattle.blocking_world_pool.proofs.Words.{is_running_job, entry_after_requeue, entry_after_park}
use Rattle.blocking_world_pool.proofs.Words.{entry_after_wake, entry_after_cancel, if_at, job_of}
use Rattle.blocking_world_pool.proofs.Words.{standing_of, value_at, is_parked_job, is_in}
use Rattle.blocking_world_pool.proofs.Words.{has_timed_out, Crew, Move, Adds, TakesJob, EndsTurn}
use Rattle.blocking_world_pool.proofs.Words.{Parks, HasWaited, Sweeps, IsWoken, IsCancelled}
use Rattle.blocking_world_pool.proofs.Words.{IsLetGo, after, May, new_ticket, to_sweep, is_valued}
use Rattle.blocking_world_pool.specs.declared.tickets.Parking.TheVariants as parking
use Rattle.blocking_pool.proofs.Lists.{turned}
use Rattle.blocking_pool.proofs.PoolLemmas.{parked_one}
use Rattle.blocking_world_pool.proofs.jobs.Changes.{change_of, found_after}
use Rattle.blocking_world_pool.proofs.jobs.Lookups.{woken_is, cancelled_is}
use Rattle.blocking_world_pool.proofs.jobs.Marks.{mark_by}
use Rattle.blocking_world_pool.proofs.jobs.Tickets.{swept_parked}

pub record IsKept (ends : Bool) (old new : Option (Job Ticket)) : Type 0 where
  pub runs : ends ≡ false → (place : ℕ) → is_running_job (if_at place old) ≡ true
      → is_running_job (if_at place new) ≡ true
  pub valued : is_valued old ≡ true → is_valued new ≡ true

pub same_kept : (ends : Bool) (found : Option (Job Ticket)) → IsKept ends found found
same_kept ends found = record { runs = λ on place runs. runs; valued = λ valued. valued }

-- ---- each change

-- the standing and the place stay
changed_kept : (change : Job Ticket → Job Ticket)
    → ((job : Job Ticket) → (change job).standing ≡ job.standing)
    → ((job : Job Ticket) → (change job).place ≡ job.place)
    → ((job : Job Ticket) → is_valued (Some job) ≡ true → is_valued (Some (change job)) ≡ true)
    → (found : Option (Job Ticket)) → IsKept false found (option_map change found)
changed_kept change standing place valued found = grind arith

mark_kept : (value : Option Ticket) (found : Option (Job Ticket))
    → IsKept false found (option_map (mark_by value) found)
mark_kept value found = grind arith

fresh_kept : (found : Option (Job Ticket)) (job : Job Ticket) → found ≡ None
    → is_valued (Some job) ≡ true → IsKept false found (Some job)
fresh_kept found job none valued = grind arith

taken_kept : (found : Option (Job Ticket)) (job : Job Ticket) → found ≡ Some job
    → job.standing ≡ Queued → IsKept false found (option_map entry_after_take found)
taken_kept found job there queued = grind arith

-- a parked job enters again, also where it was cancelled
parked_kept : (found : Option (Job Ticket)) → is_parked_job found ≡ true
    → IsKept false found (option_map entry_after_requeue found)
parked_kept found parked = grind arith

cancelled_kept : (found : Option (Job Ticket)) → is_parked_job found ≡ true
    → IsKept false found (option_map entry_after_requeue (option_map entry_after_cancel found))
cancelled_kept found parked = grind arith

-- a turn ends
ended_kept : (old new : Option (Job Ticket)) → is_valued new ≡ true → IsKept true old new
ended_kept old new valued = record { runs = λ on place runs. absurd cc; valued = λ has. valued }

park_valued : (ticket : Ticket) (found : Option (Job Ticket))
    → is_valued (option_map (entry_after_park ticket) found) ≡ true
park_valued ticket found = grind arith

return_valued : (ticket : Ticket) (found : Option (Job Ticket))
    → is_valued (option_map entry_after_requeue (option_map (entry_after_park ticket) found)) ≡ true
return_valued ticket found = grind arith

-- ---- each move

-- whether the turn of a job ends
abbrev pub ends_turn : Move → Bool
ends_turn (EndsTurn v held pass) = true
ends_turn (Parks v held ticket (parking.Parked pass) pool) = true
ends_turn (Parks v held ticket (parking.Queued pass) pool) = true
ends_turn move = false

module _ (may_answer : ℕ → Bool → Type 0) (crew : Crew) where
  rests : (number : JobNumber) (s : ℕ)
      → (number.serial == s) ≡ true → standing_of crew.pool.jobs number ≡ Some Parked
      → is_parked_job (get crew.pool.jobs s) ≡ true
  rests number s is parked =
      parked_one crew.pool.jobs number parked s (ap (λ b. b || false) (turned s number.serial ∙ is))

  becomes_kept : (move : Move) (s : ℕ) → May may_answer crew move
      → (change_of crew move).which s ≡ true → IsKept (ends_turn move) (get crew.pool.jobs s)
      ((change_of crew move).becomes (get crew.pool.jobs s))
  becomes_kept (Adds who client (Ok number) growth pool) s may is =
      fresh_kept (get crew.pool.jobs s) (new_job number.place client new_ticket) (ap
      (get crew.pool.jobs) (sym (eqb-true number.serial s is) ∙ may.serial) ∙ may.unused) refl
  becomes_kept (TakesJob v old to_drop turn ticket growth pool) s may is =
      taken_kept (get crew.pool.jobs s) may.1.job
      (ap (get crew.pool.jobs) (sym (eqb-true turn.serial s is)) ∙ may.1.found) may.1.stands
  becomes_kept (EndsTurn v held pass) s may is = ended_kept (get crew.pool.jobs s) None refl
  becomes_kept (Parks v held ticket (parking.Parked pass) pool) s may is =
      ended_kept (get crew.pool.jobs s) _ (park_valued ticket (get crew.pool.jobs s))
  becomes_kept (Parks v held ticket (parking.Queued pass) pool) s may is =
      ended_kept (get crew.pool.jobs s) _ (return_valued ticket (get crew.pool.jobs s))
  becomes_kept (HasWaited v pass end waited growth pool) s may is =
      parked_kept (get crew.pool.jobs s) (swept_parked crew.pool s
      (and_parts (has_timed_out end) (is_in s (to_sweep crew.pool)) is).1)
  becomes_kept (Sweeps growth pool) s may is =
      parked_kept (get crew.pool.jobs s) (swept_parked crew.pool s is)
  becomes_kept (IsWoken who number Entered growth pool) s may is =
      parked_kept (get crew.pool.jobs s)
      (rests number s is (woken_is (standing_of crew.pool.jobs number) may.answer))
  becomes_kept (IsWoken who number Marked growth pool) s may is = changed_kept entry_after_wake
      (λ job. refl) (λ job. refl) (λ job has. has) (get crew.pool.jobs s)
  becomes_kept (IsCancelled who number Entered growth pool) s may is =
      cancelled_kept (get crew.pool.jobs s)
      (rests number s is (cancelled_is (standing_of crew.pool.jobs number) may.answer))
  becomes_kept (IsCancelled who number Marked growth pool) s may is = changed_kept
      entry_after_cancel (λ job. refl) (λ job. refl) (λ job has. has) (get crew.pool.jobs s)
  becomes_kept (IsLetGo who act (Some number)) s may is =
      mark_kept (value_at (job_of crew.pool.jobs number)) (get crew.pool.jobs s)
  becomes_kept move s may is = absurd cc

  pub kept_after : (move : Move) (s : ℕ) → May may_answer crew move
      → IsKept (ends_turn move) (get crew.pool.jobs s) (get (after crew move).pool.jobs s)
  kept_after move s may =
      let change = change_of crew move in
      rw (found_after may_answer crew move s may)
      (cond_both (change.which s) (change.becomes (get crew.pool.jobs s)) (get crew.pool.jobs s)
      (IsKept (ends_turn move) (get crew.pool.jobs s)) (becomes_kept move s may)
      (λ is. same_kept (ends_turn move) (get crew.pool.jobs s)))
