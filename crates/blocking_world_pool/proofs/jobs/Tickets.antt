-- The tickets of jobs, and which jobs a sweep puts back.
use Rattle.std.proofs.Common.{◌≡◌, ℕ, ◌<◌, ◌≤◌, cond, Bool, true, false, refl, sym, ap, ◌∙◌}
use Rattle.std.proofs.Common.{if◌then◌else◌, List, [], ◌∷◌, Option, None, inl, inr, arith}
use Rattle.std.proofs.Common.{option_map, filter}
use Rattle.std.specs.FinMap.{get}
use Rattle.std.proofs.lemmas.Bool.{cases_lt, and_parts, and_from, cond_both}
use Rattle.blocking_world_pool.proofs.Types.{Ticket}
use Rattle.blocking_world_pool.proofs.Words.{Job, Jobs, entry_after_requeue, jobs_after_requeue}
use Rattle.blocking_world_pool.proofs.Words.{is_parked_job, is_in, serials_below, NoneDue, JobPool}
use Rattle.blocking_world_pool.proofs.Words.{is_due_to_sweep, to_sweep, is_valued, AreValued}
use Rattle.blocking_pool.proofs.SweepLemmas.{stands_below}
use Rattle.blocking_world_pool.proofs.jobs.Lookups.{job_requeued, in_filter}

-- a parked job that is valued stays so where it enters again
requeued_valued : (found : Option (Job Ticket)) → is_parked_job found ≡ true
    → is_valued found ≡ true → is_valued (option_map entry_after_requeue found) ≡ true
requeued_valued found parked has = grind arith

-- ---- sweeps

due_parked : (found : Option (Job Ticket)) → is_due_to_sweep found ≡ true
    → is_parked_job found ≡ true
due_parked found due = grind arith

-- what a sweep puts back is parked
pub swept_parked : (pool : JobPool) (s : ℕ) → is_in s (to_sweep pool) ≡ true
    → is_parked_job (get pool.jobs s) ≡ true
swept_parked pool s found = grind (arith, due_parked, and_parts, in_filter)

-- so each job that doesn't run has its ticket after it
pub swept_valued : (pool : JobPool) → AreValued pool.jobs
    → AreValued (jobs_after_requeue pool.jobs (to_sweep pool))
swept_valued pool valued s = grind (arith, job_requeued, cond_both, requeued_valued, swept_parked)

requeued_undue : (found : Option (Job Ticket))
    → is_due_to_sweep (option_map entry_after_requeue found) ≡ false
requeued_undue found = grind arith

undue_if : (b : Bool) (found : Option (Job Ticket)) → (is_due_to_sweep found ≡ true → b ≡ true)
    → is_due_to_sweep (if b then option_map entry_after_requeue found else found) ≡ false
undue_if b found due = let undue = requeued_undue found in grind (arith, due, undue)

-- after a sweep of a pool whose jobs have serials below the next, none is due
pub none_due : (pool : JobPool) (jobs : Jobs Ticket)
    → ((s : ℕ) → pool.next_serial ≤ s → get pool.jobs s ≡ None)
    → jobs ≡ jobs_after_requeue pool.jobs (to_sweep pool)
    → (s : ℕ) → is_due_to_sweep (get jobs s) ≡ false
none_due pool jobs unused swept s =
    ap (λ (j : Jobs Ticket). is_due_to_sweep (get j s)) swept
    ∙ ap is_due_to_sweep (job_requeued (to_sweep pool) pool.jobs s)
    ∙ undue_if (is_in s (to_sweep pool)) (get pool.jobs s) (λ due.
    in_filter (λ serial. is_due_to_sweep (get pool.jobs serial)) (serials_below pool.next_serial) s
    ∙ and_from (is_due_to_sweep (get pool.jobs s)) (is_in s (serials_below pool.next_serial))
    due (stands_below s pool.next_serial (within due)))
  where
    within : is_due_to_sweep (get pool.jobs s) ≡ true → s < pool.next_serial
    within due =
        elim (cases_lt s pool.next_serial) [
          | inl under ↦ under
          | inr over ↦
              (let bad : true ≡ false = sym due ∙ ap is_due_to_sweep (unused s over) in absurd cc)
        ]

filter_none : (test : ℕ → Bool) (ns : List ℕ) → ((n : ℕ) → test n ≡ false) → filter test ns ≡ []
filter_none test [] none = refl
filter_none test (n ∷ ns) none =
    ap (λ (b : Bool). cond b (n ∷ filter test ns) (filter test ns)) (none n)
    ∙ filter_none test ns none

-- and a sweep puts nothing back
pub sweeps_nothing : (pool : JobPool) → NoneDue pool → to_sweep pool ≡ []
sweeps_nothing pool none = filter_none (λ serial. is_due_to_sweep (get pool.jobs serial))
    (serials_below pool.next_serial) none
