-- A free worker passes over the ready jobs of a queue, and where no client limit is set they are
-- all its jobs.
use Rattle.std.proofs.Common.{◌≡◌, ◌⊎◌, ℕ, ◌+◌, ◌-◌, ◌<◌, Bool, true, false, [], length, ap, ◌∙◌}
use Rattle.std.proofs.Common.{sym, subst, refl, inl, inr, arith, Option, None}
use Rattle.std.proofs.lemmas.Bool.{cond_both}
use Rattle.std.specs.FinMap.{get, insert, remove}
use Rattle.blocking_pool.proofs.ReadyLemmas.{all_ready}
use Rattle.blocking_world_pool.proofs.Types.{Took, Drop, Run, Ticket}
use Rattle.blocking_world_pool.proofs.Words.{Counts, after_pickup, after_release, Growth}
use Rattle.blocking_world_pool.proofs.Words.{after_growth, JobNumber, Job, Jobs, ready, without}
use Rattle.blocking_world_pool.proofs.Words.{entry_after_take, is_running_as, without_job}
use Rattle.blocking_world_pool.proofs.Words.{PassesOver, JobPool, TakesFront, TakesTo}
use Rattle.blocking_world_pool.proofs.Words.{is_due_to_sweep, is_valued, AreValued}
use Rattle.blocking_world_pool.proofs.Words.{with_client_limit}
use Rattle.blocking_world_pool.proofs.jobs.Lookups.{job_put, job_out, taken_runs as taken_runs_in}

-- where no job is ready, and no client limit is set, none is queued
pub idle_shorter : (old new : JobPool) → ready old ≡ [] → new ≡ old → old.client_limit ≡ None
    → length new.queue ≡ length old.queue - 1
idle_shorter old new none same free =
    let empty : length old.queue ≡ 0 = ap length (sym (all_ready old free) ∙ none) in
    let kept : length new.queue ≡ length old.queue = ap (λ (p : JobPool). length p.queue) same in
    omega (arith, empty, kept)

-- a worker that took a job took the front one
pub takes_front : (may_answer : ℕ → Bool → Type 0) (old between : JobPool) (took : Took Ticket)
    (number : JobNumber) (seen : Growth)
    → ((value : Ticket) × (took ≡ Run number value))
    ⊎ ((value : Ticket) × (took ≡ Drop number value)) → TakesTo may_answer old took seen between
    → (value : Ticket) × (to_drop : Bool)
    × TakesFront may_answer old number value to_drop seen between
takes_front may_answer old between took number seen (inl ran) takes =
    (ran.0, false, subst (λ (t : Took Ticket). TakesTo may_answer old t seen between) ran.1 takes)
takes_front may_answer old between took number seen (inr dropped) takes = (
  dropped.0,
  true,
  subst (λ (t : Took Ticket). TakesTo may_answer old t seen between) dropped.1 takes,
)

-- what a test that nothing passes says of the jobs, it says after one was passed over
pub passed_at : (test : Option (Job Ticket) → Bool) (b : Bool) (jobs : Jobs Ticket) (t : ℕ)
    (entry : Job Ticket) (s : ℕ) → test None ≡ b → test (get jobs s) ≡ b
    → test (get (remove (insert jobs t entry) t) s) ≡ b
passed_at test b jobs t entry s none was = grind (arith, job_out, cond_both, job_put)

module _ (may_answer : ℕ → Bool → Type 0) (old between new : JobPool) (number : JobNumber)
    (value : Ticket) (to_drop : Bool) (seen : Growth)
    (takes : TakesFront may_answer old number value to_drop seen between) where
  taken_jobs : between.jobs ≡ insert old.jobs number.serial (entry_after_take takes.job)
  taken_jobs = ap (λ (p : JobPool). p.jobs) takes.after_is

  taken_counts : between.counts ≡ after_growth (after_pickup old.counts) seen
  taken_counts = ap (λ (p : JobPool). p.counts) takes.after_is

  -- the job that was taken runs
  pub taken_runs : is_running_as between.jobs number ≡ true
  taken_runs = ap (λ (jobs : Jobs Ticket). is_running_as jobs number) taken_jobs
      ∙ taken_runs_in old.jobs number takes.job takes.place

  module _ (ended : new ≡ without_job between number.serial) where
    ended_jobs : new.jobs
        ≡ remove (insert old.jobs number.serial (entry_after_take takes.job)) number.serial
    ended_jobs = ap (λ (p : JobPool). p.jobs) ended
        ∙ ap (λ (jobs : Jobs Ticket). remove jobs number.serial) taken_jobs

    ended_counts : new.counts ≡ after_release (after_growth (after_pickup old.counts) seen)
    ended_counts = ap (λ (p : JobPool). p.counts) ended ∙ ap after_release taken_counts

    -- the queue is shorter then
    pub took_shorter : length new.queue ≡ length old.queue - 1
    took_shorter =
        let left : new.queue ≡ without number.serial old.queue =
        ap (λ (p : JobPool). p.queue) ended ∙ ap (λ (p : JobPool). p.queue) takes.after_is in
        let fewer : length new.queue ≡ length (without number.serial old.queue) = ap length left in
        let once = takes.once in
        omega (arith, fewer, once)

    pub same_limit : new.client_limit ≡ old.client_limit
    same_limit = ap (λ (p : JobPool). p.client_limit) ended
        ∙ ap (λ (p : JobPool). p.client_limit) takes.after_is

    -- a job that is taken and ended is passed over
    pub passed_over : AreValued old.jobs → old.counts.arriving < old.counts.idle
        → PassesOver old new
    passed_over valued free =
        let idle : new.counts.idle ≡ old.counts.idle - 1 + seen.started + 1 =
        ap (λ (c : Counts). c.idle) ended_counts in
        let arriving : new.counts.arriving ≡ old.counts.arriving + seen.started =
        ap (λ (c : Counts). c.arriving) ended_counts in
        record {
          valued = λ s. ap (λ (jobs : Jobs Ticket). is_valued (get jobs s)) ended_jobs ∙ passed_at
              is_valued true old.jobs number.serial (entry_after_take takes.job) s refl (valued s);
          free = omega arith;
          level = omega arith;
          due = λ none s. ap (λ (jobs : Jobs Ticket). is_due_to_sweep (get jobs s)) ended_jobs
              ∙ passed_at is_due_to_sweep false old.jobs number.serial (entry_after_take takes.job)
              s refl (none s);
        }

-- what was passed over where a client limit was taken away first
pub passed_unlimited : (old free new : JobPool) → free ≡ with_client_limit None old
    → PassesOver free new → PassesOver old new
passed_unlimited old free new is passed =
    let same = rw is at passed in
    record { valued = same.valued; free = same.free; level = same.level; due = same.due }

-- what was passed over after that
pub passes_on : (old between new : JobPool) → PassesOver old between → PassesOver between new
    → PassesOver old new
passes_on old between new first next =
    let before = first.level in
    let after = next.level in
    record {
      valued = next.valued;
      free = next.free;
      level = omega (arith, before, after);
      due = λ none. next.due (first.due none);
    }

-- nothing was passed over yet
pub passes_none : (pool : JobPool) → AreValued pool.jobs → pool.counts.arriving < pool.counts.idle
    → PassesOver pool pool
passes_none pool valued free =
    record { valued = valued; free = free; level = refl; due = λ none. none }
