-- What each section under the pool's lock does: one call of the pool, or two where a worker takes
-- right away, and then the bell is asked.
use Rattle.std.specs.Prelude.{◌≡◌, ◌≤◌, ◌+◌, ℕ, Bool, false, nat_lt, Option, Some, None, Result, Ok}
use Rattle.std.specs.Prelude.{Err, List, length}
use Rattle.std.specs.Borrow.{Bor}
use Rattle.blocking_pool.specs.Jobs.{JobNumber, running_below}
use Rattle.blocking_pool.specs.Counts.{after_limit, after_bell}
use Rattle.blocking_pool.specs.Growth.{Asking, RefusesNone}
use Rattle.blocking_pool.specs.Pools.{Pool}
use Rattle.blocking_pool.specs.Pools as pools
use Rattle.blocking_pool.specs.PoolAnswers as pool
use Rattle.blocking_pool.specs.declared.pool.bell.BellKind.{BellKind}
use Rattle.blocking_pool.specs.declared.pool.answer.Refused.{Refused}
use Rattle.blocking_pool.specs.declared.pool.answer.Took.{Took}
use Rattle.blocking_pool.specs.declared.pool.answer.Woke.{Woke}
use Rattle.blocking_pool.specs.declared.pool.answer.Finish.{Finish}
use Rattle.blocking_pool.specs.declared.pool.answer.Gone.TheVariants.{Free, Stranger}
use Rattle.blocking_pool.specs.declared.pool.answer.Gone.TheVariants.{Drop as HandOut}
use Rattle.blocking_pool.specs.declared.pool.answer.Waited.TheVariants.{Stay, Stop}
use Rattle.blocking_pool.specs.declared.pool.token.WorkerPass.{WorkerPass}
use Rattle.blocking_executor.specs.declared.counts.Counts.{Counts}
use Rattle.blocking_executor.specs.declared.held.Ended.{Ended}
use Rattle.blocking_executor.specs.declared.held.Added.{Added}
use Rattle.blocking_executor.specs.declared.held.Ended.TheVariants as ended

-- whether so many workers are more than a limit that stands
abbrev pub is_over : Option ℕ → ℕ → Bool
is_over None workers = false
is_over (Some limit) workers = nat_lt limit workers

module _ {J : Type 0} where
  -- the bell tells what the calls of the section rang, and leaves the pool silent
  pub record Rings (before : Pool J) (bell : BellKind) (after : Pool J) : Type 0 where
    pub told : bell ≡ before.counts.bell
    pub silent : after ≡ record before { counts = after_bell before.counts }

  -- These are the workers and jobs of a pool: each worker that isn't idle runs one of its jobs, and
  -- who hasn't arrived is idle.
  pub record AreCountsOf (seen : Counts) (pool : Pool J) : Type 0 where
    pub workers : seen.workers ≡ pool.counts.workers
    pub idle : seen.idle ≡ pool.counts.idle
    pub arriving : seen.arriving ≡ pool.counts.arriving
    pub running : seen.running ≡ running_below pool.jobs pool.next_serial
    pub queued : seen.queued ≡ length pool.queue
    pub busy : seen.workers ≡ seen.idle + seen.running
    pub order : seen.arriving ≤ seen.idle

  -- a new pool
  abbrev pub Starts : Option (Bor (List ℕ)) → Pool J → Type 0
  Starts setting new = new ≡ pool.pool_of setting 1 1

  -- a job of a client is added
  abbrev pub Adds : Asking → Pool J → ℕ → J → Result JobNumber (Refused J) → Pool J → BellKind
      → Type 0
  Adds asking old client job answer new bell =
      (added : Pool J) × pool.Adds asking old client job answer added × Rings added bell new

  -- a job is added, and what tells that it was added names its client
  abbrev pub AddsFor : Asking → Pool J → ℕ → J → Result Added (Refused J) → Pool J → BellKind
      → Type 0
  AddsFor asking old client job (Ok entered) new bell =
      Adds asking old client job (Ok entered.number) new bell × (entered.client ≡ client)
  AddsFor asking old client job (Err refused) new bell =
      Adds asking old client job (Err refused) new bell

  -- a wake reaches its job
  abbrev pub Wakes : Asking → Pool J → JobNumber → Woke → Pool J → BellKind → Type 0
  Wakes asking old number woke new bell =
      (woken : Pool J) × pool.Wakes asking old number woke woken × Rings woken bell new

  -- the parked jobs that bear a mark are put back
  abbrev pub Sweeps : (J → Bool → Type 0) → Asking → Pool J → ℕ → Pool J → BellKind → Type 0
  Sweeps may_mark asking old count new bell =
      (swept : Pool J) × pool.Sweeps may_mark asking old count swept × Rings swept bell new

  -- a worker arrives, and takes
  abbrev pub ArrivesAndTakes : (J → Bool → Type 0) → Asking → Pool J → Option (Took J) → Pool J
      → BellKind → Type 0
  ArrivesAndTakes may_mark asking old None new bell =
      pool.Arrives old None old × Rings old bell new × RefusesNone asking
  ArrivesAndTakes may_mark asking old (Some took) new bell =
      (pass : WorkerPass) × (arrived : Pool J) × (taken : Pool J)
      × pool.Arrives old (Some pass) arrived × pool.Takes may_mark asking arrived took taken
      × Rings taken bell new

  -- a turn ends, and its worker takes; or its job is handed out to be dropped; or it is a
  -- stranger's
  abbrev pub EndsAndTakes : (J → Bool → Type 0) → Asking → Pool J → JobNumber → Finish J → Ended J
      → Pool J → BellKind → Type 0
  EndsAndTakes may_mark asking old turn finish (ended.Took took) new bell =
      (pass : WorkerPass) × (free : Pool J) × (taken : Pool J)
      × pool.Ends may_mark old turn finish (Free pass) free
      × pool.Takes may_mark asking free took taken × Rings taken bell new
  EndsAndTakes may_mark asking old turn finish (ended.Drop back job) new bell =
      pool.Ends may_mark old turn finish (HandOut back job) old × Rings old bell new
      × RefusesNone asking
  EndsAndTakes may_mark asking old turn finish (ended.Stranger back job) new bell =
      pool.Ends may_mark old turn finish (Stranger back job) old × Rings old bell new
      × RefusesNone asking

  -- a worker has waited, and takes or stops; where the wait timed out it sweeps first
  abbrev pub WaitsAndTakes : (J → Bool → Type 0) → Asking → Bool → Pool J → Option (Took J) → Pool J
      → BellKind → Type 0
  WaitsAndTakes may_mark asking timed_out old None new bell =
      (stopped : Pool J) × pool.Waits may_mark asking timed_out old Stop stopped
      × Rings stopped bell new
  WaitsAndTakes may_mark asking timed_out old (Some took) new bell =
      (pass : WorkerPass) × (stayed : Pool J) × (taken : Pool J) × (between : ℕ)
      × pool.Waits may_mark (record asking { refusals_after = between }) timed_out old (Stay pass)
      stayed
      × pool.Takes may_mark (record asking { refusals_before = between }) stayed took taken
      × Rings taken bell new

  -- the limit is set
  abbrev pub SetsLimit : ℕ → Pool J → Pool J → BellKind → Type 0
  SetsLimit limit old new bell =
      Rings (record old { counts = after_limit limit old.counts }) bell new

  -- the limit of running jobs for each client is set, or let go
  abbrev pub SetsClientLimit : Option ℕ → Pool J → Pool J → BellKind → Type 0
  SetsClientLimit limit old new bell =
      (set : Pool J) × pools.SetsClientLimit limit old set × Rings set bell new
