-- What holds whatever steps were taken.
use Rattle.std.specs.Prelude.{◌≡◌, ◌+◌, ◌<◌, ◌≤◌, min, Bool, false, List}
use Rattle.blocking_pool.specs.Jobs.{one_if}
use Rattle.blocking_schedule.specs.declared.place.Place.{Place}
use Rattle.blocking_schedule.specs.declared.counts.PoolCounts.{PoolCounts}
use Rattle.blocking_schedule.specs.declared.schedule.Schedule.{Schedule}
use Rattle.blocking_schedule.specs.Queues.{has_job}
use Rattle.blocking_schedule.specs.Places.{sleepers, rings, alls, drops, holders, untold, lookers}
use Rattle.blocking_schedule.specs.Places.{turns, passes, arrivals}

-- The pool's numbers, beside the places of the threads.
pub record IsCounted (threads : List Place) (pool : PoolCounts) : Type 0 where
  -- the workers that aren't idle have a job in their hands, and the idle ones have a pass or
  -- haven't arrived
  pub workers : pool.workers ≡ pool.idle + turns threads
  pub idle : pool.idle ≡ passes threads + pool.arriving
  pub arriving : pool.arriving ≡ arrivals threads
  -- the limit is never 0, and there is no worker before it stands
  pub least : 0 < pool.limit
  pub unset : pool.is_limit_set ≡ false → pool.workers ≡ 0

-- The lock, and what stands beside it.
pub record IsGuarded (threads : List Place) (pool : PoolCounts)
    (is_locked is_manned is_queued : Bool) : Type 0 where
  -- who has the lock has it alone
  pub locked : holders threads ≡ one_if is_locked
  -- where the post is manned a worker looks that may be claimed
  pub manned : one_if is_manned ≤ lookers threads
  -- where nobody is between the pool's call and the telling, what was told is true
  pub told : untold threads ≡ 0 → is_queued ≡ has_job pool

-- Who sleeps, while no ring of all is under way.
pub record IsServed (threads : List Place) (pool : PoolCounts) : Type 0 where
  -- each job that was rung for has a ring or a worker that it chose, or one that drops a swept job
  -- and takes then; and so have all swept jobs together
  pub served : 0 < sleepers threads → alls threads ≡ 0
      → pool.rung + min 1 pool.swept ≤ rings threads + drops threads
  -- nobody sleeps over the limit
  pub within : 0 < sleepers threads → alls threads ≡ 0 → pool.workers ≤ pool.limit

pub record IsKept (threads : List Place) (pool : PoolCounts)
    (is_locked is_manned is_queued : Bool) : Type 0 where
  pub counted : IsCounted threads pool
  pub guarded : IsGuarded threads pool is_locked is_manned is_queued
  pub served : IsServed threads pool

abbrev pub IsSound : Schedule → Type 0
IsSound s = IsKept s.threads.items s.pool s.is_locked s.is_manned s.is_queued
