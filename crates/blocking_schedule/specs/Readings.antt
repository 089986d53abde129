-- What the invariants say, read once more in other words; and what single steps do.
use Rattle.std.specs.Prelude.{◌≡◌, ℕ, ◌+◌, ◌-◌, ◌<◌, ◌≤◌, Bool, true, false, List, Some, slice_get}
use Rattle.blocking_pool.specs.declared.pool.bell.BellKind.TheVariants.{One}
use Rattle.blocking_schedule.specs.declared.place.Place.{Place}
use Rattle.blocking_schedule.specs.declared.place.Place.TheVariants.{Called}
use Rattle.blocking_schedule.specs.declared.place.Next.TheVariants.{Stop}
use Rattle.blocking_schedule.specs.declared.counts.PoolCounts.{PoolCounts}
use Rattle.blocking_schedule.specs.Places.{ring_at, all_at, drop_at, sleepers, rings, alls, drops}
use Rattle.blocking_schedule.specs.Places.{holders, lookers}
use Rattle.blocking_schedule.specs.Queues.{has_job, MustStop}

-- Some thread is on its way: it is to ring, or a ring chose it and it takes the lock and then a job
-- before it sleeps, or it has a swept job in its hand and takes the next one when that is dropped.
pub record IsOnTheWay (threads : List Place) : Type 0 where
  pub who : ℕ
  pub at : Place
  pub is : slice_get threads who ≡ Some at
  pub counts : 0 < ring_at at + all_at at + drop_at at

-- Beside a job that is queued nobody sleeps unless some thread is on its way.
abbrev pub NobodyIsForgotten : List Place → PoolCounts → Type 0
NobodyIsForgotten threads pool = 0 < sleepers threads → has_job pool ≡ true → IsOnTheWay threads

-- Each queued job that no sweep put back with others has a ring of its own, if none of those is
-- queued or dropped.
abbrev pub EachHasItsRing : List Place → PoolCounts → Type 0
EachHasItsRing threads pool = 0 < sleepers threads → alls threads ≡ 0 → pool.swept ≡ 0
    → drops threads ≡ 0 → pool.rung ≤ rings threads

-- So many queued jobs may have no ring, while workers sleep: as many as the swept ones but one, and
-- one for each worker that drops a swept job, until it has.
abbrev pub FewHaveNone : List Place → PoolCounts → Type 0
FewHaveNone threads pool = 0 < sleepers threads → alls threads ≡ 0
    → pool.rung + pool.swept ≤ rings threads + ((pool.swept - 1) + drops threads)

-- Nobody sleeps over the limit, unless all are to be rung.
abbrev pub NobodySleepsOverTheLimit : List Place → PoolCounts → Type 0
NobodySleepsOverTheLimit threads pool = 0 < sleepers threads → pool.limit < pool.workers
    → 0 < alls threads

-- A worker that goes to sleep saw that no job is queued and that it need not stop.
abbrev pub SleepsBesideNoJob : List Place → PoolCounts → List Place → Type 0
SleepsBesideNoJob old pool new = sleepers old < sleepers new
    → (has_job pool ≡ false) × (pool.workers ≤ pool.limit)

-- A worker that stops does so by the pool's rule: there are more workers than the limit, or its
-- time was up and no job is queued. Beside a queued job it rings one, and is not the last.
pub record StopsByRule (is_late : Bool) (old : PoolCounts) (who : ℕ) (threads : List Place)
    (new : PoolCounts) : Type 0 where
  pub rule : MustStop is_late old
  pub rings : has_job old ≡ true → slice_get threads who ≡ Some (Called One Stop)
  pub last : has_job old ≡ true → 0 < new.workers

-- A claim is made by who has the lock. It takes one worker from those that may be claimed, and its
-- ring is with that worker.
pub record ClaimsOne (old new : List Place) : Type 0 where
  pub under_lock : holders old ≡ 1
  pub taken : lookers old ≡ lookers new + 1
  pub ring : rings new ≡ rings old
