-- The queue, by how its jobs came into it.
use Rattle.std.specs.Prelude.{◌≡◌, ℕ, ◌+◌, ◌<◌, ◌≤◌, ◌==◌, ◌&&◌, ◌||◌, not, min, nat_lt}
use Rattle.std.specs.Prelude.{if◌then◌else◌, ◌⊎◌, Bool, true, false, Option, Some, None}
use Rattle.blocking_pool.specs.declared.pool.bell.BellKind.{BellKind}
use Rattle.blocking_pool.specs.declared.pool.bell.BellKind.TheVariants.{Silent, One, All}
use Rattle.blocking_schedule.specs.declared.counts.PoolCounts.{PoolCounts}
use Rattle.blocking_schedule.specs.declared.place.Origin.{Origin}
use Rattle.blocking_schedule.specs.declared.place.Origin.TheVariants.{Rung, Swept}

-- whether a job is queued
abbrev pub has_job : PoolCounts → Bool
has_job pool = nat_lt 0 (pool.rung + pool.swept)

-- a worker that has waited must stop: there are more workers than the limit, or its time was up and
-- no job is queued
abbrev pub MustStop : Bool → PoolCounts → Type 0
MustStop is_late pool = (pool.limit < pool.workers) ⊎ ((is_late ≡ true) × (has_job pool ≡ false))

-- the same, as a test
abbrev pub must_stop : Bool → PoolCounts → Bool
must_stop is_late pool = nat_lt pool.limit pool.workers || (is_late && not (has_job pool))

-- the queue is as it was
abbrev pub QueueStays : PoolCounts → PoolCounts → Type 0
QueueStays old new = (new.rung ≡ old.rung) × (new.swept ≡ old.swept)

-- so many more jobs are queued of each sort
abbrev pub QueueGrows : ℕ → ℕ → PoolCounts → PoolCounts → Type 0
QueueGrows rung swept old new = (new.rung ≡ old.rung + rung) × (new.swept ≡ old.swept + swept)

-- of so many jobs that a sweep puts back: one by itself has a ring, and several have one together
abbrev pub rung_by_sweep : ℕ → ℕ
rung_by_sweep count = if count == 1 then 1 else 0

abbrev pub swept_by_sweep : ℕ → ℕ
swept_by_sweep count = if count == 1 then 0 else count

-- A sweep put so many jobs back, at least one, and so one more ring is owed at most.
pub record IsSweptFrom (old : PoolCounts) (count : ℕ) (new : PoolCounts) : Type 0 where
  pub workers : new.workers ≡ old.workers
  pub idle : new.idle ≡ old.idle
  pub arriving : new.arriving ≡ old.arriving
  pub limit : new.limit ≡ old.limit
  pub is_limit_set : new.is_limit_set ≡ old.is_limit_set
  pub some : 0 < count
  pub all : new.rung + new.swept ≡ old.rung + old.swept + count
  pub owed : new.rung + min 1 new.swept ≤ old.rung + min 1 old.swept + 1
  pub sorts : QueueGrows (rung_by_sweep count) (swept_by_sweep count) old new

-- the same, of the queue after a sweep of so many
abbrev pub WereSwept : ℕ → PoolCounts → PoolCounts → Type 0
WereSwept count old new = IsSweptFrom old count new

-- the job that is taken is queued, and where none is taken none is
abbrev pub IsTakenFrom : PoolCounts → Option Origin → Type 0
IsTakenFrom pool None = (pool.rung ≡ 0) × (pool.swept ≡ 0)
IsTakenFrom pool (Some Rung) = 0 < pool.rung
IsTakenFrom pool (Some Swept) = 0 < pool.swept

-- the queued jobs of this origin, and the other origin
abbrev pub jobs_of : Origin → PoolCounts → ℕ
jobs_of Rung pool = pool.rung
jobs_of Swept pool = pool.swept

abbrev pub other_than : Origin → Origin
other_than Rung = Swept
other_than Swept = Rung

-- the origin of the job that is taken: this one where there is such a job, else the other
abbrev pub front_of : Origin → PoolCounts → Option Origin
front_of wanted pool = if nat_lt 0 (jobs_of wanted pool) then Some wanted
    else if nat_lt 0 (jobs_of (other_than wanted) pool) then Some (other_than wanted) else None

-- the queue once this job is taken
abbrev pub QueueWithout : Option Origin → PoolCounts → PoolCounts → Type 0
QueueWithout None old new = QueueStays old new
QueueWithout (Some Rung) old new = (new.rung + 1 ≡ old.rung) × (new.swept ≡ old.swept)
QueueWithout (Some Swept) old new = (new.rung ≡ old.rung) × (new.swept + 1 ≡ old.swept)

-- whom a new limit rings: all, where a limit stood and was greater
abbrev pub RingsForLimit : PoolCounts → ℕ → BellKind → Type 0
RingsForLimit pool limit Silent = pool.is_limit_set ≡ true → pool.limit ≤ limit
RingsForLimit pool limit One = ⊥
RingsForLimit pool limit All = (pool.is_limit_set ≡ true) × (limit < pool.limit)
