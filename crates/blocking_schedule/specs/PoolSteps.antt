-- What the steps do to the pool's numbers, in the pool's own words (`blocking_pool/specs/Counts`
-- and `Growth`).
use Rattle.std.specs.Prelude.{◌≡◌, ℕ, Bool, true, false, ◌⊎◌, if◌then◌else◌, List, Option, Some}
use Rattle.std.specs.Prelude.{None, is_some, slice_get}
use Rattle.blocking_pool.specs.declared.pool.bell.BellKind.{BellKind}
use Rattle.blocking_pool.specs.declared.pool.bell.BellKind.TheVariants.{Silent, One}
use Rattle.blocking_pool.specs.Counts.{Counts, limit_of, after_ring, after_limit, after_release}
use Rattle.blocking_pool.specs.Counts.{after_pickup, after_stop}
use Rattle.blocking_pool.specs.Growth.{after_growth}
use Rattle.blocking_schedule.specs.declared.place.Origin.{Origin}
use Rattle.blocking_schedule.specs.declared.place.Place.{Place}
use Rattle.blocking_schedule.specs.declared.place.Place.TheVariants.{HasSwept, Passing, Called}
use Rattle.blocking_schedule.specs.declared.place.Place.TheVariants.{Claimed, Told, Ringing}
use Rattle.blocking_schedule.specs.declared.counts.PoolCounts.{PoolCounts}
use Rattle.blocking_schedule.specs.declared.schedule.Schedule.{Schedule}

-- whom the section of a thread there rings so far
abbrev pub bell_at : Place → BellKind
bell_at (HasSwept chosen) = One
bell_at (Passing chosen bell) = bell
bell_at (Called bell next) = bell
bell_at (Claimed bell next) = bell
bell_at (Told bell next) = bell
bell_at (Ringing bell next) = bell
bell_at _ = Silent

abbrev pub bell_of : Option Place → BellKind
bell_of None = Silent
bell_of (Some place) = bell_at place

-- The counts of a pool with these numbers and this bell. (starts aren't numbered here)
abbrev pub counts_of : PoolCounts → BellKind → Counts
counts_of pool bell =
    record {
      workers = pool.workers;
      idle = pool.idle;
      arriving = pool.arriving;
      limit = if pool.is_limit_set then Some pool.limit else None;
      setting = pool.limit;
      next_worker = 0;
      bell = bell;
    }

-- the numbers, the limit that a growth goes by, whether one stands, and the bell are those of these
-- counts
pub record Agree (pool : PoolCounts) (rung : BellKind) (counts : Counts) : Type 0 where
  pub workers : pool.workers ≡ counts.workers
  pub idle : pool.idle ≡ counts.idle
  pub arriving : pool.arriving ≡ counts.arriving
  pub limit : pool.limit ≡ limit_of counts
  pub stands : pool.is_limit_set ≡ is_some counts.limit
  pub bell : rung ≡ counts.bell

-- The step changes nothing, or the counts as a call of the pool does and the queue so.
abbrev pub ChangesBy : (Counts → Counts) → (PoolCounts → PoolCounts → Type 0) → ℕ → List Place
    → PoolCounts → List Place → PoolCounts → Type 0
ChangesBy change queue who old pool new after =
    ((new ≡ old) × (after ≡ pool)) ⊎ (Agree after (bell_of (slice_get new who))
    (change (counts_of pool (bell_of (slice_get old who)))) × queue pool after)

abbrev pub Changes : (Counts → Counts) → (PoolCounts → PoolCounts → Type 0) → ℕ → Schedule
    → Schedule → Type 0
Changes change queue who old new =
    ChangesBy change queue who old.threads.items old.pool new.threads.items new.pool

-- whom a new limit rings
abbrev pub bell_of_limit : ℕ → PoolCounts → BellKind
bell_of_limit limit pool = (after_limit limit (counts_of pool Silent)).bell

-- the worker of a turn is free, and one is rung where its job is queued again
abbrev pub after_end : Bool → Counts → Counts
after_end was_woken counts = after_ring (if was_woken then One else Silent) (after_release counts)

-- a worker takes up the first job, where there is one
abbrev pub after_taking : Option Origin → Counts → Counts
after_taking None counts = counts
after_taking (Some origin) counts = after_pickup counts

-- a worker stays, or stops where it must and rings one where a job is queued
abbrev pub after_decision : Bool → Bool → Counts → Counts
after_decision must is_queued counts = if must then after_stop is_queued counts else counts

-- one worker is started, and none is refused
abbrev pub after_start : Counts → Counts
after_start counts = after_growth counts (record { started = 1; refused = false })

-- none is started, since the start is refused
abbrev pub after_refusal : Counts → Counts
after_refusal counts = after_growth counts (record { started = 0; refused = true })
