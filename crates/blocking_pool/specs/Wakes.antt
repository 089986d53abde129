-- What a wake and a cancel do to a job, by how it stands; a job that a pool doesn't have stands
-- nowhere.
use Rattle.std.specs.Prelude.{Option, Some, None}
use Rattle.blocking_pool.specs.declared.pool.standing.Standing.{Standing}
use Rattle.blocking_pool.specs.declared.pool.standing.Standing.TheVariants.{Queued, Running, Parked}
use Rattle.blocking_pool.specs.declared.pool.standing.Standing.TheVariants.{Done, Dropped}
use Rattle.blocking_pool.specs.declared.pool.answer.Woke.{Woke}
use Rattle.blocking_pool.specs.declared.pool.answer.Woke.TheVariants.{Entered, Marked, Nothing}

-- a wake puts a parked job back, and flags a running one
abbrev pub wake_of : Option Standing → Woke
wake_of None = Nothing
wake_of (Some Queued) = Nothing
wake_of (Some Running) = Marked
wake_of (Some Parked) = Entered
wake_of (Some Done) = Nothing
wake_of (Some Dropped) = Nothing

-- a cancel puts a parked job back, and flags one that is queued or running
abbrev pub cancel_of : Option Standing → Woke
cancel_of None = Nothing
cancel_of (Some Queued) = Marked
cancel_of (Some Running) = Marked
cancel_of (Some Parked) = Entered
cancel_of (Some Done) = Nothing
cancel_of (Some Dropped) = Nothing
