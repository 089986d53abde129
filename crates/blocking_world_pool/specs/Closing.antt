-- How turns end, and what is known of the hands while a crew ends.
use Rattle.std.specs.Prelude.{◌≡◌, ◌≢◌, ◌<◌, ◌+◌, ℕ, Bool, true, false, List, slice_get, Some}
use Rattle.std.specs.FinMap.{get}
use Rattle.blocking_pool.specs.Jobs.{Jobs, is_running_as}
use Rattle.blocking_pool.specs.Pools.{without_job}
use Rattle.blocking_pool.specs.declared.pool.token.WorkerPass.{WorkerPass}
use Rattle.blocking_world_pool.specs.Crews.{free_hands}
use Rattle.blocking_world_pool.specs.Tickets.{JobPool, AreValued, is_due_to_sweep}
use Rattle.blocking_world_pool.specs.declared.hand.Hand.{Hand}
use Rattle.blocking_world_pool.specs.declared.hand.Hand.TheVariants.{Free, Holds}
use Rattle.blocking_world_pool.specs.declared.hand.JobInHand.{JobInHand}
use Rattle.blocking_world_pool.specs.declared.ticket.Ticket.{Ticket}

-- every start is refused
abbrev pub RefusesAll : (ℕ → Bool → Type 0) → Type 0
RefusesAll may_answer = (number : ℕ) (refused : Bool) → may_answer number refused → refused ≡ true

-- the job in a hand runs
abbrev pub RunsIn : Jobs Ticket → Hand → Type 0
RunsIn jobs (Holds held) = is_running_as jobs held.turn ≡ true
RunsIn jobs _ = Unit {0}

-- The turn of the job in a hand ends, where it holds one: its worker is idle then, and the job
-- leaves the pool.
abbrev pub EndsTurn : Hand → JobPool → Hand → JobPool → Type 0
EndsTurn (Holds held) pool after new =
    (pass : WorkerPass) × (after ≡ Free pass) × (new ≡ without_job pool held.turn.serial)
EndsTurn hand pool after new = (after ≡ hand) × (new ≡ pool)

-- no job is parked that a sweep would put back
abbrev pub NoneDue : JobPool → Type 0
NoneDue pool = (serial : ℕ) → is_due_to_sweep (get pool.jobs serial) ≡ false

-- The hands after every turn has ended, and their pool: each job that doesn't run has its ticket,
-- the idle workers are those that haven't arrived and those with a free hand, and no hand holds a
-- job.
pub record AreIdle (pool : JobPool) (hands : List Hand) : Type 0 where
  pub valued : AreValued pool.jobs
  pub idle : pool.counts.idle ≡ pool.counts.arriving + free_hands hands
  pub jobless : (n : ℕ) (held : JobInHand) → slice_get hands n ≢ Some (Holds held)

-- A free worker has passed over jobs: each job that doesn't run has its ticket, a worker is free,
-- as many idle workers have arrived as before, and where no job was due to be put back, none is.
pub record PassesOver (old new : JobPool) : Type 0 where
  pub valued : AreValued new.jobs
  pub free : new.counts.arriving < new.counts.idle
  pub level : new.counts.idle + old.counts.arriving ≡ old.counts.idle + new.counts.arriving
  pub due : NoneDue old → NoneDue new
