-- What the calls of a pool of tickets answer, with the growth that each has.
use Rattle.std.specs.Prelude.{◌≡◌, ◌<◌, ℕ, ◌+◌, Bool, true, false, ◌&&◌, ◌||◌, List, [], ◌∷◌}
use Rattle.std.specs.Prelude.{length, filter, Option, Some, None, is_some, Result, Ok, Err}
use Rattle.std.specs.Coded.{Coded}
use Rattle.std.specs.FinMap as map
use Rattle.blocking_pool.specs.Counts.{Counts, limit_of, after_pickup, after_ring}
use Rattle.blocking_pool.specs.Growth.{Growth, IsGrowth, StartAnswer, after_growth, greatest}
use Rattle.blocking_pool.specs.Jobs.{Job, Jobs, JobNumber, is_running, is_parked, entry_after_wake}
use Rattle.blocking_pool.specs.Jobs.{entry_after_cancel, entry_with, job_of, standing_of, value_at}
use Rattle.blocking_pool.specs.PoolAnswers.{StaysOrStops}
use Rattle.blocking_pool.specs.Lists.{without, first_of}
use Rattle.blocking_pool.specs.Pools.{Pool, pool_code, ready, ready_with, with_taken}
use Rattle.blocking_pool.specs.Pools.{ring_of_client_limit, after_entry, after_requeue, after_park}
use Rattle.blocking_pool.specs.Pools.{after_return, with_job}
use Rattle.blocking_pool.specs.Sweeps.{serials_below}
use Rattle.blocking_pool.specs.Wakes.{wake_of, cancel_of}
use Rattle.blocking_pool.specs.declared.pool.answer.Refusal.{Refusal}
use Rattle.blocking_pool.specs.declared.pool.answer.Refusal.TheVariants.{Memory, NoWorker, Numbers}
use Rattle.blocking_pool.specs.declared.pool.answer.Took.{Took}
use Rattle.blocking_pool.specs.declared.pool.answer.Took.TheVariants.{Run, Drop, Idle}
use Rattle.blocking_pool.specs.declared.pool.answer.Waited.{Waited}
use Rattle.blocking_pool.specs.declared.pool.answer.Woke.{Woke}
use Rattle.blocking_pool.specs.declared.pool.answer.Woke.TheVariants.{Entered, Marked, Nothing}
use Rattle.blocking_pool.specs.declared.pool.standing.Standing.TheVariants.{Queued, Running}
use Rattle.blocking_world_pool.specs.declared.ticket.Ticket.{Ticket}
use Rattle.blocking_world_pool.specs.contracts.ticket.Ticket.{the_row}
use Rattle.blocking_world_pool.specs.declared.tickets.Parking.{Parking}
use Rattle.blocking_world_pool.specs.declared.tickets.Parking.TheVariants as parking

-- no start at all
abbrev pub no_growth : Growth
no_growth = record { started = 0; refused = false }

-- a ticket that nobody let go
abbrev pub new_ticket : Ticket
new_ticket = record { is_marked = false }

-- a pool of tickets
abbrev pub JobPool : Type 0
JobPool = Pool Ticket

abbrev pub job_pool_code : Coded JobPool
job_pool_code = pool_code the_row.coded

-- The growth of counts for so many ready jobs: the starts are due, and are answered so.
abbrev pub GrowsBy : (ℕ → Bool → Type 0) → ℕ → Counts → Growth → Type 0
GrowsBy may_answer ready counts growth =
    IsGrowth (StartAnswer may_answer) ready counts.idle counts.workers (limit_of counts)
    counts.next_worker growth

-- ---- new jobs

-- A new job of a client stands at the queue's end under the next serial, which was no job's, after
-- a growth that leaves a worker. The pool grows by the jobs that are ready then.
pub record Accepts (may_answer : ℕ → Bool → Type 0) (old : JobPool) (client : ℕ)
    (number : JobNumber) (growth : Growth) (new : JobPool) : Type 0 where
  pub serial : number.serial ≡ old.next_serial
  pub left : old.next_serial < greatest
  pub unused : map.get old.jobs old.next_serial ≡ None
  pub starts : GrowsBy may_answer (length (ready new)) old.counts growth
  pub staffed : 0 < old.counts.workers + growth.started
  pub after_is : new
      ≡ after_entry old number.place client new_ticket (after_growth old.counts growth)

-- A new job finds no worker, and nothing stays of it but the counts of its growth, which was by the
-- jobs that are ready, and by the new one where its client has room.
pub record FindsNoWorker (may_answer : ℕ → Bool → Type 0) (old : JobPool) (client : ℕ)
    (growth : Growth) (new : JobPool) : Type 0 where
  pub left : old.next_serial < greatest
  pub starts : GrowsBy may_answer (ready_with old client) old.counts growth
  pub unstaffed : old.counts.workers + growth.started ≡ 0
  pub after_is : new ≡ record old { counts = after_growth old.counts growth }

-- a new job is refused, and why
abbrev pub Refuses : (ℕ → Bool → Type 0) → JobPool → ℕ → Refusal → Growth → JobPool → Type 0
Refuses may_answer old client Numbers growth new =
    (old.next_serial ≡ greatest) × (growth ≡ no_growth) × (new ≡ old)
Refuses may_answer old client Memory growth new =
    (growth ≡ no_growth) × (new ≡ old) × (old.next_serial < greatest)
Refuses may_answer old client NoWorker growth new = FindsNoWorker may_answer old client growth new

-- a new job of a client is accepted or refused
abbrev pub AddsTo : (ℕ → Bool → Type 0) → JobPool → ℕ → Result JobNumber Refusal → Growth → JobPool
    → Type 0
AddsTo may_answer old client (Ok number) growth new =
    Accepts may_answer old client number growth new
AddsTo may_answer old client (Err why) growth new = Refuses may_answer old client why growth new

-- ---- takes

-- The first ready job is taken, which is queued, once, to be dropped where it was cancelled or is
-- marked, and else to be run. The pool grows by the jobs that are ready then.
pub record TakesFront (may_answer : ℕ → Bool → Type 0) (old : JobPool) (number : JobNumber)
    (value : Ticket) (to_drop : Bool) (growth : Growth) (new : JobPool) : Type 0 where
  pub front : first_of (ready old) ≡ Some number.serial
  pub once : length (without number.serial old.queue) + 1 ≡ length old.queue
  pub job : Job Ticket
  pub found : map.get old.jobs number.serial ≡ Some job
  pub stands : job.standing ≡ Queued
  pub place : job.place ≡ number.place
  pub value_is : job.value ≡ Some value
  pub wanted : to_drop ≡ (job.cancelled || value.is_marked)
  pub starts : GrowsBy may_answer (length (ready new)) (after_pickup old.counts) growth
  pub after_is : new ≡ record (with_taken old number.serial job)
      { counts = after_growth (after_pickup old.counts) growth }

-- a worker takes the first ready job, or finds none
abbrev pub TakesTo : (ℕ → Bool → Type 0) → JobPool → Took Ticket → Growth → JobPool → Type 0
TakesTo may_answer old (Run turn value) growth new =
    TakesFront may_answer old turn value false growth new
TakesTo may_answer old (Drop turn value) growth new =
    TakesFront may_answer old turn value true growth new
TakesTo may_answer old (Idle pass) growth new =
    (ready old ≡ []) × (growth ≡ no_growth) × (new ≡ old)

-- ---- wakes and cancels

-- Jobs that were parked enter again, in this order, and the pool grows once, by all jobs that are
-- ready then.
pub record EntersAgain (may_answer : ℕ → Bool → Type 0) (old : JobPool) (serials : List ℕ)
    (growth : Growth) (new : JobPool) : Type 0 where
  pub starts : GrowsBy may_answer (length (ready new)) old.counts growth
  pub after_is : new ≡ after_requeue old serials (after_growth old.counts growth)

-- what a wake leaves
abbrev pub WakesTo : (ℕ → Bool → Type 0) → JobPool → ℕ → Woke → Growth → JobPool → Type 0
WakesTo may_answer old serial Entered growth new =
    EntersAgain may_answer old (serial ∷ []) growth new
WakesTo may_answer old serial Marked growth new =
    (growth ≡ no_growth) × (new ≡ with_job old serial entry_after_wake)
WakesTo may_answer old serial Nothing growth new = (growth ≡ no_growth) × (new ≡ old)

-- a wake, by how its job stands
pub record Wakes (may_answer : ℕ → Bool → Type 0) (old : JobPool) (number : JobNumber) (woke : Woke)
    (growth : Growth) (new : JobPool) : Type 0 where
  pub answer : woke ≡ wake_of (standing_of old.jobs number)
  pub effect : WakesTo may_answer old number.serial woke growth new

-- what a cancel leaves
abbrev pub CancelsTo : (ℕ → Bool → Type 0) → JobPool → ℕ → Woke → Growth → JobPool → Type 0
CancelsTo may_answer old serial Entered growth new =
    EntersAgain may_answer (with_job old serial entry_after_cancel) (serial ∷ []) growth new
CancelsTo may_answer old serial Marked growth new =
    (growth ≡ no_growth) × (new ≡ with_job old serial entry_after_cancel)
CancelsTo may_answer old serial Nothing growth new = (growth ≡ no_growth) × (new ≡ old)

-- a cancel, by how its job stands
pub record Cancels (may_answer : ℕ → Bool → Type 0) (old : JobPool) (number : JobNumber)
    (woke : Woke) (growth : Growth) (new : JobPool) : Type 0 where
  pub answer : woke ≡ cancel_of (standing_of old.jobs number)
  pub effect : CancelsTo may_answer old number.serial woke growth new

-- ---- sweeps and waits

-- whether a ticket is there, and marked
abbrev pub is_marked_ticket : Option Ticket → Bool
is_marked_ticket None = false
is_marked_ticket (Some ticket) = ticket.is_marked

-- whether a sweep puts a job back: it is parked, and bears a mark
abbrev pub is_due_to_sweep : Option (Job Ticket) → Bool
is_due_to_sweep None = false
is_due_to_sweep (Some job) = is_parked job.standing && is_marked_ticket job.value

-- what a sweep puts back, in the order in which the jobs were accepted
abbrev pub to_sweep : JobPool → List ℕ
to_sweep pool =
    filter (λ serial. is_due_to_sweep (map.get pool.jobs serial)) (serials_below pool.next_serial)

-- whether a job runs or has its ticket
abbrev pub is_valued : Option (Job Ticket) → Bool
is_valued None = true
is_valued (Some job) = is_running job.standing || is_some job.value

-- each job that doesn't run has its ticket in the pool
abbrev pub AreValued : Jobs Ticket → Type 0
AreValued jobs = (serial : ℕ) → is_valued (map.get jobs serial) ≡ true

-- these jobs enter again, if there are any
abbrev pub SweepsTo : (ℕ → Bool → Type 0) → JobPool → List ℕ → Growth → JobPool → Type 0
SweepsTo may_answer old [] growth new = (growth ≡ no_growth) × (new ≡ old)
SweepsTo may_answer old (serial ∷ serials) growth new =
    EntersAgain may_answer old (serial ∷ serials) growth new

-- a wait that timed out sweeps
abbrev pub SweepsIf : Bool → (ℕ → Bool → Type 0) → JobPool → Growth → JobPool → Type 0
SweepsIf false may_answer old growth new = (growth ≡ no_growth) × (new ≡ old)
SweepsIf true may_answer old growth new = SweepsTo may_answer old (to_sweep old) growth new

-- A worker has waited: it sweeps if its wait timed out, and the pool grows by what was put back;
-- then it stays or stops.
pub record WaitsSo (may_answer : ℕ → Bool → Type 0) (timed_out : Bool) (old : JobPool)
    (waited : Waited) (growth : Growth) (new : JobPool) : Type 0 where
  pub between : JobPool
  pub sweep : SweepsIf timed_out may_answer old growth between
  pub answer : StaysOrStops timed_out between waited new

-- ---- the end of a run that waits

-- What becomes of a job whose run ended waiting: it is handed out where it is to be dropped, goes
-- back to the queue where a wake met it, and parks where none did.
abbrev pub ParksTo : JobPool → JobNumber → Ticket → Job Ticket → Parking → JobPool → Type 0
ParksTo old turn ticket job (parking.Parked pass) new = (job.cancelled || ticket.is_marked ≡ false)
    × (job.woken ≡ false) × (new ≡ after_park old turn.serial ticket)
ParksTo old turn ticket job (parking.Queued pass) new = (job.cancelled || ticket.is_marked ≡ false)
    × (job.woken ≡ true) × (new ≡ after_return old turn.serial ticket)
ParksTo old turn ticket job (parking.HandedOut back) new =
    (job.cancelled || ticket.is_marked ≡ true) × (back ≡ turn) × (new ≡ old)

-- the run of a job ends waiting, with its ticket made anew
pub record ParksSo (old : JobPool) (turn : JobNumber) (ticket : Ticket) (parked : Parking)
    (new : JobPool) : Type 0 where
  pub job : Job Ticket
  pub found : job_of old.jobs turn ≡ Some job
  pub runs : job.standing ≡ Running
  pub effect : ParksTo old turn ticket job parked new

-- ---- marks

-- a marked ticket
abbrev pub ticket_after_mark : Ticket → Ticket
ticket_after_mark ticket = record ticket { is_marked = true }

-- the pool after the ticket of a job was marked, where it was there
abbrev pub pool_after_mark_of : JobPool → JobNumber → Option Ticket → JobPool
pool_after_mark_of pool number None = pool
pool_after_mark_of pool number (Some value) =
    with_job pool number.serial (entry_with (ticket_after_mark value))

-- the pool after the job of this number was marked, where its ticket is there
abbrev pub pool_after_mark : JobPool → JobNumber → JobPool
pool_after_mark pool number = pool_after_mark_of pool number (value_at (job_of pool.jobs number))

-- the pool after a party let go of the job of this number, or of none
abbrev pub pool_after_let_go : JobPool → Option JobNumber → JobPool
pool_after_let_go pool None = pool
pool_after_let_go pool (Some number) = pool_after_mark pool number

-- ---- the client limit

-- the pool after its client limit was set, or taken away
abbrev pub with_client_limit : Option ℕ → JobPool → JobPool
with_client_limit limit pool = record pool {
  client_limit = limit;
  counts = after_ring (ring_of_client_limit limit pool.client_limit) pool.counts;
}
