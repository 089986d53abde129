-- What the calls of a pool answer.
use Rattle.std.specs.Prelude.{◌≡◌, ◌<◌, ℕ, Bool, true, false, not, ◌&&◌, ◌||◌, if◌then◌else◌}
use Rattle.std.specs.Prelude.{nat_lt, option_map, List, [], ◌∷◌, length, Option, Some, None, Result}
use Rattle.std.specs.Prelude.{Ok, Err}
use Rattle.blocking_pool.specs.Jobs.{Job, JobNumber, job_of, standing_of, is_running_as}
use Rattle.blocking_pool.specs.Jobs.{entry_after_wake, entry_after_cancel}
use Rattle.blocking_pool.specs.Pools.{Pool, ready, empty_pool, Enters, IsRefused, IsToDrop}
use Rattle.blocking_pool.specs.Pools.{TakesFront, EnterAgain, with_job, without_job, after_park}
use Rattle.blocking_pool.specs.Pools.{after_return}
use Rattle.blocking_pool.specs.Sweeps.{AreAsked, serials_below, swept}
use Rattle.blocking_pool.specs.Wakes.{wake_of, cancel_of}
use Rattle.blocking_pool.specs.Counts.{limit_of, after_arrival, after_stop}
use Rattle.blocking_pool.specs.Growth.{Asking, RefusesNone}
use Rattle.std.specs.Borrow.{Bor}
use Rattle.blocking_pool.specs.Limits.{limit_of_setting}
use Rattle.blocking_pool.specs.declared.pool.answer.Refused.{Refused}
use Rattle.blocking_pool.specs.declared.pool.answer.Took.{Took}
use Rattle.blocking_pool.specs.declared.pool.answer.Took.TheVariants.{Run, Drop, Idle}
use Rattle.blocking_pool.specs.declared.pool.answer.Woke.{Woke}
use Rattle.blocking_pool.specs.declared.pool.answer.Woke.TheVariants.{Entered, Marked, Nothing}
use Rattle.blocking_pool.specs.declared.pool.answer.Finish.{Finish}
use Rattle.blocking_pool.specs.declared.pool.answer.Finish.TheVariants.{Done, Dropped, Waiting}
use Rattle.blocking_pool.specs.declared.pool.standing.Standing.TheVariants.{Running}
use Rattle.blocking_pool.specs.declared.pool.answer.Waited.{Waited}
use Rattle.blocking_pool.specs.declared.pool.answer.Waited.TheVariants.{Stay, Stop}
use Rattle.blocking_pool.specs.declared.pool.answer.Gone.{Gone}
use Rattle.blocking_pool.specs.declared.pool.answer.Gone.TheVariants.{Free, Stranger}
use Rattle.blocking_pool.specs.declared.pool.answer.Gone.TheVariants.{Drop as HandOut}
use Rattle.blocking_pool.specs.declared.pool.token.WorkerPass.{WorkerPass}

abbrev pub is_empty : List ℕ → Bool
is_empty [] = true
is_empty (serial ∷ serials) = false

module _ {J : Type 0} where
  -- a pool of this setting, with no job and no worker, whose next job and worker have these numbers
  abbrev pub pool_of : Option (Bor (List ℕ)) → ℕ → ℕ → Pool J
  pool_of setting serial worker =
      empty_pool (limit_of_setting (option_map (λ text. text.now) setting)) serial worker

  -- a new job is accepted, or comes back
  abbrev pub Adds : Asking → Pool J → ℕ → J → Result JobNumber (Refused J) → Pool J → Type 0
  Adds asking old client value (Ok number) new = Enters asking old client value number new
  Adds asking old client value (Err refused) new =
      (refused.back ≡ value) × IsRefused asking old client refused.why new

  -- a worker arrives, where one was started and hasn't arrived
  abbrev pub Arrives : Pool J → Option WorkerPass → Pool J → Type 0
  Arrives old None new = (old.counts.arriving ≡ 0) × (new ≡ old)
  Arrives old (Some pass) new =
      (0 < old.counts.arriving) × (new ≡ record old { counts = after_arrival old.counts })
      × (new.counts.arriving < new.counts.idle)

  -- a worker takes the first ready job, to run it or to drop it, or finds none
  abbrev pub Takes : (J → Bool → Type 0) → Asking → Pool J → Took J → Pool J → Type 0
  Takes may_mark asking old (Run turn value) new =
      TakesFront may_mark asking old turn value false new
  Takes may_mark asking old (Drop turn value) new =
      TakesFront may_mark asking old turn value true new
  Takes may_mark asking old (Idle pass) new = (ready old ≡ []) × (new ≡ old) × RefusesNone asking

  -- what a wake leaves: the job enters again, or is marked as woken
  abbrev pub WakesTo : Asking → Pool J → ℕ → Woke → Pool J → Type 0
  WakesTo asking old serial Entered new = EnterAgain asking old (serial ∷ []) new
  WakesTo asking old serial Marked new =
      (new ≡ with_job old serial entry_after_wake) × RefusesNone asking
  WakesTo asking old serial Nothing new = (new ≡ old) × RefusesNone asking

  -- what a cancel leaves: the job is flagged, and enters again if it was parked
  abbrev pub CancelsTo : Asking → Pool J → ℕ → Woke → Pool J → Type 0
  CancelsTo asking old serial Entered new =
      EnterAgain asking (with_job old serial entry_after_cancel) (serial ∷ []) new
  CancelsTo asking old serial Marked new =
      (new ≡ with_job old serial entry_after_cancel) × RefusesNone asking
  CancelsTo asking old serial Nothing new = (new ≡ old) × RefusesNone asking

  -- a wake, by how its job stands
  pub record Wakes (asking : Asking) (old : Pool J) (number : JobNumber) (woke : Woke)
      (new : Pool J) : Type 0 where
    pub answer : woke ≡ wake_of (standing_of old.jobs number)
    pub effect : WakesTo asking old number.serial woke new

  -- a cancel, by how its job stands
  pub record Cancels (asking : Asking) (old : Pool J) (number : JobNumber) (woke : Woke)
      (new : Pool J) : Type 0 where
    pub answer : woke ≡ cancel_of (standing_of old.jobs number)
    pub effect : CancelsTo asking old number.serial woke new

  -- the jobs that a sweep puts back enter again, if there are any
  abbrev pub SweepsTo : Asking → Pool J → List ℕ → Pool J → Type 0
  SweepsTo asking old [] new = (new ≡ old) × RefusesNone asking
  SweepsTo asking old (serial ∷ serials) new = EnterAgain asking old (serial ∷ serials) new

  -- A sweep: the parked jobs that bear a mark enter again, in the order in which they were
  -- accepted.
  pub record Sweeps (may_mark : J → Bool → Type 0) (asking : Asking) (old : Pool J) (count : ℕ)
      (new : Pool J) : Type 0 where
    pub marked : ℕ → Bool
    pub asked : AreAsked may_mark old.jobs marked
    pub counted : count ≡ length (swept old.jobs marked (serials_below old.next_serial))
    pub effect : SweepsTo asking old (swept old.jobs marked (serials_below old.next_serial)) new

  -- a wait that timed out sweeps first
  abbrev pub SweepsIf : Bool → (J → Bool → Type 0) → Asking → Pool J → Pool J → Type 0
  SweepsIf false may_mark asking old new = (new ≡ old) × RefusesNone asking
  SweepsIf true may_mark asking old new = (count : ℕ) × Sweeps may_mark asking old count new

  -- whether a worker must stop after a wait: there are more workers than the limit, or the wait
  -- timed out with an empty queue
  abbrev pub must_stop : Bool → Pool J → Bool
  must_stop timed_out pool =
      nat_lt (limit_of pool.counts) pool.counts.workers || (timed_out && is_empty pool.queue)

  -- a worker stays after a wait, and nothing changes, or it stops
  abbrev pub StaysOrStops : Bool → Pool J → Waited → Pool J → Type 0
  StaysOrStops timed_out old (Stay pass) new =
      (must_stop timed_out old ≡ false) × (new ≡ old) × (new.counts.arriving < new.counts.idle)
  StaysOrStops timed_out old Stop new = (must_stop timed_out old ≡ true)
      × (new ≡ record old { counts = after_stop (not (is_empty old.queue)) old.counts })

  -- a worker has waited: it sweeps if the wait timed out, and then it stays or stops
  pub record Waits (may_mark : J → Bool → Type 0) (asking : Asking) (timed_out : Bool)
      (old : Pool J) (waited : Waited) (new : Pool J) : Type 0 where
    pub between : Pool J
    pub sweep : SweepsIf timed_out may_mark asking old between
    pub answer : StaysOrStops timed_out between waited new

  -- the job that comes with the end of a turn
  abbrev pub value_of : Finish J → Option J
  value_of Done = None
  value_of Dropped = None
  value_of (Waiting value) = Some value

  -- What becomes of a job whose run ended: one that waits is handed out where it is to be dropped,
  -- and runs until then; else it goes back to the queue where a wake met it, and parks where none
  -- did. A job that is over leaves.
  abbrev pub EndsTo : (J → Bool → Type 0) → Pool J → JobNumber → Job J → Finish J → Gone J → Pool J
      → Type 0
  EndsTo may_mark old turn job Done (Free pass) new = new ≡ without_job old turn.serial
  EndsTo may_mark old turn job Dropped (Free pass) new = new ≡ without_job old turn.serial
  EndsTo may_mark old turn job (Waiting value) (Free pass) new =
      IsToDrop may_mark job.cancelled value false × (new ≡ (if job.woken
      then after_return old turn.serial value else after_park old turn.serial value))
  EndsTo may_mark old turn job (Waiting value) (HandOut back given) new =
      IsToDrop may_mark job.cancelled value true × (back ≡ turn) × (given ≡ value) × (new ≡ old)
  EndsTo may_mark old turn job _ _ new = ⊥

  -- whether the end leaves a free worker
  abbrev pub IfFree : Gone J → Type 0 → Type 0
  IfFree (Free pass) P = P
  IfFree _ P = Unit {0}

  -- a turn of this pool ends
  pub record EndsOwn (may_mark : J → Bool → Type 0) (old : Pool J) (turn : JobNumber)
      (finish : Finish J) (gone : Gone J) (new : Pool J) : Type 0 where
    pub job : Job J
    pub found : job_of old.jobs turn ≡ Some job
    pub runs : job.standing ≡ Running
    pub effect : EndsTo may_mark old turn job finish gone new
    pub free : IfFree gone (new.counts.arriving < new.counts.idle)

  -- a turn ends, or is a stranger's
  abbrev pub Ends : (J → Bool → Type 0) → Pool J → JobNumber → Finish J → Gone J → Pool J → Type 0
  Ends may_mark old turn finish (Stranger back job) new =
      (is_running_as old.jobs turn ≡ false) × (back ≡ turn) × (job ≡ value_of finish) × (new ≡ old)
  Ends may_mark old turn finish gone new = EndsOwn may_mark old turn finish gone new
