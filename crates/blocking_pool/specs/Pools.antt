-- What contracts see of a pool, and what its calls do.
use Rattle.std.specs.Prelude.{◌≡◌, ℕ, ◌+◌, ◌<◌, ◌≤◌, ◌||◌, if◌then◌else◌, nat_lt, Bool, false, List}
use Rattle.std.specs.Prelude.{[], ◌∷◌, ◌++◌, filter, length, Option, Some, None, IfSome, refl}
use Rattle.std.specs.FinMap as map
use Rattle.std.specs.Coded.{Coded, code_by, coded×, coded_ℕ, coded_list, coded_option}
use Rattle.blocking_pool.specs.Clients.{is_below}
use Rattle.blocking_pool.specs.Lists.{is_in, IsOnce, without, first_of}
use Rattle.blocking_pool.specs.Ready.{client_of, running_of}
use Rattle.blocking_pool.specs.Jobs.{Job, Jobs, JobNumber, jobs_code, one_if, is_queued, new_job}
use Rattle.blocking_pool.specs.Jobs.{entry_after_take, running_below, entry_after_park}
use Rattle.blocking_pool.specs.Jobs.{entry_after_requeue, amend, jobs_after_requeue}
use Rattle.blocking_pool.specs.Counts.{Counts, counts_code, no_workers, after_pickup, after_release}
use Rattle.blocking_pool.specs.Counts.{after_ring, AreInOrder}
use Rattle.blocking_pool.specs.Growth.{Asking, RefusesNone, Growth, Grows, greatest}
use Rattle.blocking_pool.specs.declared.pool.answer.Refusal.{Refusal}
use Rattle.blocking_pool.specs.declared.pool.answer.Refusal.TheVariants.{Memory, NoWorker, Numbers}
use Rattle.blocking_pool.specs.declared.pool.bell.BellKind.{BellKind}
use Rattle.blocking_pool.specs.declared.pool.bell.BellKind.TheVariants.{Silent, One, All}

-- the pool: the queued serials in order, the jobs that aren't over by their serials, the counts of
-- its workers, the serial of the next job, and how many jobs of each client may run at a time, if
-- that is limited
pub record Pool (J : Type 0) : Type 0 where
  pub queue : List ℕ
  pub jobs : Jobs J
  pub counts : Counts
  pub next_serial : ℕ
  pub client_limit : Option ℕ

abbrev pub pool_code : {J : Type 0} → Coded J → Coded (Pool J)
pool_code {J} code =
    code_by
    (List ℕ × (Jobs J × (Counts × (ℕ × Option ℕ))))
    (coded× (coded_list coded_ℕ)
    (coded× (jobs_code code) (coded× counts_code (coded× coded_ℕ (coded_option coded_ℕ)))))
    (λ pool. (pool.queue, (pool.jobs, (pool.counts, (pool.next_serial, pool.client_limit)))))
    (λ parts. record {
      queue = parts.0;
      jobs = parts.1.0;
      counts = parts.1.1.0;
      next_serial = parts.1.1.1.0;
      client_limit = parts.1.1.1.1;
    })
    (λ _. refl)

-- whom a new client limit notifies, where another stood: all, where it is greater, or there is none
-- any more
abbrev pub ring_of_client_limit : Option ℕ → Option ℕ → BellKind
ring_of_client_limit limit None = Silent
ring_of_client_limit None (Some earlier) = All
ring_of_client_limit (Some limit) (Some earlier) = if nat_lt earlier limit then All else Silent

module _ {J : Type 0} where
  abbrev pub is_queued_job : Option (Job J) → Bool
  is_queued_job None = false
  is_queued_job (Some job) = is_queued job.standing

  -- The queue holds each queued job once, and nothing else.
  pub record IsQueueOf (queue : List ℕ) (jobs : Jobs J) : Type 0 where
    pub once : IsOnce queue
    pub each : (serial : ℕ) → is_in serial queue ≡ is_queued_job (map.get jobs serial)

  -- whether one more job of the client may run
  abbrev pub has_room : Pool J → ℕ → Bool
  has_room pool client = is_below pool.client_limit (running_of pool.jobs client pool.next_serial)

  -- the jobs that are ready, in the order of the queue: those whose client has room
  abbrev pub ready : Pool J → List ℕ
  ready pool = filter (λ serial. has_room pool (client_of (map.get pool.jobs serial))) pool.queue

  -- how many jobs are ready, with a new one of this client
  abbrev pub ready_with : Pool J → ℕ → ℕ
  ready_with pool client = length (ready pool) + one_if (has_room pool client)

  -- What every pool keeps: its queue is that of its jobs, the workers that aren't idle are those
  -- that run a job, those that haven't arrived are idle, the next serial is no job's, and a client
  -- limit lets at least one job run.
  pub record IsSound (pool : Pool J) : Type 0 where
    pub queue : IsQueueOf pool.queue pool.jobs
    pub running : pool.counts.workers ≡ pool.counts.idle + running_below pool.jobs pool.next_serial
    pub order : AreInOrder pool.counts
    pub unused : (serial : ℕ) → pool.next_serial ≤ serial → map.get pool.jobs serial ≡ None
    pub positive : IfSome pool.client_limit (λ most. 0 < most)

  -- a pool with no job and no worker
  abbrev pub empty_pool : ℕ → ℕ → ℕ → Pool J
  empty_pool setting serial worker = record {
    queue = [];
    jobs = map.empty;
    counts = no_workers setting worker;
    next_serial = serial;
    client_limit = None;
  }

  -- a new job stands at the queue's end, with the next serial, and one worker is notified
  abbrev pub after_entry : Pool J → ℕ → ℕ → J → Counts → Pool J
  after_entry pool place client value counts =
      record pool {
        queue = pool.queue ++ pool.next_serial ∷ [];
        jobs = map.insert pool.jobs pool.next_serial (new_job place client value);
        counts = after_ring One counts;
        next_serial = pool.next_serial + 1;
      }

  -- What becomes of a new job.
  pub record Enters (asking : Asking) (old : Pool J) (client : ℕ) (value : J) (number : JobNumber)
      (new : Pool J) : Type 0 where
    pub serial : number.serial ≡ old.next_serial
    pub left : old.next_serial < greatest
    pub growth : Growth
    pub counts : Counts
    pub grows : Grows asking (ready_with old client) old.counts counts growth
    pub staffed : 0 < counts.workers
    pub after_is : new ≡ after_entry old number.place client value counts

  -- the job is handed back, for want of a worker: nothing stays of it but the counts of its growth
  pub record FindsNobody (asking : Asking) (old : Pool J) (client : ℕ) (new : Pool J) : Type 0 where
    pub left : old.next_serial < greatest
    pub growth : Growth
    pub counts : Counts
    pub grows : Grows asking (ready_with old client) old.counts counts growth
    pub unstaffed : counts.workers ≡ 0
    pub after_is : new ≡ record old { counts = counts }

  -- why a job is refused, in the order in which it is tested
  abbrev pub IsRefused : Asking → Pool J → ℕ → Refusal → Pool J → Type 0
  IsRefused asking old client Numbers new =
      (old.next_serial ≡ greatest) × (new ≡ old) × RefusesNone asking
  IsRefused asking old client Memory new =
      (old.next_serial < greatest) × (new ≡ old) × RefusesNone asking
  IsRefused asking old client NoWorker new = FindsNobody asking old client new

  -- Whether a job is to be dropped: it was cancelled, or bears a mark. It was asked for its mark,
  -- and may answer so.
  abbrev pub IsToDrop : (J → Bool → Type 0) → Bool → J → Bool → Type 0
  IsToDrop may_answer was_cancelled value to_drop =
      (marked : Bool) × may_answer value marked × (to_drop ≡ (was_cancelled || marked))

  -- the pool, in which a worker has the job of this serial
  abbrev pub with_taken : Pool J → ℕ → Job J → Pool J
  with_taken pool serial job = record pool {
    queue = without serial pool.queue;
    jobs = map.insert pool.jobs serial (entry_after_take job);
  }

  -- The first ready job is taken, to be run or to be dropped: its value comes out, and the pool
  -- grows by the jobs that are ready after that.
  pub record TakesFront (may_mark : J → Bool → Type 0) (asking : Asking) (old : Pool J)
      (number : JobNumber) (value : J) (to_drop : Bool) (new : Pool J) : Type 0 where
    pub front : first_of (ready old) ≡ Some number.serial
    pub job : Job J
    pub found : map.get old.jobs number.serial ≡ Some job
    pub place : job.place ≡ number.place
    pub value_is : job.value ≡ Some value
    pub wanted : IsToDrop may_mark job.cancelled value to_drop
    pub growth : Growth
    pub counts : Counts
    pub grows : Grows asking (length (ready (with_taken old number.serial job)))
        (after_pickup old.counts) counts growth
    pub after_is : new ≡ record (with_taken old number.serial job) { counts = counts }

  -- jobs stand at the queue's end again, in this order, and one worker is notified
  abbrev pub after_requeue : Pool J → List ℕ → Counts → Pool J
  after_requeue pool serials counts =
      record pool {
        queue = pool.queue ++ serials;
        jobs = jobs_after_requeue pool.jobs serials;
        counts = after_ring One counts;
      }

  -- Jobs that were parked enter again, and the pool grows once, by all jobs that are ready then.
  pub record EnterAgain (asking : Asking) (old : Pool J) (serials : List ℕ) (new : Pool J) :
      Type 0 where
    pub growth : Growth
    pub counts : Counts
    pub grows : Grows asking (length (ready (after_requeue old serials old.counts))) old.counts
        counts growth
    pub after_is : new ≡ after_requeue old serials counts

  -- the pool, in which the job of this serial has changed so
  abbrev pub with_job : Pool J → ℕ → (Job J → Job J) → Pool J
  with_job pool serial change = record pool { jobs = amend pool.jobs serial change }

  -- a running job is over: it leaves, and its worker is free
  abbrev pub without_job : Pool J → ℕ → Pool J
  without_job pool serial =
      record pool { jobs = map.remove pool.jobs serial; counts = after_release pool.counts }

  -- a running job waits for a wake, and its worker is free
  abbrev pub after_park : Pool J → ℕ → J → Pool J
  after_park pool serial value = record pool
      { jobs = amend pool.jobs serial (entry_after_park value); counts = after_release pool.counts }

  -- a running job goes back to the queue's end, since a wake met it; its worker is free, and one is
  -- notified
  abbrev pub after_return : Pool J → ℕ → J → Pool J
  after_return pool serial value =
      record pool {
        queue = pool.queue ++ serial ∷ [];
        jobs = amend (amend pool.jobs serial (entry_after_park value)) serial entry_after_requeue;
        counts = after_ring One (after_release pool.counts);
      }

  -- the client limit is set, and who waits is notified where it was lower
  abbrev pub SetsClientLimit : Option ℕ → Pool J → Pool J → Type 0
  SetsClientLimit limit old new = new ≡ record old {
    client_limit = limit;
    counts = after_ring (ring_of_client_limit limit old.client_limit) old.counts;
  }
