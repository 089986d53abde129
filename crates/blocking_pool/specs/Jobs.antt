-- Jobs as a pool has them.
use Rattle.std.specs.Prelude.{◌≡◌, ℕ, zero, suc, ◌+◌, if◌then◌else◌, Bool, true, false, not, ◌==◌}
use Rattle.std.specs.Prelude.{List, [], ◌∷◌, Option, Some, None, is_some, option_map, refl}
use Rattle.std.specs.Ordering.{nat_cmp}
use Rattle.std.specs.FinMap.{FinMap, get}
use Rattle.std.specs.FinMap as map
use Rattle.std.specs.Coded.{Coded, code_by, coded×, coded_ℕ, coded_bool, coded_option}
use Rattle.blocking_pool.specs.declared.pool.standing.Standing.{Standing}
use Rattle.blocking_pool.specs.declared.pool.standing.Standing.TheVariants.{Queued, Running, Parked}
use Rattle.blocking_pool.specs.contracts.pool.standing.Standing.{the_row}

-- the number of a job: its place in the table and its serial
pub record JobNumber : Type 0 where
  pub place : ℕ
  pub serial : ℕ

abbrev pub is_queued : Standing → Bool
is_queued Queued = true
is_queued _ = false

abbrev pub is_running : Standing → Bool
is_running Running = true
is_running _ = false

abbrev pub is_parked : Standing → Bool
is_parked Parked = true
is_parked _ = false

-- A job that isn't over: where it stands in the table, whose it is, how it stands, whether a wake
-- met it since its last take, whether it was cancelled, and its value, which the worker has while
-- it runs.
pub record Job (J : Type 0) : Type 0 where
  pub place : ℕ
  pub client : ℕ
  pub standing : Standing
  pub woken : Bool
  pub cancelled : Bool
  pub value : Option J

abbrev pub job_code : {J : Type 0} → Coded J → Coded (Job J)
job_code {J} code =
    code_by
    (ℕ × (ℕ × (Standing × (Bool × (Bool × Option J)))))
    (coded× coded_ℕ (coded× coded_ℕ
    (coded× the_row.coded (coded× coded_bool (coded× coded_bool (coded_option code))))))
    (λ job. (job.place, (job.client, (job.standing, (job.woken, (job.cancelled, job.value))))))
    (λ parts. record {
      place = parts.0;
      client = parts.1.0;
      standing = parts.1.1.0;
      woken = parts.1.1.1.0;
      cancelled = parts.1.1.1.1.0;
      value = parts.1.1.1.1.1;
    })
    (λ _. refl)

-- the jobs that aren't over, by their serials
abbrev pub Jobs : Type 0 → Type 0
Jobs J = FinMap nat_cmp (Job J)

abbrev pub jobs_code : {J : Type 0} → Coded J → Coded (Jobs J)
jobs_code code = map.code coded_ℕ (job_code code)

abbrev pub one_if : Bool → ℕ
one_if b = if b then 1 else 0

-- how many of the serials below this one pass a test
abbrev pub count_below : (ℕ → Bool) → ℕ → ℕ
count_below passes zero = 0
count_below passes (suc serial) = count_below passes serial + one_if (passes serial)

module _ {J : Type 0} where
  -- a job that has just been accepted
  abbrev pub new_job : ℕ → ℕ → J → Job J
  new_job place client value = record {
    place = place;
    client = client;
    standing = Queued;
    woken = false;
    cancelled = false;
    value = Some value;
  }

  -- the job in the hands of a worker
  abbrev pub entry_after_take : Job J → Job J
  entry_after_take job = record job { standing = Running; woken = false; value = None }

  abbrev pub is_running_job : Option (Job J) → Bool
  is_running_job None = false
  is_running_job (Some job) = is_running job.standing

  -- how many of the jobs with serials below this one run
  abbrev pub running_below : Jobs J → ℕ → ℕ
  running_below jobs next = count_below (λ serial. is_running_job (get jobs serial)) next

  -- each value is there exactly while its job isn't running: then its worker has it
  abbrev pub HaveValues : Jobs J → Type 0
  HaveValues jobs = (serial : ℕ) (job : Job J) → get jobs serial ≡ Some job
      → is_some job.value ≡ not (is_running job.standing)

  -- a job that stands in the queue again
  abbrev pub entry_after_requeue : Job J → Job J
  entry_after_requeue job = record job { standing = Queued }

  -- a job that waits for a wake, with its value back from its worker
  abbrev pub entry_after_park : J → Job J → Job J
  entry_after_park value job = record job { standing = Parked; value = Some value }

  -- a running job that a wake met
  abbrev pub entry_after_wake : Job J → Job J
  entry_after_wake job = record job { woken = true }

  abbrev pub entry_after_cancel : Job J → Job J
  entry_after_cancel job = record job { cancelled = true }

  -- the job, if this is its place
  abbrev pub if_at : ℕ → Option (Job J) → Option (Job J)
  if_at place None = None
  if_at place (Some job) = if job.place == place then Some job else None

  -- the job of this number, if it isn't over
  abbrev pub job_of : Jobs J → JobNumber → Option (Job J)
  job_of jobs number = if_at number.place (get jobs number.serial)

  -- how the job of this number stands, if it isn't over
  abbrev pub standing_of : Jobs J → JobNumber → Option Standing
  standing_of jobs number = option_map (λ job. job.standing) (job_of jobs number)

  -- whether this number is that of a running job
  abbrev pub is_running_as : Jobs J → JobNumber → Bool
  is_running_as jobs number = is_running_job (job_of jobs number)

  -- whether a job has its value: its worker has it while it runs
  abbrev pub has_value : Option (Job J) → Bool
  has_value None = false
  has_value (Some job) = not (is_running job.standing)

  -- the value of a job, where it is
  abbrev pub value_at : Option (Job J) → Option J
  value_at None = None
  value_at (Some job) = job.value

  -- a job with another value
  abbrev pub entry_with : J → Job J → Job J
  entry_with value job = record job { value = Some value }

  abbrev pub jobs_after_change : Jobs J → ℕ → (Job J → Job J) → Option (Job J) → Jobs J
  jobs_after_change jobs serial change None = jobs
  jobs_after_change jobs serial change (Some job) = map.insert jobs serial (change job)

  -- the jobs, of which the one of this serial has changed so
  abbrev pub amend : Jobs J → ℕ → (Job J → Job J) → Jobs J
  amend jobs serial change = jobs_after_change jobs serial change (get jobs serial)

  -- the jobs, of which these stand in the queue again
  abbrev pub jobs_after_requeue : Jobs J → List ℕ → Jobs J
  jobs_after_requeue jobs [] = jobs
  jobs_after_requeue jobs (serial ∷ serials) =
      jobs_after_requeue (amend jobs serial entry_after_requeue) serials

  abbrev pub is_parked_job : Option (Job J) → Bool
  is_parked_job None = false
  is_parked_job (Some job) = is_parked job.standing
