-- Whose jobs they are, and how many of a client's run.
use Rattle.std.specs.Prelude.{ℕ, ◌==◌, ◌&&◌, Bool, false, List, filter, Option, Some, None}
use Rattle.std.specs.FinMap.{get}
use Rattle.blocking_pool.specs.Jobs.{Job, Jobs, is_running, count_below}

module _ {J : Type 0} where
  -- whose job it is; jobs for which no client is named are client 0's
  abbrev pub client_of : Option (Job J) → ℕ
  client_of None = 0
  client_of (Some job) = job.client

  -- those of these serials whose jobs are this client's
  abbrev pub of_client : Jobs J → ℕ → List ℕ → List ℕ
  of_client jobs client serials = filter (λ serial. client_of (get jobs serial) == client) serials

  -- whether it is a job of this client
  abbrev pub is_job_of : ℕ → Option (Job J) → Bool
  is_job_of client None = false
  is_job_of client (Some job) = job.client == client

  -- whether it is a running job of this client
  abbrev pub is_running_for : ℕ → Option (Job J) → Bool
  is_running_for client None = false
  is_running_for client (Some job) = is_running job.standing && job.client == client

  -- how many of the jobs with serials below this one are this client's
  abbrev pub jobs_for : Jobs J → ℕ → ℕ → ℕ
  jobs_for jobs client next = count_below (λ serial. is_job_of client (get jobs serial)) next

  -- how many of the jobs with serials below this one are this client's, and run
  abbrev pub running_of : Jobs J → ℕ → ℕ → ℕ
  running_of jobs client next = count_below (λ serial. is_running_for client (get jobs serial)) next
