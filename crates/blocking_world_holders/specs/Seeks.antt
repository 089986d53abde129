-- How far the job of a seek is, and how that hangs together with what it has done.
use Rattle.std.specs.Prelude.{◌≡◌, ℕ, List, Option, Some, None}
use Rattle.blocking_core.specs.Machines.{Machine}
use Rattle.blocking_core.specs.Seeks.{new_seek, seek_next, seek_after}
use Rattle.blocking_core.specs.declared.io.Fault.{Fault}
use Rattle.blocking_core.specs.declared.io.Fault.TheVariants.{Io}
use Rattle.blocking_core.specs.declared.io.Position.{Position}
use Rattle.blocking_core.specs.declared.job.seek.SeekAction.{SeekAction}
use Rattle.blocking_core.specs.declared.job.seek.SeekAction.TheVariants as seek
use Rattle.blocking_core.specs.declared.job.seek.SeekAnswer.{SeekAnswer}
use Rattle.blocking_core.specs.declared.job.seek.SeekAnswer.TheVariants as by
use Rattle.blocking_world_laws.specs.JobTable.{Seeking, JobAction, AskSeek, Finish, WakeHolder}
use Rattle.blocking_world_laws.specs.JobTable.{Over, next_but_wake, earlier, fault, number}
use Rattle.blocking_world_laws.specs.declared.event.Act.{Act}
use Rattle.blocking_world_laws.specs.declared.step.HandleAnswer.{HandleAnswer}
use Rattle.blocking_world_laws.specs.declared.step.HandleAnswer.TheVariants.{Number, Failed}
use Rattle.blocking_world_holders.specs.Reads.{has_waker}

-- What the job of a seek does next, where its handle is to go, where it was found to be, once it
-- was, and the job's fault, once it met one.
pub record Progress : Type 0 where
  pub core : Machine SeekAction
  pub goal : Position
  pub place : ℕ
  pub fault : Option (Fault ℕ)

-- a job that has done nothing yet
abbrev pub not_begun : Position → Progress
not_begun goal = record { core = new_seek; goal = goal; place = 0; fault = None }

-- ---- what comes next

-- an action, in the words of the laws
abbrev pub action_as : SeekAction → JobAction
action_as seek.Seek = AskSeek
action_as seek.Finish = Finish
action_as seek.Deliver = WakeHolder
action_as seek.Done = Over

-- the next action of the job, in the words of the laws
abbrev pub action_of : Progress → JobAction
action_of job = action_as (seek_next job.core)

-- ---- what it leaves

-- the job after its action was answered so
abbrev pub progress_with : Progress → SeekAnswer → Progress
progress_with job answer = record job { core = seek_after job.core answer }

-- the handle is there
abbrev pub progress_after_place : Progress → ℕ → Progress
progress_after_place job place = record job { core = seek_after job.core by.Sought; place = place }

-- the handle failed
abbrev pub progress_after_failure : Progress → ℕ → Progress
progress_after_failure job error =
    record job { core = seek_after job.core by.Failed; fault = earlier job.fault (Some (Io error)) }

-- the handle answered so
abbrev pub progress_after_answer : Progress → HandleAnswer → Progress
progress_after_answer job (Number place) = progress_after_place job place
progress_after_answer job (Failed error) = progress_after_failure job error
progress_after_answer job _ = job

-- ---- what it has done

-- A job that didn't give up, by what it has done so far.
pub record SeekAs (job : Progress) (acts : List Act) : Type 0 where
  pub next : action_as job.core.next ≡ next_but_wake (Seeking job.goal) acts
  pub waking : job.core.is_waking ≡ has_waker acts
  pub fault_is : job.fault ≡ fault (Seeking job.goal) acts
  pub place_is : job.place ≡ number acts
