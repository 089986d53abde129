-- How far the job of a reader is, and how that hangs together with what it has done.
use Rattle.std.specs.Prelude.{◌≡◌, ℕ, Bool, false, List, [], ◌∷◌, length, Option, Some, None}
use Rattle.blocking_core.specs.Machines.{Machine}
use Rattle.blocking_core.specs.Reads.{new_read, read_next, read_after}
use Rattle.blocking_core.specs.declared.io.Fault.{Fault}
use Rattle.blocking_core.specs.declared.io.Fault.TheVariants.{Io}
use Rattle.blocking_core.specs.declared.job.read.ReadAction.{ReadAction}
use Rattle.blocking_core.specs.declared.job.read.ReadAction.TheVariants as read
use Rattle.blocking_core.specs.declared.job.read.ReadAnswer.{ReadAnswer}
use Rattle.blocking_core.specs.declared.job.read.ReadAnswer.TheVariants as by
use Rattle.blocking_world_laws.specs.JobTable.{Reading, JobAction, AskBytes, FindRoom, PutPiece}
use Rattle.blocking_world_laws.specs.JobTable.{CloseEnd, Finish, WakeHolder, Over, next_but_wake}
use Rattle.blocking_world_laws.specs.JobTable.{takes_waker, earlier, fault}
use Rattle.blocking_world_laws.specs.declared.event.Act.{Act}
use Rattle.blocking_world_laws.specs.declared.step.HandleAnswer.{HandleAnswer}
use Rattle.blocking_world_laws.specs.declared.step.HandleAnswer.TheVariants.{Gave, Failed}

-- What the job of a reader does next, what its reader gave last, and its fault, once it met one.
pub record Progress : Type 0 where
  pub core : Machine ReadAction
  pub piece : List ℕ
  pub fault : Option (Fault ℕ)

-- a job that has done nothing yet
abbrev pub not_begun : Progress
not_begun = record { core = new_read; piece = []; fault = None }

-- ---- what comes next

-- an action of a job with these bytes, in the words of the laws
abbrev pub action_as : List ℕ → ReadAction → JobAction
action_as piece read.FindRoom = FindRoom
action_as piece (read.Read most) = AskBytes most
action_as piece (read.Put count) = PutPiece piece
action_as piece read.Close = CloseEnd
action_as piece read.Finish = Finish
action_as piece read.Deliver = WakeHolder
action_as piece read.Done = Over

-- the next action of the job, in the words of the laws
abbrev pub action_of : Progress → JobAction
action_of job = action_as job.piece (read_next job.core)

-- ---- what it leaves

-- the job after its action was answered so
abbrev pub progress_with : Progress → ReadAnswer → Progress
progress_with job answer = record job { core = read_after job.core answer }

-- the reader gave these bytes
abbrev pub progress_after_gift : Progress → List ℕ → Progress
progress_after_gift job bytes =
    record job { core = read_after job.core (by.Gave (length bytes)); piece = bytes }

-- the reader failed; what is told is the first failure
abbrev pub progress_after_failure : Progress → ℕ → Progress
progress_after_failure job error =
    record job { core = read_after job.core by.Failed; fault = earlier job.fault (Some (Io error)) }

-- the reader answered so
abbrev pub progress_after_answer : Progress → HandleAnswer → Progress
progress_after_answer job (Gave bytes) = progress_after_gift job bytes
progress_after_answer job (Failed error) = progress_after_failure job error
progress_after_answer job _ = job

-- ---- what it has done

-- whether the newest of these acts took the holder's waker out of its seat
abbrev pub has_waker : List Act → Bool
has_waker [] = false
has_waker (act ∷ past) = takes_waker act

-- A job that didn't give up, by what it has done so far.
pub record ReadAs (job : Progress) (acts : List Act) : Type 0 where
  pub next : action_as job.piece job.core.next ≡ next_but_wake Reading acts
  pub waking : job.core.is_waking ≡ has_waker acts
  pub fault_is : job.fault ≡ fault Reading acts
