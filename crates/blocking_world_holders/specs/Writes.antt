-- How far the job of a writer is, and how that hangs together with what it has done.
use Rattle.std.specs.Prelude.{◌≡◌, ℕ, List, [], length, Option, Some, None}
use Rattle.blocking_core.specs.Faults.{told}
use Rattle.blocking_core.specs.Writes.{WriteMachine, new_write, write_next, write_after}
use Rattle.blocking_core.specs.declared.io.Fault.{Fault}
use Rattle.blocking_core.specs.declared.io.JobFault.{JobFault}
use Rattle.blocking_core.specs.declared.job.write.WriteAction.{WriteAction}
use Rattle.blocking_core.specs.declared.job.write.WriteAction.TheVariants as write
use Rattle.blocking_core.specs.declared.job.write.WriteAnswer.{WriteAnswer}
use Rattle.blocking_core.specs.declared.job.write.WriteAnswer.TheVariants as by
use Rattle.blocking_world_laws.specs.JobTable.{Writing, JobAction, Peek, OfferBytes, Consume}
use Rattle.blocking_world_laws.specs.JobTable.{AskFlush, CloseEnd, Finish, WakeHolder, Over}
use Rattle.blocking_world_laws.specs.JobTable.{next_but_wake, fault}
use Rattle.blocking_world_laws.specs.declared.event.Act.{Act}
use Rattle.blocking_world_laws.specs.declared.step.HandleAnswer.{HandleAnswer}
use Rattle.blocking_world_laws.specs.declared.step.HandleAnswer.TheVariants.{Number, Fine, Failed}
use Rattle.blocking_world_holders.specs.Reads.{has_waker}

-- What the job of a writer does next, with its fault, once it met one, and what it found last at
-- the front of the pipe.
pub record Progress : Type 0 where
  pub core : WriteMachine ℕ
  pub piece : List ℕ

-- a job that has done nothing yet
abbrev pub not_begun : Progress
not_begun = record { core = new_write; piece = [] }

-- ---- what comes next

-- an action of a job that found this piece, in the words of the laws
abbrev pub action_as : List ℕ → WriteAction → JobAction
action_as piece write.Peek = Peek
action_as piece (write.Write count) = OfferBytes piece
action_as piece (write.Consume count) = Consume count
action_as piece write.Flush = AskFlush
action_as piece write.Close = CloseEnd
action_as piece write.Finish = Finish
action_as piece write.Deliver = WakeHolder
action_as piece write.Done = Over

-- the next action of the job, in the words of the laws
abbrev pub action_of : Progress → JobAction
action_of job = action_as job.piece (write_next job.core)

-- the fault that the job met first, as its owner is told it
abbrev pub told_as : Option (JobFault ℕ) → Option (Fault ℕ)
told_as None = None
told_as (Some why) = Some (told why)

abbrev pub fault_of : WriteMachine ℕ → Option (Fault ℕ)
fault_of core = told_as core.fault

-- ---- what it leaves

-- the job after its action was answered so
abbrev pub progress_with : Progress → WriteAnswer ℕ → Progress
progress_with job answer = record job { core = write_after job.core answer }

-- it found these bytes at the front of the pipe
abbrev pub progress_after_piece : Progress → List ℕ → Progress
progress_after_piece job piece =
    record { core = write_after job.core (by.Peeked (length piece)); piece = piece }

-- the writer answered so
abbrev pub progress_after_answer : Progress → HandleAnswer → Progress
progress_after_answer job (Number taken) = progress_with job (by.Took taken)
progress_after_answer job Fine = progress_with job by.Flushed
progress_after_answer job (Failed error) = progress_with job (by.Failed error)
progress_after_answer job _ = job

-- ---- what it has done

-- what is offered is the piece that was found
abbrev pub IsOffered : WriteAction → List ℕ → Type 0
IsOffered (write.Write count) piece = count ≡ length piece
IsOffered action piece = Unit {0}

-- A job that didn't give up, by what it has done so far.
pub record WriteAs (job : Progress) (acts : List Act) : Type 0 where
  pub next : action_as job.piece job.core.next ≡ next_but_wake Writing acts
  pub offered : IsOffered job.core.next job.piece
  pub waking : job.core.is_waking ≡ has_waker acts
  pub fault_is : fault_of job.core ≡ fault Writing acts
