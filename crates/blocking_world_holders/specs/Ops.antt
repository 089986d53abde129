-- How far the job of an operation is, and how that hangs together with what it has done.
use Rattle.std.specs.Prelude.{◌≡◌, ℕ, List, None}
use Rattle.blocking_core.specs.Machines.{Machine}
use Rattle.blocking_core.specs.Ops.{new_op, op_next, op_after}
use Rattle.blocking_core.specs.declared.job.op.OpAction.{OpAction}
use Rattle.blocking_core.specs.declared.job.op.OpAction.TheVariants as operation
use Rattle.blocking_core.specs.declared.job.op.OpAnswer.{OpAnswer}
use Rattle.blocking_core.specs.declared.job.op.OpAnswer.TheVariants as by
use Rattle.blocking_world_laws.specs.JobTable.{Operating, JobAction, AskResult, PutResult, Finish}
use Rattle.blocking_world_laws.specs.JobTable.{WakeHolder, Over, next_but_wake, fault, number}
use Rattle.blocking_world_laws.specs.declared.event.Act.{Act}
use Rattle.blocking_world_laws.specs.declared.step.HandleAnswer.{HandleAnswer}
use Rattle.blocking_world_laws.specs.declared.step.HandleAnswer.TheVariants.{Number}
use Rattle.blocking_world_holders.specs.Reads.{has_waker}

-- What the job of an operation does next, and the number that the operation gave, 0 before it did.
-- It is in hand until it is put.
pub record Progress : Type 0 where
  pub core : Machine OpAction
  pub number : ℕ

-- a job that has done nothing yet
abbrev pub not_begun : Progress
not_begun = record { core = new_op; number = 0 }

-- ---- what comes next

-- an action, in the words of the laws
abbrev pub action_as : OpAction → JobAction
action_as operation.Call = AskResult
action_as operation.PutResult = PutResult
action_as operation.Finish = Finish
action_as operation.Deliver = WakeHolder
action_as operation.Done = Over

-- the next action of the job, in the words of the laws
abbrev pub action_of : Progress → JobAction
action_of job = action_as (op_next job.core)

-- ---- what it leaves

-- the job after its action was answered so
abbrev pub progress_with : Progress → OpAnswer → Progress
progress_with job answer = record job { core = op_after job.core answer }

-- the operation gave this number
abbrev pub progress_after_number : Progress → ℕ → Progress
progress_after_number job n = record job { core = op_after job.core by.Returned; number = n }

-- the operation answered so
abbrev pub progress_after_answer : Progress → HandleAnswer → Progress
progress_after_answer job (Number n) = progress_after_number job n
progress_after_answer job _ = job

-- ---- what it has done

-- A job that didn't give up, by what it has done so far. It meets no fault.
pub record OperationAs (job : Progress) (acts : List Act) : Type 0 where
  pub next : action_as job.core.next ≡ next_but_wake Operating acts
  pub waking : job.core.is_waking ≡ has_waker acts
  pub fault_is : fault Operating acts ≡ None
  pub number_is : job.number ≡ number acts
