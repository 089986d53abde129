-- What a job is for, and what its next action does to its row and to the task or the owner that
-- holds it.
use Rattle.std.specs.Prelude.{◌≡◌, ℕ, Bool, true, false, List, slice_get, slice_set, Option, Some}
use Rattle.std.specs.Prelude.{None}
use Rattle.blocking_core.specs.declared.job.Action.{Action}
use Rattle.blocking_core.specs.declared.job.Action.TheVariants as action
use Rattle.blocking_world_pool.specs.declared.hand.TurnStage.{TurnStage}
use Rattle.blocking_world_pool.specs.declared.hand.TurnStage.TheVariants as stage
use Rattle.blocking_world_holders.specs.Calls as calls
use Rattle.blocking_world_holders.specs.OwnerSteps as owners
use Rattle.blocking_world_holders.specs.OwnerSteps.{OwnerStep}
use Rattle.blocking_world_holders.specs.Owners.{Owner, worked}
use Rattle.blocking_world_holders.specs.SessionJobs as jobs
use Rattle.blocking_world_holders.specs.declared.job.SessionJob.{SessionJob}
use Rattle.blocking_world_holders.specs.Steps as tasks
use Rattle.blocking_world_holders.specs.Steps.{TaskStep}
use Rattle.blocking_world_holders.specs.Tasks.{Task, finish_wakes}
use Rattle.blocking_world_laws.specs.JobTable.{JobAction, Kind, Calling, AskCall, Finish, FindRoom}
use Rattle.blocking_world_laws.specs.JobTable.{Peek, WakeHolder, Over, AskItem, SendItem, AskSeek}
use Rattle.blocking_world_laws.specs.JobTable.{AskResult}
use Rattle.blocking_world_laws.specs.Steps.{WorkerAction, Does, GivesUp, EndsTurn, next_in_turn}
use Rattle.blocking_world_laws.specs.Turns.{GoesOn}
use Rattle.blocking_world_laws.specs.declared.event.Act.{Act}
use Rattle.blocking_world_laws.specs.declared.event.Party.{Party}
use Rattle.blocking_world_laws.specs.declared.event.Party.TheVariants.{Owner as ByOwner}
use Rattle.blocking_world_laws.specs.declared.event.Party.TheVariants.{Task as ByTask}
use Rattle.blocking_world_laws.specs.declared.step.HandleAnswer.{HandleAnswer}
use Rattle.blocking_world_laws.specs.declared.step.HandleAnswer.TheVariants.{Number}
use Rattle.blocking_pool.specs.Jobs.{JobNumber}
use Rattle.blocking_world_state.specs.declared.row.Core.{Core}
use Rattle.blocking_world_state.specs.declared.row.Core.TheVariants as core
use Rattle.blocking_world_state.specs.declared.row.Row.{Row}

-- ---- whom a job is for

-- the holder, in the words of the laws
abbrev pub party_of : Core → Party
party_of (core.Call k call) = ByTask k
party_of (core.Session h job) = ByOwner h

-- the owner whose job it is: a call's is of none
abbrev pub owner_in : Core → Option ℕ
owner_in (core.Call k call) = None
owner_in (core.Session h job) = Some h

-- the kind of a job
abbrev pub kind_of : Core → Kind
kind_of (core.Call k call) = Calling
kind_of (core.Session h job) = jobs.kind_of job

-- the row of the job of a new call, and of a session that begins
abbrev pub call_row : JobNumber → ℕ → Row
call_row number k = record { number = number; core = core.Call k calls.not_begun }

-- (of a session of owner h, with this job)
abbrev pub session_row : JobNumber → ℕ → SessionJob → Row
session_row number h job = record { number = number; core = core.Session h job }

-- ---- what comes next

-- the next action of a call's job
abbrev pub call_action : Action → JobAction
call_action action.Call = AskCall
call_action action.Finish = Finish
call_action action.Deliver = WakeHolder
call_action action.Done = Over

-- the next action of a job
abbrev pub action_of : Core → JobAction
action_of (core.Call k call) = call_action call.next
action_of (core.Session h job) = jobs.action_of job

-- the next action of a worker, by where its job is in its turn
abbrev pub next_of : TurnStage → Core → WorkerAction
next_of stage.Runs core = next_in_turn GoesOn (action_of core)
next_of stage.Waits core = EndsTurn
next_of stage.MustGiveUp core = GivesUp
next_of stage.MustWake core = Does WakeHolder
next_of stage.GaveUp core = EndsTurn

-- whether a job is at an action at which nobody may run it: the first of its kind, or one at which
-- it waits for its owner
abbrev pub is_first : JobAction → Bool
is_first AskCall = true
is_first FindRoom = true
is_first Peek = true
is_first AskItem = true
is_first AskSeek = true
is_first AskResult = true
is_first (SendItem x) = true
is_first _ = false

-- the same of a core
abbrev pub is_at_first : Core → Bool
is_at_first core = is_first (action_of core)

-- ---- the job of a call acts

-- the step of its task that its next action is, where that is the job's own
abbrev pub call_step_by : Action → ℕ → Option TaskStep
call_step_by action.Finish n = Some (tasks.Finishes n)
call_step_by action.Deliver n = Some tasks.CallsWaker
call_step_by _ n = None

-- the step of its task that it takes where it stands in its turn so, if it takes one
abbrev pub call_step : TurnStage → calls.Progress → Option TaskStep
call_step stage.Runs call = call_step_by call.next call.number
call_step stage.MustGiveUp call = Some tasks.GivesUp
call_step stage.MustWake call = Some tasks.CallsWaker
call_step _ call = None

-- the core of a job whose waker was called: one that gave up stays as it was
abbrev pub call_after_wake : TurnStage → calls.Progress → calls.Progress
call_after_wake stage.Runs call = calls.progress_after_wake call
call_after_wake _ call = call

-- how far the job is after a step of its task
abbrev pub call_after : TaskStep → TurnStage → Task → calls.Progress → calls.Progress
call_after (tasks.IsCalled asked) at task call = call
call_after (tasks.IsAnswered n) at task call = calls.progress_after_answer call n
call_after (tasks.Finishes n) at task call = calls.progress_after_finish call (finish_wakes task n)
call_after tasks.GivesUp at task call = call
call_after tasks.CallsWaker at task call = call_after_wake at call

-- ---- the job of a session acts

-- the step of its owner that its next action is, where that is the job's own
abbrev pub session_step : TurnStage → SessionJob → Option OwnerStep
session_step stage.Runs job = Some (owners.Works job)
session_step stage.MustGiveUp job = Some owners.GivesUp
session_step stage.MustWake job = Some owners.CallsWaker
session_step _ job = None

-- how far the job is after a step of its owner
abbrev pub job_after : OwnerStep → Owner → SessionJob → SessionJob
job_after (owners.Works it) owner job = owners.job_after_work (worked it owner) job
job_after (owners.IsAnswered it answer) owner job = jobs.job_after_answer job answer
job_after step owner job = job

-- ---- what that leaves

-- What an act of a job is, and what it leaves of its core, of the tasks and of the owners.
pub record Done : Type 0 where
  pub act : Act
  pub core : Core
  pub tasks : List Task
  pub owners : List Owner

-- the act of a call's job, where there is a step and the task is there
abbrev pub call_done : ℕ → calls.Progress → TurnStage → List Task → List Owner → Option Task
    → Option TaskStep → Option Done
call_done k call at all rows (Some task) (Some step) = Some (record {
  act = tasks.act_of step task;
  core = core.Call k (call_after step at task call);
  tasks = slice_set all k (tasks.task_after step task);
  owners = rows;
})
call_done k call at all rows _ _ = None

-- the act of a session's job, where its owner is there, and has that to be seen
abbrev pub session_seen : ℕ → SessionJob → List Task → List Owner → Owner → OwnerStep → Option Act
    → Option Done
session_seen h job all rows owner step None = None
session_seen h job all rows owner step (Some act) = Some (record {
  act = act;
  core = core.Session h (job_after step owner job);
  tasks = all;
  owners = slice_set rows h (owners.owner_after step owner);
})

-- what the job of owner h does, where that owner is there and its next action is one of its session
abbrev pub session_done : ℕ → SessionJob → List Task → List Owner → Option Owner → Option OwnerStep
    → Option Done
session_done h job all rows (Some owner) (Some step) =
    session_seen h job all rows owner step (owners.act_of step owner)
session_done h job all rows _ _ = None

-- What a job does next that is its own to do.
abbrev pub done : TurnStage → Core → List Task → List Owner → Option Done
done at (core.Call k call) all rows =
    call_done k call at all rows (slice_get all k) (call_step at call)
done at (core.Session h job) all rows =
    session_done h job all rows (slice_get rows h) (session_step at job)

-- the answer of a call by which a job may act, and what it leaves: where it has no such act nothing
-- changes
abbrev pub IsDone : Option Done → Core → List Task → List Owner → Option Act → Core → List Task
    → List Owner → Type 0
IsDone None core tasks owners seen new_core new_tasks new_owners =
    (seen ≡ None) × (new_core ≡ core) × (new_tasks ≡ tasks) × (new_owners ≡ owners)
IsDone (Some did) core tasks owners seen new_core new_tasks new_owners =
    (seen ≡ Some did.act) × (new_core ≡ did.core) × (new_tasks ≡ did.tasks)
    × (new_owners ≡ did.owners)

-- the core of a job that was answered so
abbrev pub call_answered : HandleAnswer → calls.Progress → calls.Progress
call_answered (Number n) call = calls.progress_after_answer call n
call_answered _ call = call

-- (of any kind)
abbrev pub core_after_answer : HandleAnswer → Core → Core
core_after_answer answer (core.Call k call) = core.Call k (call_answered answer call)
core_after_answer answer (core.Session h job) = core.Session h (jobs.job_after_answer job answer)

-- ---- one act, at its task or its owner alone

-- what is seen of a call's job and its task, and what both are then, by the step that it takes, if
-- it takes one
abbrev pub IsActed : Option TaskStep → TurnStage → calls.Progress → Task → Option Act
    → calls.Progress
    → Task → Type 0
IsActed None at call task seen new_call new_task =
    (seen ≡ None) × (new_call ≡ call) × (new_task ≡ task)
IsActed (Some step) at call task seen new_call new_task =
    (seen ≡ Some (tasks.act_of step task)) × (new_call ≡ call_after step at task call)
    × (new_task ≡ tasks.task_after step task)

-- the same of a session's job and its owner
abbrev pub IsActedFor : Option OwnerStep → SessionJob → Owner → Option Act → SessionJob → Owner
    → Type 0
IsActedFor None job owner seen new_job new_owner =
    (seen ≡ None) × (new_job ≡ job) × (new_owner ≡ owner)
IsActedFor (Some step) job owner seen new_job new_owner =
    (seen ≡ owners.act_of step owner) × (new_job ≡ job_after step owner job)
    × (new_owner ≡ owners.owner_after step owner)
