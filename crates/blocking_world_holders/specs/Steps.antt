-- What happens to a task in one step, in the words of its cut: its holder calls it, or the job of
-- its call acts.
use Rattle.std.specs.Prelude.{◌≡◌, ◌||◌, ℕ, true, false, List, [], ◌∷◌, slice_get, slice_set, Some}
use Rattle.std.specs.Prelude.{None}
use Rattle.blocking_pool.specs.Growth.{Growth}
use Rattle.blocking_world_laws.specs.Seen.{events, acts_of, is_by_task, is_of_job}
use Rattle.blocking_world_laws.specs.Seats.{waker_in}
use Rattle.blocking_world_laws.specs.Jobs.{accepted_by, accepts, holder}
use Rattle.blocking_world_laws.specs.JobTable.{Calling, WakeHolder, next_of_job}
use Rattle.blocking_world_laws.specs.declared.event.Act.{Act}
use Rattle.blocking_world_laws.specs.declared.event.Act.TheVariants.{Accepted, Answered, Finished}
use Rattle.blocking_world_laws.specs.declared.event.Act.TheVariants.{GaveUp, HolderWoken}
use Rattle.blocking_world_laws.specs.declared.event.Event.{Event}
use Rattle.blocking_world_laws.specs.declared.event.Moment.{Moment}
use Rattle.blocking_world_laws.specs.declared.event.Party.TheVariants.{Owner as ByOwner}
use Rattle.blocking_world_laws.specs.declared.event.Party.TheVariants.{Task as ByTask, Worker, Pool}
use Rattle.blocking_world_laws.specs.declared.step.HandleAnswer.TheVariants.{Number}
use Rattle.blocking_world_laws.specs.declared.step.TaskCall.{TaskCall}
use Rattle.blocking_world_holders.specs.Tasks.{Task, may_be, has_let_go, task_act, task_after_call}
use Rattle.blocking_world_holders.specs.Tasks.{finish_wakes, task_after_finish, give_up_wakes}
use Rattle.blocking_world_holders.specs.Tasks.{task_after_give_up}

pub data TaskStep : Type 0 where
  -- its holder calls it so
  IsCalled : TaskCall → TaskStep
  -- the call of its job is answered by this number
  IsAnswered : ℕ → TaskStep
  -- its job puts this number where the task finds it
  Finishes : ℕ → TaskStep
  -- its job gives up
  GivesUp : TaskStep
  -- its job calls the waker that it took
  CallsWaker : TaskStep

-- Whether there may be such a step of a task whose job has done this so far.
abbrev pub MayTake : TaskStep → Task → List Act → Type 0
MayTake (IsCalled call) task acts = may_be task.stage call ≡ true
MayTake (IsAnswered n) task acts = acts ≡ []
MayTake (Finishes n) task acts = acts ≡ Answered (Number n) ∷ []
MayTake GivesUp task acts = (acts ≡ []) × (has_let_go task.stage ≡ true)
MayTake CallsWaker task acts = next_of_job Calling acts ≡ WakeHolder

-- what is seen of it
abbrev pub act_of : TaskStep → Task → Act
act_of (IsCalled call) task = task_act call task
act_of (IsAnswered n) task = Answered (Number n)
act_of (Finishes n) task = Finished (waker_in (finish_wakes task n))
act_of GivesUp task = GaveUp (waker_in (give_up_wakes task))
act_of CallsWaker task = HolderWoken

-- the task after it
abbrev pub task_after : TaskStep → Task → Task
task_after (IsCalled call) task = task_after_call call task
task_after (IsAnswered n) task = task
task_after (Finishes n) task = task_after_finish task n
task_after GivesUp task = task_after_give_up task
task_after CallsWaker task = task

-- ---- events

-- an act of task k
abbrev pub by_task : ℕ → Act → ℕ → Growth → Event
by_task k act first growth = record {
  party = ByTask k;
  owner = None;
  job = None;
  act = act;
  first = first;
  started = growth.started;
  start_refused = growth.refused;
}

-- an act of job s, in the hand of worker v
abbrev pub by_job : ℕ → ℕ → Act → ℕ → Growth → Event
by_job v s act first growth = record {
  party = Worker v;
  owner = None;
  job = Some s;
  act = act;
  first = first;
  started = growth.started;
  start_refused = growth.refused;
}

-- whose act a step is
abbrev pub event_by : TaskStep → ℕ → ℕ → ℕ → Act → ℕ → Growth → Event
event_by (IsCalled call) k v s act first growth = by_task k act first growth
event_by _ k v s act first growth = by_job v s act first growth

-- an event of no task and of no job, with which no job is accepted
pub record IsAside (e : Event) : Type 0 where
  pub out : (k s : ℕ) → is_by_task k e || is_of_job s e ≡ false
  pub none_new : accepted_by e.act ≡ []

-- An event of no task: none acts. If it is an act of a job, an owner holds that; if it accepts one,
-- an owner brings that.
pub record IsBeside (past : List Moment) (e : Event) : Type 0 where
  pub out : (k : ℕ) → is_by_task k e ≡ false
  pub of_owner : (s : ℕ) → is_of_job s e ≡ true → (h : ℕ) × (holder past s ≡ Some (ByOwner h))
  pub by_owner : (s : ℕ) → accepts s e.act ≡ true → (h : ℕ) × (e.party ≡ ByOwner h)

-- an event by which the pool accepts this job, which makes a new task
pub record MakesTask (e : Event) (s : ℕ) : Type 0 where
  pub party_is : e.party ≡ Pool
  pub act_is : e.act ≡ Accepted s

-- ---- one step of one task

-- Task k takes a step, whose job is s and may be in the hand of worker v; the other tasks stay.
pub record TakesStep (past : List Moment) (old : List Task) (e : Event) (new : List Task) :
    Type 0 where
  pub step : TaskStep
  pub place : ℕ
  pub job : ℕ
  pub worker : ℕ
  pub first : ℕ
  pub growth : Growth
  pub task : Task
  pub held : holder past job ≡ Some (ByTask place)
  pub there : slice_get old place ≡ Some task
  pub may : MayTake step task (acts_of job (events past))
  pub event_is : e ≡ event_by step place worker job (act_of step task) first growth
  pub after_is : new ≡ slice_set old place (task_after step task)
