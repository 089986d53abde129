-- The machine of a task as contracts see it, and what each call of the task and each act of its job
-- does to it.
use Rattle.std.specs.Prelude.{ℕ, Bool, true, false, Option, Some, None, is_some}
use Rattle.blocking_core.specs.Slots.{Slot, Content, Empty, Full, GivenUp, Abandoned, empty_slot}
use Rattle.blocking_core.specs.Slots.{after_abandon, value_in, after_put, put_in, after_give_up}
use Rattle.blocking_core.specs.Slots.{waker_of_give_up}
use Rattle.blocking_pool.specs.Jobs.{JobNumber}
use Rattle.blocking_world_laws.specs.declared.event.Act.{Act}
use Rattle.blocking_world_laws.specs.declared.event.Act.TheVariants.{Waits, TaskGot, TaskGotNone}
use Rattle.blocking_world_laws.specs.declared.event.Act.TheVariants.{TaskCancelled, TaskDetached}
use Rattle.blocking_world_laws.specs.declared.event.Act.TheVariants.{HolderDropped}
use Rattle.blocking_world_laws.specs.declared.step.TaskCall.{TaskCall}
use Rattle.blocking_world_laws.specs.declared.step.TaskCall.TheVariants.{Poll, Cancel, Detach, Drop}
use Rattle.blocking_world_holders.specs.declared.task.TaskStage.{TaskStage}
use Rattle.blocking_world_holders.specs.declared.task.TaskStage.TheVariants as task_stage

-- A task: the number of its job, the slot in which it meets that job, what its cancel found, and
-- what became of it.
pub record Task : Type 0 where
  pub number : JobNumber
  pub slot : Slot ℕ (Unit {0})
  pub found : Option ℕ
  pub stage : TaskStage

-- the task of a new job
abbrev pub new_task : JobNumber → Task
new_task number =
    record { number = number; slot = empty_slot; found = None; stage = task_stage.Attached }

-- whether a task may be called so: after its cancel it is only polled and dropped, and a task that
-- is gone isn't called
abbrev pub may_be : TaskStage → TaskCall → Bool
may_be task_stage.Attached call = true
may_be task_stage.Cancelled Poll = true
may_be task_stage.Cancelled Drop = true
may_be _ call = false

-- whether a task has let its call go
abbrev pub has_let_go : TaskStage → Bool
has_let_go task_stage.Cancelled = true
has_let_go task_stage.LetGo = true
has_let_go _ = false

-- what became of a task that was answered
abbrev pub stage_after_answer : TaskStage → TaskStage
stage_after_answer task_stage.Attached = task_stage.Gone
stage_after_answer task_stage.Cancelled = task_stage.LetGo
stage_after_answer task_stage.Gone = task_stage.Gone
stage_after_answer task_stage.LetGo = task_stage.LetGo

-- what a poll finds in a slot
abbrev pub poll_in : Content ℕ → Act
poll_in Empty = Waits
poll_in (Full number) = TaskGot number
poll_in GivenUp = TaskGotNone
poll_in (Abandoned true) = TaskGotNone
poll_in (Abandoned false) = Waits

-- what a poll of a task finds: first what its cancel found
abbrev pub poll_at : TaskStage → Option ℕ → Content ℕ → Act
poll_at task_stage.Cancelled (Some number) content = TaskGot number
poll_at _ found content = poll_in content

abbrev pub poll_of : Task → Act
poll_of task = poll_at task.stage task.found task.slot.content

-- the task after a poll of its slot
abbrev pub task_after_poll_in : Content ℕ → Task → Task
task_after_poll_in Empty task = record task { slot = record task.slot { seat = Some tt } }
task_after_poll_in (Full number) task = record task {
  slot = record task.slot { content = Empty };
  stage = stage_after_answer task.stage;
}
task_after_poll_in GivenUp task = record task { stage = stage_after_answer task.stage }
task_after_poll_in (Abandoned true) task = record task { stage = stage_after_answer task.stage }
task_after_poll_in (Abandoned false) task =
    record task { slot = record task.slot { seat = Some tt } }

abbrev pub task_after_poll_at : TaskStage → Option ℕ → Content ℕ → Task → Task
task_after_poll_at task_stage.Cancelled (Some number) content task =
    record task { stage = task_stage.LetGo }
task_after_poll_at _ found content task = task_after_poll_in content task

-- the task after a poll
abbrev pub task_after_poll : Task → Task
task_after_poll task = task_after_poll_at task.stage task.found task.slot.content task

-- the task after its cancel: it keeps an answer that was there
abbrev pub task_after_cancel : Task → Task
task_after_cancel task = record task {
  slot = after_abandon task.slot;
  found = value_in task.slot;
  stage = task_stage.Cancelled;
}

-- the task after it was detached
abbrev pub task_after_detach : Task → Task
task_after_detach task = record task { slot = after_abandon task.slot; stage = task_stage.Gone }

-- the task after it was dropped
abbrev pub task_after_drop : Task → Task
task_after_drop task = record task { slot = after_abandon task.slot; stage = task_stage.LetGo }

-- ---- its holder calls it

-- what is seen of a call of a task
abbrev pub task_act : TaskCall → Task → Act
task_act Poll task = poll_of task
task_act Cancel task = TaskCancelled
task_act Detach task = TaskDetached
task_act Drop task = HolderDropped

-- the task after a call
abbrev pub task_after_call : TaskCall → Task → Task
task_after_call Poll task = task_after_poll task
task_after_call Cancel task = task_after_cancel task
task_after_call Detach task = task_after_detach task
task_after_call Drop task = task_after_drop task

-- ---- its job acts

-- whether its job takes a waker out of the seat where it puts this number
abbrev pub finish_wakes : Task → ℕ → Bool
finish_wakes task number = is_some (put_in task.slot number).wake

-- the task after its job put this number
abbrev pub task_after_finish : Task → ℕ → Task
task_after_finish task number = record task { slot = after_put task.slot number }

-- whether its job takes a waker out of the seat where it gives up
abbrev pub give_up_wakes : Task → Bool
give_up_wakes task = is_some (waker_of_give_up task.slot)

-- the task after its job gave up
abbrev pub task_after_give_up : Task → Task
task_after_give_up task = record task { slot = after_give_up task.slot }
