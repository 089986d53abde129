-- The calls of a task: what a poll may answer, and what a call leaves of its task.
use Rattle.std.proofs.Common.{◌≡◌, ℕ, true, false, refl, Option, Some}
use Rattle.blocking_world_holders.proofs.Types.{Act, HolderDropped, TaskCancelled, TaskDetached}
use Rattle.blocking_world_holders.proofs.Types.{TaskGot, TaskGotNone, Waits, TaskCall, Cancel}
use Rattle.blocking_world_holders.proofs.Types.{Detach, Drop, Poll, TaskStage}
use Rattle.blocking_world_holders.proofs.Words.{Abandoned, Content, Empty, Full, GivenUp}
use Rattle.blocking_world_holders.proofs.Words.{is_nothing, Task, poll_at, poll_in, poll_of}
use Rattle.blocking_world_holders.proofs.Words.{stage_after_answer, task_act, task_after_call}
use Rattle.blocking_world_holders.proofs.Words.{task_after_poll, task_after_poll_at}
use Rattle.blocking_world_holders.proofs.Words.{task_after_poll_in}

-- what holds of each answer to a poll holds of a task's
pub by_poll : (P : Act → Type 0) → P Waits → ((n : ℕ) → P (TaskGot n)) → P TaskGotNone
    → (task : Task) → P (poll_of task)
by_poll P waits got none task = at task.stage task.found task.slot.content
  where
    inside : (content : Content ℕ) → P (poll_in content)
    inside Empty = waits
    inside (Full n) = got n
    inside GivenUp = none
    inside (Abandoned true) = none
    inside (Abandoned false) = waits

    at : (stage : TaskStage) (found : Option ℕ) (content : Content ℕ)
        → P (poll_at stage found content)
    at TaskStage.Cancelled (Some n) content = got n
    at _ found content = inside content

-- what holds of each act of a task holds of what is seen of its call
pub by_call : (P : Act → Type 0) → P Waits → ((n : ℕ) → P (TaskGot n)) → P TaskGotNone
    → P TaskCancelled → P TaskDetached → P HolderDropped
    → (call : TaskCall) (task : Task) → P (task_act call task)
by_call P waits got none cancels detaches drops Poll task = by_poll P waits got none task
by_call P waits got none cancels detaches drops Cancel task = cancels
by_call P waits got none cancels detaches drops Detach task = detaches
by_call P waits got none cancels detaches drops Drop task = drops

-- a call of a task does something
pub call_plainly : (call : TaskCall) (task : Task) → is_nothing (task_act call task) ≡ false
call_plainly call task =
    by_call (λ act. is_nothing act ≡ false) refl (λ n. refl) refl refl refl refl call task

-- what holds of a task that was seated, that was answered, or whose answer was kept, holds of one
-- that was polled
by_task_after_poll : (P : Task → Type 0) (task : Task)
    → P (record task { slot = record task.slot { seat = Some tt } })
    → P (record task {
      slot = record task.slot { content = Empty };
      stage = stage_after_answer task.stage;
    })
    → P (record task { stage = stage_after_answer task.stage })
    → P (record task { stage = TaskStage.LetGo }) → P (task_after_poll task)
by_task_after_poll P task seated got none kept = at task.stage task.found task.slot.content
  where
    inside : (content : Content ℕ) → P (task_after_poll_in content task)
    inside Empty = seated
    inside (Full n) = got
    inside GivenUp = none
    inside (Abandoned true) = none
    inside (Abandoned false) = seated

    at : (stage : TaskStage) (found : Option ℕ) (content : Content ℕ)
        → P (task_after_poll_at stage found content task)
    at TaskStage.Cancelled (Some n) content = kept
    at _ found content = inside content

-- a call leaves the number of its task
pub call_number : (call : TaskCall) (task : Task) → (task_after_call call task).number ≡ task.number
call_number Poll task =
    by_task_after_poll (λ new. new.number ≡ task.number) task refl refl refl refl
call_number _ task = refl
