-- How tasks hang together with what was seen: each with its cut.
use Rattle.std.specs.Prelude.{◌≡◌, ◌<◌, ◌≤◌, ◌⊎◌, ◌||◌, ℕ, Bool, true, false, List, [], length}
use Rattle.std.specs.Prelude.{slice_get, Option, Some, None, is_some}
use Rattle.blocking_core.specs.SlotAnswers.{IsPending}
use Rattle.blocking_core.specs.Slots.{Content, Empty, Full, GivenUp, Abandoned}
use Rattle.blocking_world_laws.specs.Seen.{events, acts_of, own, task_cut}
use Rattle.blocking_world_laws.specs.Jobs.{tasks, holder}
use Rattle.blocking_world_laws.specs.JobTable.{number, has_finished, has_given_up}
use Rattle.blocking_world_laws.specs.Seats.{task_seat}
use Rattle.blocking_world_laws.specs.TaskLaws.{TaskLaws, is_gone, was_cancelled, is_let_go}
use Rattle.blocking_world_laws.specs.TaskLaws.{is_in_time}
use Rattle.blocking_world_laws.specs.Wakes.{is_waiting, was_woken}
use Rattle.blocking_world_laws.specs.declared.event.Event.{Event}
use Rattle.blocking_world_laws.specs.declared.event.Moment.{Moment}
use Rattle.blocking_world_laws.specs.declared.event.Party.TheVariants.{Task as ByTask}
use Rattle.blocking_world_holders.specs.Tasks.{Task, has_let_go}
use Rattle.blocking_world_holders.specs.declared.task.TaskStage.{TaskStage}
use Rattle.blocking_world_holders.specs.declared.task.TaskStage.TheVariants as task_stage

-- ---- one task

-- what a task that is awaited finds in its slot, by whether its job finished or gave up, whether
-- that was in time, and the number
abbrev pub AwaitedAs : Content ℕ → Bool → Bool → Bool → ℕ → Type 0
AwaitedAs Empty finished given_up in_time n =
    (finished ≡ false) × (given_up ≡ false) × (in_time ≡ false)
AwaitedAs (Full m) finished given_up in_time n = (finished ≡ true) × (in_time ≡ true) × (m ≡ n)
AwaitedAs GivenUp finished given_up in_time n =
    (finished ≡ false) × (given_up ≡ true) × (in_time ≡ false)
AwaitedAs (Abandoned over) finished given_up in_time n = ⊥

-- what the cancel found
abbrev pub FoundAs : Option ℕ → Bool → ℕ → Type 0
FoundAs None in_time n = in_time ≡ false
FoundAs (Some m) in_time n = (in_time ≡ true) × (m ≡ n)

-- what a cancelled task finds in its slot
abbrev pub CancelledAs : Content ℕ → Option ℕ → Bool → Bool → Bool → ℕ → Type 0
CancelledAs (Abandoned over) found finished given_up in_time n =
    (finished || given_up ≡ over) × FoundAs found in_time n
CancelledAs _ found finished given_up in_time n = ⊥

abbrev pub SlotAs : TaskStage → Content ℕ → Option ℕ → Bool → Bool → Bool → ℕ → Type 0
SlotAs task_stage.Attached content found finished given_up in_time n =
    AwaitedAs content finished given_up in_time n
SlotAs task_stage.Cancelled content found finished given_up in_time n =
    CancelledAs content found finished given_up in_time n
SlotAs task_stage.Gone content found finished given_up in_time n = finished || given_up ≡ false
    → IsPending content
SlotAs task_stage.LetGo content found finished given_up in_time n = finished || given_up ≡ false
    → IsPending content

-- whether a task is gone
abbrev pub is_gone_as : TaskStage → Bool
is_gone_as task_stage.Gone = true
is_gone_as task_stage.LetGo = true
is_gone_as _ = false

-- whether a task that isn't gone was cancelled
abbrev pub CancelAs : TaskStage → Bool → Type 0
CancelAs task_stage.Attached was = was ≡ false
CancelAs task_stage.Cancelled was = was ≡ true
CancelAs _ was = Unit {0}

-- A task whose job is s, by its cut: what it did itself, and what its job did.
pub record TaskAs (task : Task) (s : ℕ) (cut : List Event) : Type 0 where
  pub gone : is_gone (own cut) ≡ is_gone_as task.stage
  pub cancel : CancelAs task.stage (was_cancelled (own cut))
  pub let_go : is_let_go (own cut) ≡ has_let_go task.stage
  pub seat : task_seat cut ≡ is_some task.slot.seat
  pub slot :
      SlotAs task.stage task.slot.content task.found (has_finished (acts_of s cut))
      (has_given_up (acts_of s cut)) (is_in_time cut) (number (acts_of s cut))
  -- a task that waits was woken, or sits in its seat and its job goes on
  pub told :
      is_waiting (own cut) ≡ true
      → (was_woken cut ≡ true) ⊎ ((task_seat cut ≡ true)
      × (has_finished (acts_of s cut) || has_given_up (acts_of s cut) ≡ false))

-- ---- all tasks

-- Each task that holds a job is there, holds no other, and is tied to its cut.
pub record Tasked (row : List Task) (past : List Moment) : Type 0 where
  pub count : length row ≡ tasks past
  pub there : (k s : ℕ) → holder past s ≡ Some (ByTask k) → k < length row
  pub once : (k s t : ℕ) → holder past s ≡ Some (ByTask k) → holder past t ≡ Some (ByTask k) → s ≡ t
  pub each : (k s : ℕ) (task : Task) → holder past s ≡ Some (ByTask k) → slice_get row k ≡ Some task
      → TaskAs task s (task_cut k s (events past))
  -- nothing was seen yet of a task that isn't there, nor of a job that nobody holds
  pub unborn : (k s : ℕ) → length row ≤ k → holder past s ≡ None → task_cut k s (events past) ≡ []

-- each task has kept its laws so far
abbrev pub AllLaws : List Moment → Type 0
AllLaws past = (k s : ℕ) → holder past s ≡ Some (ByTask k) → TaskLaws s (task_cut k s (events past))

-- the tie of the tasks, and their laws
pub record TasksHold (row : List Task) (past : List Moment) : Type 0 where
  pub tied : Tasked row past
  pub laws : AllLaws past
