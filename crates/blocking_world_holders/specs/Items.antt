-- How far the job of an iterator is, and how that hangs together with what it has done.
use Rattle.std.specs.Prelude.{◌≡◌, ℕ, List, None}
use Rattle.blocking_core.specs.Items.{new_item, item_next, item_after}
use Rattle.blocking_core.specs.Machines.{Machine}
use Rattle.blocking_core.specs.declared.job.item.ItemAction.{ItemAction}
use Rattle.blocking_core.specs.declared.job.item.ItemAction.TheVariants as item
use Rattle.blocking_core.specs.declared.job.item.ItemAnswer.{ItemAnswer}
use Rattle.blocking_core.specs.declared.job.item.ItemAnswer.TheVariants as by
use Rattle.blocking_world_laws.specs.JobTable.{Streaming, JobAction, AskItem, SendItem, CloseEnd}
use Rattle.blocking_world_laws.specs.JobTable.{Finish, WakeHolder, Over, next_but_wake, fault}
use Rattle.blocking_world_laws.specs.declared.event.Act.{Act}
use Rattle.blocking_world_laws.specs.declared.step.HandleAnswer.{HandleAnswer}
use Rattle.blocking_world_laws.specs.declared.step.HandleAnswer.TheVariants.{Item, NoItem}
use Rattle.blocking_world_holders.specs.Reads.{has_waker}

-- What the job of an iterator does next, and the item that its handle gave last, 0 before the
-- first. It is in hand until it is sent.
pub record Progress : Type 0 where
  pub core : Machine ItemAction
  pub item : ℕ

-- a job that has done nothing yet
abbrev pub not_begun : Progress
not_begun = record { core = new_item; item = 0 }

-- ---- what comes next

-- an action of a job with this item, in the words of the laws
abbrev pub action_as : ℕ → ItemAction → JobAction
action_as x item.Next = AskItem
action_as x item.Send = SendItem x
action_as x item.Close = CloseEnd
action_as x item.Finish = Finish
action_as x item.Deliver = WakeHolder
action_as x item.Done = Over

-- the next action of the job, in the words of the laws
abbrev pub action_of : Progress → JobAction
action_of job = action_as job.item (item_next job.core)

-- ---- what it leaves

-- the job after its action was answered so
abbrev pub progress_with : Progress → ItemAnswer → Progress
progress_with job answer = record job { core = item_after job.core answer }

-- the handle gave this item
abbrev pub progress_after_item : Progress → ℕ → Progress
progress_after_item job x = record job { core = item_after job.core by.Gave; item = x }

-- the handle answered so
abbrev pub progress_after_answer : Progress → HandleAnswer → Progress
progress_after_answer job (Item x) = progress_after_item job x
progress_after_answer job NoItem = progress_with job by.Ended
progress_after_answer job _ = job

-- ---- what it has done

-- A job that didn't give up, by what it has done so far. It meets no fault.
pub record ItemAs (job : Progress) (acts : List Act) : Type 0 where
  pub next : action_as job.item job.core.next ≡ next_but_wake Streaming acts
  pub waking : job.core.is_waking ≡ has_waker acts
  pub fault_is : fault Streaming acts ≡ None
