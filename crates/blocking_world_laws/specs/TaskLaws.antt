-- The laws of one task and of the job of its call, over the cut of that task alone.
use Rattle.std.specs.Prelude.{◌≡◌, ℕ, Bool, true, false, ◌||◌, not, List, [], ◌∷◌}
use Rattle.blocking_world_laws.specs.Seen.{EachMayFollow, own, acts_of, is_some_worker}
use Rattle.blocking_world_laws.specs.Jobs.{lets_go}
use Rattle.blocking_world_laws.specs.JobTable.{Calling, JobAction, AskCall, Finish, WakeHolder}
use Rattle.blocking_world_laws.specs.JobTable.{IsAnswerTo, next_but_wake, next_of_job, is_over}
use Rattle.blocking_world_laws.specs.JobTable.{number, has_finished, has_given_up}
use Rattle.blocking_world_laws.specs.Places.{poll_task}
use Rattle.blocking_world_laws.specs.Seats.{task_seat, waker_in}
use Rattle.blocking_world_laws.specs.declared.event.Act.{Act}
use Rattle.blocking_world_laws.specs.declared.event.Act.TheVariants.{TaskGot, TaskGotNone}
use Rattle.blocking_world_laws.specs.declared.event.Act.TheVariants.{TaskCancelled, TaskDetached}
use Rattle.blocking_world_laws.specs.declared.event.Act.TheVariants.{HolderDropped, Finished}
use Rattle.blocking_world_laws.specs.declared.event.Act.TheVariants.{GaveUp, HolderWoken}
use Rattle.blocking_world_laws.specs.declared.event.Event.{Event}

-- whether the task was cancelled, by its own acts
abbrev pub was_cancelled : List Act → Bool
was_cancelled [] = false
was_cancelled (TaskCancelled ∷ past) = true
was_cancelled (_ ∷ past) = was_cancelled past

-- whether the task is gone by this act: it was answered, detached or dropped
abbrev pub is_gone_by : Act → Bool
is_gone_by (TaskGot n) = true
is_gone_by TaskGotNone = true
is_gone_by TaskDetached = true
is_gone_by HolderDropped = true
is_gone_by _ = false

-- whether the task is gone
abbrev pub is_gone : List Act → Bool
is_gone [] = false
is_gone (act ∷ past) = is_gone_by act || is_gone past

-- whether the task let its call go: it was cancelled or dropped
abbrev pub is_let_go : List Act → Bool
is_let_go [] = false
is_let_go (act ∷ past) = lets_go act || is_let_go past

-- whether the call finished in time, after an act
abbrev pub in_time_by : Act → Bool → Bool → Bool
in_time_by (Finished waker) cancelled before = not cancelled
in_time_by _ cancelled before = before

-- whether the call finished in time: before any cancel of its task
abbrev pub is_in_time : List Event → Bool
is_in_time [] = false
is_in_time (now ∷ cut) = in_time_by now.act (was_cancelled (own cut)) (is_in_time cut)

-- what a poll of the task is answered
abbrev pub poll_answer : ℕ → List Event → Act
poll_answer s cut =
    poll_task (is_in_time cut) (has_finished (acts_of s cut) || has_given_up (acts_of s cut))
    (number (acts_of s cut))

-- What a task may do: be cancelled or detached where it wasn't cancelled before, be dropped, or be
-- polled, and then it is answered what its place answers.
abbrev pub TaskActs : ℕ → List Event → Act → Type 0
TaskActs s cut TaskCancelled = was_cancelled (own cut) ≡ false
TaskActs s cut TaskDetached = was_cancelled (own cut) ≡ false
TaskActs s cut HolderDropped = Unit {0}
TaskActs s cut act = act ≡ poll_answer s cut

-- What a call's job does by its next action: it is answered, puts its result and takes the waker of
-- its holder where one is seated, and calls the waker that it took.
abbrev pub Calls : List Event → JobAction → Act → Type 0
Calls cut AskCall act = IsAnswerTo AskCall act
Calls cut Finish act = act ≡ Finished (waker_in (task_seat cut))
Calls cut WakeHolder act = act ≡ HolderWoken
Calls cut _ act = ⊥

-- What a call's job may do: what its table says; or give up, where its task let it go and it isn't
-- over, and then too it takes the waker of its holder where one is seated.
abbrev pub CallActs : ℕ → List Event → Act → Type 0
CallActs s cut (GaveUp waker) =
    (is_let_go (own cut) ≡ true) × (is_over (next_but_wake Calling (acts_of s cut)) ≡ false)
    × (waker ≡ waker_in (task_seat cut))
CallActs s cut act = Calls cut (next_of_job Calling (acts_of s cut)) act

-- an act of a worker is its job's; any other is the task's, which isn't gone
abbrev pub TaskMayAct : ℕ → Bool → List Event → Act → Type 0
TaskMayAct s true cut act = CallActs s cut act
TaskMayAct s false cut act = (is_gone (own cut) ≡ false) × TaskActs s cut act

-- The law of a task whose job is s: an event of either may follow those of both before it.
abbrev pub TaskLaw : ℕ → List Event → Event → Type 0
TaskLaw s cut now = TaskMayAct s (is_some_worker now.party) cut now.act

-- the law of a task, at each event of its cut
abbrev pub TaskLaws : ℕ → List Event → Type 0
TaskLaws s cut = EachMayFollow (TaskLaw s) cut
