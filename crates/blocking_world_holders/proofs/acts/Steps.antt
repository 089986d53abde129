-- A step of a task keeps the law of the task and its tie, and stands in the cut of that task alone.
use Rattle.std.proofs.Common.{arith, ◌≡◌, ℕ, ◌==◌, List, [], Bool, true, false, refl, if◌then◌else◌}
use Rattle.std.proofs.Common.{◌&&◌, ◌||◌, not}
use Rattle.blocking_world_holders.proofs.Types.{Event}
use Rattle.blocking_world_holders.proofs.Words.{Growth, has_finished, accepted_by, acts_of}
use Rattle.blocking_world_holders.proofs.Words.{is_by_task, is_nothing, is_of_job, is_of_pool}
use Rattle.blocking_world_holders.proofs.Words.{is_in_time, TaskCallsWaker as CallsWaker, Finishes}
use Rattle.blocking_world_holders.proofs.Words.{TaskGivesUp as GivesUp}
use Rattle.blocking_world_holders.proofs.Words.{TaskIsAnswered as IsAnswered, IsCalled}
use Rattle.blocking_world_holders.proofs.Words.{TaskMayTake as MayTake, TaskStep}
use Rattle.blocking_world_holders.proofs.Words.{task_act_of as act_of, task_event_by as event_by}
use Rattle.blocking_world_holders.proofs.Words.{task_after, Task, task_act, TaskAs}
use Rattle.blocking_world_holders.proofs.acts.Calls.{by_call, call_plainly}
use Rattle.blocking_world_holders.proofs.acts.TaskActs.{Goes, call_goes}
use Rattle.blocking_world_holders.proofs.acts.JobActs.{answer_goes, finish_goes, give_up_goes}
use Rattle.blocking_world_holders.proofs.acts.JobActs.{wake_goes}

-- each step that there may be
pub step_goes : (step : TaskStep) (task : Task) (k v s first : ℕ) (growth : Growth)
    (cut : List Event) → MayTake step task (acts_of s cut)
    → (is_in_time cut ≡ true → has_finished (acts_of s cut) ≡ true) → TaskAs task s cut
    → Goes (task_after step task) s cut (event_by step k v s (act_of step task) first growth)
step_goes (IsCalled call) task k v s first growth cut may timely t =
    call_goes call task s k first growth cut may t
step_goes (IsAnswered n) task k v s first growth cut may timely t =
    answer_goes task v s n first growth cut may timely t
step_goes (Finishes n) task k v s first growth cut may timely t =
    finish_goes task v s n first growth cut may timely t
step_goes GivesUp task k v s first growth cut may timely t =
    give_up_goes task v s first growth cut may.0 timely may.1 t
step_goes CallsWaker task k v s first growth cut may timely t =
    wake_goes task v s first growth cut may t

-- whether a step is a call by the task's holder, and no act of its job
abbrev pub is_call : TaskStep → Bool
is_call (IsCalled call) = true
is_call _ = false

task_only : (p n i q : Bool) → n ≡ false → (not n && i) || (not p && not n && false && q) ≡ i
task_only p n i q is = grind arith

-- a call stands in the cuts of its task, and an act of a job in those of its job
pub in_cut : (step : TaskStep) (task : Task) (k v s first : ℕ) (growth : Growth) (j t : ℕ)
    → is_by_task j (event_by step k v s (act_of step task) first growth)
    || is_of_job t (event_by step k v s (act_of step task) first growth)
    ≡ (if is_call step then k == j else s == t)
in_cut (IsCalled call) task k v s first growth j t = task_only (is_of_pool (task_act call task))
    (is_nothing (task_act call task)) (k == j) false (call_plainly call task)
in_cut _ task k v s first growth j t = refl

-- no step accepts a job
pub accepts_none : (step : TaskStep) (task : Task) (k v s first : ℕ) (growth : Growth)
    → accepted_by (event_by step k v s (act_of step task) first growth).act ≡ []
accepts_none (IsCalled call) task k v s first growth =
    by_call (λ act. accepted_by act ≡ []) refl (λ n. refl) refl refl refl refl call task
accepts_none _ task k v s first growth = refl
