-- Whatever the job in a hand does, each task, and the last session of each owner, keeps its number.
use Rattle.std.proofs.Common.{◌≡◌, ℕ, List, [], refl, sym, subst₂, Some, slice_get, arith}
use Rattle.blocking_world_state.proofs.Types.{TurnStage, SessionJob, Core}
use Rattle.blocking_world_state.proofs.Words.{OwnerStep, Owner, number_of, TaskStep, Task, Parts}
use Rattle.blocking_world_state.proofs.Words.{session_step, Done, done}
use Rattle.blocking_world_holders.specs.OwnerSteps as owners
use Rattle.blocking_world_holders.specs.Steps as tasks
use Rattle.blocking_world_state.specs.declared.row.Core.TheVariants as core
use Rattle.blocking_world_holders.proofs.owners.Events.{brought}
use Rattle.blocking_world_state.proofs.moves.Lookups.{kept_in}
use Rattle.blocking_world_state.proofs.rows.Numbers.{number_stays}
use Rattle.blocking_world_state.proofs.ties.JobSteps.{call_acts, session_acts}

-- Each task, and the last session of each owner, has the number that it had.
pub record KeepNumbers (old : List Task) (before : List Owner) (tasks : List Task)
    (owners : List Owner) : Type 0 where
  pub of_task : (k : ℕ) (task : Task) → slice_get tasks k ≡ Some task
      → (was : Task) × (slice_get old k ≡ Some was) × (was.number ≡ task.number)
  pub of_owner : (h : ℕ) (owner : Owner) → slice_get owners h ≡ Some owner
      → (was : Owner) × (slice_get before h ≡ Some was) × (number_of was ≡ number_of owner)

pub same_numbers : (tasks : List Task) (owners : List Owner) → KeepNumbers tasks owners tasks owners
same_numbers tasks owners = record {
  of_task = λ k task found. (task, found, refl);
  of_owner = λ h owner found. (owner, found, refl);
}

-- whatever happens to a task leaves its number
step_number : (step : TaskStep) (task : Task) → task.number ≡ (tasks.task_after step task).number
step_number step task = grind arith

-- and no session begins by what a job does
none_brought : (at : TurnStage) (job : SessionJob) (step : OwnerStep)
    → session_step at job ≡ Some step
    → brought step ≡ []
none_brought at job step is = grind arith

pub done_numbers : (w : Parts) (at : TurnStage) (c : Core) (did : Done)
    → done at c w.tasks w.owners ≡ Some did → KeepNumbers w.tasks w.owners did.tasks did.owners
done_numbers w at (core.Call k call) did is =
    let a = call_acts w at k call did is in
    subst₂ (KeepNumbers w.tasks w.owners) (sym a.tasks_are) (sym a.owners_are) (record {
      of_task =
          kept_in (λ (x : Task). x.number) w.tasks k a.task (tasks.task_after a.step a.task)
          a.there (step_number a.step a.task);
      of_owner = λ h owner found. (owner, found, refl);
    })
done_numbers w at (core.Session h job) did is =
    let a = session_acts w at h job did is in
    let same = sym (number_stays a.step a.owner (none_brought at job a.step a.next)) in
    subst₂ (KeepNumbers w.tasks w.owners) (sym a.tasks_are)
    (sym a.owners_are) (record {
      of_task = λ k task found. (task, found, refl);
      of_owner =
          kept_in number_of w.owners h a.owner (owners.owner_after a.step a.owner) a.there same;
    })
