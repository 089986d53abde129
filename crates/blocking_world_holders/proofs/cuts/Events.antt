-- One more event and the cut of a task.
use Rattle.std.proofs.Common.{◌≡◌, ℕ, List, ◌∷◌, true, false, refl, ◌||◌}
use Rattle.blocking_world_holders.proofs.Types.{Event}
use Rattle.blocking_world_holders.proofs.Words.{is_by_task, is_of_job, task_cut}

-- it stands in no cut but where it is of the task or of its job
pub cut_same : (k s : ℕ) (e : Event) (seen : List Event) → is_by_task k e || is_of_job s e ≡ false
    → task_cut k s (e ∷ seen) ≡ task_cut k s seen
cut_same k s e seen out = rw out refl

-- and there it is the newest
pub cut_more : (k s : ℕ) (e : Event) (seen : List Event) → is_by_task k e || is_of_job s e ≡ true
    → task_cut k s (e ∷ seen) ≡ e ∷ task_cut k s seen
cut_more k s e seen inside = rw inside refl
