-- A task that waits for a job that is over was woken.
use Rattle.std.proofs.Common.{◌≡◌, ℕ, List, Bool, true, false, ⊎_elim, ◌⊎◌, ◌||◌}
use Rattle.blocking_world_holders.proofs.Types.{Event}
use Rattle.blocking_world_holders.proofs.Words.{has_finished, has_given_up, task_seat, acts_of, own}
use Rattle.blocking_world_holders.proofs.Words.{is_waiting, was_woken, Task, TaskAs}

told_by : (woken seated over : Bool) → over ≡ true
    → (woken ≡ true) ⊎ ((seated ≡ true) × (over ≡ false)) → woken ≡ true
told_by woken seated over is told =
    ⊎_elim (λ now. now) (λ still. let not_over = still.1 in absurd (cc)) told

pub told_at : (task : Task) (s : ℕ) (cut : List Event)
    → TaskAs task s cut → is_waiting (own cut) ≡ true
    → has_finished (acts_of s cut) || has_given_up (acts_of s cut) ≡ true → was_woken cut ≡ true
told_at task s cut t waits over = told_by (was_woken cut) (task_seat cut)
    (has_finished (acts_of s cut) || has_given_up (acts_of s cut)) over (t.told waits)
