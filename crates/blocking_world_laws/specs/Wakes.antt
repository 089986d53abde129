-- Wakes under way, and who waits.
use Rattle.std.specs.Prelude.{◌≡◌, ℕ, ◌&&◌, ◌||◌, Bool, true, false, List, [], ◌∷◌, Some}
use Rattle.blocking_world_laws.specs.Seen.{events, own, is_some_worker, task_cut}
use Rattle.blocking_world_laws.specs.Jobs.{holder, standing, is_parked, has_ended}
use Rattle.blocking_world_laws.specs.JobTable.{takes_waker}
use Rattle.blocking_world_laws.specs.declared.event.Act.{Act}
use Rattle.blocking_world_laws.specs.declared.event.Act.TheVariants.{Waits}
use Rattle.blocking_world_laws.specs.declared.event.Event.{Event}
use Rattle.blocking_world_laws.specs.declared.event.Moment.{Moment}
use Rattle.blocking_world_laws.specs.declared.event.Party.TheVariants.{Task}

-- whether the holder waits: its own last act is a wait
abbrev pub is_waiting : List Act → Bool
is_waiting (Waits ∷ past) = true
is_waiting _ = false

-- whether the holder's waker was taken out of its seat since its own last act: the wake was
-- delivered, or is under way
abbrev pub was_woken : List Event → Bool
was_woken [] = false
was_woken (now ∷ cut) = is_some_worker now.party && (takes_waker now.act || was_woken cut)

-- whether nothing will come of the job by itself: it is parked or over
abbrev pub is_at_rest : List Moment → ℕ → Bool
is_at_rest past s = is_parked (standing past s) || has_ended past s

-- A holder that waits for a job at rest has been woken.
abbrev pub IsTold : List Moment → ℕ → List Event → Type 0
IsTold past s cut = is_waiting (own cut) ≡ true → is_at_rest past s ≡ true → was_woken cut ≡ true

-- No wake is lost: no task waits for a job at rest with no wake of it under way.
pub record NoLostWake (past : List Moment) : Type 0 where
  pub tasks : (k s : ℕ) → holder past s ≡ Some (Task k) → IsTold past s (task_cut k s (events past))
