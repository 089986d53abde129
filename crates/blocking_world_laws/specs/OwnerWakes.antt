-- Wakes between an owner and its job, and who of the two waits.
use Rattle.std.specs.Prelude.{◌≡◌, ℕ, ◌==◌, ◌&&◌, ◌||◌, ◌⊎◌, not, Bool, true, false, List, [], ◌∷◌}
use Rattle.std.specs.Prelude.{length, Option, Some, None}
use Rattle.blocking_world_laws.specs.Jobs.{holder, standing, is_parked}
use Rattle.blocking_world_laws.specs.JobTable.{Kind, Writing}
use Rattle.blocking_world_laws.specs.Passed.{inside, last_kind}
use Rattle.blocking_world_laws.specs.Seen.{events, own, is_this, cut}
use Rattle.blocking_world_laws.specs.Sessions.{Session, session, is_shut, capacity}
use Rattle.blocking_world_laws.specs.OwnerTable.{note_in}
use Rattle.blocking_world_laws.specs.Wakes.{is_waiting, was_woken, is_at_rest}
use Rattle.blocking_world_laws.specs.declared.event.Act.{Act}
use Rattle.blocking_world_laws.specs.declared.event.Act.TheVariants.{JobWoken}
use Rattle.blocking_world_laws.specs.declared.event.Event.{Event}
use Rattle.blocking_world_laws.specs.declared.event.Moment.{Moment}
use Rattle.blocking_world_laws.specs.declared.event.Party.TheVariants.{Owner}

-- whether a wake of this job is under way after an act of the owner: from the act that took its
-- note to the delivery
abbrev pub is_waking_by : ℕ → Act → Bool → Bool
is_waking_by s (JobWoken t woke) before = not (t == s) && before
is_waking_by s act before = is_this s (note_in act) || before

-- whether a wake of this job is under way, by the owner's own acts
abbrev pub is_waking : ℕ → List Act → Bool
is_waking s [] = false
is_waking s (act ∷ past) = is_waking_by s act (is_waking s past)

-- Who waits for a job at rest has been woken, or a wake of that job is under way.
abbrev pub IsNotLost : List Moment → ℕ → List Event → Type 0
IsNotLost past s cut =
    is_waiting (own cut) ≡ true → is_at_rest past s ≡ true
    → (was_woken cut ≡ true) ⊎ (is_waking s (own cut) ≡ true)

-- the session is that of this job
abbrev pub IsSessionOf : Option Session → ℕ → Type 0
IsSessionOf None s = ⊥
IsSessionOf (Some r) s = r.serial ≡ s

-- what is inside where a job of this kind can't go on: nothing for one that writes, all that the
-- pipe holds for one that reads or fetches items
abbrev pub IsStuck : Kind → List Event → Type 0
IsStuck Writing cut = inside cut ≡ []
IsStuck kind cut = length (inside cut) ≡ capacity kind (own cut)

-- a job has reason to wait: its owner's end is open, and it can't go on
abbrev pub HasReason : List Event → Type 0
HasReason cut = (is_shut (own cut) ≡ false) × IsStuck (last_kind cut) cut

-- A parked job has reason to wait, unless a wake of it is under way.
abbrev pub ParksRightly : List Moment → ℕ → List Event → Type 0
ParksRightly past s cut = is_parked (standing past s) ≡ true → is_waking s (own cut) ≡ false
    → HasReason cut

-- No wake is lost: no owner waits for the job of its session at rest, and no job of an owner is
-- parked where it could go on, or beside a closed end, with no wake under way.
pub record NoLostOwnerWake (past : List Moment) : Type 0 where
  pub owners : (h s : ℕ) → IsSessionOf (session (own (cut h (events past)))) s
      → IsNotLost past s (cut h (events past))
  pub jobs : (h s : ℕ) → holder past s ≡ Some (Owner h) → ParksRightly past s (cut h (events past))
