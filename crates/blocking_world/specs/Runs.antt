-- What contracts see of a world, and what a run adds to it.
use Rattle.std.specs.Prelude.{◌≡◌, ◌<◌, ℕ, Bool, not, List, ◌++◌, length, map, reverse}
use Rattle.blocking_world_laws.specs.Seen.{acts_of_owner, events}
use Rattle.blocking_world_laws.specs.Sessions.{is_poll_over, under_way}
use Rattle.blocking_world_laws.specs.declared.event.Event.{Event}
use Rattle.blocking_world_laws.specs.declared.event.Moment.{Moment}
use Rattle.blocking_world_laws.specs.declared.step.Step.{Step}

-- the history of a world: the number of its setting, the plan of its starts, and what was seen so
-- far, the newest first
pub record History : Type 0 where
  pub setting : ℕ
  pub plan : List Bool
  pub past : List Moment

-- a world: its history, and how many passes and how many turns its workers hold
pub record WorldValue : Type 0 where
  pub history : History
  pub passes : ℕ
  pub turns : ℕ

-- whether the poll of an owner is under way, by what was seen: it began, and has neither waited nor
-- replied since
abbrev pub is_poll_under_way : ℕ → List Moment → Bool
is_poll_under_way h past = not (is_poll_over (under_way (acts_of_owner h (events past))))

-- these moments came after what was seen before
abbrev pub Follow : List Moment → History → History → Type 0
Follow moments old new = new ≡ record old { past = reverse moments ++ old.past }

-- All steps were taken: the moments that were added have these steps and these events.
pub record Adds (steps : List Step) (events : List Event) (old new : History) : Type 0 where
  pub moments : List Moment
  pub steps_are : map (λ moment. moment.step) moments ≡ steps
  pub events_are : map (λ moment. moment.event) moments ≡ events
  pub follow : Follow moments old new

-- Fewer steps were taken than there are: the moments that were added have the first of them.
pub record StopsShort (steps : List Step) (old new : History) : Type 0 where
  pub moments : List Moment
  pub rest : List Step
  pub steps_are : map (λ moment. moment.step) moments ++ rest ≡ steps
  pub fewer : length moments < length steps
  pub follow : Follow moments old new
