-- What a script makes happen, and what is shown of it.
use Rattle.std.specs.Prelude.{◌≡◌, ℕ, ◌<◌, Bool, true, false, List, [], ◌∷◌, ◌++◌, length, map}
use Rattle.std.specs.Prelude.{reverse, take, codes, decimal, Option, Some, None}
use Rattle.std.specs.List.{All, flat_map}
use Rattle.blocking_pool.specs.Limits.{limit_of_setting}
use Rattle.blocking_world_laws.specs.Counts.{idle, workers}
use Rattle.blocking_world_laws.specs.Growth.{known_limit}
use Rattle.blocking_world_laws.specs.Legal.{Legal}
use Rattle.blocking_world_laws.specs.Queue.{queue}
use Rattle.blocking_world.specs.Runs.{Follow, History, is_poll_under_way}
use Rattle.blocking_world_laws.specs.Steps.{has_action}
use Rattle.blocking_world_laws.specs.Texts.{event_text}
use Rattle.blocking_world_laws.specs.declared.event.Event.{Event}
use Rattle.blocking_world_laws.specs.declared.event.Moment.{Moment}
use Rattle.blocking_world_laws.specs.declared.step.Step.{Step}
use Rattle.blocking_world_laws.specs.declared.step.Step.TheVariants.{Job, Own}
use Rattle.blk_commands.specs.declared.instruction.Actor.{Actor}
use Rattle.blk_commands.specs.declared.instruction.Actor.TheVariants.{JobOf, PollOf}
use Rattle.blk_commands.specs.declared.instruction.Instruction.{Instruction}
use Rattle.blk_commands.specs.declared.instruction.Instruction.TheVariants.{One, AllOf}
use Rattle.blk_commands.specs.declared.steps.Ending.{Ending}

-- ---- what instructions make happen

-- what was seen after these moments, the newest first
abbrev pub after : List Moment → List Moment → List Moment
after moments past = reverse moments ++ past

-- the step by which an actor takes its next action
abbrev pub step_of : Actor → Step
step_of (JobOf worker) = Job worker
step_of (PollOf h) = Own h

-- whether an actor has a next action: a job one that is its own to take, and the poll of an owner
-- while it is under way
abbrev pub has_next : Actor → List Moment → Bool
has_next (JobOf worker) past = has_action past (Job worker)
has_next (PollOf h) past = is_poll_under_way h past

-- these moments are of this actor's step alone, there is one at least, and before each but the
-- first the actor had an action
pub record Repeats (actor : Actor) (past moments : List Moment) : Type 0 where
  pub some : 0 < length moments
  pub same : All (λ moment. moment.step ≡ step_of actor) moments
  pub goes_on : (k : ℕ) → 0 < k → k < length moments
      → has_next actor (after (take k moments) past) ≡ true

-- what an instruction makes happen after what was seen: its step, or the actions of an actor until
-- it has none
abbrev pub PlaysInstruction : Instruction → List Moment → List Moment → Type 0
PlaysInstruction (One step) past moments =
    (moment : Moment) × (moment.step ≡ step) × (moments ≡ moment ∷ [])
PlaysInstruction (AllOf actor) past moments =
    Repeats actor past moments × (has_next actor (after moments past) ≡ false)

-- what instructions make happen, one after the other
abbrev pub PlaysInstructions : List Instruction → List Moment → List Moment → Type 0
PlaysInstructions [] past moments = moments ≡ []
PlaysInstructions (instruction ∷ instructions) past moments =
    (now : List Moment) × (later : List Moment)
    × (moments ≡ now ++ later) × PlaysInstruction instruction past now
    × PlaysInstructions instructions (after now past) later

-- what was seen is legal
abbrev pub IsLegal : History → Type 0
IsLegal history = Legal history.setting history.plan history.past

-- So much was taken: these moments came after what was seen before, with these events, and leave it
-- legal.
pub record Takes (Plays : List Moment → List Moment → Type 0) (old new : History)
    (before events : List Event) : Type 0 where
  pub moments : List Moment
  pub plays : Plays old.past moments
  pub follow : Follow moments old new
  pub events_are : events ≡ before ++ map (λ moment. moment.event) moments
  pub legal : IsLegal old → IsLegal new

-- ---- what is shown

-- a text with a line feed
abbrev pub line_of : List ℕ → List ℕ
line_of text = text ++ 10 ∷ []

-- a limit, or that there is none
abbrev pub limit_text : Option ℕ → List ℕ
limit_text (Some limit) = decimal limit
limit_text None = codes "none"

-- how a pool stands in the end
abbrev pub ending_text : Ending → List ℕ
ending_text ending =
    codes "end workers " ++ decimal ending.workers ++ codes " idle " ++ decimal ending.idle
    ++ codes " queued " ++ decimal ending.queued ++ codes " limit " ++ limit_text ending.limit

-- how the pool stands after what was seen
abbrev pub ending_of : History → Ending
ending_of history = record {
  workers = workers history.past;
  idle = idle history.past;
  queued = length (queue history.past);
  limit = known_limit history.setting history.past;
}

-- the events, each on a line, and the ending
abbrev pub shown_text : List Event → Ending → List ℕ
shown_text events ending =
    flat_map (λ event. line_of (event_text event)) events ++ line_of (ending_text ending)

-- a world of this plan and the setting of this text, in which nothing was seen yet
abbrev pub new_history : Option (List ℕ) → List Bool → History
new_history setting plan = record { setting = limit_of_setting setting; plan = plan; past = [] }

-- A text shows a script: what its instructions make happen in a new world of its setting and its
-- plan.
pub record ShowsScript (setting : Option (List ℕ)) (plan : List Bool)
    (instructions : List Instruction) (text : List ℕ) : Type 0 where
  pub moments : List Moment
  pub end : History
  pub plays : PlaysInstructions instructions [] moments
  pub follow : Follow moments (new_history setting plan) end
  pub legal : IsLegal end
  pub shown : text ≡ shown_text (map (λ moment. moment.event) moments) (ending_of end)
