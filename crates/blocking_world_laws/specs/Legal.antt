-- What may be seen at all.
use Rattle.std.specs.Prelude.{◌≡◌, ℕ, Bool, List, [], ◌∷◌, ◌++◌, Some}
use Rattle.blocking_world_laws.specs.Seen.{AtEveryBeginning, EachMayFollow, events, cut, task_cut}
use Rattle.blocking_world_laws.specs.Jobs.{holder}
use Rattle.blocking_world_laws.specs.Queue.{InOrder}
use Rattle.blocking_world_laws.specs.Growth.{GrowthLaw}
use Rattle.blocking_world_laws.specs.Turns.{TurnLaw}
use Rattle.blocking_world_laws.specs.Answers.{AnswerLaw}
use Rattle.blocking_world_laws.specs.TaskLaws.{TaskLaws}
use Rattle.blocking_world_laws.specs.Wakes.{NoLostWake}
use Rattle.blocking_world_laws.specs.Steps.{StepLaw}
use Rattle.blocking_world_laws.specs.Copies.{CopyLaw}
use Rattle.blocking_world_laws.specs.OwnerLaws.{OwnerLaws}
use Rattle.blocking_world_laws.specs.OwnerWakes.{NoLostOwnerWake}
use Rattle.blocking_world_laws.specs.Served.{IsServed}
use Rattle.blocking_world_laws.specs.Staffed.{IsStaffedAsSeen}
use Rattle.blocking_world_laws.specs.declared.event.Moment.{Moment}
use Rattle.blocking_world_laws.specs.declared.event.Party.TheVariants.{Task}

-- The law of the pool, over all that was seen.
pub record PoolLaw (setting : ℕ) (plan : List Bool) (past : List Moment) (now : Moment) :
    Type 0 where
  pub growth : GrowthLaw setting plan past now
  pub answers : AnswerLaw setting past now
  pub turns : TurnLaw past now
  pub order : InOrder (now ∷ past)

-- A past is legal, by the setting's number and the plan of the starts: each step has the event that
-- it may have, the pool keeps its law, each owner with its jobs keeps theirs, each task with its
-- job keeps theirs, copiers keep theirs, and at every beginning no wake is lost, of tasks or of
-- owners, queued jobs are served, and the workers are accounted for. Only the pool's law and those
-- of every beginning see more than one holder, and that of copies two owners.
pub record Legal (setting : ℕ) (plan : List Bool) (past : List Moment) : Type 0 where
  pub steps : EachMayFollow StepLaw past
  pub pool : EachMayFollow (PoolLaw setting plan) past
  pub owners : (h : ℕ) → OwnerLaws (cut h (events past))
  pub tasks : (k s : ℕ) → holder past s ≡ Some (Task k) → TaskLaws s (task_cut k s (events past))
  pub wakes : AtEveryBeginning NoLostWake past
  pub owner_wakes : AtEveryBeginning NoLostOwnerWake past
  pub served : AtEveryBeginning IsServed past
  pub staffed : AtEveryBeginning IsStaffedAsSeen past
  pub copies : EachMayFollow CopyLaw past

-- The last moment rightly follows those before it.
abbrev pub LastFollows : (List Moment → Moment → Type 0) → List Moment → Type 0
LastFollows MayFollow [] = Unit {0}
LastFollows MayFollow (now ∷ past) = MayFollow past now

-- What a legal past keeps at this point, where it has come so far.
pub record HoldsNow (setting : ℕ) (plan : List Bool) (past : List Moment) : Type 0 where
  pub step : LastFollows StepLaw past
  pub pool : LastFollows (PoolLaw setting plan) past
  pub owners : (h : ℕ) → OwnerLaws (cut h (events past))
  pub tasks : (k s : ℕ) → holder past s ≡ Some (Task k) → TaskLaws s (task_cut k s (events past))
  pub wakes : NoLostWake past
  pub owner_wakes : NoLostOwnerWake past
  pub served : IsServed past
  pub staffed : IsStaffedAsSeen past
  pub copies : LastFollows CopyLaw past

-- The same as `Legal`, said of every beginning of the trace: however the past is split into a
-- beginning and what came later, the laws hold at that beginning.
abbrev pub IsLegalThroughout : ℕ → List Bool → List Moment → Type 0
IsLegalThroughout setting plan past =
    (later beginning : List Moment) → past ≡ later ++ beginning → HoldsNow setting plan beginning
