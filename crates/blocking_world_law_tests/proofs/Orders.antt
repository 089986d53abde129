-- The order in which each client's jobs are taken comes of what takes are answered.
use Rattle.std.proofs.Common.{◌≡◌, ℕ, Bool, List, [], ◌∷◌, Some}
use Rattle.blocking_world_laws.specs.Seen.{AtEveryBeginning, EachMayFollow, events, cut, task_cut}
use Rattle.blocking_world_laws.specs.Jobs.{holder}
use Rattle.blocking_world_laws.specs.Growth.{GrowthLaw}
use Rattle.blocking_world_laws.specs.Turns.{TurnLaw}
use Rattle.blocking_world_laws.specs.Answers.{AnswerLaw}
use Rattle.blocking_world_laws.specs.TaskLaws.{TaskLaws}
use Rattle.blocking_world_laws.specs.Wakes.{NoLostWake}
use Rattle.blocking_world_laws.specs.Steps.{StepLaw}
use Rattle.blocking_world_laws.specs.Copies.{CopyLaw}
use Rattle.blocking_world_laws.specs.OwnerLaws.{OwnerLaws}
use Rattle.blocking_world_laws.specs.OwnerWakes.{NoLostOwnerWake}
use Rattle.blocking_world_laws.specs.Served.{IsServed}
use Rattle.blocking_world_laws.specs.Staffed.{IsStaffedAsSeen}
use Rattle.blocking_world_laws.specs.Legal.{Legal, PoolLaw}
use Rattle.blocking_world_laws.specs.declared.event.Moment.{Moment}
use Rattle.blocking_world_laws.specs.declared.event.Party.TheVariants.{Task}
use Rattle.blocking_world_laws.proofs.Queues.{order_after}

-- the law of the pool, but for the order
pub record Unordered (setting : ℕ) (plan : List Bool) (past : List Moment) (now : Moment) :
    Type 0 where
  pub growth : GrowthLaw setting plan past now
  pub answers : AnswerLaw setting past now
  pub turns : TurnLaw past now

pooled : (setting : ℕ) (plan : List Bool) (past : List Moment)
    → EachMayFollow (Unordered setting plan) past → EachMayFollow (PoolLaw setting plan) past
pooled setting plan [] laws = tt
pooled setting plan (now ∷ past) laws =
    let before = pooled setting plan past laws.1 in
    let law = laws.0 in (
      record {
        growth = law.growth;
        answers = law.answers;
        turns = law.turns;
        order = order_after setting plan past now before law.answers;
      },
      before,
    )

pub pooled_so : {setting : ℕ} {plan : List Bool} {past : List Moment} {now : Moment}
    → EachMayFollow (Unordered setting plan) (now ∷ past)
    → EachMayFollow (PoolLaw setting plan) (now ∷ past)
pooled_so {setting} {plan} {past} {now} laws = pooled setting plan (now ∷ past) laws

-- what makes a past legal, but for the order
pub record IsLegalUnordered (setting : ℕ) (plan : List Bool) (past : List Moment) : Type 0 where
  pub steps : EachMayFollow StepLaw past
  pub pool : EachMayFollow (Unordered setting plan) past
  pub owners : (h : ℕ) → OwnerLaws (cut h (events past))
  pub tasks : (k s : ℕ) → holder past s ≡ Some (Task k) → TaskLaws s (task_cut k s (events past))
  pub wakes : AtEveryBeginning NoLostWake past
  pub owner_wakes : AtEveryBeginning NoLostOwnerWake past
  pub served : AtEveryBeginning IsServed past
  pub staffed : AtEveryBeginning IsStaffedAsSeen past
  pub copies : EachMayFollow CopyLaw past

pub legal_so : {setting : ℕ} {plan : List Bool} {past : List Moment}
    → IsLegalUnordered setting plan past → Legal setting plan past
legal_so {setting} {plan} {past} legal = record {
  steps = legal.steps;
  pool = pooled setting plan past legal.pool;
  owners = legal.owners;
  tasks = legal.tasks;
  wakes = legal.wakes;
  owner_wakes = legal.owner_wakes;
  served = legal.served;
  staffed = legal.staffed;
  copies = legal.copies;
}
