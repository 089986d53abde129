-- The law of a task, and that of an owner, is kept by each event of its cut.
use Rattle.std.proofs.Common.{◌∷◌, cond}
use mathlib.Core.Path.{subst, sym}
use Rattle.blocking_world_laws.specs.Passed.{PassesOn}
use Rattle.blocking_world_laws.specs.Seen.{cut, events}
use Rattle.blocking_world_laws.proofs.Beginnings.{owner_keeps, task_keeps}
use Rattle.blocking_world_law_tests.proofs.legality.refusals.Goals as goal

pub returns-clause-by_owner_wake : goal.returns-clause-by_owner_wake
returns-clause-by_owner_wake c = λ setting plan past now refused legal. refused legal.owner_wakes.0

pub returns-clause-by_copy : goal.returns-clause-by_copy
returns-clause-by_copy c = λ setting plan past now refused legal. refused legal.copies.0

pub returns-clause-by_owner : goal.returns-clause-by_owner
returns-clause-by_owner c = λ setting plan past now h inside refused legal.
    refused (owner_keeps setting plan past now h inside legal)

pub returns-clause-by_ends : goal.returns-clause-by_ends
returns-clause-by_ends c = λ setting plan past now h inside refused legal.
    refused (owner_keeps setting plan past now h inside legal).ends

pub returns-clause-by_passing : goal.returns-clause-by_passing
returns-clause-by_passing c = λ setting plan past now h inside refused legal.
    refused
    (subst (λ b. PassesOn (cond b (now.event ∷ cut h (events past)) (cut h (events past))))
    (sym inside)
    (owner_keeps setting plan past now h inside legal).passed)

pub returns-clause-by_task : goal.returns-clause-by_task
returns-clause-by_task c = λ setting plan past now k s held of refused legal.
    refused (task_keeps setting plan past now k s held of legal)
