-- The first owner waits for the first job, and nothing woke either; or that job is parked without
-- reason, and nothing woke it.
use Rattle.std.proofs.Common.{◌≡◌, true, false, refl, inl, inr}
use mathlib.Core.Logic.{◌⊎◌}
use Rattle.blocking_world_law_tests.proofs.owners.wakes.wakes.Goals as goal

never : (false ≡ true) ⊎ (false ≡ true) → ⊥
never (inl told) = cc
never (inr told) = cc

pub returns-clause-refuses_untold_by_put : goal.returns-clause-refuses_untold_by_put
returns-clause-refuses_untold_by_put c = λ law. never (law.owners 0 1 refl refl refl)

pub returns-clause-refuses_untold_by_finish : goal.returns-clause-refuses_untold_by_finish
returns-clause-refuses_untold_by_finish c = λ law. never (law.owners 0 1 refl refl refl)

pub returns-clause-refuses_untold_job : goal.returns-clause-refuses_untold_job
returns-clause-refuses_untold_job c = λ law. never (law.owners 0 1 refl refl refl)

pub returns-clause-refuses_parked_at_a_closed_end :
    goal.returns-clause-refuses_parked_at_a_closed_end
returns-clause-refuses_parked_at_a_closed_end c =
    λ law. (let open_end = (law.jobs 0 1 refl refl refl).0 in cc)

pub returns-clause-refuses_parked_beside_room : goal.returns-clause-refuses_parked_beside_room
returns-clause-refuses_parked_beside_room c =
    λ law. (let full = (law.jobs 0 1 refl refl refl).1 in cc)
