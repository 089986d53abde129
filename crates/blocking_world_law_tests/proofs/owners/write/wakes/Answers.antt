-- The first owner waits for the first job, and nothing woke either.
use Rattle.std.proofs.Common.{◌≡◌, true, false, refl, inl, inr}
use mathlib.Core.Logic.{◌⊎◌}
use Rattle.blocking_world_law_tests.proofs.owners.write.wakes.Goals as goal

never : (false ≡ true) ⊎ (false ≡ true) → ⊥
never (inl told) = cc
never (inr told) = cc

pub returns-clause-refuses_untold_by_taken : goal.returns-clause-refuses_untold_by_taken
returns-clause-refuses_untold_by_taken c = λ law. never (law.owners 0 1 refl refl refl)

pub returns-clause-refuses_untold_job : goal.returns-clause-refuses_untold_job
returns-clause-refuses_untold_job c = λ law. never (law.owners 0 1 refl refl refl)
