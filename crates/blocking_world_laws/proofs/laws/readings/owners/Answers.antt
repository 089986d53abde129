-- The first owner waits for the first job, and nothing woke either since; or that job is parked
-- beside room, or beside bytes.
use Rattle.std.proofs.Common.{◌≡◌, true, false, refl, inl, inr}
use mathlib.Core.Logic.{◌⊎◌}
use Rattle.blocking_world_laws.proofs.laws.readings.owners.Goals as goal

never : (false ≡ true) ⊎ (false ≡ true) → ⊥
never (inl told) = cc
never (inr told) = cc

pub returns-clause-refuses_wait_for_parked : goal.returns-clause-refuses_wait_for_parked
returns-clause-refuses_wait_for_parked c = λ law. never (law.owners 0 1 refl refl refl)

pub returns-clause-refuses_parked_beside_room : goal.returns-clause-refuses_parked_beside_room
returns-clause-refuses_parked_beside_room c =
    λ law. (let full = (law.jobs 0 1 refl refl refl).1 in cc)

pub returns-clause-refuses_parked_beside_bytes : goal.returns-clause-refuses_parked_beside_bytes
returns-clause-refuses_parked_beside_bytes c =
    λ law. (let empty = (law.jobs 0 1 refl refl refl).1 in cc)
