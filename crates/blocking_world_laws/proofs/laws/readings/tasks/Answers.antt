-- The first task waits for the first job, and nothing woke it.
use Rattle.std.proofs.Common.{◌≡◌, true, false, refl}
use Rattle.blocking_world_laws.proofs.laws.readings.tasks.Goals as goal

never : false ≡ true → ⊥
never told = cc

pub returns-clause-refuses_wait_for_dropped : goal.returns-clause-refuses_wait_for_dropped
returns-clause-refuses_wait_for_dropped c = λ law. never (law.tasks 0 1 refl refl refl)
