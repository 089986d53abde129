-- The first task waits for the first job, and nothing woke it.
use Rattle.std.proofs.Common.{◌≡◌, true, false, refl}
use Rattle.blocking_world_law_tests.proofs.tasks.wakes.Goals as goal

never : false ≡ true → ⊥
never told = cc

pub returns-clause-refuses_wait_for_done : goal.returns-clause-refuses_wait_for_done
returns-clause-refuses_wait_for_done c = λ law. never (law.tasks 0 1 refl refl refl)

pub returns-clause-refuses_wait_for_parked : goal.returns-clause-refuses_wait_for_parked
returns-clause-refuses_wait_for_parked c = λ law. never (law.tasks 0 1 refl refl refl)

pub returns-clause-refuses_earlier_wake : goal.returns-clause-refuses_earlier_wake
returns-clause-refuses_earlier_wake c = λ law. never (law.tasks 0 1 refl refl refl)
