-- The pipe holds two bytes, of which its writer took none: there is no room for a third.
use Rattle.std.proofs.Common.{◌≤◌, refl, arith}
use Rattle.blocking_world_laws.proofs.laws.readings.writers_behind.Goals as goal

never : 3 ≤ 2 → ⊥
never third = omega (arith, third)

pub returns-clause-refuses_more_than_the_pipe : goal.returns-clause-refuses_more_than_the_pipe
returns-clause-refuses_more_than_the_pipe c = λ behind. never (behind 0 refl)

pub returns-clause-refuses_more_than_was_taken : goal.returns-clause-refuses_more_than_was_taken
returns-clause-refuses_more_than_was_taken c = λ behind. never (behind 0 refl)
