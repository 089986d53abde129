use Rattle.std.proofs.Common.{refl}
use Rattle.blocking_world_law_tests.proofs.copies.parts.Goals as goal

-- what was written is no beginning of what was read
pub returns-clause-refuses_more_than_was_read : goal.returns-clause-refuses_more_than_was_read
returns-clause-refuses_more_than_was_read c law =
    let found = law.copies 0 (record { number = 0; reader = 1; writer = 0; piece = 2 }) refl in
    let same = found.1 in cc
