-- What is written is no ending of what is shorter.
use Rattle.std.proofs.Common.{◌<◌, ℕ, List, [], ◌∷◌, length, ap, arith, length-append}
use Rattle.blocking_world_laws.specs.Copies.{IsEnding}
use Rattle.blocking_world_law_tests.proofs.copies.takes.Goals as goal

too_short : (all written : List ℕ) → length all < length written → IsEnding written all → ⊥
too_short all written less ending =
    let many = ap length ending.1 in
    let parts = length-append ending.0 written in
    omega (arith, less, many, parts)

pub returns-clause-refuses_all_inside : goal.returns-clause-refuses_all_inside
returns-clause-refuses_all_inside c =
    λ law. too_short [] (97 ∷ 98 ∷ []) (omega arith) law.told.taken

pub returns-clause-refuses_one_inside : goal.returns-clause-refuses_one_inside
returns-clause-refuses_one_inside c =
    λ law. too_short (97 ∷ []) (97 ∷ 98 ∷ []) (omega arith) law.told.taken
