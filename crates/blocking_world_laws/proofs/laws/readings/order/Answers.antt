-- The second job of a client was taken, and the first entered first.
use Rattle.std.proofs.Common.{◌≡◌, [], ◌∷◌}
use Rattle.blocking_world_laws.proofs.laws.readings.order.Goals as goal

pub returns-clause-refuses_queue_jumper : goal.returns-clause-refuses_queue_jumper
returns-clause-refuses_queue_jumper c =
    λ order. (let first : 1 ∷ 2 ∷ [] ≡ 2 ∷ (order 0).0 = (order 0).1 in cc)

pub returns-clause-refuses_passing_over : goal.returns-clause-refuses_passing_over
returns-clause-refuses_passing_over c =
    λ order. (let first : 1 ∷ 2 ∷ [] ≡ 2 ∷ (order 7).0 = (order 7).1 in cc)
