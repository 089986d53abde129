-- One thing more happens after others.
use Rattle.std.proofs.Common.{List, [], ◌∷◌, ◌++◌, refl, subst}
use Rattle.blocking_schedule.specs.Sequences.{InTurn}

pub in_turn_more : (State Doing : Type 0) (Does : State → Doing → State → Type 0)
    (done : List Doing) (doing : Doing) (old between new : State)
    → InTurn State Doing Does done old between → Does between doing new
    → InTurn State Doing Does (done ++ doing ∷ []) old new
in_turn_more State Doing Does [] doing old between new same last =
    record { between = new; first = subst (λ s. Does s doing new) same last; rest = refl }
in_turn_more State Doing Does (first ∷ done) doing old between new before last =
    record {
      between = before.between;
      first = before.first;
      rest = in_turn_more State Doing Does done doing before.between between new before.rest last;
    }
