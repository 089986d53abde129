-- One thing after the other.
use Rattle.std.specs.Prelude.{◌≡◌, List, [], ◌∷◌}

-- first one thing happens, and then the rest
pub record Then (State : Type 0) (First Rest : State → Type 0) : Type 0 where
  pub between : State
  pub first : First between
  pub rest : Rest between

-- these happen in this order, each from where the last one led
module _ (State Doing : Type 0) (Does : State → Doing → State → Type 0) where
  abbrev pub InTurn : List Doing → State → State → Type 0
  InTurn [] old new = new ≡ old
  InTurn (doing ∷ more) old new = Then State (Does old doing) (λ between. InTurn more between new)
