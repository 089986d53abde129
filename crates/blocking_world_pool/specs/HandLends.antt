-- What the hands end as, where a `&mut` to one of them is returned.
use Rattle.std.specs.Prelude.{◌≡◌, ℕ, List, Option, OnSome}
use Rattle.std.specs.Borrow.{LendsSo, Fml, MutBor}
use Rattle.blocking_world_pool.specs.Crews.{with_hand}
use Rattle.blocking_world_pool.specs.contracts.hand.Hand.{the_row as hand_row}
use Rattle.blocking_world_pool.specs.contracts.workers.Workers.{the_row}
use Rattle.blocking_world_pool.specs.declared.hand.Hand.{Hand}

-- a hand ends as it is left; where the worker isn't there, the hands are as before
abbrev pub lends_hand : MutBor (List Hand) → ℕ → Option (MutBor Hand) → Fml
lends_hand hands worker hand =
    LendsSo the_row hand_row hands hand (λ last left.
    OnSome hand (last ≡ with_hand hands.now worker left)) (λ last. last ≡ hands.now)
