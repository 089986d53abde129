-- Beside bytes, and beside a closed end, it would find something.
use Rattle.std.proofs.Common.{◌≡◌, refl, ℕ, Bool, true, false, List, [], ◌∷◌}
use Rattle.std.specs.Prelude.{not}
use Rattle.blocking_world_laws.specs.Core.{peek}
use Rattle.blocking_world_laws.specs.JobTable.{Peek, piece}
use Rattle.blocking_world_laws.specs.OwnerLaws.{Works}
use Rattle.blocking_world_laws.specs.Passed.{inside}
use Rattle.blocking_world_laws.specs.Places.{seen_peek}
use Rattle.blocking_world_laws.specs.Seen.{own}
use Rattle.blocking_world_laws.specs.Sessions.{is_shut}
use Rattle.blocking_world_laws.specs.declared.event.Act.TheVariants.{JobParked}
use Rattle.blocking_world_laws.specs.declared.event.Event.{Event}
use Rattle.blocking_world_law_tests.proofs.owners.write.parking.Goals as goal

nothing_there : (within : List ℕ) (shut : Bool)
    → JobParked ≡ seen_peek (peek piece within (not shut)) → (within ≡ []) × (shut ≡ false)
nothing_there [] false e = (refl, refl)
nothing_there [] true e = absurd (cc)
nothing_there (x ∷ xs) shut e = absurd (cc)

parks_so : (cut : List Event) → Works cut Peek JobParked
    → (inside cut ≡ []) × (is_shut (own cut) ≡ false)
parks_so cut law = nothing_there (inside cut) (is_shut (own cut)) law

pub returns : goal.returns
returns c = record { beside_empty_pipe = parks_so }
