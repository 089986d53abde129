-- The number of an owner's last session: only a session that begins changes it.
use Rattle.std.proofs.Common.{◌≡◌, [], arith}
use Rattle.blocking_world_state.proofs.Words.{OwnerStep, owner_after, Owner, number_of}
use Rattle.blocking_world_holders.proofs.owners.Events.{brought}

-- a step that brings no job leaves the number of the owner's last session
pub number_stays : (step : OwnerStep) (owner : Owner) → brought step ≡ []
    → number_of (owner_after step owner) ≡ number_of owner
number_stays step owner none = grind arith
