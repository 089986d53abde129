-- What is known of outcomes.
use Rattle.std.proofs.Common.{◌≡◌, ◌≢◌, refl}
use Rattle.blk_commands.specs.Faults.{fault_status}
use Rattle.blk_commands.specs.declared.fault.CommandFault.{CommandFault}
use Rattle.blk_commands.specs.declared.fault.CommandFault.TheVariants.{Failed, NotText, NotAStep}

-- a status that isn't 1 is 2
pub status_two : (fault : CommandFault) → fault_status fault ≢ 1 → fault_status fault ≡ 2
status_two (Failed fault) other = absurd (other refl)
status_two NotText other = refl
status_two (NotAStep line) other = refl
