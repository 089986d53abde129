-- What a cancelled call gives.
use Rattle.std.specs.Prelude.{Option}
use Rattle.blocking_core.specs.declared.task.Slotted.{Slotted}
use Rattle.blocking_core.specs.declared.task.Slotted.TheVariants as slotted
use Rattle.futures.specs.declared.task.Poll.{Poll}
use Rattle.futures.specs.declared.task.Poll.TheVariants.{Ready, Pending}

-- what a cancelled call gives: what was found at the cancel, unless the slot still waits for its
-- job
abbrev pub settled : {T : Type 0} → Slotted T → Option T → Poll (Option T)
settled (slotted.Value late) found = Ready found
settled (slotted.Gone over) found = Ready found
settled (slotted.Waits seat) found = Pending
