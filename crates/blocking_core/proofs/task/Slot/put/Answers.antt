-- An edit makes this false. With an answer of its own it is refused without a second search.
use Rattle.std.proofs.Common.{rules}
use Rattle.blocking_core.proofs.task.Slot.put.Goals as goal

pub returns-in-Empty-clause-slot : goal.returns-in-Empty-clause-slot
returns-in-Empty-clause-slot g c = search rules
