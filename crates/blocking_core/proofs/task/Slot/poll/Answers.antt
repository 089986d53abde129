-- An edit makes this false. With an answer of its own it is refused without a second search.
use Rattle.std.proofs.Common.{rules}
use Rattle.blocking_core.proofs.task.Slot.poll.Goals as goal

pub returns-in_default : goal.returns-in_default
returns-in_default g c = search rules
