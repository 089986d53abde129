-- An edit makes this false. With an answer of its own it is refused without a second search.
use Rattle.std.proofs.Common.{rules}
use Rattle.blocking_core.proofs.task.Slot.give_up.Goals as goal

pub returns-clause-waker : goal.returns-clause-waker
returns-clause-waker g c = search rules
