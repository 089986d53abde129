-- An edit makes this false. With an answer of its own it is refused without a second search.
use Rattle.std.proofs.Common.{rules}
use Rattle.blocking_core.proofs.unblock.OwnerCall.answer_receive.Goals as goal

pub returns-in-Received : goal.returns-in-Received
returns-in-Received g c = search rules
