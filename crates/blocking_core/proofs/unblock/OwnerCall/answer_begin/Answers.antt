-- An edit makes this false. With an answer of its own it is refused without a second search.
use Rattle.std.proofs.Common.{rules}
use Rattle.blocking_core.proofs.unblock.OwnerCall.answer_begin.Goals as goal

pub returns-in-Refused : goal.returns-in-Refused
returns-in-Refused g c = search rules
