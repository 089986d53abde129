-- An edit makes this false. With an answer of its own it is refused without a second search.
use Rattle.std.proofs.Common.{rules}
use Rattle.blocking_core.proofs.unblock.OwnerCall.answer_drain.Goals as goal

pub returns-in-WaitsAtPipe : goal.returns-in-WaitsAtPipe
returns-in-WaitsAtPipe g c = search rules
