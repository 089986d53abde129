-- An edit makes this false. With an answer of its own it is refused without a second search.
use Rattle.std.proofs.Common.{rules}
use Rattle.blocking_core.proofs.pipe.Pipe.receive_or_seat.Goals as goal

pub returns-in-None : goal.returns-in-None
returns-in-None g c = search rules
