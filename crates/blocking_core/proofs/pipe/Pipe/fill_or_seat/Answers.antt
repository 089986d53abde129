-- An edit makes this false. With an answer of its own it is refused without a second search.
use Rattle.std.proofs.Common.{rules}
use Rattle.blocking_core.proofs.pipe.Pipe.fill_or_seat.Goals as goal

pub returns : goal.returns
returns g c = search rules
