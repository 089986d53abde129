-- An edit makes this false. With an answer of its own it is refused without a second search.
use Rattle.std.proofs.Common.{rules}
use Rattle.blocking_core.proofs.pipe.Pipe.consume.Goals as goal

pub returns-clause-pipe : goal.returns-clause-pipe
returns-clause-pipe g c = search rules
