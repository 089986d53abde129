-- An edit makes this false. With an answer of its own it is refused without a second search.
use Rattle.std.proofs.Common.{rules}
use Rattle.blocking_core.proofs.pipe.Pipe.put.Goals as goal

pub returns-then-not-self : goal.returns-then-not-self
returns-then-not-self g c = search rules
