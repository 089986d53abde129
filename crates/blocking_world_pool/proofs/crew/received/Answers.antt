-- An edit makes this false. With an answer of its own it is refused without a second search.
use Rattle.std.proofs.Common.{rules}
use Rattle.blocking_world_pool.proofs.crew.received.Goals as goal

pub returns-in-Drop-clause-act : goal.returns-in-Drop-clause-act
returns-in-Drop-clause-act c = search rules
