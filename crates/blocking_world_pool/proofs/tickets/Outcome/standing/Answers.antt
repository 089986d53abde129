-- An edit makes this false. With an answer of its own it is refused without a second search.
use Rattle.std.proofs.Common.{rules}
use Rattle.blocking_world_pool.proofs.tickets.Outcome.standing.Goals as goal

pub returns-in-Dropped : goal.returns-in-Dropped
returns-in-Dropped c = search rules
