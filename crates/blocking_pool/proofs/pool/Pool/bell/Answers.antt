-- An edit makes this false. With an answer of its own it is refused without a second search.
use Rattle.std.proofs.Common.{rules}
use Rattle.blocking_pool.proofs.pool.Pool.bell.Goals as goal

pub returns-clause-ring : goal.returns-clause-ring
returns-clause-ring g c = search rules
