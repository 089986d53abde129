-- An edit makes this false. With an answer of its own it is refused without a second search.
use Rattle.std.proofs.Common.{rules}
use Rattle.blocking_pool.proofs.pool.counts.Counts.is_start_due.Goals as goal

pub returns-then-most-ready : goal.returns-then-most-ready
returns-then-most-ready c = search rules
