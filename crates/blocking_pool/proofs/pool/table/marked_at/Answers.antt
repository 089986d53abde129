-- An edit makes this false. With an answer of its own it is refused without a second search.
use Rattle.std.proofs.Common.{rules}
use Rattle.blocking_pool.proofs.pool.table.marked_at.Goals as goal

pub returns-then-not-abandoned : goal.returns-then-not-abandoned
returns-then-not-abandoned g c = search rules
