-- An edit makes this false. With an answer of its own it is refused without a second search.
use Rattle.std.proofs.Common.{rules}
use Rattle.blocking_core.proofs.unblock.own_action.Goals as goal

pub returns-in-Read : goal.returns-in-Read
returns-in-Read g c = search rules
