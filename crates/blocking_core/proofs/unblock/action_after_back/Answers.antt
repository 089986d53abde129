-- An edit makes this false. With an answer of its own it is refused without a second search.
use Rattle.std.proofs.Common.{rules}
use Rattle.blocking_core.proofs.unblock.action_after_back.Goals as goal

pub returns-in-Some : goal.returns-in-Some
returns-in-Some g c = search rules
