-- An edit makes this false. With an answer of its own it is refused without a second search.
use Rattle.std.proofs.Common.{rules}
use Rattle.blocking_core.proofs.unblock.OwnerCall.next.Goals as goal

pub returns-then-self : goal.returns-then-self
returns-then-self g c = search rules
