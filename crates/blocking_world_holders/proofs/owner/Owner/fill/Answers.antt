-- An edit makes this false. With an answer of its own it is refused without a second search.
use Rattle.std.proofs.Common.{rules}
use Rattle.blocking_world_holders.proofs.owner.Owner.fill.Goals as goal

pub returns-in-Shut : goal.returns-in-Shut
returns-in-Shut c = search rules
