-- An edit makes this false. With an answer of its own it is refused without a second search.
use Rattle.std.proofs.Common.{rules}
use Rattle.blocking_world_holders.proofs.owner.poll_call.Goals as goal

pub returns-in-Operate : goal.returns-in-Operate
returns-in-Operate c = search rules
