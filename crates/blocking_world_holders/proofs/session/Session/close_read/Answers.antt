-- An edit makes this false. With an answer of its own it is refused without a second search.
use Rattle.std.proofs.Common.{rules}
use Rattle.blocking_world_holders.proofs.session.Session.close_read.Goals as goal

pub returns : goal.returns
returns c = search rules
