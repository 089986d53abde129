-- An edit makes this false. With an answer of its own it is refused without a second search.
use Rattle.std.proofs.Common.{rules}
use Rattle.blocking_world_holders.proofs.session.Session.find_nothing.Goals as goal

pub returns-clause-found : goal.returns-clause-found
returns-clause-found c = search rules
