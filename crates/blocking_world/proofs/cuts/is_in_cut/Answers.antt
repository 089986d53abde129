-- An edit makes this false. With an answer of its own it is refused without a second search.
use Rattle.std.proofs.Common.{rules}
use Rattle.blocking_world.proofs.cuts.is_in_cut.Goals as goal

pub returns-in-Owner : goal.returns-in-Owner
returns-in-Owner c = search rules

pub returns-in-Worker : goal.returns-in-Worker
returns-in-Worker c = search rules
