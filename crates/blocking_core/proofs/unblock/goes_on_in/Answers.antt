-- An edit makes this false. With an answer of its own it is refused without a second search.
use Rattle.std.proofs.Common.{rules}
use Rattle.blocking_core.proofs.unblock.goes_on_in.Goals as goal

pub returns-in-Operating-Operate : goal.returns-in-Operating-Operate
returns-in-Operating-Operate c = search rules
