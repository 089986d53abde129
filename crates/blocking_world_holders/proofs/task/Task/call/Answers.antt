-- An edit makes this false. With an answer of its own it is refused without a second search.
use Rattle.std.proofs.Common.{rules}
use Rattle.blocking_world_holders.proofs.task.Task.call.Goals as goal

pub returns-in-Poll-clause-act : goal.returns-in-Poll-clause-act
returns-in-Poll-clause-act c = search rules

pub returns-in-Poll-clause-after : goal.returns-in-Poll-clause-after
returns-in-Poll-clause-after c = search rules
