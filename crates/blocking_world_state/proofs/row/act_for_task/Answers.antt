-- An edit makes this false. With an answer of its own it is refused without a second search.
use Rattle.std.proofs.Common.{rules}
use Rattle.blocking_world_state.proofs.row.act_for_task.Goals as goal

pub returns-in-Finish : goal.returns-in-Finish
returns-in-Finish c = search rules
