-- An edit makes this false. With an answer of its own it is refused without a second search.
use Rattle.std.proofs.Common.{rules}
use Rattle.blocking_world_holders.proofs.owner.Owner.act.Goals as goal

pub returns-in-PollSlot : goal.returns-in-PollSlot
returns-in-PollSlot c = search rules

pub returns-in-Drain : goal.returns-in-Drain
returns-in-Drain c = search rules

pub returns-in-Fill : goal.returns-in-Fill
returns-in-Fill c = search rules
