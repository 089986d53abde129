-- An edit makes this false. With an answer of its own it is refused without a second search.
use Rattle.std.proofs.Common.{rules}
use Rattle.blocking_core.proofs.unblock.is_sought_by.Goals as goal

pub returns-in-Lent-Seeking-default-Seek : goal.returns-in-Lent-Seeking-default-Seek
returns-in-Lent-Seeking-default-Seek c = search rules
