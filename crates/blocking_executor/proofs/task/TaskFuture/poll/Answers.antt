-- An edit makes this false. With an answer of its own it is refused without a second search.
use Rattle.std.proofs.Common.{rules}
use Rattle.blocking_executor.proofs.task.TaskFuture.poll.Goals as goal

pub returns-in-Gone-clause-registered : goal.returns-in-Gone-clause-registered
returns-in-Gone-clause-registered g c = search rules

pub returns-in-Waits-clause-registered : goal.returns-in-Waits-clause-registered
returns-in-Waits-clause-registered g c = search rules
