-- An edit makes this false. With an answer of its own it is refused without a second search.
use Rattle.std.proofs.Common.{rules}
use Rattle.blocking_executor.proofs.executor.Executor.leave.Goals as goal

pub heard-requires : goal.heard-requires
heard-requires g c = search rules
