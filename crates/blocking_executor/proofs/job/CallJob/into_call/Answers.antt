-- An edit makes this false. With an answer of its own it is refused without a second search.
use Rattle.std.proofs.Common.{rules}
use Rattle.blocking_executor.proofs.job.CallJob.into_call.Goals as goal

pub returns-in-Call : goal.returns-in-Call
returns-in-Call g c = search rules
