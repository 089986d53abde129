-- An edit makes this false. With an answer of its own it is refused without a second search.
use Rattle.std.proofs.Common.{rules}
use Rattle.blocking_executor.proofs.job.CallJob.make_call.Goals as goal

pub invariant_of-self : goal.invariant_of-self
invariant_of-self g c = search rules

pub returns : goal.returns
returns g c = search rules
