-- An edit makes this false. With an answer of its own it is refused without a second search.
use Rattle.std.proofs.Common.{rules}
use Rattle.blocking_unblock.proofs.with_mut.WithMutFuture.poll.Goals as goal

pub poll-requires-clause-may : goal.poll-requires-clause-may
poll-requires-clause-may g c = search rules

pub returns-in-Pending-clause-follows : goal.returns-in-Pending-clause-follows
returns-in-Pending-clause-follows g c = search rules

pub returns-in-Gave-clause-follows : goal.returns-in-Gave-clause-follows
returns-in-Gave-clause-follows g c = search rules

pub returns-in-Given-clause-follows : goal.returns-in-Given-clause-follows
returns-in-Given-clause-follows g c = search rules
