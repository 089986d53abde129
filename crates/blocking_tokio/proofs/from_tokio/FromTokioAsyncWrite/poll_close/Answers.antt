use Rattle.std.proofs.Common.{rules, []}
use Rattle.blocking_tokio.proofs.from_tokio.FromTokioAsyncWrite.poll_close.Goals as goal

pub returns-2-clause-waits : goal.returns-2-clause-waits
returns-2-clause-waits g c = (
  search rules,
  g.met.W.AsyncWrite.writes_in_order _ [] c.poll_flush.new.self.inner [] _ (search rules)
      c.poll_shutdown.ensures.bytes,
)

pub returns-in-Err-ready-clause-fault : goal.returns-in-Err-ready-clause-fault
returns-in-Err-ready-clause-fault g c = (
  search rules,
  g.met.W.AsyncWrite.writes_in_order _ [] c.poll_flush.new.self.inner [] _ (search rules)
      c.poll_shutdown.ensures.bytes,
  search rules,
)
