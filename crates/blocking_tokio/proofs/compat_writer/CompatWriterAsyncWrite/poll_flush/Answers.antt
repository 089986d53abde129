use Rattle.blocking_tokio.proofs.Steps.{takes_by_flush}
use Rattle.blocking_tokio.proofs.compat_writer.CompatWriterAsyncWrite.poll_flush.Goals as goal

pub returns-clause-bytes : goal.returns-clause-bytes
returns-clause-bytes g c = takes_by_flush g.A.AsyncWrite.writes _ _ _ _ c.poll_flush.ensures.bytes
