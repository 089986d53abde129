use Rattle.std.proofs.Common.{rules}
use Rattle.blocking_tokio.proofs.Steps.{takes_told, write_fails_told}
use Rattle.blocking_tokio.proofs.compat_writer.CompatWriterAsyncWrite.poll_write.Goals as goal

pub returns-clause-bytes : goal.returns-clause-bytes
returns-clause-bytes g c = takes_told g.A.AsyncWrite.writes _ _ _ _ _ _ (search rules)
    c.as_error.ensures c.poll_write.ensures.bytes

pub returns-clause-failed : goal.returns-clause-failed
returns-clause-failed g c =
    write_fails_told g.A.AsyncWrite.writes _ _ _ _ _ _ c.as_error.ensures c.poll_write.ensures.bytes
