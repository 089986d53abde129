use Rattle.blocking_tokio.proofs.Steps.{fails_told, gives_told}
use Rattle.blocking_tokio.proofs.compat_reader.CompatReaderAsyncRead.poll_read.Goals as goal

pub returns-clause-bytes : goal.returns-clause-bytes
returns-clause-bytes g c =
    gives_told g.A.AsyncRead.reads _ _ _ _ _ _ c.as_error.ensures c.poll_read.ensures.bytes

pub returns-clause-failed : goal.returns-clause-failed
returns-clause-failed g c =
    fails_told g.A.AsyncRead.reads _ _ _ _ _ _ c.as_error.ensures c.poll_read.ensures.bytes
