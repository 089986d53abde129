use Rattle.blocking_io.proofs.Wholes.{took_by_flush}
use Rattle.blocking_io.proofs.write_ext.tell_fault.Goals as goal

pub returns-in-Pending-clause-written : goal.returns-in-Pending-clause-written
returns-in-Pending-clause-written g c =
    took_by_flush g.A.AsyncWrite.writes _ _ _ c.poll_flush.ensures.bytes

pub returns-in-Ready-Ok-clause-written : goal.returns-in-Ready-Ok-clause-written
returns-in-Ready-Ok-clause-written g c =
    took_by_flush g.A.AsyncWrite.writes _ _ _ c.poll_flush.ensures.bytes

pub returns-in-Ready-Err-clause-written : goal.returns-in-Ready-Err-clause-written
returns-in-Ready-Err-clause-written g c =
    took_by_flush g.A.AsyncWrite.writes _ _ _ c.poll_flush.ensures.bytes
