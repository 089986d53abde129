use Rattle.std.proofs.Common.{ap}
use Rattle.blocking_io.proofs.Wholes.{took_no_more, took_none}
use Rattle.blocking_io.proofs.write_ext.WriteAllFuture.poll.Goals as goal
use Rattle.blocking_io.proofs.write_ext.WriteAllFuture.poll.Goals.{then-not-self+in-Ready-Ok-true}
use Rattle.blocking_io.proofs.write_ext.WriteAllFuture.poll.Goals.{else-not-self}

pub returns-in-Pending-tell_fault-clause-written :
    goal.returns-in-Pending-tell_fault-clause-written
returns-in-Pending-tell_fault-clause-written g c = elim c.if-not-self.branch [
  | then-not-self+in-Ready-Ok-true w ↦
      took_no_more g.A.AsyncWrite.writes _ _ _ _ _ _ w.hand_on.new.taken _
      w.hand_on.ensures.written c.tell_fault.ensures.written w.writer-is
      (ap (λ s. s.1.1.1.0) w.self-is)
  | else-not-self w ↦
      took_none g.A.AsyncWrite.writes _ _ _ _ _ _ c.tell_fault.ensures.written w.writer-is
      (ap (λ s. s.1.1.1.0) w.self-is)
]

pub returns-in-Ready-clause-written : goal.returns-in-Ready-clause-written
returns-in-Ready-clause-written g c = elim c.if-not-self.branch [
  | then-not-self+in-Ready-Ok-true w ↦
      took_no_more g.A.AsyncWrite.writes _ _ _ _ _ _ w.hand_on.new.taken _
      w.hand_on.ensures.written c.tell_fault.ensures.written w.writer-is
      (ap (λ s. s.1.1.1.0) w.self-is)
  | else-not-self w ↦
      took_none g.A.AsyncWrite.writes _ _ _ _ _ _ c.tell_fault.ensures.written w.writer-is
      (ap (λ s. s.1.1.1.0) w.self-is)
]
