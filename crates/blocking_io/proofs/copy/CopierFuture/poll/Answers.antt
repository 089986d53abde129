use Rattle.std.proofs.Common.{[], refl, arith}
use Rattle.blocking_io.proofs.Carrying.{reaches_carry}
use Rattle.blocking_io.proofs.Copies.{reaches_on, going_by}
use Rattle.blocking_io.proofs.copy.CopierFuture.poll.Goals as goal

pub loop-init : goal.loop-init
loop-init g c = (
  ([], refl),
  c.requires.0,
  c.requires.1,
  (λ fact held. held),
  c.requires.2,
  λ some. absurd (omega (arith, some)),
)

pub loop-preserved : goal.loop-preserved
loop-preserved g c = (
  reaches_on g.A.AsyncRead.reads g.B.AsyncWrite.writes c.args.self.now c.loop.self c.step.new.self
      c.loop.invariant.0 c.step.ensures.steps,
  c.step.ensures.reader_open,
  c.step.ensures.writer_open,
  (λ fact held. c.step.ensures.kept fact (c.loop.invariant.3 fact held)),
  going_by c.next.result c.step.new.self.core.next c.next.ensures c.in_default-next.not-Done,
  λ some. (c.loop.self, c.step.ensures.steps.0, c.loop.invariant.0, c.step.ensures.steps.1),
)

pub returns-in-Pending-clause-reaches : goal.returns-in-Pending-clause-reaches
returns-in-Pending-clause-reaches g c =
    reaches_on g.A.AsyncRead.reads g.B.AsyncWrite.writes c.args.self.now c.loop.self c.step.new.self
    c.loop.invariant.0 c.step.ensures.steps

pub returns-in-Done-clause-reaches : goal.returns-in-Done-clause-reaches
returns-in-Done-clause-reaches g c =
    reaches_on g.A.AsyncRead.reads g.B.AsyncWrite.writes c.args.self.now c.loop.self c.step.new.self
    c.loop.invariant.0 c.step.ensures.steps

pub returns-in-Pending-clause-carries : goal.returns-in-Pending-clause-carries
returns-in-Pending-clause-carries g c =
    reaches_carry g.A.AsyncRead.reads g.B.AsyncWrite.writes c.args.self.now c.step.new.self
    (reaches_on g.A.AsyncRead.reads g.B.AsyncWrite.writes c.args.self.now c.loop.self
    c.step.new.self c.loop.invariant.0 c.step.ensures.steps)

pub returns-in-Done-clause-carries : goal.returns-in-Done-clause-carries
returns-in-Done-clause-carries g c =
    reaches_carry g.A.AsyncRead.reads g.B.AsyncWrite.writes c.args.self.now c.step.new.self
    (reaches_on g.A.AsyncRead.reads g.B.AsyncWrite.writes c.args.self.now c.loop.self
    c.step.new.self c.loop.invariant.0 c.step.ensures.steps)

pub returns-clause-carries : goal.returns-clause-carries
returns-clause-carries g c =
    reaches_carry g.A.AsyncRead.reads g.B.AsyncWrite.writes c.args.self.now c.loop.self
    c.loop.invariant.0
