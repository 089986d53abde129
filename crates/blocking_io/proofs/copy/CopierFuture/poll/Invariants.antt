use Rattle.std.proofs.Common.{◌≡◌, ◌<◌, false}
use Rattle.futures.specs.Task.{Keeps}
use Rattle.blocking_io.specs.Copies.{GoesOn, Reaches}
use Rattle.blocking_io.specs.CopySteps.{is_over}
use Rattle.blocking_io.proofs.copy.CopierFuture.poll.Given as goal

abbrev pub invariant-loop : goal.invariant-loop
invariant-loop g l =
    Reaches g.A.AsyncRead.reads g.B.AsyncWrite.writes l.initial.self l.self
    × (g.A.AsyncRead.closed l.self.reader → ⊥) × (g.B.AsyncWrite.closed l.self.writer → ⊥)
    × Keeps l.initial.cx l.cx
    × (is_over l.self.core.next ≡ false)
    × (0 < l.counter → GoesOn g.A.AsyncRead.reads g.B.AsyncWrite.writes l.initial.self l.self)
