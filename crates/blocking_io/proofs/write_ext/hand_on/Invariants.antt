use Rattle.std.proofs.Common.{◌≤◌, ◌-◌, length, slice_range}
use Rattle.futures.specs.Task.{Keeps}
use Rattle.blocking_io.specs.Passed.{Took}
use Rattle.blocking_io.proofs.write_ext.hand_on.Given as goal

abbrev pub invariant-loop-taken : goal.invariant-loop-taken
invariant-loop-taken g l =
    (g.A.AsyncWrite.closed l.writer → ⊥) × (l.taken ≤ length l.bytes) × Keeps l.initial.cx l.cx
    × (l.initial.taken ≤ l.taken) × Took g.A.AsyncWrite.writes l.initial.writer
    (slice_range l.bytes l.initial.taken l.taken) l.writer

abbrev pub decreases-loop-taken : goal.decreases-loop-taken
decreases-loop-taken g l = length l.bytes - l.taken
