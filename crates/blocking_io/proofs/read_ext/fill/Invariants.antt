use Rattle.std.proofs.Common.{◌≡◌, ◌≤◌, ◌-◌, length, slice_range, take}
use Rattle.futures.specs.Task.{Keeps}
use Rattle.blocking_io.specs.Passed.{Gave}
use Rattle.blocking_io.proofs.read_ext.fill.Given as goal

abbrev pub invariant-loop-filled : goal.invariant-loop-filled
invariant-loop-filled g l =
    (g.A.AsyncRead.closed l.reader → ⊥) × (l.filled ≤ length l.buf)
    × (length l.buf ≡ length l.initial.buf) × Keeps l.initial.cx l.cx
    × (l.initial.filled ≤ l.filled)
    × (take l.initial.filled l.buf ≡ take l.initial.filled l.initial.buf)
    × Gave g.A.AsyncRead.reads l.initial.reader
    (slice_range l.buf l.initial.filled l.filled) l.reader

abbrev pub decreases-loop-filled : goal.decreases-loop-filled
decreases-loop-filled g l = length l.initial.buf - l.filled
