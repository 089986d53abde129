use Rattle.std.proofs.Common.{◌<◌, ◌≤◌, vec_items, vec_len}
use Rattle.std.specs.Io.{StartsWith}
use Rattle.futures.specs.Task.{Keeps}
use Rattle.blocking_io.specs.Passed.{AddsTo, Gave, WasRead}
use Rattle.blocking_io.proofs.read_ext.append_all.Given as goal

abbrev pub invariant-loop : goal.invariant-loop
invariant-loop g l = (g.A.AsyncRead.closed l.reader → ⊥) × (l.start ≤ vec_len l.out)
    × StartsWith (vec_items l.out) (vec_items l.initial.out) × Keeps l.initial.cx l.cx
    × AddsTo (vec_items l.initial.out) (vec_items l.out)
    (λ bytes. Gave g.A.AsyncRead.reads l.initial.reader bytes l.reader)
    × (0 < l.counter → WasRead g.A.AsyncRead.reads l.reader)
