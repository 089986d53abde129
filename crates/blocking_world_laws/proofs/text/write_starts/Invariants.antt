-- So many starts were written so far.
use Rattle.std.specs.Fmt.{HasWritten, IsPlainFormatter}
use Rattle.blocking_world_laws.specs.Texts.{starts_text}
use Rattle.blocking_world_laws.proofs.text.write_starts.Given as goal

abbrev pub invariant-loop-count : goal.invariant-loop-count
invariant-loop-count g l = IsPlainFormatter l.initial.f
    → HasWritten g.W.Write.write_str_gives l.initial.f (starts_text l.first l.count) l.f
