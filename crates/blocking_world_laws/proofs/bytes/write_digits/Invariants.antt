-- So many bytes were written so far.
use Rattle.std.proofs.Common.{take}
use Rattle.std.specs.Fmt.{HasWritten, IsPlainFormatter}
use Rattle.blocking_world_laws.specs.Hex.{hex_digits}
use Rattle.blocking_world_laws.proofs.bytes.write_digits.Given as goal

abbrev pub invariant-loop-byte : goal.invariant-loop-byte
invariant-loop-byte g l =
    IsPlainFormatter l.initial.f → HasWritten g.W.Write.write_str_gives l.initial.f
    (hex_digits (take l.byte-index l.fn.bytes)) l.f
