-- One byte more was written.
use Rattle.std.proofs.Common.{rules, ◌≡◌, ◌+◌, [], ◌++◌, take, ap, ◌∙◌, sym}
use Rattle.std.specs.Prelude.{get_or}
use Rattle.std.proofs.Output.{has_written_of_eq, has_written_append}
use Rattle.std.proofs.lemmas.List.{take_more, flat_map_more}
use Rattle.blocking_world_laws.specs.Hex.{hex_byte, hex_digits}
use Rattle.blocking_world_laws.proofs.bytes.write_digits.Goals as goal

pub loop-byte-preserved : goal.loop-byte-preserved
loop-byte-preserved g c = λ plain.
    let at = c.loop-byte.byte-index in
    let bytes = c.args.bytes.now in
    let more : hex_digits (take at bytes) ++ hex_byte (get_or bytes at 0)
    ≡ hex_digits (take (at + 1) bytes) =
    flat_map_more hex_byte [] (take at bytes) (get_or bytes at 0)
    ∙ ap hex_digits (sym (take_more bytes at 0 c.loop-byte-test.true)) in
    has_written_of_eq _ _ _ _ _ more
    (has_written_append _ _ _ _ _ _ (c.loop-byte.invariant plain) (search rules))
