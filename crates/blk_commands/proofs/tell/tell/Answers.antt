-- What was made of the text is its line, and a first part of it was written.
use Rattle.std.proofs.Common.{◌∙◌}
use Rattle.std.specs.Fmt.InlineText.{IsIntact, inline_text}
use Rattle.blk_commands.proofs.TellLemmas.{line_part, line_whole}
use Rattle.blk_commands.proofs.tell.tell.Goals as goal

pub returns-clause-part : goal.returns-clause-part
returns-clause-part g c =
    line_part IsIntact inline_text (g.D.Display.output c.args.text) c.new-line.result
    c.writeln.new.self _ _ c.as_bytes.result.now
    c.new-line.ensures.intact c.new-line.ensures.text c.in_ok-writeln.ensures.writes
    (c.as_bytes.ensures.value ∙ c.as_str.ensures.value) c.write_part.ensures.part

pub returns-clause-whole : goal.returns-clause-whole
returns-clause-whole g c =
    line_whole IsIntact inline_text c.write_part.result (g.D.Display.output c.args.text)
    c.new-line.result c.writeln.new.self _ _ c.as_bytes.result.now
    c.new-line.ensures.intact c.new-line.ensures.text c.in_ok-writeln.ensures.writes
    (c.as_bytes.ensures.value ∙ c.as_str.ensures.value) c.write_part.ensures.whole
