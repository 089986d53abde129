-- What was written so far stands before the rest.
use Rattle.std.proofs.Common.{rules, drop_of_length-le, subst, sym}
use Rattle.blk_commands.proofs.TellLemmas.{Written, written_kept, written_more, written_part}
use Rattle.blk_commands.proofs.TellLemmas.{written_whole}
use Rattle.blk_commands.proofs.tell.write_part.Goals as goal
use Rattle.blk_commands.proofs.tell.write_part.Goals.{in-Ok, in-Err+else-ne}

pub loop-preserved : goal.loop-preserved
loop-preserved g c =
    let held = g.W.Write.contents in
    let so_far = c.loop.invariant in
    elim c.match-write.branch [
      | in-Ok w ↦ subst (λ rest. Written (held c.args.writer.now) (held c.write.new.self)
          c.args.bytes.now rest.now) (sym w.rest-is)
          (written_more (held c.args.writer.now) (held c.loop.writer) (held c.write.new.self)
          c.args.bytes.now c.loop.rest.now _ so_far w.in-Ok.ensures.bytes)
      | in-Err+else-ne w ↦ subst (λ rest. Written (held c.args.writer.now) (held c.write.new.self)
          c.args.bytes.now rest.now) (sym w.rest-is)
          (written_kept (held c.args.writer.now) (held c.loop.writer) (held c.write.new.self)
          c.args.bytes.now c.loop.rest.now so_far w.in-Err.ensures.bytes)
    ]

pub returns-then-is_empty-clause-part : goal.returns-then-is_empty-clause-part
returns-then-is_empty-clause-part g c = written_part _ _ _ _ c.loop.invariant

pub returns-then-is_empty-clause-whole : goal.returns-then-is_empty-clause-whole
returns-then-is_empty-clause-whole g c = written_whole _ _ _ _ c.loop.invariant
    (drop_of_length-le c.loop.rest.now {i = 0} (search rules))

pub returns-in-Ok-eq0-clause-part : goal.returns-in-Ok-eq0-clause-part
returns-in-Ok-eq0-clause-part g c =
    written_part _ _ _
    _ (written_more _ (g.W.Write.contents c.loop.writer) (g.W.Write.contents c.write.new.self) _
    c.loop.rest.now c.in-Ok-eq0.field-0 c.loop.invariant (search rules))

pub returns-then-ne-clause-part : goal.returns-then-ne-clause-part
returns-then-ne-clause-part g c =
    written_part _ _ _
    _ (written_kept _ (g.W.Write.contents c.loop.writer) (g.W.Write.contents c.write.new.self) _
    c.loop.rest.now c.loop.invariant c.in-Err.ensures.bytes)

pub returns-clause-part : goal.returns-clause-part
returns-clause-part g c = written_part _ _ _ _ c.loop.invariant
