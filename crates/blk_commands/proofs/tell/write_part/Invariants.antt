-- What is gone from the rest was written.
use Rattle.blk_commands.proofs.TellLemmas.{Written}
use Rattle.blk_commands.proofs.tell.write_part.Given as goal

abbrev pub invariant-loop : goal.invariant-loop
invariant-loop g l =
    Written (g.W.Write.contents l.fn.writer) (g.W.Write.contents l.writer) l.bytes l.rest
