use Rattle.std.proofs.Common.{rules, arith}
use Rattle.std.proofs.lemmas.Grind.{common_steps}
use Rattle.blocking_io.proofs.Wholes.{took_on}
use Rattle.blocking_io.proofs.write_ext.hand_on.Goals as goal

pub returns-in-Pending-clause-written : goal.returns-in-Pending-clause-written
returns-in-Pending-clause-written g c =
    took_on g.A.AsyncWrite.writes _ _ _ _ _ _ _ c.poll_write.result c.loop-taken.invariant.4
    c.poll_write.ensures.bytes c.loop-taken.invariant.3 (grind (arith, common_steps))

pub returns-in-Ready-Ok-eq0-clause-written : goal.returns-in-Ready-Ok-eq0-clause-written
returns-in-Ready-Ok-eq0-clause-written g c =
    took_on g.A.AsyncWrite.writes _ _ _ _ _ _ _ c.poll_write.result c.loop-taken.invariant.4
    c.poll_write.ensures.bytes c.loop-taken.invariant.3 (grind (arith, common_steps))

pub returns-in-Ready-Err-clause-written : goal.returns-in-Ready-Err-clause-written
returns-in-Ready-Err-clause-written g c =
    took_on g.A.AsyncWrite.writes _ _ _ _ _ _ _ c.poll_write.result c.loop-taken.invariant.4
    c.poll_write.ensures.bytes c.loop-taken.invariant.3 (grind (arith, common_steps))

pub loop-taken-preserved : goal.loop-taken-preserved
loop-taken-preserved g c = (
  search rules,
  search rules,
  search rules,
  search rules,
  took_on g.A.AsyncWrite.writes _ _ _ _ _ _ _ c.poll_write.result c.loop-taken.invariant.4
      c.poll_write.ensures.bytes c.loop-taken.invariant.3 (grind (arith, common_steps)),
)
