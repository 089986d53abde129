use Rattle.std.proofs.Common.{◌∙◌, inr, rules, arith}
use Rattle.std.proofs.lemmas.Grind.{common_steps}
use Rattle.std.proofs.lemmas.Slice.{take-put_mid_below}
use Rattle.blocking_io.proofs.Wholes.{gave_no_more, gave_on}
use Rattle.blocking_io.proofs.read_ext.fill.Goals as goal

pub returns-in-Pending-clause-read : goal.returns-in-Pending-clause-read
returns-in-Pending-clause-read g c =
    gave_on g.A.AsyncRead.reads _ _ _ _ c.poll_read.new.buf _ _ _ _ _ c.poll_read.result
    c.loop-filled.invariant.6 c.poll_read.ensures.bytes c.loop-filled.invariant.4
    c.loop-filled.invariant.1 (grind (arith, common_steps)) (grind (arith, common_steps))

pub returns-in-Ready-Err-clause-read : goal.returns-in-Ready-Err-clause-read
returns-in-Ready-Err-clause-read g c =
    gave_on g.A.AsyncRead.reads _ _ _ _ c.poll_read.new.buf _ _ _ _ _ c.poll_read.result
    c.loop-filled.invariant.6 c.poll_read.ensures.bytes c.loop-filled.invariant.4
    c.loop-filled.invariant.1 (grind (arith, common_steps)) (grind (arith, common_steps))

pub returns-in-Ready-Ok-eq0-clause-read : goal.returns-in-Ready-Ok-eq0-clause-read
returns-in-Ready-Ok-eq0-clause-read g c =
    gave_on g.A.AsyncRead.reads _ _ _ _ c.poll_read.new.buf _ _ _ _ _ c.poll_read.result
    c.loop-filled.invariant.6 c.poll_read.ensures.bytes c.loop-filled.invariant.4
    c.loop-filled.invariant.1 (grind (arith, common_steps)) (grind (arith, common_steps))

pub returns-in-Ready-Ok-eq0-clause-fault : goal.returns-in-Ready-Ok-eq0-clause-fault
returns-in-Ready-Ok-eq0-clause-fault g c = inr (
  gave_no_more g.A.AsyncRead.reads _ _ _ _ _ _ _ _ c.poll_read.result c.loop-filled.invariant.6
      c.poll_read.ensures.bytes c.loop-filled-test.true (cc),
  c.from-error.ensures,
)

pub loop-filled-preserved : goal.loop-filled-preserved
loop-filled-preserved g c = (
  search rules,
  search rules,
  search rules,
  search rules,
  search rules,
  take-put_mid_below _ _ _ _ _ c.loop-filled.invariant.4 c.loop-filled.invariant.1
      ∙ c.loop-filled.invariant.5,
  gave_on g.A.AsyncRead.reads _ _ _ _ c.poll_read.new.buf _ _ _ _ _ c.poll_read.result
      c.loop-filled.invariant.6 c.poll_read.ensures.bytes c.loop-filled.invariant.4
      c.loop-filled.invariant.1 (grind (arith, common_steps)) (grind (arith, common_steps)),
)
