use Rattle.std.proofs.Common.{rules, arith}
use Rattle.std.proofs.lemmas.Grind.{common_steps}
use Rattle.blocking_io.proofs.Wholes.{adds_all, adds_more}
use Rattle.blocking_io.proofs.read_ext.append_all.Goals as goal

pub returns-in-Ready-Ok-eq0-clause-read : goal.returns-in-Ready-Ok-eq0-clause-read
returns-in-Ready-Ok-eq0-clause-read g c =
    adds_more g.A.AsyncRead.reads _ _ _ _ _ _ c.loop.invariant.4 c.append.ensures.read

pub returns-in-Ready-Err-clause-read : goal.returns-in-Ready-Err-clause-read
returns-in-Ready-Err-clause-read g c =
    adds_more g.A.AsyncRead.reads _ _ _ _ _ _ c.loop.invariant.4 c.append.ensures.read

pub returns-in-Pending-clause-read : goal.returns-in-Pending-clause-read
returns-in-Pending-clause-read g c =
    adds_more g.A.AsyncRead.reads _ _ _ _ _ _ c.loop.invariant.4 c.append.ensures.read

pub returns-in-Ready-Ok-eq0-clause-all : goal.returns-in-Ready-Ok-eq0-clause-all
returns-in-Ready-Ok-eq0-clause-all g c =
    adds_all g.A.AsyncRead.reads _ _ _ _ _ _ c.loop.invariant.4 (search rules)

pub loop-preserved : goal.loop-preserved
loop-preserved g c = (
  search rules,
  search rules,
  grind (arith, common_steps),
  search rules,
  adds_more g.A.AsyncRead.reads _ _ _ _ _ _ c.loop.invariant.4 c.append.ensures.read,
  λ some. search rules,
)
