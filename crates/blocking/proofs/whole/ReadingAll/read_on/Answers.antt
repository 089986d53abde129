use Rattle.std.proofs.Common.{rules, []}
use Rattle.std.proofs.lemmas.Grind.{common_steps}
use Rattle.blocking_io.proofs.Wholes.{met_end}
use Rattle.blocking.proofs.Wholes.{adds_none, adds_once}
use Rattle.blocking.proofs.whole.ReadingAll.read_on.Goals as goal

pub returns-in-Pending-clause-waits : goal.returns-in-Pending-clause-waits
returns-in-Pending-clause-waits g c =
    adds_none g.A.AsyncRead.reads _ _ _ _ c.in-Pending.ensures.bytes

pub returns-in-Ok-clause-read : goal.returns-in-Ok-clause-read
returns-in-Ok-clause-read g c =
    adds_once g.A.AsyncRead.reads _ _ _ _ _ _
    (rw c.in-Ready-Ok.field-0-is at c.in-Ready-Ok.ensures.bytes) (search (rules, common_steps))

pub returns-in-Ok-clause-all : goal.returns-in-Ok-clause-all
returns-in-Ok-clause-all g c none = (
  [],
  search (rules, common_steps),
  met_end g.A.AsyncRead.reads _ _ _ _ c.poll_read.result c.poll_read.ensures.bytes
      (search (rules, common_steps)) (search (rules, common_steps)),
)
