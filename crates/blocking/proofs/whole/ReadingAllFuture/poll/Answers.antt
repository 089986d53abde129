use Rattle.std.proofs.Common.{rules, sym, ap, subst, ℕ, List, vec_items}
use Rattle.blocking_io.proofs.Wholes.{adds_all, adds_more}
use Rattle.blocking.specs.Wholes.{GivesMore}
use Rattle.blocking.proofs.Wholes.{goes_on, if_pending}
use Rattle.blocking.proofs.whole.ReadingAllFuture.poll.Goals as goal

pub returns-in-Pending-clause-same : goal.returns-in-Pending-clause-same
returns-in-Pending-clause-same g c =
    goes_on g.A.AsyncRead.reads vec_items _ _ _ _
    (adds_more g.A.AsyncRead.reads _ _ _ _ _ _ c.loop.invariant.2 c.in-Pending.ensures.waits)

pub returns-in-Ready-Ok-eq0-clause-value : goal.returns-in-Ready-Ok-eq0-clause-value
returns-in-Ready-Ok-eq0-clause-value g c =
    let Q : List ℕ → Type 0 = λ l. GivesMore g.A.AsyncRead.reads c.args.self.now.reader
    (vec_items c.args.self.now.bytes) l in
    subst Q (sym (ap (λ v. vec_items v) c.replace.ensures.value)) (
      c.read_on.new.self.reader,
      adds_all g.A.AsyncRead.reads _ _ _ _ _ _ c.loop.invariant.2
          ((rw c.in-Ready-Ok-eq0.field-0-is at c.in-Ready-Ok-eq0.ensures.all) (search rules)),
    )

pub loop-preserved : goal.loop-preserved
loop-preserved g c = (
  search rules,
  search rules,
  adds_more g.A.AsyncRead.reads _ _ _ _ _ _ c.loop.invariant.2
      (rw c.in-Ready-Ok.field-0-is at c.in-Ready-Ok.ensures.read),
)

pub returns-clause-same : goal.returns-clause-same
returns-clause-same g c = if_pending c.yield_now.result
    (goes_on g.A.AsyncRead.reads vec_items _ _ _ _ c.loop.invariant.2)
