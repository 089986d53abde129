use Rattle.std.proofs.Common.{◌≡◌, ℕ, refl, sym, ap, ◌∙◌}
use Rattle.blocking_pool.specs.Counts.{Counts, limit_of}
use Rattle.blocking_pool.specs.Growth.{is_due}
use Rattle.blocking_pool.specs.Starters.{asked}
use Rattle.blocking_pool.proofs.GrowthLemmas.{grows_more, grows_enough, grows_no_more}
use Rattle.blocking_pool.proofs.pool.counts.Counts.grow.Goals as goal

-- the test of the loop, by the limit as it was before the growth
due_by : (ready limit : ℕ) (counts old : Counts) → limit ≡ limit_of old → is_due ready counts.idle
    counts.workers (limit_of old) 0 ≡ is_due ready counts.idle counts.workers limit 0
due_by ready limit counts old same =
    ap (λ l. is_due ready counts.idle counts.workers l 0) (sym same)

pub starts-preserved : goal.starts-preserved
starts-preserved g c =
    grows_more (asked g.S.Starter c.args.starter.now c.starts.starter)
    (asked g.S.Starter c.starts.starter c.start.new.starter)
    (g.S.Starter.may_answer c.start.new.starter)
    c.args.ready c.args.self.now c.starts.self c.start.new.self
    (due_by c.args.ready c.unwrap_or-limit.result c.starts.self c.args.self.now
    (c.unwrap_or-limit.ensures ∙ ap limit_of c.self.view_is) ∙ sym c.starts-test.ensures)
    c.if-not-start.ensures.started c.if-not-start.ensures.answer c.start.ensures.steady refl
    c.if-not-start.ensures.refusals c.starts.invariant

pub returns-clause-growth : goal.returns-clause-growth
returns-clause-growth g c =
    grows_enough (asked g.S.Starter c.args.starter.now c.starts.starter)
    (g.S.Starter.may_answer c.starts.starter) c.args.ready c.args.self.now c.starts.self
    (due_by c.args.ready c.unwrap_or-limit.result c.starts.self c.args.self.now
    (c.unwrap_or-limit.ensures ∙ ap limit_of c.self.view_is) ∙ sym c.starts-test.ensures)
    c.starts.invariant

pub returns-then-not-start-clause-growth : goal.returns-then-not-start-clause-growth
returns-then-not-start-clause-growth g c =
    grows_no_more (asked g.S.Starter c.args.starter.now c.starts.starter)
    (asked g.S.Starter c.starts.starter c.start.new.starter)
    c.args.ready c.args.self.now c.starts.self c.start.new.self
    (due_by c.args.ready c.unwrap_or-limit.result c.starts.self c.args.self.now
    (c.unwrap_or-limit.ensures ∙ ap limit_of c.self.view_is) ∙ sym c.starts-test.ensures)
    c.if-not-start.ensures.refused c.if-not-start.ensures.answer refl
    c.if-not-start.ensures.refusals c.starts.invariant
