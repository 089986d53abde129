use Rattle.std.proofs.Common.{length, refl, ap, ◌∙◌, arith}
use Rattle.blocking_world_pool.proofs.Words.{JobPool}
use Rattle.blocking_world_pool.proofs.closing.Jobs.{passed_unlimited, passes_none, passes_on}
use Rattle.blocking_world_pool.proofs.tickets.Tickets.clear_queue.Goals as goal

pub loop-self-init : goal.loop-self-init
loop-self-init g c =
    rw c.set_client_limit.ensures (passes_none _ c.requires.valued c.requires.free, refl)

pub loop-self-preserved : goal.loop-self-preserved
loop-self-preserved g c = (
  passes_on c.set_client_limit.new.self c.loop-self.self c.pass_over-pass.new.self
      c.loop-self.invariant.0 c.pass_over-pass.ensures.passed,
  c.pass_over-pass.ensures.limit ∙ c.loop-self.invariant.1,
)

pub loop-self-smaller : goal.loop-self-smaller
loop-self-smaller g c =
    let shorter = c.pass_over-pass.ensures.shorter c.loop-self.invariant.1 in
    let some = c.loop-self-test.true in
    let queued = c.queue_len.ensures.value ∙ ap (λ (p : JobPool). length p.queue) c.self.view_is in
    omega (arith, shorter, some, queued)

pub returns-clause-passed : goal.returns-clause-passed
returns-clause-passed g c = passed_unlimited c.args.self.now c.set_client_limit.new.self
    c.loop-self.self c.set_client_limit.ensures c.loop-self.invariant.0
