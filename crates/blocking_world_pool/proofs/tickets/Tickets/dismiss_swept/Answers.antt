use Rattle.std.proofs.Common.{true, refl, arith}
use Rattle.blocking_world_pool.proofs.growth.Sweeps.{stop_levels, no_stay}
use Rattle.blocking_world_pool.proofs.tickets.Tickets.dismiss_swept.Goals as goal

pub unreachable-requires : goal.unreachable-requires
unreachable-requires g c =
    no_stay (g.S.Starter.may_answer c.clear_queue-pass.new.starter) true c.clear_queue-pass.new.self
    c.after_wait.new.self c.after_wait.result.0 c.after_wait.result.1 c.after_wait.ensures.waits
    c.in-Stay-default._pass refl c.in-Stay-default.is-0
    (c.clear_queue-pass.ensures.passed.due c.requires.due) c.clear_queue-pass.ensures.empty

pub returns-clause-left : goal.returns-clause-left
returns-clause-left g c = λ rest is.
    let level = c.clear_queue-pass.ensures.passed.level in
    let stops =
    stop_levels (g.S.Starter.may_answer c.clear_queue-pass.new.starter) true
    c.clear_queue-pass.new.self c.after_wait.new.self c.after_wait.result.0
    c.after_wait.result.1 c.after_wait.ensures.waits
    c.in-Stop-default.is-0 c.clear_queue-pass.ensures.passed.free in
    omega (arith, level, stops, is)
