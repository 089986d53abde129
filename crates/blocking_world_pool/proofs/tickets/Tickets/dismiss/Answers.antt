use Rattle.std.proofs.Common.{true, arith}
use Rattle.blocking_world_pool.proofs.growth.Sweeps.{stop_levels, stay_levels}
use Rattle.blocking_world_pool.proofs.tickets.Tickets.dismiss.Goals as goal

pub dismiss_swept-requires-clause-free : goal.dismiss_swept-requires-clause-free
dismiss_swept-requires-clause-free g c =
    let free = c.clear_queue-pass.ensures.passed.free in
    let stays =
    stay_levels (g.S.Starter.may_answer c.clear_queue-pass.new.starter) true
    c.clear_queue-pass.new.self c.after_wait.new.self c.after_wait.result.0
    c.after_wait.result.1 c.after_wait.ensures.waits
    c.in-Stay-default.pass c.in-Stay-default.is-0 in
    omega (arith, free, stays)

pub returns-in-Stop-default-clause-left : goal.returns-in-Stop-default-clause-left
returns-in-Stop-default-clause-left g c = λ rest is.
    let level = c.clear_queue-pass.ensures.passed.level in
    let stops =
    stop_levels (g.S.Starter.may_answer c.clear_queue-pass.new.starter) true
    c.clear_queue-pass.new.self c.after_wait.new.self c.after_wait.result.0
    c.after_wait.result.1 c.after_wait.ensures.waits
    c.in-Stop-default.is-0 c.clear_queue-pass.ensures.passed.free in
    omega (arith, level, stops, is)

pub returns-in-Stay-default-clause-left : goal.returns-in-Stay-default-clause-left
returns-in-Stay-default-clause-left g c = λ rest is.
    let level = c.clear_queue-pass.ensures.passed.level in
    let stays =
    stay_levels (g.S.Starter.may_answer c.clear_queue-pass.new.starter) true
    c.clear_queue-pass.new.self c.after_wait.new.self c.after_wait.result.0
    c.after_wait.result.1 c.after_wait.ensures.waits
    c.in-Stay-default.pass c.in-Stay-default.is-0 in
    c.dismiss_swept.ensures.left rest (omega (arith, level, stays, is))
