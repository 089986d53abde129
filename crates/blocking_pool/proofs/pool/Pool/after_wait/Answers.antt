use Rattle.std.proofs.Common.{refl}
use Rattle.blocking_pool.specs.Starters.{asked}
use Rattle.blocking_pool.proofs.PoolLemmas.{waits_on, waits_out}
use Rattle.blocking_pool.proofs.pool.Pool.after_wait.Goals as goal

pub returns-then-not-timed_out-clause-answer : goal.returns-then-not-timed_out-clause-answer
returns-then-not-timed_out-clause-answer g c =
    waits_on g.J.Job.may_answer (asked g.S.Starter c.args.starter.now c.args.starter.now)
    c.args.timed_out c.args.self.now c.stay_or_stop.new.self c.stay_or_stop.result refl
    c.if-not-timed_out.true c.stay_or_stop.ensures

pub returns-clause-answer : goal.returns-clause-answer
returns-clause-answer g c =
    waits_out g.J.Job.may_answer (asked g.S.Starter c.args.starter.now c.sweep.new.starter)
    c.args.timed_out c.args.self.now
    c.sweep.new.self c.stay_or_stop-2.new.self c.sweep.result c.stay_or_stop-2.result
    c.if-not-timed_out.false c.sweep.ensures.answer c.stay_or_stop-2.ensures
