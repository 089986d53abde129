use Rattle.std.proofs.Common.{arith}
use Rattle.blocking_schedule.proofs.Numbers.{quiet_limit}
use Rattle.blocking_schedule.proofs.Callers.{limit_kept}
use Rattle.blocking_schedule.proofs.schedule.Schedule.set_limit.Goals as goal

pub returns-clause-sound : goal.returns-clause-sound
returns-clause-sound c = limit_kept c.args.self.now.threads.items c.args.who c.args.self.now.pool
    c.args.self.now.is_locked c.args.self.now.is_manned c.args.self.now.is_queued c.requires
    c.args.limit c.bell_of_limit-bell.result (cc) c.if-self.false (omega arith)
    (quiet_limit c.args.self.now.pool c.args.limit c.bell_of_limit-bell.result
    c.bell_of_limit-bell.ensures c.requires.counted.unset)
