use Rattle.blocking_schedule.proofs.Callers.{sweep_kept}
use Rattle.blocking_schedule.proofs.schedule.Schedule.sweep.Goals as goal

pub returns-clause-sound : goal.returns-clause-sound
returns-clause-sound c = sweep_kept c.args.self.now.threads.items c.args.who c.args.self.now.pool
    c.args.self.now.is_locked c.args.self.now.is_manned c.args.self.now.is_queued c.requires
    c.args.count c.in-Some.pool (cc) c.if-self.false c.in-Some.ensures.swept
