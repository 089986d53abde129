use Rattle.blocking_schedule.proofs.Workers.{wake_up_kept}
use Rattle.blocking_schedule.proofs.schedule.Schedule.wake_up.Goals as goal

pub returns-clause-sound : goal.returns-clause-sound
returns-clause-sound c = wake_up_kept c.args.self.now.threads.items c.args.who c.args.self.now.pool
    c.args.self.now.is_locked c.args.self.now.is_manned c.args.self.now.is_queued c.requires
    c.args.why (cc)
