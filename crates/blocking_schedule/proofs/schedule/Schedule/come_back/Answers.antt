use Rattle.blocking_schedule.proofs.Workers.{come_back_kept}
use Rattle.blocking_schedule.proofs.schedule.Schedule.come_back.Goals as goal

pub returns-clause-sound : goal.returns-clause-sound
returns-clause-sound c = come_back_kept c.args.self.now.threads.items
    c.args.who c.args.self.now.pool c.args.self.now.is_locked c.args.self.now.is_manned
    c.args.self.now.is_queued c.requires c.in-Some-Woken.why (cc) c.if-self.false
