use Rattle.blocking_schedule.proofs.Workers.{start_kept}
use Rattle.blocking_schedule.proofs.schedule.Schedule.start.Goals as goal

pub returns-clause-sound : goal.returns-clause-sound
returns-clause-sound c = start_kept c.args.self.now.threads.items c.args.who c.args.self.now.pool
    c.args.self.now.is_locked c.args.self.now.is_manned c.args.self.now.is_queued c.requires
    c.args.spare c.in-Some-Called.field-0-0 c.in-Some-Called.next (cc) (cc) c.if-self.false
