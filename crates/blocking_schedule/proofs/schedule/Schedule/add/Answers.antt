use Rattle.blocking_schedule.proofs.Callers.{add_kept}
use Rattle.blocking_schedule.proofs.schedule.Schedule.add.Goals as goal

pub returns-clause-sound : goal.returns-clause-sound
returns-clause-sound c =
    add_kept c.args.self.now.threads.items c.args.who c.args.self.now.pool c.args.self.now.is_locked
    c.args.self.now.is_manned c.args.self.now.is_queued c.requires (cc) c.if-self.false
