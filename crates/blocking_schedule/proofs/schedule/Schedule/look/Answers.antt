use Rattle.blocking_schedule.proofs.Lookout.{look_kept, look_on_kept}
use Rattle.blocking_schedule.proofs.schedule.Schedule.look.Goals as goal

pub returns-then-self-clause-sound : goal.returns-then-self-clause-sound
returns-then-self-clause-sound c =
    look_on_kept c.args.self.now.threads.items c.args.who c.args.self.now.pool
    c.args.self.now.is_locked c.args.self.now.is_manned c.args.self.now.is_queued c.requires (cc)

pub returns-clause-sound : goal.returns-clause-sound
returns-clause-sound c = look_kept c.args.self.now.threads.items c.args.who c.args.self.now.pool
    c.args.self.now.is_locked c.args.self.now.is_manned c.args.self.now.is_queued c.requires (cc)
