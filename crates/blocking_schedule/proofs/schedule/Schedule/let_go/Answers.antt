use Rattle.blocking_schedule.proofs.Bells.{let_go_kept}
use Rattle.blocking_schedule.proofs.schedule.Schedule.let_go.Goals as goal

pub returns-clause-sound : goal.returns-clause-sound
returns-clause-sound c = let_go_kept c.args.self.now.threads.items c.args.who c.args.self.now.pool
    c.args.self.now.is_locked c.args.self.now.is_manned c.args.self.now.is_queued c.requires
    c.in-Some-Told.bell c.in-Some-Told.next (cc)
