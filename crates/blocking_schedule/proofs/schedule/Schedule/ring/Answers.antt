use Rattle.blocking_schedule.proofs.Bells.{quiet_kept}
use Rattle.blocking_schedule.proofs.schedule.Schedule.ring.Goals as goal

pub returns-in-Silent-clause-sound : goal.returns-in-Silent-clause-sound
returns-in-Silent-clause-sound c =
    quiet_kept c.args.self.now.threads.items c.args.who c.args.self.now.pool
    c.args.self.now.is_locked c.args.self.now.is_manned c.args.self.now.is_queued c.requires
    c.in-Some-Ringing.next c.place_after.result c.place_after.ensures (cc)
