use Rattle.blocking_schedule.proofs.Lookout.{tell_kept}
use Rattle.blocking_schedule.proofs.schedule.Schedule.tell.Goals as goal

pub returns-clause-sound : goal.returns-clause-sound
returns-clause-sound c = tell_kept c.args.self.now.threads.items c.args.who c.args.self.now.pool
    c.args.self.now.is_locked c.args.self.now.is_manned c.args.self.now.is_queued c.requires
    c.in-Some-Claimed.bell c.in-Some-Claimed.next c.has_job-has_job.result (cc)
    c.has_job-has_job.ensures
