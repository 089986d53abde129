use Rattle.blocking_schedule.proofs.Workers.{sweep_late_kept}
use Rattle.blocking_schedule.proofs.schedule.Schedule.sweep_late.Goals as goal

pub returns-clause-sound : goal.returns-clause-sound
returns-clause-sound c = sweep_late_kept c.args.self.now.threads.items
    c.args.who c.args.self.now.pool c.args.self.now.is_locked c.args.self.now.is_manned
    c.args.self.now.is_queued c.requires c.args.count c.in-Some.pool c.in-Some-Waited.why
    c.is_rung.result (cc) c.is_rung.ensures.counts c.in-Some.ensures.swept
