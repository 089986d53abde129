use Rattle.blocking_schedule.proofs.Workers.{arrive_kept, has_arrival}
use Rattle.blocking_schedule.proofs.schedule.Schedule.arrive.Goals as goal

pub overflow_sub-self : goal.overflow_sub-self
overflow_sub-self c = has_arrival c.args.self.now.threads.items c.args.who c.args.self.now.pool
    c.args.self.now.is_locked c.args.self.now.is_manned c.args.self.now.is_queued c.requires (cc)

pub returns-clause-sound : goal.returns-clause-sound
returns-clause-sound c = arrive_kept c.args.self.now.threads.items c.args.who c.args.self.now.pool
    c.args.self.now.is_locked c.args.self.now.is_manned c.args.self.now.is_queued c.requires (cc)
    c.if-self.false
