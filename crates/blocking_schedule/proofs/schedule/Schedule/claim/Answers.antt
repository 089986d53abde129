use Rattle.blocking_schedule.proofs.Lookout.{no_claim_kept}
use Rattle.blocking_schedule.proofs.schedule.Schedule.claim.Goals as goal

pub returns-clause-sound : goal.returns-clause-sound
returns-clause-sound c = no_claim_kept c.args.self.now.threads.items c.args.who c.args.self.now.pool
    c.args.self.now.is_locked c.args.self.now.is_manned c.args.self.now.is_queued c.requires
    c.in-Some-Called.bell c.in-Some-Called.next (cc)
