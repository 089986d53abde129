use Rattle.blocking_schedule.proofs.Lookout.{claim_kept, claims_one}
use Rattle.blocking_schedule.proofs.schedule.Schedule.claim_one.Goals as goal

pub returns-clause-sound : goal.returns-clause-sound
returns-clause-sound c = claim_kept c.args.self.now.threads.items c.args.who c.args.self.now.pool
    c.args.self.now.is_locked c.args.self.now.is_manned c.args.self.now.is_queued c.requires.sound
    c.args.looker c.args.next c.requires.at (cc)

pub returns-clause-one : goal.returns-clause-one
returns-clause-one c = λ new old. claims_one c.args.self.now.threads.items
    c.args.who c.args.self.now.pool c.args.self.now.is_locked c.args.self.now.is_manned
    c.args.self.now.is_queued c.requires.sound c.args.looker c.args.next c.requires.at (cc)
