use Rattle.std.proofs.Common.{arith}
use Rattle.blocking_schedule.proofs.Workers.{end_kept, end_woken_kept, has_turn}
use Rattle.blocking_schedule.proofs.schedule.Schedule.end.Goals as goal

pub prove-unreachable-requires : goal.prove-unreachable-requires
prove-unreachable-requires c = omega (
  arith,
  has_turn c.args.self.now.threads.items
      c.args.who c.args.self.now.pool c.args.self.now.is_locked c.args.self.now.is_manned
      c.args.self.now.is_queued c.requires c.in-Some-Turn.origin (cc),
)

pub returns-then-was_woken-clause-sound : goal.returns-then-was_woken-clause-sound
returns-then-was_woken-clause-sound c = end_woken_kept c.args.self.now.threads.items
    c.args.who c.args.self.now.pool c.args.self.now.is_locked c.args.self.now.is_manned
    c.args.self.now.is_queued c.requires c.in-Some-Turn.origin c.was_swept-chosen.result (cc)
    c.if-self.false c.was_swept-chosen.ensures.counts

pub returns-clause-sound : goal.returns-clause-sound
returns-clause-sound c =
    end_kept c.args.self.now.threads.items c.args.who c.args.self.now.pool c.args.self.now.is_locked
    c.args.self.now.is_manned c.args.self.now.is_queued c.requires c.in-Some-Turn.origin
    c.was_swept-chosen.result (cc) c.if-self.false c.was_swept-chosen.ensures.counts
