use Rattle.std.proofs.Common.{arith, rules, length, ◌<◌}
use Rattle.std.proofs.lemmas.Option.{slice_get_within}
use Rattle.blocking_schedule.specs.declared.place.Place.TheVariants.{HasSwept}
use Rattle.blocking_schedule.proofs.Workers.{stay_swept_kept, stop_swept_kept, has_pass_swept}
use Rattle.blocking_schedule.proofs.schedule.Schedule.stay_or_stop_swept.Goals as goal

pub prove-unreachable-requires : goal.prove-unreachable-requires
prove-unreachable-requires c = omega (
  arith,
  (has_pass_swept c.args.self.now.threads.items
      c.args.who c.args.self.now.pool c.args.self.now.is_locked c.args.self.now.is_manned
      c.args.self.now.is_queued c.requires.sound c.args.chosen c.requires.at).2,
)

pub returns-then-not-must_stop-clause-sound : goal.returns-then-not-must_stop-clause-sound
returns-then-not-must_stop-clause-sound c = stay_swept_kept c.args.self.now.threads.items
    c.args.who c.args.self.now.pool c.args.self.now.is_locked c.args.self.now.is_manned
    c.args.self.now.is_queued c.requires.sound c.args.chosen c.requires.at

pub index_mut-requires-2 : goal.index_mut-requires-2
index_mut-requires-2 c = let within : c.args.who < length c.args.self.now.threads.items =
    slice_get_within c.args.self.now.threads.items c.args.who (HasSwept c.args.chosen)
    c.requires.at in search rules

pub overflow_sub-self : goal.overflow_sub-self
overflow_sub-self c = (has_pass_swept c.args.self.now.threads.items c.args.who c.args.self.now.pool
    c.args.self.now.is_locked c.args.self.now.is_manned c.args.self.now.is_queued c.requires.sound
    c.args.chosen c.requires.at).1

pub overflow_sub-self-2 : goal.overflow_sub-self-2
overflow_sub-self-2 c = (has_pass_swept c.args.self.now.threads.items
    c.args.who c.args.self.now.pool c.args.self.now.is_locked c.args.self.now.is_manned
    c.args.self.now.is_queued c.requires.sound c.args.chosen c.requires.at).0

pub returns-clause-sound : goal.returns-clause-sound
returns-clause-sound c =
    stop_swept_kept c.args.self.now.threads.items c.args.who c.args.self.now.pool
    c.args.self.now.is_locked c.args.self.now.is_manned c.args.self.now.is_queued c.requires.sound
    c.args.chosen c.requires.at (c.must_stop.ensures.stops c.if-not-must_stop.false)
