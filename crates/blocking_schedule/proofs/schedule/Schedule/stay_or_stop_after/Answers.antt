use Rattle.std.proofs.Common.{arith, rules, length, ◌<◌, ◌∙◌, ap}
use Rattle.std.proofs.lemmas.Option.{slice_get_within}
use Rattle.blocking_schedule.specs.declared.place.Place.TheVariants.{Waited}
use Rattle.blocking_schedule.specs.Places.{bell_of_stop}
use Rattle.blocking_schedule.proofs.Workers.{stay_kept, stop_kept, has_pass}
use Rattle.blocking_schedule.proofs.schedule.Schedule.stay_or_stop_after.Goals as goal

pub prove-unreachable-requires : goal.prove-unreachable-requires
prove-unreachable-requires c = omega (
  arith,
  (has_pass c.args.self.now.threads.items
      c.args.who c.args.self.now.pool c.args.self.now.is_locked c.args.self.now.is_manned
      c.args.self.now.is_queued c.requires.sound c.args.why c.requires.at).2,
)

pub returns-then-not-must_stop-clause-sound : goal.returns-then-not-must_stop-clause-sound
returns-then-not-must_stop-clause-sound c =
    stay_kept c.args.self.now.threads.items c.args.who c.args.self.now.pool
    c.args.self.now.is_locked c.args.self.now.is_manned c.args.self.now.is_queued c.requires.sound
    c.args.why c.is_rung.result c.requires.at c.is_rung.ensures.counts

pub index_mut-requires-2 : goal.index_mut-requires-2
index_mut-requires-2 c = let within : c.args.who < length c.args.self.now.threads.items =
    slice_get_within c.args.self.now.threads.items c.args.who (Waited c.args.why) c.requires.at in
    search rules

pub overflow_sub-self : goal.overflow_sub-self
overflow_sub-self c = (has_pass c.args.self.now.threads.items c.args.who c.args.self.now.pool
    c.args.self.now.is_locked c.args.self.now.is_manned c.args.self.now.is_queued c.requires.sound
    c.args.why c.requires.at).1

pub overflow_sub-self-2 : goal.overflow_sub-self-2
overflow_sub-self-2 c = (has_pass c.args.self.now.threads.items c.args.who c.args.self.now.pool
    c.args.self.now.is_locked c.args.self.now.is_manned c.args.self.now.is_queued c.requires.sound
    c.args.why c.requires.at).0

pub returns-clause-sound : goal.returns-clause-sound
returns-clause-sound c = stop_kept c.args.self.now.threads.items
    c.args.who c.args.self.now.pool c.args.self.now.is_locked c.args.self.now.is_manned
    c.args.self.now.is_queued c.requires.sound c.args.why c.bell_of_stop.result c.requires.at
    (c.bell_of_stop.ensures ∙ ap bell_of_stop c.has_job.ensures)
