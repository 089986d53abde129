use Rattle.std.proofs.Common.{arith, rules, length, ◌<◌}
use Rattle.std.proofs.lemmas.Option.{slice_get_within}
use Rattle.blocking_schedule.specs.declared.place.Place.TheVariants.{Passing}
use Rattle.blocking_schedule.proofs.Workers.{idle_kept, take_rung_kept, take_swept_kept}
use Rattle.blocking_schedule.proofs.Workers.{has_pass_passing}
use Rattle.blocking_schedule.proofs.schedule.Schedule.take.Goals as goal

pub prove-unreachable-requires : goal.prove-unreachable-requires
prove-unreachable-requires c =
    omega (
      arith,
      (has_pass_passing c.args.self.now.threads.items c.args.who c.args.self.now.pool
          c.args.self.now.is_locked c.args.self.now.is_manned c.args.self.now.is_queued c.requires
          c.in-Some-Passing.field-0-0 c.in-Some-Passing.bell (cc)).2,
    )

pub overflow_sub-self : goal.overflow_sub-self
overflow_sub-self c =
    (has_pass_passing c.args.self.now.threads.items c.args.who c.args.self.now.pool
    c.args.self.now.is_locked c.args.self.now.is_manned c.args.self.now.is_queued c.requires
    c.in-Some-Passing.field-0-0 c.in-Some-Passing.bell (cc)).0

pub overflow_sub-self-in-Some-Swept : goal.overflow_sub-self-in-Some-Swept
overflow_sub-self-in-Some-Swept c =
    (has_pass_passing c.args.self.now.threads.items c.args.who c.args.self.now.pool
    c.args.self.now.is_locked c.args.self.now.is_manned c.args.self.now.is_queued c.requires
    c.in-Some-Passing.field-0-0 c.in-Some-Passing.bell (cc)).0

pub index_mut-requires-in-Some-Swept : goal.index_mut-requires-in-Some-Swept
index_mut-requires-in-Some-Swept c = let within : c.args.who
    < length c.args.self.now.threads.items = slice_get_within c.args.self.now.threads.items
    c.args.who (Passing c.in-Some-Passing.field-0-0 c.in-Some-Passing.bell) (cc) in search rules

pub returns-in-None-clause-sound : goal.returns-in-None-clause-sound
returns-in-None-clause-sound c = idle_kept c.args.self.now.threads.items
    c.args.who c.args.self.now.pool c.args.self.now.is_locked c.args.self.now.is_manned
    c.args.self.now.is_queued c.requires c.in-Some-Passing.field-0-0 c.in-Some-Passing.bell (cc)
    c.in-None.ensures.queued.0 c.in-None.ensures.queued.1

pub returns-in-Some-Rung-clause-sound : goal.returns-in-Some-Rung-clause-sound
returns-in-Some-Rung-clause-sound c = take_rung_kept c.args.self.now.threads.items
    c.args.who c.args.self.now.pool c.args.self.now.is_locked c.args.self.now.is_manned
    c.args.self.now.is_queued c.requires c.in-Some-Passing.field-0-0 c.in-Some-Passing.bell (cc)
    (rw c.in-Some-Rung.field-0-is at c.in-Some-Rung.ensures.queued)

pub returns-in-Some-Swept-clause-sound : goal.returns-in-Some-Swept-clause-sound
returns-in-Some-Swept-clause-sound c = take_swept_kept c.args.self.now.threads.items
    c.args.who c.args.self.now.pool c.args.self.now.is_locked c.args.self.now.is_manned
    c.args.self.now.is_queued c.requires c.in-Some-Passing.field-0-0 c.in-Some-Passing.bell (cc)
    (rw c.in-Some-Swept.field-0-is at c.in-Some-Swept.ensures.queued)
