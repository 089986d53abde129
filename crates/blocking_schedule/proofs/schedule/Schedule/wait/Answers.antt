use Rattle.std.proofs.Common.{arith, rules, length, ◌<◌}
use Rattle.std.proofs.lemmas.Option.{slice_get_within}
use Rattle.blocking_schedule.proofs.Numbers.{no_job}
use Rattle.blocking_schedule.specs.declared.place.Place.TheVariants.{Looked}
use Rattle.blocking_schedule.proofs.Workers.{sleep_kept, awake_kept}
use Rattle.blocking_schedule.proofs.schedule.Schedule.wait.Goals as goal

pub returns-then-self-2-clause-sound : goal.returns-then-self-2-clause-sound
returns-then-self-2-clause-sound c = sleep_kept c.args.self.now.threads.items
    c.args.who c.args.self.now.pool c.args.self.now.is_locked c.args.self.now.is_manned
    c.args.self.now.is_queued c.requires c.in-Some-Looked.claimed (cc) c.if-self.false
    (no_job c.args.self.now.pool (cc)).0 (no_job c.args.self.now.pool (cc)).1 (omega arith)

pub index_mut-requires-2 : goal.index_mut-requires-2
index_mut-requires-2 c = let within : c.args.who < length c.args.self.now.threads.items =
    slice_get_within c.args.self.now.threads.items c.args.who (Looked c.in-Some-Looked.claimed)
    (cc) in search rules

pub returns-clause-sound : goal.returns-clause-sound
returns-clause-sound c = awake_kept c.args.self.now.threads.items c.args.who c.args.self.now.pool
    c.args.self.now.is_locked c.args.self.now.is_manned c.args.self.now.is_queued c.requires
    c.in-Some-Looked.claimed c.waking_of.result (cc) c.if-self.false c.waking_of.ensures.chosen
