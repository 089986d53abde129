use Rattle.std.proofs.Common.{rules, length, ◌<◌}
use Rattle.std.proofs.lemmas.Option.{slice_get_within}
use Rattle.blocking_schedule.specs.declared.place.Place.TheVariants.{Woken}
use Rattle.blocking_schedule.proofs.Workers.{be_late_kept}
use Rattle.blocking_schedule.proofs.schedule.Schedule.be_late.Goals as goal

pub index_mut-requires : goal.index_mut-requires
index_mut-requires c = let within : c.args.who < length c.args.self.now.threads.items =
    slice_get_within c.args.self.now.threads.items c.args.who (Woken c.args.why) c.requires.at in
    search rules

pub returns-clause-sound : goal.returns-clause-sound
returns-clause-sound c = be_late_kept c.args.self.now.threads.items c.args.who c.args.self.now.pool
    c.args.self.now.is_locked c.args.self.now.is_manned c.args.self.now.is_queued c.requires.sound
    c.args.why c.late.result c.requires.at c.late.ensures.chosen
