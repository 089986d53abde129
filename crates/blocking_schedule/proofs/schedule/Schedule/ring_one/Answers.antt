use Rattle.std.proofs.Common.{◌≡◌, ◌<◌, ap, sym, ◌∙◌, arith, rules, length, set}
use Rattle.std.proofs.lemmas.Option.{slice_get_within}
use Rattle.blocking_pool.specs.declared.pool.bell.BellKind.TheVariants.{One}
use Rattle.blocking_schedule.specs.declared.place.Place.TheVariants.{Sleeping, Woken, Ringing}
use Rattle.blocking_schedule.specs.declared.place.Waking.TheVariants.{Rung}
use Rattle.blocking_schedule.specs.Places.{sleepers, place_of}
use Rattle.blocking_schedule.proofs.Moves.{moved}
use Rattle.blocking_schedule.proofs.Bells.{woken_kept, lost_kept}
use Rattle.blocking_schedule.proofs.schedule.Schedule.ring_one.Goals as goal

pub returns-in-Some-Sleeping-clause-sound : goal.returns-in-Some-Sleeping-clause-sound
returns-in-Some-Sleeping-clause-sound c =
    woken_kept c.args.self.now.threads.items c.args.who c.args.self.now.pool
    c.args.self.now.is_locked c.args.self.now.is_manned c.args.self.now.is_queued c.requires.sound
    c.args.woken c.args.next c.place_after.result c.place_after.ensures c.requires.at (cc)

pub returns-clause-sound : goal.returns-clause-sound
returns-clause-sound c = lost_kept c.args.self.now.threads.items c.args.who c.args.self.now.pool
    c.args.self.now.is_locked c.args.self.now.is_manned c.args.self.now.is_queued c.requires.sound
    c.args.next c.place_after-2.result c.place_after-2.ensures c.requires.at (ap sleepers
    (sym c.deref.ensures.value) ∙ c.someone_sleeps.ensures.nobody c.if-someone_sleeps.false)

pub returns-in-Some-Sleeping-clause-rings : goal.returns-in-Some-Sleeping-clause-rings
returns-in-Some-Sleeping-clause-rings c =
    record {
      leads = λ next sleeps at.
          let same : c.args.next ≡ next = cc in
          ap (λ to. set (set c.args.self.now.threads.items c.args.woken (Woken Rung)) c.args.who to)
          (c.place_after.ensures ∙ ap place_of same);
      lost = λ next nobody at. let m =
          moved c.args.self.now.threads.items c.args.woken Sleeping (Woken Rung) (cc) in
          absurd (omega arith);
      others = λ next some sleeps at. absurd (sleeps (cc));
    }

pub index_mut-requires-2 : goal.index_mut-requires-2
index_mut-requires-2 c = let within : c.args.who < length c.args.self.now.threads.items =
    slice_get_within c.args.self.now.threads.items c.args.who (Ringing One c.args.next)
    c.requires.at in search rules
