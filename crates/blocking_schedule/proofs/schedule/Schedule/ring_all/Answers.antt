use Rattle.std.proofs.Common.{◌≡◌, ◌∙◌, ◌++◌, sym, ap, map, take, drop, length}
use Rattle.std.proofs.lemmas.List.{length-map}
use Rattle.blocking_schedule.specs.Places.{woken_from}
use Rattle.blocking_schedule.proofs.Moves.{refilled}
use Rattle.blocking_schedule.proofs.Bells.{all_kept}
use Rattle.blocking_schedule.proofs.schedule.Schedule.ring_all.Goals as goal

pub returns-clause-sound : goal.returns-clause-sound
returns-clause-sound c =
    let items = c.args.self.now.threads.items in
    let woken : c.wake_all.new.threads ≡ map woken_from items =
    c.wake_all.ensures ∙ ap (map woken_from) c.deref_mut.ensures.value in
    let long : length c.wake_all.new.threads ≡ c.args.self.now.threads.len =
    ap length woken ∙ length-map items woken_from ∙ sym c.args.self.now.threads.ok.0 in
    let whole = refilled c.args.self.now.threads.len c.wake_all.new.threads
    (drop (length c.wake_all.new.threads) items) long in
    all_kept c.args.self.now.threads.items
    c.args.who c.args.self.now.pool c.args.self.now.is_locked c.args.self.now.is_manned
    c.args.self.now.is_queued c.requires.sound (take c.args.self.now.threads.len
    (c.wake_all.new.threads ++ drop (length c.wake_all.new.threads) items)) c.args.next
    c.place_after.result c.place_after.ensures (whole ∙ woken) c.requires.at
