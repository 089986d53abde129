use Rattle.std.proofs.Common.{◌≡◌, ◌<◌, length, get_or, sym, arith}
use Rattle.std.proofs.lemmas.List.Edits.{map_over_more}
use Rattle.std.proofs.lemmas.Option.{slice_get-get_or, get_or_from_slice_get}
use Rattle.blocking_schedule.specs.declared.place.Place.TheVariants.{Outside}
use Rattle.blocking_schedule.specs.Places.{woken_from}
use Rattle.blocking_schedule.proofs.place.wake_all.Goals as goal

pub loop-place-preserved : goal.loop-place-preserved
loop-place-preserved c =
    let here = get_or c.loop-place.threads c.loop-place.place-index Outside in
    let within : c.loop-place.place-index < length c.loop-place.threads = omega arith in
    let read : get_or c.loop-place.threads c.loop-place.place-index here ≡ here =
    get_or_from_slice_get c.loop-place.threads c.loop-place.place-index here here
    (slice_get-get_or c.loop-place.threads c.loop-place.place-index Outside within) in
    rw c.woken.ensures (map_over_more woken_from c.args.threads.now c.loop-place.threads
    c.loop-place.place-index here c.loop-place-test.true c.loop-place.invariant (sym read))
