use Rattle.std.proofs.Common.{slice_index_or, arith}
use Rattle.std.proofs.lemmas.List.Elements.{AllWithin-more_set}
use Rattle.std.proofs.lemmas.Option.{slice_get-get_or}
use Rattle.blocking_world_pool.proofs.closing.Hands.{runs_at, HoldsNone, ended_holds_none}
use Rattle.blocking_world_pool.proofs.closing.Hands.{still_ready, all_idle}
use Rattle.blocking_world_pool.proofs.workers.end_turns.Goals as goal

pub loop-place-init : goal.loop-place-init
loop-place-init c = (c.requires, λ n hand first early. absurd (omega (arith, early)))

pub end_turn-requires : goal.end_turn-requires
end_turn-requires c =
    let lengths = c.loop-place.auto.hands in
    let within = c.loop-place-test.true in
    runs_at c.loop-place.tickets c.loop-place.hands c.loop-place.place (slice_index_or
    c.loop-place.hands c.loop-place.place c.index-hands-place.result) c.loop-place.invariant.0
    (slice_get-get_or c.loop-place.hands c.loop-place.place c.index-hands-place.result
    (omega (arith, lengths, within)))

pub loop-place-preserved : goal.loop-place-preserved
loop-place-preserved c =
    let lengths = c.loop-place.auto.hands in
    let within = c.loop-place-test.true in
    let hand = slice_index_or c.loop-place.hands c.loop-place.place c.index-hands-place.result in
    let found = slice_get-get_or c.loop-place.hands c.loop-place.place c.index-hands-place.result
    (omega (arith, lengths, within)) in (
      still_ready c.loop-place.tickets c.end_turn.new.tickets c.loop-place.hands c.loop-place.place
          hand c.end_turn.new.self c.loop-place.invariant.0 found c.end_turn.ensures,
      AllWithin-more_set c.loop-place.hands c.loop-place.place c.end_turn.new.self
          (omega (arith, lengths, within)) HoldsNone c.loop-place.invariant.1
          (ended_holds_none hand c.end_turn.new.self c.loop-place.tickets c.end_turn.new.tickets
          c.end_turn.ensures),
    )

pub returns : goal.returns
returns c =
    let lengths = c.loop-place.auto.hands in
    let bound = c.loop-place.auto.place-end in
    let past = c.loop-place-test.false in
    all_idle c.loop-place.tickets c.loop-place.hands c.loop-place.invariant.0
    (λ n hand first early.
    c.loop-place.invariant.1 n hand first (omega (arith, early, lengths, bound, past)))
