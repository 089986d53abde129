-- One more action of the actor was taken, which is an event more.
use Rattle.std.proofs.Common.{◌≡◌, ◌∙◌, arith, sym, true}
use Rattle.blk_commands.specs.Plays.{has_next, step_of}
use Rattle.blk_commands.proofs.PlayLemmas.{one_event_more, takes_next}
use Rattle.blk_commands.proofs.steps.take_all.Goals as goal

pub loop-alloc-preserved : goal.loop-alloc-preserved
loop-alloc-preserved c =
    let action : has_next c.args.actor c.loop-alloc.world.history.past ≡ true =
    sym c.has_next.ensures ∙ c.loop-alloc-test.true in
    takes_next c.args.actor c.args.world.now.history c.loop-alloc.world.history
    c.act-in-loop-alloc.new.world.history c.args.events.now.items c.loop-alloc.events.items
    c.act-in-loop-alloc.new.events.items c.loop-alloc.invariant action c.in_ok-act-2.ensures

pub loop-alloc-smaller : goal.loop-alloc-smaller
loop-alloc-smaller c =
    let more = one_event_more (step_of c.args.actor) c.loop-alloc.world.history
    c.act-in-loop-alloc.new.world.history c.loop-alloc.events.items
    c.act-in-loop-alloc.new.events.items c.in_ok-act-2.ensures in
    omega (arith, more, c.loop-alloc.events.ok.0, c.act-in-loop-alloc.new.events.ok.0)
