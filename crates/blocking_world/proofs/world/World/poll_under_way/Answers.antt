use Rattle.std.proofs.Common.{◌∙◌, ap, reverse, slice_get, sym}
use Rattle.blocking_world_state.specs.Carried.{polls_in}
use Rattle.blocking_world_state.specs.Parts.{Parts}
use Rattle.blocking_world_copiers.proofs.Readings.{polls_is}
use Rattle.blocking_world.proofs.world.World.poll_under_way.Goals as goal

-- an owner is polled where it was seen to be
pub returns : goal.returns
returns c =
    rw (sym c.self.view_is)
    (c.polls.ensures
    ∙ ap (λ (w : Parts). polls_in (slice_get w.owners c.args.owner)) c.parts.ensures
    ∙ polls_is c.self.inside.assembly.parts.crew.pool.counts.setting c.self.inside.plan.items
    c.self.inside.assembly (reverse c.self.inside.trace.items) c.self.invariant c.args.owner)
