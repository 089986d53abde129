-- Copiers' steps have no action here.
use Rattle.std.proofs.Common.{refl, sym}
use Rattle.blocking_world_state.proofs.Types.{Copy, Link}
use Rattle.blocking_world_state.specs.contracts.parts.Parts.{the_view}
use Rattle.blocking_world_state.proofs.moves.Steps.{idles}
use Rattle.blocking_world_state.proofs.parts.Parts.take_step.Goals as goal

pub returns-in-Link-clause-ok : goal.returns-in-Link-clause-ok
returns-in-Link-clause-ok g c =
    rw (sym c.self.view_is)
    (idles (g.S.Starter.may_answer c.args.starter.now) (the_view c.self.inside)
    (Link c.in-Link._reader c.in-Link._writer c.in-Link._piece) _ c.nothing.result
    c.in-Link.is refl c.nothing.ensures.event)

pub returns-in-Copy-clause-ok : goal.returns-in-Copy-clause-ok
returns-in-Copy-clause-ok g c =
    rw (sym c.self-in-Copy.view_is)
    (idles (g.S.Starter.may_answer c.args.starter.now) (the_view c.self-in-Copy.inside)
    (Copy c.in-Copy._copier) _ c.nothing-in-Copy.result c.in-Copy.is refl
    c.nothing-in-Copy.ensures.event)
