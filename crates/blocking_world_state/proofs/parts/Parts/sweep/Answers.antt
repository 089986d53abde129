use Rattle.std.proofs.Common.{refl, sym}
use Rattle.blocking_world_pool.specs.Moves as crew
use Rattle.blocking_world_state.specs.contracts.parts.Parts.{the_view}
use Rattle.blocking_world_state.proofs.moves.Steps.{passes}
use Rattle.blocking_world_state.proofs.parts.Parts.sweep.Goals as goal

pub returns : goal.returns
returns g c = rw (sym c.self.view_is) (passes (g.S.Starter.may_answer c.args.starter.now)
    (the_view c.self.inside) crew.Sweep c.sweep.result c.sweep.new.self refl tt c.sweep.ensures)
