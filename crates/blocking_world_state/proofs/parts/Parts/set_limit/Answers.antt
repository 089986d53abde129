use Rattle.std.proofs.Common.{refl, sym}
use Rattle.blocking_world_state.proofs.Words.{NeverAsked}
use Rattle.blocking_world_pool.specs.Moves as crew
use Rattle.blocking_world_state.specs.contracts.parts.Parts.{the_view}
use Rattle.blocking_world_state.proofs.moves.Steps.{passes}
use Rattle.blocking_world_state.proofs.parts.Parts.set_limit.Goals as goal

pub returns : goal.returns
returns c =
    rw (sym c.self.view_is) (passes NeverAsked (the_view c.self.inside) (crew.SetLimit c.args.limit)
    c.set_limit.result c.set_limit.new.self refl tt c.set_limit.ensures)
