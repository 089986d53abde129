use Rattle.std.proofs.Common.{refl, sym}
use Rattle.blocking_world_pool.specs.Moves as crew
use Rattle.blocking_world_state.specs.contracts.parts.Parts.{the_view}
use Rattle.blocking_world_state.proofs.moves.Steps.{passes}
use Rattle.blocking_world_state.proofs.parts.Parts.wait.Goals as goal

pub returns : goal.returns
returns g c = rw (sym c.self.view_is)
    (passes (g.S.Starter.may_answer c.args.starter.now) (the_view c.self.inside)
    (crew.Wait c.args.worker c.args.end) c.wait.result c.wait.new.self refl tt c.wait.ensures)
