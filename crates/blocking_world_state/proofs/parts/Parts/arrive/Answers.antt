use Rattle.std.proofs.Common.{refl, sym}
use Rattle.blocking_world_state.proofs.Words.{NeverAsked}
use Rattle.blocking_world_pool.specs.Moves as crew
use Rattle.blocking_world_state.specs.contracts.parts.Parts.{the_view}
use Rattle.blocking_world_state.proofs.moves.Steps.{passes, ok_map}
use Rattle.blocking_world_state.proofs.parts.Parts.arrive.Goals as goal

pub returns-clause-ok : goal.returns-clause-ok
returns-clause-ok c =
    rw (sym c.self.view_is)
    (ok_map c.arrive.result _ _ (λ e does. passes NeverAsked (the_view c.self.inside)
    crew.Arrive e c.arrive.new.self refl tt does) c.arrive.ensures.ok)
