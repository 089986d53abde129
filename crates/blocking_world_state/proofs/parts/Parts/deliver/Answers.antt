use Rattle.std.proofs.Common.{subst, sym, length, ◌<◌}
use Rattle.blocking_world_state.proofs.Words.{Parts}
use Rattle.blocking_world_state.specs.contracts.parts.Parts.{the_view}
use Rattle.blocking_world_state.proofs.moves.Steps.{delivered}
use Rattle.blocking_world_state.proofs.parts.Parts.deliver.Goals as goal

pub returns : goal.returns
returns g c =
    let within : c.args.place < length (the_view c.self.inside).owners = subst
    (λ (p : Parts). c.args.place < length p.owners) (sym c.self.view_is) c.requires.there in
    rw (sym c.self.view_is)
    (delivered (g.S.Starter.may_answer c.args.starter.now) (the_view c.self.inside) c.args.place
    c.index_mut.result.now c.deliver.new.self c.in-Some.note c.wake.result c.wake.new.self
    within c.index_mut.ensures.value c.in-Some.ensures.note
    c.in-Some.ensures.after c.wake.ensures)
