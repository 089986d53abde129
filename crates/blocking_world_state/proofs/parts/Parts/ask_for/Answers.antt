use Rattle.std.proofs.Common.{refl, subst, sym, ap, ◌∙◌, arith, slice_get}
use Rattle.blocking_world_state.proofs.Types.{Asked, ByOwner}
use Rattle.blocking_world_state.proofs.Words.{NeverAsked, may_ask_in, Parts}
use Rattle.blocking_world_pool.specs.Moves as crew
use Rattle.blocking_world_state.specs.contracts.parts.Parts.{the_view}
use Rattle.blocking_world_state.proofs.moves.Lookups.{within_by}
use Rattle.blocking_world_state.proofs.moves.Steps.{copier_asks}
use Rattle.blocking_world_state.proofs.parts.Parts.ask_for.Goals as goal

pub index_mut-requires : goal.index_mut-requires
index_mut-requires c =
    let may =
    ap (λ (p : Parts). may_ask_in (slice_get p.owners c.args.place) c.args.call) c.self.view_is
    ∙ c.requires in
    let within = within_by (λ o. may_ask_in o c.args.call) refl (the_view c.self.inside).owners
    c.args.place may in
    let len = c.self.inside.owners.ok.0 in
    omega (arith, within, len)

pub returns-clause-ok : goal.returns-clause-ok
returns-clause-ok c =
    let may =
    ap (λ (p : Parts). may_ask_in (slice_get p.owners c.args.place) c.args.call) c.self.view_is
    ∙ c.requires in
    rw (sym c.self.view_is)
    (copier_asks (the_view c.self.inside) c.args.copier c.args.place c.args.call
    c.index_mut.result.now c.ask.new.self c.tell.result may c.index_mut.ensures.value
    c.ask.ensures
    (subst (λ call. crew.Moves NeverAsked (crew.Tell (ByOwner c.args.place) (Asked call))
    c.self.inside.crew c.tell.result c.self.inside.crew) c.in_ok-told.ensures.same
    c.tell.ensures))
