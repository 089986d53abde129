use Rattle.std.proofs.Common.{refl, sym, ap, ◌∙◌, arith, slice_get}
use Rattle.blocking_world_state.proofs.Types.{DropOwner}
use Rattle.blocking_world_state.proofs.Words.{NeverAsked, rests_in, Parts}
use Rattle.blocking_world_state.specs.contracts.parts.Parts.{the_view}
use Rattle.blocking_world_state.proofs.moves.Lookups.{within_by}
use Rattle.blocking_world_state.proofs.moves.Steps.{idles, dropped}
use Rattle.blocking_world_state.proofs.parts.Parts.drop_owner.Goals as goal

pub returns-then-not-rests : goal.returns-then-not-rests
returns-then-not-rests c =
    let none = ap (λ (p : Parts). rests_in (slice_get p.owners c.args.place)) c.self.view_is
    ∙ sym c.if-not-rests.ensures in
    rw (sym c.self.view_is) (idles NeverAsked (the_view c.self.inside) (DropOwner c.args.place) _
    c.nothing.result refl none c.nothing.ensures.event)

pub index_mut-owner-requires : goal.index_mut-owner-requires
index_mut-owner-requires c =
    let some = ap (λ (p : Parts). rests_in (slice_get p.owners c.args.place)) c.self.view_is
    ∙ sym c.if-not-rests.ensures in
    let within = within_by rests_in refl (the_view c.self.inside).owners c.args.place some in
    let len = c.self.inside.owners.ok.0 in
    omega (arith, within, len)

pub returns : goal.returns
returns c =
    let some = ap (λ (p : Parts). rests_in (slice_get p.owners c.args.place)) c.self.view_is
    ∙ sym c.if-not-rests.ensures in
    rw (sym c.self.view_is)
    (dropped (the_view c.self.inside) c.args.place c.index_mut-owner.result.now
    c.release.new.self c.number-number.result c.let_go.result c.let_go.new.self some
    c.index_mut-owner.ensures.value c.release.ensures c.number-number.ensures
    c.let_go.ensures)
