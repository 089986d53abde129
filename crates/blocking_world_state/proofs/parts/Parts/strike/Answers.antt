use Rattle.std.proofs.Common.{refl, sym, ap, ◌∙◌}
use Rattle.blocking_world_state.proofs.Types.{Strike}
use Rattle.blocking_world_state.proofs.Words.{Parts, row_of, let_go_of, let_go_by}
use Rattle.blocking_world_state.specs.contracts.parts.Parts.{the_view}
use Rattle.blocking_world_state.proofs.moves.Steps.{idles, struck}
use Rattle.blocking_world_state.proofs.parts.Parts.strike.Goals as goal

pub returns-in_default : goal.returns-in_default
returns-in_default g c =
    let found =
    ap (λ (p : Parts). row_of p.rows c.args.serial) c.self.view_is ∙ sym c.in_default.ensures in
    rw (sym c.self.view_is)
    (idles (g.S.Starter.may_answer c.args.starter.now)
    (the_view c.self.inside) (Strike c.args.serial) _ c.nothing.result refl
    (ap (let_go_by (the_view c.self.inside)) found) c.nothing.ensures.event)

pub returns-then-not-has_let_go : goal.returns-then-not-has_let_go
returns-then-not-has_let_go g c =
    let w = the_view c.self.inside in
    let found =
    ap (λ (p : Parts). row_of p.rows c.args.serial) c.self.view_is ∙ sym c.in-Some.ensures in
    let none = ap (λ (p : Parts). let_go_of p c.in-Some.row.now.core) c.self.view_is
    ∙ sym c.if-not-has_let_go.ensures in
    rw (sym c.self.view_is)
    (idles (g.S.Starter.may_answer c.args.starter.now) w (Strike c.args.serial) _
    c.nothing-then-not-has_let_go.result refl (ap (let_go_by w) found ∙ none)
    c.nothing-then-not-has_let_go.ensures.event)

pub returns : goal.returns
returns g c =
    let w = the_view c.self.inside in
    let found =
    ap (λ (p : Parts). row_of p.rows c.args.serial) c.self.view_is ∙ sym c.in-Some.ensures in
    let some = ap (λ (p : Parts). let_go_of p c.in-Some.row.now.core) c.self.view_is
    ∙ sym c.if-not-has_let_go.ensures in
    rw (sym c.self.view_is) (struck (g.S.Starter.may_answer c.args.starter.now) w c.args.serial
    c.in-Some.row.now c.cancel.result c.cancel.new.self found some c.cancel.ensures)
