use Rattle.std.proofs.Common.{refl, sym, ap, ◌∙◌, subst, is_some}
use Rattle.blocking_world_state.proofs.Types.{Pool, Stray}
use Rattle.blocking_world_state.proofs.Words.{Parts, row_of}
use Rattle.blocking_world_pool.specs.Moves as crew
use Rattle.blocking_world_state.specs.contracts.parts.Parts.{the_view}
use Rattle.blocking_world_state.proofs.moves.Steps.{idles, woken}
use Rattle.blocking_world_state.proofs.parts.Parts.stray.Goals as goal

pub returns-in_default : goal.returns-in_default
returns-in_default g c =
    let found =
    ap (λ (p : Parts). row_of p.rows c.args.serial) c.self.view_is ∙ sym c.in_default.ensures in
    rw (sym c.self.view_is)
    (idles (g.S.Starter.may_answer c.args.starter.now) (the_view c.self.inside)
    (Stray c.args.serial) _ c.nothing.result refl (ap is_some found) c.nothing.ensures.event)

pub returns : goal.returns
returns g c =
    let found =
    ap (λ (p : Parts). row_of p.rows c.args.serial) c.self.view_is ∙ sym c.in-Some.ensures in
    rw (sym c.self.view_is) (woken (g.S.Starter.may_answer c.args.starter.now)
    (the_view c.self.inside) c.args.serial c.in-Some.row.now c.wake.result
    c.wake.new.self found (subst (λ n. crew.Moves (g.S.Starter.may_answer c.args.starter.now)
    (crew.Wake Pool n) (the_view c.self.inside).crew c.wake.result c.wake.new.self)
    c.new-note.ensures c.wake.ensures))
