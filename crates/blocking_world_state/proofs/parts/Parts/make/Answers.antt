use Rattle.std.proofs.Common.{sym, ap, ◌∙◌, ◌≡◌, ◌++◌, ◌∷◌, [], arith, length, subst}
use Rattle.blocking_world_state.proofs.Types.{Made, ByOwner}
use Rattle.blocking_world_state.proofs.Words.{NeverAsked}
use Rattle.blocking_world_pool.specs.Moves as crew
use Rattle.blocking_world_state.specs.contracts.parts.Parts.{the_view}
use Rattle.blocking_world_state.proofs.moves.Steps.{made}
use Rattle.blocking_world_state.proofs.parts.Parts.make.Goals as goal

pub returns-clause-ok : goal.returns-clause-ok
returns-clause-ok c =
    let w = the_view c.self.inside in
    let told = c.len-place.ensures in
    let len = c.reserve.new.self.ok.0 in
    let kept = ap length c.reserve.ensures.items in
    let many : c.len-place.result ≡ length w.owners = omega (arith, told, len, kept) in
    rw (sym c.self.view_is)
    (made w c.args.capacity c.args.client c.push.new.self.items c.tell.result
    (c.in-Ok.ensures.items ∙ ap (λ l. l ++ c.new.result ∷ []) c.reserve.ensures.items
    ∙ ap (λ o. w.owners ++ o ∷ []) c.new.ensures)
    (subst (λ n. crew.Moves NeverAsked (crew.Tell (ByOwner n) (Made n c.args.capacity)) w.crew
    c.tell.result w.crew) many c.tell.ensures))
