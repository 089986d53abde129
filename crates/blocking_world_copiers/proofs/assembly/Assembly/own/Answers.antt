-- An owner that is lent to nobody.
use Rattle.std.proofs.Common.{refl, sym, ap, ◌∙◌, arith}
use Rattle.std.proofs.lemmas.Bool.Decides.{nat_tests}
use Rattle.std.specs.List.{position_or_len}
use Rattle.blocking_world_state.proofs.moves.Steps.{ok_map}
use Rattle.blocking_world_copiers.specs.Copiers.{belongs}
use Rattle.blocking_world_copiers.specs.contracts.assembly.Assembly.{the_view}
use Rattle.blocking_world_copiers.proofs.Steps.{unheard}
use Rattle.blocking_world_copiers.proofs.assembly.Assembly.own.Goals as goal

pub returns-clause-ok : goal.returns-clause-ok
returns-clause-ok g c =
    let w = the_view c.self.inside in
    let at = c.place_of-place.ensures
    ∙ ap (position_or_len (belongs c.args.owner)) c.deref.ensures.value in
    let len = c.len.ensures in
    let ok = c.self.inside.copiers.ok.0 in
    let not_less = c.if-place-len.false in
    rw (sym c.self.view_is)
    (ok_map c.step.result _ _ (λ e does. record {
      steps = does;
      copiers = unheard c.args.owner
          e.act w.copiers c.place_of-place.result at (grind (arith, nat_tests));
      made = refl;
    })
    c.step.ensures.ok)
