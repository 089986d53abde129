-- The copier of this number takes its step, if it is there.
use Rattle.std.proofs.Common.{sym, ap, ◌∙◌, length, arith, ◌<◌}
use Rattle.std.proofs.lemmas.Bool.Decides.{nat_tests}
use Rattle.std.specs.List.{position_or_len}
use Rattle.blocking_world_laws.specs.declared.step.Step.TheVariants.{Copy}
use Rattle.blocking_world_state.proofs.moves.Steps.{ok_map}
use Rattle.blocking_world_copiers.specs.Assemblies.{Assembled}
use Rattle.blocking_world_copiers.specs.Copiers.{has_number}
use Rattle.blocking_world_copiers.specs.contracts.assembly.Assembly.{the_view}
use Rattle.blocking_world_copiers.proofs.Steps.{copied_at, no_copier, copied_none}
use Rattle.blocking_world_copiers.proofs.assembly.Assembly.copy.Goals as goal

pub returns-then-place-len-clause-ok : goal.returns-then-place-len-clause-ok
returns-then-place-len-clause-ok c =
    let at = c.place_at-place.ensures ∙ ap (position_or_len (has_number c.args.number))
    (c.deref.ensures.value ∙ ap (λ (v : Assembled). v.copiers) c.self.view_is) in
    let len = c.len.ensures in
    let ok = c.self.inside.copiers.ok.0 in
    let same = ap (λ (v : Assembled). length v.copiers) c.self.view_is in
    let less = c.if-place-len.true in
    let within : c.place_at-place.result < length c.args.self.now.copiers =
    grind (arith, nat_tests) in
    ok_map c.copy_at.result _ _ (λ e does. copied_at c.args.number c.args.self.now e
    c.copy_at.new.self c.place_at-place.result at within does) c.copy_at.ensures.ok

pub returns-clause-ok : goal.returns-clause-ok
returns-clause-ok c =
    let at = c.place_at-place.ensures
    ∙ ap (position_or_len (has_number c.args.number)) c.deref.ensures.value in
    let len = c.len.ensures in
    let ok = c.self.inside.copiers.ok.0 in
    let not_less = c.if-place-len.false in
    rw (sym c.self.view_is)
    (copied_none c.args.number (the_view c.self.inside) c.note.result (no_copier c.args.number
    (the_view c.self.inside) c.place_at-place.result at (grind (arith, nat_tests)))
    (c.note.ensures (Copy c.args.number)))
