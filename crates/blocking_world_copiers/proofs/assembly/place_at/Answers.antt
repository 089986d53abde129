-- The first one is found.
use Rattle.std.proofs.Common.{refl, sym, ◌∙◌, length}
use Rattle.std.proofs.lemmas.Option.{slice_get_read}
use Rattle.blocking_world_copiers.specs.Copiers.{has_number}
use Rattle.blocking_world_copiers.proofs.Places.{first_here}
use Rattle.blocking_world_copiers.proofs.assembly.place_at.Goals as goal

pub returns-then-has_number : goal.returns-then-has_number
returns-then-has_number c =
    let all = c.args.copiers.now in
    let index = c.loop-copier.copier-index in
    let found = slice_get_read all (length all) index c.copier-item.result refl
    c.loop-copier-test.true c.copier-item.is in
    c.loop-copier.invariant.0
    ∙ sym (first_here (has_number c.args.number) all index c.copier-item.result
    c.loop-copier.invariant.1 found (sym c.has_number.ensures ∙ c.if-has_number.true))
