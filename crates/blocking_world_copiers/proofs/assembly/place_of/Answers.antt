-- The first one is found.
use Rattle.std.proofs.Common.{refl, sym, ◌∙◌, length}
use Rattle.std.proofs.lemmas.Option.{slice_get_read}
use Rattle.blocking_world_copiers.specs.Copiers.{belongs}
use Rattle.blocking_world_copiers.proofs.Places.{first_here}
use Rattle.blocking_world_copiers.proofs.assembly.place_of.Goals as goal

pub returns-then-belongs : goal.returns-then-belongs
returns-then-belongs c =
    let all = c.args.copiers.now in
    let index = c.loop-copier.copier-index in
    let found = slice_get_read all (length all) index c.copier-item.result refl
    c.loop-copier-test.true c.copier-item.is in
    c.loop-copier.invariant.0
    ∙ sym (first_here (belongs c.args.owner) all index c.copier-item.result
    c.loop-copier.invariant.1 found (sym c.belongs.ensures ∙ c.if-belongs.true))
