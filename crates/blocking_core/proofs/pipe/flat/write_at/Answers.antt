use Rattle.std.proofs.Common.{◌∙◌, sym, arith, rules}
use Rattle.std.proofs.lemmas.List.{places, same_lists}
use Rattle.blocking_core.specs.Flat.{written}
use Rattle.blocking_core.proofs.Flat.{written_behind}
use Rattle.blocking_core.proofs.pipe.flat.write_at.Goals as goal

pub returns-then-place-len-clause-items : goal.returns-then-place-len-clause-items
returns-then-place-len-clause-items c = c.in-Ok.ensures.items ∙ sym (written_behind c.args.place
    c.args.items.now c.args.bytes.now.items (omega (arith, c.args.bytes.now.ok.0)))

pub returns-clause-items : goal.returns-clause-items
unfolding written
returns-clause-items c = rw (c.deref_mut.ensures.value, c.copy_from_slice.ensures.after)
    (same_lists _ _ (search (rules, places)) (λ k d h. grind (arith, places)))
