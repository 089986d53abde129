-- The copier of this number is gone.
use Rattle.std.proofs.Common.{◌≡◌, ◌<◌, refl, sym, ap, ◌∙◌, length, remove, subst}
use Rattle.std.specs.List.{position_or_len}
use Rattle.blocking_world_laws.specs.declared.step.Step.TheVariants.{Copy}
use Rattle.blocking_world_copiers.specs.Assemblies.{Assembled}
use Rattle.blocking_world_copiers.specs.Copiers.{has_number}
use Rattle.blocking_world_copiers.specs.contracts.assembly.Assembly.{the_view}
use Rattle.blocking_world_copiers.proofs.Places.{removed_is}
use Rattle.blocking_world_copiers.proofs.assembly.Assembly.end.Goals as goal

pub returns : goal.returns
returns c =
    let w = the_view c.self.inside in
    let first : c.args.place ≡ position_or_len (has_number c.args.number) w.copiers =
    c.requires.first ∙ sym (ap (λ (v : Assembled).
    position_or_len (has_number c.args.number) v.copiers) c.self.view_is) in
    let within : c.args.place < length w.copiers =
    subst (λ (v : Assembled). c.args.place < length v.copiers) (sym c.self.view_is)
    c.requires.there in
    rw (sym c.self.view_is)
    (record {
      moves = c.note.ensures (Copy c.args.number);
      copiers = c.remove-told.ensures.items ∙ ap (remove w.copiers) first
          ∙ removed_is c.args.number w.copiers (subst (λ n. n < length w.copiers) first within);
      made = refl;
    })
