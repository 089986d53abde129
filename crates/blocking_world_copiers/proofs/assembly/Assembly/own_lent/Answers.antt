-- The copier hears what its owner did.
use Rattle.std.proofs.Common.{refl, sym, ap, ◌∙◌, subst, length, ◌<◌}
use Rattle.std.specs.List.{position_or_len}
use Rattle.blocking_world_copiers.specs.Assemblies.{Assembled}
use Rattle.blocking_world_copiers.specs.Copiers.{belongs}
use Rattle.blocking_world_copiers.specs.contracts.assembly.Assembly.{the_view}
use Rattle.blocking_world_copiers.proofs.Steps.{heard_at}
use Rattle.blocking_world_copiers.proofs.assembly.Assembly.own_lent.Goals as goal

pub returns-clause-ok : goal.returns-clause-ok
returns-clause-ok g c =
    let w = the_view c.self.inside in
    let first = c.requires.first ∙ sym
    (ap (λ (v : Assembled). position_or_len (belongs c.args.owner) v.copiers) c.self.view_is) in
    let within : c.args.place < length w.copiers =
    subst (λ (v : Assembled). c.args.place < length v.copiers) (sym c.self.view_is)
    c.requires.there in
    rw (sym c.self.view_is)
    (record {
      steps = c.in_ok-event.ensures.ok;
      copiers = heard_at c.args.owner c.in_ok-event.event.act w.copiers
          c.args.place c.index_mut.result.now c.hear.new.self first within c.index_mut.ensures.value
          c.hear.ensures;
      made = refl;
    })
