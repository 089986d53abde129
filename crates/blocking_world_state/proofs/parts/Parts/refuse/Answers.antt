use Rattle.std.proofs.Common.{◌≡◌, ◌<◌, length, refl, sym, ap, subst, Some, Err, IfSome, slice_get}
use Rattle.std.proofs.Common.{slice_set}
use Rattle.blocking_world_state.proofs.Words.{NeverAsked, Owner, next_of, Parts}
use Rattle.blocking_world_holders.specs.declared.owner.OwnerNext.TheVariants as next
use Rattle.blocking_world_state.specs.contracts.parts.Parts.{the_view}
use Rattle.blocking_world_state.proofs.moves.Steps.{lent, found_at}
use Rattle.blocking_world_state.proofs.parts.Parts.refuse.Goals as goal

pub returns : goal.returns
returns c =
    let w = the_view c.self.inside in
    let old = c.index_mut.result.now in
    let within : c.args.place < length w.owners = subst
    (λ (p : Parts). c.args.place < length p.owners) (sym c.self.view_is) c.requires.there in
    let found : slice_get w.owners c.args.place ≡ Some old =
    found_at w.owners c.args.place old within c.index_mut.ensures.value in
    let begins : next_of old ≡ next.Begins =
    subst (λ o. IfSome o (λ (owner : Owner). next_of owner ≡ next.Begins))
    found (subst (λ (p : Parts). IfSome (slice_get p.owners c.args.place) (λ (owner : Owner).
    next_of owner ≡ next.Begins)) (sym c.self.view_is) c.requires.begins) in
    rw (sym c.self.view_is)
    (lent NeverAsked w c.args.place old (Err c.refuse-why.result.0) w.rows
    (slice_set w.owners c.args.place c.refuse.new.self) c.refuse-why.result.1 w.crew found
    begins (c.refuse-why.ensures old.client) refl
    (ap (slice_set w.owners c.args.place) c.refuse.ensures))
