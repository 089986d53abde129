use Rattle.std.proofs.Common.{◌≡◌, ◌<◌, length, sym, subst, IfOk, IfSome, slice_get, slice_set}
use Rattle.blocking_world_state.proofs.Types.{Own}
use Rattle.blocking_world_state.proofs.Words.{NeverAsked, Owner, next_of, Moves, Parts}
use Rattle.blocking_world_holders.specs.declared.owner.OwnerNext.TheVariants as next
use Rattle.blocking_world_state.specs.contracts.parts.Parts.{the_view}
use Rattle.blocking_world_state.proofs.moves.Asides.{told_aside}
use Rattle.blocking_world_state.proofs.moves.Steps.{found_at, owned, rested}
use Rattle.blocking_world_state.proofs.parts.Parts.act.Goals as goal
use Rattle.blocking_world_state.proofs.parts.Parts.act.Goals.{in-Some, in-None}

pub tell-requires : goal.tell-requires
tell-requires c = told_aside c.index_mut.result.now c.act.new.self c.in-Some.act c.in-Some.ensures

pub returns-clause-ok : goal.returns-clause-ok
returns-clause-ok c =
    let w = the_view c.self.inside in
    let old = c.index_mut.result.now in
    let within : c.args.place < length w.owners = subst
    (λ (p : Parts). c.args.place < length p.owners) (sym c.self.view_is) c.requires.there in
    let acts : next_of old ≡ next.Acts c.args.count =
    subst (λ o. IfSome o (λ (owner : Owner). next_of owner ≡ next.Acts c.args.count))
    (found_at w.owners c.args.place old within c.index_mut.ensures.value)
    (subst (λ (p : Parts). IfSome (slice_get p.owners c.args.place) (λ (owner : Owner).
    next_of owner ≡ next.Acts c.args.count)) (sym c.self.view_is) c.requires.acts) in
    let done : IfOk c.match-act.result (λ e. Moves NeverAsked (Own c.args.place) w
    e (record w { owners = slice_set w.owners c.args.place c.act.new.self })) =
    elim c.match-act.branch [
      | in-Some b ↦
          subst (λ r. IfOk r (λ e. Moves NeverAsked (Own c.args.place) w e (record w
          { owners = slice_set w.owners c.args.place c.act.new.self }))) (sym b.result-is)
          (owned w c.args.place old c.act.new.self b.in-Some.act b.tell.result within
          c.index_mut.ensures.value b.in-Some.ensures b.tell.ensures)
      | in-None b ↦
          subst (λ r. IfOk r (λ e. Moves NeverAsked (Own c.args.place) w e (record w
          { owners = slice_set w.owners c.args.place c.act.new.self }))) (sym b.result-is)
          (rested w c.args.place c.args.count old c.act.new.self b.nothing.result within
          c.index_mut.ensures.value acts b.in-None.ensures b.nothing.ensures.event)
    ] in
    rw (sym c.self.view_is) done
