use Rattle.std.proofs.Common.{refl, sym, ap, ◌∙◌, ◌≡◌, ◌≤◌, Some, IfSome, length, subst, slice_get}
use Rattle.std.proofs.lemmas.Option.{slice_get_past, slice_get_read}
use Rattle.blocking_world_state.proofs.Types.{Own}
use Rattle.blocking_world_state.proofs.Words.{NeverAsked, Owner, next_of, did, may_own, may_own_in}
use Rattle.blocking_world_holders.specs.declared.owner.OwnerNext.TheVariants as next
use Rattle.blocking_world_state.specs.contracts.parts.Parts.{the_view}
use Rattle.blocking_world_state.proofs.moves.Steps.{idles, moves_more, ok_map}
use Rattle.blocking_world_state.proofs.parts.Parts.own.Goals as goal

pub returns-in_default-clause-ok : goal.returns-in_default-clause-ok
returns-in_default-clause-ok g c =
    let w = the_view c.self.inside in
    let past : length w.owners ≤ c.args.place =
    rw (← c.deref.ensures.value) c.in_default.ensures.lookup.3 in
    rw (sym c.self.view_is)
    (idles (g.S.Starter.may_answer c.args.starter.now) w (Own c.args.place) _ c.nothing.result
    refl (ap may_own_in (slice_get_past w.owners c.args.place past)) c.nothing.ensures.event)

pub returns-in-Rests-clause-ok : goal.returns-in-Rests-clause-ok
returns-in-Rests-clause-ok g c =
    let w = the_view c.self.inside in
    let there : slice_get w.owners c.args.place ≡ Some c.in-Some.owner.now =
    rw (← c.deref.ensures.value)
    (slice_get_read c.deref.result.now (length c.deref.result.now) c.args.place
    c.in-Some.owner.now refl c.in-Some.ensures.lookup.3.0 c.in-Some.ensures.lookup.1) in
    rw (sym c.self.view_is)
    (idles (g.S.Starter.may_answer c.args.starter.now)
    w (Own c.args.place) _ c.nothing-in-Rests.result refl (ap may_own_in there
    ∙ ap (λ n. may_own n (did c.in-Some.owner.now)) (sym c.next.ensures ∙ c.in-Rests.is))
    c.nothing-in-Rests.ensures.event)

pub lend-requires-clause-begins : goal.lend-requires-clause-begins
lend-requires-clause-begins g c =
    let there : slice_get (the_view c.self.inside).owners c.args.place ≡ Some c.in-Some.owner.now =
    rw (← c.deref.ensures.value)
    (slice_get_read c.deref.result.now (length c.deref.result.now) c.args.place
    c.in-Some.owner.now refl c.in-Some.ensures.lookup.3.0 c.in-Some.ensures.lookup.1) in
    rw (sym c.self.view_is) (subst (λ o. IfSome o (λ (owner : Owner). next_of owner ≡ next.Begins))
    (sym there) (sym c.next.ensures ∙ c.in-Begins.is))

pub deliver-requires-clause-delivers : goal.deliver-requires-clause-delivers
deliver-requires-clause-delivers g c =
    let there : slice_get (the_view c.self.inside).owners c.args.place ≡ Some c.in-Some.owner.now =
    rw (← c.deref.ensures.value)
    (slice_get_read c.deref.result.now (length c.deref.result.now) c.args.place
    c.in-Some.owner.now refl c.in-Some.ensures.lookup.3.0 c.in-Some.ensures.lookup.1) in
    rw (sym c.self.view_is)
    (subst (λ o. IfSome o (λ (owner : Owner). next_of owner ≡ next.Delivers)) (sym there)
    (sym c.next.ensures ∙ c.in-Delivers.is))

pub act-requires-clause-acts : goal.act-requires-clause-acts
act-requires-clause-acts g c =
    let there : slice_get (the_view c.self.inside).owners c.args.place ≡ Some c.in-Some.owner.now =
    rw (← c.deref.ensures.value)
    (slice_get_read c.deref.result.now (length c.deref.result.now) c.args.place
    c.in-Some.owner.now refl c.in-Some.ensures.lookup.3.0 c.in-Some.ensures.lookup.1) in
    rw (sym c.self.view_is) (subst (λ o. IfSome o (λ (owner : Owner). next_of owner
    ≡ next.Acts c.in-Acts.count)) (sym there) (sym c.next.ensures ∙ c.in-Acts.is))

pub returns-in-Acts-clause-ok : goal.returns-in-Acts-clause-ok
returns-in-Acts-clause-ok g c =
    ok_map c.act.result _ _ (λ e does. moves_more (g.S.Starter.may_answer c.args.starter.now)
    NeverAsked (λ n b never. absurd never) (Own c.args.place) c.args.self.now e c.act.new.self
    does) c.act.ensures.ok
