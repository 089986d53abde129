use Rattle.std.proofs.Common.{◌≡◌, ◌<◌, ◌-◌, ◌+◌, ◌++◌, ◌∷◌, [], false, sym, subst, ap, ◌∙◌, arith}
use Rattle.std.proofs.Common.{length, add-one}
use Rattle.std.proofs.lemmas.List.{with_items_is}
use Rattle.blocking_pool.specs.Lists.{is_in}
use Rattle.blocking_pool.specs.Rings.{node_before, walk, IsRing, IsInserted}
use Rattle.blocking_pool.proofs.RingLemmas.{IsPushed, pushed, count_within, last_within, same_chain}
use Rattle.blocking_pool.proofs.pool.chain.Chain.push_back.Goals as goal

pub insert_last-requires-clause-last : goal.insert_last-requires-clause-last
insert_last-requires-clause-last c =
    subst (λ links. node_before links 0 < length links) (sym c.deref_mut.ensures.value)
    (last_within c.self.inside.links.items c.self.inside.len
    (omega (arith, c.requires.room, ap (λ v. v.room) c.self.view_is)) c.self.invariant)

pub overflow_add-self : goal.overflow_add-self
overflow_add-self c =
    omega (
      arith,
      c.requires.room,
      ap (λ v. v.room) c.self.view_is,
      c.self.inside.links.ok.0,
      c.self.inside.links.ok.1,
      c.self.inside.links.small,
      count_within c.self.inside.links.items c.self.inside.len
          (length c.self.inside.links.items - 1)
          (omega (arith, c.requires.room, ap (λ v. v.room) c.self.view_is)) c.self.invariant,
    )

done : (c : goal.After-self-2-1) → IsPushed c.insert_last.new.links c.self.inside.len
    (walk c.self.inside.links.items c.self.inside.len 0) c.args.place
done c =
    pushed c.self.inside.links.items c.insert_last.new.links c.self.inside.len c.args.place
    (c.args.place + 1) (add-one c.args.place)
    (omega (arith, c.requires.room, ap (λ v. v.room) c.self.view_is)) c.self.invariant
    (subst (λ v. is_in c.args.place v.places ≡ false) (sym c.self.view_is) c.requires.fresh)
    (subst (λ links. IsInserted links c.insert_last.new.links (c.args.place + 1))
    c.deref_mut.ensures.value c.insert_last.ensures)

kept : (c : goal.After-self-2-1) → length c.insert_last.new.links ≡ c.self.inside.links.len
kept c = omega (
  arith,
  c.insert_last.ensures.end.count,
  c.insert_last.ensures.last.count,
  c.deref_mut.ensures.len,
)

pub invariant_of-self : goal.invariant_of-self
invariant_of-self c = subst (λ links. IsRing links (c.self.inside.len + 1))
    (sym (with_items_is c.self.inside.links c.insert_last.new.links (kept c))) (done c).ring

pub returns : goal.returns
returns c = same_chain _ _ _ _
    (subst (λ links. walk links (c.self.inside.len + 1) 0 ≡ c.args.self.now.places ++ c.args.place
    ∷ []) (sym (with_items_is c.self.inside.links c.insert_last.new.links (kept c)))
    ((done c).places ∙ ap (λ v. v.places ++ c.args.place ∷ []) c.self.view_is))
    (ap (λ links. length links - 1)
    (with_items_is c.self.inside.links c.insert_last.new.links (kept c))
    ∙ omega (arith, kept c, c.self.inside.links.ok.0, ap (λ v. v.room) c.self.view_is))
