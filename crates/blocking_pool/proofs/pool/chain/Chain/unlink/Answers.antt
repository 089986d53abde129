use Rattle.std.proofs.Common.{◌≡◌, ◌<◌, ◌-◌, ◌+◌, true, sym, subst, ap, ◌∙◌, arith, length, add-one}
use Rattle.std.proofs.lemmas.List.{with_items_is}
use Rattle.blocking_pool.specs.Lists.{is_in, without}
use Rattle.blocking_pool.specs.Rings.{node_before, node_after, walk, IsRing, Joins}
use Rattle.blocking_pool.proofs.RingLemmas.{IsUnlinked, unlinked, neighbours_within, same_chain}
use Rattle.blocking_pool.proofs.pool.chain.Chain.unlink.Goals as goal

-- the neighbours of the place are nodes of the ring
near : (c : goal.After-deref_mut) → (c.args.place + 1 < length c.self.inside.links.items)
    × (node_before c.self.inside.links.items (c.args.place + 1) < length c.self.inside.links.items)
    × (node_after c.self.inside.links.items (c.args.place + 1) < length c.self.inside.links.items)
near c =
    neighbours_within c.self.inside.links.items c.self.inside.len c.args.place (c.args.place + 1)
    (add-one c.args.place) c.self.invariant
    (subst (λ v. is_in c.args.place v.places ≡ true) (sym c.self.view_is) c.requires)

pub overflow_add-place : goal.overflow_add-place
overflow_add-place c = omega (
  arith,
  (near c).0,
  c.self.inside.links.ok.0,
  c.self.inside.links.ok.1,
  c.self.inside.links.small,
)

pub remove-requires-clause-node : goal.remove-requires-clause-node
remove-requires-clause-node c =
    omega (arith, (near c).0, c.deref_mut.ensures.len, c.self.inside.links.ok.0)

pub remove-requires-clause-before : goal.remove-requires-clause-before
remove-requires-clause-before c = subst (λ links. node_before links (c.args.place + 1)
    < length links) (sym c.deref_mut.ensures.value) (near c).1

pub remove-requires-clause-after : goal.remove-requires-clause-after
remove-requires-clause-after c = subst (λ links. node_after links (c.args.place + 1) < length links)
    (sym c.deref_mut.ensures.value) (near c).2

done : (c : goal.After-self-2-1) → IsUnlinked c.remove.new.links c.self.inside.len
    (walk c.self.inside.links.items c.self.inside.len 0) c.args.place
done c =
    unlinked c.self.inside.links.items c.remove.new.links c.self.inside.len c.args.place
    (c.args.place + 1) (add-one c.args.place) c.self.invariant
    (subst (λ v. is_in c.args.place v.places ≡ true) (sym c.self.view_is) c.requires)
    (subst (λ links. Joins links c.remove.new.links (node_before links (c.args.place + 1))
    (node_after links (c.args.place + 1))) c.deref_mut.ensures.value c.remove.ensures)

kept : (c : goal.After-self-2-1) → length c.remove.new.links ≡ c.self.inside.links.len
kept c = omega (arith, c.remove.ensures.count, c.deref_mut.ensures.len)

pub invariant_of-self : goal.invariant_of-self
invariant_of-self c = subst (λ links. IsRing links (c.self.inside.len - 1))
    (sym (with_items_is c.self.inside.links c.remove.new.links (kept c))) (done c).ring

pub returns : goal.returns
returns c = same_chain _ _ _ _
    (subst (λ links.
    walk links (c.self.inside.len - 1) 0 ≡ without c.args.place c.args.self.now.places)
    (sym (with_items_is c.self.inside.links c.remove.new.links (kept c)))
    ((done c).places ∙ ap (λ v. without c.args.place v.places) c.self.view_is))
    (ap (λ links. length links - 1) (with_items_is c.self.inside.links c.remove.new.links (kept c))
    ∙ omega (arith, kept c, c.self.inside.links.ok.0, ap (λ v. v.room) c.self.view_is))
