use Rattle.std.proofs.Common.{◌≡◌, ◌-◌, sym, subst, ap, ◌∙◌, arith, Some}
use Rattle.std.proofs.lemmas.List.{get_or_read}
use Rattle.blocking_pool.specs.Lists.{first_of, IsOnce}
use Rattle.blocking_pool.specs.Rings.{loose, node_after}
use Rattle.blocking_pool.proofs.RingLemmas.{ring_some, ring_first, ring_walk}
use Rattle.blocking_pool.proofs.pool.chain.Chain.first.Goals as goal

pub index-requires : goal.index-requires
index-requires c = omega (
  arith,
  c.self.inside.links.ok.0,
  ring_some c.self.inside.links.items c.self.inside.len c.if-self-eq0.false c.self.invariant,
)

read : (c : goal.After-index) → c.index.result.now.after ≡ node_after c.self.inside.links.items 0
read c = ap (λ l. l.after) (get_or_read c.self.inside.links.items 0 c.index.result.now
    (ring_some c.self.inside.links.items c.self.inside.len c.if-self-eq0.false c.self.invariant)
    c.index.ensures loose)

pub overflow_sub-result : goal.overflow_sub-result
overflow_sub-result c = omega (
  arith,
  read c,
  (ring_first c.self.inside.links.items
      c.self.inside.len c.if-self-eq0.false c.self.invariant).0,
)

pub returns-clause-first : goal.returns-clause-first
returns-clause-first c =
    ap (λ n. Some (n - 1)) (read c) ∙ (ring_first c.self.inside.links.items c.self.inside.len
    c.if-self-eq0.false c.self.invariant).1
    ∙ ap (λ v. first_of v.places) c.self.view_is

pub returns-clause-once : goal.returns-clause-once
returns-clause-once c = subst (λ v. IsOnce v.places) c.self.view_is
    (subst IsOnce (sym (ring_walk c.self.inside.links.items c.self.inside.len c.self.invariant))
    c.self.invariant.once)
