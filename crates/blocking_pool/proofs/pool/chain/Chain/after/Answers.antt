use Rattle.std.proofs.Common.{◌≡◌, ◌<◌, ◌+◌, true, sym, subst, ap, ◌∙◌, arith, length, add-one}
use Rattle.blocking_pool.specs.Lists.{is_in}
use Rattle.blocking_pool.proofs.RingLemmas.{neighbours_within, place_of, read_after, node_place}
use Rattle.blocking_pool.proofs.pool.chain.Chain.after.Goals as goal

within : (c : goal.After-self) → c.args.place + 1 < length c.self.inside.links.items
within c =
    (neighbours_within c.self.inside.links.items c.self.inside.len c.args.place (c.args.place + 1)
    (add-one c.args.place) c.self.invariant
    (subst (λ row. is_in c.args.place row.places ≡ true) (sym c.self.view_is) c.requires)).0

pub overflow_add-place : goal.overflow_add-place
overflow_add-place c = omega (
  arith,
  within c,
  c.self.inside.links.ok.0,
  c.self.inside.links.ok.1,
  c.self.inside.links.small,
)

pub index-requires : goal.index-requires
index-requires c = omega (arith, within c, c.self.inside.links.ok.0)

pub returns-then-node-eq-ENDS : goal.returns-then-node-eq-ENDS
returns-then-node-eq-ENDS c =
    ap place_of (sym c.if-node-eq-ENDS.true)
    ∙ read_after c.self.inside.links.items c.self.inside.len c.args.place c.index.result.now
    c.args.self.now c.self.invariant (ap (λ row. row.places) c.self.view_is) c.requires
    c.index.ensures

pub returns : goal.returns
returns c =
    node_place c.index.result.now.after c.if-node-eq-ENDS.false
    ∙ read_after c.self.inside.links.items c.self.inside.len c.args.place c.index.result.now
    c.args.self.now c.self.invariant (ap (λ row. row.places) c.self.view_is) c.requires
    c.index.ensures
