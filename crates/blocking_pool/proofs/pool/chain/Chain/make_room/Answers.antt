use Rattle.std.proofs.Common.{◌≡◌, ◌≤◌, ◌-◌, ℕ, ap, ◌∙◌, arith, length, get_or}
use Rattle.std.proofs.lemmas.List.{take_all}
use Rattle.blocking_pool.specs.Rings.{loose}
use Rattle.blocking_pool.proofs.RingLemmas.{ring_longer, walk_longer, added_loose}
use Rattle.blocking_pool.proofs.pool.chain.Chain.make_room.Goals as goal

-- what `resize` added is loose
longer : (c : goal.In_ok-resize) (node : ℕ)
    → get_or c.resize.new.self.items node loose ≡ get_or c.self.inside.links.items node loose
longer c node =
    let short : length c.self.inside.links.items ≤ c.in_ok-wanted.wanted =
    omega (arith, c.self.inside.links.ok.0, c.len.ensures, c.if-len-wanted.true) in
    rw (
      c.in_ok-resize.ensures.items,
      take_all c.in_ok-wanted.wanted c.self.inside.links.items short,
    )
    (added_loose c.self.inside.links.items (c.in_ok-wanted.wanted - c.self.inside.links.len) node)

pub invariant_of-self : goal.invariant_of-self
invariant_of-self c =
    ring_longer c.self.inside.links.items c.resize.new.self.items c.self.inside.len
    (omega (
      arith,
      c.self.inside.links.ok.0,
      c.resize.new.self.ok.0,
      c.len.ensures,
      c.if-len-wanted.true,
      c.in_ok-resize.ensures.len,
    )) (longer c) c.self.invariant

pub returns-in_ok-resize-clause-places : goal.returns-in_ok-resize-clause-places
returns-in_ok-resize-clause-places c =
    walk_longer c.self.inside.links.items c.resize.new.self.items c.self.inside.len 0 (longer c)
    ∙ ap (λ v. v.places) c.self.view_is
