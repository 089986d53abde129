use Rattle.std.proofs.Common.{◌∷◌, List, map, subst, ap, ◌∙◌, IsPermutation, ◌≤◌}
use Rattle.std.specs.List.{All}
use Rattle.std.specs.BinaryHeap.{heap_items}
use Rattle.std.proofs.lemmas.List.Sorted.{IsPermutation-map}
use Rattle.blocking_pool.specs.Heads.{Head, Heads}
use Rattle.blocking_pool.proofs.HeadLemmas.{least_of}
use Rattle.blocking_pool.proofs.pool.heads.Heads.pop.Goals as goal

pub returns : goal.returns
returns c =
    let seen = ap (λ (v : Heads). v.heads) c.self.view_is in
    let space = ap (λ (v : Heads). v.room) c.self.view_is in (
      subst (λ (hs : List Head). IsPermutation hs
          (c.in_ok-head.field-0.0 ∷ map (λ head. head.0) (heap_items c.pop.new.self))) seen
          (IsPermutation-map (λ head. head.0) _ _ c.in_ok-head.ensures.permutation),
      subst (λ (hs : List Head). All (λ other. c.in_ok-head.field-0.0.0 ≤ other.0) hs) seen
          (least_of c.in_ok-head.field-0 (heap_items c.self.inside.heap)
          (c.in_ok-head.ensures.heap_order c.self.invariant).1),
      c.pop.ensures.capacity ∙ space,
    )
