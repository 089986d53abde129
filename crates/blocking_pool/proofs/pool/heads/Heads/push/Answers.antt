use Rattle.std.proofs.Common.{◌∷◌, List, map, subst, ap, IsPermutation}
use Rattle.std.specs.BinaryHeap.{heap_items}
use Rattle.std.proofs.lemmas.List.Sorted.{IsPermutation-map}
use Rattle.blocking_pool.specs.Heads.{Head, Heads}
use Rattle.blocking_pool.proofs.pool.heads.Heads.push.Goals as goal

pub returns-clause-heads : goal.returns-clause-heads
returns-clause-heads c =
    subst (λ (hs : List Head). IsPermutation
    ((c.args.number, c.args.client) ∷ hs) (map (λ head. head.0) (heap_items c.push.new.self)))
    (ap (λ (v : Heads). v.heads) c.self.view_is)
    (IsPermutation-map (λ head. head.0) _ _ c.in-Ok.ensures.permutation)
