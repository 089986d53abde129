use Rattle.std.proofs.Common.{◌∙◌, drop, flat_map, vec_items, ap, arith}
use Rattle.blocking_core.proofs.Lending.{more_put}
use Rattle.blocking_core.proofs.pipe.lending.LendingStoreCopyStore.put_all.Goals as goal

pub loop-start-preserved : goal.loop-start-preserved
loop-start-preserved g c =
    let now = c.args.memory.now in
    let then = c.loop-start.memory in
    let said = c.append-start.ensures.items in
    record {
      within = omega arith;
      items = ap (λ stored. stored.items) said
          ∙ more_put (drop now.gone (flat_map vec_items now.pieces.items))
          (drop then.gone (flat_map vec_items then.pieces.items)) c.args.items.now
          c.loop-start.start c.append-start.result c.loop-start.invariant.items;
      capacity = ap (λ stored. stored.capacity) said ∙ c.loop-start.invariant.capacity;
    }
