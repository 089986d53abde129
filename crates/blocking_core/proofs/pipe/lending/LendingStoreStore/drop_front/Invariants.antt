use Rattle.std.proofs.Common.{◌≡◌, ◌≤◌, ◌-◌, drop, flat_map, vec_items}
use Rattle.blocking_core.proofs.pipe.lending.LendingStoreStore.drop_front.Given as goal

abbrev pub invariant-loop-left : goal.invariant-loop-left
invariant-loop-left g l = record {
  within : l.left ≤ l.count;
  items : drop l.memory.gone (flat_map vec_items l.memory.pieces.items)
      ≡ drop (l.count - l.left)
      (drop l.initial.memory.gone (flat_map vec_items l.initial.memory.pieces.items));
  capacity : l.memory.capacity ≡ l.initial.memory.capacity;
}

abbrev pub decreases-loop-left : goal.decreases-loop-left
decreases-loop-left g l = l.left
