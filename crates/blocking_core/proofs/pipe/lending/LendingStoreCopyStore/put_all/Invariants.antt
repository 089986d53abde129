use Rattle.std.proofs.Common.{◌≡◌, ◌≤◌, ◌-◌, ◌++◌, length, take, drop, flat_map, vec_items}
use Rattle.blocking_core.proofs.pipe.lending.LendingStoreCopyStore.put_all.Given as goal

abbrev pub invariant-loop-start : goal.invariant-loop-start
invariant-loop-start g l = record {
  within : l.start ≤ length l.items;
  items : drop l.memory.gone (flat_map vec_items l.memory.pieces.items)
      ≡ drop l.initial.memory.gone (flat_map vec_items l.initial.memory.pieces.items)
      ++ take l.start l.items;
  capacity : l.memory.capacity ≡ l.initial.memory.capacity;
}

abbrev pub decreases-loop-start : goal.decreases-loop-start
decreases-loop-start g l = length l.items - l.start
