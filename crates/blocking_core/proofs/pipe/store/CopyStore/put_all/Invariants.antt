use Rattle.std.proofs.Common.{◌≡◌, take}
use Rattle.blocking_core.specs.Stores.{with_more}
use Rattle.blocking_core.proofs.pipe.store.CopyStore.put_all.Given as goal

abbrev pub invariant-loop-item : goal.invariant-loop-item
invariant-loop-item g l = g.Self.Store.held l.memory
    ≡ with_more (take l.item-index l.items) (g.Self.Store.held l.initial.memory)
