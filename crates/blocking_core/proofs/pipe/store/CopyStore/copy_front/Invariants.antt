use Rattle.std.proofs.Common.{◌≡◌, ◌++◌, take, drop}
use Rattle.blocking_core.proofs.pipe.store.CopyStore.copy_front.Given as goal

abbrev pub invariant-loop-place : goal.invariant-loop-place
invariant-loop-place g l =
    l.out ≡ take l.place (g.Self.Store.held l.memory).items ++ drop l.place l.initial.out
