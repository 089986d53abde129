use Rattle.std.proofs.Common.{◌≡◌}
use Rattle.blocking_core.specs.Stores.{without_first}
use Rattle.blocking_core.proofs.pipe.store.Store.drop_front.Given as goal

abbrev pub invariant-loop : goal.invariant-loop
invariant-loop g l =
    g.Self.Store.held l.memory ≡ without_first l.counter (g.Self.Store.held l.initial.memory)
