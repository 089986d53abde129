-- Those of the first events that are of the cut were kept.
use Rattle.std.proofs.Common.{◌≡◌, take}
use Rattle.blocking_world_laws.specs.Seen.{cut}
use Rattle.blocking_world.proofs.cuts.cut.Given as goal

abbrev pub invariant-loop-event : goal.invariant-loop-event
invariant-loop-event l = l.kept.items ≡ cut l.owner (take l.event-index l.events)
