-- None of those before is the one.
use Rattle.std.proofs.Common.{◌≡◌, take}
use Rattle.std.specs.List.{position_or_len}
use Rattle.blocking_world_copiers.specs.Copiers.{belongs}
use Rattle.blocking_world_copiers.proofs.assembly.place_of.Given as goal

abbrev pub invariant-loop-copier : goal.invariant-loop-copier
invariant-loop-copier l = (l.place ≡ l.copier-index)
    × (position_or_len (belongs l.owner) (take l.copier-index l.copiers) ≡ l.copier-index)
