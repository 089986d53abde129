-- None of those before is the one.
use Rattle.std.proofs.Common.{◌≡◌, take}
use Rattle.std.specs.List.{position_or_len}
use Rattle.blocking_world_copiers.specs.Copiers.{has_number}
use Rattle.blocking_world_copiers.proofs.assembly.place_at.Given as goal

abbrev pub invariant-loop-copier : goal.invariant-loop-copier
invariant-loop-copier l = (l.place ≡ l.copier-index)
    × (position_or_len (has_number l.number) (take l.copier-index l.copiers) ≡ l.copier-index)
