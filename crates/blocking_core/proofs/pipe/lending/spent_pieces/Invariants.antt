use Rattle.std.proofs.Common.{◌≡◌, ◌≤◌, length, vec_capacity, All}
use Rattle.blocking_core.proofs.pipe.lending.spent_pieces.Given as goal

abbrev pub invariant-loop : goal.invariant-loop
invariant-loop g l = record {
  count : length l.pieces.items ≡ l.counter;
  places : l.count ≤ vec_capacity l.pieces;
  room : All (λ v. l.piece ≤ vec_capacity v) l.pieces.items;
}
