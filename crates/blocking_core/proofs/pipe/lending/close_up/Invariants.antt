use Rattle.std.proofs.Common.{◌≡◌, ◌≤◌, ◌<◌, ◌+◌, ◌-◌, length, drop, flat_map, vec_items}
use Rattle.std.proofs.Common.{vec_capacity, All}
use Rattle.blocking_core.proofs.Lending.{IsMoving}
use Rattle.blocking_core.proofs.pipe.lending.close_up.Given as goal

abbrev pub invariant-loop : goal.invariant-loop
invariant-loop g l = record {
  count : length l.pieces.items + 1 ≡ length l.fn.pieces.items;
  capacity : l.pieces.capacity ≡ l.fn.pieces.capacity;
  fits : length l.pieces.items < l.pieces.capacity;
  moving : IsMoving vec_items (drop l.gone (flat_map vec_items l.fn.pieces.items)) l.pieces.items
      l.hand (length l.pieces.items - l.counter) l.gone l.piece;
  room : All (λ v. l.piece ≤ vec_capacity v) l.pieces.items;
  hand : l.piece ≤ vec_capacity l.hand;
}
