use Rattle.std.proofs.Common.{◌≡◌, ◌+◌, ◌≤◌, ◌++◌, take, vec_len, vec_capacity}
use Rattle.blocking_core.proofs.pipe.store.CopyStore.append_front.Given as goal

abbrev pub invariant-loop-place : goal.invariant-loop-place
invariant-loop-place g l = record {
  items : l.piece.items ≡ l.initial.piece.items ++ take l.place (g.Self.Store.held l.memory).items;
  len : vec_len l.piece ≡ vec_len l.initial.piece + l.place;
  room : vec_capacity l.piece ≡ vec_capacity l.initial.piece;
}
