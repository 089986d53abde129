use Rattle.std.proofs.Common.{◌+◌, vec_items, arith}
use Rattle.blocking_core.proofs.Lending.{row_whole}
use Rattle.blocking_core.proofs.pipe.lending.LendingMemory.make_place.Goals as goal

pub close_up-requires-clause-whole : goal.close_up-requires-clause-whole
close_up-requires-clause-whole g c =
    let s = c.args.self.now in
    (row_whole vec_items s.pieces.items s.piece (s.gone + s.len) s.row (omega arith)).0
