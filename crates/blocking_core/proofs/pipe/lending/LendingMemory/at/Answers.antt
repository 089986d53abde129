use Rattle.std.proofs.Common.{◌+◌, ◌/◌, ◌%◌, vec_items, vec_len, sym, ◌∙◌, arith}
use Rattle.std.proofs.lemmas.Option.{slice_get_read}
use Rattle.circular_buffer.proofs.Places.{slice_get-some}
use Rattle.blocking_core.proofs.Lending.{piece_of, place_of}
use Rattle.blocking_core.proofs.pipe.lending.LendingMemory.at.Goals as goal

pub unreachable-requires : goal.unreachable-requires
unreachable-requires g c =
    let s = c.args.self.now in
    let within =
    piece_of vec_items s.pieces.items c.args.place s.piece s.gone s.len s.row c.requires in
    let there = slice_get-some s.pieces.items ((s.gone + c.args.place) / s.piece) within in
    let found = there.1 in
    let none = rw c.in_default.is at c.get.ensures in
    cc

pub index-requires : goal.index-requires
index-requires g c =
    let s = c.args.self.now in
    let v = c.in-Some.piece.now in
    let there = place_of vec_items s.pieces.items v c.args.place s.piece s.gone s.len s.row
    c.requires (sym c.in-Some.ensures) in
    omega (arith, there.0)

pub returns : goal.returns
returns g c =
    let s = c.args.self.now in
    let v = c.in-Some.piece.now in
    let there = place_of vec_items s.pieces.items v c.args.place s.piece s.gone s.len s.row
    c.requires (sym c.in-Some.ensures) in
    sym there.1 ∙ slice_get_read v.items (vec_len v) ((s.gone + c.args.place) % s.piece)
    c.index.result.now (omega arith) (omega (arith, there.0)) c.index.ensures
