use Rattle.std.proofs.Common.{◌≡◌, ◌-◌, ◌<◌, length, get_or, vec_items, vec_len, vec_capacity, ap}
use Rattle.std.proofs.Common.{sym, ◌∙◌, arith}
use Rattle.blocking_core.proofs.Lending.{row_open, empty_last, room_inside}
use Rattle.blocking_core.proofs.pipe.lending.take_last.Goals as goal

pub returns-then-total-piece-gt0-clause-last : goal.returns-then-total-piece-gt0-clause-last
returns-then-total-piece-gt0-clause-last g c =
    let pieces = c.args.pieces.now.items in
    let at = sym c.pop_back.ensures.value ∙ c.in-Some.is in
    rw c.pop_back.ensures.items
    (row_open vec_items pieces c.in-Some.last c.args.piece c.args.total c.requires.row
    c.if-total-piece-gt0.true at).0

pub returns-then-total-piece-gt0-clause-room : goal.returns-then-total-piece-gt0-clause-room
returns-then-total-piece-gt0-clause-room g c =
    let pieces = c.args.pieces.now.items in
    room_inside vec_capacity pieces c.args.piece (length pieces - 1) c.in-Some.last
    c.requires.memory.inside (sym c.pop_back.ensures.value ∙ c.in-Some.is)

pub returns-clause-last : goal.returns-clause-last
returns-clause-last g c =
    empty_last vec_items c.args.pieces.now.items c.clear.new.self c.args.piece c.args.total
    c.requires.row (omega arith) c.clear.ensures.items

pub returns-clause-room : goal.returns-clause-room
returns-clause-room g c =
    let spent = c.args.spent.now in
    let last = c.in-Some-pop.last in
    let some : 0 < vec_len spent = omega (arith, c.requires.spare (omega arith)) in
    let value = c.pop.ensures.value last some in
    let is = c.in-Some-pop.is in
    let same : get_or spent.items (vec_len spent - 1) last ≡ last = cc in
    omega (
      arith,
      ap vec_capacity same,
      c.clear.ensures.capacity,
      c.requires.memory.spare (vec_len spent - 1) last (omega arith),
    )
