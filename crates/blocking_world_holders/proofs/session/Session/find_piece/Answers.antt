use Rattle.std.proofs.Common.{◌≡◌, ◌≤◌, ℕ, List, [], ◌∷◌, ◌++◌, length, Bool, true, false, sym, ap}
use Rattle.std.proofs.Common.{◌∙◌, arith, min, take, drop, append-nil, length-take}
use Rattle.std.proofs.lemmas.List.{take_min, with_items_is}
use Rattle.std.proofs.Math.ListN.{drop_of_length-le}
use Rattle.blocking_world_holders.proofs.Types.{Bytes}
use Rattle.blocking_world_holders.proofs.Words.{Served, peek, Session, write_at_peek}
use Rattle.blocking_world_holders.specs.contracts.session.Session.{the_view}
use Rattle.blocking_world_holders.proofs.session.Session.find_piece.Goals as goal

-- a look into room for all that a piece has finds that piece, and fills the room
found : (items out shown : List ℕ) (lasts : Bool) (n : ℕ) → length out ≡ min (length items) 65536
    → peek (length out) items lasts ≡ Served (take n items) → n ≡ min (length out) (length items)
    → shown ≡ take n items ++ drop n out
    → (peek 65536 items lasts ≡ Served shown) × (length shown ≡ length out)
found [] out shown true n room some count is = absurd cc
found [] out shown false n room some count is = absurd cc
found (x ∷ xs) out shown lasts n room some count is =
    let all : length out ≤ n = omega (arith, room, count) in
    let reached : n ≡ min 65536 (length (x ∷ xs)) = omega (arith, room, count) in
    let whole : shown ≡ take n (x ∷ xs) =
    is ∙ ap (λ l. take n (x ∷ xs) ++ l) (drop_of_length-le out all)
    ∙ append-nil (take n (x ∷ xs)) in
    let many : length shown ≡ min n (length (x ∷ xs)) =
    ap (λ (l : List ℕ). length l) whole ∙ length-take n (x ∷ xs) in (
      ap Served (sym (take_min 65536 (x ∷ xs)) ∙ ap (λ k. take k (x ∷ xs)) (sym reached)
          ∙ sym whole),
      omega (arith, many, count, room),
    )

pub returns-clause-ok : goal.returns-clause-ok
returns-clause-ok c =
    let e = c.in-Some.ensures in
    let pipe = c.in-Bytes.pipe in
    let here = the_view (record c.self.inside { passage = Bytes pipe }) in
    let seen : here ≡ c.args.self.now =
    sym (ap (λ passage. the_view (record c.self.inside { passage = passage })) c.in-Bytes.is)
    ∙ c.self.view_is in
    let inner = ap (λ (s : Session). length s.pipe.items) seen in
    let whole : length c.in_ok-room.room.items ≡ c.in_ok-room.room.len =
    sym c.in_ok-room.room.ok.0 in
    let many : c.in_ok-room.room.len ≡ min (length pipe.items) 65536 =
    c.in_ok-room.ensures.len ∙ c.front_len.ensures ∙ ap (λ n. min n 65536) (sym inner) in
    let is_room = ap (λ (l : List ℕ). length l) c.as_mut_slice.ensures.value ∙ whole in
    let met = found pipe.items c.as_mut_slice.result.now c.peek_or_seat.new.out pipe.is_owner_open
    c.in-Some._all_of_it (is_room ∙ many) e.0 e.2 e.4 in
    let piece : c.new-piece.result ≡ c.peek_or_seat.new.out = c.new-piece.ensures
    ∙ with_items_is c.in_ok-room.room c.peek_or_seat.new.out (met.1 ∙ is_room) in
    let told : c.in_ok-told.told ≡ c.new-piece.result = c.in_ok-told.ensures in
    let after = c.find.ensures in
    let same = e.3 in
    rw (sym seen) (ap (λ m. write_at_peek m c.args.job.now here) met.0 ∙ cc)
