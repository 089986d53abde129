use Rattle.std.proofs.Common.{◌≡◌, ◌+◌, ◌-◌, ◌≤◌, ◌++◌, ◌∷◌, [], length, take, drop, slice_get}
use Rattle.std.proofs.Common.{Some, vec_items, vec_capacity, sym, refl, ap, ◌∙◌, arith}
use Rattle.std.proofs.lemmas.List.{length-drop, length_push}
use Rattle.std.proofs.lemmas.List.Elements.{All-drop, All-push}
use Rattle.blocking_core.proofs.Lending.{moving_from, moving_on, moving_ends, room_inside}
use Rattle.blocking_core.proofs.pipe.lending.close_up.Goals as goal

pub loop-init : goal.loop-init
loop-init g c =
    let pieces = c.args.pieces.now.items in
    let hand = c.in-Some.hand in
    let at = sym c.pop_front.ensures.value ∙ c.in-Some.is in
    let left = length-drop 1 pieces in
    let room = room_inside vec_capacity pieces c.args.piece 0 hand c.requires.room at in
    rw c.pop_front.ensures.items record {
      count = omega (arith, c.requires.some);
      capacity = refl;
      fits = omega (arith, c.requires.some, c.requires.fit);
      moving = moving_from vec_items pieces hand c.drop_first.new.piece (length (drop 1 pieces) - 0)
          c.args.gone c.args.piece c.requires.whole at c.drop_first.ensures.items c.requires.before
          (omega arith);
      room = All-drop (λ v. c.args.piece ≤ vec_capacity v) 1 pieces c.requires.room;
      hand = omega (arith, room, c.drop_first.ensures.room);
    }

pub loop-preserved : goal.loop-preserved
loop-preserved g c =
    let was = c.loop.invariant in
    let pieces = c.loop.pieces.items in
    let next = c.in-Some-pop_front.next in
    let filled = c.replace.result in
    let hand = c.replace.new.dest in
    let at : slice_get pieces 0 ≡ Some next =
    sym c.pop_front-in-loop.ensures.value ∙ c.in-Some-pop_front.is in
    let count = ap (λ b. length b.items) c.pop_front.ensures.items in
    let gone = length-drop 1 pieces in
    let more = length_push (drop 1 pieces) filled in
    let left = length-drop 1 c.args.pieces.now.items in
    let fills : filled.items ≡ c.loop.hand.items ++ take c.args.gone next.items =
    rw (c.replace.ensures.value, ← c.deref.ensures.value) c.in-Ok.ensures.items in
    let rest : hand.items ≡ drop c.args.gone next.items =
    ap vec_items c.replace.ensures.after ∙ c.drop_first-in-loop.ensures.items in
    let room = room_inside vec_capacity pieces c.args.piece 0 next was.room at in
    let put = ap vec_capacity c.replace.ensures.value in
    let kept = ap vec_capacity c.replace.ensures.after in
    rw (c.in-Ok-try_push_back.ensures.ok, c.pop_front-in-loop.ensures.items) record {
      count = omega (arith, was.count);
      capacity = was.capacity;
      fits = omega (arith, was.fits);
      moving = moving_on vec_items _ pieces next c.loop.hand filled hand _
          (length (drop 1 pieces ++ filled ∷ []) - (c.loop.counter + 1)) c.args.gone c.args.piece
          was.moving at (omega (arith, was.count)) (omega arith) fills rest;
      room = All-push (λ v. c.args.piece ≤ vec_capacity v) (drop 1 pieces) filled
          (All-drop (λ v. c.args.piece ≤ vec_capacity v) 1 pieces was.room)
          (omega (arith, was.hand, put, c.in-Ok.ensures.capacity));
      hand = omega (arith, room, kept, c.drop_first-in-loop.ensures.room);
    }

pub returns-clause-row : goal.returns-clause-row
returns-clause-row g c =
    let was = c.loop.invariant in
    let pieces = c.loop.pieces.items in
    let count = ap (λ b. length b.items) c.pop_front.ensures.items in
    let gone = length-drop 1 c.args.pieces.now.items in
    let left : length pieces - c.loop.counter ≡ 0 = omega (arith, was.count, gone) in
    let ends = moving_ends vec_items _ pieces c.loop.hand _ c.args.gone c.args.piece was.moving left
    c.requires.before in
    let all : length (pieces ++ c.loop.hand ∷ []) ≡ length c.args.pieces.now.items =
    length_push pieces c.loop.hand ∙ was.count in
    rw (c.in-Ok-try_push_back-2.ensures.ok, sym all) ends.0

pub returns-clause-items : goal.returns-clause-items
returns-clause-items g c =
    let was = c.loop.invariant in
    let pieces = c.loop.pieces.items in
    let count = ap (λ b. length b.items) c.pop_front.ensures.items in
    let gone = length-drop 1 c.args.pieces.now.items in
    let left : length pieces - c.loop.counter ≡ 0 = omega (arith, was.count, gone) in
    rw c.in-Ok-try_push_back-2.ensures.ok
    (moving_ends vec_items _ pieces c.loop.hand _ c.args.gone c.args.piece was.moving left
    c.requires.before).1

pub returns-clause-room : goal.returns-clause-room
returns-clause-room g c =
    rw c.in-Ok-try_push_back-2.ensures.ok
    (All-push (λ v. c.args.piece ≤ vec_capacity v) c.loop.pieces.items c.loop.hand
    c.loop.invariant.room c.loop.invariant.hand)
