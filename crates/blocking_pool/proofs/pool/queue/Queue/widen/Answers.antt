use Rattle.std.proofs.Common.{length, ◌≤◌, ◌-◌, arith}
use Rattle.std.proofs.lemmas.List.{take_all}
use Rattle.blocking_pool.proofs.QueueLemmas.{added_spots}
use Rattle.blocking_pool.proofs.KeptLemmas.{kept_widened}
use Rattle.blocking_pool.proofs.pool.queue.Queue.widen.Goals as goal

pub invariant_of-self-in-Continue-branch-4 : goal.invariant_of-self-in-Continue-branch-4
invariant_of-self-in-Continue-branch-4 c =
    let short : length c.self.inside.spots.items ≤ c.in_ok-count.count =
    omega (arith, c.self.inside.spots.ok.0, c.len-2.ensures, c.if-len-count.true) in
    kept_widened _ _ _ _ _ _ _ c.self.invariant c.make_room.new.self c.resize.new.self.items
    c.make_room-2.new.self c.in_ok-make_room.ensures.places c.in_ok-make_room-2.ensures.heads
    (λ p. rw (
      c.in_ok-resize.ensures.items,
      take_all c.in_ok-count.count c.self.inside.spots.items short,
    )
    (added_spots c.self.inside.spots.items (c.in_ok-count.count - c.self.inside.spots.len) p))
    (omega (arith, short, c.resize.new.self.ok.0, c.in_ok-resize.ensures.len))
    (let h = c.in_ok-count.ensures.ok_part in let g = c.checked_add.ensures in
    let wide = c.in_ok-make_room.ensures.room in let long = c.in_ok-resize.ensures.len in
    grind (arith, h, g, wide, long, c.resize.new.self.ok.0))
    (let fits = c.in_ok-make_room-2.ensures.room in let many = c.len.ensures in
    omega (arith, fits, many))
