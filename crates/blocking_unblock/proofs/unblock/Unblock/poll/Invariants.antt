use Rattle.std.proofs.Common.{◌≡◌, length}
use Rattle.blocking_core.specs.declared.unblock.State.TheVariants.{Idle}
use Rattle.futures.specs.Task.{IsArmed, Keeps}
use Rattle.blocking_unblock.specs.Owners.{HasReply, IsAt, Reaches, crossed_before}
use Rattle.blocking_unblock.specs.Polls.{Stands, Crossing, KeepsFirst, KeepsBrought, KeepsOpen}
use Rattle.blocking_unblock.proofs.unblock.Unblock.poll.Given as goal

abbrev pub invariant-loop : goal.invariant-loop
invariant-loop g l =
    (goal.iterator-loop g).can_next l.iterator' × (goal.iterator-loop g).is_finite l.iterator'
    × Stands g.B.Lends.begins g.B.Lends.keeps (IsArmed l.cx) l.poll l.self.place l.brought
    × Reaches l.initial.poll l.poll
    × (l.poll.call ≡ l.initial.poll.call)
    × KeepsOpen l.initial.poll.call l.initial.poll.state l.poll.state
    × Keeps l.initial.cx l.cx
    × (length l.out ≡ length l.initial.out)
    × (IsAt Idle l.initial.self.place → KeepsFirst l.poll.call l.poll.state l.poll.next
    l.poll.is_at_end l.self.place l.initial.self.place)
    × KeepsBrought g.B.Lends.keeps l.poll.call l.poll.next l.brought l.initial.brought
    × (HasReply l.initial.poll.next
    → (l.poll.next ≡ l.initial.poll.next) × (l.self.place ≡ l.initial.self.place))
    × (l.self.capacity ≡ l.initial.self.capacity)
    × (l.self.executor ≡ l.initial.self.executor)
    × Crossing l.poll.call l.poll.state l.poll.next l.poll.is_at_end l.self.place
    (crossed_before l.initial.poll.call l.initial.self.place)
