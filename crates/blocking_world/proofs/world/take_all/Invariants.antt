use Rattle.std.proofs.Common.{◌≡◌, ◌≤◌, length, vec_capacity}
use Rattle.blocking_world.proofs.Runs.{Taken}
use Rattle.blocking_world.proofs.world.take_all.Given as goal

-- so many of the steps were taken, and there is room for the events of all
abbrev pub invariant-loop-step : goal.invariant-loop-step
invariant-loop-step l =
    Taken l.steps l.step-index l.events.items l.initial.world.history l.world.history
    × (length l.events.items ≡ l.step-index)
    × (length l.steps ≤ vec_capacity l.events)
