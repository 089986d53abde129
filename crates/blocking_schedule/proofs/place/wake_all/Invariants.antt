use Rattle.std.proofs.Common.{◌≡◌, ◌++◌, map, take, drop}
use Rattle.blocking_schedule.specs.Places.{woken_from}
use Rattle.blocking_schedule.proofs.place.wake_all.Given as goal

-- those so far are woken, and the others are as they were
abbrev pub invariant-loop-place : goal.invariant-loop-place
invariant-loop-place l = l.threads
    ≡ map woken_from (take l.place-index l.initial.threads) ++ drop l.place-index l.initial.threads
