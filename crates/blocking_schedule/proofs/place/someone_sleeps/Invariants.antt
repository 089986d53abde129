use Rattle.std.proofs.Common.{◌≡◌, take}
use Rattle.blocking_schedule.specs.Places.{sleepers}
use Rattle.blocking_schedule.proofs.place.someone_sleeps.Given as goal

-- none of those so far sleeps
abbrev pub invariant-loop-place : goal.invariant-loop-place
invariant-loop-place l = sleepers (take l.place-index l.threads) ≡ 0
