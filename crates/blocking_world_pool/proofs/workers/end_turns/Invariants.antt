-- The hands so far hold no job, and all still fit the pool.
use Rattle.std.specs.List.{AllWithin}
use Rattle.blocking_world_pool.proofs.Words.{IsReady}
use Rattle.blocking_world_pool.proofs.closing.Hands.{HoldsNone}
use Rattle.blocking_world_pool.proofs.workers.end_turns.Given as goal

abbrev pub invariant-loop-place : goal.invariant-loop-place
invariant-loop-place l =
    IsReady (record { pool = l.tickets; hands = l.hands }) × AllWithin HoldsNone l.hands 0 l.place
