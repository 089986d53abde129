-- The law of turns holds at each move.
use Rattle.std.proofs.Common.{◌≡◌, ℕ, List, Bool, true, false, Option, Some, None, Ok, arith}
use Rattle.blocking_world_pool.proofs.Types.{Stay, WorkerPass, Act, Moment, Party, Step, Free}
use Rattle.blocking_world_pool.proofs.Types.{Holds, JobInHand, Ticket}
use Rattle.blocking_world_pool.proofs.Words.{Growth, JobNumber, is_in, IsPlanned, running, hand}
use Rattle.blocking_world_pool.proofs.Words.{TurnLaw, Crew, hand_at, Move, Adds, TakesJob, Works}
use Rattle.blocking_world_pool.proofs.Words.{EndsTurn, Parks, HasWaited, IsLetGo, Tells, next_start}
use Rattle.blocking_world_pool.proofs.Words.{May, no_growth, JobPool, TakesFront, CrewHolds}
use Rattle.blocking_world_pool.proofs.Words.{moment_of}
use Rattle.blocking_world_pool.specs.declared.tickets.Parking.TheVariants as parking
use Rattle.blocking_world_pool.proofs.ties.Acts.{now_with, plain, aside_plain, by_let_go}
use Rattle.blocking_world_pool.proofs.ties.Hands.{hand_seen}
use Rattle.blocking_world_pool.proofs.ties.Standings.{front_rests}

module _ (setting : ℕ) (plan : List Bool) (crew : Crew) (past : List Moment) (step : Step)
    (owner : Option ℕ) (h : CrewHolds setting plan crew past) where
  abbrev now : Party → Option ℕ → Act → Growth → Moment
  now who job act growth = now_with step owner who job act (next_start crew) growth

  -- a job that is taken is in no hand, and doesn't run
  taken : (v : ℕ) (old : WorkerPass) (number : JobNumber) (value : Ticket)
      (to_drop : Bool) (growth : Growth) (pool : JobPool) → hand_at crew.hands v ≡ Free old
      → TakesFront (IsPlanned plan) crew.pool number value to_drop growth pool
      → (hand past v ≡ None) × (is_in number.serial (running past) ≡ false)
  taken v old number value to_drop growth pool at front = (
    (hand_seen setting plan crew past step owner h v (Free old) at).1,
    front_rests setting plan
        crew past h (IsPlanned plan) number value to_drop growth pool front,
  )

  -- the job in a hand was seen there
  its_job : (v : ℕ) (held : JobInHand) → hand_at crew.hands v ≡ Holds held
      → hand past v ≡ Some held.turn.serial
  its_job v held at = (hand_seen setting plan crew past step owner h v (Holds held) at).1

  -- a job in its hand does what fits its turn
  works : (v : ℕ) (held : JobInHand) (act : Act) → May (IsPlanned plan) crew (Works v held act)
      → TurnLaw past (moment_of crew (Works v held act) step owner)
  works v held act may = grind arith

  -- The law of turns holds at each move.
  pub turn_law : (move : Move) → May (IsPlanned plan) crew move
      → TurnLaw past (moment_of crew move step owner)
  turn_law (Adds who c (Ok number) growth pool) may = record { one = tt; acts = tt }
  turn_law (TakesJob v old true number ticket growth pool) may =
      record { one = taken v old number ticket true growth pool may.0 may.1; acts = tt }
  turn_law (TakesJob v old false number ticket growth pool) may =
      record { one = taken v old number ticket false growth pool may.0 may.1; acts = tt }
  turn_law (Works v held act) may = works v held act may
  turn_law (EndsTurn v held pass) may = record { one = its_job v held may.0; acts = tt }
  turn_law (Parks v held ticket (parking.Parked pass) pool) may =
      record { one = its_job v held may.0; acts = tt }
  turn_law (Parks v held ticket _ pool) may = record { one = its_job v held may.0; acts = tt }
  turn_law (HasWaited v pass end (Stay back) growth pool) may = record { one = tt; acts = tt }
  turn_law (IsLetGo who act number) may =
      by_let_go (λ act. TurnLaw past (now who None act no_growth)) (record { one = tt; acts = tt })
      (record { one = tt; acts = tt }) act may
  turn_law (Tells who act) may = record {
    one = (plain setting past step owner who None
        (next_start crew) no_growth act (aside_plain act may)).one;
    acts = tt;
  }
  turn_law _ may = record { one = tt; acts = tt }
