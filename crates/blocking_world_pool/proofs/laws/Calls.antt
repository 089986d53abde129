-- What holds after each call of a crew: the number of a job stays its number, and queued jobs are
-- served.
use Rattle.std.proofs.Common.{◌≡◌, ℕ, List, ◌∷◌, Bool, true, sym, subst, Option, Ok, is_some, arith}
use Rattle.blocking_world_pool.proofs.Types.{Event, Moment, Party, Step}
use Rattle.blocking_world_pool.proofs.Words.{JobNumber, IsPlanned, standing, Crew, Call, Add, Move}
use Rattle.blocking_world_pool.proofs.Words.{call_of, after, May, Moves, IsNumberOf, Served}
use Rattle.blocking_world_pool.proofs.Words.{CrewHolds, seen_as, IsAsked}
use Rattle.blocking_world_pool.proofs.laws.Service.{served_after}
use Rattle.blocking_world_pool.proofs.ties.Numbers.{number_after, number_of_new}

module _ (setting : ℕ) (plan : List Bool) (crew new : Crew)
    (past : List Moment) (call : Call) (e : Event) (h : CrewHolds setting plan crew past)
    (moves : Moves (IsPlanned plan) call crew e new) where
  -- Queued jobs are served, or the last start was refused.
  pub served_moved : (step : Step) (owner : Option ℕ) → IsAsked crew past step call
      → Served setting past → Served setting (seen_as step e owner ∷ past)
  served_moved step owner asked s =
      subst (λ (f : Event). Served setting (seen_as step f owner ∷ past)) (sym moves.event_is)
      (served_after setting plan crew past step owner h s moves.move moves.may
      (subst (IsAsked crew past step) moves.call_is asked))

  -- The number of a job that was accepted stays its number.
  pub number_moved : (number : JobNumber) → is_some (standing past number.serial) ≡ true
      → IsNumberOf crew.pool number → IsNumberOf new.pool number
  number_moved number known placed = grind (arith, number_after)

-- ---- a new job

new_by : (plan : List Bool) (crew : Crew) (party : Party) (client : ℕ) (number : JobNumber)
    (move : Move) → Add party client (Ok number) ≡ call_of move → May (IsPlanned plan) crew move
    → IsNumberOf (after crew move).pool number
new_by plan crew party client number move is may = grind (arith, number_of_new)

-- The number that a new job gets is its number.
pub number_new : (plan : List Bool)
    (crew new : Crew) (party : Party) (client : ℕ) (number : JobNumber) (e : Event)
    → Moves (IsPlanned plan) (Add party client (Ok number)) crew e new → IsNumberOf new.pool number
number_new plan crew new party client number e moves = grind (arith, new_by)
