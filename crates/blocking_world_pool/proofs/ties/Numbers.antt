-- The number of a job stays its number, whatever the crew does.
use Rattle.std.proofs.Common.{◌≡◌, ℕ, List, Bool, true, refl, sym, ap, ◌∙◌, Option, Some, None, Ok}
use Rattle.std.proofs.Common.{option_map, is_some, arith}
use Rattle.std.specs.FinMap.{get}
use Rattle.std.proofs.lemmas.Bool.{cond_both}
use Rattle.blocking_world_pool.proofs.Types.{Moment, Ticket}
use Rattle.blocking_world_pool.proofs.Words.{Growth, JobNumber, Job as Entry, IsPlanned, standing}
use Rattle.blocking_world_pool.proofs.Words.{Crew, Move, after, May, JobPool, AddsTo, IsNumberOf}
use Rattle.blocking_world_pool.proofs.Words.{CrewHolds}
use Rattle.blocking_world_pool.proofs.jobs.Changes.{change_of, found_after}
use Rattle.blocking_world_pool.proofs.jobs.Lookups.{job_put}
use Rattle.blocking_world_pool.proofs.jobs.Marks.{mark_by}
use Rattle.blocking_world_pool.proofs.ties.Standings.{fresh}

-- the place of a job, where it is there
abbrev place_of : Option (Entry Ticket) → Option ℕ
place_of None = None
place_of (Some entry) = Some entry.place

-- a job is where it was, or has gone
abbrev Stays : Option (Entry Ticket) → Option (Entry Ticket) → Type 0
Stays old new = (entry : Entry Ticket) → new ≡ Some entry → place_of old ≡ Some entry.place

stays : (old new : Option (Entry Ticket)) → place_of new ≡ place_of old → Stays old new
stays old new same entry is = sym same ∙ ap place_of is

-- a change that leaves a job where it is
same_place : (change : Entry Ticket → Entry Ticket)
    → ((entry : Entry Ticket) → (change entry).place ≡ entry.place)
    → (found : Option (Entry Ticket)) → place_of (option_map change found) ≡ place_of found
same_place change same found = grind arith

mark_place : (value : Option Ticket) (entry : Entry Ticket)
    → (mark_by value entry).place ≡ entry.place
mark_place value entry = grind arith

-- so its number stays its number
number_by : (found : Option (Entry Ticket)) (place other : ℕ) → place_of found ≡ Some other
    → ((entry : Entry Ticket) → found ≡ Some entry → entry.place ≡ place) → other ≡ place
number_by found place other is placed = grind arith

-- the number of a new job is its number
pub number_of_new :
    (plan : List Bool) (old new : JobPool) (client : ℕ) (number : JobNumber) (growth : Growth)
    → AddsTo (IsPlanned plan) old client (Ok number) growth new → IsNumberOf new number
number_of_new plan old new client number growth adds entry found = grind (arith, job_put)

module _ (setting : ℕ) (plan : List Bool) (crew : Crew) (past : List Moment)
    (h : CrewHolds setting plan crew past) (number : JobNumber) where
  abbrev s : ℕ
  s = number.serial

  -- what becomes of it at a move at which it changes
  becomes_stays : (move : Move) → May (IsPlanned plan) crew move
      → is_some (standing past s) ≡ true → (change_of crew move).which s ≡ true
      → Stays (get crew.pool.jobs s) ((change_of crew move).becomes (get crew.pool.jobs s))
  becomes_stays move may known is = grind (arith, fresh, stays, same_place, mark_by, mark_place)

  -- The number of a job that was accepted stays its number, at every move.
  pub number_after : (move : Move) → May (IsPlanned plan) crew move
      → is_some (standing past number.serial) ≡ true → IsNumberOf crew.pool number
      → IsNumberOf (after crew move).pool number
  number_after move may known placed entry found =
      let change = change_of crew move in
      number_by (get crew.pool.jobs s) number.place entry.place
      (cond_both (change.which s) (change.becomes (get crew.pool.jobs s)) (get crew.pool.jobs s)
      (Stays (get crew.pool.jobs s)) (becomes_stays move may known) (λ is. stays _ _ refl)
      entry
      (sym (found_after (IsPlanned plan) crew move s may) ∙ found))
      placed
