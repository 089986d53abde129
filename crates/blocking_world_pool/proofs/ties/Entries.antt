-- An entry of the pool by what was seen of its job, over plain values: what it tells, and each kind
-- of change.
use Rattle.std.proofs.Common.{◌≡◌, Bool, true, false, Option, Some, None, ◌&&◌, ◌||◌, not, ℕ}
use Rattle.std.proofs.Common.{option_map, arith}
use Rattle.blocking_world_pool.proofs.Types.{Marked, Standing, Parked, Queued, Running, Ticket}
use Rattle.blocking_world_pool.proofs.Words.{Job as Entry, new_job, entry_after_take}
use Rattle.blocking_world_pool.proofs.Words.{is_running_job, entry_after_requeue, entry_after_park}
use Rattle.blocking_world_pool.proofs.Words.{entry_after_wake, entry_after_cancel, wake_of}
use Rattle.blocking_world_pool.proofs.Words.{cancel_of, new_ticket, is_due_to_sweep, AbsentAs}
use Rattle.blocking_world_pool.proofs.Words.{FiledAs, has_ticket}
use Rattle.blocking_world_laws.specs.Jobs.{is_parked}
use Rattle.blocking_world_pool.proofs.jobs.Marks.{mark_if}

-- ---- what it tells

-- a running job stands so
pub filed_runs : (found : Option (Entry Ticket)) (stand : Option Standing)
    (wake cancel mark ended : Bool) → FiledAs found stand wake cancel mark ended
    → is_running_job found ≡ true → stand ≡ Some Running
filed_runs found stand wake cancel mark ended filed runs = grind arith

-- a job that stands nowhere isn't there
pub filed_none :
    (found : Option (Entry Ticket)) (stand : Option Standing) (wake cancel mark ended : Bool)
    → FiledAs found stand wake cancel mark ended → stand ≡ None → found ≡ None
filed_none found stand wake cancel mark ended filed none = grind arith

-- a sweep puts back what was seen to be parked and marked
pub due_filed : (found : Option (Entry Ticket)) (stand : Option Standing)
    (wake cancel mark ended : Bool) → FiledAs found stand wake cancel mark ended
    → is_due_to_sweep found ≡ (is_parked stand && mark)
due_filed found stand wake cancel mark ended f = grind arith

-- ---- what changes

module _ (wake cancel mark ended : Bool) where
  -- a new job
  pub accepted_filed : (found : Option (Entry Ticket)) (place c : ℕ)
      → FiledAs found None wake cancel mark ended
      → FiledAs (Some (new_job place c new_ticket)) (Some Queued) wake cancel mark ended
  accepted_filed found place c filed = grind arith

  -- a queued job is taken
  pub taken_filed : (found : Option (Entry Ticket))
      → FiledAs found (Some Queued) wake cancel mark ended
      → FiledAs (option_map entry_after_take found) (Some Running) false cancel mark ended
  taken_filed found filed = grind arith

  -- a running job parks
  pub parked_filed : (found : Option (Entry Ticket)) (ticket : Ticket) → ticket.is_marked ≡ mark
      → FiledAs found (Some Running) wake cancel mark ended
      → FiledAs (option_map (entry_after_park ticket) found) (Some Parked) wake cancel mark ended
  parked_filed found ticket marked filed = grind arith

  -- a parked job enters again
  pub requeued_filed : (found : Option (Entry Ticket))
      → FiledAs found (Some Parked) wake cancel mark ended
      → FiledAs (option_map entry_after_requeue found) (Some Queued) wake cancel mark ended
  requeued_filed found filed = grind arith

  -- a wake and a cancel flag a job that is there
  pub woken_filed : (found : Option (Entry Ticket)) (stand : Option Standing)
      → (AbsentAs stand wake cancel mark ended → ⊥) → FiledAs found stand wake cancel mark ended
      → FiledAs (option_map entry_after_wake found) stand true cancel mark ended
  woken_filed found stand there filed = grind arith

  pub cancelled_filed : (found : Option (Entry Ticket)) (stand : Option Standing)
      → (AbsentAs stand wake cancel mark ended → ⊥) → FiledAs found stand wake cancel mark ended
      → FiledAs (option_map entry_after_cancel found) stand wake true mark ended
  cancelled_filed found stand there filed = grind arith

  pub woken_there : (stand : Option Standing) → Marked ≡ wake_of stand
      → AbsentAs stand wake cancel mark ended → ⊥
  woken_there stand answer absent = grind arith

  pub cancelled_there : (stand : Option Standing) → Marked ≡ cancel_of stand
      → AbsentAs stand wake cancel mark ended → ⊥
  cancelled_there stand answer absent = grind arith

-- the ticket of a job is marked where its holder lets it go while it is queued or parked
pub marked_filed : (b held : Bool) (found : Option (Entry Ticket))
    (stand : Option Standing) (wake cancel mark ended : Bool) → (has_ticket stand ≡ true → held ≡ b)
    → (stand ≡ None → held ≡ false)
    → FiledAs found stand wake cancel mark ended
    → FiledAs (option_map (mark_if b) found) stand wake cancel (held && not ended || mark) ended
marked_filed b held found stand wake cancel mark ended same nobody filed = grind arith
