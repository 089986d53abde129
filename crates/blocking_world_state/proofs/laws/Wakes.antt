-- No wake of a task is lost: a task that waits, and whose job is over, was woken. The job of a call
-- is never parked.
use Rattle.std.proofs.Common.{◌≡◌, ℕ, List, [], Bool, true, false, sym, subst, Option, Some, ◌||◌}
use Rattle.std.proofs.Common.{arith}
use Rattle.std.specs.FinMap.{get}
use Rattle.blocking_world_state.proofs.Types.{Standing, Parked, Act, Moment, ByTask, Ticket, Core}
use Rattle.blocking_world_state.proofs.Words.{Entry, has_finished, has_given_up, holder, is_parked}
use Rattle.blocking_world_state.proofs.Words.{standing, events, acts_of, task_cut, Turn, turn}
use Rattle.blocking_world_state.proofs.Words.{FiledAs, Parts, party_of, is_at_first, CoreAs}
use Rattle.blocking_world_state.proofs.Words.{PlaceAs, Tied}
use Rattle.blocking_world_laws.specs.Wakes.{IsTold, NoLostWake}
use Rattle.blocking_world_holders.proofs.cuts.Acts.{acts_cut}
use Rattle.blocking_world_holders.proofs.ties.Wakes.{told_at}
use Rattle.blocking_world_state.proofs.past.ParkedJobs.{parked_acted}
use Rattle.blocking_world_state.proofs.ties.Jobs.{held_row}
use Rattle.blocking_world_state.proofs.ties.Releases.{task_there}

-- the job of a call that is at its first action hasn't acted
acts_none : (k : ℕ) (c : Core) (acts : List Act) → party_of c ≡ ByTask k → CoreAs c acts
    → (is_at_first c ≡ true) × (has_given_up acts ≡ false) → acts ≡ []
acts_none k c acts party so place = grind arith

-- a job at rest that isn't parked is over, by what was seen of it and what the pool has of it
pub rests_over : (found : Option (Entry Ticket)) (stand : Option Standing)
    (wake cancel mark ended : Bool) (at : Turn) (first : Bool) (acts : List Act)
    → FiledAs found stand wake cancel mark ended
    → PlaceAs stand at first acts → (stand ≡ Some Parked → ⊥) → is_parked stand || ended ≡ true
    → has_finished acts || has_given_up acts ≡ true
rests_over found stand wake cancel mark ended at first acts filed place unparked rest = grind arith

module _ (setting : ℕ) (plan : List Bool) (w : Parts) (past : List Moment)
    (t : Tied setting plan w past) where
  -- the job of a call is never parked
  unparked : (k s : ℕ) → holder past s ≡ Some (ByTask k) → standing past s ≡ Some Parked → ⊥
  unparked k s held parked =
      let row = held_row setting plan w past t s (ByTask k) held in
      let r = t.rowed.each s row.0 row.1 in
      let acts = acts_of s (events past) in
      let place : (is_at_first row.0.core ≡ true) × (has_given_up acts ≡ false) =
      subst (λ o. PlaceAs o (turn past s) (is_at_first row.0.core) acts) parked r.place in
      parked_acted setting plan past t.crewed.laws s parked
      (acts_none k row.0.core acts row.2 r.core place)

  told_of : (k s : ℕ) → holder past s ≡ Some (ByTask k) → IsTold past s (task_cut k s (events past))
  told_of k s held waits rest =
      let task = task_there setting plan w past t k s held in
      let row = held_row setting plan w past t s (ByTask k) held in
      let over = rests_over (get w.crew.pool.jobs s) (standing past s) _ _ _
      _ (turn past s) (is_at_first row.0.core) (acts_of s (events past)) (t.crewed.tied.filed s)
      (t.rowed.each s row.0 row.1).place (unparked k s held) rest in
      told_at task.0 s (task_cut k s (events past)) (t.tasked.each k s task.0 held task.1) waits
      (subst (λ acts. has_finished acts || has_given_up acts ≡ true)
      (sym (acts_cut k s (events past))) over)

  -- no wake of a task is lost
  pub no_lost_wake : NoLostWake past
  no_lost_wake = record { tasks = told_of }
