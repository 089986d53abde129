-- Who let a job go: the parts have it as it was seen, and so has the ticket of a job that parks.
use Rattle.std.proofs.Common.{◌≡◌, ℕ, ◌<◌, List, [], length, Bool, true, false, refl, sym, ap, ◌∙◌}
use Rattle.std.proofs.Common.{arith, Option, Some, nat_lt, slice_get}
use Rattle.std.specs.Cmp.{both_ways}
use Rattle.std.specs.FinMap.{get}
use Rattle.std.proofs.lemmas.Bool.{or_right}
use Rattle.std.proofs.lemmas.Bool.Decides.{nat_tests}
use Rattle.blocking_world_state.proofs.Types.{Standing, Running, Moment, ByOwner, ByTask, Ticket}
use Rattle.blocking_world_state.proofs.Types.{Core, Row}
use Rattle.blocking_world_state.proofs.Words.{Entry, is_in, holder, is_cancelled, has_ended}
use Rattle.blocking_world_state.proofs.Words.{is_marked, standing, events, cut, own, jobs_of}
use Rattle.blocking_world_state.proofs.Words.{may_cancel, is_let_go, FiledAs, Owner, Task, Parts}
use Rattle.blocking_world_state.proofs.Words.{row_of, InHand, task_let_go, owner_let_go, let_go_of}
use Rattle.blocking_world_state.proofs.Words.{party_of, Tied}
use Rattle.blocking_world_state.specs.declared.row.Core.TheVariants as core
use Rattle.blocking_world_pool.proofs.ties.Standings.{held_runs}
use Rattle.blocking_world_holders.proofs.cuts.Acts.{own_cut}
use Rattle.blocking_world_state.proofs.moves.Lookups.{there}
use Rattle.blocking_world_state.proofs.ties.Jobs.{IsHere}

-- a job that runs isn't over
goes_on : (found : Option (Entry Ticket)) (stand : Option Standing) (wake cancel mark ended : Bool)
    → stand ≡ Some Running → FiledAs found stand wake cancel mark ended → ended ≡ false
goes_on found stand wake cancel mark ended runs filed = grind arith

module _ (setting : ℕ) (plan : List Bool) (w : Parts) (past : List Moment)
    (t : Tied setting plan w past) where
  -- who holds a job is there
  pub owner_there : (h s : ℕ) → holder past s ≡ Some (ByOwner h)
      → (owner : Owner) × (slice_get w.owners h ≡ Some owner)
  owner_there h s held = there w.owners h (by (nat_lt h (length w.owners)) refl)
    where
      by : (b : Bool) → nat_lt h (length w.owners) ≡ b → h < length w.owners
      by true within = grind (arith, nat_tests)
      by false beyond =
          let none : cut h (events past) ≡ [] = t.owned.unborn h (grind (arith, nat_tests)) in
          let among : is_in s (jobs_of (own [])) ≡ true =
          ap (λ c. is_in s (jobs_of (own c))) (sym none) ∙ t.owned.begun h s held in
          absurd cc

  pub task_there : (k s : ℕ) → holder past s ≡ Some (ByTask k)
      → (task : Task) × (slice_get w.tasks k ≡ Some task)
  task_there k s held = there w.tasks k (t.tasked.there k s held)

  -- and has let go of it, as it was seen
  pub let_go_is : (s : ℕ) (row : Row) → row_of w.rows s ≡ Some row
      → let_go_of w row.core ≡ may_cancel (holder past s) past
  let_go_is s row found = by row.core (t.rowed.each s row found).held_by
    where
      by : (c : Core) → holder past s ≡ Some (party_of c)
          → let_go_of w c ≡ may_cancel (holder past s) past
      by (core.Call k call) held =
          let task = task_there k s held in
          let tie = t.tasked.each k s task.0 held task.1 in
          ap task_let_go task.1 ∙ sym tie.let_go ∙ ap is_let_go (own_cut k s (events past))
          ∙ sym (ap (λ o. may_cancel o past) held)
      by (core.Session h read) held =
          let owner = owner_there h s held in
          ap owner_let_go owner.1 ∙ sym (t.owned.each h owner.0 owner.1).gone.0
          ∙ sym (ap (λ o. may_cancel o past) held)

  -- the job in a hand is marked exactly if its holder let it go
  pub mark_is : (v : ℕ) (job : InHand) → IsHere w v job
      → let_go_of w job.row.core ≡ is_marked past job.held.turn.serial
  mark_is v job here =
      let s = job.held.turn.serial in
      let goes : has_ended past s ≡ false =
      goes_on (get w.crew.pool.jobs s) (standing past s) _ _ _ _ (held_runs setting plan w.crew past
      t.crewed v job.held here.holds) (t.crewed.tied.filed s) in
      let_go_is s job.row here.has_row
      ∙ both_ways
      (may_cancel (holder past s) past) (is_marked past s) (λ may. t.marks.marked s may goes)
      (λ marked. t.marks.let_go s (or_right (is_cancelled past s) (is_marked past s) marked))
