-- What is known of jobs, rows, tasks and owners where the parts hang together with what was seen.
use Rattle.std.proofs.Common.{◌≡◌, ℕ, ◌+◌, ◌-◌, ◌==◌, ◌<◌, List, length, Bool, true, false, refl}
use Rattle.std.proofs.Common.{sym, ap, ◌∙◌, subst, arith, Option, Some, None, ◌&&◌, not, nat_lt}
use Rattle.std.proofs.Common.{slice_get, is_some}
use Rattle.std.proofs.lemmas.Bool.Decides.{nat_tests}
use Rattle.std.proofs.lemmas.Option.{slice_get_within}
use Rattle.blocking_world_state.proofs.Types.{Running, Moment, Party, ByOwner, ByTask, Hand, Holds}
use Rattle.blocking_world_state.proofs.Types.{JobInHand, Core, Row}
use Rattle.blocking_world_state.proofs.Words.{JobNumber, holder, standing, events, acts_of}
use Rattle.blocking_world_state.proofs.Words.{task_cut, cut, hand_at, IsNumberOf, turn_of, OwnerAs}
use Rattle.blocking_world_state.proofs.Words.{Owner, number_of, Task, TaskAs, Parts, row_of, InHand}
use Rattle.blocking_world_state.proofs.Words.{job_with, job_in, job_at, next_in, next_at, party_of}
use Rattle.blocking_world_state.proofs.Words.{is_at_first, PlaceAs, Tied}
use Rattle.blocking_world_state.specs.Rows.{next_of}
use Rattle.blocking_world_pool.proofs.ties.Standings.{fresh, accepted_in, known_is, held_runs}
use Rattle.blocking_world_state.proofs.moves.Lookups.{there, row_found, row_at}
use Rattle.blocking_world_state.proofs.past.Holders.{holder_known}

-- ---- the job in a hand

-- A job in the hand of worker v, with its row.
pub record IsHere (w : Parts) (v : ℕ) (job : InHand) : Type 0 where
  pub holds : hand_at w.crew.hands v ≡ Holds job.held
  pub has_row : row_of w.rows job.held.turn.serial ≡ Some job.row

here_in : (w : Parts) (v : ℕ) (job : InHand) (hand : Hand) → hand_at w.crew.hands v ≡ hand
    → job_in w.rows hand ≡ Some job → IsHere w v job
here_in w v job hand at is = grind arith

pub job_here : (w : Parts) (v : ℕ) (job : InHand) → job_at w v ≡ Some job → IsHere w v job
job_here w v job is = here_in w v job (hand_at w.crew.hands v) refl is

pub here_is : (w : Parts) (v : ℕ) (job : InHand) → IsHere w v job → job_at w v ≡ Some job
here_is w v job h = ap (job_in w.rows) h.holds ∙ ap (job_with job.held) h.has_row

-- what its worker does next with it
pub next_here : (w : Parts) (v : ℕ) (job : InHand) → IsHere w v job
    → next_at w v ≡ next_of job.held.stage job.row.core
next_here w v job here = ap next_in (here_is w v job here)

-- ---- rows, tasks and owners

module _ (setting : ℕ) (plan : List Bool) (w : Parts) (past : List Moment)
    (t : Tied setting plan w past) where
  -- the next row is that of the next job
  pub next_row : w.crew.pool.next_serial ≡ length w.rows + 1
  next_row = let n = t.crewed.tied.numbered.next in let c = t.rowed.count in omega (arith, n, c)

  -- a job that stands somewhere has its row, and only such a job
  pub has_row : (s : ℕ) → is_some (standing past s) ≡ true
      → (row : Row) × (row_of w.rows s ≡ Some row)
  has_row s some =
      let known : (not (0 == s) && nat_lt s w.crew.pool.next_serial) ≡ true =
      sym (known_is setting plan w.crew past t.crewed s) ∙ some in
      let positive : 0 < s = grind (arith, nat_tests) in
      let within : s < w.crew.pool.next_serial = grind (arith, nat_tests) in
      let next = next_row in
      let row = there w.rows (s - 1) (omega (arith, positive, within, next)) in
      (row.0, row_at w.rows s row.0 positive row.1)

  pub row_known : (s : ℕ) (row : Row) → row_of w.rows s ≡ Some row
      → is_some (standing past s) ≡ true
  row_known s row found =
      let at = row_found w.rows s row found in
      let within = slice_get_within w.rows (s - 1) row at.1 in
      let positive = at.0 in
      let next = next_row in
      known_is setting plan w.crew past t.crewed s ∙ grind (arith, nat_tests)

  -- and a job stands somewhere exactly if it has a holder, which its row tells
  pub holder_stands : (s : ℕ) → is_some (holder past s) ≡ is_some (standing past s)
  holder_stands s = holder_known past s ∙ accepted_in setting plan w.crew past t.crewed s

  pub held_row : (s : ℕ) (who : Party) → holder past s ≡ Some who
      → (row : Row) × (row_of w.rows s ≡ Some row) × (party_of row.core ≡ who)
  held_row s who held =
      let row = has_row s (sym (holder_stands s) ∙ ap is_some held) in
      let same : Some (party_of row.0.core) ≡ Some who =
      sym (t.rowed.each s row.0 row.1).held_by ∙ held in
      (row.0, row.1, cc)

  -- what is in a hand has its row
  pub hand_job : (v : ℕ) (held : JobInHand) → hand_at w.crew.hands v ≡ Holds held
      → (job : InHand) × IsHere w v job × (job.held ≡ held)
  hand_job v held at =
      let row = has_row held.turn.serial
      (ap is_some (held_runs setting plan w.crew past t.crewed v held at)) in
      (record { held = held; row = row.0 }, record { holds = at; has_row = row.1 }, refl)

  -- who holds the job in a hand, and how far it is
  pub its_holder : (v : ℕ) (job : InHand) (c : Core) → IsHere w v job → job.row.core ≡ c
      → holder past job.held.turn.serial ≡ Some (party_of c)
  its_holder v job c here is = (t.rowed.each job.held.turn.serial job.row here.has_row).held_by
      ∙ ap (λ c. Some (party_of c)) is

  pub job_place : (v : ℕ) (job : InHand)
      → IsHere w v job → PlaceAs (Some Running) (turn_of job.held.stage) (is_at_first job.row.core)
      (acts_of job.held.turn.serial (events past))
  job_place v job here =
      let s = job.held.turn.serial in
      let first = is_at_first job.row.core in
      subst (λ o. PlaceAs o (turn_of job.held.stage) first (acts_of s (events past)))
      (held_runs setting plan w.crew past t.crewed v job.held here.holds)
      (subst (λ at. PlaceAs (standing past s) at first (acts_of s (events past)))
      (t.crewed.tied.handed.turn_is v job.held here.holds)
      (t.rowed.each s job.row here.has_row).place)

  -- nobody holds the next job
  pub next_free : holder past w.crew.pool.next_serial ≡ None
  next_free = none_by (holder past w.crew.pool.next_serial)
      (holder_stands w.crew.pool.next_serial ∙ ap is_some (fresh setting plan w.crew past t.crewed))
    where
      none_by : (o : Option Party) → is_some o ≡ false → o ≡ None
      none_by o is = grind arith

  -- a task holds the job of its number, which is that number of the pool's, and is tied to the cut
  -- of both
  pub task_holds : (k : ℕ) (task : Task) → slice_get w.tasks k ≡ Some task
      → holder past task.number.serial ≡ Some (ByTask k)
  task_holds k task found =
      let has = t.rowed.of_task k task found in
      (t.rowed.each task.number.serial has.row has.found).held_by ∙ ap Some has.its

  pub task_number : (k : ℕ) (task : Task) → slice_get w.tasks k ≡ Some task
      → IsNumberOf w.crew.pool task.number
  task_number k task found =
      let has = t.rowed.of_task k task found in
      subst (IsNumberOf w.crew.pool) has.same
      (t.rowed.each task.number.serial has.row has.found).number

  pub task_tie : (k : ℕ) (task : Task) → slice_get w.tasks k ≡ Some task
      → TaskAs task task.number.serial (task_cut k task.number.serial (events past))
  task_tie k task found = t.tasked.each k task.number.serial task (task_holds k task found) found

  -- and so does an owner that of its last session
  pub owner_holds : (h : ℕ) (owner : Owner) (number : JobNumber) → slice_get w.owners h ≡ Some owner
      → number_of owner ≡ Some number → holder past number.serial ≡ Some (ByOwner h)
  owner_holds h owner number found is =
      let has = t.rowed.of_owner h owner number found is in
      (t.rowed.each number.serial has.row has.found).held_by ∙ ap Some has.its

  pub owner_number : (h : ℕ) (owner : Owner) (number : JobNumber)
      → slice_get w.owners h ≡ Some owner → number_of owner ≡ Some number
      → IsNumberOf w.crew.pool number
  owner_number h owner number found is =
      let has = t.rowed.of_owner h owner number found is in
      subst (IsNumberOf w.crew.pool) has.same (t.rowed.each number.serial has.row has.found).number

  pub owner_tie : (h : ℕ) (owner : Owner) → slice_get w.owners h ≡ Some owner
      → OwnerAs owner (cut h (events past))
  owner_tie h owner found = t.owned.each h owner found
