-- What the worker of a job does next is the same in the parts and by what was seen; and what is its
-- job's own to do can be done.
use Rattle.std.proofs.Common.{◌≡◌, ⊎_elim, ℕ, ◌≤◌, List, [], length, Bool, true, false, refl, sym}
use Rattle.std.proofs.Common.{ap, ◌∙◌, subst, Option, Some, None, slice_get, is_some, arith}
use Rattle.std.proofs.lemmas.Option.{slice_get_cases}
use Rattle.blocking_world_state.proofs.Types.{Running, Act, Moment, Hand}
use Rattle.blocking_world_state.proofs.Types.{Holds, JobInHand, TurnStage}
use Rattle.blocking_world_state.proofs.Types.{SessionJob, Core, Row}
use Rattle.blocking_world_state.proofs.Words.{next_of_job, is_asking, is_over, has_given_up, holder}
use Rattle.blocking_world_state.proofs.Words.{events, acts_of, cut, is_there, kind_by, next_in_turn}
use Rattle.blocking_world_state.proofs.Words.{next_with, next_of_worker, is_job_action, GoesOn}
use Rattle.blocking_world_state.proofs.Words.{turn, hand, hand_at, HandAs, turn_of, Owner, worked}
use Rattle.blocking_world_state.proofs.Words.{JobAs, Task, Parts, row_of, InHand, job_in, job_at}
use Rattle.blocking_world_state.proofs.Words.{next_in, next_at, done_by, done_in, kind_of}
use Rattle.blocking_world_state.proofs.Words.{action_of, is_at_first, call_step, session_step}
use Rattle.blocking_world_state.proofs.Words.{call_done, session_done, done, CoreAs, PlaceAs}
use Rattle.blocking_world_state.proofs.Words.{GaveAs, Tied}
use Rattle.blocking_world_pool.specs.declared.hand.TurnStage.TheVariants as stage
use Rattle.blocking_world_holders.specs.Calls as calls
use Rattle.blocking_world_holders.specs.SessionJobs as jobs
use Rattle.blocking_world_state.specs.Rows.{next_of}
use Rattle.blocking_world_state.specs.declared.row.Core.TheVariants as core
use Rattle.blocking_world_holders.proofs.owners.Actions.{works_some}
use Rattle.blocking_world_state.proofs.rows.SessionJobs.{job_action_is}
use Rattle.blocking_world_state.proofs.ties.Jobs.{its_holder, IsHere, job_here, job_place, hand_job}
use Rattle.blocking_world_state.proofs.ties.Jobs.{next_here}
use Rattle.blocking_world_state.proofs.ties.Releases.{owner_there, task_there}

-- ---- what a job does next

job_next : (c : Core) (acts : List Act) → CoreAs c acts → has_given_up acts ≡ false
    → next_of_job (kind_of c) acts ≡ action_of c
job_next (core.Call k call) acts tie stays = grind arith
job_next (core.Session h job) acts tie stays = sym (job_action_is job acts (tie stays))

-- and so its worker, by where the job is in its turn
stage_next : (at : TurnStage) (c : Core) (acts : List Act) → CoreAs c acts
    → PlaceAs (Some Running) (turn_of at) (is_at_first c) acts → GaveAs at acts
    → next_in_turn (turn_of at) (next_of_job (kind_of c) acts) ≡ next_of at c
stage_next at c acts tie place gave = grind (arith, job_next)

-- ---- what is its job's own

call_some : (at : TurnStage) (k : ℕ) (call : calls.Progress) (all : List Task) (row : List Owner)
    (task : Task) → is_some (call_done k call at all row (Some task) (call_step at call))
    ≡ is_job_action (next_of at (core.Call k call))
call_some at k call all row task = grind arith

-- so it is of a job of any kind
worked_own : (job : SessionJob) (owner : Owner) → (is_asking (jobs.action_of job) ≡ false
    → is_over (jobs.action_of job) ≡ false → is_some (worked job owner) ≡ true)
    → is_some (worked job owner) ≡ is_job_action (next_in_turn GoesOn (jobs.action_of job))
worked_own job owner some = grind arith

-- and so by where the job is in its turn
session_some : (at : TurnStage)
    (h : ℕ) (p : SessionJob) (all : List Task) (row : List Owner) (owner : Owner) → (at ≡ stage.Runs
    → is_some (worked p owner) ≡ is_job_action (next_in_turn GoesOn (jobs.action_of p)))
    → is_some (session_done h p all row (Some owner) (session_step at p))
    ≡ is_job_action (next_of at (core.Session h p))
session_some at h p all row owner works = grind arith

-- ---- in the parts

-- where nothing stands, the list is over
pub missing : {X : Type 0} (xs : List X) (k : ℕ) → slice_get xs k ≡ None → length xs ≤ k
missing xs k none =
    ⊎_elim (λ found. absurd (let some = found.2 in cc)) (λ past. past.0) (slice_get_cases xs k).1

module _ (setting : ℕ) (plan : List Bool) (w : Parts) (past : List Moment)
    (t : Tied setting plan w past) where
  -- nothing was seen of an owner that isn't there
  pub unseen : (h : ℕ) → slice_get w.owners h ≡ None → cut h (events past) ≡ []
  unseen h none = t.owned.unborn h (missing w.owners h none)

  -- the kind of a job is that of its row
  kind_is : (s : ℕ) (row : Row) → row_of w.rows s ≡ Some row
      → kind_by (holder past s) past s ≡ kind_of row.core
  kind_is s row found = (t.rowed.each s row found).kind_is

  next_by_hand : (v : ℕ) (h : Hand) → hand_at w.crew.hands v ≡ h
      → HandAs h (is_there past v) (hand past v) → next_of_worker past v ≡ next_at w v
  next_by_hand v (Holds held) at tie =
      let found = hand_job setting plan w past t v held at in
      let job = found.0 in
      let here = found.1 in
      let s = job.held.turn.serial in
      ap (λ j. next_with j past) (tie.1 ∙ ap (λ (h : JobInHand). Some h.turn.serial) (sym found.2))
      ∙ ap (λ kind. next_in_turn (turn past s) (next_of_job kind (acts_of s (events past))))
      (kind_is s job.row here.has_row)
      ∙ ap (λ u. next_in_turn u (next_of_job (kind_of job.row.core) (acts_of s (events past))))
      (t.crewed.tied.handed.turn_is v job.held here.holds)
      ∙ stage_next job.held.stage job.row.core (acts_of s (events past))
      (t.rowed.each s job.row here.has_row).core (job_place setting plan w past t v job here)
      (t.rowed.in_hand v job.held here.holds)
      ∙ sym (next_here w v job here)
  next_by_hand v _ at tie =
      ap (λ j. next_with j past) tie.1 ∙ sym (ap (λ h. next_in (job_in w.rows h)) at)

  -- A worker does next what the law says.
  pub next_agrees : (v : ℕ) → next_of_worker past v ≡ next_at w v
  next_agrees v = next_by_hand v (hand_at w.crew.hands v) refl (t.crewed.tied.handed.each v)

  job_own : (v : ℕ) (job : InHand) → IsHere w v job
      → is_some (done_by w job) ≡ is_job_action (next_of job.held.stage job.row.core)
  job_own v job here = by job.row.core refl
    where
      s : ℕ
      s = job.held.turn.serial

      acts : List Act
      acts = acts_of s (events past)

      by : (c : Core) → job.row.core ≡ c → is_some (done job.held.stage c w.tasks w.owners)
          ≡ is_job_action (next_of job.held.stage c)
      by (core.Call k call) is =
          let task = task_there setting plan w past t k s
          (its_holder setting plan w past t v job _ here is) in
          ap (λ o. is_some (call_done
          k call job.held.stage w.tasks w.owners o (call_step job.held.stage call))) task.1
          ∙ call_some job.held.stage k call w.tasks w.owners task.0
      by (core.Session h p) is =
          let held = its_holder setting plan w past t v job _ here is in
          let owner = owner_there setting plan w past t h s held in
          ap (λ o. is_some (session_done h p w.tasks w.owners o (session_step job.held.stage p)))
          owner.1
          ∙ session_some job.held.stage h p w.tasks w.owners owner.0
          (λ runs.
          let stays : has_given_up acts ≡ false =
          subst (λ at. PlaceAs (Some Running) (turn_of at) (is_at_first job.row.core) acts) runs
          (job_place setting plan w past t v job here) in
          let tie : CoreAs (core.Session h p) acts =
          subst (λ c. CoreAs c acts) is (t.rowed.each s job.row here.has_row).core in
          worked_own p owner.0
          (works_some owner.0 (cut h (events past)) s p (t.owned.each h owner.0 owner.1)
          (ap (λ who. kind_by who past s) (sym held) ∙ (t.rowed.each s job.row here.has_row).kind_is
          ∙ ap kind_of is)
          (subst (JobAs p) (sym (t.owned.acts h s held)) (tie stays)) (t.owned.begun h s held)))

  -- And a job does something exactly where that is its own to do.
  pub own_is : (v : ℕ) → is_some (done_in w (job_at w v)) ≡ is_job_action (next_at w v)
  own_is v = by (job_at w v) refl
    where
      by : (o : Option InHand) → job_at w v ≡ o → is_some (done_in w o) ≡ is_job_action (next_in o)
      by None is = refl
      by (Some job) is = job_own v job (job_here w v job is)
