-- What an act of the job in a hand leaves of it: how far its core is, where it is in its turn, and
-- of whom it is.
use Rattle.std.proofs.Common.{◌≡◌, ℕ, List, [], ◌∷◌, Bool, true, false, refl, sym, ap, ◌∙◌, subst}
use Rattle.std.proofs.Common.{Option, Some, None, if◌then◌else◌, ◌&&◌, slice_get, arith}
use Rattle.blocking_world_state.proofs.Types.{Action, Standing, Queued, Running, Act, Answered}
use Rattle.blocking_world_state.proofs.Types.{JobParked, Moment, HandleAnswer}
use Rattle.blocking_world_state.proofs.Types.{TurnStage, SessionJob, Core}
use Rattle.blocking_world_state.proofs.Words.{next_but_wake, next_of_job, is_answer, has_given_up}
use Rattle.blocking_world_state.proofs.Words.{accepted_by, holder, ends_for_good, sweeps, stands_by}
use Rattle.blocking_world_state.proofs.Words.{is_parked, events, is_of_pool, is_nothing, acts_of}
use Rattle.blocking_world_state.proofs.Words.{next_in_turn, is_answered_action, is_making, GoesOn}
use Rattle.blocking_world_state.proofs.Words.{turn_by, may_act, stage_after, turn_of, RanAs, Owner}
use Rattle.blocking_world_state.proofs.Words.{Worked, worked, JobAs, Task, Parts, party_of}
use Rattle.blocking_world_state.proofs.Words.{kind_of as kind_in_row, call_action, action_of}
use Rattle.blocking_world_state.proofs.Words.{is_first, is_at_first, call_step, session_step, Done}
use Rattle.blocking_world_state.proofs.Words.{call_done, session_seen, session_done, done}
use Rattle.blocking_world_state.proofs.Words.{core_after_answer, CoreAs, PlaceAs, GaveAs, Tied}
use Rattle.blocking_world_pool.specs.declared.hand.TurnStage.TheVariants as stage
use Rattle.blocking_world_holders.specs.Calls as calls
use Rattle.blocking_world_holders.specs.OwnerSteps as owners
use Rattle.blocking_world_holders.specs.SessionJobs as jobs
use Rattle.blocking_world_holders.specs.SessionJobs.{kind_of}
use Rattle.blocking_world_state.specs.declared.row.Core.TheVariants as core
use Rattle.blocking_world_holders.proofs.owners.Jobs.{worked_on}
use Rattle.blocking_world_holders.proofs.owners.Polls.{value_of}
use Rattle.blocking_world_state.proofs.moves.SessionActs.{first_where_parked, same_kind}
use Rattle.blocking_world_state.proofs.rows.SessionJobs.{answer_of, first_of_table, job_action_is}
use Rattle.blocking_world_state.proofs.rows.SessionJobs.{job_answers, kind_answered}

-- ---- its turn

-- An act of a job is none of the pool's: no owner is made by it, no job is accepted or ended, and
-- it leaves how each stands.
pub record IsOwnAct (act : Act) : Type 0 where
  pub pool : is_of_pool act ≡ false
  pub something : is_nothing act ≡ false
  pub made : is_making act ≡ false
  pub accepted : accepted_by act ≡ []
  pub ended : (s : ℕ) → ends_for_good act s ≡ false
  pub stays : (s : ℕ) (stand : Option Standing) (mark : Bool)
      → (if sweeps act && is_parked stand && mark then Some Queued else stands_by act s stand)
      ≡ stand

-- where the job is in its turn after that, where one that parks is at its first action
abbrev Goes : Act → Type 0
Goes act = (s : ℕ) (first : Bool) (acts : List Act)
    → (act ≡ JobParked → first ≡ true) → has_given_up acts ≡ false
    → PlaceAs (Some Running) (turn_by act true s GoesOn) first (act ∷ acts)

-- an act that it may do is its own
pub own_act : (at : TurnStage) (act : Act) → may_act at act ≡ true → IsOwnAct act
own_act at act fits = grind arith

pub place_acted : (at : TurnStage) (act : Act) (s : ℕ) (before first : Bool) (acts : List Act)
    → may_act at act ≡ true → (act ≡ JobParked → first ≡ true)
    → PlaceAs (Some Running) (turn_of at) before acts
    → PlaceAs (Some Running) (turn_by act true s (turn_of at)) first (act ∷ acts)
place_acted at act s before first acts fits parks place = grind arith

-- and what it has left to do, once it gave up
pub gave_acted : (at : TurnStage) (act : Act) (acts : List Act) → may_act at act ≡ true
    → GaveAs at acts
    → GaveAs (stage_after act at) (act ∷ acts)
gave_acted at act acts fits gave = grind arith

-- ---- its core

-- An act leaves a job with the same holder, as far as its core says; and one that parks is at its
-- first action again.
pub record Leaves (old new : Core) (act : Act) (acts : List Act) : Type 0 where
  pub party : party_of new ≡ party_of old
  pub kind : kind_in_row new ≡ kind_in_row old
  pub core : CoreAs new (act ∷ acts)
  pub parks : act ≡ JobParked → is_at_first new ≡ true

abbrev LeavesSo : Core → List Act → Done → Type 0
LeavesSo old acts did = Leaves old did.core did.act acts

abbrev call_by_parts : Action → ℕ → calls.Progress
call_by_parts next n = record { next = next; number = n }

call_leaves : (at : TurnStage) (k : ℕ) (next : Action)
    (n : ℕ) (all : List Task) (row : List Owner) (task : Option Task) (did : Done) (acts : List Act)
    → (has_given_up acts ≡ false → RanAs next n acts)
    → PlaceAs (Some Running) (turn_of at) (is_first (call_action next)) acts → call_done k
    (call_by_parts next n) at all row task (call_step at (call_by_parts next n)) ≡ Some did
    → LeavesSo (core.Call k (call_by_parts next n)) acts did
call_leaves at k next n all row task did acts ran place is = grind arith

-- the job of a session, where what it works goes on by its table
module _ (h : ℕ) (job : SessionJob) (owner : Owner) (did : Done)
    (acts : List Act) (goes : JobAs job acts → (done : Worked) → worked job owner ≡ Some done
    → JobAs done.job (done.act ∷ acts)) where
  -- one that parks was at its first action, and is there again
  parked_first : JobAs job acts → (done : Worked)
      → worked job owner ≡ Some done → done.act ≡ JobParked → kind_of done.job ≡ kind_of job
      → is_first (jobs.action_of done.job) ≡ true
  parked_first tied done is parks kind =
      ap is_first
      (job_action_is done.job (done.act ∷ acts) (goes tied done is) ∙ ap (λ (act : Act). next_of_job
      (kind_of done.job) (act ∷ acts)) parks ∙ ap (λ k. next_but_wake k acts) kind)
      ∙ first_of_table job acts tied (first_where_parked job owner done is parks)

  session_leaves : (at : TurnStage) (all : List Task) (row : List Owner)
      → (has_given_up acts ≡ false → JobAs job acts)
      → PlaceAs (Some Running) (turn_of at) (is_first (jobs.action_of job)) acts
      → session_done h job all row (Some owner) (session_step at job) ≡ Some did
      → LeavesSo (core.Session h job) acts did
  session_leaves stage.Runs all row ran place is = by (worked job owner) refl is
    where
      by : (o : Option Worked) → worked job owner ≡ o
          → session_seen h job all row owner (owners.Works job) (owners.act_of_work o) ≡ Some did
          → LeavesSo (core.Session h job) acts did
      by None found is = absurd cc
      by (Some done) found is =
          subst (LeavesSo (core.Session h job) acts) (ap (value_of did) is)
          (subst (λ o. Leaves (core.Session h job) (core.Session h (owners.job_after_work o job))
          done.act acts) (sym found)
          (record {
            party = refl;
            kind = same_kind job owner done found;
            core = λ going. goes (ran place) done found;
            parks = λ parks.
                parked_first (ran place) done found parks (same_kind job owner done found);
          }))
  session_leaves stage.MustGiveUp all row ran place is =
      subst (LeavesSo (core.Session h job) acts) (ap (value_of did) is) (record {
        party = refl;
        kind = refl;
        core = λ going. absurd cc;
        parks = λ parks. absurd cc;
      })
  session_leaves stage.MustWake all row ran place is =
      subst (LeavesSo (core.Session h job) acts) (ap (value_of did) is)
      (record {
        party = refl;
        kind = refl;
        core = λ going. let over : has_given_up acts
            ≡ true = place in absurd cc;
        parks = λ parks. absurd cc;
      })
  session_leaves _ all row ran place is = absurd cc

-- a job that acts by itself
pub done_leaves : (setting : ℕ) (plan : List Bool) (w : Parts)
    (past : List Moment) (t : Tied setting plan w past) (at : TurnStage) (s : ℕ) (c : Core)
    (did : Done)
    → CoreAs c (acts_of s (events past))
    → PlaceAs (Some Running) (turn_of at) (is_at_first c) (acts_of s (events past))
    → holder past s ≡ Some (party_of c) → done at c w.tasks w.owners ≡ Some did
    → Leaves c did.core did.act (acts_of s (events past))
done_leaves setting plan w past t at s (core.Call k call) did ran place held is =
    call_leaves at k call.next call.number w.tasks w.owners (slice_get w.tasks k) did
    (acts_of s (events past)) ran place is
done_leaves setting plan w past t at s (core.Session h job) did ran place held is =
    by (slice_get w.owners h) refl is
  where
    by : (o : Option Owner) → slice_get w.owners h ≡ o
        → session_done h job w.tasks w.owners o (session_step at job) ≡ Some did
        → LeavesSo (core.Session h job) (acts_of s (events past)) did
    by None found is = absurd cc
    by (Some owner) found is =
        session_leaves h job owner did (acts_of s (events past)) (λ tied done works. worked_on job
        (acts_of s (events past)) owner done tied works) at w.tasks w.owners ran place is

-- a job that is answered
call_answered : (k : ℕ) (next : Action) (n : ℕ) (answer : HandleAnswer) (acts : List Act)
    → (has_given_up acts ≡ false → RanAs next n acts) → has_given_up acts ≡ false
    → is_answer (call_action next) answer ≡ true
    → Leaves (core.Call k (call_by_parts next n))
    (core_after_answer answer (core.Call k (call_by_parts next n))) (Answered answer) acts
call_answered k next n answer acts ran going is = grind arith

pub answer_leaves : (c : Core) (answer : HandleAnswer) (acts : List Act)
    → CoreAs c acts → has_given_up acts ≡ false
    → is_answered_action (next_in_turn GoesOn (action_of c)) answer ≡ true
    → Leaves c (core_after_answer answer c) (Answered answer) acts
answer_leaves c answer acts ran going is =
    grind (arith, call_answered, answer_of, kind_answered, job_answers)
