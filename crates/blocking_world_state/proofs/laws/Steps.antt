-- What is seen of a move is of its step, as the law of steps has it, with those of owners.
use Rattle.std.proofs.Common.{◌≡◌, ℕ, ◌+◌, ◌-◌, List, length, Bool, true, false, refl, sym, ap, ◌∙◌}
use Rattle.std.proofs.Common.{subst, arith, Option, Some, None, if◌then◌else◌, nat_lt, not, ◌==◌}
use Rattle.std.proofs.Common.{slice_get, slice_set, is_some, IfSome, ◌<◌, Result}
use Rattle.std.proofs.lemmas.Bool.Decides.{nat_tests}
use Rattle.blocking_world_state.proofs.Types.{Refusal, Stay, Stop, Act, Arrived, Asked, Made}
use Rattle.blocking_world_state.proofs.Types.{NoAction, Event, Moment, Party, ByOwner, Worker}
use Rattle.blocking_world_state.proofs.Types.{HandleAnswer, Step, Arrive, Ask, Copy, End, Late}
use Rattle.blocking_world_state.proofs.Types.{SetClientLimit, SetLimit, Sweep, Take, Wait, TaskCall}
use Rattle.blocking_world_state.proofs.Types.{Holds, JobInHand, Parking}
use Rattle.blocking_world_state.proofs.Types.{OwnerNext, OwnerStage, Core}
use Rattle.blocking_world_state.proofs.Types.{Row}
use Rattle.blocking_world_state.proofs.Words.{Growth, JobNumber, arrivals, IsPlanned, holder}
use Rattle.blocking_world_state.proofs.Words.{as_owner, is_of_pool, is_nothing, is_there}
use Rattle.blocking_world_state.proofs.Words.{is_turn_end, has_action, named, party, job_of}
use Rattle.blocking_world_state.proofs.Words.{IsBegun, IsOfTask, IsEndOf, Fits, Happens, StepLaw}
use Rattle.blocking_world_state.proofs.Words.{hand, hand_at, is_free_hand, added_act, parked_act}
use Rattle.blocking_world_state.proofs.Words.{HandAs, Acts, act_in, Owner, note_at, next_of, Did}
use Rattle.blocking_world_state.proofs.Words.{did_by, did, Session, Task, task_act, Move, Idles}
use Rattle.blocking_world_state.proofs.Words.{Makes, Asks, Owns, Lends, Delivers, IsDropped, Begins}
use Rattle.blocking_world_state.proofs.Words.{Calls, Works, IsAnswered, Parks, Passes, IsWoken}
use Rattle.blocking_world_state.proofs.Words.{IsStruck, Notes, step_by, step_of, rows_after}
use Rattle.blocking_world_state.proofs.Words.{may_call_in, rests_in, may_ask_in, may_own}
use Rattle.blocking_world_state.proofs.Words.{may_own_in, has_action_in, is_pass, IsDue, May}
use Rattle.blocking_world_state.proofs.Words.{CrewMoves, is_own_step, Parts, row_of, owner_by}
use Rattle.blocking_world_state.proofs.Words.{owner_of, done_in, let_go_by, party_of, owner_in}
use Rattle.blocking_world_state.proofs.Words.{core_after_answer, moment, Tied, IsFree}
use Rattle.blocking_world_laws.specs.Steps as law
use Rattle.blocking_world_laws.specs.Steps.{may_limit}
use Rattle.blocking_world_laws.specs.declared.event.WaitEnd.TheVariants.{Woken, TimedOut}
use Rattle.blocking_world_pool.specs.Moves as crew
use Rattle.blocking_world_holders.specs.Owners.{may_ask, next_at}
use Rattle.blocking_world_holders.specs.declared.owner.OwnerNext.TheVariants as next
use Rattle.blocking_world_state.specs.Rows.{next_of as next_of_core}
use Rattle.blocking_world_holders.proofs.acts.Calls.{call_plainly}
use Rattle.blocking_world_holders.proofs.owners.Actions.{is_rest}
use Rattle.blocking_world_holders.proofs.owners.Events.{plain_of}
use Rattle.blocking_world_state.proofs.laws.Actions.{has_is}
use Rattle.blocking_world_state.proofs.laws.OwnActs.{own_act, same_owner}
use Rattle.blocking_world_state.proofs.moves.Lookups.{row_set}
use Rattle.blocking_world_state.proofs.ties.CrewEvents.{Told}
use Rattle.blocking_world_state.proofs.ties.Events.{SaidBy, said}
use Rattle.blocking_world_state.proofs.ties.Jobs.{job_here, next_here, has_row, holder_stands}

-- ---- what is done fits the step

-- what the pool answers to a new job, what is seen of a call of a task, and the end of a run that
-- waits
begun_fits : (added : Result JobNumber Refusal)
    → (is_nothing (added_act added) ≡ false) × IsBegun (added_act added)
begun_fits added = grind arith

lent_fits : (added : Result JobNumber Refusal) → is_of_pool (added_act added) ≡ false
lent_fits added = grind arith

call_fits : (call : TaskCall) (task : Task) → IsOfTask call (task_act call task)
call_fits call task = grind arith

park_fits : (how : Parking) (s : ℕ) (job : Option ℕ) → job ≡ Some s
    → (is_nothing (parked_act how s) ≡ false) × IsEndOf job (parked_act how s)
park_fits how s job is = grind arith

-- ---- an owner that does something has an action

-- by where it is in its polls
did_next : (here : OwnerStage) (owner : Owner) → is_some (did_by here owner) ≡ true
    → is_rest (next_at here owner.session) ≡ false
did_next here owner some = grind arith

-- so its poll may go on
may_so : (n : OwnerNext) (finds : Option Did) → is_rest n ≡ false → is_some finds ≡ true
    → may_own n finds ≡ true
may_so n finds goes some = grind arith

owner_acts : (owner : Owner) (done : Did) → did owner ≡ Some done
    → may_own (next_of owner) (did owner) ≡ true
owner_acts owner done is =
    may_so (next_of owner) (did owner) (did_next owner.stage owner (ap is_some is)) (ap is_some is)

-- and so has one that has a note to deliver
noted_next : (here : OwnerStage) (last : Option Session) (number : JobNumber)
    → note_at here ≡ Some number → next_at here last ≡ next.Delivers
noted_next here last number is = grind arith

-- ---- whose job it is

-- by its core it is of the owner that holds it, and an answer leaves that
owner_holds : (c : Core) → owner_in c ≡ as_owner (Some (party_of c))
owner_holds c = grind arith

answer_stays : (answer : HandleAnswer) (c : Core)
    → owner_in (core_after_answer answer c) ≡ owner_in c
answer_stays answer c = grind arith

-- a row that was set for one of the same owner leaves each job its owner
set_stays : (rows : List Row) (t : ℕ) (old new : Row)
    → row_of rows t ≡ Some old → owner_in new.core ≡ owner_in old.core → (job : Option ℕ)
    → owner_of (slice_set rows (t - 1) new) job ≡ owner_of rows job
set_stays rows t old new found same job = grind (arith, row_set)

-- ---- what is seen of a step

-- An event is of this step: nothing is done exactly where the step has no action; else it is of the
-- step's kind, by its party and of its job.
record IsOfStep (past : List Moment) (step : Step) (e : Event) : Type 0 where
  act : Happens (has_action past step) past step e.act
  by : e.party ≡ (if is_nothing e.act then named step else party past step)
  of : e.job ≡ (if is_nothing e.act then None else job_of past step e.act)

-- a step that has no action
idle_so : (past : List Moment) (step : Step) (e : Event) → Told (named step) None NoAction e
    → has_action past step ≡ false → IsOfStep past step e
idle_so past step e told none = grind arith

-- a client limit above 0 may be set
limit_so : (limit : Option ℕ) → IfSome limit (λ most. 0 < most) → may_limit limit ≡ true
limit_so None positive = refl
limit_so (Some most) positive = grind (arith, nat_tests)

-- what the crew shows of an act is that act
shown : (who : Party) (job : Option ℕ) (act : Act) (first : ℕ) (growth : Growth)
    → Told who job act (crew.seen who job act first growth)
shown who job act first growth = record { party = refl; owner = refl; job_is = refl; act_is = refl }

module _ (setting : ℕ) (plan : List Bool) (w : Parts) (past : List Moment)
    (t : Tied setting plan w past) where
  -- where a step has no action in the parts, it has none by what was seen
  rests : (step : Step) → IsFree past step → has_action_in w step ≡ false
      → has_action past step ≡ false
  rests step free none = sym (has_is setting plan w past t step free) ∙ none

  -- what is done at a step that has an action in the parts, by its party and of its job
  done_so : (step : Step) (who : Party) (job : Option ℕ) (act : Act) (e : Event)
      → Told who job act e → IsFree past step → has_action_in w step ≡ true → is_nothing act ≡ false
      → Fits past step act → who ≡ party past step → job ≡ job_of past step act
      → IsOfStep past step e
  done_so step who job act e told free has something fits by of =
      let some : is_nothing e.act ≡ false = ap is_nothing told.act_is ∙ something in
      record {
        act = subst (λ b. Happens b past step e.act)
            (sym (sym (has_is setting plan w past t step free) ∙ has))
            (some, subst (Fits past step) (sym told.act_is) fits);
        by = told.party ∙ by ∙ sym (ap (λ b. if b then named step else party past step) some);
        of = told.job_is ∙ of ∙ ap (job_of past step) (sym told.act_is)
            ∙ sym (ap (λ b. if b then None else job_of past step e.act) some);
      }

  -- the worker of a job in a hand has it in hand
  in_hand_is : (v : ℕ) (held : JobInHand) → hand_at w.crew.hands v ≡ Holds held
      → Some held.turn.serial ≡ hand past v
  in_hand_is v held at = sym
      ((subst (λ h. HandAs h (is_there past v) (hand past v)) at (t.crewed.tied.handed.each v)).1)

  -- a call of the crew that is a step, and did nothing
  idles_so : (call : crew.Call)
      → is_pass call ≡ true → IsDue w call → crew.has_action w.crew call ≡ false
      → IsOfStep past (step_by call) (crew.nothing (crew.named call) (crew.next_start w.crew))
  idles_so call pass is_due none = grind arith

  -- what is seen of a call of the crew alone is of its step
  passes_so : (move : crew.Move) → crew.May (IsPlanned plan) w.crew move
      → is_pass (crew.call_of move) ≡ true → IsDue w (crew.call_of move)
      → IsOfStep past (step_by (crew.call_of move)) (crew.event_of w.crew move)
  passes_so (crew.Idles call) may pass is_due = idles_so call pass is_due may
  passes_so (crew.Arrives pass) may is is_due =
      let has : nat_lt 0 w.crew.pool.counts.arriving ≡ true = grind (arith, nat_tests) in
      let many = t.crewed.tied.counted.hands_are in
      let next : length w.crew.hands + 1 ≡ 1 + arrivals past = omega (arith, many) in
      done_so Arrive _ _ _ _ (shown _ _ _ _ _) tt has refl (ap Arrived next) (ap Worker next) refl
  passes_so (crew.TakesJob v old true turn ticket growth pool) may pass is_due =
      done_so (Take v) _ _ _ _ (shown _ _ _ _ _) tt (ap is_free_hand may.0) refl refl refl refl
  passes_so (crew.TakesJob v old false turn ticket growth pool) may pass is_due =
      done_so (Take v) _ _ _ _ (shown _ _ _ _ _) tt (ap is_free_hand may.0) refl refl refl refl
  passes_so (crew.TakesNone v old back) may pass is_due =
      done_so (Take v) _ _ _ _ (shown _ _ _ _ _) tt (ap is_free_hand may.0) refl refl refl refl
  passes_so (crew.EndsTurn v held back) may pass is_due =
      done_so (End v) _ _ _ _ (shown _ _ _ _ _) tt is_due.0 refl (sym (in_hand_is v held may.0))
      refl (in_hand_is v held may.0)
  passes_so (crew.HasWaited v old Woken (Stay back) growth pool) may pass is_due =
      done_so (Wait v) _ _ _ _ (shown _ _ _ _ _) tt (ap is_free_hand may.0) refl (refl, refl) refl
      refl
  passes_so (crew.HasWaited v old Woken Stop growth pool) may pass is_due =
      done_so (Wait v) _ _ _ _ (shown _ _ _ _ _) tt (ap is_free_hand may.0) refl (refl, refl) refl
      refl
  passes_so (crew.HasWaited v old TimedOut (Stay back) growth pool) may pass is_due =
      done_so (Late v) _ _ _ _ (shown _ _ _ _ _) tt (ap is_free_hand may.0) refl (refl, refl) refl
      refl
  passes_so (crew.HasWaited v old TimedOut Stop growth pool) may pass is_due =
      done_so (Late v) _ _ _ _ (shown _ _ _ _ _) tt (ap is_free_hand may.0) refl (refl, refl) refl
      refl
  passes_so (crew.SetsLimit n) may pass is_due =
      let has : not (n == 0) ≡ true = grind (arith, nat_tests) in
      done_so (SetLimit n) _ _ _ _ (shown _ _ _ _ _) tt has refl refl refl refl
  passes_so (crew.SetsClientLimit limit) may pass is_due =
      done_so (SetClientLimit limit) _ _ _ _ (shown _ _ _ _ _) tt (limit_so limit may) refl refl
      refl refl
  passes_so (crew.Sweeps growth pool) may pass is_due =
      done_so Sweep _ _ _ _ (shown _ _ _ _ _) tt refl refl tt refl refl
  passes_so _ may pass is_due = absurd cc

  -- the owner of a job, by its row, is the one that holds it
  owner_known : (job : Option ℕ) → owner_of w.rows job ≡ law.owner_of job past
  owner_known None = refl
  owner_known (Some s) = by (row_of w.rows s) refl
    where
      none : (who : Option Party) → holder past s ≡ who → row_of w.rows s ≡ None
          → None ≡ as_owner who
      none None held found = refl
      none (Some who) held found = absurd (let row = (has_row setting plan w past t s
          (sym (holder_stands setting plan w past t s) ∙ ap is_some held)).1 in cc)

      by : (o : Option Row) → row_of w.rows s ≡ o → owner_by o ≡ as_owner (holder past s)
      by None found = none (holder past s) refl found
      by (Some row) found =
          owner_holds row.core ∙ sym (ap as_owner (t.rowed.each s row found).held_by)

  -- what is seen of a move is of its step
  step_so : (move : Move) (e : Event) (new : Parts) → is_own_step move ≡ true
      → IsFree past (step_of move) → May w move → CrewMoves (IsPlanned plan) move w e new
      → SaidBy w move e → IsOfStep past (step_of move) e
  step_so (Idles step) e new own free may does told = idle_so past step e told (rests step free may)
  step_so (Makes capacity client) e new own free may does told = done_so _ _ _ _ e told free refl
      refl (ap (λ h. Made h capacity) t.owned.count) (ap ByOwner t.owned.count) refl
  step_so (Asks (Ask g other) h call owner) e new own free may does told =
      let same = may.1.1.0 in
      let one = may.1.1.1 in
      done_so (Ask g other) _ _ _ e told free (ap (λ n. may_ask_in (slice_get w.owners n) other)
      same ∙ ap (λ o. may_ask_in o other) may.0 ∙ ap (may_ask owner) one ∙ may.1.0) refl
      (ap Asked (sym one)) (ap ByOwner (sym same)) refl
  step_so (Asks (Copy k) h call owner) e new own free may does told = absurd cc
  step_so (Asks step h call owner) e new own free may does told = absurd may.1.1
  step_so (Notes step who act) e new own free may does told = absurd cc
  step_so (Owns h owner done) e new own free may does told =
      let plain = plain_of Acts owner done.act (ap act_in may.1) in
      done_so _ _ _ _ e told free (ap may_own_in may.0 ∙ owner_acts owner done may.1) plain.nothing
      plain.pool refl refl
  step_so (Lends h owner added) e new own free may does told =
      done_so _ _ _ _ e told free (ap may_own_in may.0 ∙ ap (λ n. may_own n (did owner)) may.1)
      (begun_fits added).0 (lent_fits added) refl refl
  step_so (Delivers h owner number) e new own free may does told =
      done_so _ _ _ _ e told.1 free (ap may_own_in may.0 ∙ ap (λ n. may_own n (did owner))
      (noted_next owner.stage owner.session number may.1)) refl refl refl refl
  step_so (IsDropped h owner) e new own free may does told =
      done_so _ _ _ _ e told free (ap rests_in may.0 ∙ may.1) refl refl refl refl
  step_so (Begins client added) e new own free may does told =
      done_so _ _ _ _ e told free refl (begun_fits added).0 (begun_fits added).1 refl refl
  step_so (Calls k call task) e new own free may does told =
      done_so _ _ _ _ e told free (ap (λ o. may_call_in o call) may.0 ∙ may.1)
      (call_plainly call task) (call_fits call task) refl refl
  step_so (Works v job done) e new own free may does told =
      let own = own_act job.held.stage job.row.core w.tasks w.owners done may.1 in
      done_so _ _ _ _ e told free (ap (λ o. is_some (done_in w o)) may.0 ∙ ap is_some may.1)
      own.nothing (own.pool, own.unasked) refl
      (in_hand_is v job.held (job_here w v job may.0).holds)
  step_so (IsAnswered v job answer) e new own free may does told = done_so _ _ _ _ e told free may.1
      refl refl refl (in_hand_is v job.held (job_here w v job may.0).holds)
  step_so (Parks v job) e new own free may does told =
      let here = job_here w v job may.0 in
      let fits = park_fits told.0 job.held.turn.serial (hand past v)
      (sym (in_hand_is v job.held here.holds)) in
      done_so _ _ _ _ e told.1 free
      (ap is_turn_end (next_here w v job here ∙ ap (λ at. next_of_core at job.row.core) may.1))
      fits.0 fits.1 refl (in_hand_is v job.held here.holds)
  step_so (Passes call) e new own free may does told =
      subst (λ (c : crew.Call). IsOfStep past (step_by c) e) (sym does.call_is)
      (subst (IsOfStep past (step_by (crew.call_of does.move))) (sym does.event_is)
      (passes_so does.move does.may (ap is_pass (sym does.call_is) ∙ may.0)
      (subst (IsDue w) does.call_is may.1)))
  step_so (IsWoken s row) e new own free may does told =
      done_so _ _ _ _ e told.1 free (ap is_some may) refl (t.rowed.each s row may).serial refl refl
  step_so (IsStruck s row) e new own free may does told = done_so _ _ _ _ e told.1 free
      (ap (let_go_by w) may.0 ∙ may.1) refl (t.rowed.each s row may.0).serial refl refl

  -- the job that is seen is the same owner's after the move
  owner_stays : (move : Move) (e : Event) (new : Parts) → May w move → SaidBy w move e
      → new.rows ≡ rows_after w move → owner_of new.rows e.job ≡ owner_of w.rows e.job
  owner_stays move e new may told rows =
      grind (arith, set_stays, job_here, same_owner, answer_stays)

  -- A move keeps the law of steps.
  pub step_law : (move : Move) (e : Event) (new : Parts) → is_own_step move ≡ true
      → IsFree past (step_of move) → May w move → CrewMoves (IsPlanned plan) move w e new
      → new.rows ≡ rows_after w move → StepLaw past (moment new (step_of move) e)
  step_law move e new own free may does rows =
      let told = said plan w move e new may does in
      let so = step_so move e new own free may does told in
      record {
        act = so.act;
        by = so.by;
        of = so.of;
        owned = owner_stays move e new may told rows ∙ owner_known e.job;
      }
