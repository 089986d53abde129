-- What is seen of each move: whose it is, of which job, and what.
use Rattle.std.proofs.Common.{◌≡◌, ⊎_elim, ℕ, List, [], length, Bool, true, false, refl, sym, ap}
use Rattle.std.proofs.Common.{◌∙◌, subst, Option, Some, None, slice_get, Err, arith}
use Rattle.std.proofs.lemmas.Bool.{or_parts}
use Rattle.blocking_world_state.proofs.Types.{Woke, Act, Answered, Asked, HolderDropped}
use Rattle.blocking_world_state.proofs.Types.{JobCancelled, JobWoken, Made, NoAction, Event, Party}
use Rattle.blocking_world_state.proofs.Types.{ByOwner, Pool, ByTask, Worker, HandleAnswer, TaskCall}
use Rattle.blocking_world_state.proofs.Types.{Holds, JobInHand, TurnStage, Ticket}
use Rattle.blocking_world_state.proofs.Types.{Parking, SessionJob, Core}
use Rattle.blocking_world_state.proofs.Words.{is_bare, accepted_by, cancels, lets_go, is_of_pool}
use Rattle.blocking_world_state.proofs.Words.{is_aside, IsPlanned, is_some_worker, is_of_job}
use Rattle.blocking_world_state.proofs.Words.{is_answered_action, named, Crew, may_act, hand_at}
use Rattle.blocking_world_state.proofs.Words.{added_act, parked_act, Owner, Worked, worked, Task}
use Rattle.blocking_world_state.proofs.Words.{task_act, Move, Idles, Makes, Asks, Owns, Lends}
use Rattle.blocking_world_state.proofs.Words.{Delivers, IsDropped, Begins, Calls, Works, IsAnswered}
use Rattle.blocking_world_state.proofs.Words.{Parks, Passes, IsWoken, IsStruck, Notes, IsNote}
use Rattle.blocking_world_state.proofs.Words.{task_call, May, CrewMoves, Parts, call_step}
use Rattle.blocking_world_state.proofs.Words.{session_step, Done, call_done, session_seen}
use Rattle.blocking_world_state.proofs.Words.{session_done, done}
use Rattle.blocking_world_pool.specs.Moves as crew
use Rattle.blocking_world_pool.specs.declared.hand.TurnStage.TheVariants as stage
use Rattle.blocking_world_holders.specs.Calls as calls
use Rattle.blocking_world_holders.specs.OwnerSteps as owners
use Rattle.blocking_world_state.specs.Rows.{next_of}
use Rattle.blocking_world_state.specs.declared.row.Core.TheVariants as core
use Rattle.blocking_world_state.proofs.moves.SessionActs.{fits_turn, moved, worked_so}
use Rattle.blocking_world_state.proofs.ties.CrewEvents.{Told, ToldBy, IsAlone, IsPlain, told}
use Rattle.blocking_world_state.proofs.ties.CrewEvents.{worked as works_so, plain, by_no_worker}
use Rattle.blocking_world_state.proofs.ties.Jobs.{job_here, next_here}

-- ---- what a job does fits its turn

-- a job may do this where it is in its turn
abbrev MaySo : TurnStage → Act → Type 0
MaySo at act = may_act at act ≡ true

module _ (d : Done) where
  -- the job of a call
  call_so : (at : TurnStage) (k : ℕ) (call : calls.Progress) (all : List Task) (row : List Owner)
      (task : Option Task) → call_done k call at all row task (call_step at call) ≡ Some d
      → MaySo at d.act
  call_so at k call all row task e = grind arith

  -- the job of a session
  session_so : (at : TurnStage) (h : ℕ) (job : SessionJob) (all : List Task) (row : List Owner)
      (owner : Option Owner) → session_done h job all row owner (session_step at job) ≡ Some d
      → MaySo at d.act
  session_so at h job all row None e = absurd cc
  session_so stage.Runs h job all row (Some owner) e = by (worked job owner) refl e
    where
      by : (o : Option Worked) → worked job owner ≡ o
          → session_seen h job all row owner (owners.Works job) (owners.act_of_work o) ≡ Some d
          → MaySo stage.Runs d.act
      by None is e = absurd cc
      by (Some did) is e =
          moved (λ (x : Done). MaySo stage.Runs x.act) _ d e
          (⊎_elim (λ wakes. ap (may_act stage.Runs) wakes.0) (λ at. ap (may_act stage.Runs)
          at.act_is ∙ fits_turn at.act) (worked_so job owner did is))
  session_so stage.MustGiveUp h job all row (Some owner) e =
      moved (λ (x : Done). MaySo stage.MustGiveUp x.act) _ d e refl
  session_so stage.MustWake h job all row (Some owner) e =
      moved (λ (x : Done). MaySo stage.MustWake x.act) _ d e refl
  session_so _ h job all row (Some owner) e = absurd cc

  pub done_fits : (at : TurnStage) (c : Core) (all : List Task) (row : List Owner)
      → done at c all row ≡ Some d → may_act at d.act ≡ true
  done_fits at (core.Call k call) all row e = call_so at k call all row (slice_get all k) e
  done_fits at (core.Session h job) all row e = session_so at h job all row (slice_get row h) e

-- a job is answered only while its turn goes on
pub answer_fits : (at : TurnStage) (c : Core) (answer : HandleAnswer)
    → is_answered_action (next_of at c) answer ≡ true → at ≡ stage.Runs
answer_fits at c answer is = grind arith

-- ---- moves

-- What is seen of a move.
abbrev pub SaidBy : Parts → Move → Event → Type 0
SaidBy w (Idles step) e = Told (named step) None NoAction e
SaidBy w (Makes capacity client) e =
    Told (ByOwner (length w.owners)) None (Made (length w.owners) capacity) e
SaidBy w (Asks step h call owner) e = Told (ByOwner h) None (Asked call) e
SaidBy w (Owns h owner did) e = Told (ByOwner h) None did.act e
SaidBy w (Lends h owner added) e = Told (ByOwner h) None (added_act added) e
SaidBy w (Delivers h owner number) e =
    (woke : Woke) × Told (ByOwner h) None (JobWoken number.serial woke) e
SaidBy w (IsDropped h owner) e = Told (ByOwner h) None HolderDropped e
SaidBy w (Begins client added) e = Told Pool None (added_act added) e
SaidBy w (Calls k call task) e = Told (ByTask k) None (task_act call task) e
SaidBy w (Works v job did) e = Told (Worker v) (Some job.held.turn.serial) did.act e
SaidBy w (IsAnswered v job answer) e =
    Told (Worker v) (Some job.held.turn.serial) (Answered answer) e
SaidBy w (Parks v job) e = (how : Parking)
    × Told (Worker v) (Some job.held.turn.serial) (parked_act how job.held.turn.serial) e
SaidBy w (Passes call) e = IsPlain e
SaidBy w (IsWoken s row) e = (woke : Woke) × Told Pool None (JobWoken row.number.serial woke) e
SaidBy w (IsStruck s row) e = (woke : Woke) × Told Pool None (JobCancelled row.number.serial woke) e
SaidBy w (Notes step who act) e = Told who None act e × IsNote who act

call_said : (k : ℕ) (call : TaskCall) (task : Task) (e : Event) → ToldBy (task_call k call task) e
    → Told (ByTask k) None (task_act call task) e
call_said k call task e told = grind arith

-- the run of a job that waits ends so
parks_so : (may_answer : ℕ → Bool → Type 0) (v : ℕ) (held : JobInHand)
    (ticket : Ticket) (crew_now new : Crew) (e : Event) → hand_at crew_now.hands v ≡ Holds held
    → held.stage ≡ stage.Waits
    → crew.Moves may_answer (crew.Park v ticket) crew_now e new
    → (how : Parking) × Told (Worker v) (Some held.turn.serial) (parked_act how held.turn.serial) e
parks_so may_answer v held ticket crew_now new e at waits m = by m.move m.may m.call_is m.event_is
  where
    by : (move : crew.Move) → crew.May may_answer crew_now move
        → crew.Park v ticket ≡ crew.call_of move → e ≡ crew.event_of crew_now move
        → (how : Parking)
        × Told (Worker v) (Some held.turn.serial) (parked_act how held.turn.serial) e
    by (crew.Idles call) may is event =
        let none : crew.has_action crew_now (crew.Park v ticket) ≡ false =
        subst (λ (c : crew.Call). crew.has_action crew_now c ≡ false) (sym is) may in
        absurd (let some = at in let is_so = waits in cc)
    by (crew.Parks u other mark how pool) may is event =
        let who : v ≡ u = cc in
        let both : Holds held ≡ Holds other = sym at ∙ ap (hand_at crew_now.hands) who ∙ may.0 in
        let one : held ≡ other = cc in
        let seen =
        event ∙ ap (λ n. crew.event_of crew_now (crew.Parks n other mark how pool)) (sym who)
        ∙ ap (λ x. crew.event_of crew_now (crew.Parks v x mark how pool)) (sym one) in (
          how,
          record {
            party = ap (λ (f : Event). f.party) seen;
            owner = ap (λ (f : Event). f.owner) seen;
            job_is = ap (λ (f : Event). f.job) seen;
            act_is = ap (λ (f : Event). f.act) seen;
          },
        )
    by _ may is event = absurd cc

pub said : (plan : List Bool) (w : Parts) (move : Move) (e : Event) (new : Parts) → May w move
    → CrewMoves (IsPlanned plan) move w e new → SaidBy w move e
said plan w (Idles step) e new may does =
    record {
      party = ap (λ (f : Event). f.party) does.0;
      owner = ap (λ (f : Event). f.owner) does.0;
      job_is = ap (λ (f : Event). f.job) does.0;
      act_is = ap (λ (f : Event). f.act) does.0;
    }
said plan w (Calls k call task) e new may does =
    call_said k call task e (told (IsPlanned plan) _ w.crew new.crew e does)
said plan w (Works v job did) e new may does =
    let here = job_here w v job may.0 in
    (works_so (IsPlanned plan) v job.held did.act w.crew new.crew e here.holds
    (done_fits did job.held.stage job.row.core w.tasks w.owners may.1) does).0
said plan w (IsAnswered v job answer) e new may does =
    let here = job_here w v job may.0 in
    let runs = answer_fits job.held.stage job.row.core answer
    (sym (ap (λ n. is_answered_action n answer) (next_here w v job here)) ∙ may.1) in
    (works_so (IsPlanned plan) v job.held (Answered answer) w.crew new.crew e here.holds
    (ap (λ s. may_act s (Answered answer)) runs) does).0
said plan w (Parks v job) e new may does = parks_so (IsPlanned plan) v job.held _ w.crew new.crew e
    (job_here w v job may.0).holds may.1 does
said plan w (Passes call) e new may does = plain (IsPlanned plan) call w.crew new.crew e may.0 does
said plan w (Notes step who act) e new may does =
    (told (IsPlanned plan) _ w.crew new.crew e does, may)
said plan w _ e new may does = told (IsPlanned plan) _ w.crew new.crew e does

-- ---- what is only told

-- What is only told accepts and cancels no job, lets none go, and is nothing to the pool.
pub record IsIdleAct (act : Act) : Type 0 where
  pub new : accepted_by act ≡ []
  pub pool : is_of_pool act ≡ false
  pub cancelled : (s : ℕ) → cancels act s ≡ false
  pub kept : lets_go act ≡ false
  pub aside : is_aside act ≡ true
  pub bare : is_bare act ≡ true

pub note_is : (who : Party) (act : Act) → IsNote who act → IsIdleAct act
note_is who act note = grind arith

-- ---- who has a part in it

-- whether no task and no owner has a part in a move, nor the job in a hand
abbrev pub is_alone : Move → Bool
is_alone (Idles step) = true
is_alone (Begins client (Err why)) = true
is_alone (Parks v job) = true
is_alone (Passes call) = true
is_alone (IsWoken s row) = true
is_alone (IsStruck s row) = true
is_alone (Notes step who act) = true
is_alone _ = false

-- such a move is seen as nothing to them
pub alone : (w : Parts) (move : Move) (e : Event) → is_alone move ≡ true → SaidBy w move e
    → IsAlone e
alone w move e is told = grind arith

-- whether the job in a hand acts, or is answered
abbrev pub is_work : Move → Bool
is_work (Works v job did) = true
is_work (IsAnswered v job answer) = true
is_work _ = false

-- no other move is an act of a job
pub no_work : (w : Parts) (move : Move) (e : Event) (s : ℕ) → is_work move ≡ false → SaidBy w move e
    → is_of_job s e ≡ false
no_work w (Works v job did) e s is told = absurd cc
no_work w (IsAnswered v job answer) e s is told = absurd cc
no_work w (Notes step who act) e s is told =
    (or_parts _ _ ((alone w (Notes step who act) e refl told).out 0 s)).1
no_work w (Idles step) e s is told = (or_parts _ _ ((alone w (Idles step) e refl told).out 0 s)).1
no_work w (Parks v job) e s is told = (or_parts _ _ ((alone w (Parks v job) e refl told).out 0 s)).1
no_work w (Passes call) e s is plain = (or_parts _ _ (plain.out 0 s)).1
no_work w (Delivers h owner number) e s is told = by_no_worker s e (ap is_some_worker told.1.party)
no_work w (IsWoken n row) e s is told = by_no_worker s e (ap is_some_worker told.1.party)
no_work w (IsStruck n row) e s is told = by_no_worker s e (ap is_some_worker told.1.party)
no_work w _ e s is told = by_no_worker s e (ap is_some_worker told.party)
