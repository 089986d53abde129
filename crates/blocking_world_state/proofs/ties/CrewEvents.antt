-- What is seen of a move: by a call of the crew alone, and by the move.
use Rattle.std.proofs.Common.{◌≡◌, ℕ, List, [], Bool, true, false, refl, sym, ap, ◌∙◌, subst}
use Rattle.std.proofs.Common.{Option, Some, None, ◌||◌, ◌==◌, Ok, arith}
use Rattle.blocking_world_state.proofs.Types.{Woke, Act, JobCancelled, JobWoken, Event, Party}
use Rattle.blocking_world_state.proofs.Types.{Worker, Holds, JobInHand, Row}
use Rattle.blocking_world_state.proofs.Words.{JobNumber, is_bare, IsPlanned, accepted_by, cancels}
use Rattle.blocking_world_state.proofs.Words.{lets_go, is_some_worker, is_of_pool, is_nothing}
use Rattle.blocking_world_state.proofs.Words.{is_of_job, is_by_task, is_in_cut, is_making, Crew}
use Rattle.blocking_world_state.proofs.Words.{may_act, hand_at, nothing, added_act, IsNumberOf}
use Rattle.blocking_world_state.proofs.Words.{is_pass, owner_of}
use Rattle.blocking_world_pool.specs.Moves as crew
use Rattle.blocking_world_pool.proofs.ties.Numbers.{number_of_new}

-- ---- who did what

-- An event is this party's, of this job, and of this act; whose owner's job that is, the crew
-- doesn't say.
pub record Told (who : Party) (job : Option ℕ) (act : Act) (e : Event) : Type 0 where
  pub party : e.party ≡ who
  pub owner : e.owner ≡ None
  pub job_is : e.job ≡ job
  pub act_is : e.act ≡ act

-- what no worker did is no act of a job
pub by_no_worker : (s : ℕ) (e : Event) → is_some_worker e.party ≡ false → is_of_job s e ≡ false
by_no_worker s e none = grind arith

-- what a worker did in a step of its job is an act of that job
pub by_worker : (v t s : ℕ) (act : Act) (e : Event) → Told (Worker v) (Some t) act e
    → is_of_pool act ≡ false → is_nothing act ≡ false → is_of_job s e ≡ (t == s)
by_worker v t s act e told pool nothing =
    rw (told.act_is, told.party, told.job_is, pool, nothing) refl

-- what a call of a party has for its event
abbrev pub ToldBy : crew.Call → Event → Type 0
ToldBy (crew.Add who client added) e = Told who None (added_act added) e
ToldBy (crew.Wake who number) e = (woke : Woke) × Told who None (JobWoken number.serial woke) e
ToldBy (crew.Cancel who number) e =
    (woke : Woke) × Told who None (JobCancelled number.serial woke) e
ToldBy (crew.LetGo who act number) e = Told who None act e
ToldBy (crew.Tell who act) e = Told who None act e
ToldBy call e = Unit {0}

told_move : (may_answer : ℕ → Bool → Type 0) (crew_now : Crew) (move : crew.Move)
    → crew.May may_answer crew_now move → ToldBy (crew.call_of move) (crew.event_of crew_now move)
told_move may_answer crew_now move may = grind arith

pub told : (may_answer : ℕ → Bool → Type 0) (call : crew.Call) (crew_now new : Crew) (e : Event)
    → crew.Moves may_answer call crew_now e new → ToldBy call e
told may_answer call crew_now new e m = grind (arith, told_move)

-- a new job gets the next serial, and its number is its job's
pub added_of : (plan : List Bool)
    (who : Party) (client : ℕ) (crew_now new : Crew) (e : Event) (number : JobNumber)
    → crew.Moves (IsPlanned plan) (crew.Add who client (Ok number)) crew_now e new
    → (number.serial ≡ crew_now.pool.next_serial) × IsNumberOf new.pool number
added_of plan who client crew_now new e number m = grind (arith, number_of_new)

-- ---- acts of a job

-- where its turn allows it, the job in a hand acts so
pub worked : (may_answer : ℕ → Bool → Type 0) (v : ℕ) (held : JobInHand)
    (act : Act) (crew_now new : Crew) (e : Event) → hand_at crew_now.hands v ≡ Holds held
    → may_act held.stage act ≡ true
    → crew.Moves may_answer (crew.Work v act) crew_now e new
    → Told (Worker v) (Some held.turn.serial) act e
    × (new ≡ crew.after crew_now (crew.Works v held act))
worked may_answer v held act crew_now new e at fits m =
    by m.move m.may m.call_is m.event_is m.after_is
  where
    by : (move : crew.Move) → crew.May may_answer crew_now move
        → crew.Work v act ≡ crew.call_of move → e ≡ crew.event_of crew_now move
        → new ≡ crew.after crew_now move
        → Told (Worker v) (Some held.turn.serial) act e
        × (new ≡ crew.after crew_now (crew.Works v held act))
    by move may is event after = grind arith

-- ---- what is nothing to tasks, owners and jobs

-- An event of the crew alone: no task, owner or job acts, none is made, no job is accepted or
-- cancelled, and nobody lets one go. Whoever owns the job that it names, it stands in the cut of
-- none.
pub record IsPlain (e : Event) : Type 0 where
  pub out : (k s : ℕ) → is_by_task k e || is_of_job s e ≡ false
  pub uncut : (h : ℕ) (rows : List Row)
      → is_in_cut h (record e { owner = owner_of rows e.job }) ≡ false
  pub none_new : accepted_by e.act ≡ []
  pub none_made : is_making e.act ≡ false
  pub cancelled : (s : ℕ) → cancels e.act s ≡ false
  pub kept : lets_go e.act ≡ false
  pub bare : is_bare e.act ≡ true

plain_move : (crew_now : Crew) (move : crew.Move) → is_pass (crew.call_of move) ≡ true
    → IsPlain (crew.event_of crew_now move)
plain_move crew_now move pass = grind arith

-- An event that is nothing to tasks and owners: none acts, nor does its job, none is made, and no
-- job is accepted.
pub record IsAlone (e : Event) : Type 0 where
  pub out : (k s : ℕ) → is_by_task k e || is_of_job s e ≡ false
  pub uncut : (h : ℕ) (rows : List Row)
      → is_in_cut h (record e { owner = owner_of rows e.job }) ≡ false
  pub none_new : accepted_by e.act ≡ []
  pub none_made : is_making e.act ≡ false

-- a pass is told by a plain event
pub plain : (may_answer : ℕ → Bool → Type 0) (call : crew.Call) (crew_now new : Crew) (e : Event)
    → is_pass call ≡ true → crew.Moves may_answer call crew_now e new → IsPlain e
plain may_answer call crew_now new e pass m =
    subst IsPlain (sym m.event_is) (plain_move crew_now m.move (ap is_pass (sym m.call_is) ∙ pass))
