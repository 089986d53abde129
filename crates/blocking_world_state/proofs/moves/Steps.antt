-- What each step makes of the parts is a move.
use Rattle.std.proofs.Common.{◌≡◌, ◌⊎◌, ⊎_elim, ℕ, ◌<◌, ◌++◌, List, [], ◌∷◌, length, Bool, true}
use Rattle.std.proofs.Common.{false, refl, sym, ap, ◌∙◌, subst, if◌then◌else◌, Option, Some, None}
use Rattle.std.proofs.Common.{slice_index_or, slice_get, slice_set, is_ok, is_some, Result, IfOk}
use Rattle.std.proofs.Common.{arith}
use Rattle.std.proofs.lemmas.Option.{slice_get_read}
use Rattle.blocking_world_state.proofs.Types.{Refusal, Act, Asked, HolderDropped, Made, Event}
use Rattle.blocking_world_state.proofs.Types.{Party, ByOwner, Pool, ByTask, HandleCall, Step, Ask}
use Rattle.blocking_world_state.proofs.Types.{Copy, DropOwner, New, OfTask, Own, Spawn, Stray}
use Rattle.blocking_world_state.proofs.Types.{Strike, TaskCall, Cancel, Detach, Drop, Poll, Row}
use Rattle.blocking_world_state.proofs.Words.{Narrows, JobNumber, named, Crew, next_start, nothing}
use Rattle.blocking_world_state.proofs.Words.{NeverAsked, Owner, new_owner, number_of, note_at}
use Rattle.blocking_world_state.proofs.Words.{next_of, owner_after_ask, Did, did, IsDid, new_job_of}
use Rattle.blocking_world_state.proofs.Words.{owner_after_delivery, owner_after_drop, Task}
use Rattle.blocking_world_state.proofs.Words.{task_act, task_after_call, Move, Idles, Makes, Asks}
use Rattle.blocking_world_state.proofs.Words.{Owns, Lends, Delivers, IsDropped, Begins, Calls}
use Rattle.blocking_world_state.proofs.Words.{Passes, IsWoken, IsStruck, Notes, step_by, task_call}
use Rattle.blocking_world_state.proofs.Words.{rows_after_add, tasks_after_add, lent_step}
use Rattle.blocking_world_state.proofs.Words.{may_call_in, rests_in, may_ask_in, may_own}
use Rattle.blocking_world_state.proofs.Words.{may_own_in, has_action_in, is_pass, IsDue, IsNote}
use Rattle.blocking_world_state.proofs.Words.{CrewMoves, Moves, CopierMoves, Parts, row_of}
use Rattle.blocking_world_state.proofs.Words.{let_go_of, call_row, session_row}
use Rattle.blocking_world_pool.specs.Moves as crew
use Rattle.blocking_world_holders.specs.OwnerSteps as owners_steps
use Rattle.blocking_world_holders.specs.declared.owner.OwnerNext.TheVariants as next
use Rattle.blocking_pool.proofs.Places.{set_same}
use Rattle.blocking_world_pool.proofs.ties.Starts.{may_more}
use Rattle.blocking_world_holders.proofs.acts.Calls.{call_number}
use Rattle.blocking_world_state.proofs.moves.Lookups.{within_by}
use Rattle.blocking_world_state.proofs.ties.CrewEvents.{told}

-- ---- the crew alone, or nobody

-- the step has no action
pub idles : (may_answer : ℕ → Bool → Type 0) (w : Parts) (step said : Step) (e : Event)
    → said ≡ step → has_action_in w step ≡ false → e ≡ nothing (named step) (next_start w.crew)
    → Moves may_answer said w e w
idles may_answer w step said e is none event =
    record {
      its_own = refl;
      move = Idles step;
      step_is = is;
      may = none;
      crew = (event, refl);
      rows_are = refl;
      tasks_are = refl;
      owners_are = refl;
    }

-- the crew alone is called
pub passes : (may_answer : ℕ → Bool → Type 0) (w : Parts) (call : crew.Call) (e : Event)
    (new : Crew) → is_pass call ≡ true → IsDue w call → crew.Moves may_answer call w.crew e new
    → Moves may_answer (step_by call) w e (record w { crew = new })
passes may_answer w call e new pass is_due does =
    record {
      its_own = refl;
      move = Passes call;
      step_is = refl;
      may = (pass, is_due);
      crew = does;
      rows_are = refl;
      tasks_are = refl;
      owners_are = refl;
    }

pub woken :
    (may_answer : ℕ → Bool → Type 0) (w : Parts) (s : ℕ) (row : Row) (e : Event) (new : Crew)
    → row_of w.rows s ≡ Some row → crew.Moves may_answer (crew.Wake Pool row.number) w.crew e new
    → Moves may_answer (Stray s) w e (record w { crew = new })
woken may_answer w s row e new found does =
    record {
      its_own = refl;
      move = IsWoken s row;
      step_is = refl;
      may = found;
      crew = does;
      rows_are = refl;
      tasks_are = refl;
      owners_are = refl;
    }

pub struck : (may_answer : ℕ → Bool → Type 0) (w : Parts) (s : ℕ) (row : Row) (e : Event)
    (new : Crew) → row_of w.rows s ≡ Some row → let_go_of w row.core ≡ true
    → crew.Moves may_answer (crew.Cancel Pool row.number) w.crew e new
    → Moves may_answer (Strike s) w e (record w { crew = new })
struck may_answer w s row e new found let_go does =
    record {
      its_own = refl;
      move = IsStruck s row;
      step_is = refl;
      may = (found, let_go);
      crew = does;
      rows_are = refl;
      tasks_are = refl;
      owners_are = refl;
    }

-- what may be asked of fewer starts may be asked of more
module _ (wide narrow : ℕ → Bool → Type 0) (less : Narrows wide narrow) (w : Parts) (e : Event)
    (new : Parts) where
  called : (call : crew.Call) → crew.Moves narrow call w.crew e new.crew
      → crew.Moves wide call w.crew e new.crew
  called call c = record {
    move = c.move;
    may = may_more wide narrow less w.crew c.move c.may;
    call_is = c.call_is;
    event_is = c.event_is;
    after_is = c.after_is;
  }

  pub crew_more : (move : Move) → CrewMoves narrow move w e new → CrewMoves wide move w e new
  crew_more (Idles s) does = does
  crew_more _ does = called _ does

pub moves_more : (wide narrow : ℕ → Bool → Type 0) → Narrows wide narrow
    → (step : Step) (w : Parts) (e : Event) (new : Parts) → Moves narrow step w e new
    → Moves wide step w e new
moves_more wide narrow less step w e new m =
    record {
      its_own = m.its_own;
      move = m.move;
      step_is = m.step_is;
      may = m.may;
      crew = crew_more wide narrow less w e new m.move m.crew;
      rows_are = m.rows_are;
      tasks_are = m.tasks_are;
      owners_are = m.owners_are;
    }

-- ---- calls of a task

called_moves : (w : Parts) (k : ℕ) (call : TaskCall) (old left : Task) (e : Event) (new : Crew)
    → may_call_in (slice_get w.tasks k) call ≡ true → old ≡ slice_index_or w.tasks k old
    → left ≡ task_after_call call old
    → crew.Moves NeverAsked (task_call k call old) w.crew e new → Moves NeverAsked (OfTask k call) w
    e (record w { crew = new; tasks = slice_set w.tasks k left })
called_moves w k call old left e new may value left_is does =
    let found = slice_get_read w.tasks (length w.tasks) k old refl
    (within_by (λ o. may_call_in o call) refl w.tasks k may) value in
    record {
      its_own = refl;
      move = Calls k call old;
      step_is = refl;
      may = (found, sym (ap (λ o. may_call_in o call) found) ∙ may);
      crew = does;
      rows_are = refl;
      tasks_are = ap (slice_set w.tasks k) left_is;
      owners_are = refl;
    }

-- by this call it lets go of its job, or doesn't
pub let_go_moves : (w : Parts) (k : ℕ) (call : TaskCall) (old left : Task)
    (act : Act) (number : JobNumber) (e : Event) (new : Crew) → (call ≡ Cancel) ⊎ (call ≡ Drop)
    → may_call_in (slice_get w.tasks k) call ≡ true
    → old ≡ slice_index_or w.tasks k old
    → act ≡ task_act call old → left ≡ task_after_call call old → number ≡ left.number
    → crew.Moves NeverAsked (crew.LetGo (ByTask k) act (Some number)) w.crew e new
    → Moves NeverAsked (OfTask k call) w e
    (record w { crew = new; tasks = slice_set w.tasks k left })
let_go_moves w k call old left act number e new which may value acts left_is numbers does =
    let one : number ≡ old.number =
    numbers ∙ ap (λ (x : Task). x.number) left_is ∙ call_number call old in
    called_moves w k call old left e new may value left_is
    (subst (λ (c : crew.Call). crew.Moves NeverAsked c w.crew e new)
    (ap (λ a. crew.LetGo (ByTask k) a (Some number)) acts ∙ ap
    (λ n. crew.LetGo (ByTask k) (task_act call old) (Some n)) one ∙ by call which) does)
  where
    by : (call : TaskCall) → (call ≡ Cancel) ⊎ (call ≡ Drop)
        → crew.LetGo (ByTask k) (task_act call old) (Some old.number) ≡ task_call k call old
    by Poll which = absurd (⊎_elim (λ is. cc) (λ is. cc) which)
    by Detach which = absurd (⊎_elim (λ is. cc) (λ is. cc) which)
    by _ which = refl

pub tell_moves : (w : Parts) (k : ℕ) (call : TaskCall) (old left : Task) (act : Act) (e : Event)
    → (call ≡ Poll) ⊎ (call ≡ Detach) → may_call_in (slice_get w.tasks k) call ≡ true
    → old ≡ slice_index_or w.tasks k old → act ≡ task_act call old → left ≡ task_after_call call old
    → crew.Moves NeverAsked (crew.Tell (ByTask k) act) w.crew e w.crew
    → Moves NeverAsked (OfTask k call) w e (record w { tasks = slice_set w.tasks k left })
tell_moves w k call old left act e which may value acts left_is does =
    called_moves w k call old left e w.crew may value left_is (subst (λ (c : crew.Call). crew.Moves
    NeverAsked c w.crew e w.crew) (ap (crew.Tell (ByTask k)) acts ∙ by call which) does)
  where
    by : (call : TaskCall) → (call ≡ Poll) ⊎ (call ≡ Detach)
        → crew.Tell (ByTask k) (task_act call old) ≡ task_call k call old
    by Cancel which = absurd (⊎_elim (λ is. cc) (λ is. cc) which)
    by Drop which = absurd (⊎_elim (λ is. cc) (λ is. cc) which)
    by _ which = refl

-- ---- new calls

pub begun : (may_answer : ℕ → Bool → Type 0) (w : Parts) (client : ℕ)
    (added : Result JobNumber Refusal) (rows : List Row) (tasks : List Task) (e : Event)
    (new : Crew) → crew.Moves may_answer (crew.Add Pool client added) w.crew e new
    → rows ≡ rows_after_add w.rows (λ number. call_row number (length w.tasks)) added
    → tasks ≡ tasks_after_add w.tasks added
    → Moves may_answer (Spawn client) w e (record w { crew = new; rows = rows; tasks = tasks })
begun may_answer w client added rows tasks e new does rows_are tasks_are =
    record {
      its_own = refl;
      move = Begins client added;
      step_is = refl;
      may = tt;
      crew = does;
      rows_are = rows_are;
      tasks_are = tasks_are;
      owners_are = refl;
    }

-- one more was put at the end, where there was room
pub put_last : {A B X : Type 0} (r : Result A B) (old between new : List X) (x : X) → between ≡ old
    → is_ok r ≡ true → new ≡ (if is_ok r then between ++ x ∷ [] else between) → new ≡ old ++ x ∷ []
put_last r old between new x same ok is =
    is ∙ ap (λ b. if b then between ++ x ∷ [] else between) ok ∙ ap (λ l. l ++ x ∷ []) same

-- ---- owners

-- what is read at a place where there is something is what stands there
pub found_at : (owners : List Owner) (h : ℕ) (old : Owner) → h < length owners
    → old ≡ slice_index_or owners h old → slice_get owners h ≡ Some old
found_at owners h old within value = slice_get_read owners (length owners) h old refl within value

pub made : (w : Parts) (capacity client : ℕ) (owners : List Owner) (e : Event)
    → owners ≡ w.owners ++ new_owner capacity client ∷ []
    → crew.Moves NeverAsked
    (crew.Tell (ByOwner (length w.owners)) (Made (length w.owners) capacity)) w.crew e w.crew
    → Moves NeverAsked (New capacity client) w e (record w { owners = owners })
made w capacity client owners e is does = record {
  its_own = refl;
  move = Makes capacity client;
  step_is = refl;
  may = tt;
  crew = does;
  rows_are = refl;
  tasks_are = refl;
  owners_are = is;
}

pub asked : (w : Parts) (h : ℕ) (call : HandleCall) (old left : Owner) (e : Event)
    → may_ask_in (slice_get w.owners h) call ≡ true → old ≡ slice_index_or w.owners h old
    → left ≡ owner_after_ask call old
    → crew.Moves NeverAsked (crew.Tell (ByOwner h) (Asked call)) w.crew e w.crew
    → Moves NeverAsked (Ask h call) w e (record w { owners = slice_set w.owners h left })
asked w h call old left e may value left_is does =
    let found =
    found_at w.owners h old (within_by (λ o. may_ask_in o call) refl w.owners h may) value in
    record {
      its_own = refl;
      move = Asks (Ask h call) h call old;
      step_is = refl;
      may = (found, (sym (ap (λ o. may_ask_in o call) found) ∙ may, (refl, refl)));
      crew = does;
      rows_are = refl;
      tasks_are = refl;
      owners_are = ap (slice_set w.owners h) left_is;
    }

-- a copier asks an owner
pub copier_asks : (w : Parts) (k h : ℕ) (call : HandleCall) (old left : Owner) (e : Event)
    → may_ask_in (slice_get w.owners h) call ≡ true → old ≡ slice_index_or w.owners h old
    → left ≡ owner_after_ask call old
    → crew.Moves NeverAsked (crew.Tell (ByOwner h) (Asked call)) w.crew e w.crew → CopierMoves
    (Copy k) (ByOwner h) (Asked call) w e (record w { owners = slice_set w.owners h left })
copier_asks w k h call old left e may value left_is does =
    let found =
    found_at w.owners h old (within_by (λ o. may_ask_in o call) refl w.owners h may) value in
    let seen = told NeverAsked (crew.Tell (ByOwner h) (Asked call)) w.crew w.crew e does in
    record {
      move = Asks (Copy k) h call old;
      step_is = refl;
      may = (found, (sym (ap (λ o. may_ask_in o call) found) ∙ may, tt));
      crew = does;
      rows_are = refl;
      tasks_are = refl;
      owners_are = ap (slice_set w.owners h) left_is;
      by = seen.party;
      act_is = seen.act_is;
      jobless = seen.job_is;
      ownerless = seen.owner;
    }

-- something is only told
pub noted : (w : Parts) (step : Step) (who : Party) (act : Act) (e : Event) → IsNote who act
    → crew.Moves NeverAsked (crew.Tell who act) w.crew e w.crew → CopierMoves step who act w e w
noted w step who act e note does =
    let seen = told NeverAsked (crew.Tell who act) w.crew w.crew e does in
    record {
      move = Notes step who act;
      step_is = refl;
      may = note;
      crew = does;
      rows_are = refl;
      tasks_are = refl;
      owners_are = refl;
      by = seen.party;
      act_is = seen.act_is;
      jobless = seen.job_is;
      ownerless = seen.owner;
    }

pub dropped : (w : Parts) (h : ℕ) (old left : Owner) (number : Option JobNumber) (e : Event)
    (new : Crew) → rests_in (slice_get w.owners h) ≡ true → old ≡ slice_index_or w.owners h old
    → left ≡ owner_after_drop old
    → number ≡ number_of old
    → crew.Moves NeverAsked (crew.LetGo (ByOwner h) HolderDropped number) w.crew e new → Moves
    NeverAsked (DropOwner h) w e (record w { crew = new; owners = slice_set w.owners h left })
dropped w h old left number e new rests value left_is number_is does =
    let found = found_at w.owners h old (within_by rests_in refl w.owners h rests) value in
    record {
      its_own = refl;
      move = IsDropped h old;
      step_is = refl;
      may = (found, sym (ap rests_in found) ∙ rests);
      crew =
          subst (λ n. crew.Moves NeverAsked (crew.LetGo (ByOwner h) HolderDropped n) w.crew e new)
          number_is does;
      rows_are = refl;
      tasks_are = refl;
      owners_are = ap (slice_set w.owners h) left_is;
    }

-- the poll of an owner acts by itself, or finds nothing to do
pub owned : (w : Parts) (h : ℕ) (old left : Owner) (act : Act) (e : Event) → h < length w.owners
    → old ≡ slice_index_or w.owners h old → IsDid (did old) old (Some act) left
    → crew.Moves NeverAsked (crew.Tell (ByOwner h) act) w.crew e w.crew
    → Moves NeverAsked (Own h) w e (record w { owners = slice_set w.owners h left })
owned w h old left act e within value is does = by (did old) refl is
  where
    by : (o : Option Did) → did old ≡ o → IsDid o old (Some act) left
        → Moves NeverAsked (Own h) w e (record w { owners = slice_set w.owners h left })
    by None none is = let seen = is.0 in absurd cc
    by (Some done) some is =
        let same : act ≡ done.act = let seen = is.0 in cc in
        record {
          its_own = refl;
          move = Owns h old done;
          step_is = refl;
          may = (found_at w.owners h old within value, some);
          crew = subst (λ a. crew.Moves NeverAsked (crew.Tell (ByOwner h) a) w.crew e w.crew) same
              does;
          rows_are = refl;
          tasks_are = refl;
          owners_are = ap (slice_set w.owners h) is.1;
        }

-- its poll has nothing to do
pub rested : (w : Parts) (h count : ℕ) (old left : Owner) (e : Event)
    → h < length w.owners → old ≡ slice_index_or w.owners h old → next_of old ≡ next.Acts count
    → IsDid (did old) old None left
    → e ≡ nothing (ByOwner h) (next_start w.crew)
    → Moves NeverAsked (Own h) w e (record w { owners = slice_set w.owners h left })
rested w h count old left e within value acts is event = by (did old) refl is
  where
    found : slice_get w.owners h ≡ Some old
    found = found_at w.owners h old within value

    by : (o : Option Did) → did old ≡ o → IsDid o old None left
        → Moves NeverAsked (Own h) w e (record w { owners = slice_set w.owners h left })
    by (Some done) some is = let seen = is.0 in absurd cc
    by None none is =
        record {
          its_own = refl;
          move = Idles (Own h);
          step_is = refl;
          may = ap may_own_in found ∙ ap (λ n. may_own n (did old)) acts ∙ ap is_some none;
          crew = (event, refl);
          rows_are = refl;
          tasks_are = refl;
          owners_are = ap (slice_set w.owners h) is.1 ∙ set_same w.owners h old found;
        }

pub lent : (may_answer : ℕ → Bool → Type 0) (w : Parts) (h : ℕ) (old : Owner)
    (added : Result JobNumber Refusal) (rows : List Row) (owners : List Owner) (e : Event)
    (new : Crew) → slice_get w.owners h ≡ Some old → next_of old ≡ next.Begins
    → crew.Moves may_answer (crew.Add (ByOwner h) old.client added) w.crew e new
    → rows ≡ rows_after_add w.rows (λ number. session_row number h (new_job_of old)) added
    → owners ≡ slice_set w.owners h (owners_steps.owner_after (lent_step added) old)
    → Moves may_answer (Own h) w e (record w { crew = new; rows = rows; owners = owners })
lent may_answer w h old added rows owners e new found begins does rows_are owners_are =
    record {
      its_own = refl;
      move = Lends h old added;
      step_is = refl;
      may = (found, begins);
      crew = does;
      rows_are = rows_are;
      tasks_are = refl;
      owners_are = owners_are;
    }

pub delivered : (may_answer : ℕ → Bool → Type 0) (w : Parts)
    (h : ℕ) (old left : Owner) (note : JobNumber) (e : Event) (new : Crew) → h < length w.owners
    → old ≡ slice_index_or w.owners h old → Some note ≡ note_at old.stage
    → left ≡ owner_after_delivery old
    → crew.Moves may_answer (crew.Wake (ByOwner h) note) w.crew e new
    → Moves may_answer (Own h) w e (record w { crew = new; owners = slice_set w.owners h left })
delivered may_answer w h old left note e new within value noted left_is does =
    record {
      its_own = refl;
      move = Delivers h old note;
      step_is = refl;
      may = (found_at w.owners h old within value, sym noted);
      crew = does;
      rows_are = refl;
      tasks_are = refl;
      owners_are = ap (slice_set w.owners h) left_is;
    }

-- what holds of a value holds of it under another name
pub ok_map : {A B : Type 0} (r : Result A B) (P Q : A → Type 0) → ((a : A) → P a → Q a) → IfOk r P
    → IfOk r Q
ok_map r P Q f is = grind arith
