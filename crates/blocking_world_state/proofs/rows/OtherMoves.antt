-- The moves that leave the rows alone keep what is tied to them.
use Rattle.std.proofs.Common.{◌≡◌, ⊎_elim, ℕ, List, [], ◌∷◌, Bool, true, false, refl, sym, ap, ◌∙◌}
use Rattle.std.proofs.Common.{Option, Some, None, slice_get, slice_set, Ok, Err, arith}
use Rattle.blocking_world_state.proofs.Types.{Act, Event, Moment, Party}
use Rattle.blocking_world_state.proofs.Types.{Holds, JobInHand, Parking, Row}
use Rattle.blocking_world_state.proofs.Words.{JobNumber, IsPlanned, accepted_by, ends_for_good}
use Rattle.blocking_world_state.proofs.Words.{events, is_of_pool, acts_of, hand_at, IsNumberOf}
use Rattle.blocking_world_state.proofs.Words.{CrewHolds, act_in, Owner, number_of, Task}
use Rattle.blocking_world_state.proofs.Words.{task_after_call, Move, Makes, Asks, Owns, Lends}
use Rattle.blocking_world_state.proofs.Words.{Delivers, IsDropped, Begins, Calls, Works, IsAnswered}
use Rattle.blocking_world_state.proofs.Words.{Parks, Passes, IsWoken, IsStruck, Notes, step_of}
use Rattle.blocking_world_state.proofs.Words.{call_of, rows_after, tasks_after, owners_after, May}
use Rattle.blocking_world_state.proofs.Words.{CrewMoves, Parts, row_of, Rowed, moment, Tied}
use Rattle.blocking_world_pool.specs.Moves as crew
use Rattle.blocking_world_holders.specs.OwnerSteps as step
use Rattle.blocking_world_holders.specs.OwnerSteps.{owner_in}
use Rattle.blocking_pool.proofs.Places.{in_pushed}
use Rattle.blocking_world_holders.proofs.acts.Calls.{by_call, call_number}
use Rattle.blocking_world_holders.proofs.owners.Events.{plain_of}
use Rattle.blocking_world_state.proofs.moves.Lookups.{kept_in}
use Rattle.blocking_world_state.proofs.rows.Ends.{pass_over}
use Rattle.blocking_world_state.proofs.rows.Numbers.{number_stays}
use Rattle.blocking_world_state.proofs.rows.OtherEvents.{KeepsRows, rows_kept}
use Rattle.blocking_world_state.proofs.rows.Places.{IsOver}
use Rattle.blocking_world_state.proofs.ties.CrewEvents.{Told}
use Rattle.blocking_world_state.proofs.ties.Events.{SaidBy, said, is_work, no_work, note_is}
use Rattle.blocking_world_state.proofs.ties.Hands.{IsOldOrBegins, leaves_turns, hands_moved}

-- whether a job acts by a move, or is new
abbrev pub changes_rows : Move → Bool
changes_rows (Works v job done) = true
changes_rows (IsAnswered v job answer) = true
changes_rows (Lends h owner (Ok number)) = true
changes_rows (Begins client (Ok number)) = true
changes_rows move = false

-- ---- what is seen of such a move

-- it is no act of a job
no_work_in : (move : Move) → changes_rows move ≡ false → is_work move ≡ false
no_work_in move stay = grind arith

-- No job is accepted, and one that ends for good is over.
record IsQuiet (past : List Moment) (e : Event) : Type 0 where
  none_new : accepted_by e.act ≡ []
  over : (s : ℕ) → ends_for_good e.act s ≡ true → IsOver (acts_of s (events past))

-- only the pool ends a job
no_end : (act : Act) (s : ℕ) → is_of_pool act ≡ false → ends_for_good act s ≡ false
no_end act s is = grind arith

parked_none : (how : Parking) (s : ℕ) → accepted_by (crew.parked_act how s) ≡ []
parked_none how s = grind arith

parked_stays : (how : Parking) (t s : ℕ) → ends_for_good (crew.parked_act how t) s ≡ false
parked_stays how t s = grind arith

module _ (past : List Moment) (e : Event) where
  -- what is no end of a job ends none
  quiet : (who : Party) (job : Option ℕ) (act : Act) → Told who job act e → accepted_by act ≡ []
      → ((s : ℕ) → ends_for_good act s ≡ false) → IsQuiet past e
  quiet who job act told none stays = record {
    none_new = ap accepted_by told.act_is ∙ none;
    over = λ s ends. let kept = ap (λ a. ends_for_good a s) told.act_is ∙ stays s in absurd cc;
  }

  quiet_by : (who : Party) (act : Act) → Told who None act e → accepted_by act ≡ []
      → is_of_pool act ≡ false → IsQuiet past e
  quiet_by who act told none own = quiet who None act told none (λ s. no_end act s own)

module _ (setting : ℕ) (plan : List Bool) (w : Parts) (past : List Moment)
    (t : Tied setting plan w past) (e : Event) (new : Parts) where
  quiet_move : (move : Move) → May w move → CrewMoves (IsPlanned plan) move w e new
      → SaidBy w move e → changes_rows move ≡ false → IsQuiet past e
  quiet_move (Owns h owner done) may does told stay =
      let plain = plain_of step.Acts owner done.act (ap act_in may.1) in
      quiet_by past e _ _ told plain.new plain.pool
  quiet_move (Lends h owner (Ok number)) may does told stay = absurd cc
  quiet_move (Begins client (Ok number)) may does told stay = absurd cc
  quiet_move (Calls k call task) may does told stay =
      quiet_by past e _ _ told
      (by_call (λ act. accepted_by act ≡ []) refl (λ n. refl) refl refl refl refl call task)
      (by_call (λ act. is_of_pool act ≡ false) refl (λ n. refl) refl refl refl refl call task)
  quiet_move (Works v job done) may does told stay = absurd cc
  quiet_move (IsAnswered v job answer) may does told stay = absurd cc
  quiet_move (Delivers h owner number) may does told stay = quiet_by past e _ _ told.1 refl refl
  quiet_move (Parks v job) may does told stay = quiet past e _ _ _ told.1
      (parked_none told.0 job.held.turn.serial) (parked_stays told.0 job.held.turn.serial)
  quiet_move (Passes call) may does plain stay = record {
    none_new = plain.none_new;
    over = pass_over setting plan w past t call new.crew e may.0 may.1 does;
  }
  quiet_move (IsWoken s row) may does told stay = quiet_by past e _ _ told.1 refl refl
  quiet_move (IsStruck s row) may does told stay = quiet_by past e _ _ told.1 refl refl
  quiet_move (Notes step who act) may does told stay = let quiet = note_is who act told.1 in
      quiet_by past e _ _ told.0 quiet.new quiet.pool
  quiet_move _ may does told stay = quiet_by past e _ _ told refl refl

-- ---- what it leaves

rows_same : (w : Parts) (move : Move) → changes_rows move ≡ false → rows_after w move ≡ w.rows
rows_same w move stay = grind arith

-- each task has the number of one that was there
old_task : (w : Parts) (move : Move) → May w move → changes_rows move ≡ false
    → (k : ℕ) (task : Task) → slice_get (tasks_after w move) k ≡ Some task
    → (old : Task) × (slice_get w.tasks k ≡ Some old) × (old.number ≡ task.number)
old_task w (Calls k call old) may stay j task found = kept_in (λ (x : Task). x.number) w.tasks k old
    (task_after_call call old) may.0 (sym (call_number call old)) j task found
old_task w (Works v job done) may stay j task found = absurd cc
old_task w (Begins client (Ok number)) may stay j task found = absurd cc
old_task w _ may stay j task found = (task, found, refl)

-- and each owner's last session too
abbrev OldOwner : Parts → ℕ → JobNumber → Type 0
OldOwner w h number =
    (old : Owner) × (slice_get w.owners h ≡ Some old) × (number_of old ≡ Some number)

owner_set : (w : Parts) (h : ℕ) (old new : Owner) → slice_get w.owners h ≡ Some old
    → number_of new ≡ number_of old
    → (j : ℕ) (owner : Owner) (number : JobNumber)
    → slice_get (slice_set w.owners h new) j ≡ Some owner → number_of owner ≡ Some number
    → OldOwner w j number
owner_set w h old new there same j owner number found is =
    let kept = kept_in number_of w.owners h old new there (sym same) j owner found in
    (kept.0, kept.1, kept.2 ∙ is)

old_owner : (w : Parts) (move : Move) → May w move → changes_rows move ≡ false
    → (h : ℕ) (owner : Owner) (number : JobNumber) → slice_get (owners_after w move) h ≡ Some owner
    → number_of owner ≡ Some number → OldOwner w h number
old_owner w (Makes capacity client) may stay j owner number found is =
    ⊎_elim (λ before. (owner, before, is)) (λ new. let none : number_of owner
    ≡ None = ap number_of (sym new.1) in absurd cc) (in_pushed w.owners _ j owner found)
old_owner w (Asks by h call old) may stay j owner number found is =
    owner_set w h old _ may.0 (number_stays (step.IsAsked call) old refl) j owner number found is
old_owner w (Owns h old done) may stay j owner number found is =
    owner_set w h old done.owner may.0 (ap (λ o. number_of (owner_in o old)) (sym may.1)
    ∙ number_stays step.Acts old refl) j owner number found is
old_owner w (Lends h old (Ok new)) may stay j owner number found is = absurd cc
old_owner w (Lends h old (Err why)) may stay j owner number found is =
    owner_set w h old _ may.0 refl j owner number found is
old_owner w (Delivers h old note) may stay j owner number found is =
    owner_set w h old _ may.0 refl j owner number found is
old_owner w (IsDropped h old) may stay j owner number found is =
    owner_set w h old _ may.0 refl j owner number found is
old_owner w (Works v job done) may stay j owner number found is = absurd cc
old_owner w _ may stay j owner number found is = (owner, found, is)

-- ---- the hands

-- no job in a hand acts by the crew's call
leaves_by : (w : Parts) (move : Move) → May w move → changes_rows move ≡ false
    → leaves_turns (call_of w move) ≡ true
leaves_by w move may stay = grind arith

old_hand : (plan : List Bool) (w : Parts) (e : Event) (new : Parts) (move : Move)
    → leaves_turns (call_of w move) ≡ true → CrewMoves (IsPlanned plan) move w e new
    → (v : ℕ) (held : JobInHand) → hand_at new.crew.hands v ≡ Holds held
    → IsOldOrBegins w.crew.hands v held
old_hand plan w e new move leaves does v held is = grind (arith, hands_moved)

-- ---- the moves

module _ (setting : ℕ) (plan : List Bool) (w : Parts) (past : List Moment)
    (t : Tied setting plan w past) (move : Move) (e : Event) (new : Parts) (may : May w move)
    (does : CrewMoves (IsPlanned plan) move w e new)
    (rows : new.rows ≡ rows_after w move) (tasks : new.tasks ≡ tasks_after w move)
    (owners : new.owners ≡ owners_after w move) where
  keeps_rows : changes_rows move ≡ false → KeepsRows w new past (moment new (step_of move) e)
  keeps_rows stay =
      let told = said plan w move e new may does in
      let seen = quiet_move setting plan w past t e new move may does told stay in
      record {
        rows = rows ∙ rows_same w move stay;
        accepted = seen.none_new;
        out = λ s. no_work w move e s (no_work_in move stay) told;
        over = seen.over;
        tasks = λ k task found. old_task w move may stay k task
            (ap (λ (l : List Task). slice_get l k) (sym tasks) ∙ found);
        owners = λ h owner number found is. old_owner w move may stay h owner number
            (ap (λ (l : List Owner). slice_get l h) (sym owners) ∙ found) is;
        hands = old_hand plan w e new move (leaves_by w move may stay) does;
      }

  -- A move by which no job acts, and none is new, keeps the rows tied to what was seen.
  pub rows_stay : changes_rows move ≡ false
      → CrewHolds setting plan new.crew (moment new (step_of move) e ∷ past)
      → ((s : ℕ) (row : Row) → row_of w.rows s ≡ Some row → IsNumberOf new.crew.pool row.number)
      → Rowed new (moment new (step_of move) e ∷ past)
  rows_stay stay later numbers = rows_kept setting plan w new past (moment new (step_of move) e) t
      later numbers (keeps_rows stay)
