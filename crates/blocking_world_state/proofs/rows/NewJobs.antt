-- A new job keeps the rows: where it is accepted, it gets the next one.
use Rattle.std.proofs.Common.{◌≡◌, ◌⊎◌, inl, inr, ⊎_elim, ℕ, ◌+◌, ◌==◌, ◌++◌, List, [], ◌∷◌, length}
use Rattle.std.proofs.Common.{length-append, Bool, true, false, refl, sym, ap, ◌∙◌, subst, Some}
use Rattle.std.proofs.Common.{if◌then◌else◌, Option, None, slice_get, slice_set, Ok, arith}
use Rattle.std.proofs.lemmas.Bool.{eqb-true, eq-eqb}
use Rattle.std.proofs.lemmas.Option.{slice_get_within}
use Rattle.blocking_world_state.proofs.Types.{Queued, Accepted, Event, Moment, ByOwner, Pool}
use Rattle.blocking_world_state.proofs.Types.{ByTask, HandleCall, Holds}
use Rattle.blocking_world_state.proofs.Types.{JobInHand, OwnerStage, Core}
use Rattle.blocking_world_state.proofs.Types.{Row}
use Rattle.blocking_world_state.proofs.Words.{Pipe, JobNumber, IsPlanned, Kind, accepted_by}
use Rattle.blocking_world_state.proofs.Words.{accepted_jobs, accepts, newcomer, holder}
use Rattle.blocking_world_state.proofs.Words.{ends_for_good, standing, events, joined}
use Rattle.blocking_world_state.proofs.Words.{is_some_worker, acts_of, cut, own, acts_of_owner}
use Rattle.blocking_world_state.proofs.Words.{kind_of_job, kind_by, turn, hand_at, IsNumberOf}
use Rattle.blocking_world_state.proofs.Words.{CrewHolds, OwnerAs, Owner, number_of, new_job_of}
use Rattle.blocking_world_state.proofs.Words.{after_begin, Goods, new_job, JobAs, Session, Task}
use Rattle.blocking_world_state.proofs.Words.{new_task, Lends, Begins, step_of, rows_after}
use Rattle.blocking_world_state.proofs.Words.{tasks_after, owners_after, May, CrewMoves, Parts}
use Rattle.blocking_world_state.proofs.Words.{row_of, party_of, kind_of, call_row, session_row}
use Rattle.blocking_world_state.proofs.Words.{is_first, is_at_first, CoreAs, PlaceAs, RowAs, GaveAs}
use Rattle.blocking_world_state.proofs.Words.{HasRow, Rowed, moment, Tied}
use Rattle.blocking_world_laws.specs.Sessions as sessions
use Rattle.blocking_world_pool.specs.Moves as crew
use Rattle.blocking_world_holders.specs.OwnerSteps as owners
use Rattle.blocking_world_holders.specs.Owners.{next_at}
use Rattle.blocking_world_holders.specs.SessionJobs as jobs
use Rattle.blocking_world_holders.specs.declared.owner.OwnerNext.TheVariants as next
use Rattle.blocking_pool.proofs.Places.{got_before, got_other, got_same, in_pushed}
use Rattle.blocking_world_holders.proofs.cuts.Acts.{acts_more}
use Rattle.blocking_world_holders.proofs.owners.Polls.{owner_by_parts}
use Rattle.blocking_world_state.proofs.moves.Lookups.{row_found, row_at, row_pushed}
use Rattle.blocking_world_state.proofs.rows.OtherEvents.{row_kept}
use Rattle.blocking_world_state.proofs.ties.CrewEvents.{told, by_no_worker, added_of}
use Rattle.blocking_world_state.proofs.ties.Hands.{IsOldOrBegins, hands_moved}
use Rattle.blocking_world_state.proofs.ties.JobSteps.{seen_is}
use Rattle.blocking_world_state.proofs.ties.Jobs.{next_row, next_free}

-- an older row stays
row_stays : (rows : List Row) (new row : Row) (s : ℕ) → row_of rows s ≡ Some row
    → row_of (rows ++ new ∷ []) s ≡ Some row
row_stays rows new row s found = grind (arith, row_found, row_at, got_before, slice_get_within)

-- What a new job makes of the parts, which gets this row: each task, and each owner's last session,
-- has the number of one that was there, or is that of the new job.
record IsBorn (w new : Parts) (past : List Moment) (now : Moment) (row : Row) : Type 0 where
  accepted : now.event.act ≡ Accepted row.number.serial
  by_none : is_some_worker now.event.party ≡ false
  brings : newcomer past now.event.party ≡ party_of row.core
  serial : row.number.serial ≡ w.crew.pool.next_serial
  number_is : IsNumberOf new.crew.pool row.number
  first : is_at_first row.core ≡ true
  core : CoreAs row.core []
  kind : (s : ℕ) → (row.number.serial == s) ≡ true
      → kind_by (Some (party_of row.core)) (now ∷ past) s ≡ kind_of row.core
  hands : (v : ℕ) (held : JobInHand) → hand_at new.crew.hands v ≡ Holds held
      → IsOldOrBegins w.crew.hands v held
  rows : new.rows ≡ w.rows ++ row ∷ []
  tasks : (k : ℕ) (task : Task)
      → slice_get new.tasks k ≡ Some task → (slice_get w.tasks k ≡ Some task)
      ⊎ ((row.number ≡ task.number) × (party_of row.core ≡ ByTask k))
  owners : (h : ℕ) (owner : Owner) (number : JobNumber) → slice_get new.owners h ≡ Some owner
      → number_of owner ≡ Some number
      → (slice_get w.owners h ≡ Some owner)
      ⊎ ((row.number ≡ number) × (party_of row.core ≡ ByOwner h))

module _ (setting : ℕ) (plan : List Bool) (w : Parts)
    (past : List Moment) (t : Tied setting plan w past) (new : Parts) (now : Moment) (row : Row)
    (b : IsBorn w new past now row)
    (later : CrewHolds setting plan new.crew (now ∷ past)) (numbers : (s : ℕ) (row : Row)
    → row_of w.rows s ≡ Some row → IsNumberOf new.crew.pool row.number) where
  none_acts : (s : ℕ) → acts_of s (events (now ∷ past)) ≡ acts_of s (events past)
  none_acts s = acts_more s now.event (events past) false (by_no_worker s now.event b.by_none)

  last : row.number.serial ≡ length w.rows + 1
  last = b.serial ∙ next_row setting plan w past t

  -- nothing was seen of the new job
  unseen : acts_of row.number.serial (events past) ≡ []
  unseen =
      t.owned.unheld row.number.serial (ap (holder past) b.serial ∙ next_free setting plan w past t)

  -- a row is an older one, or the new one of this serial
  which : (s : ℕ) (found : Row) → row_of new.rows s ≡ Some found
      → ((row.number.serial == s) ≡ false) × (row_of w.rows s ≡ Some found)
      ⊎ ((row.number.serial == s) ≡ true) × (row ≡ found)
  which s found is = grind (arith, row_pushed)

  held_by : (s : ℕ) (c : Bool) → (row.number.serial == s) ≡ c
      → holder (now ∷ past) s ≡ (if c then Some (party_of row.core) else holder past s)
  held_by s c is = grind arith

  older : (s : ℕ) (found : Row) → (row.number.serial == s) ≡ false → row_of w.rows s ≡ Some found
      → RowAs new (now ∷ past) s found
  older s found other is =
      row_kept setting plan w new past now later s found (t.rowed.each s found is)
      (ap (accepts s) b.accepted ∙ other) (by_no_worker s now.event b.by_none)
      (λ ends. let none = ap (λ a. ends_for_good a s) b.accepted in
      absurd cc) (held_by s false other) (numbers s found is)

  newest : (s : ℕ) → (row.number.serial == s) ≡ true → RowAs new (now ∷ past) s row
  newest s here =
      let same = eqb-true row.number.serial s here in
      let acts : acts_of s (events (now ∷ past)) ≡ [] =
      none_acts s ∙ ap (λ n. acts_of n (events past)) (sym same) ∙ unseen in
      let queued : standing (now ∷ past) s ≡ Some Queued =
      rw b.accepted (ap (λ c. if c then Some Queued else standing past s) here) in
      record {
        serial = same;
        number = b.number_is;
        held_by = held_by s true here;
        kind_is = ap (λ who. kind_by who (now ∷ past) s) (held_by s true here) ∙ b.kind s here;
        core = subst (CoreAs row.core) (sym acts) b.core;
        place = subst (λ o. PlaceAs o (turn (now ∷ past) s) (is_at_first row.core)
            (acts_of s (events (now ∷ past)))) (sym queued)
            (subst (λ l. PlaceAs (Some Queued) (turn (now ∷ past) s) (is_at_first row.core) l)
            (sym acts) (b.first, refl));
      }

  -- a job that had its row still has it, and the new one has its own
  still : (number : JobNumber) (of : Core → Type 0) → HasRow w number of → HasRow new number of
  still number of has = record {
    row = has.row;
    found = ap (λ l. row_of l number.serial) b.rows
        ∙ row_stays w.rows row has.row number.serial has.found;
    same = has.same;
    its = has.its;
  }

  has_new : (number : JobNumber) (of : Core → Type 0) → row.number ≡ number → of row.core
      → HasRow new number of
  has_new number of same its = grind (arith, row_pushed)

  rows_born : Rowed new (now ∷ past)
  rows_born = record {
    count =
        ap length b.rows ∙ length-append w.rows (row ∷ []) ∙ ap (λ n. n + 1) t.rowed.count
        ∙ sym (ap length (ap (λ a. joined (accepted_jobs past) (accepted_by a)) b.accepted)
        ∙ length-append (accepted_jobs past) (row.number.serial ∷ []));
    each = λ s found is. ⊎_elim (λ old. older s found old.0 old.1)
        (λ one. subst (RowAs new (now ∷ past) s) one.1 (newest s one.0)) (which s found is);
    of_task = λ k task found.
        ⊎_elim (λ before.
        still task.number (λ c. party_of c ≡ ByTask k) (t.rowed.of_task k task before)) (λ is.
        has_new task.number (λ c. party_of c ≡ ByTask k) is.0 is.1) (b.tasks k task found);
    of_owner = λ h owner number found is.
        ⊎_elim (λ before. still number (λ c. party_of c ≡ ByOwner h)
        (t.rowed.of_owner h owner number before is)) (λ one. has_new number
        (λ c. party_of c ≡ ByOwner h) one.0 one.1) (b.owners h owner number found is);
    in_hand = λ v held at.
        subst (GaveAs held.stage) (sym (none_acts held.turn.serial))
        (⊎_elim (λ same. t.rowed.in_hand v held same)
        (λ is. is (acts_of held.turn.serial (events past))) (b.hands v held at));
  }

-- ---- the moves

-- its job has done nothing yet, and is at its first action
new_so : (kind : Kind) → JobAs (new_job kind) []
new_so kind = grind arith

new_first : (kind : Kind) → is_first (jobs.action_of (new_job kind)) ≡ true
new_first kind = grind arith

-- it is of the kind that the call asks for which begins the session
begins_kind : (bytes client : ℕ)
    (asked : Option HandleCall) (here : OwnerStage) (last : Option Session) (cut : List Event)
    → OwnerAs (owner_by_parts bytes client asked here last) cut → next_at here last ≡ next.Begins
    → sessions.kind_of (sessions.call (own cut)) ≡ jobs.kind_of (new_job (sessions.kind_of asked))
begins_kind bytes client asked here last cut t begins = grind arith

-- and that its acceptance tells
accepted_kind : (h s n first started : ℕ) (refused : Bool) (seen : List Event) → (n == s) ≡ true
    → kind_of_job s (acts_of_owner h (record {
      party = ByOwner h;
      owner = None;
      job = None;
      act = Accepted n;
      first = first;
      started = started;
      start_refused = refused;
    } ∷ seen))
    ≡ sessions.kind_of (sessions.call (acts_of_owner h seen))
accepted_kind h s n first started refused seen is = rw (eq-eqb h h refl, is) refl

-- where a session begins, it is that of the new job
begins_with : (number : JobNumber) (goods : Goods) (pipe : Pipe ℕ (Unit {0}))
    (here : OwnerStage) (owner : Owner) → next_at here owner.session ≡ next.Begins
    → number_of (after_begin number goods pipe here owner) ≡ Some number
begins_with number goods pipe here owner is = grind arith

module _ (setting : ℕ) (plan : List Bool) (w : Parts) (past : List Moment)
    (t : Tied setting plan w past) (e : Event) (new : Parts) (number : JobNumber)
    (numbers : (s : ℕ) (row : Row) → row_of w.rows s ≡ Some row
    → IsNumberOf new.crew.pool row.number) where
  -- a new call
  pub rows_begun : (client : ℕ) → CrewMoves (IsPlanned plan) (Begins client (Ok number)) w e new
      → new.rows ≡ rows_after w (Begins client (Ok number))
      → new.tasks ≡ tasks_after w (Begins client (Ok number))
      → new.owners ≡ owners_after w (Begins client (Ok number))
      → CrewHolds setting plan new.crew (moment new (step_of (Begins client (Ok number))) e ∷ past)
      → Rowed new (moment new (step_of (Begins client (Ok number))) e ∷ past)
  rows_begun client does rows tasks owners later =
      let said = told (IsPlanned plan) (crew.Add Pool client (Ok number)) w.crew new.crew e does in
      let added = added_of plan Pool client w.crew new.crew e number does in
      rows_born setting plan w past t new (moment new (step_of (Begins client (Ok number))) e)
      (call_row number (length w.tasks))
      (record {
        accepted = said.act_is;
        by_none = ap is_some_worker said.party;
        brings = ap (newcomer past) said.party ∙ ap ByTask (sym t.tasked.count);
        serial = added.0;
        number_is = added.1;
        first = refl;
        core = λ going. refl;
        kind = λ s here. refl;
        hands = hands_moved (IsPlanned plan) (crew.Add Pool client (Ok number)) w.crew new.crew e
            refl does;
        rows = rows;
        tasks = λ k task found.
            ⊎_elim (λ old. inl old)
            (λ is. inr (ap (λ (x : Task). x.number) is.1, ap ByTask (sym is.0)))
            (in_pushed w.tasks (new_task number) k task
            (ap (λ (l : List Task). slice_get l k) (sym tasks) ∙ found));
        owners = λ h owner last found is.
            inl (ap (λ (l : List Owner). slice_get l h) (sym owners) ∙ found);
      }) later numbers

  -- a new session
  pub rows_lent : (h : ℕ) (owner : Owner) → May w (Lends h owner (Ok number))
      → CrewMoves (IsPlanned plan) (Lends h owner (Ok number)) w e new
      → new.rows ≡ rows_after w (Lends h owner (Ok number))
      → new.tasks ≡ tasks_after w (Lends h owner (Ok number))
      → new.owners ≡ owners_after w (Lends h owner (Ok number))
      → CrewHolds setting plan new.crew (moment new (step_of (Lends h owner (Ok number))) e ∷ past)
      → Rowed new (moment new (step_of (Lends h owner (Ok number))) e ∷ past)
  rows_lent h owner may does rows tasks theirs later =
      let said = told (IsPlanned plan) (crew.Add (ByOwner h) owner.client (Ok number)) w.crew
      new.crew e does in
      let added = added_of plan (ByOwner h) owner.client w.crew new.crew e number does in
      rows_born setting plan w past t new (moment new (step_of (Lends h owner (Ok number))) e)
      (session_row number h (new_job_of owner))
      (record {
        accepted = said.act_is;
        by_none = ap is_some_worker said.party;
        brings = ap (newcomer past) said.party;
        serial = added.0;
        number_is = added.1;
        first = new_first (sessions.kind_of owner.asked);
        core = λ going. new_so (sessions.kind_of owner.asked);
        kind = λ s here.
            subst (λ (x : Event). kind_of_job s (acts_of_owner h (x ∷ events past))
            ≡ jobs.kind_of (new_job_of owner))
            (sym (seen_is new (ByOwner h) None None (Accepted number.serial) e said refl))
            (accepted_kind h s number.serial e.first e.started e.start_refused (events past) here
            ∙ begins_kind owner.capacity owner.client owner.asked owner.stage owner.session
            (cut h (events past)) (t.owned.each h owner may.0) may.1);
        hands = hands_moved (IsPlanned plan) (crew.Add (ByOwner h) owner.client (Ok number)) w.crew
            new.crew e refl does;
        rows = rows;
        tasks = λ k task found. inl (ap (λ (l : List Task). slice_get l k) (sym tasks) ∙ found);
        owners = λ j other last found is. lent j (h == j) refl other last
            (ap (λ (l : List Owner). slice_get l j) (sym theirs) ∙ found) is;
      }) later numbers
    where
      begun : Owner
      begun = owners.owner_after (owners.Begins number) owner

      lent : (j : ℕ) (c : Bool) → (h == j) ≡ c → (other : Owner) (last : JobNumber)
          → slice_get (slice_set w.owners h begun) j ≡ Some other → number_of other ≡ Some last
          → (slice_get w.owners j ≡ Some other) ⊎ ((number ≡ last) × (ByOwner h ≡ ByOwner j))
      lent j c same other last found is =
          grind (arith, got_same, slice_get_within, begins_with, got_other)
