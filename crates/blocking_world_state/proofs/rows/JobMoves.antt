-- An act of the job in a hand keeps the rows: its own row has changed, and no other.
use Rattle.std.proofs.Common.{◌≡◌, ℕ, ◌==◌, ◌-◌, List, [], ◌∷◌, length, cond, Bool, true, false}
use Rattle.std.proofs.Common.{refl, sym, ap, ◌∙◌, subst, Some, if◌then◌else◌, ◌&&◌, slice_set}
use Rattle.std.proofs.lemmas.Bool.{eqb-true, eqb-false, eq-eqb, ne_eqb}
use Rattle.std.proofs.Math.ListN.{length-set}
use Rattle.blocking_world_state.proofs.Types.{Queued, Running, Act, Answered, Event, Moment}
use Rattle.blocking_world_state.proofs.Types.{ByOwner, ByTask, Worker, HandleAnswer}
use Rattle.blocking_world_state.proofs.Types.{Step, Holds, JobInHand}
use Rattle.blocking_world_state.proofs.Types.{Core, Row}
use Rattle.blocking_world_state.proofs.Words.{JobNumber, IsPlanned, accepted_by, accepted_jobs}
use Rattle.blocking_world_state.proofs.Words.{holder, ends_for_good, is_marked, sweeps, stands_by}
use Rattle.blocking_world_state.proofs.Words.{is_parked, standing, events, joined, is_of_job}
use Rattle.blocking_world_state.proofs.Words.{acts_of, kind_by, turn_by, turn, may_act, stage_after}
use Rattle.blocking_world_state.proofs.Words.{hand_at, held_after_act, IsNumberOf, turn_of}
use Rattle.blocking_world_state.proofs.Words.{CrewHolds, Works, IsAnswered, step_of, rows_after}
use Rattle.blocking_world_state.proofs.Words.{tasks_after, owners_after, May, CrewMoves, Parts}
use Rattle.blocking_world_state.proofs.Words.{row_of, InHand, party_of, Done, core_after_answer}
use Rattle.blocking_world_state.proofs.Words.{RowAs, GaveAs, HasRow, Rowed, moment, Tied}
use Rattle.blocking_world_pool.specs.Moves as crew
use Rattle.blocking_world_pool.proofs.hands.Rows.{at_held, hand_set}
use Rattle.blocking_world_pool.proofs.ties.Standings.{held_runs}
use Rattle.blocking_world_holders.proofs.cuts.Acts.{acts_more}
use Rattle.blocking_world_holders.proofs.ties.Holders.{holder_stays}
use Rattle.blocking_world_state.proofs.moves.Lookups.{one_found, row_set}
use Rattle.blocking_world_state.proofs.rows.JobActs.{IsOwnAct, own_act, place_acted, gave_acted}
use Rattle.blocking_world_state.proofs.rows.JobActs.{Leaves, done_leaves, answer_leaves}
use Rattle.blocking_world_state.proofs.rows.KeptNumbers.{KeepNumbers, same_numbers, done_numbers}
use Rattle.blocking_world_state.proofs.rows.Kinds.{kind_stays}
use Rattle.blocking_world_state.proofs.rows.OtherEvents.{none_accepted, row_kept}
use Rattle.blocking_world_state.proofs.ties.CrewEvents.{worked}
use Rattle.blocking_world_state.proofs.ties.Events.{done_fits}
use Rattle.blocking_world_state.proofs.ties.JobSteps.{asks_here}
use Rattle.blocking_world_state.proofs.ties.Jobs.{IsHere, job_here, job_place}

-- What an act of the job in the hand of worker v makes of the parts, where it leaves its row with
-- this core.
record IsWork (w new : Parts) (past : List Moment) (now : Moment) (v : ℕ) (job : InHand) (act : Act)
    (core : Core) : Type 0 where
  here : IsHere w v job
  fits : may_act job.held.stage act ≡ true
  party : now.event.party ≡ Worker v
  job_is : now.event.job ≡ Some job.held.turn.serial
  act_is : now.event.act ≡ act
  hands : new.crew.hands ≡ (crew.after w.crew (crew.Works v job.held act)).hands
  leaves : Leaves job.row.core core act (acts_of job.held.turn.serial (events past))
  rows : new.rows ≡ slice_set w.rows (job.held.turn.serial - 1) (record job.row { core = core })
  numbers : KeepNumbers w.tasks w.owners new.tasks new.owners

module _ (setting : ℕ) (plan : List Bool) (w : Parts) (past : List Moment)
    (t : Tied setting plan w past) (new : Parts) (now : Moment) (v : ℕ) (job : InHand) (act : Act)
    (core : Core) (k : IsWork w new past now v job act core)
    (later : CrewHolds setting plan new.crew (now ∷ past)) (numbers : (s : ℕ) (row : Row)
    → row_of w.rows s ≡ Some row → IsNumberOf new.crew.pool row.number) where
  abbrev s : ℕ
  s = job.held.turn.serial

  abbrev left : Row
  left = record job.row { core = core }

  own : IsOwnAct act
  own = own_act job.held.stage act k.fits

  none_new : accepted_by now.event.act ≡ []
  none_new = ap accepted_by k.act_is ∙ own.accepted

  of_job : (n : ℕ) → is_of_job n now.event ≡ (s == n)
  of_job n = rw (k.act_is, k.party, k.job_is, own.pool, own.something) refl

  acts_now : (n : ℕ) (b : Bool) → (s == n) ≡ b → acts_of n (events (now ∷ past))
      ≡ cond b (now.event.act ∷ acts_of n (events past)) (acts_of n (events past))
  acts_now n b is = acts_more n now.event (events past) b (of_job n ∙ is)

  found_now : (n : ℕ) (b : Bool) → (s == n) ≡ b
      → row_of new.rows n ≡ (if b then Some left else row_of w.rows n)
  found_now n b is = ap (λ l. row_of l n) k.rows ∙ row_set w.rows s n job.row left k.here.has_row
      ∙ ap (λ c. if c then Some left else row_of w.rows n) is

  -- the job that acted
  acts_mine : acts_of s (events (now ∷ past)) ≡ act ∷ acts_of s (events past)
  acts_mine = acts_now s true (eq-eqb s s refl) ∙ ap (λ a. a ∷ acts_of s (events past)) k.act_is

  mine : RowAs new (now ∷ past) s left
  mine =
      let as_row = t.rowed.each s job.row k.here.has_row in
      let stand : standing (now ∷ past) s ≡ Some Running =
      ap (λ a. if sweeps a && is_parked (standing past s) && is_marked past s then Some Queued
      else stands_by a s (standing past s)) k.act_is
      ∙ own.stays s (standing past s) (is_marked past s)
      ∙ held_runs setting plan w.crew past t.crewed v job.held k.here.holds in
      let at : turn (now ∷ past) s ≡ turn_by act true s (turn_of job.held.stage) =
      ap (λ a. turn_by a (is_of_job s now.event) s (turn past s)) k.act_is
      ∙ ap (λ b. turn_by act b s (turn past s)) (of_job s ∙ eq-eqb s s refl)
      ∙ ap (turn_by act true s) (t.crewed.tied.handed.turn_is v job.held k.here.holds) in
      record {
        serial = as_row.serial;
        number = numbers s job.row k.here.has_row;
        held_by = holder_stays past now none_new s ∙ as_row.held_by ∙ ap Some (sym k.leaves.party);
        kind_is = ap (λ who. kind_by who (now ∷ past) s) (holder_stays past now none_new s)
            ∙ kind_stays (holder past s) past now s (none_accepted now.event.act s none_new)
            ∙ as_row.kind_is ∙ sym k.leaves.kind;
        core = rw acts_mine k.leaves.core;
        place = rw (stand, at, acts_mine)
            (place_acted job.held.stage act s _ _ (acts_of s (events past)) k.fits k.leaves.parks
            (job_place setting plan w past t v job k.here));
      }

  each_now : (n : ℕ) (b : Bool) → (s == n) ≡ b → (row : Row) → row_of new.rows n ≡ Some row
      → RowAs new (now ∷ past) n row
  each_now n true is row found =
      let one : left ≡ row = one_found (row_of new.rows n) left row (found_now n true is) found in
      subst (λ m. RowAs new (now ∷ past) m row) (eqb-true s n is)
      (subst (RowAs new (now ∷ past) s) one mine)
  each_now n false is row found =
      let old = sym (found_now n false is) ∙ found in
      row_kept setting plan w new past now later n row (t.rowed.each n row old)
      (none_accepted now.event.act n none_new) (of_job n ∙ is)
      (λ ends. let none = ap (λ a. ends_for_good a n) k.act_is ∙ own.ended n in
      absurd cc) (holder_stays past now none_new n) (numbers n row old)

  -- a job that had its row still has it
  still : (before number : JobNumber) (of : Core → Type 0)
      → ((c : Core) → party_of c ≡ party_of job.row.core → of job.row.core → of c) → before ≡ number
      → HasRow w before of → HasRow new number of
  still before number of same one has =
      subst (λ n. HasRow new n of) one (by (s == before.serial) refl)
    where
      by : (b : Bool) → (s == before.serial) ≡ b → HasRow new before of
      by true is =
          let old = one_found (row_of w.rows before.serial) job.row has.row
          (ap (row_of w.rows) (sym (eqb-true s before.serial is)) ∙ k.here.has_row) has.found in
          record {
            row = left;
            found = found_now before.serial true is;
            same = ap (λ (r : Row). r.number) old ∙ has.same;
            its = same core k.leaves.party (subst (λ (r : Row). of r.core) (sym old) has.its);
          }
      by false is = record {
        row = has.row;
        found = found_now before.serial false is ∙ has.found;
        same = has.same;
        its = has.its;
      }

  -- the job in a hand
  hands_now : (u : ℕ) (b : Bool) → (v == u) ≡ b → (other : JobInHand) → hand_at new.crew.hands u
      ≡ Holds other → GaveAs other.stage (acts_of other.turn.serial (events (now ∷ past)))
  hands_now u b is other at =
      by b is
      (sym (ap (λ l. hand_at l u) k.hands ∙ hand_set w.crew.hands v u (Holds job.held)
      (Holds (held_after_act job.held act)) (at_held w.crew.hands v job.held k.here.holds)
      ∙ ap (λ c. if c then Holds (held_after_act job.held act) else hand_at w.crew.hands u)
      is) ∙ at)
    where
      by : (b : Bool) → (v == u) ≡ b
          → (if b then Holds (held_after_act job.held act) else hand_at w.crew.hands u)
          ≡ Holds other → GaveAs other.stage (acts_of other.turn.serial (events (now ∷ past)))
      by true is held =
          let one : held_after_act job.held act ≡ other = cc in
          subst (λ (x : JobInHand). GaveAs x.stage
          (acts_of x.turn.serial (events (now ∷ past)))) one
          (subst (GaveAs (stage_after act job.held.stage))
          (sym acts_mine) (gave_acted job.held.stage act (acts_of s (events past)) k.fits
          (t.rowed.in_hand v job.held k.here.holds)))
      by false is held =
          rw (acts_now other.turn.serial false (ne_eqb s other.turn.serial (λ same. eqb-false
          v u is (t.crewed.ready.apart v u job.held other k.here.holds held same))))
          (t.rowed.in_hand u other held)

  rows_acted : Rowed new (now ∷ past)
  rows_acted = record {
    count = ap length k.rows ∙ length-set w.rows (s - 1) left ∙ t.rowed.count
        ∙ sym (ap length (ap (joined (accepted_jobs past)) none_new));
    each = λ n row found. each_now n (s == n) refl row found;
    of_task = λ j task found.
        let before = k.numbers.of_task j task found in
        still before.0.number task.number (λ c. party_of c ≡ ByTask j) (λ c party its. party ∙ its)
        before.2 (t.rowed.of_task j before.0 before.1);
    of_owner = λ h owner number found is.
        let before = k.numbers.of_owner h owner found in
        still number number (λ c. party_of c ≡ ByOwner h) (λ c party its. party ∙ its) refl
        (t.rowed.of_owner h before.0 number before.1 (before.2 ∙ is));
    in_hand = λ u other at. hands_now u (v == u) refl other at;
  }

-- ---- the moves

module _ (setting : ℕ) (plan : List Bool) (w : Parts) (past : List Moment)
    (t : Tied setting plan w past) (e : Event) (new : Parts)
    (numbers : (s : ℕ) (row : Row) → row_of w.rows s ≡ Some row
    → IsNumberOf new.crew.pool row.number) where
  -- by an act of the crew that leaves the row with this core
  rows_by : (step : Step) (v : ℕ) (job : InHand) (act : Act) (core : Core)
      → IsHere w v job → may_act job.held.stage act ≡ true
      → crew.Moves (IsPlanned plan) (crew.Work v act) w.crew e new.crew
      → Leaves job.row.core core act (acts_of job.held.turn.serial (events past))
      → new.rows ≡ slice_set w.rows (job.held.turn.serial - 1) (record job.row { core = core })
      → KeepNumbers w.tasks w.owners new.tasks new.owners
      → CrewHolds setting plan new.crew (moment new step e ∷ past)
      → Rowed new (moment new step e ∷ past)
  rows_by step v job act core here fits does leaves rows keeps later =
      let told = worked (IsPlanned plan) v job.held act w.crew new.crew e here.holds fits does in
      rows_acted setting plan w past t new (moment new step e) v job act core
      (record {
        here = here;
        fits = fits;
        party = told.0.party;
        job_is = told.0.job_is;
        act_is = told.0.act_is;
        hands = ap (λ c. c.hands) told.1;
        leaves = leaves;
        rows = rows;
        numbers = keeps;
      }) later numbers

  -- a job acts by itself
  pub rows_worked : (v : ℕ) (job : InHand) (did : Done) → May w (Works v job did)
      → CrewMoves (IsPlanned plan) (Works v job did) w e new
      → new.rows ≡ rows_after w (Works v job did) → new.tasks ≡ tasks_after w (Works v job did)
      → new.owners ≡ owners_after w (Works v job did)
      → CrewHolds setting plan new.crew (moment new (step_of (Works v job did)) e ∷ past)
      → Rowed new (moment new (step_of (Works v job did)) e ∷ past)
  rows_worked v job did may does rows tasks owners =
      let here = job_here w v job may.0 in
      let as_row = t.rowed.each job.held.turn.serial job.row here.has_row in
      rows_by _ v job did.act did.core here
      (done_fits did job.held.stage job.row.core w.tasks w.owners may.1) does
      (done_leaves setting plan w past t job.held.stage job.held.turn.serial job.row.core did
      as_row.core (job_place setting plan w past t v job here) as_row.held_by may.1) rows
      (rw (tasks, owners) (done_numbers w job.held.stage job.row.core did may.1))

  -- a job is answered
  pub rows_answered : (v : ℕ) (job : InHand) (answer : HandleAnswer)
      → May w (IsAnswered v job answer)
      → CrewMoves (IsPlanned plan) (IsAnswered v job answer) w e new
      → new.rows ≡ rows_after w (IsAnswered v job answer)
      → new.tasks ≡ tasks_after w (IsAnswered v job answer)
      → new.owners ≡ owners_after w (IsAnswered v job answer)
      → CrewHolds setting plan new.crew (moment new (step_of (IsAnswered v job answer)) e ∷ past)
      → Rowed new (moment new (step_of (IsAnswered v job answer)) e ∷ past)
  rows_answered v job answer may does rows tasks owners =
      let here = job_here w v job may.0 in
      let asks = asks_here setting plan w past t v job answer here may.1 in
      rows_by _ v job (Answered answer) (core_after_answer answer job.row.core) here asks.2 does
      (answer_leaves job.row.core answer (acts_of job.held.turn.serial (events past))
      (t.rowed.each job.held.turn.serial job.row here.has_row).core asks.0 asks.1) rows
      (rw (tasks, owners) (same_numbers w.tasks w.owners))
