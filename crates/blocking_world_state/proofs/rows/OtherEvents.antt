-- What keeps the rows: an event that is no act of a job, and accepts none.
use Rattle.std.proofs.Common.{◌≡◌, ⊎_elim, ℕ, List, [], ◌∷◌, length, Bool, true, false, refl, sym}
use Rattle.std.proofs.Common.{ap, ◌∙◌, subst, Some, slice_get, arith}
use Rattle.blocking_world_state.proofs.Types.{Act, Moment, ByOwner, ByTask}
use Rattle.blocking_world_state.proofs.Types.{Holds, JobInHand, Core, Row}
use Rattle.blocking_world_state.proofs.Words.{JobNumber, accepted_by, accepted_jobs, accepts}
use Rattle.blocking_world_state.proofs.Words.{holder, ends_for_good, standing, events, joined}
use Rattle.blocking_world_state.proofs.Words.{is_of_job, acts_of, kind_by, turn, hand_at}
use Rattle.blocking_world_state.proofs.Words.{IsNumberOf, CrewHolds, Owner, number_of, Task, Parts}
use Rattle.blocking_world_state.proofs.Words.{row_of, party_of, is_at_first, CoreAs, PlaceAs, RowAs}
use Rattle.blocking_world_state.proofs.Words.{GaveAs, HasRow, Rowed, Tied}
use Rattle.blocking_world_holders.proofs.cuts.Acts.{acts_more}
use Rattle.blocking_world_holders.proofs.ties.Holders.{holder_stays}
use Rattle.blocking_world_state.proofs.rows.Kinds.{kind_stays}
use Rattle.blocking_world_state.proofs.rows.Places.{IsOver, place_after}
use Rattle.blocking_world_state.proofs.ties.Hands.{IsOldOrBegins}

pub none_accepted : (act : Act) (s : ℕ) → accepted_by act ≡ [] → accepts s act ≡ false
none_accepted act s none = grind arith

-- What an event leaves of a row whose job doesn't act.
pub row_kept : (setting : ℕ) (plan : List Bool) (w new : Parts) (past : List Moment) (now : Moment)
    (later : CrewHolds setting plan new.crew (now ∷ past)) (s : ℕ) (row : Row) → RowAs w past s row
    → accepts s now.event.act ≡ false → is_of_job s now.event ≡ false
    → (ends_for_good now.event.act s ≡ true → IsOver (acts_of s (events past)))
    → holder (now ∷ past) s ≡ holder past s → IsNumberOf new.crew.pool row.number
    → RowAs new (now ∷ past) s row
row_kept setting plan w new past now later s row r fresh out over held number =
    let acts = acts_more s now.event (events past) false out in
    record {
      serial = r.serial;
      number = number;
      held_by = held ∙ r.held_by;
      kind_is = ap (λ who. kind_by who (now ∷ past) s) held
          ∙ kind_stays (holder past s) past now s fresh ∙ r.kind_is;
      core = subst (CoreAs row.core) (sym acts) r.core;
      place = subst (PlaceAs (standing (now ∷ past) s) (turn (now ∷ past) s) (is_at_first row.core))
          (sym acts)
          (place_after setting plan past later.laws.1 now later.laws.0 s (is_at_first row.core)
          (acts_of s (events past)) over r.place fresh out);
    }

-- A job that has its row still has it, where the rows stay.
has_kept : (w new : Parts) (before number : JobNumber) (of : Core → Type 0) → new.rows ≡ w.rows
    → before ≡ number → HasRow w before of → HasRow new number of
has_kept w new before number of rows one has = grind arith

-- What such an event owes to the rows: each task, and each owner's last session, has the number of
-- one that was there.
pub record KeepsRows (w new : Parts) (past : List Moment) (now : Moment) : Type 0 where
  pub rows : new.rows ≡ w.rows
  pub accepted : accepted_by now.event.act ≡ []
  pub out : (s : ℕ) → is_of_job s now.event ≡ false
  pub over : (s : ℕ) → ends_for_good now.event.act s ≡ true → IsOver (acts_of s (events past))
  pub tasks : (k : ℕ) (task : Task) → slice_get new.tasks k ≡ Some task
      → (old : Task) × (slice_get w.tasks k ≡ Some old) × (old.number ≡ task.number)
  pub owners : (h : ℕ) (owner : Owner) (number : JobNumber) → slice_get new.owners h ≡ Some owner
      → number_of owner ≡ Some number
      → (old : Owner) × (slice_get w.owners h ≡ Some old) × (number_of old ≡ Some number)
  pub hands : (v : ℕ) (held : JobInHand) → hand_at new.crew.hands v ≡ Holds held
      → IsOldOrBegins w.crew.hands v held

pub rows_kept : (setting : ℕ) (plan : List Bool) (w new : Parts) (past : List Moment) (now : Moment)
    → Tied setting plan w past → CrewHolds setting plan new.crew (now ∷ past)
    → ((s : ℕ) (row : Row) → row_of w.rows s ≡ Some row → IsNumberOf new.crew.pool row.number)
    → KeepsRows w new past now → Rowed new (now ∷ past)
rows_kept setting plan w new past now t later numbers k =
    let r = t.rowed in
    let old = λ (s : ℕ) (row : Row) (found : row_of new.rows s ≡ Some row).
    ap (λ l. row_of l s) (sym k.rows) ∙ found in
    record {
      count = ap length k.rows ∙ r.count
          ∙ sym (ap length (ap (joined (accepted_jobs past)) k.accepted));
      each = λ s row found.
          row_kept setting plan w new past now later s row (r.each s row (old s row found))
          (none_accepted now.event.act s k.accepted) (k.out s) (k.over s)
          (holder_stays past now k.accepted s) (numbers s row (old s row found));
      of_task = λ j task found.
          let before = k.tasks j task found in
          has_kept w new before.0.number task.number (λ c. party_of c ≡ ByTask j) k.rows before.2
          (r.of_task j before.0 before.1);
      of_owner = λ h owner number found is.
          let before = k.owners h owner number found is in
          has_kept w new number number (λ c. party_of c ≡ ByOwner h) k.rows refl
          (r.of_owner h before.0 number before.1 before.2);
      in_hand = λ v held at.
          subst (GaveAs held.stage) (sym
          (acts_more held.turn.serial now.event (events past) false (k.out held.turn.serial)))
          (⊎_elim (λ same. r.in_hand v held same)
          (λ is. is (acts_of held.turn.serial (events past))) (k.hands v held at));
    }
