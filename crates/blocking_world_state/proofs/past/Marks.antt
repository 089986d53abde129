-- What an event leaves of the marks: whose job may be cancelled after it, and which jobs are
-- marked, by what it owes to them.
use Rattle.std.proofs.Common.{◌≡◌, ◌⊎◌, ⊎_elim, ℕ, List, ◌∷◌, Bool, true, false, refl, Option, Some}
use Rattle.std.proofs.Common.{if◌then◌else◌, arith}
use Rattle.std.proofs.lemmas.Bool.{or_right, or_parts}
use Rattle.blocking_world_state.proofs.Types.{Act, HolderDropped, Moment, Party, ByOwner, ByTask}
use Rattle.blocking_world_state.proofs.Words.{accepts, newcomer, holder, is_holder, cancels}
use Rattle.blocking_world_state.proofs.Words.{ends_for_good, has_ended, lets_go, is_marked}
use Rattle.blocking_world_state.proofs.Words.{is_to_drop, PoolLaw, EachMayFollow, may_cancel}
use Rattle.blocking_world_state.proofs.Words.{Marked}
use Rattle.blocking_world_pool.proofs.ties.Acts.{by_let_go}
use Rattle.blocking_world_state.proofs.past.Drops.{drop_by, cancel_stays}

-- ---- acts by which a holder lets go

-- such an act accepts no job
lets_none_in : (act : Act) (s : ℕ) → lets_go act ≡ true → accepts s act ≡ false
lets_none_in act s lets = by_let_go (λ a. accepts s a ≡ false) refl refl act lets

-- ---- who may have a job cancelled after an event

-- who may after an event might before it, or lets go by it
cancel_by : (past : List Moment) (now : Moment) (who : Option Party)
    → may_cancel who (now ∷ past) ≡ true
    → (may_cancel who past ≡ true)
    ⊎ ((lets_go now.event.act ≡ true) × (is_holder who now.event.party ≡ true))
cancel_by past now (Some (ByOwner h)) may = grind arith
cancel_by past now (Some (ByTask k)) may = grind arith
cancel_by past now _ may = absurd cc

-- ---- what an event owes to the marks

-- It cancels only a job that was let go; an owner lets go only where it is dropped; and who gets a
-- new job hasn't let go.
pub record KeepsMarks (past : List Moment) (now : Moment) : Type 0 where
  pub cancelled : (s : ℕ) → cancels now.event.act s ≡ true → may_cancel (holder past s) past ≡ true
  pub dropped : (h : ℕ) → now.event.party ≡ ByOwner h → lets_go now.event.act ≡ true
      → now.event.act ≡ HolderDropped
  pub new : (s : ℕ) → accepts s now.event.act ≡ true
      → may_cancel (Some (newcomer past now.event.party)) past ≡ false

-- an act that accepts no job, cancels none and lets none go owes nothing
pub record IsQuiet (act : Act) : Type 0 where
  pub new : (s : ℕ) → accepts s act ≡ false
  pub cancelled : (s : ℕ) → cancels act s ≡ false
  pub kept : lets_go act ≡ false

pub quiet_keeps : (past : List Moment) (now : Moment) → IsQuiet now.event.act → KeepsMarks past now
quiet_keeps past now quiet = grind arith

-- ---- what it leaves of them

module _ (setting : ℕ) (plan : List Bool) (past : List Moment)
    (now : Moment) (laws : EachMayFollow (PoolLaw setting plan) (now ∷ past)) (m : Marked past)
    (k : KeepsMarks past now) where
  -- a job is to be dropped only where it was let go
  let_go_still : (s : ℕ) → is_to_drop (now ∷ past) s ≡ true
      → may_cancel (holder (now ∷ past) s) (now ∷ past) ≡ true
  let_go_still s drop = by (cancels now.event.act s) refl
    where
      lets_now : lets_go now.event.act ≡ true → is_holder (holder past s) now.event.party ≡ true
          → may_cancel (holder (now ∷ past) s) (now ∷ past) ≡ true
      lets_now lets holds = grind arith

      by : (b : Bool) → cancels now.event.act s ≡ b
          → may_cancel (holder (now ∷ past) s) (now ∷ past) ≡ true
      by true cancel = cancel_stays setting plan past now laws s (k.cancelled s cancel)
      by false none = ⊎_elim (λ old. cancel_stays setting plan past now laws s (m.let_go s old))
          (λ lets. lets_now lets.0 lets.1) (drop_by past now s none drop)

  -- and one that was let go, and isn't over, is marked
  marked_still : (s : ℕ) → may_cancel (holder (now ∷ past) s) (now ∷ past) ≡ true
      → has_ended (now ∷ past) s ≡ false → is_marked (now ∷ past) s ≡ true
  marked_still s may going = by (accepts s now.event.act) refl may
    where
      goes_on : has_ended past s ≡ false
      goes_on = (or_parts (ends_for_good now.event.act s) (has_ended past s) going).1

      marks : lets_go now.event.act ≡ true → is_holder (holder past s) now.event.party ≡ true
          → is_marked (now ∷ past) s ≡ true
      marks lets holds = rw (lets, holds, goes_on) refl

      by : (b : Bool) → accepts s now.event.act ≡ b → may_cancel
          (if b then Some (newcomer past now.event.party) else holder past s) (now ∷ past) ≡ true
          → is_marked (now ∷ past) s ≡ true
      by true new may =
          ⊎_elim (λ old. let free = k.new s new in absurd cc)
          (λ lets. let none = lets_none_in now.event.act s lets.0 in absurd cc)
          (cancel_by past now (Some (newcomer past now.event.party)) may)
      by false same may = ⊎_elim (λ old. or_right _ (is_marked past s) (m.marked s old goes_on))
          (λ lets. marks lets.0 lets.1) (cancel_by past now (holder past s) may)

  pub marks_kept : Marked (now ∷ past)
  marks_kept = record { let_go = let_go_still; marked = marked_still }
