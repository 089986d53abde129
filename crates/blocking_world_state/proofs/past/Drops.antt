-- What the past alone says of a job that is to be dropped: it stays so, and who may cancel it still
-- may.
use Rattle.std.proofs.Common.{◌≡◌, ◌⊎◌, ℕ, ◌==◌, List, [], ◌∷◌, map, cond, Bool, true, false, refl}
use Rattle.std.proofs.Common.{Option, if◌then◌else◌, ◌||◌, arith}
use Rattle.blocking_world_state.proofs.Types.{Act, HandedOut, Event, Moment, Party}
use Rattle.blocking_world_state.proofs.Words.{end_of, PoolAnswers, holder, is_holder, cancels}
use Rattle.blocking_world_state.proofs.Words.{is_cancelled, lets_go, is_marked, is_to_drop, PoolLaw}
use Rattle.blocking_world_state.proofs.Words.{EachMayFollow, is_of_job, own, is_dropped, may_cancel}
use Rattle.blocking_world_state.proofs.Words.{is_let_go, Turn, IsWaiting, MustGiveUp, turn_by, turn}
use Rattle.blocking_world_laws.proofs.Beginnings.{keeps}

-- ---- what is to be dropped

either : (a b c d : Bool) → b || d ≡ true → (a || b) || (c || d) ≡ true
either a b c d is = grind arith

drop_stays : (past : List Moment) (now : Moment) (s : ℕ) → is_to_drop past s ≡ true
    → is_to_drop (now ∷ past) s ≡ true
drop_stays past now s is = either _ (is_cancelled past s) _ (is_marked past s) is

-- it becomes so by a cancel, or where its holder lets it go
pub drop_by : (past : List Moment) (now : Moment) (s : ℕ) → cancels now.event.act s ≡ false
    → is_to_drop (now ∷ past) s ≡ true
    → (is_to_drop past s ≡ true)
    ⊎ ((lets_go now.event.act ≡ true) × (is_holder (holder past s) now.event.party ≡ true))
drop_by past now s none drop = grind arith

-- a job is handed out only where it is to be dropped
pub handed_out : (at : Turn) (drop woken : Bool) (s : ℕ) → HandedOut s ≡ end_of at drop woken s
    → (at ≡ IsWaiting) × (drop ≡ true)
handed_out at drop woken s is = grind arith

-- a job that has to give up is to be dropped
pub must_drop : (setting : ℕ) (plan : List Bool) (past : List Moment)
    → EachMayFollow (PoolLaw setting plan) past → (s : ℕ) → turn past s ≡ MustGiveUp
    → is_to_drop past s ≡ true
must_drop setting plan [] laws s is = absurd cc
must_drop setting plan (now ∷ past) laws s is =
    drop_stays past now s (by now.event.act (is_of_job s now.event)
    (must_drop setting plan past laws.1 s) laws.0.answers is)
  where
    at : (t : ℕ) → is_to_drop past t ≡ true → (b : Bool) → (t == s) ≡ b
        → (turn past s ≡ MustGiveUp → is_to_drop past s ≡ true)
        → (if b then MustGiveUp else turn past s) ≡ MustGiveUp → is_to_drop past s ≡ true
    at t drop b same before is = grind arith

    runs : (b : Bool) (other : Turn)
        → (other ≡ MustGiveUp → ⊥) → (turn past s ≡ MustGiveUp → is_to_drop past s ≡ true)
        → (if b then other else turn past s) ≡ MustGiveUp → is_to_drop past s ≡ true
    runs b other differs before is = grind arith

    by : (act : Act) (own : Bool) → (turn past s ≡ MustGiveUp → is_to_drop past s ≡ true)
        → PoolAnswers setting past now act → turn_by act own s (turn past s) ≡ MustGiveUp
        → is_to_drop past s ≡ true
    by act own before answers is = grind arith

-- ---- who may cancel it

let_go_more : (b : Bool) (e : Event) (X : List Event) → is_let_go (map (λ f. f.act) X) ≡ true
    → is_let_go (map (λ f. f.act) (cond b (e ∷ X) X)) ≡ true
let_go_more b e X is = grind arith

dropped_more : (b : Bool) (e : Event) (X : List Event) → is_dropped (own X) ≡ true
    → is_dropped (own (cond b (e ∷ X) X)) ≡ true
dropped_more b e X is = grind arith

-- where its holder might let a job be cancelled, it still may
pub cancel_stays : (setting : ℕ) (plan : List Bool) (past : List Moment) (now : Moment)
    → EachMayFollow (PoolLaw setting plan) (now ∷ past) → (s : ℕ)
    → may_cancel (holder past s) past ≡ true
    → may_cancel (holder (now ∷ past) s) (now ∷ past) ≡ true
cancel_stays setting plan past now laws s may = by (holder past s) refl may
  where
    by : (who : Option Party) → holder past s ≡ who → may_cancel who past ≡ true
        → may_cancel (holder (now ∷ past) s) (now ∷ past) ≡ true
    by who held is = grind (arith, keeps, let_go_more, dropped_more)
