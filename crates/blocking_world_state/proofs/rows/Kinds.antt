-- What kind of job it is: only its acceptance tells, so an event that doesn't accept it leaves
-- that.
use Rattle.std.proofs.Common.{◌≡◌, ℕ, List, ◌∷◌, Bool, false, Option, cond, arith}
use Rattle.blocking_world_state.proofs.Types.{Event, Moment, Party}
use Rattle.blocking_world_state.proofs.Words.{accepts, is_some_worker, is_in_cut, cut, own}
use Rattle.blocking_world_state.proofs.Words.{acts_of_owner, kind_of_job, kind_by}

-- by one event more
event_leaves : (h s : ℕ) (e : Event) (seen : List Event) → accepts s e.act ≡ false
    → kind_of_job s (acts_of_owner h (e ∷ seen)) ≡ kind_of_job s (acts_of_owner h seen)
event_leaves h s e seen other = by (is_in_cut h e)
  where
    mine : (b : Bool) → is_some_worker e.party ≡ b
        → kind_of_job s (own (e ∷ cut h seen)) ≡ kind_of_job s (own (cut h seen))
    mine b is = grind arith

    by : (b : Bool) → kind_of_job s (own (cond b (e ∷ cut h seen) (cut h seen)))
        ≡ kind_of_job s (own (cut h seen))
    by b = grind arith

-- by one moment more
pub kind_stays : (who : Option Party) (past : List Moment) (now : Moment) (s : ℕ)
    → accepts s now.event.act ≡ false → kind_by who (now ∷ past) s ≡ kind_by who past s
kind_stays who past now s other = grind (arith, event_leaves)
