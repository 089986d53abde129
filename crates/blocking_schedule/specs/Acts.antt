-- What each act of an owner and of its job does at a slot or a pipe.
use Rattle.std.specs.Prelude.{◌≡◌, ℕ, ◌+◌, ◌<◌, ◌≤◌, Bool, true, false, List, Some, None}
use Rattle.blocking_pool.specs.Growth.{greatest}
use Rattle.blocking_schedule.specs.declared.seat.Act.{Act}
use Rattle.blocking_schedule.specs.declared.seat.Act.TheVariants as act
use Rattle.blocking_schedule.specs.declared.seat.Meeting.{Meeting}
use Rattle.blocking_schedule.specs.declared.seat.Polling.{Polling}
use Rattle.blocking_schedule.specs.declared.seat.Polling.TheVariants.{Away, Looked, Registered}
use Rattle.blocking_schedule.specs.declared.seat.Polling.TheVariants.{Waits, Forsaken}
use Rattle.blocking_schedule.specs.Sequences.{InTurn}

-- nothing is there, nobody has polled, and no waker was registered
abbrev pub Begins : Meeting → Type 0
Begins m = m ≡ record {
  is_there = false;
  is_gone = false;
  seat = None;
  in_hand = None;
  registered = 0;
  is_woken = false;
  polling = Away;
}

-- no poll is under way
abbrev pub may_begin : Polling → Bool
may_begin Away = true
may_begin Looked = false
may_begin Registered = false
may_begin Waits = true
may_begin Forsaken = true

-- ---- the owner

-- a poll takes what is there, and may leave something; or it finds nothing, and empties the seat
pub record LooksIn (rest : Bool) (old new : Meeting) : Type 0 where
  pub found : may_begin old.polling ≡ true → old.is_there ≡ true
      → new ≡ record old { is_there = rest; polling = Away }
  pub nothing : may_begin old.polling ≡ true → old.is_there ≡ false
      → new ≡ record old { seat = None; polling = Looked }
  pub otherwise : may_begin old.polling ≡ false → new ≡ old

-- its waker has the next number, and wasn't called
pub record Registers (old new : Meeting) : Type 0 where
  pub next : old.polling ≡ Looked → old.registered < greatest
      → new ≡ record old { registered = old.registered + 1; is_woken = false; polling = Registered }
  pub full : greatest ≤ old.registered → new ≡ old
  pub otherwise : (old.polling ≡ Looked → ⊥) → new ≡ old

-- it takes what is there, and may leave something; else it is seated with its last waker, or, where
-- the job is gone, it isn't
pub record Asks (rest : Bool) (old new : Meeting) : Type 0 where
  pub found : old.polling ≡ Registered → old.is_there ≡ true
      → new ≡ record old { is_there = rest; polling = Away }
  pub forsaken : old.polling ≡ Registered → old.is_there ≡ false → old.is_gone ≡ true
      → new ≡ record old { polling = Forsaken }
  pub seated : old.polling ≡ Registered → old.is_there ≡ false → old.is_gone ≡ false
      → new ≡ record old { seat = Some old.registered; polling = Waits }
  pub otherwise : (old.polling ≡ Registered → ⊥) → new ≡ old

-- what is there is taken, and no poll waits
pub record Abandons (old new : Meeting) : Type 0 where
  pub takes : may_begin old.polling ≡ true → new ≡ record old { is_there = false; polling = Away }
  pub otherwise : may_begin old.polling ≡ false → new ≡ old

-- ---- the job, which makes no other act before it has called the waker in its hand

-- the waker that was seated is in its hand
abbrev pub unseated : Meeting → Meeting
unseated m = record m { seat = None; in_hand = m.seat }

-- so it is, and something is there
pub record Leaves (old new : Meeting) : Type 0 where
  pub leaves : old.in_hand ≡ None → new ≡ record (unseated old) { is_there = true }
  pub otherwise : (old.in_hand ≡ None → ⊥) → new ≡ old

-- so it is, and the job is gone
pub record GivesUp (old new : Meeting) : Type 0 where
  pub goes : old.in_hand ≡ None → new ≡ record (unseated old) { is_gone = true }
  pub otherwise : (old.in_hand ≡ None → ⊥) → new ≡ old

-- so it is, and that is all
pub record Unseats (old new : Meeting) : Type 0 where
  pub takes : old.in_hand ≡ None → new ≡ unseated old
  pub otherwise : (old.in_hand ≡ None → ⊥) → new ≡ old

-- the waker in its hand is called: the last one that was registered, or an older one
pub record Calls (old new : Meeting) : Type 0 where
  pub last : old.in_hand ≡ Some old.registered
      → new ≡ record old { in_hand = None; is_woken = true }
  pub older : (waker : ℕ) → old.in_hand ≡ Some waker → (waker ≡ old.registered → ⊥)
      → new ≡ record old { in_hand = None }
  pub otherwise : old.in_hand ≡ None → new ≡ old

-- ---- any act

abbrev pub Acts : Meeting → Act → Meeting → Type 0
Acts old (act.Look rest) new = LooksIn rest old new
Acts old act.Register new = Registers old new
Acts old (act.Ask rest) new = Asks rest old new
Acts old act.Abandon new = Abandons old new
Acts old act.Leave new = Leaves old new
Acts old act.GiveUp new = GivesUp old new
Acts old act.Unseat new = Unseats old new
Acts old act.Call new = Calls old new

-- these acts, one after the other
abbrev pub Meets : List Act → Meeting → Meeting → Type 0
Meets acts old new = InTurn Meeting Act Acts acts old new
