-- What a machine keeps of its next action.
use Rattle.std.specs.Prelude.{Bool, true, false}

module _ {A : Type 0} where
  -- whoever was taken out of a seat is woken before all else
  abbrev pub wake_first : Bool → A → A → A
  wake_first true deliver action = deliver
  wake_first false deliver action = action

-- A job's machine: what it does next, and whether it has to call a waker before that.
pub record Machine (A : Type 0) : Type 0 where
  pub next : A
  pub is_waking : Bool

-- to do this next, after the waker was called, if one was taken
abbrev pub machine : {A : Type 0} → A → Bool → Machine A
machine action waking = record { next = action; is_waking = waking }
