-- An owner that waits, and its job.
use Rattle.std.specs.Prelude.{◌≡◌, ◌⊎◌, true, Some}
use Rattle.blocking_schedule.specs.declared.seat.Meeting.{Meeting}
use Rattle.blocking_schedule.specs.declared.seat.Polling.TheVariants.{Waits}

-- the waker of the last poll is in the job's hand, which calls it next, or was called
abbrev pub IsWoken : Meeting → Type 0
IsWoken m = (m.in_hand ≡ Some m.registered) ⊎ (m.is_woken ≡ true)

-- it is seated, or so
abbrev pub IsSeatedOrWoken : Meeting → Type 0
IsSeatedOrWoken m = (m.seat ≡ Some m.registered) ⊎ IsWoken m

-- An owner whose last poll was answered `Pending` is seated or woken; where something is there it
-- is woken.
pub record IsHeard (m : Meeting) : Type 0 where
  pub waits : m.polling ≡ Waits → IsSeatedOrWoken m
  pub there : m.polling ≡ Waits → m.is_there ≡ true → IsWoken m
