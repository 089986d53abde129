-- What the workers hold: each that arrived and hasn't stopped holds a pass, and is idle, or the
-- turn of a job that runs.
use Rattle.std.specs.Prelude.{◌≡◌, ℕ, zero, suc, ◌+◌, ◌-◌, Bool, List, length, is_some}
use Rattle.blocking_pool.specs.Jobs.{one_if}
use Rattle.blocking_world_laws.specs.Counts.{starts, arrivals, workers, idle}
use Rattle.blocking_world_laws.specs.Queue.{running}
use Rattle.blocking_world_laws.specs.Steps.{is_free}
use Rattle.blocking_world_laws.specs.Turns.{hand}
use Rattle.blocking_world_laws.specs.declared.event.Moment.{Moment}

-- how many of the workers from 1 to this number pass a test
abbrev pub count_to : (ℕ → Bool) → ℕ → ℕ
count_to test zero = 0
count_to test (suc n) = count_to test n + one_if (test (n + 1))

-- how many workers were seen to hold a pass: those that are there and have no job in hand
abbrev pub passes : List Moment → ℕ
passes past = count_to (is_free past) (arrivals past)

-- how many workers were seen to hold a turn: those that have a job in hand
abbrev pub turns : List Moment → ℕ
turns past = count_to (λ w. is_some (hand past w)) (arrivals past)

-- how many workers were started and haven't arrived
abbrev pub unarrived : List Moment → ℕ
unarrived past = starts past - arrivals past

-- The workers are those that hold these passes and turns and those that haven't arrived; the idle
-- ones are the same without the turns; and there is one turn for each running job.
pub record IsStaffed (held_passes held_turns : ℕ) (past : List Moment) : Type 0 where
  pub all_are : workers past ≡ held_passes + held_turns + unarrived past
  pub idle_are : idle past ≡ held_passes + unarrived past
  pub jobs_are : held_turns ≡ length (running past)

-- The passes and turns that the workers were seen to hold account for them.
abbrev pub IsStaffedAsSeen : List Moment → Type 0
IsStaffedAsSeen past = IsStaffed (passes past) (turns past) past

-- As many passes and turns are held as were seen to be held.
pub record AreAsSeen (held_passes held_turns : ℕ) (past : List Moment) : Type 0 where
  pub passes_are : held_passes ≡ passes past
  pub turns_are : held_turns ≡ turns past
