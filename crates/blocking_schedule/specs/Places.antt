-- What each place counts for. Each sum below is a number of threads.
use Rattle.std.specs.Prelude.{ℕ, ◌+◌, Bool, true, false, if◌then◌else◌, List, Option, Some, None}
use Rattle.std.specs.Prelude.{sum_by}
use Rattle.blocking_pool.specs.Jobs.{one_if}
use Rattle.blocking_pool.specs.declared.pool.bell.BellKind.{BellKind}
use Rattle.blocking_pool.specs.declared.pool.bell.BellKind.TheVariants as bell
use Rattle.blocking_schedule.specs.declared.place.Place.{Place}
use Rattle.blocking_schedule.specs.declared.place.Place.TheVariants.{Outside, Started, Turn, Free}
use Rattle.blocking_schedule.specs.declared.place.Place.TheVariants.{Looking, Looked, Sleeping}
use Rattle.blocking_schedule.specs.declared.place.Place.TheVariants.{Woken, Waited, HasSwept}
use Rattle.blocking_schedule.specs.declared.place.Place.TheVariants.{Passing, Called, Claimed, Told}
use Rattle.blocking_schedule.specs.declared.place.Place.TheVariants.{Ringing, Stopped}
use Rattle.blocking_schedule.specs.declared.place.Next.{Next}
use Rattle.blocking_schedule.specs.declared.place.Next.TheVariants as next
use Rattle.blocking_schedule.specs.declared.place.Origin.{Origin}
use Rattle.blocking_schedule.specs.declared.place.Origin.TheVariants as origin
use Rattle.blocking_schedule.specs.declared.place.Waking.{Waking}
use Rattle.blocking_schedule.specs.declared.place.Waking.TheVariants as waking

-- a ring of one that is to come
abbrev pub one_of : BellKind → ℕ
one_of bell.Silent = 0
one_of bell.One = 1
one_of bell.All = 0

-- a ring of all that is to come
abbrev pub all_of : BellKind → ℕ
all_of bell.Silent = 0
all_of bell.One = 0
all_of bell.All = 1

-- whether a ring chose the worker
abbrev pub chosen_by : Waking → ℕ
chosen_by waking.Rung = 1
chosen_by waking.ByItself = 0
chosen_by waking.TimedOut = 0
chosen_by waking.RungLate = 1

abbrev pub is_rung : Waking → Bool
is_rung waking.Rung = true
is_rung waking.ByItself = false
is_rung waking.TimedOut = false
is_rung waking.RungLate = true

-- whether the worker's time was up
abbrev pub is_late : Waking → Bool
is_late waking.Rung = false
is_late waking.ByItself = false
is_late waking.TimedOut = true
is_late waking.RungLate = true

-- why its wait ends once its time is up: a ring that chose it stays with it
abbrev pub late_of : Waking → Waking
late_of waking.Rung = waking.RungLate
late_of waking.ByItself = waking.TimedOut
late_of waking.TimedOut = waking.TimedOut
late_of waking.RungLate = waking.RungLate

-- why a worker that has looked goes on: it was claimed by a ring, or none chose it
abbrev pub waking_of : Bool → Waking
waking_of claimed = if claimed then waking.Rung else waking.ByItself

-- the job is one of those that one sweep put back
abbrev pub was_swept : Origin → Bool
was_swept origin.Rung = false
was_swept origin.Swept = true

abbrev pub swept_of : Origin → ℕ
swept_of origin.Rung = 0
swept_of origin.Swept = 1

-- what a worker goes on to that takes this job, or finds none
abbrev pub next_with : Option Origin → Next
next_with (Some origin) = next.Turn origin
next_with None = next.Free

-- what a section leaves of its worker: a turn, one of a swept job, or a pass
abbrev pub turn_after : Next → ℕ
turn_after (next.Turn origin) = 1
turn_after next.Return = 0
turn_after next.Free = 0
turn_after next.Stop = 0

abbrev pub swept_after : Next → ℕ
swept_after (next.Turn origin) = swept_of origin
swept_after next.Return = 0
swept_after next.Free = 0
swept_after next.Stop = 0

abbrev pub pass_after : Next → ℕ
pass_after (next.Turn origin) = 0
pass_after next.Return = 0
pass_after next.Free = 1
pass_after next.Stop = 0

-- a worker that sleeps
abbrev pub sleep_at : Place → ℕ
sleep_at Sleeping = 1
sleep_at _ = 0

-- a ring of one that is under way, or a worker that it chose and that takes the lock, or has it and
-- takes
abbrev pub ring_at : Place → ℕ
ring_at (Looking claimed) = one_if claimed
ring_at (Looked claimed) = one_if claimed
ring_at (Woken why) = chosen_by why
ring_at (Waited why) = chosen_by why
ring_at (HasSwept chosen) = 1 + one_if chosen
ring_at (Passing chosen bell) = one_if chosen + one_of bell
ring_at (Called bell next) = one_of bell
ring_at (Claimed bell next) = one_of bell
ring_at (Told bell next) = one_of bell
ring_at (Ringing bell next) = one_of bell
ring_at _ = 0

-- a ring of all that is under way
abbrev pub all_at : Place → ℕ
all_at (Passing chosen bell) = all_of bell
all_at (Called bell next) = all_of bell
all_at (Claimed bell next) = all_of bell
all_at (Told bell next) = all_of bell
all_at (Ringing bell next) = all_of bell
all_at _ = 0

-- a worker that has a swept job in its hand, or will have it once its section is over
abbrev pub drop_at : Place → ℕ
drop_at (Turn origin) = swept_of origin
drop_at (Called bell next) = swept_after next
drop_at (Claimed bell next) = swept_after next
drop_at (Told bell next) = swept_after next
drop_at (Ringing bell next) = swept_after next
drop_at _ = 0

-- a thread with the pool's lock
abbrev pub lock_at : Place → ℕ
lock_at (Waited why) = 1
lock_at (HasSwept chosen) = 1
lock_at (Passing chosen bell) = 1
lock_at (Called bell next) = 1
lock_at (Claimed bell next) = 1
lock_at (Told bell next) = 1
lock_at _ = 0

-- a thread with the lock that hasn't told whether a job is queued
abbrev pub untold_at : Place → ℕ
untold_at (Told bell next) = 0
untold_at place = lock_at place

-- a worker that looks and may be claimed
abbrev pub look_at : Place → ℕ
look_at (Looking claimed) = if claimed then 0 else 1
look_at _ = 0

-- a worker with a job in its hand
abbrev pub turn_at : Place → ℕ
turn_at (Turn origin) = 1
turn_at (Called bell next) = turn_after next
turn_at (Claimed bell next) = turn_after next
turn_at (Told bell next) = turn_after next
turn_at (Ringing bell next) = turn_after next
turn_at _ = 0

-- a worker with a pass and no job
abbrev pub pass_at : Place → ℕ
pass_at Free = 1
pass_at (Looking claimed) = 1
pass_at (Looked claimed) = 1
pass_at Sleeping = 1
pass_at (Woken why) = 1
pass_at (Waited why) = 1
pass_at (HasSwept chosen) = 1
pass_at (Passing chosen bell) = 1
pass_at (Called bell next) = pass_after next
pass_at (Claimed bell next) = pass_after next
pass_at (Told bell next) = pass_after next
pass_at (Ringing bell next) = pass_after next
pass_at _ = 0

-- a worker that hasn't arrived
abbrev pub arrival_at : Place → ℕ
arrival_at Started = 1
arrival_at _ = 0

-- whom a worker that stops rings: one, where a job is queued
abbrev pub bell_of_stop : Bool → BellKind
bell_of_stop has_job = if has_job then bell.One else bell.Silent

-- where a thread is after its section
abbrev pub place_of : Next → Place
place_of next.Return = Outside
place_of (next.Turn origin) = Turn origin
place_of next.Free = Free
place_of next.Stop = Stopped

-- where a thread is after a ring of all
abbrev pub woken_from : Place → Place
woken_from Sleeping = Woken waking.Rung
woken_from place = place

abbrev pub sleepers : List Place → ℕ
sleepers threads = sum_by sleep_at threads

abbrev pub rings : List Place → ℕ
rings threads = sum_by ring_at threads

abbrev pub alls : List Place → ℕ
alls threads = sum_by all_at threads

abbrev pub drops : List Place → ℕ
drops threads = sum_by drop_at threads

abbrev pub holders : List Place → ℕ
holders threads = sum_by lock_at threads

abbrev pub untold : List Place → ℕ
untold threads = sum_by untold_at threads

abbrev pub lookers : List Place → ℕ
lookers threads = sum_by look_at threads

abbrev pub turns : List Place → ℕ
turns threads = sum_by turn_at threads

abbrev pub passes : List Place → ℕ
passes threads = sum_by pass_at threads

abbrev pub arrivals : List Place → ℕ
arrivals threads = sum_by arrival_at threads
