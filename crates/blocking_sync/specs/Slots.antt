-- What a locked slot keeps, and what it answers.
use Rattle.std.specs.Prelude.{Option}
use Rattle.std.specs.Coded.{Coded, coded_option}
use Rattle.blocking_core.specs.Slots.{Slot, Content, Empty, Full, GivenUp, Abandoned}
use Rattle.blocking_core.specs.SlotAnswers.{PollsTo}
use Rattle.blocking_core.specs.declared.task.Looked.{Looked}
use Rattle.blocking_core.specs.declared.task.Looked.TheVariants as looked
use Rattle.blocking_core.specs.declared.task.Slotted.{Slotted}
use Rattle.blocking_core.specs.declared.task.Slotted.TheVariants as slotted
use Rattle.futures.specs.declared.task.waker.Waker.{Waker}
use Rattle.futures.specs.contracts.task.waker.Waker.{the_row as waker_row}

-- the code of an owner's waker, which says nothing of it
abbrev pub waker_code : Coded (Option Waker)
waker_code = coded_option waker_row.coded

-- a fact of the value in a slot, if there is one
abbrev pub IfFull : {T : Type 0} → Content T → (T → Type 0) → Type 0
IfFull Empty P = Unit {0}
IfFull (Full value) P = P value
IfFull GivenUp P = Unit {0}
IfFull (Abandoned is_over) P = Unit {0}

-- a fact of the value that a look finds, if it finds one
abbrev pub IfLookedAt : {T W : Type 0} → Looked T W → (T → Type 0) → Type 0
IfLookedAt (looked.Value value) P = P value
IfLookedAt (looked.Seat waker) P = Unit {0}

-- a fact of the value that a poll gives, if it gives one
abbrev pub IfPolled : {T : Type 0} → Slotted T → (T → Type 0) → Type 0
IfPolled (slotted.Value value) P = P value
IfPolled (slotted.Gone over) P = Unit {0}
IfPolled (slotted.Waits seat) P = Unit {0}

-- the slot is polled: its answer, and the waker that isn't seated
abbrev pub PollsBy : {T W : Type 0} → Slot T W → W → Slotted T × Option W → Slot T W → Type 0
PollsBy old waker answer new = PollsTo old waker answer.0 answer.1 new
