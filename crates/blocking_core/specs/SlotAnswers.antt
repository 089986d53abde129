-- What a poll of a slot answers.
use Rattle.std.specs.Prelude.{◌≡◌, true, false, Option, Some, None}
use Rattle.blocking_core.specs.Slots.{Slot, Content, Empty, Full, GivenUp, Abandoned}
use Rattle.blocking_core.specs.declared.task.Polled.{Polled}
use Rattle.blocking_core.specs.declared.task.Looked.{Looked}
use Rattle.blocking_core.specs.declared.task.Looked.TheVariants.{Value as Found, Seat}
use Rattle.blocking_core.specs.declared.task.Slotted.{Slotted}
use Rattle.blocking_core.specs.declared.task.Slotted.TheVariants.{Value, Gone, Waits}

module _ {T : Type 0} where
  -- whether no value will come any more
  abbrev pub IsOver : Content T → Type 0
  IsOver GivenUp = Unit {0}
  IsOver (Abandoned true) = Unit {0}
  IsOver _ = ⊥

  -- whether no value is there
  abbrev pub HasNone : Content T → Type 0
  HasNone (Full value) = ⊥
  HasNone _ = Unit {0}

  -- whether nothing is there yet
  abbrev pub IsPending : Content T → Type 0
  IsPending Empty = Unit {0}
  IsPending (Abandoned false) = Unit {0}
  IsPending _ = ⊥

module _ {T W : Type 0} where
  -- The value leaves the slot; or no value will come; or the waker is seated. What isn't seated
  -- comes back.
  abbrev pub PollsTo : Slot T W → W → Slotted T → Option W → Slot T W → Type 0
  PollsTo old waker (Value value) spare new =
      (old.content ≡ Full value) × (new ≡ record old { content = Empty }) × (spare ≡ Some waker)
  PollsTo old waker (Gone over) spare new = IsOver old.content × (new ≡ old) × (spare ≡ Some waker)
  PollsTo old waker (Waits seat) spare new =
      IsPending old.content × (new ≡ record old { seat = Some waker }) × (spare ≡ old.seat)

  abbrev pub Polls : Slot T W → W → Polled T W → Slot T W → Type 0
  Polls old waker polled new = PollsTo old waker polled.answer polled.spare new

  -- The value leaves the slot; or there is none, and the seat is emptied.
  abbrev pub Looks : Slot T W → Looked T W → Slot T W → Type 0
  Looks old (Found value) new = (old.content ≡ Full value) × (new ≡ record old { content = Empty })
  Looks old (Seat waker) new =
      HasNone old.content × (waker ≡ old.seat) × (new ≡ record old { seat = None })
