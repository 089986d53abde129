-- What contracts see of a slot, and what becomes of a value that is put into it.
use Rattle.std.specs.Prelude.{◌≡◌, ◌⊎◌, Bool, true, false, Option, Some, None, refl}
use Rattle.std.specs.Coded.{Coded, code_by, coded×, coded⊎, coded_bool, coded_option}
use Rattle.std.proofs.Common.{inl, inr}
use base.Stored.{coded_unit}
use Rattle.blocking_core.specs.declared.task.Content.{Content as Kept}
use Rattle.blocking_core.specs.declared.task.Content.TheVariants as kept
use Rattle.blocking_core.specs.declared.task.Put.{Put}

-- What stands in a slot: nothing yet, a value, that the job was dropped, or that the owner is gone
-- (and whether the job is over).
pub data Content (T : Type 0) : Type 0 where
  Empty : Content T
  Full : T → Content T
  GivenUp : Content T
  Abandoned : Bool → Content T

-- a slot with the seat of the owner's waker
pub record Slot (T W : Type 0) : Type 0 where
  pub content : Content T
  pub seat : Option W

module _ {T : Type 0} where
  abbrev pub content_of : Kept T → Content T
  content_of kept.Empty = Empty
  content_of (kept.Full value) = Full value
  content_of kept.GivenUp = GivenUp
  content_of (kept.Abandoned is_over) = Abandoned is_over

  abbrev pub cases_of : Content T → Unit {0} ⊎ (T ⊎ (Unit {0} ⊎ Bool))
  cases_of Empty = inl tt
  cases_of (Full value) = inr (inl value)
  cases_of GivenUp = inr (inr (inl tt))
  cases_of (Abandoned is_over) = inr (inr (inr is_over))

  abbrev pub from_cases : Unit {0} ⊎ (T ⊎ (Unit {0} ⊎ Bool)) → Content T
  from_cases (inl _) = Empty
  from_cases (inr (inl value)) = Full value
  from_cases (inr (inr (inl _))) = GivenUp
  from_cases (inr (inr (inr is_over))) = Abandoned is_over

  pub from-cases_of : (content : Content T) → from_cases (cases_of content) ≡ content
  from-cases_of Empty = refl
  from-cases_of (Full value) = refl
  from-cases_of GivenUp = refl
  from-cases_of (Abandoned is_over) = refl

  abbrev pub content_code : Coded T → Coded (Content T)
  content_code code =
      code_by (Unit {0} ⊎ (T ⊎ (Unit {0} ⊎ Bool))) (coded⊎ coded_unit
      (coded⊎ code (coded⊎ coded_unit coded_bool))) cases_of from_cases from-cases_of

abbrev pub slot_code : {T W : Type 0} → Coded T → Coded W → Coded (Slot T W)
slot_code {T} {W} value waker =
    code_by (Content T × Option W) (coded× (content_code value) (coded_option waker))
    (λ slot. (slot.content, slot.seat)) (λ parts. record { content = parts.0; seat = parts.1 })
    (λ _. refl)

module _ {T : Type 0} where
  -- what stands in a slot after its owner left: the job of a full or given up one is over
  abbrev pub without_owner : Content T → Content T
  without_owner Empty = Abandoned false
  without_owner (Full value) = Abandoned true
  without_owner GivenUp = Abandoned true
  without_owner (Abandoned is_over) = Abandoned is_over

  -- the value that is there, if one is
  abbrev pub full_with : Content T → Option T
  full_with (Full value) = Some value
  full_with other = None

module _ {T W : Type 0} where
  -- nothing yet, and nobody waits
  abbrev pub empty_slot : Slot T W
  empty_slot = record { content = Empty; seat = None }

  -- the slot after a value was put: it takes one value, and takes note of the end of an abandoned
  -- job
  abbrev pub slot_after : Content T → Option W → T → Slot T W
  slot_after Empty seat value = record { content = Full value; seat = None }
  slot_after (Abandoned false) seat value = record { content = Abandoned true; seat = None }
  slot_after other seat value = record { content = other; seat = seat }

  abbrev pub after_put : Slot T W → T → Slot T W
  after_put slot value = slot_after slot.content slot.seat value

  -- what a put answers: the value, where the slot doesn't take it, and the waker out of its seat
  abbrev pub answer_of : Content T → Option W → T → Put T W
  answer_of Empty seat value = record { back = None; wake = seat }
  answer_of (Abandoned false) seat value = record { back = Some value; wake = seat }
  answer_of other seat value = record { back = Some value; wake = None }

  abbrev pub put_in : Slot T W → T → Put T W
  put_in slot value = answer_of slot.content slot.seat value

  -- the slot after its job was dropped: no value will come any more, and an abandoned one takes
  -- note of it
  abbrev pub slot_without_job : Content T → Option W → Slot T W
  slot_without_job Empty seat = record { content = GivenUp; seat = None }
  slot_without_job (Abandoned false) seat = record { content = Abandoned true; seat = None }
  slot_without_job other seat = record { content = other; seat = seat }

  abbrev pub after_give_up : Slot T W → Slot T W
  after_give_up slot = slot_without_job slot.content slot.seat

  -- the waker that leaves its seat when the job was dropped: that of an owner to whom nothing came
  -- yet
  abbrev pub waker_out_of : Content T → Option W → Option W
  waker_out_of Empty seat = seat
  waker_out_of (Abandoned false) seat = seat
  waker_out_of other seat = None

  abbrev pub waker_of_give_up : Slot T W → Option W
  waker_of_give_up slot = waker_out_of slot.content slot.seat

  -- the slot after its owner left: the seat stays as it is
  abbrev pub after_abandon : Slot T W → Slot T W
  after_abandon slot = record slot { content = without_owner slot.content }

  -- the value in a slot, which comes back to the owner who leaves
  abbrev pub value_in : Slot T W → Option T
  value_in slot = full_with slot.content
