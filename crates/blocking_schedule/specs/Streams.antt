-- A ring without a lock, with a lock round its two seats: what holds of it, whatever steps its two
-- sides took.
use Rattle.std.specs.Prelude.{◌≡◌, ℕ, ◌+◌, ◌-◌, ◌<◌, ◌≤◌, ◌⊎◌, Bool, true, false, nat_lt, Some}
use Rattle.std.specs.Prelude.{None}
use Rattle.blocking_schedule.specs.declared.stream.Ring.{Ring}
use Rattle.blocking_schedule.specs.declared.stream.JobPlace.{JobPlace}
use Rattle.blocking_schedule.specs.declared.stream.JobPlace.TheVariants as job
use Rattle.blocking_schedule.specs.declared.stream.OwnerPlace.{OwnerPlace}
use Rattle.blocking_schedule.specs.declared.stream.OwnerPlace.TheVariants as owner
use Rattle.blocking_schedule.specs.declared.stream.SendAnswer.TheVariants as sending
use Rattle.blocking_schedule.specs.declared.stream.ReceiveAnswer.TheVariants as receiving

-- an item fits in
abbrev pub has_room : Ring → Bool
has_room r = nat_lt (r.pushed - r.popped) r.capacity

-- the job is in a call by which it sends
abbrev pub is_sending : JobPlace → Bool
is_sending job.SawOpen = true
is_sending job.Seated = true
is_sending job.LookedForShut = true
is_sending job.Parked = true
is_sending _ = false

-- it may yet find room in it
abbrev pub may_push : JobPlace → Bool
may_push job.SawOpen = true
may_push job.Seated = true
may_push job.LookedForShut = true
may_push _ = false

-- the job took its seat, and found nothing since
abbrev pub is_job_resting : JobPlace → Bool
is_job_resting job.Seated = true
is_job_resting job.LookedForShut = true
is_job_resting job.Parked = true
is_job_resting _ = false

-- and it saw that the owner's end was open by then
abbrev pub saw_open_seated : JobPlace → Bool
saw_open_seated job.LookedForShut = true
saw_open_seated job.Parked = true
saw_open_seated _ = false

-- the job left an item or closed its end, and is on its way to the owner's seat: it hasn't looked
-- at the flag, or saw it set
abbrev pub is_job_on_its_way : JobPlace → Bool
is_job_on_its_way job.Wrote = true
is_job_on_its_way job.SawOwnerWait = true
is_job_on_its_way _ = false

-- the owner polls, or its poll was answered `Pending`
abbrev pub is_polling : OwnerPlace → Bool
is_polling owner.Looking = true
is_polling owner.FoundEmpty = true
is_polling owner.NothingYet = true
is_polling owner.Unseated = true
is_polling owner.Seated = true
is_polling owner.StillEmpty = true
is_polling owner.Waits = true
is_polling _ = false

-- and its poll has no answer yet
abbrev pub is_looking : OwnerPlace → Bool
is_looking owner.Waits = false
is_looking place = is_polling place

-- the owner took its seat, and found nothing since
abbrev pub is_owner_resting : OwnerPlace → Bool
is_owner_resting owner.Seated = true
is_owner_resting owner.StillEmpty = true
is_owner_resting owner.Waits = true
is_owner_resting _ = false

-- and it saw that no item was there by then
abbrev pub saw_empty_seated : OwnerPlace → Bool
saw_empty_seated owner.StillEmpty = true
saw_empty_seated owner.Waits = true
saw_empty_seated _ = false

-- the owner took an item or closed its end, and is on its way to the job's seat
abbrev pub is_owner_on_its_way : OwnerPlace → Bool
is_owner_on_its_way owner.Wrote = true
is_owner_on_its_way owner.SawJobWait = true
is_owner_on_its_way _ = false

-- the waker of the last poll is in the job's hand, which calls it next, or was called
abbrev pub IsOwnerWoken : Ring → Type 0
IsOwnerWoken r = (r.job ≡ job.HasWaker r.registered) ⊎ (r.is_owner_woken ≡ true)

-- a note for the job is in the owner's hand, which spends it next, or was spent
abbrev pub IsJobWoken : Ring → Type 0
IsJobWoken r = (r.owner ≡ owner.HasNote) ⊎ (r.is_job_woken ≡ true)

-- Inside are the items from the first that wasn't received up to the last that was sent, at most
-- the capacity. Who closed its end says how many it sent, and sends no more; who shut its end polls
-- no more.
pub record IsInOrder (r : Ring) : Type 0 where
  pub least : r.popped ≤ r.pushed
  pub most : r.pushed - r.popped ≤ r.capacity
  pub said : 0 < r.closed → r.closed ≡ r.pushed + 1
  pub unclosed : is_sending r.job ≡ true → r.closed ≡ 0
  pub unshut : is_polling r.owner ≡ true → r.is_owner_shut ≡ false

-- A seat is filled exactly where its flag is set: the owner's with the waker of its last poll. That
-- is in one place alone.
pub record IsSeatedByFlag (r : Ring) : Type 0 where
  pub owner_in : r.owner_waits ≡ true → r.owner_seat ≡ Some r.registered
  pub owner_out : r.owner_waits ≡ false → r.owner_seat ≡ None
  pub number : r.is_job_seated ≡ r.job_waits
  pub older : (waker : ℕ) → r.job ≡ job.HasWaker waker → waker ≤ r.registered
  pub once : r.job ≡ job.HasWaker r.registered → r.owner_waits ≡ false

-- An owner that took its seat and found nothing since is seated or woken. Where an item came since
-- its look, or the end by the time that it waits, it isn't seated alone: the job is on its way to
-- the seat.
pub record IsOwnerHeard (r : Ring) : Type 0 where
  pub stays : is_polling r.owner ≡ true → r.is_owner_to_rise ≡ false
  pub rests : is_owner_resting r.owner ≡ true → (r.owner_waits ≡ true) ⊎ IsOwnerWoken r
  pub items : saw_empty_seated r.owner ≡ true → r.owner_waits ≡ true → r.popped < r.pushed
      → is_job_on_its_way r.job ≡ true
  pub ended : r.owner ≡ owner.Waits → r.owner_waits ≡ true → 0 < r.closed
      → is_job_on_its_way r.job ≡ true

-- The same of a job: where the owner's end was shut since its look, or there is room by the time
-- that it is parked, the owner is on its way to the seat.
pub record IsJobHeard (r : Ring) : Type 0 where
  pub stays : is_job_resting r.job ≡ true → r.is_job_to_rise ≡ false
  pub rests : is_job_resting r.job ≡ true → (r.job_waits ≡ true) ⊎ IsJobWoken r
  pub shut : saw_open_seated r.job ≡ true → r.job_waits ≡ true → r.is_owner_shut ≡ true
      → is_owner_on_its_way r.owner ≡ true
  pub room : r.job ≡ job.Parked → r.job_waits ≡ true → has_room r ≡ true
      → is_owner_on_its_way r.owner ≡ true

-- Each answer is the plain pipe's at some moment of its call.
pub record IsPlain (r : Ring) : Type 0 where
  pub asks : may_push r.job ≡ true → r.send_answer ≡ sending.Open
  pub looks : is_looking r.owner ≡ true → r.receive_answer ≡ receiving.Open
  pub room : may_push r.job ≡ true → has_room r ≡ true → r.could_send ≡ true
  pub full : r.job ≡ job.LookedForShut → has_room r ≡ false → r.could_park ≡ true
  pub empty : r.owner ≡ owner.StillEmpty → r.closed ≡ 0 → r.could_wait ≡ true
  pub sent : r.send_answer ≡ sending.Sent → r.could_send ≡ true
  pub shut : r.send_answer ≡ sending.Shut → r.is_owner_shut ≡ true
  pub parked : r.send_answer ≡ sending.Parked → r.could_park ≡ true
  pub item : (n : ℕ) → r.receive_answer ≡ receiving.Item n → r.popped ≡ n + 1
  pub ended : r.receive_answer ≡ receiving.Ended → r.closed ≡ r.popped + 1
  pub pending : r.receive_answer ≡ receiving.Pending → r.could_wait ≡ true

-- What any steps keep; the rest of this file is read off it.
pub record IsSound (r : Ring) : Type 0 where
  pub order : IsInOrder r
  pub seats : IsSeatedByFlag r
  pub owners : IsOwnerHeard r
  pub jobs : IsJobHeard r
  pub plain : IsPlain r

-- an empty ring for so many items, whose ends are open and in no call
pub record IsEmpty (most : ℕ) (r : Ring) : Type 0 where
  pub capacity : r.capacity ≡ most
  pub pushed : r.pushed ≡ 0
  pub popped : r.popped ≡ 0
  pub closed : r.closed ≡ 0
  pub unshut : r.is_owner_shut ≡ false
  pub sender : r.job ≡ job.Away
  pub receiver : r.owner ≡ owner.Away

-- A wake of the owner's last poll is under way, or was made: the job left something or closed its
-- end and has yet to take the waker, which is seated; or it has the waker in hand; or it has called
-- it.
abbrev pub OwnersWake : Ring → Type 0
OwnersWake r = ((is_job_on_its_way r.job ≡ true) × (r.owner_seat ≡ Some r.registered))
    ⊎ IsOwnerWoken r

-- The same of the job: the owner has yet to take it out of its seat, or has a note in hand, or has
-- spent it.
abbrev pub JobsWake : Ring → Type 0
JobsWake r = ((is_owner_on_its_way r.owner ≡ true) × (r.is_job_seated ≡ true)) ⊎ IsJobWoken r

-- An owner whose last poll was answered `Pending` is seated or woken. With an item inside, or the
-- job's end closed, a wake of it is under way.
pub record OwnerIsHeard (r : Ring) : Type 0 where
  pub seated : r.owner ≡ owner.Waits → (r.owner_seat ≡ Some r.registered) ⊎ IsOwnerWoken r
  pub item : r.owner ≡ owner.Waits → r.popped < r.pushed → OwnersWake r
  pub closed : r.owner ≡ owner.Waits → 0 < r.closed → OwnersWake r

-- A job that is parked is seated or woken. With room in the ring, or the owner's end shut, a wake
-- of it is under way.
pub record JobIsHeard (r : Ring) : Type 0 where
  pub seated : r.job ≡ job.Parked → (r.is_job_seated ≡ true) ⊎ IsJobWoken r
  pub room : r.job ≡ job.Parked → has_room r ≡ true → JobsWake r
  pub shut : r.job ≡ job.Parked → r.is_owner_shut ≡ true → JobsWake r

-- where both wait, a wake of one of them is under way
abbrev pub SomeoneIsWoken : Ring → Type 0
SomeoneIsWoken r = 0 < r.capacity → r.owner ≡ owner.Waits → r.job ≡ job.Parked
    → OwnersWake r ⊎ JobsWake r

-- a seat is filled exactly where its flag is set; the owner's with the waker of its last poll,
-- which isn't in the job's hand then
pub record SeatsAreFlagged (r : Ring) : Type 0 where
  pub set : r.owner_waits ≡ true → r.owner_seat ≡ Some r.registered
  pub clear : r.owner_waits ≡ false → r.owner_seat ≡ None
  pub number : r.is_job_seated ≡ r.job_waits
  pub once : r.job ≡ job.HasWaker r.registered → r.owner_seat ≡ None

-- The items inside are those that were sent and not received, at most the capacity: so they come
-- out in order, none twice, and none is lost. The owner's answer is the last that it took out; and
-- it is told the end only where all was received.
pub record ItemsAreInOrder (r : Ring) : Type 0 where
  pub least : r.popped ≤ r.pushed
  pub most : r.pushed ≤ r.popped + r.capacity
  pub last : (n : ℕ) → r.receive_answer ≡ receiving.Item n → r.popped ≡ n + 1
  pub all : r.receive_answer ≡ receiving.Ended → (r.popped ≡ r.pushed) × (r.closed ≡ r.pushed + 1)

-- An answer is what a plain pipe would have answered at some moment since the call began
-- (`could_send`, `could_park`, `could_wait`).
pub record AnswersArePlain (r : Ring) : Type 0 where
  pub sent : r.send_answer ≡ sending.Sent → r.could_send ≡ true
  pub shut : r.send_answer ≡ sending.Shut → r.is_owner_shut ≡ true
  pub parked : r.send_answer ≡ sending.Parked → r.could_park ≡ true
  pub pending : r.receive_answer ≡ receiving.Pending → r.could_wait ≡ true

-- What a plain pipe, with all of it under one lock, would do at this moment. A send: it takes the
-- item, parks the job, or says that the owner's end is shut.
abbrev pub WouldTake : Ring → Type 0
WouldTake r = (r.is_owner_shut ≡ false) × (has_room r ≡ true)

abbrev pub WouldPark : Ring → Type 0
WouldPark r = (r.is_owner_shut ≡ false) × (has_room r ≡ false)

abbrev pub WouldRefuse : Ring → Type 0
WouldRefuse r = r.is_owner_shut ≡ true

-- A poll: it gives the first item, says that all was received, or has the owner wait.
abbrev pub WouldGive : ℕ → Ring → Type 0
WouldGive n r = (n ≡ r.popped) × (r.popped < r.pushed)

abbrev pub WouldEnd : Ring → Type 0
WouldEnd r = (r.popped ≡ r.pushed) × (0 < r.closed)

abbrev pub WouldWait : Ring → Type 0
WouldWait r = (r.popped ≡ r.pushed) × (r.closed ≡ 0)

-- A step says that a call could have been answered so, or answers it so, only where that was said
-- before in this call, or a plain pipe would answer so right at this step, before it or after it.
pub record IsByMoment (old new : Ring) : Type 0 where
  pub send : new.could_send ≡ true → (old.could_send ≡ true) ⊎ (WouldTake old ⊎ WouldTake new)
  pub park : new.could_park ≡ true → (old.could_park ≡ true) ⊎ WouldPark old
  pub wait : new.could_wait ≡ true → (old.could_wait ≡ true) ⊎ WouldWait old
  pub refuse : new.send_answer ≡ sending.Shut → (old.send_answer ≡ sending.Shut) ⊎ WouldRefuse old
  pub give : (n : ℕ) → new.receive_answer ≡ receiving.Item n
      → (old.receive_answer ≡ receiving.Item n) ⊎ WouldGive n old
  pub ends : new.receive_answer ≡ receiving.Ended
      → (old.receive_answer ≡ receiving.Ended) ⊎ WouldEnd old
  -- when a call begins nothing was said in it
  pub begins : old.job ≡ job.Away → new.job ≡ job.SawOpen
      → (new.could_send ≡ true → WouldTake old) × (new.could_park ≡ false)
  pub polls : is_polling old.owner ≡ false → is_polling new.owner ≡ true → new.could_wait ≡ false
  pub repolls : old.owner ≡ owner.Waits → new.owner ≡ owner.Looking → new.could_wait ≡ false
