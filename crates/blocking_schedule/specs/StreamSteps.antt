-- What each step of a ring's two sides does: what it changes where its side is ready for it;
-- elsewhere it changes nothing.
use Rattle.std.specs.Prelude.{◌≡◌, ◌≢◌, ℕ, ◌+◌, ◌<◌, ◌⊎◌, Bool, true, false, not, nat_eq, Option}
use Rattle.std.specs.Prelude.{Some, None, List, [], ◌∷◌}
use Rattle.blocking_pool.specs.Growth.{greatest}
use Rattle.blocking_schedule.specs.declared.stream.Ring.{Ring}
use Rattle.blocking_schedule.specs.declared.stream.JobPlace.{JobPlace}
use Rattle.blocking_schedule.specs.declared.stream.JobPlace.TheVariants as job
use Rattle.blocking_schedule.specs.declared.stream.OwnerPlace.TheVariants as owner
use Rattle.blocking_schedule.specs.declared.stream.SendAnswer.TheVariants as sending
use Rattle.blocking_schedule.specs.declared.stream.ReceiveAnswer.TheVariants as receiving
use Rattle.blocking_schedule.specs.declared.stream.StreamStep.{StreamStep}
use Rattle.blocking_schedule.specs.declared.stream.StreamStep.TheVariants as step
use Rattle.blocking_schedule.specs.Streams.{has_room}

-- where its side is ready it does this, and else nothing
abbrev pub Only : Type 0 → Ring → Ring → Ring → Type 0
Only ready old new after = (ready → new ≡ after) × ((ready → ⊥) → new ≡ old)

-- where its side is ready, it does the one or the other by what is so, and else nothing
abbrev pub ByThis : Type 0 → Bool → Ring → Ring → Ring → Ring → Type 0
ByThis ready is_so old new one other = (ready → is_so ≡ true → new ≡ one)
    × (ready → is_so ≡ false → new ≡ other) × ((ready → ⊥) → new ≡ old)

-- the job is in no call, and its end is open
abbrev pub JobIsFree : Ring → Type 0
JobIsFree r = (r.job ≡ job.Away) × (r.closed ≡ 0) × (r.is_job_to_rise ≡ false)

-- the owner is in no call, and its end is open
abbrev pub OwnerIsFree : Ring → Type 0
OwnerIsFree r = ((r.owner ≡ owner.Away) ⊎ (r.owner ≡ owner.Waits)) × (r.is_owner_shut ≡ false)
    × (r.is_owner_to_rise ≡ false)

-- The job's steps.
abbrev pub SeesOwnerShut : Ring → Ring → Type 0
SeesOwnerShut old new = ByThis (JobIsFree old) old.is_owner_shut old new
    (record old { send_answer = sending.Shut })
    (record old {
      could_send = has_room old;
      could_park = false;
      send_answer = sending.Open;
      job = job.SawOpen;
    })

abbrev pub Pushes : Ring → Ring → Type 0
Pushes old new =
    Only ((old.job ≡ job.SawOpen) × (has_room old ≡ true) × (old.pushed < greatest)) old new
    (record old { pushed = old.pushed + 1; send_answer = sending.Sent; job = job.Wrote })

abbrev pub SeesOwnerWaits : Ring → Ring → Type 0
SeesOwnerWaits old new = ByThis (old.job ≡ job.Wrote) old.owner_waits old new
    (record old { job = job.SawOwnerWait })
    (record old { job = job.Away })

-- where the job is with what it found in the seat
abbrev pub with_waker : Option ℕ → JobPlace
with_waker (Some waker) = job.HasWaker waker
with_waker None = job.Away

abbrev pub TakesOwner : Ring → Ring → Type 0
TakesOwner old new = Only (old.job ≡ job.SawOwnerWait) old new
    (record old { owner_waits = false; owner_seat = None; job = with_waker old.owner_seat })

pub record CallsOwner (old new : Ring) : Type 0 where
  pub last : old.job ≡ job.HasWaker old.registered
      → new ≡ record old { is_owner_woken = true; job = job.Away }
  pub older : (waker : ℕ) → old.job ≡ job.HasWaker waker → waker ≢ old.registered
      → new ≡ record old { job = job.Away }
  pub none : ((waker : ℕ) → old.job ≢ job.HasWaker waker) → new ≡ old

abbrev pub SeatsJob : Ring → Ring → Type 0
SeatsJob old new = Only ((old.job ≡ job.SawOpen) × (old.is_job_to_rise ≡ false)) old new
    (record old { job_waits = true; is_job_seated = true; job = job.Seated })

abbrev pub LooksAgainForShut : Ring → Ring → Type 0
LooksAgainForShut old new = ByThis (old.job ≡ job.Seated) old.is_owner_shut old new
    (record old { send_answer = sending.Shut; is_job_to_rise = true; job = job.Away })
    (record old { could_park = not (has_room old); job = job.LookedForShut })

abbrev pub LooksAgainForRoom : Ring → Ring → Type 0
LooksAgainForRoom old new = ByThis (old.job ≡ job.LookedForShut) (has_room old) old new
    (record old { is_job_to_rise = true; job = job.SawOpen })
    (record old { send_answer = sending.Parked; job = job.Parked })

abbrev pub RisesJob : Ring → Ring → Type 0
RisesJob old new = Only (old.is_job_to_rise ≡ true) old new
    (record old { job_waits = false; is_job_seated = false; is_job_to_rise = false })

abbrev pub ClosesJob : Ring → Ring → Type 0
ClosesJob old new = Only (JobIsFree old × (old.pushed < greatest)) old new
    (record old { closed = old.pushed + 1; job = job.Wrote })

abbrev pub RunsAgain : Ring → Ring → Type 0
RunsAgain old new =
    Only (old.job ≡ job.Parked) old new (record old { is_job_woken = false; job = job.Away })

-- The owner's steps.
abbrev pub PollsAgain : Ring → Ring → Type 0
PollsAgain old new = Only (OwnerIsFree old) old new
    (record old { could_wait = false; receive_answer = receiving.Open; owner = owner.Looking })

-- the owner polls, and isn't seated: it may look for an item, as often as it likes
abbrev pub MayPop : Ring → Type 0
MayPop r = (r.owner ≡ owner.Looking) ⊎ ((r.owner ≡ owner.FoundEmpty) ⊎ (r.owner ≡ owner.NothingYet))

-- the first item is taken
abbrev pub after_first : Ring → Ring
after_first r = record r {
  receive_answer = receiving.Item r.popped;
  popped = r.popped + 1;
  could_send = true;
  owner = owner.Wrote;
}

abbrev pub Pops : Ring → Ring → Type 0
Pops old new = ByThis (MayPop old) (nat_eq old.popped old.pushed) old new
    (record old { owner = owner.FoundEmpty })
    (after_first old)

abbrev pub SeesJobWaits : Ring → Ring → Type 0
SeesJobWaits old new = ByThis (old.owner ≡ owner.Wrote) old.job_waits old new
    (record old { owner = owner.SawJobWait })
    (record old { owner = owner.Away })

abbrev pub TakesJob : Ring → Ring → Type 0
TakesJob old new = ByThis (old.owner ≡ owner.SawJobWait) old.is_job_seated old new
    (record old { job_waits = false; is_job_seated = false; owner = owner.HasNote })
    (record old { job_waits = false; is_job_seated = false; owner = owner.Away })

abbrev pub WakesJob : Ring → Ring → Type 0
WakesJob old new = Only (old.owner ≡ owner.HasNote) old new
    (record old { is_job_woken = true; owner = owner.Away })

-- an empty ring: nothing yet, the end, or more was sent before
pub record SeesClosed (old new : Ring) : Type 0 where
  pub nothing : old.owner ≡ owner.FoundEmpty → old.closed ≡ 0
      → new ≡ record old { owner = owner.NothingYet }
  pub ended : old.owner ≡ owner.FoundEmpty → old.closed ≡ old.popped + 1
      → new ≡ record old { receive_answer = receiving.Ended; owner = owner.Away }
  pub more : old.owner ≡ owner.FoundEmpty → old.closed ≢ 0 → old.closed ≢ old.popped + 1
      → new ≡ record old { owner = owner.Looking }
  pub none : old.owner ≢ owner.FoundEmpty → new ≡ old

abbrev pub TakesBackWaker : Ring → Ring → Type 0
TakesBackWaker old new = Only (old.owner ≡ owner.NothingYet) old new
    (record old { owner_waits = false; owner_seat = None; owner = owner.Unseated })

abbrev pub SeatsOwner : Ring → Ring → Type 0
SeatsOwner old new = Only ((old.owner ≡ owner.Unseated) × (old.registered < greatest)) old new
    (record old {
      registered = old.registered + 1;
      is_owner_woken = false;
      owner_waits = true;
      owner_seat = Some (old.registered + 1);
      owner = owner.Seated;
    })

abbrev pub LooksAgainForItem : Ring → Ring → Type 0
LooksAgainForItem old new = ByThis (old.owner ≡ owner.Seated) (nat_eq old.popped old.pushed) old new
    (record old { could_wait = nat_eq old.closed 0; owner = owner.StillEmpty })
    (record (after_first old) { is_owner_to_rise = true })

pub record LooksAgainForClosed (old new : Ring) : Type 0 where
  pub nothing : old.owner ≡ owner.StillEmpty → old.closed ≡ 0
      → new ≡ record old { receive_answer = receiving.Pending; owner = owner.Waits }
  pub ended : old.owner ≡ owner.StillEmpty → old.closed ≡ old.popped + 1 →
      new ≡ record old {
        receive_answer = receiving.Ended;
        is_owner_to_rise = true;
        owner = owner.Away;
      }
  pub more : old.owner ≡ owner.StillEmpty → old.closed ≢ 0 → old.closed ≢ old.popped + 1
      → new ≡ record old { owner = owner.Seated }
  pub none : old.owner ≢ owner.StillEmpty → new ≡ old

abbrev pub RisesOwner : Ring → Ring → Type 0
RisesOwner old new = Only (old.is_owner_to_rise ≡ true) old new
    (record old { owner_waits = false; owner_seat = None; is_owner_to_rise = false })

abbrev pub ClosesOwner : Ring → Ring → Type 0
ClosesOwner old new =
    Only (OwnerIsFree old) old new (record old { is_owner_shut = true; owner = owner.Wrote })

-- One step.
abbrev pub Takes : StreamStep → Ring → Ring → Type 0
Takes step.SeeOwnerShut old new = SeesOwnerShut old new
Takes step.Push old new = Pushes old new
Takes step.SeeOwnerWaits old new = SeesOwnerWaits old new
Takes step.TakeOwner old new = TakesOwner old new
Takes step.CallOwner old new = CallsOwner old new
Takes step.SeatJob old new = SeatsJob old new
Takes step.LookAgainForShut old new = LooksAgainForShut old new
Takes step.LookAgainForRoom old new = LooksAgainForRoom old new
Takes step.RiseJob old new = RisesJob old new
Takes step.CloseJob old new = ClosesJob old new
Takes step.RunAgain old new = RunsAgain old new
Takes step.PollAgain old new = PollsAgain old new
Takes step.Pop old new = Pops old new
Takes step.SeeJobWaits old new = SeesJobWaits old new
Takes step.TakeJob old new = TakesJob old new
Takes step.WakeJob old new = WakesJob old new
Takes step.SeeClosed old new = SeesClosed old new
Takes step.TakeBackWaker old new = TakesBackWaker old new
Takes step.SeatOwner old new = SeatsOwner old new
Takes step.LookAgainForItem old new = LooksAgainForItem old new
Takes step.LookAgainForClosed old new = LooksAgainForClosed old new
Takes step.RiseOwner old new = RisesOwner old new
Takes step.CloseOwner old new = ClosesOwner old new

-- One step after the other.
abbrev pub Runs : List StreamStep → Ring → Ring → Type 0
Runs [] old new = new ≡ old
Runs (first ∷ rest) old new = (between : Ring) × Takes first old between × Runs rest between new
