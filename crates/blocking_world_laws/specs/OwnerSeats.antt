-- The seats of an owner and of its job: who waits where. Each wait fills one seat, and the act of
-- the other side that answers it takes the seated one out. Nothing else empties a seat: no close of
-- one's own end, no drop of the owner.
use Rattle.std.specs.Prelude.{ℕ, Bool, true, false, List, [], ◌∷◌, Option, Some, None}
use Rattle.blocking_world_laws.specs.Seen.{own}
use Rattle.blocking_world_laws.specs.Sessions.{Session, last_session}
use Rattle.blocking_world_laws.specs.OwnerTable.{OwnerAction, Drain, Fill, Receive, PollSlot}
use Rattle.blocking_world_laws.specs.OwnerTable.{PollPlace, next_of_owner}
use Rattle.blocking_world_laws.specs.declared.event.Act.{Act}
use Rattle.blocking_world_laws.specs.declared.event.Act.TheVariants.{Accepted, OwnerClosed, Got}
use Rattle.blocking_world_laws.specs.declared.event.Act.TheVariants.{GotItem, Filled, Waits}
use Rattle.blocking_world_laws.specs.declared.event.Act.TheVariants.{JobParked, Put, Taken}
use Rattle.blocking_world_laws.specs.declared.event.Act.TheVariants.{JobClosed, ResultPut, Finished}
use Rattle.blocking_world_laws.specs.declared.event.Act.TheVariants.{GaveUp}
use Rattle.blocking_world_laws.specs.declared.event.Event.{Event}

-- where a poll that waits is seated
pub data WaitPlace : Type 0 where
  AtPipe : WaitPlace
  AtSlot : WaitPlace
  AtResult : WaitPlace
  Nowhere : WaitPlace

-- where a poll waits whose next action was this
abbrev pub place_of : OwnerAction → WaitPlace
place_of (Drain n) = AtPipe
place_of (Fill bytes) = AtPipe
place_of Receive = AtPipe
place_of PollSlot = AtSlot
place_of PollPlace = AtResult
place_of _ = Nowhere

-- whether the job is seated in the pipe after an act: it waits there, and what the owner takes,
-- fills or closes takes it out
abbrev pub job_seated_by : Act → Bool → Bool
job_seated_by JobParked before = true
job_seated_by (Accepted s) before = false
job_seated_by (Got bytes told) before = false
job_seated_by (GotItem x told) before = false
job_seated_by (Filled n told) before = false
job_seated_by (OwnerClosed told) before = false
job_seated_by _ before = before

-- whether the job of the last session is seated in the pipe
abbrev pub is_job_seated : List Event → Bool
is_job_seated [] = false
is_job_seated (now ∷ cut) = job_seated_by now.act (is_job_seated cut)

-- whether the owner is seated in the pipe after an act: it waits there, and what the job puts,
-- takes or closes takes it out
abbrev pub pipe_seated_by : Act → WaitPlace → Bool → Bool
pipe_seated_by Waits AtPipe before = true
pipe_seated_by (Accepted s) place before = false
pipe_seated_by (Put n waker) place before = false
pipe_seated_by (Taken n waker) place before = false
pipe_seated_by (JobClosed waker) place before = false
pipe_seated_by _ place before = before

-- whether the owner is seated in the pipe of the last session
abbrev pub pipe_seat : List Event → Bool
pipe_seat [] = false
pipe_seat (now ∷ cut) = pipe_seated_by now.act (place_of (next_of_owner cut)) (pipe_seat cut)

-- whether the owner is seated in the job's slot after an act: it waits there, and the job's end
-- takes it out
abbrev pub slot_seated_by : Act → WaitPlace → Bool → Bool
slot_seated_by Waits AtSlot before = true
slot_seated_by (Accepted s) place before = false
slot_seated_by (Finished waker) place before = false
slot_seated_by (GaveUp waker) place before = false
slot_seated_by _ place before = before

-- whether the owner is seated in the slot of the last session's job
abbrev pub slot_seat : List Event → Bool
slot_seat [] = false
slot_seat (now ∷ cut) = slot_seated_by now.act (place_of (next_of_owner cut)) (slot_seat cut)

-- whether the owner is seated where its operation's result comes after an act: it waits there, and
-- the result takes it out
abbrev pub result_seated_by : Act → WaitPlace → Bool → Bool
result_seated_by Waits AtResult before = true
result_seated_by (Accepted s) place before = false
result_seated_by (ResultPut waker) place before = false
result_seated_by _ place before = before

-- whether the owner is seated where the result of the last session's operation comes
abbrev pub result_seat : List Event → Bool
result_seat [] = false
result_seat (now ∷ cut) = result_seated_by now.act (place_of (next_of_owner cut)) (result_seat cut)

-- the job whose note an act of the owner at the pipe takes out, by the session and whether its job
-- is seated
abbrev pub note_of : Option Session → Bool → Option ℕ
note_of (Some s) true = Some s.serial
note_of _ _ = None

-- the job whose note an act of the owner at the pipe takes out: that of the last session, where it
-- is seated
abbrev pub noted : List Event → Option ℕ
noted cut = note_of (last_session (own cut)) (is_job_seated cut)
