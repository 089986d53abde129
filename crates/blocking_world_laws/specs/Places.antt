-- The places where a holder meets its job, and what it is answered there.
use Rattle.std.specs.Prelude.{ℕ, Bool, true, false, List, Option, Some, None, is_some}
use Rattle.blocking_world_laws.specs.Core.{Met, Served, Waiting, Closed}
use Rattle.blocking_world_laws.specs.Seats.{waker_in}
use Rattle.blocking_world_laws.specs.declared.event.Act.{Act}
use Rattle.blocking_world_laws.specs.declared.event.Act.TheVariants.{Waits, TaskGot, TaskGotNone}
use Rattle.blocking_world_laws.specs.declared.event.Act.TheVariants.{Got, GotItem, GotEnd, Filled}
use Rattle.blocking_world_laws.specs.declared.event.Act.TheVariants.{FillShut, Back, ResultGot}
use Rattle.blocking_world_laws.specs.declared.event.Act.TheVariants.{RoomFree, RoomShut, JobParked}
use Rattle.blocking_world_laws.specs.declared.event.Act.TheVariants.{Put, Lost, Peeked, Drained}

-- A poll of a task finds the call's answer where the call finished before any cancel; else it finds
-- that none will come, once the call is over; until then it waits.
abbrev pub poll_task : Bool → Bool → ℕ → Act
poll_task true over n = TaskGot n
poll_task false true n = TaskGotNone
poll_task false false n = Waits

-- What an owner finds that drains its pipe: bytes, with the job whose note it took; or nothing yet;
-- or the end.
abbrev pub seen_drain : Met (List ℕ × Option ℕ) → Act
seen_drain (Served found) = Got found.0 found.1
seen_drain Waiting = Waits
seen_drain Closed = GotEnd

-- What an owner finds that receives from its pipe: an item, with the job whose note it took; or
-- nothing yet; or the end.
abbrev pub seen_receive : Met (ℕ × Option ℕ) → Act
seen_receive (Served found) = GotItem found.0 found.1
seen_receive Waiting = Waits
seen_receive Closed = GotEnd

-- What an owner finds that fills its pipe: so many bytes went in, with the job whose note it took;
-- or it waits; or the job's end is closed.
abbrev pub seen_fill : Met (ℕ × Option ℕ) → Act
seen_fill (Served went) = Filled went.0 went.1
seen_fill Waiting = Waits
seen_fill Closed = FillShut

-- What a job finds that looks for room in the pipe: so much; or it waits; or the owner's end is
-- closed.
abbrev pub seen_room : Met ℕ → Act
seen_room (Served room) = RoomFree room
seen_room Waiting = JobParked
seen_room Closed = RoomShut

-- a waker in a seat, where one is seated; its value doesn't matter
abbrev pub seated : Bool → Option (Unit {0})
seated true = Some tt
seated false = None

-- What a job finds that puts n bytes into the pipe, or sends one item: they are inside, and it took
-- the waker that was seated; or it waits; or they are lost.
abbrev pub seen_put : ℕ → Met (Option (Unit {0})) → Act
seen_put n (Served waker) = Put n (waker_in (is_some waker))
seen_put n Waiting = JobParked
seen_put n Closed = Lost n

-- What a job finds that looks at the front of the pipe: these bytes; or it waits; or the pipe is
-- drained for good.
abbrev pub seen_peek : Met (List ℕ) → Act
seen_peek (Served piece) = Peeked piece
seen_peek Waiting = JobParked
seen_peek Closed = Drained

-- An owner that looks into the slot of its job finds the handle, once the job has finished; until
-- then it waits.
abbrev pub poll_slot : Bool → Act
poll_slot true = Back
poll_slot false = Waits

-- An owner that looks for the result of its operation finds this number, once the job has put one;
-- until then it waits.
abbrev pub poll_place : Bool → ℕ → Act
poll_place true n = ResultGot n
poll_place false n = Waits
