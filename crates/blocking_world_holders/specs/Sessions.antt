-- A session: where an owner meets the job that was lent its handle, and what each act of the owner
-- and of the job does there.
use Rattle.std.specs.Prelude.{◌≡◌, ℕ, nat_le, min, max, if◌then◌else◌, Bool, true, false, List, []}
use Rattle.std.specs.Prelude.{◌∷◌, ◌++◌, length, take, drop, Option, Some, None, is_some}
use Rattle.blocking_core.specs.Pipes.{Pipe, empty_pipe, room}
use Rattle.blocking_core.specs.Places.{Met, Served, Waiting, Closed, drain, fill, find_room}
use Rattle.blocking_core.specs.Places.{hand_in, peek, receive}
use Rattle.blocking_core.specs.Slots.{Slot, Content, Empty, Full, GivenUp, Abandoned, empty_slot}
use Rattle.blocking_core.specs.Slots.{after_put, put_in, after_give_up, waker_of_give_up}
use Rattle.blocking_core.specs.declared.io.Fault.{Fault}
use Rattle.blocking_core.specs.declared.job.item.ItemAction.{ItemAction}
use Rattle.blocking_core.specs.declared.job.item.ItemAction.TheVariants as item
use Rattle.blocking_core.specs.declared.job.item.ItemAnswer.{ItemAnswer}
use Rattle.blocking_core.specs.declared.job.item.ItemAnswer.TheVariants as sent
use Rattle.blocking_core.specs.declared.job.read.ReadAction.{ReadAction}
use Rattle.blocking_core.specs.declared.job.read.ReadAction.TheVariants as read
use Rattle.blocking_core.specs.declared.job.read.ReadAnswer.{ReadAnswer}
use Rattle.blocking_core.specs.declared.job.read.ReadAnswer.TheVariants as by
use Rattle.blocking_core.specs.declared.job.write.WriteAction.{WriteAction}
use Rattle.blocking_core.specs.declared.job.write.WriteAction.TheVariants as write
use Rattle.blocking_core.specs.declared.job.write.WriteAnswer.TheVariants as wrote
use Rattle.blocking_world_laws.specs.JobTable.{Kind, Streaming, piece as largest_piece, Seeking}
use Rattle.blocking_world_laws.specs.JobTable.{Operating}
use Rattle.blocking_core.specs.declared.job.seek.SeekAction.{SeekAction}
use Rattle.blocking_core.specs.declared.job.seek.SeekAction.TheVariants as seek
use Rattle.blocking_core.specs.declared.job.seek.SeekAnswer.TheVariants as sought
use Rattle.blocking_core.specs.declared.job.op.OpAction.{OpAction}
use Rattle.blocking_core.specs.declared.job.op.OpAction.TheVariants as operation
use Rattle.blocking_core.specs.declared.job.op.OpAnswer.TheVariants as ran
use Rattle.blocking_world_laws.specs.Places.{seen_room, seen_put, seen_peek}
use Rattle.blocking_world_laws.specs.Seats.{waker_in}
use Rattle.blocking_world_laws.specs.declared.event.Act.{Act}
use Rattle.blocking_world_laws.specs.declared.event.Act.TheVariants.{Taken, JobClosed, ResultPut}
use Rattle.blocking_world_laws.specs.declared.event.Act.TheVariants.{Finished}
use Rattle.blocking_world_holders.specs.Passages.{Goods, OfBytes, OfItems, closed_by_owner}
use Rattle.blocking_world_holders.specs.Passages.{closed_by_job, OfNothing}
use Rattle.blocking_world_holders.specs.Reads.{Progress, progress_with}
use Rattle.blocking_world_holders.specs.Items as streams
use Rattle.blocking_world_holders.specs.Writes as writes
use Rattle.blocking_world_holders.specs.Seeks as seeks
use Rattle.blocking_world_holders.specs.Ops as operations
use Rattle.blocking_pool.specs.Jobs.{JobNumber}

-- A session: the number of its job, what passes through its pipe, the item that came out of it
-- last, or the result of its operation, 0 before the first, which is kept until it is told, the
-- pipe itself, the place in which the result of its operation comes, the slot in which the handle
-- comes back with the fault of the job, and beside it where a seek left the handle. Wakers are told
-- as units.
pub record Session : Type 0 where
  pub number : JobNumber
  pub goods : Goods
  pub item : ℕ
  pub pipe : Pipe ℕ (Unit {0})
  pub result : Slot ℕ (Unit {0})
  pub slot : Slot (Option (Fault ℕ)) (Unit {0})
  pub left : ℕ

-- what passes through the pipe of a session of this kind
abbrev pub goods_of : Kind → Goods
goods_of Streaming = OfItems
goods_of (Seeking goal) = OfNothing
goods_of Operating = OfNothing
goods_of kind = OfBytes

-- a session that begins, with this job and a pipe for so many bytes or items
abbrev pub new_session : JobNumber → Goods → ℕ → Session
new_session number goods capacity =
    record {
      number = number;
      goods = goods;
      item = 0;
      pipe = empty_pipe capacity;
      result = empty_slot;
      slot = empty_slot;
      left = 0;
    }

-- ---- its owner acts

-- the note of a job that is seated, by the job's serial
abbrev pub serial_of : Option JobNumber → Option ℕ
serial_of None = None
serial_of (Some number) = Some number.serial

-- the session after its owner closed its end of the pipe
abbrev pub session_after_close : Session → Session
session_after_close session = record session { pipe = closed_by_owner session.pipe }

-- how many bytes come out where the owner wants at most so many, one at least: as many as are
-- inside
abbrev pub reach : ℕ → Session → ℕ
reach most session = min (max 1 most) (length session.pipe.items)

-- what the owner finds that drains the pipe, by how many bytes come out; it looks for one also
-- where nothing is inside
abbrev pub drained : ℕ → Session → Met (List ℕ × Option JobNumber)
drained count session =
    drain (max 1 count) session.pipe.items session.pipe.is_job_open session.pipe.job_seat

-- the session after that
abbrev pub session_after_drain : Met (List ℕ × Option JobNumber) → Session → Session
session_after_drain (Served found) session =
    record session {
      pipe = record session.pipe {
        items = drop (length found.0) session.pipe.items;
        job_seat = None;
      };
    }
session_after_drain Waiting session =
    record session { pipe = record session.pipe { owner_seat = Some tt } }
session_after_drain Closed session = session

-- what the owner finds that receives an item
abbrev pub received : Session → Met (ℕ × Option JobNumber)
received session = receive session.pipe.items session.pipe.is_job_open session.pipe.job_seat

-- the session after that
abbrev pub session_after_receive : Met (ℕ × Option JobNumber) → Session → Session
session_after_receive (Served found) session =
    record session {
      item = found.0;
      pipe = record session.pipe { items = drop 1 session.pipe.items; job_seat = None };
    }
session_after_receive Waiting session =
    record session { pipe = record session.pipe { owner_seat = Some tt } }
session_after_receive Closed session = session

-- the session after its owner looked into the slot: the handle leaves it, or the owner is seated
-- where it may still come
abbrev pub session_after_look : Content (Option (Fault ℕ)) → Session → Session
session_after_look Empty session = record session { slot = record session.slot { seat = Some tt } }
session_after_look (Full why) session =
    record session { slot = record session.slot { content = Empty } }
session_after_look GivenUp session = session
session_after_look (Abandoned true) session = session
session_after_look (Abandoned false) session =
    record session { slot = record session.slot { seat = Some tt } }

-- the session after its owner looked for the result of its operation: that leaves its place, and is
-- kept; or the owner is seated there where it may still come
abbrev pub session_after_find : Content ℕ → Session → Session
session_after_find Empty session =
    record session { result = record session.result { seat = Some tt } }
session_after_find (Full n) session =
    record session { item = n; result = record session.result { content = Empty } }
session_after_find GivenUp session = session
session_after_find (Abandoned true) session = session
session_after_find (Abandoned false) session =
    record session { result = record session.result { seat = Some tt } }

-- what the owner finds that fills the pipe with so many bytes
abbrev pub filled : ℕ → Session → Met (ℕ × Option JobNumber)
filled count session = fill count (room session.pipe) session.pipe.is_job_open session.pipe.job_seat

-- the session after it filled the pipe with these
abbrev pub session_after_fill : List ℕ → Met (ℕ × Option JobNumber) → Session → Session
session_after_fill bytes (Served went) session =
    record session {
      pipe = record session.pipe {
        items = session.pipe.items ++ take went.0 bytes;
        job_seat = None;
      };
    }
session_after_fill bytes Waiting session =
    record session { pipe = record session.pipe { owner_seat = Some tt } }
session_after_fill bytes Closed session = session

-- ---- its job acts

-- what the job finds that looks for room
abbrev pub found_room : Session → Met ℕ
found_room session = find_room (room session.pipe) session.pipe.is_owner_open

-- that, as an answer to the job
abbrev pub room_answer : Met ℕ → ReadAnswer
room_answer (Served n) = by.Free n
room_answer Waiting = by.Parked
room_answer Closed = by.Shut

abbrev pub session_after_room : Met ℕ → Session → Session
session_after_room Waiting session =
    record session { pipe = record session.pipe { job_seat = Some session.number } }
session_after_room _ session = session

-- what the job finds that puts these bytes
abbrev pub found_put : List ℕ → Session → Met (Option (Unit {0}))
found_put piece session =
    hand_in (length piece) (room session.pipe) session.pipe.is_owner_open session.pipe.owner_seat

abbrev pub put_answer : Met (Option (Unit {0})) → ReadAnswer
put_answer (Served waker) = by.Put (is_some waker)
put_answer _ = by.Lost

abbrev pub session_after_put : List ℕ → Met (Option (Unit {0})) → Session → Session
session_after_put piece (Served waker) session =
    record session
    { pipe = record session.pipe { items = session.pipe.items ++ piece; owner_seat = None } }
session_after_put piece _ session = session

-- whether these bytes fit
abbrev pub fits_in : List ℕ → Session → Bool
fits_in piece session = nat_le (length piece) (room session.pipe)

-- whether the owner's waker is taken where the job closes its end, and where it puts its result
abbrev pub closing_wakes : Session → Bool
closing_wakes session = is_some session.pipe.owner_seat

abbrev pub finish_wakes : Option (Fault ℕ) → Session → Bool
finish_wakes why session = is_some (put_in session.slot why).wake

abbrev pub session_after_job_close : Session → Session
session_after_job_close session = record session { pipe = closed_by_job session.pipe }

abbrev pub session_after_finish : Option (Fault ℕ) → Session → Session
session_after_finish why session = record session { slot = after_put session.slot why }

-- whether the owner's waker is taken where the job gives up, and the session then
abbrev pub give_up_wakes : Session → Bool
give_up_wakes session = is_some (waker_of_give_up session.slot)

abbrev pub session_after_give_up : Session → Session
session_after_give_up session = record session { slot = after_give_up session.slot }

-- how many bytes a job finds at the front of the pipe: no more than a piece has
abbrev pub front_len : Session → ℕ
front_len session = min (length session.pipe.items) largest_piece

-- what it finds there
abbrev pub found_piece : Session → Met (List ℕ)
found_piece session = peek largest_piece session.pipe.items session.pipe.is_owner_open

abbrev pub session_after_peek : Met (List ℕ) → Session → Session
session_after_peek Waiting session =
    record session { pipe = record session.pipe { job_seat = Some session.number } }
session_after_peek _ session = session

-- whether so many bytes are inside
abbrev pub holds : ℕ → Session → Bool
holds count session = nat_le count (length session.pipe.items)

-- the session after so many bytes left its pipe
abbrev pub session_after_consume : ℕ → Session → Session
session_after_consume count session = record session
    { pipe = record session.pipe { items = drop count session.pipe.items; owner_seat = None } }

-- ---- the next action of a job that reads, where that is its own

-- What an act of a job is, and what it leaves of the job and of the session.
pub record Work (J : Type 0) : Type 0 where
  pub act : Act
  pub job : J
  pub session : Session

-- what becomes of a job and of its session, by what the job found
abbrev pub read_at_room : Met ℕ → Progress → Session → Work Progress
read_at_room met job session = record {
  act = seen_room met;
  job = progress_with job (room_answer met);
  session = session_after_room met session;
}

abbrev pub read_at_put : Met (Option (Unit {0})) → Progress → Session → Work Progress
read_at_put met job session = record {
  act = seen_put (length job.piece) met;
  job = progress_with job (put_answer met);
  session = session_after_put job.piece met session;
}

-- the job closes its end of the pipe
abbrev pub read_closes : Progress → Session → Work Progress
read_closes job session = record {
  act = JobClosed (waker_in (closing_wakes session));
  job = progress_with job (by.Closed (closing_wakes session));
  session = session_after_job_close session;
}

-- the job puts its result
abbrev pub read_finishes : Progress → Session → Work Progress
read_finishes job session = record {
  act = Finished (waker_in (finish_wakes job.fault session));
  job = progress_with job (by.Finished (finish_wakes job.fault session));
  session = session_after_finish job.fault session;
}

-- What it does next at its session, where that is its own to do: a put has to fit.
abbrev pub read_works : ReadAction → Progress → Session → Option (Work Progress)
read_works read.FindRoom job session = Some (read_at_room (found_room session) job session)
read_works (read.Put count) job session = if fits_in job.piece session
    then Some (read_at_put (found_put job.piece session) job session) else None
read_works read.Close job session = Some (read_closes job session)
read_works read.Finish job session = Some (read_finishes job session)
read_works _ job session = None

-- ---- the same of a job that writes

-- the job looks at the front of the pipe: what becomes of it, by what it found
abbrev pub job_after_peek : Met (List ℕ) → writes.Progress → writes.Progress
job_after_peek (Served found) job = writes.progress_after_piece job found
job_after_peek Waiting job = writes.progress_with job wrote.Parked
job_after_peek Closed job = writes.progress_with job wrote.Drained

abbrev pub write_at_peek : Met (List ℕ) → writes.Progress → Session → Work writes.Progress
write_at_peek met job session = record {
  act = seen_peek met;
  job = job_after_peek met job;
  session = session_after_peek met session;
}

-- so many bytes, which its writer took, leave the pipe
abbrev pub write_consumes : ℕ → writes.Progress → Session → Work writes.Progress
write_consumes count job session = record {
  act = Taken count (waker_in (closing_wakes session));
  job = writes.progress_with job (wrote.Consumed (closing_wakes session));
  session = session_after_consume count session;
}

-- it closes its end of the pipe
abbrev pub write_closes : writes.Progress → Session → Work writes.Progress
write_closes job session = record {
  act = JobClosed (waker_in (closing_wakes session));
  job = writes.progress_with job (wrote.Closed (closing_wakes session));
  session = session_after_job_close session;
}

-- it puts its result
abbrev pub write_finishes : writes.Progress → Session → Work writes.Progress
write_finishes job session = record {
  act = Finished (waker_in (finish_wakes (writes.fault_of job.core) session));
  job = writes.progress_with job (wrote.Finished (finish_wakes (writes.fault_of job.core) session));
  session = session_after_finish (writes.fault_of job.core) session;
}

-- What it does next at its session, where that is its own to do: what it takes out has to be
-- inside.
abbrev pub write_works : WriteAction → writes.Progress → Session → Option (Work writes.Progress)
write_works write.Peek job session = Some (write_at_peek (found_piece session) job session)
write_works (write.Consume count) job session =
    if holds count session then Some (write_consumes count job session) else None
write_works write.Close job session = Some (write_closes job session)
write_works write.Finish job session = Some (write_finishes job session)
write_works _ job session = None

-- ---- the same of a job that runs an iterator

-- what the job finds that sends an item
abbrev pub found_send : Session → Met (Option (Unit {0}))
found_send session =
    hand_in 1 (room session.pipe) session.pipe.is_owner_open session.pipe.owner_seat

abbrev pub send_answer : Met (Option (Unit {0})) → ItemAnswer
send_answer (Served waker) = sent.Sent (is_some waker)
send_answer Waiting = sent.Parked
send_answer Closed = sent.Shut

abbrev pub session_after_send : ℕ → Met (Option (Unit {0})) → Session → Session
session_after_send x (Served waker) session =
    record session
    { pipe = record session.pipe { items = session.pipe.items ++ x ∷ []; owner_seat = None } }
session_after_send x Waiting session =
    record session { pipe = record session.pipe { job_seat = Some session.number } }
session_after_send x Closed session = session

abbrev pub item_at_send : Met (Option (Unit {0})) → streams.Progress → Session
    → Work streams.Progress
item_at_send met job session = record {
  act = seen_put 1 met;
  job = streams.progress_with job (send_answer met);
  session = session_after_send job.item met session;
}

-- it closes its end of the pipe
abbrev pub item_closes : streams.Progress → Session → Work streams.Progress
item_closes job session = record {
  act = JobClosed (waker_in (closing_wakes session));
  job = streams.progress_with job (sent.Closed (closing_wakes session));
  session = session_after_job_close session;
}

-- it puts its result, which is never a fault
abbrev pub item_finishes : streams.Progress → Session → Work streams.Progress
item_finishes job session = record {
  act = Finished (waker_in (finish_wakes None session));
  job = streams.progress_with job (sent.Finished (finish_wakes None session));
  session = session_after_finish None session;
}

-- What it does next at its session, where that is its own to do.
abbrev pub item_works : ItemAction → streams.Progress → Session → Option (Work streams.Progress)
item_works item.Send job session = Some (item_at_send (found_send session) job session)
item_works item.Close job session = Some (item_closes job session)
item_works item.Finish job session = Some (item_finishes job session)
item_works _ job session = None

-- ---- the same of a job that seeks

-- it puts its result, and leaves where the handle is
abbrev pub seek_finishes : seeks.Progress → Session → Work seeks.Progress
seek_finishes job session = record {
  act = Finished (waker_in (finish_wakes job.fault session));
  job = seeks.progress_with job (sought.Finished (finish_wakes job.fault session));
  session = record (session_after_finish job.fault session) { left = job.place };
}

-- What it does next at its session, where that is its own to do.
abbrev pub seek_works : SeekAction → seeks.Progress → Session → Option (Work seeks.Progress)
seek_works seek.Finish job session = Some (seek_finishes job session)
seek_works _ job session = None

-- ---- the same of a job that runs an operation

-- whether the owner's waker is taken where the job puts the result of its operation
abbrev pub result_wakes : ℕ → Session → Bool
result_wakes n session = is_some (put_in session.result n).wake

-- it puts the result of its operation
abbrev pub op_puts : operations.Progress → Session → Work operations.Progress
op_puts job session = record {
  act = ResultPut (waker_in (result_wakes job.number session));
  job = operations.progress_with job (ran.ResultPut (result_wakes job.number session));
  session = record session { result = after_put session.result job.number };
}

-- it puts its own result, which is never a fault
abbrev pub op_finishes : operations.Progress → Session → Work operations.Progress
op_finishes job session = record {
  act = Finished (waker_in (finish_wakes None session));
  job = operations.progress_with job (ran.Finished (finish_wakes None session));
  session = session_after_finish None session;
}

-- What it does next at its session, where that is its own to do.
abbrev pub op_works : OpAction → operations.Progress → Session
    → Option (Work operations.Progress)
op_works operation.PutResult job session = Some (op_puts job session)
op_works operation.Finish job session = Some (op_finishes job session)
op_works _ job session = None

-- the answer of a call by which a job may act, and what it leaves: where it has no such act nothing
-- changes
abbrev pub IsWork : {J : Type 0} → Option (Work J) → J → Session → Option Act → J → Session → Type 0
IsWork None job session seen new_job new_session =
    (seen ≡ None) × (new_job ≡ job) × (new_session ≡ session)
IsWork (Some work) job session seen new_job new_session =
    (seen ≡ Some work.act) × (new_job ≡ work.job) × (new_session ≡ work.session)
