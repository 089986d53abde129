-- The machine of an owner, as contracts see it, and what each call of the owner and each act of its
-- job does to it.
use Rattle.std.specs.Prelude.{◌≡◌, ℕ, ◌==◌, ◌&&◌, ◌||◌, not, if◌then◌else◌, Bool, true, false, List}
use Rattle.std.specs.Prelude.{◌∷◌, length, Option, Some, None, is_some}
use Rattle.blocking_core.specs.OwnerCalls.{OwnerMachine, new_poll, owner_next, owner_after}
use Rattle.blocking_core.specs.Pipes.{Pipe}
use Rattle.blocking_core.specs.Places.{Met, Served, Waiting, Closed}
use Rattle.blocking_core.specs.Reads.{read_next}
use Rattle.blocking_core.specs.Writes.{write_next}
use Rattle.blocking_core.specs.Seeks.{seek_next}
use Rattle.blocking_core.specs.Ops.{op_next}
use Rattle.blocking_core.specs.Slots.{Content, Empty, Full, GivenUp, Abandoned, empty_slot}
use Rattle.blocking_core.specs.declared.io.Fault.{Fault}
use Rattle.blocking_core.specs.Items.{item_next}
use Rattle.blocking_core.specs.declared.job.item.ItemAction.{ItemAction}
use Rattle.blocking_core.specs.declared.job.item.ItemAction.TheVariants as item
use Rattle.blocking_core.specs.declared.job.item.ItemAnswer.TheVariants as sent
use Rattle.blocking_core.specs.declared.job.read.ReadAction.{ReadAction}
use Rattle.blocking_core.specs.declared.job.read.ReadAction.TheVariants as read
use Rattle.blocking_core.specs.declared.job.read.ReadAnswer.TheVariants as job_by
use Rattle.blocking_core.specs.declared.job.write.WriteAction.{WriteAction}
use Rattle.blocking_core.specs.declared.job.write.WriteAction.TheVariants as write
use Rattle.blocking_core.specs.declared.job.write.WriteAnswer.TheVariants as wrote
use Rattle.blocking_core.specs.declared.job.seek.SeekAction.{SeekAction}
use Rattle.blocking_core.specs.declared.job.seek.SeekAction.TheVariants as seek
use Rattle.blocking_core.specs.declared.job.seek.SeekAnswer.TheVariants as sought
use Rattle.blocking_core.specs.declared.job.op.OpAction.{OpAction}
use Rattle.blocking_core.specs.declared.job.op.OpAction.TheVariants as operation
use Rattle.blocking_core.specs.declared.job.op.OpAnswer.TheVariants as ran
use Rattle.blocking_core.specs.declared.unblock.OwnerAction.{OwnerAction}
use Rattle.blocking_core.specs.declared.unblock.OwnerAction.TheVariants as action
use Rattle.blocking_core.specs.declared.unblock.OwnerAnswer.{OwnerAnswer}
use Rattle.blocking_core.specs.declared.unblock.OwnerAnswer.TheVariants as by
use Rattle.blocking_core.specs.declared.unblock.PollCall.{PollCall}
use Rattle.blocking_core.specs.declared.unblock.PollCall.TheVariants as poll_call
use Rattle.blocking_core.specs.declared.unblock.Reply.{Reply}
use Rattle.blocking_core.specs.declared.unblock.Reply.TheVariants as reply
use Rattle.blocking_core.specs.declared.unblock.SessionKind.TheVariants as session_kind
use Rattle.blocking_core.specs.declared.unblock.State.{State}
use Rattle.blocking_core.specs.declared.unblock.State.TheVariants as state
use Rattle.blocking_world_laws.specs.JobTable.{Kind}
use Rattle.blocking_world_laws.specs.Sessions.{default_capacity, kind_of, is_again, is_for_closed}
use Rattle.blocking_world_laws.specs.Sessions.{is_into_inner, is_operation}
use Rattle.blocking_world_laws.specs.Seats.{waker_in}
use Rattle.blocking_world_laws.specs.declared.event.Act.{Act}
use Rattle.blocking_world_laws.specs.declared.event.Act.TheVariants.{OwnerClosed, Got, GotEnd}
use Rattle.blocking_world_laws.specs.declared.event.Act.TheVariants.{Filled, FillShut, Waits, Back}
use Rattle.blocking_world_laws.specs.declared.event.Act.TheVariants.{ResultGot, Replied, GaveUp}
use Rattle.blocking_world_laws.specs.declared.event.Act.TheVariants.{HolderWoken, GotItem}
use Rattle.blocking_world_laws.specs.declared.event.Reply.{Reply as Told}
use Rattle.blocking_world_laws.specs.declared.event.Reply.TheVariants as told
use Rattle.blocking_world_laws.specs.declared.step.HandleCall.{HandleCall}
use Rattle.blocking_world_laws.specs.declared.step.HandleCall.TheVariants as handle_call
use Rattle.blocking_world_holders.specs.Passages.{Goods, OfBytes, OfItems, through, if_piped}
use Rattle.blocking_world_holders.specs.Reads as reads
use Rattle.blocking_world_holders.specs.SessionJobs.{new_job}
use Rattle.blocking_world_holders.specs.Sessions.{Session, Work, goods_of, serial_of, drained}
use Rattle.blocking_world_holders.specs.Sessions.{filled, reach, front_len, session_after_close}
use Rattle.blocking_world_holders.specs.Sessions.{session_after_drain, session_after_fill}
use Rattle.blocking_world_holders.specs.Sessions.{session_after_look, session_after_give_up}
use Rattle.blocking_world_holders.specs.Sessions.{give_up_wakes, item_works, read_works}
use Rattle.blocking_world_holders.specs.Sessions.{write_works, received, session_after_receive}
use Rattle.blocking_world_holders.specs.Sessions.{session_after_find, seek_works, op_works}
use Rattle.blocking_world_holders.specs.Items as streams
use Rattle.blocking_world_holders.specs.Writes as writes
use Rattle.blocking_world_holders.specs.Seeks as seeks
use Rattle.blocking_world_holders.specs.Ops as operations
use Rattle.blocking_world_holders.specs.declared.job.SessionJob.{SessionJob}
use Rattle.blocking_world_holders.specs.declared.job.SessionJob.TheVariants as of_job
use Rattle.blocking_world_holders.specs.declared.owner.OwnerNext.{OwnerNext}
use Rattle.blocking_world_holders.specs.declared.owner.OwnerNext.TheVariants.{Rests, Begins}
use Rattle.blocking_world_holders.specs.declared.owner.OwnerNext.TheVariants.{Delivers, Acts}
use Rattle.blocking_world_holders.specs.declared.owner.OwnerStage.{OwnerStage}
use Rattle.blocking_world_holders.specs.declared.owner.OwnerStage.TheVariants as stage
use Rattle.blocking_world_holders.specs.declared.owner.PollEnd.{PollEnd}
use Rattle.blocking_world_holders.specs.declared.owner.PollEnd.TheVariants as poll_end
use Rattle.blocking_world_holders.specs.declared.session.op.Awaited.{Awaited}
use Rattle.blocking_world_holders.specs.declared.session.op.Awaited.TheVariants as awaited
use Rattle.blocking_world_holders.specs.declared.session.write.Entered.{Entered}
use Rattle.blocking_world_holders.specs.declared.session.write.Entered.TheVariants as entered
use Rattle.blocking_world_holders.specs.declared.session.read.ReadFound.{ReadFound}
use Rattle.blocking_world_holders.specs.declared.session.read.ReadFound.TheVariants as found
use Rattle.blocking_world_holders.specs.declared.session.item.Obtained.{Obtained}
use Rattle.blocking_world_holders.specs.declared.session.item.Obtained.TheVariants as obtained
use Rattle.blocking_world_holders.specs.declared.session.Looked.{Looked}
use Rattle.blocking_world_holders.specs.declared.session.Looked.TheVariants as looked
use Rattle.blocking_pool.specs.Jobs.{JobNumber}
use Rattle.blocking_pool.specs.declared.pool.answer.Refusal.{Refusal}

-- An owner: the number of bytes that it was made with, the client whose its jobs are, the call that
-- it was asked last, where it is in its polls, and its last session, if any.
pub record Owner : Type 0 where
  pub capacity : ℕ
  pub client : ℕ
  pub asked : Option HandleCall
  pub stage : OwnerStage
  pub session : Option Session

-- an owner that was made with this number of bytes, for this client
abbrev pub new_owner : ℕ → ℕ → Owner
new_owner capacity client = record {
  capacity = capacity;
  client = client;
  asked = None;
  stage = stage.Rests state.Idle poll_end.Replied;
  session = None;
}

-- how many bytes or items the pipe of a session of this kind holds
abbrev pub capacity_of : Owner → Kind → ℕ
capacity_of owner kind = if owner.capacity == 0 then default_capacity kind else owner.capacity

-- the number of the last session's job
abbrev pub number_in : Option Session → Option JobNumber
number_in None = None
number_in (Some session) = Some session.number

abbrev pub number_of : Owner → Option JobNumber
number_of owner = number_in owner.session

-- ---- polls

-- a call, in the words of the machine, by whether the session of a pending operation has begun
abbrev pub poll_call_of : Bool → HandleCall → PollCall
poll_call_of begun (handle_call.Read most) = poll_call.Read most
poll_call_of begun (handle_call.Write bytes) = poll_call.Write (length bytes)
poll_call_of begun handle_call.Flush = poll_call.Flush
poll_call_of begun handle_call.Close = poll_call.Close
poll_call_of begun (handle_call.Seek position) = poll_call.Seek position
poll_call_of begun handle_call.Next = poll_call.Next
poll_call_of begun handle_call.Operate = poll_call.Operate false
poll_call_of begun handle_call.OperateAgain = poll_call.Operate begun
poll_call_of begun handle_call.GetMut = poll_call.GetMut
poll_call_of begun handle_call.IntoInner = poll_call.IntoInner

-- the item that came out of the pipe of the last session last, or the result of its operation
abbrev pub last_item : Option Session → ℕ
last_item None = 0
last_item (Some session) = session.item

-- a reply, in the words of the laws, where this item or result came out last; there is none for a
-- call that isn't asked once the handle is gone
abbrev pub reply_as : ℕ → Reply ℕ → Option Told
reply_as x (reply.Count count) = Some (told.Count count)
reply_as x reply.Item = Some (told.OneItem x)
reply_as x reply.Result = Some (told.Count x)
reply_as x (reply.Position place) = Some (told.Count place)
reply_as x reply.End = Some told.NoMore
reply_as x reply.Handle = Some told.Handle
reply_as x (reply.Failed why) = Some (told.Failed why)
reply_as x (reply.NotBegun why) = Some (told.NotBegun why)
reply_as x reply.Done = Some told.Okay
reply_as x _ = None

-- whether it is there and no poll of it is under way
abbrev pub is_resting : OwnerStage → Bool
is_resting (stage.Rests at end) = true
is_resting _ = false

abbrev pub rests : Owner → Bool
rests owner = is_resting owner.stage

-- whether it may be asked for this where the handle is there
abbrev pub may_call_at : State → HandleCall → Bool
may_call_at state.Closed call = is_for_closed call
may_call_at at call = true

abbrev pub may_ask_at : OwnerStage → HandleCall → Bool
may_ask_at (stage.Rests at end) call = may_call_at at call
may_ask_at _ call = false

-- whether the last poll waits
abbrev pub is_pending : PollEnd → Bool
is_pending poll_end.Replied = false
is_pending poll_end.Waits = true
is_pending poll_end.WaitsForResult = true

-- whether it waits for the result of an operation, whose session has begun
abbrev pub is_for_result : PollEnd → Bool
is_for_result poll_end.WaitsForResult = true
is_for_result _ = false

-- whether an operation is pending, in its own session or in the stop of another
abbrev pub awaits_operation : OwnerStage → Option HandleCall → Bool
awaits_operation (stage.Rests at end) asked = is_pending end && is_operation asked
awaits_operation _ asked = false

-- whether it may be asked for this: once the handle was asked for for good only for that, and for
-- the result of an operation only where one is pending
abbrev pub may_ask : Owner → HandleCall → Bool
may_ask owner call =
    may_ask_at owner.stage call && (not (is_into_inner owner.asked) || is_into_inner (Some call))
    && (not (is_again call) || awaits_operation owner.stage owner.asked)

-- whether it was dropped
abbrev pub is_gone : OwnerStage → Bool
is_gone stage.Dropped = true
is_gone _ = false

-- whether it is no more: it was dropped, or its handle was taken back
abbrev pub is_no_more : OwnerStage → Bool
is_no_more stage.Dropped = true
is_no_more stage.TakenBack = true
is_no_more _ = false

-- the note that it has to deliver
abbrev pub note_at : OwnerStage → Option JobNumber
note_at (stage.Wakes poll note) = Some note
note_at _ = None

-- where a poll goes on, first by a note that it took
abbrev pub goes_on : OwnerMachine ℕ → Option JobNumber → OwnerStage
goes_on poll None = stage.Polls poll
goes_on poll (Some note) = stage.Wakes poll note

-- how many bytes an act carries that drains the pipe of this session
abbrev pub reach_in : ℕ → Option Session → ℕ
reach_in most None = 0
reach_in most (Some session) = reach most session

-- how many bytes the job of this session finds at the front of its pipe
abbrev pub front_in : Option Session → ℕ
front_in None = 0
front_in (Some session) = front_len session

-- what a poll does that is over with this reply
abbrev pub next_to_say : Option Told → OwnerNext
next_to_say None = Rests
next_to_say (Some told) = Acts 0

-- what a poll does whose machine does this next
abbrev pub next_by : OwnerAction ℕ → Option Session → OwnerNext
next_by action.Begin session = Begins
next_by (action.Drain most) session = Acts (reach_in most session)
next_by action.Close session = Acts 0
next_by action.Receive session = Acts 0
next_by (action.Fill most) session = Acts 0
next_by action.PollSlot session = Acts 0
next_by action.PollResult session = Acts 0
next_by action.DropHandle session = Acts 0
next_by (action.Reply reply) session = next_to_say (reply_as (last_item session) reply)
next_by _ session = Rests

abbrev pub next_at : OwnerStage → Option Session → OwnerNext
next_at (stage.Polls poll) session = next_by (owner_next poll) session
next_at (stage.Wakes poll note) session = Delivers
next_at _ session = Rests

-- what its poll does next
abbrev pub next_of : Owner → OwnerNext
next_of owner = next_at owner.stage owner.session

-- how many bytes its next act carries
abbrev pub bytes_in : OwnerNext → ℕ
bytes_in (Acts count) = count
bytes_in _ = 0

-- the owner after a poll of it began
abbrev pub after_ask : HandleCall → OwnerStage → Owner → Owner
after_ask call (stage.Rests at end) owner =
    record owner {
      asked = Some call;
      stage = stage.Polls (new_poll (poll_call_of (is_for_result end) call) at);
    }
after_ask call at owner = owner

abbrev pub owner_after_ask : HandleCall → Owner → Owner
owner_after_ask call owner = after_ask call owner.stage owner

-- ---- an act that asks no pool

-- What is seen of an act, and what it leaves.
pub record Did : Type 0 where
  pub act : Act
  pub owner : Owner

-- what a drain finds, a receipt, a fill, a look into the slot, and one for a result
abbrev pub found_as : Met (List ℕ × Option JobNumber) → ReadFound
found_as (Served got) = found.Bytes got.0 got.1
found_as Waiting = found.Nothing
found_as Closed = found.End

abbrev pub obtained_as : Met (ℕ × Option JobNumber) → Obtained
obtained_as (Served got) = obtained.Item got.0 got.1
obtained_as Waiting = obtained.Nothing
obtained_as Closed = obtained.End

abbrev pub entered_as : Met (ℕ × Option JobNumber) → Entered
entered_as (Served went) = entered.Bytes went.0 went.1
entered_as Waiting = entered.Nothing
entered_as Closed = entered.Shut

abbrev pub looked_as : Content (Option (Fault ℕ)) → Looked
looked_as Empty = looked.Nothing
looked_as (Full why) = looked.Handle why
looked_as GivenUp = looked.Gone
looked_as (Abandoned true) = looked.Gone
looked_as (Abandoned false) = looked.Nothing

abbrev pub awaited_as : Content ℕ → Awaited
awaited_as Empty = awaited.Nothing
awaited_as (Full n) = awaited.Result n
awaited_as GivenUp = awaited.Gone
awaited_as (Abandoned true) = awaited.Gone
awaited_as (Abandoned false) = awaited.Nothing

-- it closes its end of the pipe
abbrev pub close_did : OwnerMachine ℕ → Session → Owner → Did
close_did poll session owner = record {
  act = OwnerClosed (serial_of session.pipe.job_seat);
  owner = record owner {
    stage = goes_on (owner_after poll (by.Closed (is_some session.pipe.job_seat)))
        session.pipe.job_seat;
    session = Some (session_after_close session);
  };
}

-- it drains the pipe, and finds this: a poll that waits is over
abbrev pub drain_did : Met (List ℕ × Option JobNumber) → OwnerMachine ℕ → Session → Owner → Did
drain_did (Served got) poll session owner = record {
  act = Got got.0 (serial_of got.1);
  owner = record owner {
    stage = goes_on (owner_after poll (by.Got (length got.0) (is_some got.1))) got.1;
    session = Some (session_after_drain (Served got) session);
  };
}
drain_did Waiting poll session owner = record {
  act = Waits;
  owner = record owner {
    stage = stage.Rests poll.state poll_end.Waits;
    session = Some (session_after_drain Waiting session);
  };
}
drain_did Closed poll session owner = record {
  act = GotEnd;
  owner = record owner { stage = stage.Polls (owner_after poll by.Ended) };
}

-- it receives an item, and finds this: a poll that waits is over
abbrev pub receive_did : Met (ℕ × Option JobNumber) → OwnerMachine ℕ → Session → Owner → Did
receive_did (Served got) poll session owner = record {
  act = GotItem got.0 (serial_of got.1);
  owner = record owner {
    stage = goes_on (owner_after poll (by.Received (is_some got.1))) got.1;
    session = Some (session_after_receive (Served got) session);
  };
}
receive_did Waiting poll session owner = record {
  act = Waits;
  owner = record owner {
    stage = stage.Rests poll.state poll_end.Waits;
    session = Some (session_after_receive Waiting session);
  };
}
receive_did Closed poll session owner = record {
  act = GotEnd;
  owner = record owner { stage = stage.Polls (owner_after poll by.Ended) };
}

-- it fills the pipe with these bytes, and finds this: a poll that waits is over
abbrev pub fill_did : List ℕ → Met (ℕ × Option JobNumber) → OwnerMachine ℕ → Session → Owner → Did
fill_did bytes (Served went) poll session owner = record {
  act = Filled went.0 (serial_of went.1);
  owner = record owner {
    stage = goes_on (owner_after poll (by.Took went.0 (is_some went.1))) went.1;
    session = Some (session_after_fill bytes (Served went) session);
  };
}
fill_did bytes Waiting poll session owner = record {
  act = Waits;
  owner = record owner {
    stage = stage.Rests poll.state poll_end.Waits;
    session = Some (session_after_fill bytes Waiting session);
  };
}
fill_did bytes Closed poll session owner = record {
  act = FillShut;
  owner = record owner { stage = stage.Polls (owner_after poll by.Shut) };
}

-- the same, where it was asked to write something and has a session
abbrev pub fill_did_in : OwnerMachine ℕ → Option HandleCall → Option Session → Owner → Option Did
fill_did_in poll (Some (handle_call.Write (byte ∷ bytes))) (Some session) owner =
    through OfBytes session.goods
    (Some (fill_did (byte ∷ bytes) (filled (length (byte ∷ bytes)) session) poll session owner))
fill_did_in poll asked session owner = None

-- it drops the handle, and its poll is over
abbrev pub drop_did : OwnerMachine ℕ → Owner → Did
drop_did poll owner = record {
  act = Replied told.Okay;
  owner =
      record owner { stage = stage.Rests (owner_after poll by.Dropped).state poll_end.Replied };
}

-- how the machine is told that the handle is back: of a seek that went well with where it is
abbrev pub back_answer : State → Option (Fault ℕ) → ℕ → OwnerAnswer ℕ
back_answer (state.Lent (session_kind.Seeking goal) end) None left = by.Sought left
back_answer at why left = by.Back why

-- it looks into the slot, and finds this; where the job gave up there is nothing to be found, and
-- nothing is done
abbrev pub look_did : Looked → OwnerMachine ℕ → Session → Owner → Option Did
look_did (looked.Handle why) poll session owner =
    Some (record {
      act = Back;
      owner = record owner {
        stage = stage.Polls (owner_after poll
            (back_answer poll.state why session.left));
        session = Some session;
      };
    })
look_did looked.Nothing poll session owner =
    Some (record {
      act = Waits;
      owner = record owner
          { stage = stage.Rests poll.state poll_end.Waits; session = Some session };
    })
look_did looked.Gone poll session owner = None

-- it looks for the result of its operation, and finds this: a poll that waits is over; where none
-- will come nothing is done
abbrev pub find_did : Awaited → OwnerMachine ℕ → Session → Owner → Option Did
find_did (awaited.Result n) poll session owner =
    Some (record {
      act = ResultGot n;
      owner = record owner
          { stage = stage.Polls (owner_after poll by.Resulted); session = Some session };
    })
find_did awaited.Nothing poll session owner =
    Some (record {
      act = Waits;
      owner = record owner
          { stage = stage.Rests poll.state poll_end.WaitsForResult; session = Some session };
    })
find_did awaited.Gone poll session owner = None

-- where an owner is once its poll has replied: no more, if the handle was asked for for good
abbrev pub stage_after_reply : Bool → State → OwnerStage
stage_after_reply true at = stage.TakenBack
stage_after_reply false at = stage.Rests at poll_end.Replied

-- it replies, and its poll is over; a reply that the laws have no word for is not told, and nothing
-- is done
abbrev pub reply_did : Option Told → OwnerMachine ℕ → Owner → Option Did
reply_did (Some told) poll owner =
    Some (record {
      act = Replied told;
      owner =
          record owner { stage = stage_after_reply (is_into_inner owner.asked) poll.state };
    })
reply_did None poll owner = None

-- what its poll does next at its session
abbrev pub did_at : OwnerAction ℕ → OwnerMachine ℕ → Session → Owner → Option Did
did_at action.Close poll session owner =
    if_piped session.goods (Some (close_did poll session owner))
did_at (action.Drain most) poll session owner = through OfBytes session.goods
    (Some (drain_did (drained (reach most session) session) poll session owner))
did_at action.Receive poll session owner =
    through OfItems session.goods (Some (receive_did (received session) poll session owner))
did_at action.PollSlot poll session owner =
    look_did (looked_as session.slot.content) poll (session_after_look session.slot.content session)
    owner
did_at action.PollResult poll session owner =
    find_did (awaited_as session.result.content) poll
    (session_after_find session.result.content session) owner
did_at _ poll session owner = None

abbrev pub did_in : OwnerAction ℕ → OwnerMachine ℕ → Option Session → Owner → Option Did
did_in (action.Reply reply) poll session owner =
    reply_did (reply_as (last_item session) reply) poll owner
did_in (action.Fill most) poll session owner = fill_did_in poll owner.asked session owner
did_in action.DropHandle poll session owner = Some (drop_did poll owner)
did_in action poll None owner = None
did_in action poll (Some session) owner = did_at action poll session owner

abbrev pub did_by : OwnerStage → Owner → Option Did
did_by (stage.Polls poll) owner = did_in (owner_next poll) poll owner.session owner
did_by _ owner = None

-- What its poll does next, where that asks no pool.
abbrev pub did : Owner → Option Did
did owner = did_by owner.stage owner

-- the answer of a call by which an owner may act, and what it leaves: where it has no such act
-- nothing changes
abbrev pub IsDid : Option Did → Owner → Option Act → Owner → Type 0
IsDid None owner seen new = (seen ≡ None) × (new ≡ owner)
IsDid (Some done) owner seen new = (seen ≡ Some done.act) × (new ≡ done.owner)

-- ---- what the pool answers

-- the job of the session that its poll begins
abbrev pub new_job_of : Owner → SessionJob
new_job_of owner = new_job (kind_of owner.asked)

-- how much the pipe of that session holds, and what passes through it
abbrev pub capacity_asked : Owner → ℕ
capacity_asked owner = capacity_of owner (kind_of owner.asked)

abbrev pub goods_asked : Owner → Goods
goods_asked owner = goods_of (kind_of owner.asked)

-- the owner after a session began, with this job and this pipe, through which this passes
abbrev pub after_begin : JobNumber → Goods → Pipe ℕ (Unit {0}) → OwnerStage → Owner → Owner
after_begin number goods pipe (stage.Polls poll) owner = record owner {
  stage = stage.Polls (owner_after poll by.Begun);
  session = Some (record {
    number = number;
    goods = goods;
    item = 0;
    pipe = pipe;
    result = empty_slot;
    slot = empty_slot;
    left = 0;
  });
}
after_begin number goods pipe _ owner = owner

abbrev pub owner_after_begin : JobNumber → Goods → Pipe ℕ (Unit {0}) → Owner → Owner
owner_after_begin number goods pipe owner = after_begin number goods pipe owner.stage owner

-- after a session was refused
abbrev pub stage_after_refusal : Refusal → OwnerStage → OwnerStage
stage_after_refusal why (stage.Polls poll) = stage.Polls (owner_after poll (by.Refused why))
stage_after_refusal why at = at

abbrev pub owner_after_refusal : Refusal → Owner → Owner
owner_after_refusal why owner = record owner { stage = stage_after_refusal why owner.stage }

-- after its note was taken, to be delivered
abbrev pub stage_after_delivery : OwnerStage → OwnerStage
stage_after_delivery (stage.Wakes poll note) = stage.Polls (owner_after poll by.Delivered)
stage_after_delivery at = at

abbrev pub owner_after_delivery : Owner → Owner
owner_after_delivery owner = record owner { stage = stage_after_delivery owner.stage }

-- ---- it is dropped

abbrev pub stage_after_drop : OwnerStage → OwnerStage
stage_after_drop (stage.Rests at end) = stage.Dropped
stage_after_drop at = at

abbrev pub owner_after_drop : Owner → Owner
owner_after_drop owner = record owner { stage = stage_after_drop owner.stage }

-- ---- its job acts

-- What an act of the job is, and what it leaves of the job and of its owner.
pub record Worked : Type 0 where
  pub act : Act
  pub job : SessionJob
  pub owner : Owner

-- an act of a job at its session
abbrev pub worked_by : {J : Type 0} → (J → SessionJob) → Option (Work J) → Owner → Option Worked
worked_by job_of None owner = None
worked_by job_of (Some work) owner = Some (record {
  act = work.act;
  job = job_of work.job;
  owner = record owner { session = Some work.session };
})

-- a job calls the waker that it took
abbrev pub calls_waker : SessionJob → Owner → Option Worked
calls_waker job owner = Some (record { act = HolderWoken; job = job; owner = owner })

-- what a job that reads does next at its session
abbrev pub read_in : ReadAction → Option Session → reads.Progress → Owner → Option Worked
read_in next None job owner = None
read_in next (Some session) job owner =
    worked_by of_job.Read (through OfBytes session.goods (read_works next job session)) owner

-- what it does next: it calls the waker that it took, or meets its owner
abbrev pub read_as : ReadAction → reads.Progress → Owner → Option Worked
read_as read.Deliver job owner =
    calls_waker (of_job.Read (reads.progress_with job job_by.Delivered)) owner
read_as next job owner = read_in next owner.session job owner

-- the same of a job that writes
abbrev pub write_in : WriteAction → Option Session → writes.Progress → Owner → Option Worked
write_in next None job owner = None
write_in next (Some session) job owner =
    worked_by of_job.Write (through OfBytes session.goods (write_works next job session)) owner

abbrev pub write_as : WriteAction → writes.Progress → Owner → Option Worked
write_as write.Deliver job owner =
    calls_waker (of_job.Write (writes.progress_with job wrote.Delivered)) owner
write_as next job owner = write_in next owner.session job owner

-- the same of a job that runs an iterator
abbrev pub item_in : ItemAction → Option Session → streams.Progress → Owner → Option Worked
item_in doing None job owner = None
item_in doing (Some session) job owner =
    worked_by of_job.Items (through OfItems session.goods (item_works doing job session)) owner

abbrev pub item_as : ItemAction → streams.Progress → Owner → Option Worked
item_as item.Deliver job owner =
    calls_waker (of_job.Items (streams.progress_with job sent.Delivered)) owner
item_as doing job owner = item_in doing owner.session job owner

-- the same of a job that seeks
abbrev pub seek_in : SeekAction → Option Session → seeks.Progress → Owner → Option Worked
seek_in next None job owner = None
seek_in next (Some session) job owner = worked_by of_job.Seek (seek_works next job session) owner

abbrev pub seek_as : SeekAction → seeks.Progress → Owner → Option Worked
seek_as seek.Deliver job owner =
    calls_waker (of_job.Seek (seeks.progress_with job sought.Delivered)) owner
seek_as next job owner = seek_in next owner.session job owner

-- the same of a job that runs an operation
abbrev pub op_in : OpAction → Option Session → operations.Progress → Owner → Option Worked
op_in next None job owner = None
op_in next (Some session) job owner =
    worked_by of_job.Operate (op_works next job session) owner

abbrev pub op_as : OpAction → operations.Progress → Owner → Option Worked
op_as operation.Deliver job owner =
    calls_waker (of_job.Operate (operations.progress_with job ran.Delivered)) owner
op_as next job owner = op_in next owner.session job owner

-- What its job does next, where that is the job's own.
abbrev pub worked : SessionJob → Owner → Option Worked
worked (of_job.Read job) owner = read_as (read_next job.core) job owner
worked (of_job.Write job) owner = write_as (write_next job.core) job owner
worked (of_job.Items job) owner = item_as (item_next job.core) job owner
worked (of_job.Seek job) owner = seek_as (seek_next job.core) job owner
worked (of_job.Operate job) owner = op_as (op_next job.core) job owner

-- the answer of a call by which the job may act, and what it leaves: where it has no such act
-- nothing changes
abbrev pub IsWorked : Option Worked → SessionJob → Owner → Option Act → SessionJob → Owner → Type 0
IsWorked None job owner seen new_job new_owner =
    (seen ≡ None) × (new_job ≡ job) × (new_owner ≡ owner)
IsWorked (Some done) job owner seen new_job new_owner =
    (seen ≡ Some done.act) × (new_job ≡ done.job) × (new_owner ≡ done.owner)

-- whether a job that gives up takes the owner's waker, and the session then: without one there is
-- none to take
abbrev pub giving_up_wakes : Option Session → Bool
giving_up_wakes None = false
giving_up_wakes (Some session) = give_up_wakes session

abbrev pub without_job : Option Session → Option Session
without_job None = None
without_job (Some session) = Some (session_after_give_up session)

-- what is seen of a job that gives up
abbrev pub give_up_act : Owner → Act
give_up_act owner = GaveUp (waker_in (giving_up_wakes owner.session))

-- the owner after its job gave up
abbrev pub owner_after_give_up : Owner → Owner
owner_after_give_up owner = record owner { session = without_job owner.session }
