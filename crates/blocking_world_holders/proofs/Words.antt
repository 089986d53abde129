-- The words of the definitions that the proofs here speak of, by their names.
-- of the machines of jobs and polls, and of what they meet at
pub use Rattle.blocking_core.specs.Items.{item_after, item_by, item_in as core_item_in, item_next}
pub use Rattle.blocking_core.specs.Machines.{Machine, machine, wake_first}
pub use Rattle.blocking_core.specs.Ops.{op_after, op_by, op_in as core_op_in, op_next}
pub use Rattle.blocking_core.specs.OwnerCalls.{OwnerMachine, has_pipe, new_poll, owner_after}
pub use Rattle.blocking_core.specs.OwnerCalls.{owner_by, owner_in, owner_next}
pub use Rattle.blocking_core.specs.Pipes.{Pipe, room}
pub use Rattle.blocking_core.specs.Places.{Closed, Met, Served, Waiting, drain, fill, find_room}
pub use Rattle.blocking_core.specs.Places.{hand_in, peek, receive}
pub use Rattle.blocking_core.specs.Positions.{same_position}
pub use Rattle.blocking_core.specs.Reads.{read_after, read_by, read_in as core_read_in, read_next}
pub use Rattle.blocking_core.specs.Seeks.{seek_after, seek_by, seek_in as core_seek_in, seek_next}
pub use Rattle.blocking_core.specs.SlotAnswers.{IsPending}
pub use Rattle.blocking_core.specs.Slots.{Abandoned, Content, Empty, Full, GivenUp, Slot, after_put}
pub use Rattle.blocking_core.specs.Slots.{answer_of, empty_slot, full_with, slot_after}
pub use Rattle.blocking_core.specs.Slots.{slot_without_job, waker_out_of, without_owner}
pub use Rattle.blocking_core.specs.Writes.{WriteMachine, first_fault, noting, write_after, write_by}
pub use Rattle.blocking_core.specs.Writes.{write_in as core_write_in, write_next}
-- of the pool
pub use Rattle.blocking_pool.specs.Growth.{Growth}
pub use Rattle.blocking_pool.specs.Jobs.{JobNumber}
pub use Rattle.blocking_pool.specs.Lists.{is_in}
-- of the laws
pub use Rattle.blocking_world_laws.specs.Ends.{EndsTruly, IsFlushed, IsFlushedBack, IsFlushedIf}
pub use Rattle.blocking_world_laws.specs.Ends.{IsReadBack, IsReadWhole, IsTrueEnd, back_by}
pub use Rattle.blocking_world_laws.specs.Ends.{came_back, handle_answers, has_failed_write}
pub use Rattle.blocking_world_laws.specs.Ends.{has_failure, has_flush, is_failure, last_is_end}
pub use Rattle.blocking_world_laws.specs.JobTable.{AskBytes, AskCall, AskFlush, AskItem, AskResult}
pub use Rattle.blocking_world_laws.specs.JobTable.{AskSeek, Calling, CloseEnd, Consume, FindRoom}
pub use Rattle.blocking_world_laws.specs.JobTable.{Finish, JobAction, Kind, OfferBytes, Operating}
pub use Rattle.blocking_world_laws.specs.JobTable.{Over, Peek, PutPiece, PutResult, Reading}
pub use Rattle.blocking_world_laws.specs.JobTable.{Seeking, SendItem, Streaming, WakeHolder}
pub use Rattle.blocking_world_laws.specs.JobTable.{Writing, earlier as job_earlier, fault, fault_in}
pub use Rattle.blocking_world_laws.specs.JobTable.{first_action, has_closed, has_finished}
pub use Rattle.blocking_world_laws.specs.JobTable.{has_given_up, has_result, is_answer, is_asking}
pub use Rattle.blocking_world_laws.specs.JobTable.{is_over, is_taken}
pub use Rattle.blocking_world_laws.specs.JobTable.{next_after_answer as job_next_after_answer}
pub use Rattle.blocking_world_laws.specs.JobTable.{next_but_wake, next_of_job, number, piece}
pub use Rattle.blocking_world_laws.specs.JobTable.{takes_waker, wake_first as job_wake_first}
pub use Rattle.blocking_world_laws.specs.Jobs.{accepted_by, accepts, holder, is_pool, makes_a_task}
pub use Rattle.blocking_world_laws.specs.Jobs.{newcomer, tasks}
pub use Rattle.blocking_world_laws.specs.OwnerLaws.{JobActs, OwnerLaw, OwnerLaws, OwnerMayAct}
pub use Rattle.blocking_world_laws.specs.OwnerLaws.{Polls, Works}
pub use Rattle.blocking_world_laws.specs.OwnerSeats.{is_job_seated, job_seated_by, note_of, noted}
pub use Rattle.blocking_world_laws.specs.OwnerSeats.{pipe_seat, pipe_seated_by, place_of}
pub use Rattle.blocking_world_laws.specs.OwnerSeats.{result_seat, result_seated_by, slot_seat}
pub use Rattle.blocking_world_laws.specs.OwnerSeats.{slot_seated_by}
pub use Rattle.blocking_world_laws.specs.OwnerTable.{after_back, at_back, deliver_first, is_at_end}
pub use Rattle.blocking_world_laws.specs.OwnerTable.{next_of_owner, next_of_owner_by}
pub use Rattle.blocking_world_laws.specs.OwnerTable.{owner_next_but_wake}
pub use Rattle.blocking_world_laws.specs.OwnerWakes.{HasReason, IsSessionOf, IsStuck, is_waking}
pub use Rattle.blocking_world_laws.specs.Passed.{PassesOn, accepted, answered, carried, counted}
pub use Rattle.blocking_world_laws.specs.Passed.{data_of, gave, got, in_hand, inside, inside_by}
pub use Rattle.blocking_world_laws.specs.Passed.{is_of_session, is_serial, kind_in, last_job}
pub use Rattle.blocking_world_laws.specs.Passed.{last_kind, peeked, room_in, taken, was_put}
pub use Rattle.blocking_world_laws.specs.Places.{poll_place, poll_slot, poll_task, seated}
pub use Rattle.blocking_world_laws.specs.Places.{seen_drain, seen_fill, seen_peek, seen_put}
pub use Rattle.blocking_world_laws.specs.Places.{seen_receive, seen_room}
pub use Rattle.blocking_world_laws.specs.Seats.{task_seat, waker_in}
pub use Rattle.blocking_world_laws.specs.Seen.{IsBeginning, acts_of, acts_of_task, cut, events}
pub use Rattle.blocking_world_laws.specs.Seen.{is_by_task, is_in_cut, is_nothing, is_of_job}
pub use Rattle.blocking_world_laws.specs.Seen.{is_of_pool, is_some_worker, is_task, is_this, own}
pub use Rattle.blocking_world_laws.specs.Seen.{task_cut}
pub use Rattle.blocking_world_laws.specs.Sessions.{Session as SeenSession, State as SeenState}
pub use Rattle.blocking_world_laws.specs.Sessions.{call as seen_call, capacity as seen_capacity}
pub use Rattle.blocking_world_laws.specs.Sessions.{default_capacity, ends_close as seen_ends_close}
pub use Rattle.blocking_world_laws.specs.Sessions.{has_begun as seen_has_begun, is_again}
pub use Rattle.blocking_world_laws.specs.Sessions.{is_closed as seen_is_closed}
pub use Rattle.blocking_world_laws.specs.Sessions.{is_dropped as seen_is_dropped, is_for_closed}
pub use Rattle.blocking_world_laws.specs.Sessions.{is_into_inner as seen_is_into_inner, is_made}
pub use Rattle.blocking_world_laws.specs.Sessions.{is_operation}
pub use Rattle.blocking_world_laws.specs.Sessions.{is_owner_gone as seen_is_owner_gone}
pub use Rattle.blocking_world_laws.specs.Sessions.{is_pending_operation as seen_is_pending_operation}
pub use Rattle.blocking_world_laws.specs.Sessions.{is_poll_over, is_shut as seen_is_shut, jobs_of}
pub use Rattle.blocking_world_laws.specs.Sessions.{kind_of as seen_kind_of, kind_of_job}
pub use Rattle.blocking_world_laws.specs.Sessions.{last_session as seen_last_session}
pub use Rattle.blocking_world_laws.specs.Sessions.{may_ask as seen_may_ask, rests as seen_rests}
pub use Rattle.blocking_world_laws.specs.Sessions.{session as seen_session, state as seen_state}
pub use Rattle.blocking_world_laws.specs.Sessions.{state_by as seen_state_by}
pub use Rattle.blocking_world_laws.specs.Sessions.{state_in as seen_state_in, under_way}
pub use Rattle.blocking_world_laws.specs.Sessions.{was_asked_inner as seen_was_asked_inner}
pub use Rattle.blocking_world_laws.specs.Steps.{IsPolled, is_making, owners}
pub use Rattle.blocking_world_laws.specs.TaskLaws.{Calls, TaskActs, TaskLaw, TaskLaws, TaskMayAct}
pub use Rattle.blocking_world_laws.specs.TaskLaws.{in_time_by, is_in_time, poll_answer}
pub use Rattle.blocking_world_laws.specs.TaskLaws.{was_cancelled}
pub use Rattle.blocking_world_laws.specs.Wakes.{is_waiting, was_woken}
-- of tasks and owners
pub use Rattle.blocking_world_holders.specs.Ops.{OperationAs, Progress as OpProgress}
pub use Rattle.blocking_world_holders.specs.Ops.{action_as as op_action_as}
pub use Rattle.blocking_world_holders.specs.Ops.{action_of as op_action_of}
pub use Rattle.blocking_world_holders.specs.Ops.{progress_after_answer as op_progress_after_answer}
pub use Rattle.blocking_world_holders.specs.Ops.{progress_with as op_progress_with}
pub use Rattle.blocking_world_holders.specs.OwnerSteps.{Acts, Begins, CallsWaker, Delivers, GivesUp}
pub use Rattle.blocking_world_holders.specs.OwnerSteps.{IsAnswered, IsAside, IsAsked, IsDropped}
pub use Rattle.blocking_world_holders.specs.OwnerSteps.{IsFresh, IsHeld, IsRefused, MakesOwner}
pub use Rattle.blocking_world_holders.specs.OwnerSteps.{MayTake, OwnerStep, TakesStep}
pub use Rattle.blocking_world_holders.specs.OwnerSteps.{Works as DoesWork, act_in, act_of}
pub use Rattle.blocking_world_holders.specs.OwnerSteps.{act_of_work, by_its_job, by_owner}
pub use Rattle.blocking_world_holders.specs.OwnerSteps.{delivered, event_by, event_for}
pub use Rattle.blocking_world_holders.specs.OwnerSteps.{is_of_its_job}
pub use Rattle.blocking_world_holders.specs.OwnerSteps.{owner_after as owner_after_step}
pub use Rattle.blocking_world_holders.specs.OwnerSteps.{owner_after_work, owner_in as owner_in_step}
pub use Rattle.blocking_world_holders.specs.OwnerTies.{BeginsBy, EndAs, EndsAs, FitsNext, FlowAs}
pub use Rattle.blocking_world_holders.specs.OwnerTies.{Flows, GaveAll, GoneBy, HoldsResult, IsAtEnd}
pub use Rattle.blocking_world_holders.specs.OwnerTies.{IsDone, IsDrained, IsGoneBy, IsLentOpen}
pub use Rattle.blocking_world_holders.specs.OwnerTies.{IsOperating, IsOwnerStuckIn, IsPutBy}
pub use Rattle.blocking_world_holders.specs.OwnerTies.{IsStuckIn, LastAs, LentAs, LooksFrom}
pub use Rattle.blocking_world_holders.specs.OwnerTies.{OperatesBy, OwnerAs, OwnersHold, Passed}
pub use Rattle.blocking_world_holders.specs.OwnerTies.{PassedAs, PlaceAs, PlaceBy, PlaceIn}
pub use Rattle.blocking_world_holders.specs.OwnerTies.{PlainFlow, PollAs, ResultAs, SeatsAs}
pub use Rattle.blocking_world_holders.specs.OwnerTies.{SessionAs, SlotAs, StageAs, StageBy}
pub use Rattle.blocking_world_holders.specs.OwnerTies.{WriteFlowAs, WrittenAs, Wrote, action_as}
pub use Rattle.blocking_world_holders.specs.OwnerTies.{called_at, has_found, is_end_open}
pub use Rattle.blocking_world_holders.specs.OwnerTies.{is_finding, is_piped_kind, is_seated}
pub use Rattle.blocking_world_holders.specs.OwnerTies.{is_told, kind_as, newest_note, passed_by}
pub use Rattle.blocking_world_holders.specs.OwnerTies.{say, seat_of, state_as, wrote_by}
pub use Rattle.blocking_world_holders.specs.Owners.{Did, Owner, Worked, awaited_as}
pub use Rattle.blocking_world_holders.specs.Owners.{awaits_operation, back_answer, capacity_of}
pub use Rattle.blocking_world_holders.specs.Owners.{close_did, did, did_by, did_in, drain_did}
pub use Rattle.blocking_world_holders.specs.Owners.{drop_did, fill_did, fill_did_in, find_did}
pub use Rattle.blocking_world_holders.specs.Owners.{giving_up_wakes, goes_on, is_for_result}
pub use Rattle.blocking_world_holders.specs.Owners.{is_gone, is_no_more, is_pending, last_item}
pub use Rattle.blocking_world_holders.specs.Owners.{look_did, looked_as, may_ask, may_ask_at}
pub use Rattle.blocking_world_holders.specs.Owners.{may_call_at, new_owner, next_at, next_by}
pub use Rattle.blocking_world_holders.specs.Owners.{next_of, next_to_say, note_at, op_as}
pub use Rattle.blocking_world_holders.specs.Owners.{op_in, poll_call_of, read_as, read_in}
pub use Rattle.blocking_world_holders.specs.Owners.{receive_did, reply_as, reply_did, rests}
pub use Rattle.blocking_world_holders.specs.Owners.{seek_as, seek_in, stage_after_reply, item_as}
pub use Rattle.blocking_world_holders.specs.Owners.{item_in, without_job, worked, worked_by}
pub use Rattle.blocking_world_holders.specs.Owners.{write_as, write_in}
pub use Rattle.blocking_world_holders.specs.Passages.{Goods, OfBytes, OfItems, OfNothing, if_piped}
pub use Rattle.blocking_world_holders.specs.Passages.{is_piped, through}
pub use Rattle.blocking_world_holders.specs.Reads.{Progress as ReadProgress, ReadAs}
pub use Rattle.blocking_world_holders.specs.Reads.{action_as as read_action_as}
pub use Rattle.blocking_world_holders.specs.Reads.{action_of as read_action_of, has_waker}
pub use Rattle.blocking_world_holders.specs.Reads.{progress_after_answer as read_progress_after_answer}
pub use Rattle.blocking_world_holders.specs.Reads.{progress_with as read_progress_with}
pub use Rattle.blocking_world_holders.specs.Seeks.{Progress as SeekProgress, SeekAs}
pub use Rattle.blocking_world_holders.specs.Seeks.{action_as as seek_action_as}
pub use Rattle.blocking_world_holders.specs.Seeks.{action_of as seek_action_of}
pub use Rattle.blocking_world_holders.specs.Seeks.{progress_after_answer as seek_progress_after_answer}
pub use Rattle.blocking_world_holders.specs.Seeks.{progress_with as seek_progress_with}
pub use Rattle.blocking_world_holders.specs.SessionJobs.{JobAs, action_of, kind_of}
pub use Rattle.blocking_world_holders.specs.Sessions.{Session, Work, closing_wakes, drained, filled}
pub use Rattle.blocking_world_holders.specs.Sessions.{finish_wakes, fits_in, found_piece, found_put}
pub use Rattle.blocking_world_holders.specs.Sessions.{found_room, found_send, give_up_wakes}
pub use Rattle.blocking_world_holders.specs.Sessions.{goods_of, holds, new_session}
pub use Rattle.blocking_world_holders.specs.Sessions.{op_finishes, op_puts}
pub use Rattle.blocking_world_holders.specs.Sessions.{op_works, reach, received}
pub use Rattle.blocking_world_holders.specs.Sessions.{result_wakes, seek_finishes, seek_works}
pub use Rattle.blocking_world_holders.specs.Sessions.{serial_of, session_after_close}
pub use Rattle.blocking_world_holders.specs.Sessions.{session_after_consume, session_after_drain}
pub use Rattle.blocking_world_holders.specs.Sessions.{session_after_fill, session_after_find}
pub use Rattle.blocking_world_holders.specs.Sessions.{session_after_finish, session_after_give_up}
pub use Rattle.blocking_world_holders.specs.Sessions.{session_after_job_close, session_after_look}
pub use Rattle.blocking_world_holders.specs.Sessions.{session_after_peek, session_after_put}
pub use Rattle.blocking_world_holders.specs.Sessions.{session_after_receive, session_after_room}
pub use Rattle.blocking_world_holders.specs.Sessions.{session_after_send, item_closes}
pub use Rattle.blocking_world_holders.specs.Sessions.{item_finishes, item_works}
pub use Rattle.blocking_world_holders.specs.Sessions.{write_at_peek, read_at_put, read_at_room}
pub use Rattle.blocking_world_holders.specs.Sessions.{item_at_send, read_works, read_closes}
pub use Rattle.blocking_world_holders.specs.Sessions.{write_consumes, read_finishes}
pub use Rattle.blocking_world_holders.specs.Sessions.{write_closes, write_finishes, write_works}
pub use Rattle.blocking_world_holders.specs.Steps.{CallsWaker as TaskCallsWaker, Finishes}
pub use Rattle.blocking_world_holders.specs.Steps.{GivesUp as TaskGivesUp}
pub use Rattle.blocking_world_holders.specs.Steps.{IsAnswered as TaskIsAnswered}
pub use Rattle.blocking_world_holders.specs.Steps.{IsAside as TaskIsAside, IsBeside, IsCalled}
pub use Rattle.blocking_world_holders.specs.Steps.{MakesTask, MayTake as TaskMayTake}
pub use Rattle.blocking_world_holders.specs.Steps.{TakesStep as TaskTakesStep, TaskStep}
pub use Rattle.blocking_world_holders.specs.Steps.{act_of as task_act_of, by_job, by_task}
pub use Rattle.blocking_world_holders.specs.Steps.{event_by as task_event_by, task_after}
pub use Rattle.blocking_world_holders.specs.Items.{ItemAs, Progress as ItemProgress}
pub use Rattle.blocking_world_holders.specs.Items.{action_as as item_action_as}
pub use Rattle.blocking_world_holders.specs.Items.{action_of as item_action_of}
pub use Rattle.blocking_world_holders.specs.Items.{progress_after_answer as item_progress_after_answer}
pub use Rattle.blocking_world_holders.specs.Items.{progress_with as item_progress_with}
pub use Rattle.blocking_world_holders.specs.Tasks.{Task, finish_wakes as task_finish_wakes}
pub use Rattle.blocking_world_holders.specs.Tasks.{give_up_wakes as task_give_up_wakes, has_let_go}
pub use Rattle.blocking_world_holders.specs.Tasks.{may_be, new_task, poll_at, poll_in, poll_of}
pub use Rattle.blocking_world_holders.specs.Tasks.{stage_after_answer, task_act, task_after_call}
pub use Rattle.blocking_world_holders.specs.Tasks.{task_after_cancel, task_after_detach}
pub use Rattle.blocking_world_holders.specs.Tasks.{task_after_drop, task_after_finish}
pub use Rattle.blocking_world_holders.specs.Tasks.{task_after_give_up, task_after_poll}
pub use Rattle.blocking_world_holders.specs.Tasks.{task_after_poll_at, task_after_poll_in}
pub use Rattle.blocking_world_holders.specs.Ties.{CancelAs, SlotAs as TaskSlotAs, TaskAs, Tasked}
pub use Rattle.blocking_world_holders.specs.Ties.{TasksHold}
pub use Rattle.blocking_world_holders.specs.Writes.{IsOffered, Progress as WriteProgress, WriteAs}
pub use Rattle.blocking_world_holders.specs.Writes.{action_as as write_action_as}
pub use Rattle.blocking_world_holders.specs.Writes.{action_of as write_action_of}
pub use Rattle.blocking_world_holders.specs.Writes.{fault_of as write_fault_of}
pub use Rattle.blocking_world_holders.specs.Writes.{progress_after_answer as write_progress_after_answer}
pub use Rattle.blocking_world_holders.specs.Writes.{progress_after_piece}
pub use Rattle.blocking_world_holders.specs.Writes.{progress_with as write_progress_with, told_as}
