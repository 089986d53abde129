-- The words of the definitions that the proofs here speak of, by their names.
-- of pipes, slots and machines
pub use Rattle.blocking_core.specs.Items.{item_next}
pub use Rattle.blocking_core.specs.Ops.{op_next}
pub use Rattle.blocking_core.specs.OwnerCalls.{OwnerMachine, owner_next}
pub use Rattle.blocking_core.specs.Pipes.{Pipe, empty_pipe, room}
pub use Rattle.blocking_core.specs.Places.{Met, Served, Waiting, Closed, drain, fill, peek}
pub use Rattle.blocking_core.specs.Reads.{read_next}
pub use Rattle.blocking_core.specs.Seeks.{seek_next}
pub use Rattle.blocking_core.specs.Slots.{Content, Empty, Full, Abandoned, after_put}
pub use Rattle.blocking_core.specs.Writes.{write_next}
-- of the pool
pub use Rattle.blocking_pool.specs.Growth.{Narrows, Growth}
pub use Rattle.blocking_pool.specs.Jobs.{JobNumber, Job as Entry, one_if}
pub use Rattle.blocking_pool.specs.Lists.{first_of, is_in}
pub use Rattle.blocking_pool.specs.Wakes.{wake_of}
-- of the laws
pub use Rattle.blocking_world_laws.specs.Answers.{take_from, take_answer, end_of, PoolAnswers}
pub use Rattle.blocking_world_laws.specs.Bare.{is_bare_answer, is_bare_call, is_bare}
pub use Rattle.blocking_world_laws.specs.Counts.{starts, arrivals}
pub use Rattle.blocking_world_laws.specs.Growth.{IsPlanned}
pub use Rattle.blocking_world_laws.specs.JobTable.{Kind, Calling, Writing, Streaming, Seeking}
pub use Rattle.blocking_world_laws.specs.JobTable.{Operating, JobAction, FindRoom, Peek, SendItem}
pub use Rattle.blocking_world_laws.specs.JobTable.{Finish, Over, next_after_answer, next_but_wake}
pub use Rattle.blocking_world_laws.specs.JobTable.{wake_first, next_of_job, is_answer, is_asking}
pub use Rattle.blocking_world_laws.specs.JobTable.{is_over, fault, has_finished, has_given_up}
pub use Rattle.blocking_world_laws.specs.Jobs.{accepted_by, accepted_jobs, accepts, client_made}
pub use Rattle.blocking_world_laws.specs.Jobs.{client_of_owner, client_of_step, makes, tasks}
pub use Rattle.blocking_world_laws.specs.Jobs.{newcomer, holder, as_owner, is_holder, woken_by}
pub use Rattle.blocking_world_laws.specs.Jobs.{is_woken, cancels, is_cancelled, ends_for_good}
pub use Rattle.blocking_world_laws.specs.Jobs.{has_ended, lets_go, is_marked, is_to_drop, sweeps}
pub use Rattle.blocking_world_laws.specs.Jobs.{stands_by, is_queued, is_running, is_parked}
pub use Rattle.blocking_world_laws.specs.Jobs.{standing}
pub use Rattle.blocking_world_laws.specs.Legal.{PoolLaw}
pub use Rattle.blocking_world_laws.specs.OwnerSeats.{is_job_seated}
pub use Rattle.blocking_world_laws.specs.Queue.{queue, ready, times}
pub use Rattle.blocking_world_laws.specs.Seats.{waker_in}
pub use Rattle.blocking_world_laws.specs.Seen.{EachMayFollow, events, joined, is_this, is_owner}
pub use Rattle.blocking_world_laws.specs.Seen.{is_task, is_some_worker, is_of_pool, is_nothing}
pub use Rattle.blocking_world_laws.specs.Seen.{is_of_job, is_by_task, acts_of, acts_of_task}
pub use Rattle.blocking_world_laws.specs.Seen.{task_cut, is_in_cut, cut, own, acts_of_owner}
pub use Rattle.blocking_world_laws.specs.Sessions.{call, under_way, is_poll_over, is_dropped}
pub use Rattle.blocking_world_laws.specs.Sessions.{last_session, session, jobs_of, kind_of_job}
pub use Rattle.blocking_world_laws.specs.Sessions.{capacity}
pub use Rattle.blocking_world_laws.specs.Steps.{is_there, kind_by, next_in_turn, next_with}
pub use Rattle.blocking_world_laws.specs.Steps.{next_of_worker, is_job_action, is_answered_action}
pub use Rattle.blocking_world_laws.specs.Steps.{is_turn_end, is_for_cancelled, may_call, is_making}
pub use Rattle.blocking_world_laws.specs.Steps.{owners, may_cancel, has_action, named, party}
pub use Rattle.blocking_world_laws.specs.Steps.{job_of, IsBegun, IsOfTask, is_answered, IsEndOf}
pub use Rattle.blocking_world_laws.specs.Steps.{Fits, Happens, StepLaw}
pub use Rattle.blocking_world_laws.specs.TaskLaws.{was_cancelled, is_let_go}
pub use Rattle.blocking_world_laws.specs.Turns.{Turn, GoesOn, IsWaiting, MustGiveUp, HasGivenUp}
pub use Rattle.blocking_world_laws.specs.Turns.{turn_by, turn, hand, hand_of, HoldsOne}
-- of the crew
pub use Rattle.blocking_world_pool.specs.Crews.{Crew, may_act, stage_after, may_end, outcome_of}
pub use Rattle.blocking_world_pool.specs.Crews.{standing_after, hand_in, hand_at, with_hand}
pub use Rattle.blocking_world_pool.specs.Crews.{is_free_hand, over_in, acting_in, held_after_act}
pub use Rattle.blocking_world_pool.specs.Crews.{in_hand_of, free_hands, busy_hands}
pub use Rattle.blocking_world_pool.specs.Moves.{next_start, nothing, added_act, parked_act}
pub use Rattle.blocking_world_pool.specs.Moves.{is_aside, NeverAsked}
pub use Rattle.blocking_world_pool.specs.Ties.{AbsentAs, FiledAs, IsNumberOf, HandAs, turn_of}
pub use Rattle.blocking_world_pool.specs.Ties.{CrewHolds, has_ticket, is_serial_of, HoldsAtRest}
pub use Rattle.blocking_world_pool.specs.Ties.{IsAsked, IsAside}
-- of tasks and owners
pub use Rattle.blocking_world_holders.specs.Calls.{Progress, RanAs}
pub use Rattle.blocking_world_holders.specs.OwnerSteps.{OwnerStep, Acts, GivesUp, act_in}
pub use Rattle.blocking_world_holders.specs.OwnerSteps.{act_of_work, owner_after_work}
pub use Rattle.blocking_world_holders.specs.OwnerSteps.{job_after_work, delivered, act_of}
pub use Rattle.blocking_world_holders.specs.OwnerSteps.{owner_after, MayTake, is_of_its_job}
pub use Rattle.blocking_world_holders.specs.OwnerSteps.{event_by, IsHeld, IsFresh}
pub use Rattle.blocking_world_holders.specs.OwnerTies.{state_as, newest_note, BeginsBy, StageAs}
pub use Rattle.blocking_world_holders.specs.OwnerTies.{ResultAs, seat_of, LastAs, OwnerAs}
pub use Rattle.blocking_world_holders.specs.OwnerTies.{OwnersHold}
pub use Rattle.blocking_world_holders.specs.Owners.{Owner, new_owner, capacity_of, number_in}
pub use Rattle.blocking_world_holders.specs.Owners.{number_of, last_item, reply_as, is_resting}
pub use Rattle.blocking_world_holders.specs.Owners.{rests}
pub use Rattle.blocking_world_holders.specs.Owners.{is_gone, note_at, goes_on, front_in}
pub use Rattle.blocking_world_holders.specs.Owners.{next_to_say, next_by, next_of, bytes_in}
pub use Rattle.blocking_world_holders.specs.Owners.{after_ask, owner_after_ask, Did, looked_as}
pub use Rattle.blocking_world_holders.specs.Owners.{awaited_as, close_did, drain_did, receive_did}
pub use Rattle.blocking_world_holders.specs.Owners.{fill_did, fill_did_in, drop_did}
pub use Rattle.blocking_world_holders.specs.Owners.{stage_after_reply, look_did, find_did}
pub use Rattle.blocking_world_holders.specs.Owners.{reply_did, did_in, did_by, did, IsDid}
pub use Rattle.blocking_world_holders.specs.Owners.{new_job_of, capacity_asked, goods_asked}
pub use Rattle.blocking_world_holders.specs.Owners.{after_begin, owner_after_begin}
pub use Rattle.blocking_world_holders.specs.Owners.{stage_after_refusal, owner_after_refusal}
pub use Rattle.blocking_world_holders.specs.Owners.{stage_after_delivery, owner_after_delivery}
pub use Rattle.blocking_world_holders.specs.Owners.{stage_after_drop, owner_after_drop, Worked}
pub use Rattle.blocking_world_holders.specs.Owners.{worked_by, calls_waker, read_in, read_as}
pub use Rattle.blocking_world_holders.specs.Owners.{write_in, write_as, item_in, item_as}
pub use Rattle.blocking_world_holders.specs.Owners.{seek_in, seek_as, op_in, op_as}
pub use Rattle.blocking_world_holders.specs.Owners.{worked, IsWorked, without_job}
pub use Rattle.blocking_world_holders.specs.Owners.{owner_after_give_up}
pub use Rattle.blocking_world_holders.specs.Passages.{Goods, OfBytes, OfItems, pipe_in, through}
pub use Rattle.blocking_world_holders.specs.Reads.{has_waker}
pub use Rattle.blocking_world_holders.specs.SessionJobs.{new_job, job_after_answer, JobAs}
pub use Rattle.blocking_world_holders.specs.Sessions.{Session, reach, drained, received}
pub use Rattle.blocking_world_holders.specs.Sessions.{session_after_look, session_after_find}
pub use Rattle.blocking_world_holders.specs.Sessions.{filled, found_room, session_after_room}
pub use Rattle.blocking_world_holders.specs.Sessions.{found_put, session_after_put, fits_in}
pub use Rattle.blocking_world_holders.specs.Sessions.{closing_wakes, finish_wakes}
pub use Rattle.blocking_world_holders.specs.Sessions.{session_after_job_close, session_after_finish}
pub use Rattle.blocking_world_holders.specs.Sessions.{front_len, found_piece, session_after_peek}
pub use Rattle.blocking_world_holders.specs.Sessions.{holds}
pub use Rattle.blocking_world_holders.specs.Sessions.{session_after_consume, Work, read_at_put}
pub use Rattle.blocking_world_holders.specs.Sessions.{read_works, write_consumes, write_works}
pub use Rattle.blocking_world_holders.specs.Sessions.{found_send, session_after_send}
pub use Rattle.blocking_world_holders.specs.Sessions.{item_works, result_wakes}
pub use Rattle.blocking_world_holders.specs.Steps.{TaskStep, task_after, by_job, IsBeside}
pub use Rattle.blocking_world_holders.specs.Tasks.{Task, new_task, may_be, has_let_go, task_act}
pub use Rattle.blocking_world_holders.specs.Tasks.{task_after_call}
pub use Rattle.blocking_world_holders.specs.Ties.{is_gone_as, CancelAs, TaskAs, AllLaws, TasksHold}
-- of the parts
pub use Rattle.blocking_world_state.specs.Carried.{bytes_of_answer, bytes_of_call, bytes_of}
pub use Rattle.blocking_world_state.specs.Carried.{bytes_to_get, front_at, front_for, bytes_to_find}
pub use Rattle.blocking_world_state.specs.Carried.{bytes_to_come, is_busy, polls_in}
pub use Rattle.blocking_world_state.specs.Moves.{Move, Idles, Makes, Asks, Owns, Lends, Delivers}
pub use Rattle.blocking_world_state.specs.Moves.{IsDropped, Begins, Calls, Works, IsAnswered, Parks}
pub use Rattle.blocking_world_state.specs.Moves.{Passes, IsWoken, IsStruck, Notes, step_by, step_of}
pub use Rattle.blocking_world_state.specs.Moves.{task_call, call_of, rows_after_add}
pub use Rattle.blocking_world_state.specs.Moves.{tasks_after_add, lent_step, rows_after}
pub use Rattle.blocking_world_state.specs.Moves.{tasks_after, owners_after, may_call_in, rests_in}
pub use Rattle.blocking_world_state.specs.Moves.{may_ask_in, may_own, may_own_in, has_action_in}
pub use Rattle.blocking_world_state.specs.Moves.{is_pass, IsDue, AsksBy, IsNote, May, CrewMoves}
pub use Rattle.blocking_world_state.specs.Moves.{is_own_step, Moves, CopierMoves, Steps}
pub use Rattle.blocking_world_state.specs.Parts.{Parts, row_of, owner_by, owner_of, InHand}
pub use Rattle.blocking_world_state.specs.Parts.{job_with, job_in, job_at, places_of, next_in}
pub use Rattle.blocking_world_state.specs.Parts.{next_at, done_by, done_in, task_let_go}
pub use Rattle.blocking_world_state.specs.Parts.{owner_let_go, let_go_of, let_go_by}
pub use Rattle.blocking_world_state.specs.Rows.{party_of, owner_in, kind_of, call_row, session_row}
pub use Rattle.blocking_world_state.specs.Rows.{call_action, action_of, is_first, is_at_first}
pub use Rattle.blocking_world_state.specs.Rows.{call_step_by, call_step, call_after, session_step}
pub use Rattle.blocking_world_state.specs.Rows.{job_after, Done, call_done, session_seen}
pub use Rattle.blocking_world_state.specs.Rows.{session_done, done, IsDone, core_after_answer}
pub use Rattle.blocking_world_state.specs.Rows.{IsActed, IsActedFor}
pub use Rattle.blocking_world_state.specs.Ties.{Assigned, CoreAs, PlaceAs, RowAs, GaveAs, HasRow}
pub use Rattle.blocking_world_state.specs.Ties.{Rowed, Marked, is_waiting_in, is_left, seated_in}
pub use Rattle.blocking_world_state.specs.Ties.{is_number, IsMet, Crossed, moment, Tied, KeepsLaws}
pub use Rattle.blocking_world_state.specs.Ties.{IsFree, IsLawful}
