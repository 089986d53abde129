-- The words of the laws that the proofs here speak of, by their names.
pub use Rattle.blocking_core.specs.declared.io.Fault.{Fault}
pub use Rattle.blocking_pool.specs.declared.pool.answer.Refusal.{Refusal}
pub use Rattle.blocking_pool.specs.declared.pool.answer.Woke.{Woke}
pub use Rattle.blocking_world_laws.specs.Core.{Met, Served, Waiting, Closed, drain, receive, fill}
pub use Rattle.blocking_world_laws.specs.JobTable.{Kind, Writing, fault, number, has_finished}
pub use Rattle.blocking_world_laws.specs.JobTable.{has_result, has_closed}
pub use Rattle.blocking_world_laws.specs.OwnerLaws.{IsBegunAnew, Polls, OwnerActs, OwnerMayAct}
pub use Rattle.blocking_world_laws.specs.OwnerLaws.{OwnerLaw, OwnerLaws}
pub use Rattle.blocking_world_laws.specs.OwnerTable.{OwnerAction, Begin, CloseOwn, WakeJob, Drain}
pub use Rattle.blocking_world_laws.specs.OwnerTable.{Fill, Receive, PollSlot, PollPlace, Say, Rest}
pub use Rattle.blocking_world_laws.specs.OwnerTable.{table, at_asked, at_accepted, refusal}
pub use Rattle.blocking_world_laws.specs.OwnerTable.{after_end, after_back, at_back, is_at_end}
pub use Rattle.blocking_world_laws.specs.OwnerTable.{owner_next_but_wake, note_in, deliver_first}
pub use Rattle.blocking_world_laws.specs.OwnerTable.{next_of_owner_by, next_of_owner}
pub use Rattle.blocking_world_laws.specs.Places.{seen_drain, seen_receive, seen_fill, poll_slot}
pub use Rattle.blocking_world_laws.specs.Places.{poll_place}
pub use Rattle.blocking_world_laws.specs.Passed.{data_of, last_job, inside, room_in}
pub use Rattle.blocking_world_laws.specs.OwnerSeats.{noted}
pub use Rattle.blocking_world_laws.specs.Seen.{EachMayFollow, own, is_some_worker}
pub use Rattle.blocking_world_laws.specs.Sessions.{call, rests, may_ask, under_way, Session}
pub use Rattle.blocking_world_laws.specs.Sessions.{last_session, session, is_shut, has_begun}
pub use Rattle.blocking_world_laws.specs.Sessions.{is_operation, State, In, state, state_in}
pub use Rattle.blocking_world_laws.specs.Sessions.{state_by, is_closed, kind_of}
pub use Rattle.blocking_world_laws.specs.Steps.{IsBegun, IsWakeOf}
pub use Rattle.blocking_world_laws.specs.declared.event.Act.{Act}
pub use Rattle.blocking_world_laws.specs.declared.event.Act.TheVariants.{Made, Asked, OwnerClosed}
pub use Rattle.blocking_world_laws.specs.declared.event.Act.TheVariants.{Got, GotItem, GotEnd}
pub use Rattle.blocking_world_laws.specs.declared.event.Act.TheVariants.{Filled, FillShut, Back}
pub use Rattle.blocking_world_laws.specs.declared.event.Act.TheVariants.{ResultGot, Replied}
pub use Rattle.blocking_world_laws.specs.declared.event.Act.TheVariants.{Accepted, Refused}
pub use Rattle.blocking_world_laws.specs.declared.event.Act.TheVariants.{JobWoken, Waits}
pub use Rattle.blocking_world_laws.specs.declared.event.Act.TheVariants.{HolderDropped}
pub use Rattle.blocking_world_laws.specs.declared.event.Event.{Event}
pub use Rattle.blocking_world_laws.specs.declared.event.Reply.{Reply}
pub use Rattle.blocking_world_laws.specs.declared.event.Reply.TheVariants.{Okay, Count, Failed}
pub use Rattle.blocking_world_laws.specs.declared.step.HandleCall.{HandleCall}
pub use Rattle.blocking_world_laws.specs.declared.step.HandleCall.TheVariants.{Read, Write, Flush}
pub use Rattle.blocking_world_laws.specs.declared.step.HandleCall.TheVariants.{Close, Next, Seek}
pub use Rattle.blocking_world_laws.specs.declared.step.HandleCall.TheVariants.{Operate}
pub use Rattle.blocking_world_laws.specs.declared.step.HandleCall.TheVariants.{OperateAgain, GetMut}
pub use Rattle.blocking_world_laws.specs.declared.step.HandleCall.TheVariants.{IntoInner}
