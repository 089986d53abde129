-- The types that parts, their crew and holders, and the laws speak of, by their names.
pub use Rattle.blocking_core.specs.declared.io.Fault.{Fault}
pub use Rattle.blocking_core.specs.declared.job.Action.{Action}
pub use Rattle.blocking_core.specs.declared.job.item.ItemAction.{ItemAction}
pub use Rattle.blocking_core.specs.declared.job.op.OpAction.{OpAction}
pub use Rattle.blocking_core.specs.declared.job.read.ReadAction.{ReadAction}
pub use Rattle.blocking_core.specs.declared.job.seek.SeekAction.{SeekAction}
pub use Rattle.blocking_core.specs.declared.job.write.WriteAction.{WriteAction}
pub use Rattle.blocking_core.specs.declared.unblock.OwnerAction.{OwnerAction}
pub use Rattle.blocking_pool.specs.declared.pool.answer.Refusal.{Refusal}
pub use Rattle.blocking_pool.specs.declared.pool.answer.Waited.{Waited}
pub use Rattle.blocking_pool.specs.declared.pool.answer.Waited.TheVariants.{Stay, Stop}
pub use Rattle.blocking_pool.specs.declared.pool.answer.Woke.{Woke}
pub use Rattle.blocking_pool.specs.declared.pool.answer.Woke.TheVariants.{Entered}
pub use Rattle.blocking_pool.specs.declared.pool.answer.Woke.TheVariants.{Marked as MarkedBy}
pub use Rattle.blocking_pool.specs.declared.pool.answer.Woke.TheVariants.{Nothing}
pub use Rattle.blocking_pool.specs.declared.pool.standing.Standing.{Standing}
pub use Rattle.blocking_pool.specs.declared.pool.standing.Standing.TheVariants.{Done, Dropped}
pub use Rattle.blocking_pool.specs.declared.pool.standing.Standing.TheVariants.{Parked, Queued}
pub use Rattle.blocking_pool.specs.declared.pool.standing.Standing.TheVariants.{Running}
pub use Rattle.blocking_world_laws.specs.declared.event.Act.{Act}
pub use Rattle.blocking_world_laws.specs.declared.event.Act.TheVariants.{Accepted, Answered}
pub use Rattle.blocking_world_laws.specs.declared.event.Act.TheVariants.{Arrived, Asked, Drained}
pub use Rattle.blocking_world_laws.specs.declared.event.Act.TheVariants.{Ended, Filled, Finished}
pub use Rattle.blocking_world_laws.specs.declared.event.Act.TheVariants.{GaveUp, Got, GotItem}
pub use Rattle.blocking_world_laws.specs.declared.event.Act.TheVariants.{HandedOut, HolderDropped}
pub use Rattle.blocking_world_laws.specs.declared.event.Act.TheVariants.{HolderWoken, JobCancelled}
pub use Rattle.blocking_world_laws.specs.declared.event.Act.TheVariants.{JobClosed, JobParked}
pub use Rattle.blocking_world_laws.specs.declared.event.Act.TheVariants.{JobWoken, Lost, Made}
pub use Rattle.blocking_world_laws.specs.declared.event.Act.TheVariants.{NoAction, OwnerClosed}
pub use Rattle.blocking_world_laws.specs.declared.event.Act.TheVariants.{Peeked, Put, Refused}
pub use Rattle.blocking_world_laws.specs.declared.event.Act.TheVariants.{ResultPut, RoomFree}
pub use Rattle.blocking_world_laws.specs.declared.event.Act.TheVariants.{RoomShut, Stays, Stopped}
pub use Rattle.blocking_world_laws.specs.declared.event.Act.TheVariants.{Swept, Taken as TakenOut}
pub use Rattle.blocking_world_laws.specs.declared.event.Act.TheVariants.{TaskCancelled, Took}
pub use Rattle.blocking_world_laws.specs.declared.event.Act.TheVariants.{TookDropped, Waits}
pub use Rattle.blocking_world_laws.specs.declared.event.Event.{Event}
pub use Rattle.blocking_world_laws.specs.declared.event.Moment.{Moment}
pub use Rattle.blocking_world_laws.specs.declared.event.Party.{Party}
pub use Rattle.blocking_world_laws.specs.declared.event.Party.TheVariants.{Owner as ByOwner, Pool}
pub use Rattle.blocking_world_laws.specs.declared.event.Party.TheVariants.{Task as ByTask, Worker}
pub use Rattle.blocking_world_laws.specs.declared.event.Reply.{Reply}
pub use Rattle.blocking_world_laws.specs.declared.step.HandleAnswer.{HandleAnswer}
pub use Rattle.blocking_world_laws.specs.declared.step.HandleAnswer.TheVariants.{Gave, Number}
pub use Rattle.blocking_world_laws.specs.declared.step.HandleCall.{HandleCall}
pub use Rattle.blocking_world_laws.specs.declared.step.Step.{Step}
pub use Rattle.blocking_world_laws.specs.declared.step.Step.TheVariants.{Arrive, Ask, Copy}
pub use Rattle.blocking_world_laws.specs.declared.step.Step.TheVariants.{DropOwner, End, Io, Job}
pub use Rattle.blocking_world_laws.specs.declared.step.Step.TheVariants.{Late, Link, New, OfTask}
pub use Rattle.blocking_world_laws.specs.declared.step.Step.TheVariants.{Own, SetClientLimit}
pub use Rattle.blocking_world_laws.specs.declared.step.Step.TheVariants.{SetLimit, Spawn, Stray}
pub use Rattle.blocking_world_laws.specs.declared.step.Step.TheVariants.{Strike, Sweep, Take, Wait}
pub use Rattle.blocking_world_laws.specs.declared.step.TaskCall.{TaskCall}
pub use Rattle.blocking_world_laws.specs.declared.step.TaskCall.TheVariants.{Cancel, Detach, Drop}
pub use Rattle.blocking_world_laws.specs.declared.step.TaskCall.TheVariants.{Poll}
pub use Rattle.blocking_world_pool.specs.declared.hand.Hand.{Hand}
pub use Rattle.blocking_world_pool.specs.declared.hand.Hand.TheVariants.{Free, Holds, Out}
pub use Rattle.blocking_world_pool.specs.declared.hand.JobInHand.{JobInHand}
pub use Rattle.blocking_world_pool.specs.declared.hand.TurnStage.{TurnStage}
pub use Rattle.blocking_world_pool.specs.declared.ticket.Ticket.{Ticket}
pub use Rattle.blocking_world_pool.specs.declared.tickets.Parking.{Parking}
pub use Rattle.blocking_world_holders.specs.declared.job.SessionJob.{SessionJob}
pub use Rattle.blocking_world_holders.specs.declared.owner.OwnerNext.{OwnerNext}
pub use Rattle.blocking_world_holders.specs.declared.owner.OwnerStage.{OwnerStage}
pub use Rattle.blocking_world_state.specs.declared.row.Core.{Core}
pub use Rattle.blocking_world_state.specs.declared.row.Row.{Row}
