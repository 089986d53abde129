-- The types of a crew, of its pool and of the laws, by their names.
pub use Rattle.blocking_pool.specs.declared.pool.answer.Refusal.TheVariants.{Memory, NoWorker}
pub use Rattle.blocking_pool.specs.declared.pool.answer.Refusal.TheVariants.{Numbers}
pub use Rattle.blocking_pool.specs.declared.pool.answer.Took.{Took}
pub use Rattle.blocking_pool.specs.declared.pool.answer.Took.TheVariants.{Drop, Idle, Run}
pub use Rattle.blocking_pool.specs.declared.pool.answer.Waited.{Waited}
pub use Rattle.blocking_pool.specs.declared.pool.answer.Waited.TheVariants.{Stay, Stop}
pub use Rattle.blocking_pool.specs.declared.pool.answer.Woke.{Woke}
pub use Rattle.blocking_pool.specs.declared.pool.answer.Woke.TheVariants.{Entered, Marked, Nothing}
pub use Rattle.blocking_pool.specs.declared.pool.bell.BellKind.TheVariants.{One}
pub use Rattle.blocking_pool.specs.declared.pool.standing.Standing.{Standing}
pub use Rattle.blocking_pool.specs.declared.pool.standing.Standing.TheVariants.{Done, Dropped}
pub use Rattle.blocking_pool.specs.declared.pool.standing.Standing.TheVariants.{Parked, Queued}
pub use Rattle.blocking_pool.specs.declared.pool.standing.Standing.TheVariants.{Running}
pub use Rattle.blocking_pool.specs.declared.pool.token.WorkerPass.{WorkerPass}
pub use Rattle.blocking_world_laws.specs.declared.event.Act.{Act}
pub use Rattle.blocking_world_laws.specs.declared.event.Act.TheVariants.{Accepted, Answered}
pub use Rattle.blocking_world_laws.specs.declared.event.Act.TheVariants.{Arrived, ClientLimitSet}
pub use Rattle.blocking_world_laws.specs.declared.event.Act.TheVariants.{Drained, Ended, Finished}
pub use Rattle.blocking_world_laws.specs.declared.event.Act.TheVariants.{GaveUp, HandedOut}
pub use Rattle.blocking_world_laws.specs.declared.event.Act.TheVariants.{HolderDropped, HolderWoken}
pub use Rattle.blocking_world_laws.specs.declared.event.Act.TheVariants.{JobCancelled, JobClosed}
pub use Rattle.blocking_world_laws.specs.declared.event.Act.TheVariants.{JobParked, JobWoken}
pub use Rattle.blocking_world_laws.specs.declared.event.Act.TheVariants.{LimitSet, Lost, NoAction}
pub use Rattle.blocking_world_laws.specs.declared.event.Act.TheVariants.{Peeked, Put, Refused}
pub use Rattle.blocking_world_laws.specs.declared.event.Act.TheVariants.{ResultPut, RoomFree}
pub use Rattle.blocking_world_laws.specs.declared.event.Act.TheVariants.{RoomShut, Stays, Stopped}
pub use Rattle.blocking_world_laws.specs.declared.event.Act.TheVariants.{Swept, TaskCancelled}
pub use Rattle.blocking_world_laws.specs.declared.event.Act.TheVariants.{TookDropped, TookNone}
pub use Rattle.blocking_world_laws.specs.declared.event.Event.{Event}
pub use Rattle.blocking_world_laws.specs.declared.event.HolderWaker.{HolderWaker}
pub use Rattle.blocking_world_laws.specs.declared.event.HolderWaker.TheVariants.{Absent, Taken}
pub use Rattle.blocking_world_laws.specs.declared.event.Moment.{Moment}
pub use Rattle.blocking_world_laws.specs.declared.event.Party.{Party}
pub use Rattle.blocking_world_laws.specs.declared.event.Party.TheVariants.{Pool, Worker}
pub use Rattle.blocking_world_laws.specs.declared.event.WaitEnd.{WaitEnd}
pub use Rattle.blocking_world_laws.specs.declared.step.Step.{Step}
pub use Rattle.blocking_world_pool.specs.declared.hand.Hand.{Hand}
pub use Rattle.blocking_world_pool.specs.declared.hand.Hand.TheVariants.{Free, Holds, Out}
pub use Rattle.blocking_world_pool.specs.declared.hand.JobInHand.{JobInHand}
pub use Rattle.blocking_world_pool.specs.declared.hand.TurnStage.{TurnStage}
pub use Rattle.blocking_world_pool.specs.declared.ticket.Ticket.{Ticket}
pub use Rattle.blocking_world_pool.specs.declared.tickets.Parking.{Parking}
