-- The types that tasks, owners and their jobs, and the laws speak of, by their names.
pub use Rattle.blocking_core.specs.declared.io.Fault.{Fault}
pub use Rattle.blocking_core.specs.declared.io.Fault.TheVariants.{Io, WriteZero}
pub use Rattle.blocking_core.specs.declared.io.JobFault.{JobFault}
pub use Rattle.blocking_core.specs.declared.io.Position.{Position}
pub use Rattle.blocking_core.specs.declared.job.item.ItemAction.{ItemAction}
pub use Rattle.blocking_core.specs.declared.job.item.ItemAnswer.{ItemAnswer}
pub use Rattle.blocking_core.specs.declared.job.op.OpAction.{OpAction}
pub use Rattle.blocking_core.specs.declared.job.op.OpAnswer.{OpAnswer}
pub use Rattle.blocking_core.specs.declared.job.read.ReadAction.{ReadAction}
pub use Rattle.blocking_core.specs.declared.job.read.ReadAnswer.{ReadAnswer}
pub use Rattle.blocking_core.specs.declared.job.seek.SeekAction.{SeekAction}
pub use Rattle.blocking_core.specs.declared.job.seek.SeekAnswer.{SeekAnswer}
pub use Rattle.blocking_core.specs.declared.job.write.WriteAction.{WriteAction}
pub use Rattle.blocking_core.specs.declared.job.write.WriteAnswer.{WriteAnswer}
pub use Rattle.blocking_core.specs.declared.unblock.OwnerAction.{OwnerAction}
pub use Rattle.blocking_core.specs.declared.unblock.OwnerAnswer.{OwnerAnswer}
pub use Rattle.blocking_core.specs.declared.unblock.OwnerEnd.{OwnerEnd}
pub use Rattle.blocking_core.specs.declared.unblock.OwnerEnd.TheVariants.{Open, Shut}
pub use Rattle.blocking_core.specs.declared.unblock.PollCall.{PollCall}
pub use Rattle.blocking_core.specs.declared.unblock.Reply.{Reply}
pub use Rattle.blocking_core.specs.declared.unblock.SessionKind.{SessionKind}
pub use Rattle.blocking_core.specs.declared.unblock.State.{State}
pub use Rattle.blocking_pool.specs.declared.pool.answer.Refusal.{Refusal}
pub use Rattle.blocking_pool.specs.declared.pool.answer.Woke.{Woke}
pub use Rattle.blocking_world_laws.specs.declared.event.Act.{Act}
pub use Rattle.blocking_world_laws.specs.declared.event.Act.TheVariants.{Accepted, Answered, Asked}
pub use Rattle.blocking_world_laws.specs.declared.event.Act.TheVariants.{Back, Drained, FillShut}
pub use Rattle.blocking_world_laws.specs.declared.event.Act.TheVariants.{Filled, Finished, GaveUp}
pub use Rattle.blocking_world_laws.specs.declared.event.Act.TheVariants.{Got, GotEnd, GotItem}
pub use Rattle.blocking_world_laws.specs.declared.event.Act.TheVariants.{HolderDropped, HolderWoken}
pub use Rattle.blocking_world_laws.specs.declared.event.Act.TheVariants.{JobClosed, JobParked}
pub use Rattle.blocking_world_laws.specs.declared.event.Act.TheVariants.{JobWoken, Lost, Made}
pub use Rattle.blocking_world_laws.specs.declared.event.Act.TheVariants.{OwnerClosed, Peeked, Put}
pub use Rattle.blocking_world_laws.specs.declared.event.Act.TheVariants.{Refused, Replied}
pub use Rattle.blocking_world_laws.specs.declared.event.Act.TheVariants.{ResultGot, ResultPut}
pub use Rattle.blocking_world_laws.specs.declared.event.Act.TheVariants.{RoomFree, RoomShut}
pub use Rattle.blocking_world_laws.specs.declared.event.Act.TheVariants.{Taken as TakenOut}
pub use Rattle.blocking_world_laws.specs.declared.event.Act.TheVariants.{TaskCancelled}
pub use Rattle.blocking_world_laws.specs.declared.event.Act.TheVariants.{TaskDetached, TaskGot}
pub use Rattle.blocking_world_laws.specs.declared.event.Act.TheVariants.{TaskGotNone, Waits}
pub use Rattle.blocking_world_laws.specs.declared.event.Event.{Event}
pub use Rattle.blocking_world_laws.specs.declared.event.HolderWaker.{HolderWaker}
pub use Rattle.blocking_world_laws.specs.declared.event.Moment.{Moment}
pub use Rattle.blocking_world_laws.specs.declared.event.Party.{Party}
pub use Rattle.blocking_world_laws.specs.declared.event.Party.TheVariants.{Owner as ByOwner, Pool}
pub use Rattle.blocking_world_laws.specs.declared.event.Party.TheVariants.{Task as ByTask, Worker}
pub use Rattle.blocking_world_laws.specs.declared.event.Reply.{Reply as Told}
pub use Rattle.blocking_world_laws.specs.declared.step.HandleAnswer.{HandleAnswer}
pub use Rattle.blocking_world_laws.specs.declared.step.HandleAnswer.TheVariants.{Failed, Fine}
pub use Rattle.blocking_world_laws.specs.declared.step.HandleAnswer.TheVariants.{Gave, Item}
pub use Rattle.blocking_world_laws.specs.declared.step.HandleAnswer.TheVariants.{NoItem, Number}
pub use Rattle.blocking_world_laws.specs.declared.step.HandleCall.{HandleCall}
pub use Rattle.blocking_world_laws.specs.declared.step.HandleCall.TheVariants.{IntoInner}
pub use Rattle.blocking_world_laws.specs.declared.step.TaskCall.{TaskCall}
pub use Rattle.blocking_world_laws.specs.declared.step.TaskCall.TheVariants.{Cancel, Detach, Drop}
pub use Rattle.blocking_world_laws.specs.declared.step.TaskCall.TheVariants.{Poll}
pub use Rattle.blocking_world_holders.specs.declared.job.SessionJob.{SessionJob}
pub use Rattle.blocking_world_holders.specs.declared.owner.OwnerNext.{OwnerNext}
pub use Rattle.blocking_world_holders.specs.declared.owner.OwnerNext.TheVariants.{Acts as NextActs}
pub use Rattle.blocking_world_holders.specs.declared.owner.OwnerNext.TheVariants.{Rests}
pub use Rattle.blocking_world_holders.specs.declared.owner.OwnerStage.{OwnerStage}
pub use Rattle.blocking_world_holders.specs.declared.owner.PollEnd.{PollEnd}
pub use Rattle.blocking_world_holders.specs.declared.passage.Passage.TheVariants.{Bytes}
pub use Rattle.blocking_world_holders.specs.declared.task.TaskStage.{TaskStage}
