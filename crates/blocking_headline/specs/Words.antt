-- The names that the headline takes from elsewhere. The variants are those of steps and events: `src/step.rt`
-- and `src/event.rt` of blocking_world_laws say what each is. The words are those of its `specs/`, and the
-- page says in a line each what they are. A job's client is the one that its call names or that its owner was
-- made for.
pub use Rattle.blocking_pool.specs.Lists.{is_in}
pub use Rattle.blocking_pool.specs.declared.pool.answer.Woke.TheVariants.{Entered}
pub use Rattle.blocking_pool.specs.declared.pool.standing.Standing.TheVariants.{Queued}
pub use Rattle.blocking_world_laws.specs.Jobs.{client}
pub use Rattle.blocking_world_laws.specs.declared.event.Act.{Act}
pub use Rattle.blocking_world_laws.specs.declared.event.Act.TheVariants.{Asked, Accepted, Took}
pub use Rattle.blocking_world_laws.specs.declared.event.Act.TheVariants.{TookDropped, Ended, Got}
pub use Rattle.blocking_world_laws.specs.declared.event.Act.TheVariants.{JobWoken, JobCancelled}
pub use Rattle.blocking_world_laws.specs.declared.event.Act.TheVariants.{ClientLimitSet, LimitSet}
pub use Rattle.blocking_world_laws.specs.declared.event.Act.TheVariants.{Stopped, GotItem, Filled}
pub use Rattle.blocking_world_laws.specs.declared.event.Act.TheVariants.{Back, Waits, Replied}
pub use Rattle.blocking_world_laws.specs.declared.event.Act.TheVariants.{Answered, Peeked}
pub use Rattle.blocking_world_laws.specs.declared.event.Act.TheVariants.{HolderWoken, NoAction}
pub use Rattle.blocking_world_laws.specs.declared.event.Event.{Event}
pub use Rattle.blocking_world_laws.specs.declared.event.Moment.{Moment}
pub use Rattle.blocking_world_laws.specs.declared.event.Party.{Party}
pub use Rattle.blocking_world_laws.specs.declared.event.Party.TheVariants.{Owner, Task, Worker}
pub use Rattle.blocking_world_laws.specs.declared.event.Party.TheVariants.{Pool}
pub use Rattle.blocking_world_laws.specs.declared.event.Reply.TheVariants.{Okay, Count, NoMore}
pub use Rattle.blocking_world_laws.specs.declared.step.HandleAnswer.{HandleAnswer}
pub use Rattle.blocking_world_laws.specs.declared.step.HandleAnswer.TheVariants.{Gave, Item, NoItem}
pub use Rattle.blocking_world_laws.specs.declared.step.HandleAnswer.TheVariants.{Number, Fine}
pub use Rattle.blocking_world_laws.specs.declared.step.HandleCall.{HandleCall}
pub use Rattle.blocking_world_laws.specs.declared.step.HandleCall.TheVariants.{Read, Write, Next}
pub use Rattle.blocking_world_laws.specs.declared.step.HandleCall.TheVariants.{Flush, Close}
pub use Rattle.blocking_world_laws.specs.Seen.{IsBeginning, is_owner, is_task, is_nothing, is_this, is_in_cut, events, cut}
pub use Rattle.blocking_world_laws.specs.Seen.{acts_of_owner, acts_of_task}
pub use Rattle.blocking_world_laws.specs.Wakes.{is_waiting}
pub use Rattle.blocking_world_laws.specs.OwnerWakes.{IsSessionOf}
pub use Rattle.blocking_world_laws.specs.Queue.{taken_by}
pub use Rattle.blocking_world_laws.specs.Turns.{hand, hand_of}
pub use Rattle.blocking_world_laws.specs.Counts.{workers, limit}
pub use Rattle.blocking_world_laws.specs.Sessions.{call, session}
pub use Rattle.blocking_world_laws.specs.Passed.{got, gave, accepted, taken, last_job}
pub use Rattle.blocking_world_laws.specs.Copies.{IsEnding, all_got, all_accepted, all_taken, outcome}
pub use Rattle.blocking_world_laws.specs.Copies.{HasReplied}
pub use Rattle.blocking_world_laws.specs.declared.event.Reply.{Reply}
pub use Rattle.blocking_world_laws.specs.Core.{greatest}
pub use Rattle.blocking_world_laws.specs.Ends.{handle_answers, last_is_end}
pub use Rattle.blocking_world_laws.specs.declared.event.Act.TheVariants.{Linked, Copied}
pub use Rattle.blocking_world_laws.specs.declared.step.Step.TheVariants.{Link, Copy}
pub use Rattle.blocking_world_laws.specs.declared.event.Act.TheVariants.{HandedOut}
