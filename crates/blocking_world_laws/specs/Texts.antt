-- The texts of events, as lists of bytes.
use Rattle.std.specs.Prelude.{ℕ, zero, suc, ◌+◌, Bool, true, false, List, [], ◌++◌, length, codes}
use Rattle.std.specs.Prelude.{decimal, Option, Some, None}
use Rattle.blocking_core.specs.declared.io.Fault.TheVariants as fault
use Rattle.blocking_pool.specs.declared.pool.answer.Refusal.{Refusal}
use Rattle.blocking_pool.specs.declared.pool.answer.Refusal.TheVariants.{Memory, NoWorker, Numbers}
use Rattle.blocking_pool.specs.declared.pool.answer.Woke.{Woke}
use Rattle.blocking_pool.specs.declared.pool.answer.Woke.TheVariants.{Entered, Marked, Nothing}
use Rattle.blocking_pool.specs.declared.pool.standing.Standing.{Standing}
use Rattle.blocking_pool.specs.declared.pool.standing.Standing.TheVariants.{Queued, Running, Parked}
use Rattle.blocking_pool.specs.declared.pool.standing.Standing.TheVariants.{Done, Dropped}
use Rattle.blocking_world_laws.specs.Hex.{hex_text}
use Rattle.blocking_world_laws.specs.declared.step.HandleAnswer.{HandleAnswer}
use Rattle.blocking_world_laws.specs.declared.step.HandleAnswer.TheVariants as answer
use Rattle.blocking_world_laws.specs.declared.event.Act.{Act}
use Rattle.blocking_world_laws.specs.declared.event.Act.TheVariants.{Made, Asked, OwnerClosed, Got}
use Rattle.blocking_world_laws.specs.declared.event.Act.TheVariants.{GotItem, GotEnd, Filled}
use Rattle.blocking_world_laws.specs.declared.event.Act.TheVariants.{FillShut, Back, ResultGot}
use Rattle.blocking_world_laws.specs.declared.event.Act.TheVariants.{Replied, RoomFree, RoomShut}
use Rattle.blocking_world_laws.specs.declared.event.Act.TheVariants.{Put, Lost, Peeked, Drained}
use Rattle.blocking_world_laws.specs.declared.event.Act.TheVariants.{Taken as TakenOut, JobClosed}
use Rattle.blocking_world_laws.specs.declared.event.Act.TheVariants.{ResultPut, Accepted, Refused}
use Rattle.blocking_world_laws.specs.declared.event.Act.TheVariants.{JobWoken, JobCancelled}
use Rattle.blocking_world_laws.specs.declared.event.Act.TheVariants.{LimitSet, ClientLimitSet}
use Rattle.blocking_world_laws.specs.declared.event.Act.TheVariants.{Swept, Waits, TaskGot}
use Rattle.blocking_world_laws.specs.declared.event.Act.TheVariants.{TaskGotNone, TaskCancelled}
use Rattle.blocking_world_laws.specs.declared.event.Act.TheVariants.{TaskDetached, HolderDropped}
use Rattle.blocking_world_laws.specs.declared.event.Act.TheVariants.{Arrived, Took, TookDropped}
use Rattle.blocking_world_laws.specs.declared.event.Act.TheVariants.{TookNone, Stays, Stopped}
use Rattle.blocking_world_laws.specs.declared.event.Act.TheVariants.{Ended, HandedOut, Answered}
use Rattle.blocking_world_laws.specs.declared.event.Act.TheVariants.{JobParked, Finished, GaveUp}
use Rattle.blocking_world_laws.specs.declared.event.Act.TheVariants.{HolderWoken, Linked, Copied}
use Rattle.blocking_world_laws.specs.declared.event.Act.TheVariants.{CopyFailed, NoAction}
use Rattle.blocking_world_laws.specs.declared.event.CopySide.{CopySide}
use Rattle.blocking_world_laws.specs.declared.event.CopySide.TheVariants as side
use Rattle.blocking_world_laws.specs.declared.event.Event.{Event}
use Rattle.blocking_world_laws.specs.declared.event.HolderWaker.{HolderWaker}
use Rattle.blocking_world_laws.specs.declared.event.HolderWaker.TheVariants.{Taken, Absent}
use Rattle.blocking_world_laws.specs.declared.event.Reply.{Reply}
use Rattle.blocking_world_laws.specs.declared.event.Reply.TheVariants.{Okay, Count, OneItem, NoMore}
use Rattle.blocking_world_laws.specs.declared.event.Reply.TheVariants.{Handle, Failed, NotBegun}

-- why a job is refused
abbrev pub refusal_text : Refusal → List ℕ
refusal_text Memory = codes "memory"
refusal_text NoWorker = codes "worker"
refusal_text Numbers = codes "numbers"

-- what a wake or a cancel did
abbrev pub woke_text : Woke → List ℕ
woke_text Entered = codes "entered"
woke_text Marked = codes "marked"
woke_text Nothing = codes "nothing"

-- how a turn left its job
abbrev pub standing_text : Standing → List ℕ
standing_text Queued = codes "queued"
standing_text Running = codes "running"
standing_text Parked = codes "parked"
standing_text Done = codes "done"
standing_text Dropped = codes "dropped"

-- on which side a copier failed
abbrev pub side_text : CopySide → List ℕ
side_text side.Reading = codes "reading"
side_text side.Writing = codes "writing"

-- a wake stands at the end of a text
abbrev pub wake_text : HolderWaker → List ℕ
wake_text Taken = codes " wake owner"
wake_text Absent = []

-- the job whose note was taken stands at the end of a text
abbrev pub note_text : Option ℕ → List ℕ
note_text (Some s) = codes " wake " ++ decimal s
note_text None = []

-- what a job is answered
abbrev pub answer_text : HandleAnswer → List ℕ
answer_text (answer.Number n) = decimal n
answer_text (answer.Gave bytes) = hex_text bytes
answer_text answer.Fine = codes "ok"
answer_text (answer.Item x) = codes "item " ++ decimal x
answer_text answer.NoItem = codes "none"
answer_text (answer.Failed e) = codes "fault " ++ decimal e

-- what a poll replies
abbrev pub reply_text : Reply → List ℕ
reply_text Okay = codes "ok"
reply_text (Count n) = codes "ok " ++ decimal n
reply_text (OneItem x) = codes "item " ++ decimal x
reply_text NoMore = codes "end"
reply_text Handle = codes "handle"
reply_text (Failed (fault.Io e)) = codes "fault io " ++ decimal e
reply_text (Failed fault.WriteZero) = codes "fault write-zero"
reply_text (Failed (fault.Refused why)) = codes "fault refused " ++ refusal_text why
reply_text (NotBegun why) = codes "refused " ++ refusal_text why

-- the text of an act
abbrev pub act_text : Act → List ℕ
act_text (Made h capacity) = codes "made " ++ decimal h
act_text (Asked call) = codes "asked"
act_text (OwnerClosed note) = codes "closed" ++ note_text note
act_text (Got bytes note) = codes "got " ++ hex_text bytes ++ note_text note
act_text (GotItem x note) = codes "got item " ++ decimal x ++ note_text note
act_text GotEnd = codes "got end"
act_text (Filled n note) = codes "put " ++ decimal n ++ note_text note
act_text FillShut = codes "put shut"
act_text Back = codes "back"
act_text (ResultGot n) = codes "result " ++ decimal n
act_text (Replied reply) = codes "replied " ++ reply_text reply
act_text (Accepted s) = codes "accepted " ++ decimal s
act_text (Refused why) = codes "refused " ++ refusal_text why
act_text (JobWoken s woke) = codes "delivered " ++ decimal s ++ codes " " ++ woke_text woke
act_text (JobCancelled s woke) = codes "cancelled " ++ decimal s ++ codes " " ++ woke_text woke
act_text (LimitSet n) = codes "limit " ++ decimal n
act_text (ClientLimitSet (Some n)) = codes "clients " ++ decimal n
act_text (ClientLimitSet None) = codes "clients none"
act_text (Swept n) = codes "swept " ++ decimal n
act_text Waits = codes "waits"
act_text (TaskGot n) = codes "got " ++ decimal n
act_text TaskGotNone = codes "got none"
act_text TaskCancelled = codes "cancelled"
act_text TaskDetached = codes "detached"
act_text HolderDropped = codes "dropped"
act_text (Arrived w) = codes "arrived " ++ decimal w
act_text (Took s) = codes "took " ++ decimal s
act_text (TookDropped s) = codes "took " ++ decimal s ++ codes " dropped"
act_text TookNone = codes "idle"
act_text (Stays w end) = codes "stays " ++ decimal w
act_text (Stopped w end) = codes "stopped " ++ decimal w
act_text (Ended s how) = codes "ended " ++ decimal s ++ codes " " ++ standing_text how
act_text (HandedOut s) = codes "drop " ++ decimal s
act_text (Answered answer) = codes "answered " ++ answer_text answer
act_text (RoomFree n) = codes "room " ++ decimal n
act_text RoomShut = codes "shut"
act_text JobParked = codes "parked"
act_text (Put n waker) = codes "put " ++ decimal n ++ wake_text waker
act_text (Lost n) = codes "lost " ++ decimal n
act_text (Peeked bytes) = codes "peeked " ++ decimal (length bytes)
act_text Drained = codes "drained"
act_text (TakenOut n waker) = codes "taken " ++ decimal n ++ wake_text waker
act_text (JobClosed waker) = codes "closed" ++ wake_text waker
act_text (ResultPut waker) = codes "result" ++ wake_text waker
act_text (Finished waker) = codes "finished" ++ wake_text waker
act_text (GaveUp waker) = codes "gave up" ++ wake_text waker
act_text HolderWoken = codes "delivered owner"
act_text (Linked k) = codes "linked " ++ decimal k
act_text (Copied n) = codes "copied " ++ decimal n
act_text (CopyFailed at) = codes "copy failed " ++ side_text at
act_text NoAction = codes "nothing"

-- the numbers of so many starts, numbered on from the first
abbrev pub starts_text : ℕ → ℕ → List ℕ
starts_text first zero = []
starts_text first (suc count) = starts_text first count ++ (codes " +" ++ decimal (first + count))

-- the number of a start that was refused
abbrev pub refused_text : Bool → ℕ → List ℕ
refused_text true number = codes " -" ++ decimal number
refused_text false number = []

-- the text of an event: its act, the starts, and the start that was refused
abbrev pub event_text : Event → List ℕ
event_text event =
    act_text event.act ++ starts_text event.first event.started
    ++ refused_text event.start_refused (event.first + event.started)
