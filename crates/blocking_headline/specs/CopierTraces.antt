-- Short traces of a copy from owner 1 to owner 0, and what it is that only the clause `copies` refuses a
-- moment. They are written as those of `blocking_world_laws/specs`. Worker 1 runs job 1, which reads ahead
-- for owner 1, and then job 2, which writes behind for owner 0.
use Rattle.std.specs.Prelude.{ℕ, List, [], ◌∷◌, length, Some, None}
use Rattle.blocking_pool.specs.declared.pool.standing.Standing.TheVariants.{Done}
use Rattle.blocking_world_laws.specs.OwnerTraces.{polls}
use Rattle.blocking_world_laws.specs.Traces.{◌▸◌, moment, starting, of_owner, Refuses}
use Rattle.blocking_world_laws.specs.declared.event.Act.TheVariants.{Made, OwnerClosed, GotEnd, Arrived}
use Rattle.blocking_world_laws.specs.declared.event.Act.TheVariants.{RoomFree, Put, Taken as TakenOut, Drained}
use Rattle.blocking_world_laws.specs.declared.event.Act.TheVariants.{JobClosed, Finished}
use Rattle.blocking_world_laws.specs.declared.event.HolderWaker.TheVariants.{Absent}
use Rattle.blocking_world_laws.specs.declared.step.Step.{Step}
use Rattle.blocking_world_laws.specs.declared.step.Step.TheVariants.{New, Own, Arrive, Take, Job, Io, End}
use Rattle.blocking_headline.specs.Headline.{AtThis, Headline}
use Rattle.blocking_headline.specs.Words.{Moment, Act, Owner, Worker, Pool, Asked, Accepted, Took, Ended, Got}
use Rattle.blocking_headline.specs.Words.{Filled, Back, Replied, Answered, Peeked, Linked, Okay, Count}
use Rattle.blocking_headline.specs.Words.{Gave, Number, Fine, HandleCall, Read, Write, Link, Copy}

-- The page holds of the past, and of this event where its step is another one. Of the moment itself it doesn't
-- hold. No other clause than `copies` looks at the step that is taken now.
abbrev pub OnlyCopiesRefuses : ℕ → List Moment → Moment → Type 0
OnlyCopiesRefuses setting past now =
    Headline setting (past ▸ record now { step = Arrive }) × Refuses (AtThis setting) past now

-- ---- how they are written

-- the copier asks its reader, or its writer
abbrev pub asks_reader : HandleCall → Moment
asks_reader call = moment (Copy 0) (Owner 1) None (Asked call) 2

abbrev pub asks_writer : HandleCall → Moment
asks_writer call = moment (Copy 0) (Owner 0) None (Asked call) 2

-- a poll of its reader, or of its writer, takes an action
abbrev pub reader : Act → Moment
reader act = moment (Own 1) (Owner 1) None act 2

abbrev pub writer : Act → Moment
writer act = polls act 2

-- worker 1 does this with the reader's job, or with the writer's
abbrev pub at_reader : Step → Act → Moment
at_reader step act = of_owner 1 (moment step (Worker 1) (Some 1) act 2)

abbrev pub at_writer : Step → Act → Moment
at_writer step act = of_owner 0 (moment step (Worker 1) (Some 2) act 2)

abbrev pub two : List ℕ
two = 97 ∷ 98 ∷ []

-- ---- a copy

-- made 0 / made 1 / linked 0 / asked (to read 2) / accepted 1 +1 / arrived 1 / took 1 / room 4 / answered 6162 /
-- put 2 / got 6162 / replied ok 2
abbrev pub copy_read : List Moment
copy_read = []
    ▸ moment (New 4 0) (Owner 0) None (Made 0 4) 1
    ▸ moment (New 4 0) (Owner 1) None (Made 1 4) 1
    ▸ moment (Link 1 0 2) Pool None (Linked 0) 1
    ▸ moment (Copy 0) (Owner 1) None (Asked (Read 2)) 1
    ▸ starting 1 (moment (Own 1) (Owner 1) None (Accepted 1) 1)
    ▸ moment Arrive (Worker 1) None (Arrived 1) 2
    ▸ at_reader (Take 1) (Took 1)
    ▸ at_reader (Job 1) (RoomFree 4)
    ▸ at_reader (Io 1 (Gave two)) (Answered (Gave two))
    ▸ at_reader (Job 1) (Put 2 Absent)
    ▸ reader (Got two None)
    ▸ reader (Replied (Count 2))

-- .. / replied ok 2 / asked (to write these) / accepted 2 / put so many / replied ok so many / room 4 /
-- answered - / closed / finished / ended 1 done / asked (to read 2) / got end / back / replied ok 0
abbrev pub copy_inside : List ℕ → List Moment
copy_inside bytes = copy_read
    ▸ asks_writer (Write bytes)
    ▸ writer (Accepted 2)
    ▸ writer (Filled (length bytes) None)
    ▸ writer (Replied (Count (length bytes)))
    ▸ at_reader (Job 1) (RoomFree 4)
    ▸ at_reader (Io 1 (Gave [])) (Answered (Gave []))
    ▸ at_reader (Job 1) (JobClosed Absent)
    ▸ at_reader (Job 1) (Finished Absent)
    ▸ at_reader (End 1) (Ended 1 Done)
    ▸ asks_reader (Read 2)
    ▸ reader GotEnd
    ▸ reader Back
    ▸ reader (Replied (Count 0))

-- .. / replied ok 0 / took 2 / peeked so many / answered so many / taken so many
abbrev pub copy_written : List ℕ → List Moment
copy_written bytes = copy_inside bytes
    ▸ at_writer (Take 1) (Took 2)
    ▸ at_writer (Job 1) (Peeked bytes)
    ▸ at_writer (Io 1 (Number (length bytes))) (Answered (Number (length bytes)))
    ▸ at_writer (Job 1) (TakenOut (length bytes) Absent)

-- .. / taken so many / asked (this) / closed / drained / answered ok / closed / finished / ended 2 done / back /
-- replied ok
abbrev pub copy_flushed : HandleCall → List ℕ → List Moment
copy_flushed call bytes = copy_written bytes
    ▸ asks_writer call
    ▸ writer (OwnerClosed None)
    ▸ at_writer (Job 1) Drained
    ▸ at_writer (Io 1 Fine) (Answered Fine)
    ▸ at_writer (Job 1) (JobClosed Absent)
    ▸ at_writer (Job 1) (Finished Absent)
    ▸ at_writer (End 1) (Ended 2 Done)
    ▸ writer Back
    ▸ writer (Replied Okay)
