-- Short traces with owners that seek, for the theorems that show what their laws accept and refuse.
-- They are written as those of `OwnerTraces`.
use Rattle.std.specs.Prelude.{List, None, pos}
use Rattle.blocking_core.specs.declared.io.Position.TheVariants.{Start, Current}
use Rattle.blocking_pool.specs.declared.pool.standing.Standing.TheVariants.{Done}
use Rattle.blocking_world_laws.specs.Traces.{◌▸◌, moment, starting}
use Rattle.blocking_world_laws.specs.OwnerTraces.{asks, polls, takes, works, given, ends, one_made}
use Rattle.blocking_world_laws.specs.OwnerTraces.{two_told}
use Rattle.blocking_world_laws.specs.declared.event.Act.TheVariants.{Accepted, OwnerClosed, Back}
use Rattle.blocking_world_laws.specs.declared.event.Act.TheVariants.{Replied, Waits, Arrived, Took}
use Rattle.blocking_world_laws.specs.declared.event.Act.TheVariants.{Ended, RoomShut, JobClosed}
use Rattle.blocking_world_laws.specs.declared.event.Act.TheVariants.{Finished, HolderWoken}
use Rattle.blocking_world_laws.specs.declared.event.HolderWaker.TheVariants.{Taken, Absent}
use Rattle.blocking_world_laws.specs.declared.event.Moment.{Moment}
use Rattle.blocking_world_laws.specs.declared.event.Party.TheVariants.{Worker}
use Rattle.blocking_world_laws.specs.declared.event.Reply.TheVariants.{Count}
use Rattle.blocking_world_laws.specs.declared.step.HandleAnswer.TheVariants.{Number, Failed}
use Rattle.blocking_world_laws.specs.declared.step.HandleCall.TheVariants.{Seek}
use Rattle.blocking_world_laws.specs.declared.step.Step.TheVariants.{Arrive}

-- ---- an owner that read two of four bytes, and asks where its handle is

-- .. / got 6162 wake 1 / delivered 1 entered / replied ok 2 / asked (to seek c0)
abbrev pub seek_asked : List Moment
seek_asked = two_told ▸ polls (Replied (Count 2)) 2 ▸ asks (Seek (Current (pos 0))) 2

-- .. / asked / closed / waits / took 1 / shut / closed / finished wake owner / delivered owner /
-- ended 1 done
abbrev pub reading_over : List Moment
reading_over = seek_asked
    ▸ polls (OwnerClosed None) 2
    ▸ polls Waits 2
    ▸ takes 1 (Took 1)
    ▸ works 1 RoomShut
    ▸ works 1 (JobClosed Absent)
    ▸ works 1 (Finished Taken)
    ▸ works 1 HolderWoken
    ▸ ends 1 (Ended 1 Done)

-- .. / ended 1 done / asked (to seek c0) / back
abbrev pub reading_back : List Moment
reading_back = reading_over ▸ asks (Seek (Current (pos 0))) 2 ▸ polls Back 2

-- .. / back / accepted 2
abbrev pub seek_begun : List Moment
seek_begun = reading_back ▸ polls (Accepted 2) 2

-- .. / accepted 2 / waits / took 2
abbrev pub seek_taken : List Moment
seek_taken = seek_begun ▸ polls Waits 2 ▸ takes 2 (Took 2)

-- .. / took 2 / answered 4
abbrev pub handle_moved : List Moment
handle_moved = seek_taken ▸ given 2 (Number 4)

-- .. / answered 4 / finished wake owner / delivered owner / ended 2 done
abbrev pub seek_done : List Moment
seek_done = handle_moved ▸ works 2 (Finished Taken) ▸ works 2 HolderWoken ▸ ends 2 (Ended 2 Done)

-- .. / ended 2 done / asked (to seek c0) / back
abbrev pub seek_back : List Moment
seek_back = seek_done ▸ asks (Seek (Current (pos 0))) 2 ▸ polls Back 2

-- .. / back / replied ok 4
abbrev pub seek_replied : List Moment
seek_replied = seek_back ▸ polls (Replied (Count 4)) 2

-- ---- a seek that was given up

-- made 0 / asked (to seek s7) / accepted 1 +1 / waits / arrived 1 / took 1
abbrev pub old_seek_taken : List Moment
old_seek_taken = one_made
    ▸ asks (Seek (Start 7)) 1
    ▸ starting 1 (polls (Accepted 1) 1)
    ▸ polls Waits 2
    ▸ moment Arrive (Worker 1) None (Arrived 1) 2
    ▸ takes 1 (Took 1)

-- .. / finished wake owner / delivered owner / ended 1 done
abbrev pub then_sought : List Moment → List Moment
then_sought past = past ▸ works 1 (Finished Taken) ▸ works 1 HolderWoken ▸ ends 1 (Ended 1 Done)

-- .. / took 1 / answered 7 / finished wake owner / delivered owner / ended 1 done
abbrev pub old_sought : List Moment
old_sought = then_sought (old_seek_taken ▸ given 1 (Number 7))

-- .. / ended 1 done / asked (to seek s9) / back
abbrev pub other_asked : List Moment
other_asked = old_sought ▸ asks (Seek (Start 9)) 2 ▸ polls Back 2

-- .. / took 1 / answered fault 5 / finished wake owner / delivered owner / ended 1 done
abbrev pub seek_failed : List Moment
seek_failed = then_sought (old_seek_taken ▸ given 1 (Failed 5))
