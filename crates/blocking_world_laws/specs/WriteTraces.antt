-- Short traces with owners that write, for the theorems that show what their laws accept and
-- refuse. They are written as those of `OwnerTraces`.
use Rattle.std.specs.Prelude.{List, [], ◌∷◌, Some, None}
use Rattle.blocking_pool.specs.declared.pool.answer.Woke.TheVariants.{Entered}
use Rattle.blocking_pool.specs.declared.pool.standing.Standing.TheVariants.{Parked, Done}
use Rattle.blocking_world_laws.specs.Traces.{◌▸◌, moment, starting}
use Rattle.blocking_world_laws.specs.OwnerTraces.{asks, polls, takes, works, given, ends}
use Rattle.blocking_world_laws.specs.declared.event.Act.TheVariants.{Made, Accepted, OwnerClosed}
use Rattle.blocking_world_laws.specs.declared.event.Act.TheVariants.{JobWoken, Filled, Back}
use Rattle.blocking_world_laws.specs.declared.event.Act.TheVariants.{Replied, Waits, Arrived, Took}
use Rattle.blocking_world_laws.specs.declared.event.Act.TheVariants.{Ended, JobParked, Peeked}
use Rattle.blocking_world_laws.specs.declared.event.Act.TheVariants.{Drained, Taken as TakenOut}
use Rattle.blocking_world_laws.specs.declared.event.Act.TheVariants.{JobClosed, Finished}
use Rattle.blocking_world_laws.specs.declared.event.Act.TheVariants.{HolderWoken}
use Rattle.blocking_world_laws.specs.declared.event.HolderWaker.TheVariants.{Taken, Absent}
use Rattle.blocking_world_laws.specs.declared.event.Moment.{Moment}
use Rattle.blocking_world_laws.specs.declared.event.Party.TheVariants.{Owner, Worker}
use Rattle.blocking_world_laws.specs.declared.event.Reply.TheVariants.{Okay, Count}
use Rattle.blocking_world_laws.specs.declared.step.HandleAnswer.TheVariants.{Number, Fine, Failed}
use Rattle.blocking_world_laws.specs.declared.step.HandleCall.TheVariants.{Write, Flush, Close}
use Rattle.blocking_world_laws.specs.declared.step.Step.TheVariants.{New, Arrive}

-- ---- an owner that writes three bytes into a pipe of two

-- made 0
abbrev pub writer_made : List Moment
writer_made = [] ▸ moment (New 2 0) (Owner 0) None (Made 0 2) 1

-- made 0 / asked (to write 78797a)
abbrev pub write_asked : List Moment
write_asked = writer_made ▸ asks (Write (120 ∷ 121 ∷ 122 ∷ [])) 1

-- made 0 / asked / accepted 1 +1
abbrev pub write_begun : List Moment
write_begun = write_asked ▸ starting 1 (polls (Accepted 1) 1)

-- .. / accepted 1 +1 / put 2
abbrev pub two_filled : List Moment
two_filled = write_begun ▸ polls (Filled 2 None) 2

-- .. / put 2 / replied ok 2 / asked (to write 7a)
abbrev pub last_asked : List Moment
last_asked = two_filled ▸ polls (Replied (Count 2)) 2 ▸ asks (Write (122 ∷ [])) 2

-- .. / asked / waits / arrived 1 / took 1
abbrev pub writer_taken : List Moment
writer_taken =
    last_asked ▸ polls Waits 2 ▸ moment Arrive (Worker 1) None (Arrived 1) 2 ▸ takes 1 (Took 1)

-- .. / took 1 / peeked 2
abbrev pub two_peeked : List Moment
two_peeked = writer_taken ▸ works 1 (Peeked (120 ∷ 121 ∷ []))

-- .. / peeked 2 / answered 1
abbrev pub one_answered : List Moment
one_answered = two_peeked ▸ given 1 (Number 1)

-- .. / answered 1 / taken 1 wake owner / delivered owner
abbrev pub one_written : List Moment
one_written = one_answered ▸ works 1 (TakenOut 1 Taken) ▸ works 1 HolderWoken

-- .. / delivered owner / peeked 1 / asked / put 1 / replied ok 1
abbrev pub last_filled : List Moment
last_filled = one_written
    ▸ works 1 (Peeked (121 ∷ []))
    ▸ asks (Write (122 ∷ [])) 2
    ▸ polls (Filled 1 None) 2
    ▸ polls (Replied (Count 1)) 2

-- .. / replied ok 1 / answered 1 / taken 1 / peeked 1 / answered 1 / taken 1
abbrev pub all_written : List Moment
all_written = last_filled
    ▸ given 1 (Number 1)
    ▸ works 1 (TakenOut 1 Absent)
    ▸ works 1 (Peeked (122 ∷ []))
    ▸ given 1 (Number 1)
    ▸ works 1 (TakenOut 1 Absent)

-- .. / taken 1 / parked / ended 1 parked
abbrev pub writer_parked : List Moment
writer_parked = all_written ▸ works 1 JobParked ▸ ends 1 (Ended 1 Parked)

-- ---- all is flushed

-- .. / ended 1 parked / asked (to flush)
abbrev pub flush_asked : List Moment
flush_asked = writer_parked ▸ asks Flush 2

-- .. / asked / closed wake 1 / delivered 1 entered
abbrev pub flush_told : List Moment
flush_told = flush_asked ▸ polls (OwnerClosed (Some 1)) 2 ▸ polls (JobWoken 1 Entered) 2

-- .. / delivered 1 entered / waits / took 1
abbrev pub flush_taken : List Moment
flush_taken = flush_told ▸ polls Waits 2 ▸ takes 1 (Took 1)

-- .. / took 1 / drained
abbrev pub writer_drained : List Moment
writer_drained = flush_taken ▸ works 1 Drained

-- .. / drained / answered ok
abbrev pub writer_flushed : List Moment
writer_flushed = writer_drained ▸ given 1 Fine

-- .. / answered ok / closed / finished wake owner / delivered owner / ended 1 done
abbrev pub flush_done : List Moment
flush_done = writer_flushed
    ▸ works 1 (JobClosed Absent)
    ▸ works 1 (Finished Taken)
    ▸ works 1 HolderWoken
    ▸ ends 1 (Ended 1 Done)

-- .. / ended 1 done / asked / back
abbrev pub flush_back : List Moment
flush_back = flush_done ▸ asks Flush 2 ▸ polls Back 2

-- .. / back / replied ok
abbrev pub all_flushed : List Moment
all_flushed = flush_back ▸ polls (Replied Okay) 2

-- .. / replied ok / asked (to close) / replied ok
abbrev pub writer_closed : List Moment
writer_closed = all_flushed ▸ asks Close 2 ▸ polls (Replied Okay) 2

-- .. / drained / answered fault 9 / closed / finished wake owner / delivered owner / ended 1 done /
-- asked (to close) / back
abbrev pub unflushed_back : List Moment
unflushed_back = writer_drained
    ▸ given 1 (Failed 9)
    ▸ works 1 (JobClosed Absent)
    ▸ works 1 (Finished Taken)
    ▸ works 1 HolderWoken
    ▸ ends 1 (Ended 1 Done)
    ▸ asks Close 2
    ▸ polls Back 2

-- ---- a write of one byte that fails

-- made 0 / asked (to write 61) / accepted 1 +1 / put 1 / replied ok 1 / arrived 1 / took 1 / peeked
-- 1
abbrev pub one_peeked : List Moment
one_peeked = writer_made
    ▸ asks (Write (97 ∷ [])) 1
    ▸ starting 1 (polls (Accepted 1) 1)
    ▸ polls (Filled 1 None) 2
    ▸ polls (Replied (Count 1)) 2
    ▸ moment Arrive (Worker 1) None (Arrived 1) 2
    ▸ takes 1 (Took 1)
    ▸ works 1 (Peeked (97 ∷ []))

-- .. / closed / finished / ended 1 done
abbrev pub then_done : List Moment → List Moment
then_done past =
    past ▸ works 1 (JobClosed Absent) ▸ works 1 (Finished Absent) ▸ ends 1 (Ended 1 Done)

-- .. / closed / finished / ended 1 done / asked (to flush) / closed / back
abbrev pub then_back : List Moment → List Moment
then_back past = then_done past ▸ asks Flush 2 ▸ polls (OwnerClosed None) 2 ▸ polls Back 2

-- .. / peeked 1 / answered 0 / answered ok
abbrev pub none_written : List Moment
none_written = one_peeked ▸ given 1 (Number 0) ▸ given 1 Fine

-- .. / peeked 1 / answered fault 8 / answered ok
abbrev pub write_failed : List Moment
write_failed = one_peeked ▸ given 1 (Failed 8) ▸ given 1 Fine

-- .. / peeked 1 / answered fault 8 / answered fault 9
abbrev pub both_failed : List Moment
both_failed = one_peeked ▸ given 1 (Failed 8) ▸ given 1 (Failed 9)

-- ---- wakes that are forgotten, which the seats refuse

-- .. / peeked 2 / answered 1 / taken 1 / peeked 1 / answered 1 / taken 1 / parked: the waiting
-- owner isn't told
abbrev pub untold_writer : List Moment
untold_writer = one_answered
    ▸ works 1 (TakenOut 1 Absent)
    ▸ works 1 (Peeked (121 ∷ []))
    ▸ given 1 (Number 1)
    ▸ works 1 (TakenOut 1 Absent)
    ▸ works 1 JobParked

-- .. / ended 1 parked / asked (to write 78797a) / put 2 / replied ok 2 / asked: the parked job
-- isn't told
abbrev pub untold_write_job : List Moment
untold_write_job = writer_parked
    ▸ asks (Write (120 ∷ 121 ∷ 122 ∷ [])) 2
    ▸ polls (Filled 2 None) 2
    ▸ polls (Replied (Count 2)) 2
    ▸ asks (Write (122 ∷ [])) 2
