-- Short traces with owners that operate on their handle, and with those that take it back, for the
-- theorems that show what their laws accept and refuse. They are written as those of `OwnerTraces`.
use Rattle.std.specs.Prelude.{List, [], Some, None}
use Rattle.blocking_pool.specs.declared.pool.answer.Woke.TheVariants.{Entered}
use Rattle.blocking_pool.specs.declared.pool.standing.Standing.TheVariants.{Done}
use Rattle.blocking_world_laws.specs.Traces.{◌▸◌, moment, starting}
use Rattle.blocking_world_laws.specs.OwnerTraces.{asks, polls, takes, works, given, ends}
use Rattle.blocking_world_laws.specs.OwnerTraces.{reader_parked}
use Rattle.blocking_world_laws.specs.declared.event.Act.TheVariants.{Made, Accepted, OwnerClosed}
use Rattle.blocking_world_laws.specs.declared.event.Act.TheVariants.{JobWoken, Back, ResultGot}
use Rattle.blocking_world_laws.specs.declared.event.Act.TheVariants.{Replied, Waits, Arrived, Took}
use Rattle.blocking_world_laws.specs.declared.event.Act.TheVariants.{Ended, RoomShut, JobClosed}
use Rattle.blocking_world_laws.specs.declared.event.Act.TheVariants.{ResultPut, Finished}
use Rattle.blocking_world_laws.specs.declared.event.Act.TheVariants.{HolderWoken}
use Rattle.blocking_world_laws.specs.declared.event.HolderWaker.TheVariants.{Taken, Absent}
use Rattle.blocking_world_laws.specs.declared.event.Moment.{Moment}
use Rattle.blocking_world_laws.specs.declared.event.Party.TheVariants.{Owner, Worker}
use Rattle.blocking_world_laws.specs.declared.event.Reply.TheVariants.{Count, Handle}
use Rattle.blocking_world_laws.specs.declared.step.HandleAnswer.TheVariants.{Number}
use Rattle.blocking_world_laws.specs.declared.step.HandleCall.TheVariants.{Read, Operate}
use Rattle.blocking_world_laws.specs.declared.step.HandleCall.TheVariants.{OperateAgain, IntoInner}
use Rattle.blocking_world_laws.specs.declared.step.Step.TheVariants.{New, Arrive}

-- ---- an operation that gives 9, and a read after it

-- made 0
abbrev pub operator_made : List Moment
operator_made = [] ▸ moment (New 0 0) (Owner 0) None (Made 0 0) 1

-- made 0 / asked (for an operation) / accepted 1 +1
abbrev pub operation_begun : List Moment
operation_begun = operator_made ▸ asks Operate 1 ▸ starting 1 (polls (Accepted 1) 1)

-- .. / accepted 1 +1 / waits / arrived 1 / took 1
abbrev pub operation_taken : List Moment
operation_taken =
    operation_begun ▸ polls Waits 2 ▸ moment Arrive (Worker 1) None (Arrived 1) 2 ▸ takes 1 (Took 1)

-- .. / took 1 / answered 9
abbrev pub nine_given : List Moment
nine_given = operation_taken ▸ given 1 (Number 9)

-- .. / answered 9 / result wake owner / delivered owner
abbrev pub nine_put : List Moment
nine_put = nine_given ▸ works 1 (ResultPut Taken) ▸ works 1 HolderWoken

-- .. / delivered owner / asked (for the result) / result 9
abbrev pub nine_got : List Moment
nine_got = nine_put ▸ asks OperateAgain 2 ▸ polls (ResultGot 9) 2

-- .. / result 9 / replied ok 9
abbrev pub nine_replied : List Moment
nine_replied = nine_got ▸ polls (Replied (Count 9)) 2

-- .. / replied ok 9 / asked (to read) / waits / finished wake owner / delivered owner / ended 1
-- done
abbrev pub operation_over : List Moment
operation_over = nine_replied
    ▸ asks (Read 2) 2
    ▸ polls Waits 2
    ▸ works 1 (Finished Taken)
    ▸ works 1 HolderWoken
    ▸ ends 1 (Ended 1 Done)

-- .. / ended 1 done / asked (to read) / back / accepted 2 / waits
abbrev pub read_anew : List Moment
read_anew = operation_over ▸ asks (Read 2) 2 ▸ polls Back 2 ▸ polls (Accepted 2) 2 ▸ polls Waits 2

-- ---- an operation that was given up

-- .. / delivered owner / finished / ended 1 done
abbrev pub nine_unasked : List Moment
nine_unasked = nine_put ▸ works 1 (Finished Absent) ▸ ends 1 (Ended 1 Done)

-- .. / ended 1 done / asked (for an operation) / back / accepted 2
abbrev pub second_begun : List Moment
second_begun = nine_unasked ▸ asks Operate 2 ▸ polls Back 2 ▸ polls (Accepted 2) 2

-- .. / delivered owner / asked (for an operation) / waits / asked (for the result): the job of the
-- one before has the handle
abbrev pub older_asked : List Moment
older_asked = nine_put ▸ asks Operate 2 ▸ polls Waits 2 ▸ asks OperateAgain 2

-- ---- an operation that first stops a session

-- .. / ended 1 parked / asked (for an operation) / closed wake 1 / delivered 1 entered / waits
abbrev pub stop_for_operation : List Moment
stop_for_operation = reader_parked
    ▸ asks Operate 2
    ▸ polls (OwnerClosed (Some 1)) 2
    ▸ polls (JobWoken 1 Entered) 2
    ▸ polls Waits 2

-- .. / took 1 / shut / closed / finished wake owner / delivered owner / ended 1 done
abbrev pub then_stopped : List Moment → List Moment
then_stopped past = past
    ▸ takes 1 (Took 1)
    ▸ works 1 RoomShut
    ▸ works 1 (JobClosed Absent)
    ▸ works 1 (Finished Taken)
    ▸ works 1 HolderWoken
    ▸ ends 1 (Ended 1 Done)

-- ---- an owner that takes its handle back

-- .. / ended 1 parked / asked (for the handle, for good)
abbrev pub inner_asked : List Moment
inner_asked = reader_parked ▸ asks IntoInner 2

-- .. / asked / closed wake 1 / delivered 1 entered / waits
abbrev pub inner_waits : List Moment
inner_waits =
    inner_asked ▸ polls (OwnerClosed (Some 1)) 2 ▸ polls (JobWoken 1 Entered) 2 ▸ polls Waits 2

-- .. / took 1 / shut / closed / finished wake owner / delivered owner / ended 1 done / asked (for
-- the handle, for good) / back
abbrev pub inner_back : List Moment
inner_back = then_stopped inner_waits ▸ asks IntoInner 2 ▸ polls Back 2

-- .. / back / replied handle
abbrev pub inner_replied : List Moment
inner_replied = inner_back ▸ polls (Replied Handle) 2
