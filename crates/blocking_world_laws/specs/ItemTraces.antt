-- Short traces with owners that take items, for the theorems that show what their laws accept and
-- refuse. They are written as those of `OwnerTraces`.
use Rattle.std.specs.Prelude.{List, [], Some, None}
use Rattle.blocking_pool.specs.declared.pool.answer.Woke.TheVariants.{Entered}
use Rattle.blocking_pool.specs.declared.pool.standing.Standing.TheVariants.{Parked, Done}
use Rattle.blocking_world_laws.specs.Traces.{◌▸◌, moment, starting}
use Rattle.blocking_world_laws.specs.OwnerTraces.{asks, polls, takes, works, given, ends}
use Rattle.blocking_world_laws.specs.declared.event.Act.TheVariants.{Made, Accepted, OwnerClosed}
use Rattle.blocking_world_laws.specs.declared.event.Act.TheVariants.{JobWoken, GotItem, GotEnd}
use Rattle.blocking_world_laws.specs.declared.event.Act.TheVariants.{Back, Replied, Waits, Arrived}
use Rattle.blocking_world_laws.specs.declared.event.Act.TheVariants.{Took, Ended, JobParked, Put}
use Rattle.blocking_world_laws.specs.declared.event.Act.TheVariants.{Lost, JobClosed, Finished}
use Rattle.blocking_world_laws.specs.declared.event.Act.TheVariants.{HolderWoken}
use Rattle.blocking_world_laws.specs.declared.event.HolderWaker.TheVariants.{Taken, Absent}
use Rattle.blocking_world_laws.specs.declared.event.Moment.{Moment}
use Rattle.blocking_world_laws.specs.declared.event.Party.TheVariants.{Owner, Worker}
use Rattle.blocking_world_laws.specs.declared.event.Reply.TheVariants.{OneItem, NoMore}
use Rattle.blocking_world_laws.specs.declared.step.HandleAnswer.TheVariants.{Item, NoItem}
use Rattle.blocking_world_laws.specs.declared.step.HandleCall.TheVariants.{Next, GetMut}
use Rattle.blocking_world_laws.specs.declared.step.Step.TheVariants.{New, Arrive}

-- ---- an owner that takes the items 0 and 1 out of a pipe of one

-- made 0
abbrev pub stream_made : List Moment
stream_made = [] ▸ moment (New 1 0) (Owner 0) None (Made 0 1) 1

-- made 0 / asked (for an item)
abbrev pub item_asked : List Moment
item_asked = stream_made ▸ asks Next 1

-- made 0 / asked / accepted 1 +1
abbrev pub stream_begun : List Moment
stream_begun = item_asked ▸ starting 1 (polls (Accepted 1) 1)

-- .. / accepted 1 +1 / waits / arrived 1 / took 1
abbrev pub stream_taken : List Moment
stream_taken =
    stream_begun ▸ polls Waits 2 ▸ moment Arrive (Worker 1) None (Arrived 1) 2 ▸ takes 1 (Took 1)

-- .. / took 1 / answered item 0
abbrev pub first_given : List Moment
first_given = stream_taken ▸ given 1 (Item 0)

-- .. / answered item 0 / put 1 wake owner / delivered owner
abbrev pub first_sent : List Moment
first_sent = first_given ▸ works 1 (Put 1 Taken) ▸ works 1 HolderWoken

-- .. / delivered owner / answered item 1 / parked
abbrev pub second_waits : List Moment
second_waits = first_sent ▸ given 1 (Item 1) ▸ works 1 JobParked

-- .. / parked / ended 1 parked
abbrev pub stream_parked : List Moment
stream_parked = second_waits ▸ ends 1 (Ended 1 Parked)

-- .. / ended 1 parked / asked (for an item)
abbrev pub first_asked : List Moment
first_asked = stream_parked ▸ asks Next 2

-- .. / asked / got item 0 wake 1
abbrev pub first_got : List Moment
first_got = first_asked ▸ polls (GotItem 0 (Some 1)) 2

-- .. / got item 0 wake 1 / delivered 1 entered
abbrev pub first_told : List Moment
first_told = first_got ▸ polls (JobWoken 1 Entered) 2

-- .. / delivered 1 entered / replied item 0 / took 1
abbrev pub second_taken : List Moment
second_taken = first_told ▸ polls (Replied (OneItem 0)) 2 ▸ takes 1 (Took 1)

-- .. / took 1 / put 1
abbrev pub second_sent : List Moment
second_sent = second_taken ▸ works 1 (Put 1 Absent)

-- .. / put 1 / answered none / closed / finished / ended 1 done
abbrev pub stream_done : List Moment
stream_done = second_sent
    ▸ given 1 NoItem
    ▸ works 1 (JobClosed Absent)
    ▸ works 1 (Finished Absent)
    ▸ ends 1 (Ended 1 Done)

-- .. / ended 1 done / asked (for an item)
abbrev pub second_asked : List Moment
second_asked = stream_done ▸ asks Next 2

-- .. / asked / got item 1 / replied item 1
abbrev pub second_replied : List Moment
second_replied = second_asked ▸ polls (GotItem 1 None) 2 ▸ polls (Replied (OneItem 1)) 2

-- .. / replied item 1 / asked (for an item) / got end / back
abbrev pub stream_back : List Moment
stream_back = second_replied ▸ asks Next 2 ▸ polls GotEnd 2 ▸ polls Back 2

-- .. / back / replied end
abbrev pub stream_ended : List Moment
stream_ended = stream_back ▸ polls (Replied NoMore) 2

-- .. / replied end / asked (for an item) / accepted 2 / waits
abbrev pub stream_anew : List Moment
stream_anew = stream_ended ▸ asks Next 2 ▸ polls (Accepted 2) 2 ▸ polls Waits 2

-- ---- a stream that is stopped

-- .. / ended 1 parked / asked (for the handle) / closed wake 1 / delivered 1 entered / waits / took
-- 1
abbrev pub stream_stops : List Moment
stream_stops = stream_parked
    ▸ asks GetMut 2
    ▸ polls (OwnerClosed (Some 1)) 2
    ▸ polls (JobWoken 1 Entered) 2
    ▸ polls Waits 2
    ▸ takes 1 (Took 1)

-- .. / took 1 / lost 1 / closed / finished wake owner / delivered owner / ended 1 done
abbrev pub stream_stopped : List Moment
stream_stopped = stream_stops
    ▸ works 1 (Lost 1)
    ▸ works 1 (JobClosed Absent)
    ▸ works 1 (Finished Taken)
    ▸ works 1 HolderWoken
    ▸ ends 1 (Ended 1 Done)

-- .. / ended 1 done / asked (for an item) / back: two items are lost
abbrev pub stopped_back : List Moment
stopped_back = stream_stopped ▸ asks Next 2 ▸ polls Back 2

-- ---- a wake that is forgotten, which the seats refuse

-- .. / answered item 0 / put 1 / answered item 1 / parked: the waiting owner isn't told
abbrev pub untold_stream : List Moment
untold_stream = first_given ▸ works 1 (Put 1 Absent) ▸ given 1 (Item 1) ▸ works 1 JobParked

-- .. / ended 1 parked / asked (for an item) / got item 0 / replied item 0 / asked (for an item):
-- the parked job isn't told
abbrev pub untold_stream_job : List Moment
untold_stream_job =
    first_asked ▸ polls (GotItem 0 None) 2 ▸ polls (Replied (OneItem 0)) 2 ▸ asks Next 2
