-- Short traces with owners, for the theorems that show what their laws accept and refuse. They are
-- written as those of `Traces`.
use Rattle.std.specs.Prelude.{ℕ, List, [], ◌∷◌, Some, None}
use Rattle.blocking_pool.specs.declared.pool.answer.Woke.TheVariants.{Entered}
use Rattle.blocking_pool.specs.declared.pool.standing.Standing.TheVariants.{Parked, Done}
use Rattle.blocking_world_laws.specs.Seen.{events, cut}
use Rattle.blocking_world_laws.specs.Ends.{EndsTruly}
use Rattle.blocking_world_laws.specs.Passed.{PassesOn}
use Rattle.blocking_world_laws.specs.OwnerLaws.{OwnerLaw, OwnerLaws}
use Rattle.blocking_world_laws.specs.OwnerWakes.{IsNotLost, ParksRightly}
use Rattle.blocking_world_laws.specs.Traces.{◌▸◌, moment, starting, of_owner}
use Rattle.blocking_world_laws.specs.declared.event.Act.{Act}
use Rattle.blocking_world_laws.specs.declared.event.Act.TheVariants.{Made, Asked, Accepted}
use Rattle.blocking_world_laws.specs.declared.event.Act.TheVariants.{OwnerClosed, JobWoken, Got}
use Rattle.blocking_world_laws.specs.declared.event.Act.TheVariants.{GotEnd, Back, Replied, Waits}
use Rattle.blocking_world_laws.specs.declared.event.Act.TheVariants.{HolderDropped, Arrived, Took}
use Rattle.blocking_world_laws.specs.declared.event.Act.TheVariants.{Ended, Answered, RoomFree}
use Rattle.blocking_world_laws.specs.declared.event.Act.TheVariants.{RoomShut, JobParked, Put}
use Rattle.blocking_world_laws.specs.declared.event.Act.TheVariants.{JobClosed, Finished}
use Rattle.blocking_world_laws.specs.declared.event.Act.TheVariants.{HolderWoken}
use Rattle.blocking_world_laws.specs.declared.event.HolderWaker.TheVariants.{Taken, Absent}
use Rattle.blocking_world_laws.specs.declared.event.Moment.{Moment}
use Rattle.blocking_world_laws.specs.declared.event.Party.TheVariants.{Owner, Worker}
use Rattle.blocking_world_laws.specs.declared.event.Reply.TheVariants.{Count}
use Rattle.blocking_world_laws.specs.declared.step.HandleAnswer.{HandleAnswer}
use Rattle.blocking_world_laws.specs.declared.step.HandleAnswer.TheVariants.{Gave, Failed}
use Rattle.blocking_world_laws.specs.declared.step.HandleCall.{HandleCall}
use Rattle.blocking_world_laws.specs.declared.step.HandleCall.TheVariants.{Read, GetMut}
use Rattle.blocking_world_laws.specs.declared.step.Step.TheVariants.{New, Ask, Own, DropOwner}
use Rattle.blocking_world_laws.specs.declared.step.Step.TheVariants.{Arrive, Take, Job, Io, End}

-- ---- how they are written

-- owner 0 is asked, no start having been made, or one
abbrev pub asks : HandleCall → ℕ → Moment
asks call next = moment (Ask 0 call) (Owner 0) None (Asked call) next

-- its poll takes an action
abbrev pub polls : Act → ℕ → Moment
polls act next = moment (Own 0) (Owner 0) None act next

-- owner 0 is dropped
abbrev pub drops : ℕ → Moment
drops next = moment (DropOwner 0) (Owner 0) None HolderDropped next

-- worker 1 takes job s of owner 0
abbrev pub takes : ℕ → Act → Moment
takes s act = of_owner 0 (moment (Take 1) (Worker 1) (Some s) act 2)

-- it takes an action of that job
abbrev pub works : ℕ → Act → Moment
works s act = of_owner 0 (moment (Job 1) (Worker 1) (Some s) act 2)

-- that job's reader answers
abbrev pub given : ℕ → HandleAnswer → Moment
given s answer = of_owner 0 (moment (Io 1 answer) (Worker 1) (Some s) (Answered answer) 2)

-- the turn of that job ends
abbrev pub ends : ℕ → Act → Moment
ends s act = of_owner 0 (moment (End 1) (Worker 1) (Some s) act 2)

-- the law of owner h
abbrev pub LawOfOwner : ℕ → List Moment → Moment → Type 0
LawOfOwner h past now = OwnerLaw (cut h (events past)) now.event

-- (of owner 0)
abbrev pub FirstOwnerLaw : List Moment → Moment → Type 0
FirstOwnerLaw past now = LawOfOwner 0 past now

-- the law of owner 0, at each event of its cut
abbrev pub KeepsFirstOwner : List Moment → Type 0
KeepsFirstOwner past = OwnerLaws (cut 0 (events past))

-- the law of ends of owner h
abbrev pub EndsOfOwner : ℕ → List Moment → Moment → Type 0
EndsOfOwner h past now = EndsTruly (cut h (events past)) now.event.act

-- (of owner 0)
abbrev pub FirstOwnerEnds : List Moment → Moment → Type 0
FirstOwnerEnds past now = EndsOfOwner 0 past now

-- what passed in the last session of owner h
abbrev pub OwnerPasses : ℕ → List Moment → Type 0
OwnerPasses h past = PassesOn (cut h (events past))

-- (of owner 0)
abbrev pub FirstOwnerPasses : List Moment → Type 0
FirstOwnerPasses past = OwnerPasses 0 past

-- that it doesn't wait in vain for job 1
abbrev pub FirstOwnerIsNotLost : List Moment → Type 0
FirstOwnerIsNotLost past = IsNotLost past 1 (cut 0 (events past))

-- and that this job has reason to park
abbrev pub FirstOwnersJobParksRightly : List Moment → Type 0
FirstOwnersJobParksRightly past = ParksRightly past 1 (cut 0 (events past))

-- ---- an owner that reads

-- made 0
abbrev pub one_made : List Moment
one_made = [] ▸ moment (New 4 0) (Owner 0) None (Made 0 4) 1

-- made 0 / made 1 / asked / accepted 1 +1: the job is of client 7, for which its owner was made
abbrev pub begun_for_client : List Moment
begun_for_client = []
    ▸ moment (New 4 7) (Owner 0) None (Made 0 4) 1
    ▸ moment (New 4 8) (Owner 1) None (Made 1 4) 1
    ▸ asks (Read 2) 1
    ▸ starting 1 (polls (Accepted 1) 1)

-- made 0 / asked
abbrev pub one_asked : List Moment
one_asked = one_made ▸ asks (Read 2) 1

-- made 0 / asked / accepted 1 +1
abbrev pub one_begun : List Moment
one_begun = one_asked ▸ starting 1 (polls (Accepted 1) 1)

-- made 0 / asked / accepted 1 +1 / waits
abbrev pub reader_waits : List Moment
reader_waits = one_begun ▸ polls Waits 2

-- made 0 / asked / accepted 1 +1 / waits / arrived 1 / took 1
abbrev pub reader_taken : List Moment
reader_taken = reader_waits ▸ moment Arrive (Worker 1) None (Arrived 1) 2 ▸ takes 1 (Took 1)

-- .. / took 1 / room 4
abbrev pub room_found : List Moment
room_found = reader_taken ▸ works 1 (RoomFree 4)

-- .. / room 4 / answered 61626364
abbrev pub four_given : List Moment
four_given = room_found ▸ given 1 (Gave (97 ∷ 98 ∷ 99 ∷ 100 ∷ []))

-- .. / answered 61626364 / put 4 wake owner / delivered owner
abbrev pub four_put : List Moment
four_put = four_given ▸ works 1 (Put 4 Taken) ▸ works 1 HolderWoken

-- .. / put 4 wake owner / delivered owner / parked / ended 1 parked
abbrev pub reader_parked : List Moment
reader_parked = four_put ▸ works 1 JobParked ▸ ends 1 (Ended 1 Parked)

-- .. / ended 1 parked / asked / got 6162 wake 1
abbrev pub two_got : List Moment
two_got = reader_parked ▸ asks (Read 2) 2 ▸ polls (Got (97 ∷ 98 ∷ []) (Some 1)) 2

-- .. / got 6162 wake 1 / delivered 1 entered
abbrev pub two_told : List Moment
two_told = two_got ▸ polls (JobWoken 1 Entered) 2

-- .. / delivered 1 entered / replied ok 2 / asked / got 6364 / replied ok 2
abbrev pub four_read : List Moment
four_read = two_told
    ▸ polls (Replied (Count 2)) 2
    ▸ asks (Read 2) 2
    ▸ polls (Got (99 ∷ 100 ∷ []) None) 2
    ▸ polls (Replied (Count 2)) 2

-- .. / replied ok 2 / took 1 / room 4 / answered -
abbrev pub end_given : List Moment
end_given = four_read ▸ takes 1 (Took 1) ▸ works 1 (RoomFree 4) ▸ given 1 (Gave [])

-- .. / answered - / closed / finished / ended 1 done
abbrev pub reader_done : List Moment
reader_done =
    end_given ▸ works 1 (JobClosed Absent) ▸ works 1 (Finished Absent) ▸ ends 1 (Ended 1 Done)

-- .. / ended 1 done / asked / got end
abbrev pub end_seen : List Moment
end_seen = reader_done ▸ asks (Read 2) 2 ▸ polls GotEnd 2

-- .. / got end / back
abbrev pub reader_back : List Moment
reader_back = end_seen ▸ polls Back 2

-- .. / back / replied ok 0
abbrev pub end_read : List Moment
end_read = reader_back ▸ polls (Replied (Count 0)) 2

-- ---- a session that is stopped

-- .. / ended 1 parked / asked (for the handle)
abbrev pub handle_asked : List Moment
handle_asked = reader_parked ▸ asks GetMut 2

-- .. / asked / closed wake 1
abbrev pub stop_begun : List Moment
stop_begun = handle_asked ▸ polls (OwnerClosed (Some 1)) 2

-- .. / closed wake 1 / delivered 1 entered / waits / took 1
abbrev pub stop_waits : List Moment
stop_waits = stop_begun ▸ polls (JobWoken 1 Entered) 2 ▸ polls Waits 2 ▸ takes 1 (Took 1)

-- .. / took 1 / shut / closed
abbrev pub stop_closed : List Moment
stop_closed = stop_waits ▸ works 1 RoomShut ▸ works 1 (JobClosed Absent)

-- .. / closed / finished wake owner / delivered owner / ended 1 done
abbrev pub stop_finished : List Moment
stop_finished = stop_closed ▸ works 1 (Finished Taken) ▸ works 1 HolderWoken ▸ ends 1 (Ended 1 Done)

-- .. / ended 1 done / asked (for the handle) / back
abbrev pub stop_back : List Moment
stop_back = stop_finished ▸ asks GetMut 2 ▸ polls Back 2

-- .. / replied ok 2 / asked (for the handle) / closed / took 1 / shut / closed / finished / ended 1
-- done / asked / back
abbrev pub all_stopped_back : List Moment
all_stopped_back = four_read
    ▸ asks GetMut 2
    ▸ polls (OwnerClosed None) 2
    ▸ polls Waits 2
    ▸ takes 1 (Took 1)
    ▸ works 1 RoomShut
    ▸ works 1 (JobClosed Absent)
    ▸ works 1 (Finished Taken)
    ▸ works 1 HolderWoken
    ▸ ends 1 (Ended 1 Done)
    ▸ asks (Read 2) 2
    ▸ polls Back 2

-- ---- a reader that fails

-- .. / room 4 / answered fault 8
abbrev pub failed : List Moment
failed = room_found ▸ given 1 (Failed 8)

-- .. / answered fault 8 / closed wake owner / delivered owner / finished / ended 1 done
abbrev pub failed_done : List Moment
failed_done = failed ▸ works 1 (JobClosed Taken) ▸ works 1 HolderWoken ▸ works 1 (Finished Absent) ▸
    ends 1 (Ended 1 Done)

-- .. / ended 1 done / asked / got end / back
abbrev pub failed_back : List Moment
failed_back = failed_done ▸ asks (Read 2) 2 ▸ polls GotEnd 2 ▸ polls Back 2

-- ---- wakes that are forgotten, which the seats refuse

-- .. / answered 61626364 / put 4 / parked: the waiting owner isn't told
abbrev pub untold_parked : List Moment
untold_parked = four_given ▸ works 1 (Put 4 Absent) ▸ works 1 JobParked

-- .. / answered fault 8 / closed / finished: nor here
abbrev pub untold_finished : List Moment
untold_finished = failed ▸ works 1 (JobClosed Absent) ▸ works 1 (Finished Absent)

-- .. / ended 1 parked / asked / got 61626364 / replied ok 4 / asked: the parked job isn't told
abbrev pub untold_job : List Moment
untold_job = reader_parked
    ▸ asks (Read 4) 2
    ▸ polls (Got (97 ∷ 98 ∷ 99 ∷ 100 ∷ []) None) 2
    ▸ polls (Replied (Count 4)) 2
    ▸ asks (Read 4) 2

-- .. / delivered 1 entered / replied ok 2 / asked / waits / took 1 / parked: a wake was delivered,
-- but before the wait
abbrev pub told_before : List Moment
told_before = two_told
    ▸ polls (Replied (Count 2)) 2
    ▸ asks (Read 2) 2
    ▸ polls Waits 2
    ▸ takes 1 (Took 1)
    ▸ works 1 JobParked

-- ---- an owner that is dropped

-- .. / ended 1 parked / dropped
abbrev pub reader_dropped : List Moment
reader_dropped = reader_parked ▸ drops 2
