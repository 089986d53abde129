-- What each step does: where it leads, how it changes the pool's numbers and the queue, and whether
-- the post is manned then.
use Rattle.std.specs.Prelude.{◌≡◌, ℕ, ◌+◌, ◌<◌, ◌≤◌, max, Bool, true, false, if◌then◌else◌, List}
use Rattle.std.specs.Prelude.{◌++◌, map, replicate, set, Option, Some, None, slice_get}
use Rattle.blocking_pool.specs.Jobs.{one_if}
use Rattle.blocking_pool.specs.Counts.{after_ring, after_limit, after_arrival}
use Rattle.blocking_pool.specs.Growth.{greatest}
use Rattle.blocking_pool.specs.declared.pool.bell.BellKind.{BellKind}
use Rattle.blocking_pool.specs.declared.pool.bell.BellKind.TheVariants.{Silent, One, All}
use Rattle.blocking_schedule.specs.declared.counts.PoolCounts.{PoolCounts}
use Rattle.blocking_schedule.specs.declared.place.Place.{Place}
use Rattle.blocking_schedule.specs.declared.place.Place.TheVariants as place
use Rattle.blocking_schedule.specs.declared.place.Next.{Next}
use Rattle.blocking_schedule.specs.declared.place.Next.TheVariants.{Return, Turn, Stop}
use Rattle.blocking_schedule.specs.declared.place.Origin.{Origin}
use Rattle.blocking_schedule.specs.declared.place.Waking.{Waking}
use Rattle.blocking_schedule.specs.declared.place.Waking.TheVariants as waking
use Rattle.blocking_schedule.specs.declared.schedule.Schedule.{Schedule}
use Rattle.blocking_schedule.specs.declared.step.Step.{Step}
use Rattle.blocking_schedule.specs.declared.step.Step.TheVariants as step
use Rattle.blocking_schedule.specs.declared.step.Lock.TheVariants.{Pool}
use Rattle.blocking_schedule.specs.Locks.{lock_wanted}
use Rattle.blocking_schedule.specs.Places.{bell_of_stop, is_late, is_rung, late_of, next_with}
use Rattle.blocking_schedule.specs.Places.{place_of, sleepers, waking_of, was_swept, woken_from}
use Rattle.blocking_schedule.specs.PoolSteps.{Changes, after_decision, after_end, after_refusal}
use Rattle.blocking_schedule.specs.PoolSteps.{after_start, after_taking, bell_of_limit}
use Rattle.blocking_schedule.specs.Queues.{QueueGrows, QueueStays, QueueWithout, WereSwept}
use Rattle.blocking_schedule.specs.Queues.{front_of, has_job, must_stop}
use Rattle.blocking_schedule.specs.Readings.{ClaimsOne, SleepsBesideNoJob, StopsByRule}
use Rattle.blocking_schedule.specs.Sequences.{InTurn}
use Rattle.blocking_schedule.specs.Ways.{IsAt, KeepsPool, KeepsPost, Leads, LeadsBoth, LeadsIfFree}
use Rattle.blocking_schedule.specs.Ways.{StandsIfLocked}

-- ---- how a machine begins

-- so many callers and so many threads that may be started, and a pool with this limit by its
-- setting: no worker yet, and no job
pub record Begins (callers spares limit : ℕ) (s : Schedule) : Type 0 where
  pub threads : s.threads.items ≡ replicate callers place.Outside ++ replicate spares place.Spare
  pub pool : s.pool ≡ record {
    workers = 0;
    idle = 0;
    arriving = 0;
    limit = limit;
    is_limit_set = false;
    rung = 0;
    swept = 0;
  }
  pub free : s.is_locked ≡ false
  pub unmanned : s.is_manned ≡ false

-- ---- callers

-- one more job is queued, by itself, and one is to be rung
pub record Adds (who : ℕ) (old new : Schedule) : Type 0 where
  pub leads : old.pool.rung < greatest
      → LeadsIfFree who place.Outside (place.Called One Return) old new
  pub pool : Changes (after_ring One) (QueueGrows 1 0) who old new
  pub post : KeepsPost old new
  pub waits : StandsIfLocked old new

-- the queue has room for so many more
abbrev pub HasRoom : ℕ → PoolCounts → Type 0
HasRoom count pool = pool.rung + pool.swept + count ≤ greatest

-- so many jobs are put back, and one is to be rung; none are where none are found
pub record Sweeps (who count : ℕ) (old new : Schedule) : Type 0 where
  pub leads : 0 < count → HasRoom count old.pool
      → LeadsIfFree who place.Outside (place.Called One Return) old new
  pub pool : Changes (after_ring One) (WereSwept count) who old new
  pub post : KeepsPost old new
  pub waits : StandsIfLocked old new

-- the limit is this one, and all are to be rung where a greater one stood
pub record SetsLimit (who limit : ℕ) (old new : Schedule) : Type 0 where
  pub leads : 0 < limit
      → LeadsIfFree who place.Outside (place.Called (bell_of_limit limit old.pool) Return) old new
  pub pool : Changes (after_limit limit) QueueStays who old new
  pub post : KeepsPost old new
  pub waits : StandsIfLocked old new

-- nobody is to be rung
pub record PassesBy (who : ℕ) (old new : Schedule) : Type 0 where
  pub leads : LeadsIfFree who place.Outside (place.Called Silent Return) old new
  pub pool : KeepsPool old new
  pub post : KeepsPost old new
  pub waits : StandsIfLocked old new

-- ---- turns

-- a worker fewer is to arrive, and this one takes next
pub record Arrives (who : ℕ) (old new : Schedule) : Type 0 where
  pub leads : LeadsIfFree who place.Started (place.Passing false Silent) old new
  pub pool : Changes after_arrival QueueStays who old new
  pub post : KeepsPost old new
  pub waits : StandsIfLocked old new

-- One more is idle, and takes next. Its job is queued again where a wake met it, and one is to be
-- rung.
pub record Ends (who : ℕ) (was_woken : Bool) (old new : Schedule) : Type 0 where
  pub leads : (origin : Origin) → old.pool.rung < greatest → LeadsIfFree who (place.Turn origin)
      (place.Passing (was_swept origin) (if was_woken then One else Silent)) old new
  pub pool : Changes (after_end was_woken) (QueueGrows (one_if was_woken) 0) who old new
  pub post : KeepsPost old new
  pub waits : StandsIfLocked old new

-- the turn goes on after its section
pub record GoesOn (who : ℕ) (old new : Schedule) : Type 0 where
  pub leads : (origin : Origin)
      → LeadsIfFree who (place.Turn origin) (place.Called Silent (Turn origin)) old new
  pub pool : KeepsPool old new
  pub post : KeepsPost old new
  pub waits : StandsIfLocked old new

-- ---- the post of the worker that looks

-- it mans the post, or goes on where it is manned
pub record Looks (who : ℕ) (old new : Schedule) : Type 0 where
  pub leads : old.is_manned ≡ false → Leads who place.Free (place.Looking false) old new
  pub passes : old.is_manned ≡ true → Leads who place.Free (place.Looked false) old new
  pub pool : KeepsPool old new
  pub post : IsAt who place.Free old → new.is_manned ≡ true

-- it leaves the post
pub record EndsLook (who : ℕ) (old new : Schedule) : Type 0 where
  pub leads : (claimed : Bool) → Leads who (place.Looking claimed) (place.Looked claimed) old new
  pub pool : KeepsPool old new
  pub post : (claimed : Bool) → IsAt who (place.Looking claimed) old → new.is_manned ≡ false

-- a ring of one that meets a manned post claims the worker that looks, and no other thread; nobody
-- is to be rung any more
pub record ClaimsLooker (who looker : ℕ) (old new : Schedule) : Type 0 where
  pub leads : (next : Next) → LeadsBoth looker (place.Looking false) (place.Looking true) who
      (place.Called One next) (place.Claimed Silent next) old new
  pub leaves : (next : Next) → IsAt looker (place.Looking false) old
      → IsAt who (place.Called One next) old → new.is_manned ≡ false
  pub others : (next : Next) → (IsAt looker (place.Looking false) old → ⊥)
      → IsAt who (place.Called One next) old → new ≡ old

-- Where the post is manned a ring of one claims that worker; else there is no claim.
pub record Claims (who looker : ℕ) (old new : Schedule) : Type 0 where
  pub unmanned : (bell : BellKind) (next : Next) → old.is_manned ≡ false
      → Leads who (place.Called bell next) (place.Claimed bell next) old new
  pub silent : (next : Next)
      → Leads who (place.Called Silent next) (place.Claimed Silent next) old new
  pub all : (next : Next) → Leads who (place.Called All next) (place.Claimed All next) old new
  pub claims : old.is_manned ≡ true → ClaimsLooker who looker old new
  pub one : new.is_manned ≡ false → old.is_manned ≡ true
      → ClaimsOne old.threads.items new.threads.items
  pub pool : KeepsPool old new
  pub post : old.is_manned ≡ false → new.is_manned ≡ false

-- whoever looks is told whether a job is queued
pub record Tells (who : ℕ) (old new : Schedule) : Type 0 where
  pub leads : (bell : BellKind) (next : Next)
      → Leads who (place.Claimed bell next) (place.Told bell next) old new
  pub tells : (bell : BellKind) (next : Next) → IsAt who (place.Claimed bell next) old
      → new.is_queued ≡ has_job old.pool
  pub pool : KeepsPool old new
  pub post : KeepsPost old new

-- ---- waiting

-- it sleeps where no job is queued and it need not stop, and else it has the lock
pub record Waits (who : ℕ) (old new : Schedule) : Type 0 where
  pub leads : (claimed : Bool) → has_job old.pool ≡ false → old.pool.workers ≤ old.pool.limit
      → LeadsIfFree who (place.Looked claimed) place.Sleeping old new
  pub queued : (claimed : Bool) → has_job old.pool ≡ true
      → LeadsIfFree who (place.Looked claimed) (place.Waited (waking_of claimed)) old new
  pub over : (claimed : Bool) → old.pool.limit < old.pool.workers
      → LeadsIfFree who (place.Looked claimed) (place.Waited (waking_of claimed)) old new
  pub sleeps : SleepsBesideNoJob old.threads.items old.pool new.threads.items
  pub pool : KeepsPool old new
  pub post : KeepsPost old new
  pub waits : StandsIfLocked old new

-- a worker that sleeps wakes with no ring
pub record WakesUp (who : ℕ) (why : Waking) (old new : Schedule) : Type 0 where
  pub leads : Leads who place.Sleeping (place.Woken why) old new
  pub pool : KeepsPool old new
  pub post : KeepsPost old new

-- one that was woken is late
pub record IsLate (who : ℕ) (old new : Schedule) : Type 0 where
  pub leads : (why : Waking) → Leads who (place.Woken why) (place.Woken (late_of why)) old new
  pub pool : KeepsPool old new
  pub post : KeepsPost old new

-- its time is up, while it sleeps or once it was woken
pub record TimesOut (who : ℕ) (old new : Schedule) : Type 0 where
  pub sleeping : Leads who place.Sleeping (place.Woken waking.TimedOut) old new
  pub woken : (why : Waking) → Leads who (place.Woken why) (place.Woken (late_of why)) old new
  pub pool : KeepsPool old new
  pub post : KeepsPost old new

-- it has the lock again
pub record Returns (who : ℕ) (old new : Schedule) : Type 0 where
  pub leads : (why : Waking) → LeadsIfFree who (place.Woken why) (place.Waited why) old new
  pub pool : KeepsPool old new
  pub post : KeepsPost old new
  pub waits : StandsIfLocked old new

-- one whose time was up puts so many jobs back, and one is to be rung; another puts none back
pub record SweepsLate (who count : ℕ) (old new : Schedule) : Type 0 where
  pub leads : (why : Waking) → is_late why ≡ true → 0 < count → HasRoom count old.pool
      → Leads who (place.Waited why) (place.HasSwept (is_rung why)) old new
  pub early : (why : Waking) → is_late why ≡ false → IsAt who (place.Waited why) old → new ≡ old
  pub pool : Changes (after_ring One) (WereSwept count) who old new
  pub post : KeepsPost old new

-- A worker that waited stays, or stops where it must by the pool's rule: whether its time was up,
-- and whom it rings if it stays or stops.
pub record Decides (who : ℕ) (late : Bool) (from staying stopping : Place) (old new : Schedule) :
    Type 0 where
  pub stays : must_stop late old.pool ≡ false → Leads who from staying old new
  pub stops : must_stop late old.pool ≡ true → Leads who from stopping old new
  pub rule : new.pool.workers < old.pool.workers
      → StopsByRule late old.pool who new.threads.items new.pool
  pub pool : Changes (after_decision (must_stop late old.pool) (has_job old.pool)) QueueStays who
      old new
  pub post : KeepsPost old new

abbrev pub DecidesUnswept : ℕ → Waking → Schedule → Schedule → Type 0
DecidesUnswept who why old new =
    Decides who (is_late why) (place.Waited why) (place.Passing (is_rung why) Silent)
    (place.Called (bell_of_stop (has_job old.pool)) Stop) old new

-- one that has swept was late, and rings one in any case
abbrev pub DecidesSwept : ℕ → Bool → Schedule → Schedule → Type 0
DecidesSwept who chosen old new = Decides who true (place.HasSwept chosen)
    (place.Passing chosen One) (place.Called One Stop) old new

pub record StaysOrStops (who : ℕ) (old new : Schedule) : Type 0 where
  pub unswept : (why : Waking) → IsAt who (place.Waited why) old → DecidesUnswept who why old new
  pub swept : (chosen : Bool) → IsAt who (place.HasSwept chosen) old
      → DecidesSwept who chosen old new

-- it takes the first job, or is free where none is queued
pub record TakesJob (who : ℕ) (wanted : Origin) (old new : Schedule) : Type 0 where
  pub leads : (chosen : Bool) (bell : BellKind) → Leads who (place.Passing chosen bell)
      (place.Called bell (next_with (front_of wanted old.pool))) old new
  pub pool : Changes (after_taking (front_of wanted old.pool))
      (QueueWithout (front_of wanted old.pool)) who old new
  pub post : KeepsPost old new

-- ---- growth

-- a spare thread is started below the limit, and all are to be rung
pub record Starts (who spare : ℕ) (old new : Schedule) : Type 0 where
  pub leads : (bell : BellKind) (next : Next) → old.pool.workers < old.pool.limit → LeadsBoth spare
      place.Spare place.Started who (place.Called bell next) (place.Called All next) old new
  pub full : old.pool.limit ≤ old.pool.workers → new ≡ old
  pub others : (IsAt spare place.Spare old → ⊥) → new ≡ old
  pub pool : Changes after_start QueueStays who old new
  pub post : KeepsPost old new

-- the limit is lowered to the workers
pub record Refuses (who : ℕ) (old new : Schedule) : Type 0 where
  pub lowers : (bell : BellKind) (next : Next) → old.pool.workers < old.pool.limit
      → IsAt who (place.Called bell next) old → new.pool.limit ≡ max 1 old.pool.workers
  pub stands : (bell : BellKind) (next : Next) → old.pool.workers < old.pool.limit
      → IsAt who (place.Called bell next) old → new.pool.is_limit_set ≡ true
  pub full : old.pool.limit ≤ old.pool.workers → new ≡ old
  pub stays : new.threads.items ≡ old.threads.items
  pub pool : Changes after_refusal QueueStays who old new
  pub post : KeepsPost old new

-- ---- how a section ends

-- the lock is let go
pub record LetsGo (who : ℕ) (old new : Schedule) : Type 0 where
  pub leads : (bell : BellKind) (next : Next)
      → Leads who (place.Told bell next) (place.Ringing bell next) old new
  pub pool : KeepsPool old new
  pub post : KeepsPost old new

-- one of those that sleep is woken, the one that is named; the ring is lost where nobody sleeps
pub record RingsOne (who woken : ℕ) (old new : Schedule) : Type 0 where
  pub leads : (next : Next) → LeadsBoth woken place.Sleeping (place.Woken waking.Rung) who
      (place.Ringing One next) (place_of next) old new
  pub lost : (next : Next) → sleepers old.threads.items ≡ 0
      → Leads who (place.Ringing One next) (place_of next) old new
  pub others : (next : Next) → 0 < sleepers old.threads.items → (IsAt woken place.Sleeping old → ⊥)
      → IsAt who (place.Ringing One next) old → new ≡ old

-- all that sleep are woken
abbrev pub RingsAll : ℕ → Schedule → Schedule → Type 0
RingsAll who old new = (next : Next) → IsAt who (place.Ringing All next) old
    → new.threads.items ≡ set (map woken_from old.threads.items) who (place_of next)

pub record Rings (who woken : ℕ) (old new : Schedule) : Type 0 where
  pub silent : (next : Next) → Leads who (place.Ringing Silent next) (place_of next) old new
  pub one : RingsOne who woken old new
  pub all : RingsAll who old new
  pub pool : KeepsPool old new
  pub post : KeepsPost old new

-- ---- any step

-- what this step does where its thread is at its place
abbrev pub Takes : Schedule → Step → Schedule → Type 0
Takes old (step.Add who) new = Adds who old new
Takes old (step.Wake who) new = Adds who old new
Takes old (step.Sweep who count) new = Sweeps who count old new
Takes old (step.SetLimit who limit) new = SetsLimit who limit old new
Takes old (step.Nothing who) new = PassesBy who old new
Takes old (step.Arrive who) new = Arrives who old new
Takes old (step.End who was_woken) new = Ends who was_woken old new
Takes old (step.GoOn who) new = GoesOn who old new
Takes old (step.Look who) new = Looks who old new
Takes old (step.EndLook who) new = EndsLook who old new
Takes old (step.Wait who) new = Waits who old new
Takes old (step.TimeOut who) new = TimesOut who old new
Takes old (step.WakeUp who) new = WakesUp who waking.ByItself old new
Takes old (step.Return who) new = Returns who old new
Takes old (step.SweepLate who count) new = SweepsLate who count old new
Takes old (step.StayOrStop who) new = StaysOrStops who old new
Takes old (step.Take who wanted) new = TakesJob who wanted old new
Takes old (step.Start who spare) new = Starts who spare old new
Takes old (step.Refuse who) new = Refuses who old new
Takes old (step.Claim who looker) new = Claims who looker old new
Takes old (step.Tell who) new = Tells who old new
Takes old (step.LetGo who) new = LetsGo who old new
Takes old (step.Ring who woken) new = Rings who woken old new

-- the thread that takes it
abbrev pub thread_of : Step → ℕ
thread_of (step.Add who) = who
thread_of (step.Wake who) = who
thread_of (step.Sweep who count) = who
thread_of (step.SetLimit who limit) = who
thread_of (step.Nothing who) = who
thread_of (step.Arrive who) = who
thread_of (step.End who was_woken) = who
thread_of (step.GoOn who) = who
thread_of (step.Look who) = who
thread_of (step.EndLook who) = who
thread_of (step.Wait who) = who
thread_of (step.TimeOut who) = who
thread_of (step.WakeUp who) = who
thread_of (step.Return who) = who
thread_of (step.SweepLate who count) = who
thread_of (step.StayOrStop who) = who
thread_of (step.Take who wanted) = who
thread_of (step.Start who spare) = who
thread_of (step.Refuse who) = who
thread_of (step.Claim who looker) = who
thread_of (step.Tell who) = who
thread_of (step.LetGo who) = who
thread_of (step.Ring who woken) = who

-- whether a thread takes it at this place
abbrev pub is_place_of : Step → Place → Bool
is_place_of (step.Add who) place.Outside = true
is_place_of (step.Wake who) place.Outside = true
is_place_of (step.Sweep who count) place.Outside = true
is_place_of (step.SetLimit who limit) place.Outside = true
is_place_of (step.Nothing who) place.Outside = true
is_place_of (step.Arrive who) place.Started = true
is_place_of (step.End who was_woken) (place.Turn origin) = true
is_place_of (step.GoOn who) (place.Turn origin) = true
is_place_of (step.Look who) place.Free = true
is_place_of (step.EndLook who) (place.Looking claimed) = true
is_place_of (step.Wait who) (place.Looked claimed) = true
is_place_of (step.TimeOut who) place.Sleeping = true
is_place_of (step.TimeOut who) (place.Woken why) = true
is_place_of (step.WakeUp who) place.Sleeping = true
is_place_of (step.Return who) (place.Woken why) = true
is_place_of (step.SweepLate who count) (place.Waited why) = true
is_place_of (step.StayOrStop who) (place.Waited why) = true
is_place_of (step.StayOrStop who) (place.HasSwept chosen) = true
is_place_of (step.Take who wanted) (place.Passing chosen bell) = true
is_place_of (step.Start who spare) (place.Called bell next) = true
is_place_of (step.Refuse who) (place.Called bell next) = true
is_place_of (step.Claim who looker) (place.Called bell next) = true
is_place_of (step.Tell who) (place.Claimed bell next) = true
is_place_of (step.LetGo who) (place.Told bell next) = true
is_place_of (step.Ring who woken) (place.Ringing bell next) = true
is_place_of taken at = false

-- whether its thread is at such a place
abbrev pub is_there : Step → Option Place → Bool
is_there taken None = false
is_there taken (Some at) = is_place_of taken at

-- The machine takes the step where its thread is at its place, and else nothing is changed; nor is
-- it where the step wants the pool's lock while a thread has it.
pub record Steps (old : Schedule) (taken : Step) (new : Schedule) : Type 0 where
  pub takes : is_there taken (slice_get old.threads.items (thread_of taken)) ≡ true
      → Takes old taken new
  pub stands : is_there taken (slice_get old.threads.items (thread_of taken)) ≡ false → new ≡ old
  pub waits : lock_wanted taken ≡ Some Pool → old.is_locked ≡ true → new ≡ old

-- these steps, one after the other
abbrev pub Runs : List Step → Schedule → Schedule → Type 0
Runs steps old new = InTurn Schedule Step Steps steps old new
