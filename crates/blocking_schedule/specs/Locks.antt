-- Which locks there are, who has one, and who waits for one.
use Rattle.std.specs.Prelude.{Option, Some, None}
use Rattle.blocking_schedule.specs.declared.place.Place.{Place}
use Rattle.blocking_schedule.specs.declared.place.Place.TheVariants.{Waited, HasSwept, Passing}
use Rattle.blocking_schedule.specs.declared.place.Place.TheVariants.{Called, Claimed, Told}
use Rattle.blocking_schedule.specs.declared.step.Lock.{Lock}
use Rattle.blocking_schedule.specs.declared.step.Lock.TheVariants.{Pool, Desk}
use Rattle.blocking_schedule.specs.declared.step.Step.{Step}
use Rattle.blocking_schedule.specs.declared.step.Step.TheVariants.{Add, Wake, Sweep, SetLimit}
use Rattle.blocking_schedule.specs.declared.step.Step.TheVariants.{Nothing, Arrive, End, GoOn, Wait}
use Rattle.blocking_schedule.specs.declared.step.Step.TheVariants.{Return, Start, Refuse}

-- the lock that a thread has there
abbrev pub lock_of : Place → Option Lock
lock_of (Waited why) = Some Pool
lock_of (HasSwept chosen) = Some Pool
lock_of (Passing chosen bell) = Some Pool
lock_of (Called bell next) = Some Pool
lock_of (Claimed bell next) = Some Pool
lock_of (Told bell next) = Some Pool
lock_of _ = None

-- the lock that a step takes, for which its thread may have to wait
abbrev pub lock_wanted : Step → Option Lock
lock_wanted (Add who) = Some Pool
lock_wanted (Wake who) = Some Pool
lock_wanted (Sweep who count) = Some Pool
lock_wanted (SetLimit who limit) = Some Pool
lock_wanted (Nothing who) = Some Pool
lock_wanted (Arrive who) = Some Pool
lock_wanted (End who was_woken) = Some Pool
lock_wanted (GoOn who) = Some Pool
lock_wanted (Wait who) = Some Pool
lock_wanted (Return who) = Some Pool
lock_wanted (Start who spare) = Some Desk
lock_wanted (Refuse who) = Some Desk
lock_wanted _ = None

-- who waits for a lock has none, or one that comes before it: the pool's comes before the desk's
abbrev pub IsInOrder : Option Lock → Option Lock → Type 0
IsInOrder held None = Unit {0}
IsInOrder None (Some wanted) = Unit {0}
IsInOrder (Some Pool) (Some Desk) = Unit {0}
IsInOrder (Some Pool) (Some Pool) = ⊥
IsInOrder (Some Desk) (Some wanted) = ⊥
