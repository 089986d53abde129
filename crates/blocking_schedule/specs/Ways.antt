-- Where a step leads a thread, so that a machine which stands still is none, nor one that moves
-- another thread.
use Rattle.std.specs.Prelude.{◌≡◌, ℕ, true, false, Some, set, slice_get}
use Rattle.blocking_schedule.specs.declared.place.Place.{Place}
use Rattle.blocking_schedule.specs.declared.schedule.Schedule.{Schedule}

-- whether a thread is at this place
abbrev pub IsAt : ℕ → Place → Schedule → Type 0
IsAt who place s = slice_get s.threads.items who ≡ Some place

-- a thread that is at one place is at another then, and each other thread is where it was
abbrev pub Leads : ℕ → Place → Place → Schedule → Schedule → Type 0
Leads who from to old new = IsAt who from old → new.threads.items ≡ set old.threads.items who to

-- the same, where the lock is free
abbrev pub LeadsIfFree : ℕ → Place → Place → Schedule → Schedule → Type 0
LeadsIfFree who from to old new = old.is_locked ≡ false → Leads who from to old new

-- and while a thread has it nothing is changed
abbrev pub StandsIfLocked : Schedule → Schedule → Type 0
StandsIfLocked old new = old.is_locked ≡ true → new ≡ old

-- two threads that are at two places are at two others then
abbrev pub LeadsBoth : ℕ → Place → Place → ℕ → Place → Place → Schedule → Schedule → Type 0
LeadsBoth other there goes who from to old new =
    IsAt other there old → IsAt who from old
    → new.threads.items ≡ set (set old.threads.items other goes) who to

-- the pool is as it was, and so is the post of the worker that looks
abbrev pub KeepsPool : Schedule → Schedule → Type 0
KeepsPool old new = new.pool ≡ old.pool

abbrev pub KeepsPost : Schedule → Schedule → Type 0
KeepsPost old new = new.is_manned ≡ old.is_manned
