-- What changes where one thread goes from one place to another.
use Rattle.std.proofs.Common.{false, ◌≡◌, ℕ, ◌+◌, ◌<◌, ◌≤◌, ◌≢◌, List, [], ◌∷◌, ◌++◌, map, take}
use Rattle.std.proofs.Common.{length, get_or, set, Some, slice_get, refl, sym, subst, ap, ◌∙◌}
use Rattle.std.proofs.Common.{arith, sum_by, length-set}
use Rattle.std.proofs.lemmas.List.Sums.{sum_by_push, sum_by-set, sum_by-cons, get_or-le-sum_by}
use Rattle.std.proofs.lemmas.List.{get_or-set_same, get_or-set_other, get_or-map, length-map}
use Rattle.std.proofs.Math.Seq.{take-append_seam}
use Rattle.std.proofs.lemmas.Option.{slice_get-get_or, slice_get_within, get_or_from_slice_get}
use Rattle.blocking_pool.specs.declared.pool.bell.BellKind.{BellKind}
use Rattle.blocking_schedule.specs.declared.place.Next.{Next}
use Rattle.blocking_schedule.specs.Kept.{IsKept}
use Rattle.blocking_schedule.specs.declared.place.Waking.TheVariants as waking
use Rattle.blocking_schedule.specs.declared.place.Place.{Place}
use Rattle.blocking_schedule.specs.declared.place.Place.TheVariants.{Outside, Spare, Started, Turn}
use Rattle.blocking_schedule.specs.declared.place.Place.TheVariants.{Free, Looking, Looked}
use Rattle.blocking_schedule.specs.declared.place.Place.TheVariants.{Sleeping, Woken, Waited}
use Rattle.blocking_schedule.specs.declared.place.Place.TheVariants.{HasSwept, Passing, Called}
use Rattle.blocking_schedule.specs.declared.place.Place.TheVariants.{Claimed, Told, Ringing}
use Rattle.blocking_schedule.specs.declared.place.Place.TheVariants.{Stopped}
use Rattle.blocking_schedule.specs.Places.{woken_from, sleep_at, ring_at, all_at, drop_at, lock_at}
use Rattle.blocking_schedule.specs.Places.{untold_at, look_at, turn_at, pass_at, arrival_at}
use Rattle.blocking_schedule.specs.Places.{sleepers, rings, alls, drops, holders, untold, lookers}
use Rattle.blocking_schedule.specs.Places.{turns, passes, arrivals}

-- a sum over the threads, where one of them has gone from one place to another
pub sum_moved : (f : Place → ℕ) (threads : List Place) (who : ℕ) (from to : Place)
    → slice_get threads who ≡ Some from
    → sum_by f (set threads who to) + f from ≡ sum_by f threads + f to
sum_moved f threads who from to at =
    let read : get_or threads who from ≡ from = get_or_from_slice_get threads who from from at in
    rw read at (sum_by-set f threads who to from (slice_get_within threads who from at))

-- what a thread counts for is in the sum
sum_has : (f : Place → ℕ) (threads : List Place) (who : ℕ) (at : Place)
    → slice_get threads who ≡ Some at → f at ≤ sum_by f threads
sum_has f threads who at is =
    let read : get_or threads who at ≡ at = get_or_from_slice_get threads who at at is in
    rw read at (get_or-le-sum_by f threads who at (slice_get_within threads who at is))

-- all of them
pub record Moved (old new : List Place) (from to : Place) : Type 0 where
  pub sleepers : sleepers new + sleep_at from ≡ sleepers old + sleep_at to
  pub rings : rings new + ring_at from ≡ rings old + ring_at to
  pub alls : alls new + all_at from ≡ alls old + all_at to
  pub drops : drops new + drop_at from ≡ drops old + drop_at to
  pub holders : holders new + lock_at from ≡ holders old + lock_at to
  pub untold : untold new + untold_at from ≡ untold old + untold_at to
  pub lookers : lookers new + look_at from ≡ lookers old + look_at to
  pub turns : turns new + turn_at from ≡ turns old + turn_at to
  pub passes : passes new + pass_at from ≡ passes old + pass_at to
  pub arrivals : arrivals new + arrival_at from ≡ arrivals old + arrival_at to
  pub alls_has : all_at from ≤ sum_by all_at old
  pub untold_has : untold_at from ≤ sum_by untold_at old
  pub holders_has : lock_at from ≤ sum_by lock_at old

pub moved : (threads : List Place) (who : ℕ) (from to : Place) → slice_get threads who ≡ Some from
    → Moved threads (set threads who to) from to
moved threads who from to at =
    record {
      sleepers = sum_moved sleep_at threads who from to at;
      rings = sum_moved ring_at threads who from to at;
      alls = sum_moved all_at threads who from to at;
      drops = sum_moved drop_at threads who from to at;
      holders = sum_moved lock_at threads who from to at;
      untold = sum_moved untold_at threads who from to at;
      lookers = sum_moved look_at threads who from to at;
      turns = sum_moved turn_at threads who from to at;
      passes = sum_moved pass_at threads who from to at;
      arrivals = sum_moved arrival_at threads who from to at;
      alls_has = sum_has all_at threads who from at;
      untold_has = sum_has untold_at threads who from at;
      holders_has = sum_has lock_at threads who from at;
    }

-- a thread is where it was when another one has moved
pub stays : (threads : List Place) (mover other : ℕ) (from to at : Place)
    → slice_get threads mover ≡ Some from → slice_get threads other ≡ Some at → at ≢ from
    → slice_get (set threads mover to) other ≡ Some at
stays threads mover other from to at moves is apart =
    let others : other ≢ mover =
    λ same. apart (some_same at from (sym is ∙ ap (slice_get threads) same ∙ moves)) in
    let within = slice_get_within threads other at is in
    slice_get-get_or (set threads mover to) other at (omega (arith, length-set threads mover to))
    ∙ ap Some (get_or-set_other threads mover other to at others
    ∙ get_or_from_slice_get threads other at at is)
  where
    some_same : (a b : Place) → Some a ≡ Some b → a ≡ b
    some_same a b same = cc

-- what a ring of all makes of a sum: nothing, where it counts a worker that a ring woke as one that
-- sleeps
same_woken : (f : Place → ℕ) → f (Woken waking.Rung) ≡ f Sleeping → (place : Place)
    → f (woken_from place) ≡ f place
same_woken f same Sleeping = same
same_woken f same _ = refl

sum_woken : (f : Place → ℕ) → f (Woken waking.Rung) ≡ f Sleeping → (threads : List Place)
    → sum_by f (map woken_from threads) ≡ sum_by f threads
sum_woken f same [] = refl
sum_woken f same (place ∷ threads) =
    let here = same_woken f same place in
    let rest = sum_woken f same threads in
    let both : f (woken_from place) + sum_by f (map woken_from threads)
    ≡ f place + sum_by f threads = omega arith in
    sum_by-cons f (woken_from place) (map woken_from threads) ∙ both
    ∙ sym (sum_by-cons f place threads)

-- and that nobody sleeps
none_sleeps : (threads : List Place) → sleepers (map woken_from threads) ≡ 0
none_sleeps [] = refl
none_sleeps (place ∷ threads) =
    let here = awake_at place in
    let rest = none_sleeps threads in
    let both : sleep_at (woken_from place) + sum_by sleep_at (map woken_from threads) ≡ 0 =
    omega arith in
    sum_by-cons sleep_at (woken_from place) (map woken_from threads) ∙ both
  where
    awake_at : (place : Place) → sleep_at (woken_from place) ≡ 0
    awake_at Sleeping = refl
    awake_at Outside = refl
    awake_at Spare = refl
    awake_at Started = refl
    awake_at (Turn origin) = refl
    awake_at Free = refl
    awake_at (Looking claimed) = refl
    awake_at (Looked claimed) = refl
    awake_at (Woken why) = refl
    awake_at (Waited why) = refl
    awake_at (HasSwept chosen) = refl
    awake_at (Passing chosen bell) = refl
    awake_at (Called bell next) = refl
    awake_at (Claimed bell next) = refl
    awake_at (Told bell next) = refl
    awake_at (Ringing bell next) = refl
    awake_at Stopped = refl

-- a thread that doesn't sleep is where it was
pub stays_awake : (threads after : List Place) (who : ℕ) (bell : BellKind) (next : Next)
    → after ≡ map woken_from threads → slice_get threads who ≡ Some (Ringing bell next)
    → slice_get after who ≡ Some (Ringing bell next)
stays_awake threads after who bell next woken at =
    let within = slice_get_within threads who (Ringing bell next) at in
    ap (λ list. slice_get list who) woken
    ∙ slice_get-get_or (map woken_from threads) who (Ringing bell next)
    (omega (arith, length-map threads woken_from))
    ∙ ap Some (get_or-map woken_from threads who (Ringing bell next) (Ringing bell next) within ∙ ap
    woken_from (get_or_from_slice_get threads who (Ringing bell next) (Ringing bell next) at))

-- all sums after a ring of all
pub record AllWoken (old new : List Place) : Type 0 where
  pub sleepers : sleepers new ≡ 0
  pub holders : holders new ≡ holders old
  pub untold : untold new ≡ untold old
  pub lookers : lookers new ≡ lookers old
  pub turns : turns new ≡ turns old
  pub passes : passes new ≡ passes old
  pub arrivals : arrivals new ≡ arrivals old

pub all_woken : (threads after : List Place) → after ≡ map woken_from threads
    → AllWoken threads after
all_woken threads after woken = subst (AllWoken threads) (sym woken) (woken_so threads)
  where
    woken_so : (threads : List Place) → AllWoken threads (map woken_from threads)
    woken_so threads =
        record {
          sleepers = none_sleeps threads;
          holders = sum_woken lock_at refl threads;
          untold = sum_woken untold_at refl threads;
          lookers = sum_woken look_at refl threads;
          turns = sum_woken turn_at refl threads;
          passes = sum_woken pass_at refl threads;
          arrivals = sum_woken arrival_at refl threads;
        }

-- so many elements of what begins with a list of so many are that list
pub refilled : (count : ℕ) (front rest : List Place) → length front ≡ count
    → take count (front ++ rest) ≡ front
refilled count front rest long = let P : ℕ → Type 0 = λ n. take n (front ++ rest) ≡ front in
    subst P long (take-append_seam front rest)

-- no thread counts for anything
pub record IsQuiet (threads : List Place) : Type 0 where
  pub sleepers : sum_by sleep_at threads ≡ 0
  pub rings : sum_by ring_at threads ≡ 0
  pub alls : sum_by all_at threads ≡ 0
  pub drops : sum_by drop_at threads ≡ 0
  pub holders : sum_by lock_at threads ≡ 0
  pub untold : sum_by untold_at threads ≡ 0
  pub lookers : sum_by look_at threads ≡ 0
  pub turns : sum_by turn_at threads ≡ 0
  pub passes : sum_by pass_at threads ≡ 0
  pub arrivals : sum_by arrival_at threads ≡ 0

pub quiet_none : IsQuiet []
quiet_none = record {
  sleepers = refl;
  rings = refl;
  alls = refl;
  drops = refl;
  holders = refl;
  untold = refl;
  lookers = refl;
  turns = refl;
  passes = refl;
  arrivals = refl;
}

pub quiet_caller : (threads : List Place) → IsQuiet threads → IsQuiet (threads ++ Outside ∷ [])
quiet_caller threads quiet =
    record {
      sleepers = sum_by_push sleep_at threads Outside ∙ omega arith;
      rings = sum_by_push ring_at threads Outside ∙ omega arith;
      alls = sum_by_push all_at threads Outside ∙ omega arith;
      drops = sum_by_push drop_at threads Outside ∙ omega arith;
      holders = sum_by_push lock_at threads Outside ∙ omega arith;
      untold = sum_by_push untold_at threads Outside ∙ omega arith;
      lookers = sum_by_push look_at threads Outside ∙ omega arith;
      turns = sum_by_push turn_at threads Outside ∙ omega arith;
      passes = sum_by_push pass_at threads Outside ∙ omega arith;
      arrivals = sum_by_push arrival_at threads Outside ∙ omega arith;
    }

pub quiet_spare : (threads : List Place) → IsQuiet threads → IsQuiet (threads ++ Spare ∷ [])
quiet_spare threads quiet =
    record {
      sleepers = sum_by_push sleep_at threads Spare ∙ omega arith;
      rings = sum_by_push ring_at threads Spare ∙ omega arith;
      alls = sum_by_push all_at threads Spare ∙ omega arith;
      drops = sum_by_push drop_at threads Spare ∙ omega arith;
      holders = sum_by_push lock_at threads Spare ∙ omega arith;
      untold = sum_by_push untold_at threads Spare ∙ omega arith;
      lookers = sum_by_push look_at threads Spare ∙ omega arith;
      turns = sum_by_push turn_at threads Spare ∙ omega arith;
      passes = sum_by_push pass_at threads Spare ∙ omega arith;
      arrivals = sum_by_push arrival_at threads Spare ∙ omega arith;
    }

-- a thread is where it has gone
pub gone : (threads : List Place) (who : ℕ) (from to : Place) → slice_get threads who ≡ Some from
    → slice_get (set threads who to) who ≡ Some to
gone threads who from to at =
    let within = slice_get_within threads who from at in
    slice_get-get_or (set threads who to) who to (omega (arith, length-set threads who to))
    ∙ ap Some (get_or-set_same threads who to to within)

-- such threads, beside a pool with no worker and no job, keep all
pub begins : (threads : List Place) (limit : ℕ) → IsQuiet threads → 0 < limit
    → IsKept threads (record {
      workers = 0;
      idle = 0;
      arriving = 0;
      limit = limit;
      is_limit_set = false;
      rung = 0;
      swept = 0;
    }) false false false
begins threads limit quiet some =
    record {
      counted = record {
        workers = omega arith;
        idle = omega arith;
        arriving = omega arith;
        least = some;
        unset = λ u. refl;
      };
      guarded = record { locked = omega arith; manned = omega arith; told = λ u. refl };
      served =
          record { served = λ s a. absurd (omega arith); within = λ s a. absurd (omega arith) };
    }
