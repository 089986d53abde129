-- The numbers of rings and flags.
use Rattle.std.proofs.Common.{◌≡◌, ℕ, zero, suc, ◌+◌, ◌≤◌, min, Bool, true, false, ◌<◌, refl, sym}
use Rattle.std.proofs.Common.{subst, ap, ◌∙◌, arith, nat_lt}
use Rattle.std.proofs.lemmas.Bool.{lt-ltb, ltb-false}
use Rattle.blocking_pool.specs.Jobs.{one_if}
use Rattle.blocking_pool.specs.declared.pool.bell.BellKind.{BellKind}
use Rattle.blocking_pool.specs.declared.pool.bell.BellKind.TheVariants.{Silent, One, All}
use Rattle.blocking_schedule.specs.declared.counts.PoolCounts.{PoolCounts}
use Rattle.blocking_schedule.specs.declared.place.Next.{Next}
use Rattle.blocking_schedule.specs.declared.place.Next.TheVariants as next
use Rattle.blocking_schedule.specs.declared.place.Place.{Place}
use Rattle.blocking_schedule.specs.declared.place.Waking.{Waking}
use Rattle.blocking_schedule.specs.declared.place.Waking.TheVariants as waking
use Rattle.blocking_schedule.specs.Places.{one_of, all_of, chosen_by, bell_of_stop, place_of}
use Rattle.blocking_schedule.specs.Places.{sleep_at, ring_at, all_at, drop_at, lock_at, untold_at}
use Rattle.blocking_schedule.specs.Places.{look_at, turn_at, pass_at, arrival_at, turn_after}
use Rattle.blocking_schedule.specs.Places.{swept_after, pass_after}
use Rattle.blocking_schedule.specs.Queues.{has_job, RingsForLimit}

pub one_if-le : (flag : Bool) → one_if flag ≤ 1
one_if-le true = omega arith
one_if-le false = omega arith

pub chosen_by-le : (why : Waking) → chosen_by why ≤ 1
chosen_by-le waking.Rung = omega arith
chosen_by-le waking.ByItself = omega arith
chosen_by-le waking.TimedOut = omega arith
chosen_by-le waking.RungLate = omega arith

-- a worker that stops rings no more than one
pub quiet_stop : (flag : Bool) → all_of (bell_of_stop flag) ≡ 0
quiet_stop true = refl
quiet_stop false = refl

one_is : (count : ℕ) → 0 < count → 1 ≡ min 1 count
one_is count some = omega arith

-- and one where so many jobs are queued
pub ring_of_stop : (count : ℕ) → one_of (bell_of_stop (nat_lt 0 count)) ≡ min 1 count
ring_of_stop zero = refl
ring_of_stop (suc count) =
    let some : nat_lt 0 (suc count) ≡ true = lt-ltb 0 (suc count) (omega arith) in
    ap (λ flag. one_of (bell_of_stop flag)) some ∙ one_is (suc count) (omega arith)

-- where no job is queued none is of either kind
pub no_job : (pool : PoolCounts) → has_job pool ≡ false → (pool.rung ≡ 0) × (pool.swept ≡ 0)
no_job pool none =
    let zero_at_most = ltb-false 0 (pool.rung + pool.swept) none in
    (omega arith, omega arith)

-- what a place is where a section leads to it
pub record Leads (next : Next) (to : Place) : Type 0 where
  pub sleeps : sleep_at to ≡ 0
  pub rings : ring_at to ≡ 0
  pub alls : all_at to ≡ 0
  pub drops : drop_at to ≡ swept_after next
  pub locks : lock_at to ≡ 0
  pub untold : untold_at to ≡ 0
  pub looks : look_at to ≡ 0
  pub turns : turn_at to ≡ turn_after next
  pub passes : pass_at to ≡ pass_after next
  pub arrivals : arrival_at to ≡ 0

leads : (after : Next) → Leads after (place_of after)
leads next.Return = record {
  sleeps = refl;
  rings = refl;
  alls = refl;
  drops = refl;
  locks = refl;
  untold = refl;
  looks = refl;
  turns = refl;
  passes = refl;
  arrivals = refl;
}
leads (next.Turn origin) = record {
  sleeps = refl;
  rings = refl;
  alls = refl;
  drops = refl;
  locks = refl;
  untold = refl;
  looks = refl;
  turns = refl;
  passes = refl;
  arrivals = refl;
}
leads next.Free = record {
  sleeps = refl;
  rings = refl;
  alls = refl;
  drops = refl;
  locks = refl;
  untold = refl;
  looks = refl;
  turns = refl;
  passes = refl;
  arrivals = refl;
}
leads next.Stop = record {
  sleeps = refl;
  rings = refl;
  alls = refl;
  drops = refl;
  locks = refl;
  untold = refl;
  looks = refl;
  turns = refl;
  passes = refl;
  arrivals = refl;
}

pub leads_to : (after : Next) (to : Place) → to ≡ place_of after → Leads after to
leads_to after to same = subst (Leads after) (sym same) (leads after)

-- a limit that rings nobody lets nobody stand over it who didn't before
pub quiet_limit : (pool : PoolCounts) (limit : ℕ) (bell : BellKind) → RingsForLimit pool limit bell
    → (pool.is_limit_set ≡ false → pool.workers ≡ 0) → all_of bell ≡ 0 → pool.workers ≤ pool.limit
    → pool.workers ≤ limit
quiet_limit pool limit Silent rings unset quiet fits = by_flag pool.is_limit_set rings unset
  where
    by_flag : (flag : Bool) → (flag ≡ true → pool.limit ≤ limit) → (flag ≡ false → pool.workers ≡ 0)
        → pool.workers ≤ limit
    by_flag true rings unset = let more = rings refl in omega arith
    by_flag false rings unset = let none = unset refl in omega arith
quiet_limit pool limit One rings unset quiet fits = absurd rings
quiet_limit pool limit All rings unset quiet fits = absurd (omega arith)
