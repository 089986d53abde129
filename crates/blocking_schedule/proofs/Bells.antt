-- How a section ends keeps what is kept.
use Rattle.std.proofs.Common.{◌≡◌, ℕ, ◌≤◌, Bool, false, List, map, set, Some, slice_get, arith}
use Rattle.blocking_pool.specs.Jobs.{one_if}
use Rattle.blocking_pool.specs.declared.pool.bell.BellKind.{BellKind}
use Rattle.blocking_pool.specs.declared.pool.bell.BellKind.TheVariants.{Silent, One, All}
use Rattle.blocking_schedule.specs.declared.counts.PoolCounts.{PoolCounts}
use Rattle.blocking_schedule.specs.declared.place.Place.{Place}
use Rattle.blocking_schedule.specs.declared.place.Place.TheVariants.{Sleeping, Woken, Told, Ringing}
use Rattle.blocking_schedule.specs.declared.place.Next.{Next}
use Rattle.blocking_schedule.specs.declared.place.Waking.TheVariants as waking
use Rattle.blocking_schedule.specs.Places.{woken_from, place_of, sleepers}
use Rattle.blocking_schedule.specs.Kept.{IsKept}
use Rattle.blocking_schedule.proofs.Moves.{moved, stays, stays_awake, all_woken}
use Rattle.blocking_schedule.proofs.Numbers.{one_if-le, leads_to}

module _ (threads : List Place) (who : ℕ) (pool : PoolCounts) (is_locked is_manned is_queued : Bool)
    (kept : IsKept threads pool is_locked is_manned is_queued) where
  -- the lock is let go
  pub let_go_kept : (bell : BellKind) (next : Next) → slice_get threads who ≡ Some (Told bell next)
      → IsKept (set threads who (Ringing bell next)) pool false is_manned is_queued
  let_go_kept bell next at =
      let m = moved threads who (Told bell next) (Ringing bell next) at in
      let once : one_if is_locked ≤ 1 = one_if-le is_locked in
      let held = kept.guarded.locked in
      record {
        counted = record {
          workers = omega arith;
          idle = omega arith;
          arriving = omega arith;
          least = kept.counted.least;
          unset = kept.counted.unset;
        };
        guarded = record {
          locked = omega arith;
          manned = omega arith;
          told = λ u. kept.guarded.told (omega arith);
        };
        served =
            record {
              served = λ s a. let before = kept.served.served (omega arith) (omega arith) in
                  omega arith;
              within = λ s a.
                  let before = kept.served.within (omega arith) (omega arith) in omega arith;
            };
      }

  -- nobody is rung
  pub quiet_kept : (next : Next) (to : Place)
      → to ≡ place_of next → slice_get threads who ≡ Some (Ringing Silent next)
      → IsKept (set threads who to) pool is_locked is_manned is_queued
  quiet_kept next to same at =
      let m = moved threads who (Ringing Silent next) to at in
      let led = leads_to next to same in
      record {
        counted = record {
          workers = omega arith;
          idle = omega arith;
          arriving = omega arith;
          least = kept.counted.least;
          unset = kept.counted.unset;
        };
        guarded = record {
          locked = omega arith;
          manned = omega arith;
          told = λ u. kept.guarded.told (omega arith);
        };
        served =
            record {
              served = λ s a. let before = kept.served.served (omega arith) (omega arith) in
                  omega arith;
              within = λ s a.
                  let before = kept.served.within (omega arith) (omega arith) in omega arith;
            };
      }

  -- a ring of one finds nobody asleep
  pub lost_kept : (next : Next) (to : Place)
      → to ≡ place_of next → slice_get threads who ≡ Some (Ringing One next) → sleepers threads ≡ 0
      → IsKept (set threads who to) pool is_locked is_manned is_queued
  lost_kept next to same at nobody =
      let m = moved threads who (Ringing One next) to at in
      let led = leads_to next to same in
      record {
        counted = record {
          workers = omega arith;
          idle = omega arith;
          arriving = omega arith;
          least = kept.counted.least;
          unset = kept.counted.unset;
        };
        guarded = record {
          locked = omega arith;
          manned = omega arith;
          told = λ u. kept.guarded.told (omega arith);
        };
        served =
            record { served = λ s a. absurd (omega arith); within = λ s a. absurd (omega arith) };
      }

  -- a ring of one wakes a worker
  pub woken_kept : (woken : ℕ) (next : Next) (to : Place) → to ≡ place_of next
      → slice_get threads who ≡ Some (Ringing One next) → slice_get threads woken ≡ Some Sleeping
      → IsKept (set (set threads woken (Woken waking.Rung)) who to) pool is_locked is_manned
      is_queued
  woken_kept woken next to same at sleeps =
      let led = leads_to next to same in
      let m = moved threads woken Sleeping (Woken waking.Rung) sleeps in
      let n = moved (set threads woken (Woken waking.Rung)) who (Ringing One next)
      to (stays threads woken who Sleeping (Woken waking.Rung) (Ringing One next) sleeps at
      (λ same. absurd (cc))) in
      record {
        counted = record {
          workers = omega arith;
          idle = omega arith;
          arriving = omega arith;
          least = kept.counted.least;
          unset = kept.counted.unset;
        };
        guarded = record {
          locked = omega arith;
          manned = omega arith;
          told = λ u. kept.guarded.told (omega arith);
        };
        served =
            record {
              served = λ s a. let before = kept.served.served (omega arith) (omega arith) in
                  omega arith;
              within = λ s a.
                  let before = kept.served.within (omega arith) (omega arith) in omega arith;
            };
      }

  -- a ring of all wakes all
  pub all_kept : (after : List Place) (next : Next) (to : Place) → to ≡ place_of next
      → after ≡ map woken_from threads → slice_get threads who ≡ Some (Ringing All next)
      → IsKept (set after who to) pool is_locked is_manned is_queued
  all_kept after next to same woken at =
      let led = leads_to next to same in
      let m = all_woken threads after woken in
      let n =
      moved after who (Ringing All next) to (stays_awake threads after who All next woken at) in
      record {
        counted = record {
          workers = omega arith;
          idle = omega arith;
          arriving = omega arith;
          least = kept.counted.least;
          unset = kept.counted.unset;
        };
        guarded = record {
          locked = omega arith;
          manned = omega arith;
          told = λ u. kept.guarded.told (omega arith);
        };
        served =
            record { served = λ s a. absurd (omega arith); within = λ s a. absurd (omega arith) };
      }
