-- What workers do keeps what is kept.
use Rattle.std.proofs.Common.{◌≡◌, ℕ, ◌+◌, ◌-◌, ◌<◌, ◌≤◌, min, max, Bool, true, false, List, set}
use Rattle.std.proofs.Common.{Some, slice_get, ap, ◌∙◌, sym, arith, true≢false, inl, inr}
use Rattle.blocking_pool.specs.Jobs.{one_if}
use Rattle.blocking_pool.specs.declared.pool.bell.BellKind.{BellKind}
use Rattle.blocking_pool.specs.declared.pool.bell.BellKind.TheVariants.{Silent, One, All}
use Rattle.blocking_schedule.specs.declared.counts.PoolCounts.{PoolCounts}
use Rattle.blocking_schedule.specs.declared.place.Place.{Place}
use Rattle.blocking_schedule.specs.declared.place.Place.TheVariants.{Spare, Started, Turn, Looked}
use Rattle.blocking_schedule.specs.declared.place.Place.TheVariants.{Sleeping, Woken, Waited}
use Rattle.blocking_schedule.specs.declared.place.Place.TheVariants.{HasSwept, Passing, Called}
use Rattle.blocking_schedule.specs.declared.place.Place.TheVariants.{Stopped}
use Rattle.blocking_schedule.specs.declared.place.Next.{Next}
use Rattle.blocking_schedule.specs.declared.place.Next.TheVariants as next
use Rattle.blocking_schedule.specs.declared.place.Origin.{Origin}
use Rattle.blocking_schedule.specs.declared.place.Origin.TheVariants as origin
use Rattle.blocking_schedule.specs.declared.place.Waking.{Waking}
use Rattle.blocking_schedule.specs.Places.{one_of, all_of, chosen_by, swept_of, bell_of_stop}
use Rattle.blocking_schedule.specs.Places.{holders}
use Rattle.blocking_schedule.specs.Queues.{has_job, IsSweptFrom, MustStop}
use Rattle.blocking_schedule.specs.Kept.{IsKept}
use Rattle.blocking_schedule.proofs.Moves.{moved, stays}
use Rattle.blocking_schedule.proofs.Numbers.{one_if-le, chosen_by-le, quiet_stop, ring_of_stop}
use Rattle.blocking_schedule.proofs.Numbers.{no_job}

module _ (threads : List Place) (who : ℕ) (pool : PoolCounts) (is_locked is_manned is_queued : Bool)
    (kept : IsKept threads pool is_locked is_manned is_queued) where
  -- a worker that has not arrived is counted as one
  pub has_arrival : slice_get threads who ≡ Some Started → 1 ≤ pool.arriving
  has_arrival at =
      let m = moved threads who Started Stopped at in
      omega arith

  -- a worker with a job is none of the idle ones
  pub has_turn : (origin : Origin) → slice_get threads who ≡ Some (Turn origin)
      → pool.idle < pool.workers
  has_turn origin at =
      let m = moved threads who (Turn origin) Stopped at in
      omega arith

  -- a worker that has waited is idle
  pub has_pass : (why : Waking) → slice_get threads who ≡ Some (Waited why)
      → (1 ≤ pool.idle) × (1 ≤ pool.workers) × (pool.arriving < pool.idle)
  has_pass why at =
      let m = moved threads who (Waited why) Stopped at in
      (omega arith, omega arith, omega arith)

  -- and so is one that has swept
  pub has_pass_swept : (chosen : Bool) → slice_get threads who ≡ Some (HasSwept chosen)
      → (1 ≤ pool.idle) × (1 ≤ pool.workers) × (pool.arriving < pool.idle)
  has_pass_swept chosen at =
      let m = moved threads who (HasSwept chosen) Stopped at in
      (omega arith, omega arith, omega arith)

  -- and one that takes next
  pub has_pass_passing : (chosen : Bool) (bell : BellKind)
      → slice_get threads who ≡ Some (Passing chosen bell)
      → (1 ≤ pool.idle) × (1 ≤ pool.workers) × (pool.arriving < pool.idle)
  has_pass_passing chosen bell at =
      let m = moved threads who (Passing chosen bell) Stopped at in
      (omega arith, omega arith, omega arith)

  -- a worker arrives
  pub arrive_kept : slice_get threads who ≡ Some (Started)
      → is_locked ≡ false → IsKept (set threads who (Passing false Silent))
      (record pool { arriving = pool.arriving - 1 }) true is_manned is_queued
  arrive_kept at unlocked =
      let m = moved threads who (Started) (Passing false Silent) at in
      let none : holders threads ≡ 0 = kept.guarded.locked ∙ ap one_if unlocked in
      record {
        counted = record {
          workers = omega arith;
          idle = omega arith;
          arriving = omega arith;
          least = kept.counted.least;
          unset = kept.counted.unset;
        };
        guarded =
            record { locked = omega arith; manned = omega arith; told = λ u. absurd (omega arith) };
        served =
            record {
              served = λ s a. let before = kept.served.served (omega arith) (omega arith) in
                  omega arith;
              within = λ s a.
                  let before = kept.served.within (omega arith) (omega arith) in omega arith;
            };
      }

  -- a turn ends
  pub end_kept : (origin : Origin) (chosen : Bool) → slice_get threads who ≡ Some (Turn origin)
      → is_locked ≡ false → one_if chosen ≡ swept_of origin
      → IsKept (set threads who (Passing chosen Silent)) (record pool { idle = pool.idle + 1 }) true
      is_manned is_queued
  end_kept origin chosen at unlocked stands =
      let m = moved threads who (Turn origin) (Passing chosen Silent) at in
      let none : holders threads ≡ 0 = kept.guarded.locked ∙ ap one_if unlocked in
      record {
        counted = record {
          workers = omega arith;
          idle = omega arith;
          arriving = omega arith;
          least = kept.counted.least;
          unset = kept.counted.unset;
        };
        guarded =
            record { locked = omega arith; manned = omega arith; told = λ u. absurd (omega arith) };
        served =
            record {
              served = λ s a. let before = kept.served.served (omega arith) (omega arith) in
                  omega arith;
              within = λ s a.
                  let before = kept.served.within (omega arith) (omega arith) in omega arith;
            };
      }

  -- a turn ends, and its job is queued again
  pub end_woken_kept : (origin : Origin) (chosen : Bool)
      → slice_get threads who ≡ Some (Turn origin) → is_locked ≡ false
      → one_if chosen ≡ swept_of origin → IsKept (set threads who (Passing chosen One))
      (record pool { idle = pool.idle + 1; rung = pool.rung + 1 }) true is_manned is_queued
  end_woken_kept origin chosen at unlocked stands =
      let m = moved threads who (Turn origin) (Passing chosen One) at in
      let none : holders threads ≡ 0 = kept.guarded.locked ∙ ap one_if unlocked in
      record {
        counted = record {
          workers = omega arith;
          idle = omega arith;
          arriving = omega arith;
          least = kept.counted.least;
          unset = kept.counted.unset;
        };
        guarded =
            record { locked = omega arith; manned = omega arith; told = λ u. absurd (omega arith) };
        served =
            record {
              served = λ s a. let before = kept.served.served (omega arith) (omega arith) in
                  omega arith;
              within = λ s a.
                  let before = kept.served.within (omega arith) (omega arith) in omega arith;
            };
      }

  -- a turn goes on
  pub go_on_kept : (origin : Origin)
      → slice_get threads who ≡ Some (Turn origin) → is_locked ≡ false
      → IsKept (set threads who (Called Silent (next.Turn origin))) pool true is_manned is_queued
  go_on_kept origin at unlocked =
      let m = moved threads who (Turn origin) (Called Silent (next.Turn origin)) at in
      let none : holders threads ≡ 0 = kept.guarded.locked ∙ ap one_if unlocked in
      record {
        counted = record {
          workers = omega arith;
          idle = omega arith;
          arriving = omega arith;
          least = kept.counted.least;
          unset = kept.counted.unset;
        };
        guarded =
            record { locked = omega arith; manned = omega arith; told = λ u. absurd (omega arith) };
        served =
            record {
              served = λ s a. let before = kept.served.served (omega arith) (omega arith) in
                  omega arith;
              within = λ s a.
                  let before = kept.served.within (omega arith) (omega arith) in omega arith;
            };
      }

  -- a worker goes to sleep
  pub sleep_kept : (claimed : Bool) → slice_get threads who ≡ Some (Looked claimed)
      → is_locked ≡ false → pool.rung ≡ 0 → pool.swept ≡ 0 → pool.workers ≤ pool.limit
      → IsKept (set threads who (Sleeping)) pool is_locked is_manned is_queued
  sleep_kept claimed at unlocked none_rung none_swept fits =
      let m = moved threads who (Looked claimed) (Sleeping) at in
      let none : holders threads ≡ 0 = kept.guarded.locked ∙ ap one_if unlocked in
      record {
        counted = record {
          workers = omega arith;
          idle = omega arith;
          arriving = omega arith;
          least = kept.counted.least;
          unset = kept.counted.unset;
        };
        guarded = record {
          locked = omega arith;
          manned = omega arith;
          told = λ u. kept.guarded.told (omega arith);
        };
        served = record { served = λ s a. omega arith; within = λ s a. fits };
      }

  -- a worker that has looked has the lock, and does not sleep
  pub awake_kept : (claimed : Bool) (why : Waking) → slice_get threads who ≡ Some (Looked claimed)
      → is_locked ≡ false → chosen_by why ≡ one_if claimed
      → IsKept (set threads who (Waited why)) pool true is_manned is_queued
  awake_kept claimed why at unlocked same =
      let m = moved threads who (Looked claimed) (Waited why) at in
      let none : holders threads ≡ 0 = kept.guarded.locked ∙ ap one_if unlocked in
      record {
        counted = record {
          workers = omega arith;
          idle = omega arith;
          arriving = omega arith;
          least = kept.counted.least;
          unset = kept.counted.unset;
        };
        guarded =
            record { locked = omega arith; manned = omega arith; told = λ u. absurd (omega arith) };
        served =
            record {
              served = λ s a. let before = kept.served.served (omega arith) (omega arith) in
                  omega arith;
              within = λ s a.
                  let before = kept.served.within (omega arith) (omega arith) in omega arith;
            };
      }

  -- a worker wakes by itself
  pub wake_up_kept : (why : Waking) → slice_get threads who ≡ Some (Sleeping)
      → IsKept (set threads who (Woken why)) pool is_locked is_manned is_queued
  wake_up_kept why at =
      let m = moved threads who (Sleeping) (Woken why) at in
      record {
        counted = record {
          workers = omega arith;
          idle = omega arith;
          arriving = omega arith;
          least = kept.counted.least;
          unset = kept.counted.unset;
        };
        guarded = record {
          locked = omega arith;
          manned = omega arith;
          told = λ u. kept.guarded.told (omega arith);
        };
        served =
            record {
              served = λ s a. let before = kept.served.served (omega arith) (omega arith) in
                  omega arith;
              within = λ s a.
                  let before = kept.served.within (omega arith) (omega arith) in omega arith;
            };
      }

  -- a worker that was woken is late
  pub be_late_kept : (why then_why : Waking)
      → slice_get threads who ≡ Some (Woken why) → chosen_by then_why ≡ chosen_by why
      → IsKept (set threads who (Woken then_why)) pool is_locked is_manned is_queued
  be_late_kept why then_why at same =
      let m = moved threads who (Woken why) (Woken then_why) at in
      record {
        counted = record {
          workers = omega arith;
          idle = omega arith;
          arriving = omega arith;
          least = kept.counted.least;
          unset = kept.counted.unset;
        };
        guarded = record {
          locked = omega arith;
          manned = omega arith;
          told = λ u. kept.guarded.told (omega arith);
        };
        served =
            record {
              served = λ s a. let before = kept.served.served (omega arith) (omega arith) in
                  omega arith;
              within = λ s a.
                  let before = kept.served.within (omega arith) (omega arith) in omega arith;
            };
      }

  -- a worker has the lock again
  pub come_back_kept : (why : Waking) → slice_get threads who ≡ Some (Woken why) → is_locked ≡ false
      → IsKept (set threads who (Waited why)) pool true is_manned is_queued
  come_back_kept why at unlocked =
      let m = moved threads who (Woken why) (Waited why) at in
      let none : holders threads ≡ 0 = kept.guarded.locked ∙ ap one_if unlocked in
      record {
        counted = record {
          workers = omega arith;
          idle = omega arith;
          arriving = omega arith;
          least = kept.counted.least;
          unset = kept.counted.unset;
        };
        guarded =
            record { locked = omega arith; manned = omega arith; told = λ u. absurd (omega arith) };
        served =
            record {
              served = λ s a. let before = kept.served.served (omega arith) (omega arith) in
                  omega arith;
              within = λ s a.
                  let before = kept.served.within (omega arith) (omega arith) in omega arith;
            };
      }

  -- a late worker puts jobs back
  pub sweep_late_kept : (count : ℕ) (after : PoolCounts) (why : Waking) (chosen : Bool)
      → slice_get threads who ≡ Some (Waited why)
      → one_if chosen ≡ chosen_by why → IsSweptFrom pool count after
      → IsKept (set threads who (HasSwept chosen)) after is_locked is_manned is_queued
  sweep_late_kept count after why chosen at same swept =
      let m = moved threads who (Waited why) (HasSwept chosen) at in
      record {
        counted = record {
          workers = omega arith;
          idle = omega arith;
          arriving = omega arith;
          least = omega arith;
          unset = λ u. swept.workers ∙ kept.counted.unset (sym swept.is_limit_set ∙ u);
        };
        guarded =
            record { locked = omega arith; manned = omega arith; told = λ u. absurd (omega arith) };
        served =
            record {
              served = λ s a. let before = kept.served.served (omega arith) (omega arith) in
                  omega arith;
              within = λ s a.
                  let before = kept.served.within (omega arith) (omega arith) in omega arith;
            };
      }

  -- a worker stays
  pub stay_kept : (why : Waking) (chosen : Bool)
      → slice_get threads who ≡ Some (Waited why) → one_if chosen ≡ chosen_by why
      → IsKept (set threads who (Passing chosen Silent)) pool is_locked is_manned is_queued
  stay_kept why chosen at same =
      let m = moved threads who (Waited why) (Passing chosen Silent) at in
      record {
        counted = record {
          workers = omega arith;
          idle = omega arith;
          arriving = omega arith;
          least = kept.counted.least;
          unset = kept.counted.unset;
        };
        guarded =
            record { locked = omega arith; manned = omega arith; told = λ u. absurd (omega arith) };
        served =
            record {
              served = λ s a. let before = kept.served.served (omega arith) (omega arith) in
                  omega arith;
              within = λ s a.
                  let before = kept.served.within (omega arith) (omega arith) in omega arith;
            };
      }

  -- a worker that swept stays
  pub stay_swept_kept : (chosen : Bool) → slice_get threads who ≡ Some (HasSwept chosen)
      → IsKept (set threads who (Passing chosen One)) pool is_locked is_manned is_queued
  stay_swept_kept chosen at =
      let m = moved threads who (HasSwept chosen) (Passing chosen One) at in
      record {
        counted = record {
          workers = omega arith;
          idle = omega arith;
          arriving = omega arith;
          least = kept.counted.least;
          unset = kept.counted.unset;
        };
        guarded =
            record { locked = omega arith; manned = omega arith; told = λ u. absurd (omega arith) };
        served =
            record {
              served = λ s a. let before = kept.served.served (omega arith) (omega arith) in
                  omega arith;
              within = λ s a.
                  let before = kept.served.within (omega arith) (omega arith) in omega arith;
            };
      }

  -- a worker stops
  pub stop_kept : (why : Waking) (bell : BellKind) → slice_get threads who ≡ Some (Waited why)
      → bell ≡ bell_of_stop (has_job pool) → IsKept (set threads who (Called bell next.Stop))
      (record pool { workers = pool.workers - 1; idle = pool.idle - 1 }) is_locked is_manned
      is_queued
  stop_kept why bell at same =
      let m = moved threads who (Waited why) (Called bell next.Stop) at in
      let chosen : chosen_by why ≤ 1 = chosen_by-le why in
      let quiet : all_of bell ≡ 0 = ap all_of same ∙ quiet_stop (has_job pool) in
      let rung : one_of bell ≡ min 1 (pool.rung + pool.swept) =
      ap one_of same ∙ ring_of_stop (pool.rung + pool.swept) in
      record {
        counted = record {
          workers = omega arith;
          idle = omega arith;
          arriving = omega arith;
          least = kept.counted.least;
          unset = λ u. let none = kept.counted.unset u in
              omega arith;
        };
        guarded =
            record { locked = omega arith; manned = omega arith; told = λ u. absurd (omega arith) };
        served =
            record {
              served = λ s a. let before = kept.served.served (omega arith) (omega arith) in
                  omega arith;
              within = λ s a.
                  let before = kept.served.within (omega arith) (omega arith) in omega arith;
            };
      }

  -- a worker that swept stops
  pub stop_swept_kept : (chosen : Bool) → slice_get threads who ≡ Some (HasSwept chosen)
      → MustStop true pool → IsKept (set threads who (Called One next.Stop)) (record pool
      { workers = pool.workers - 1; idle = pool.idle - 1 }) is_locked is_manned is_queued
  stop_swept_kept chosen at must =
      let m = moved threads who (HasSwept chosen) (Called One next.Stop) at in
      let one : one_if chosen ≤ 1 = one_if-le chosen in
      record {
        counted = record {
          workers = omega arith;
          idle = omega arith;
          arriving = omega arith;
          least = kept.counted.least;
          unset = λ u. let none = kept.counted.unset u in
              omega arith;
        };
        guarded =
            record { locked = omega arith; manned = omega arith; told = λ u. absurd (omega arith) };
        served = record {
          served = λ s a.
              let before = kept.served.served (omega arith) (omega arith) in
              let fits = kept.served.within (omega arith) (omega arith) in
              elim must [
                | inl over ↦ absurd (omega arith)
                | inr late ↦ let none = no_job pool late.1 in omega arith
              ];
          within = λ s a. let before = kept.served.within (omega arith) (omega arith) in
              omega arith;
        };
      }

  -- a worker finds no job
  pub idle_kept : (chosen : Bool) (bell : BellKind)
      → slice_get threads who ≡ Some (Passing chosen bell) → pool.rung ≡ 0 → pool.swept ≡ 0
      → IsKept (set threads who (Called bell next.Free)) pool is_locked is_manned is_queued
  idle_kept chosen bell at none_rung none_swept =
      let m = moved threads who (Passing chosen bell) (Called bell next.Free) at in
      record {
        counted = record {
          workers = omega arith;
          idle = omega arith;
          arriving = omega arith;
          least = kept.counted.least;
          unset = kept.counted.unset;
        };
        guarded =
            record { locked = omega arith; manned = omega arith; told = λ u. absurd (omega arith) };
        served = record {
          served = λ s a. omega arith;
          within = λ s a.
              let before = kept.served.within (omega arith) (omega arith) in omega arith;
        };
      }

  -- a worker takes a job that was rung for
  pub take_rung_kept : (chosen : Bool) (bell : BellKind)
      → slice_get threads who ≡ Some (Passing chosen bell)
      → 0 < pool.rung → IsKept (set threads who (Called bell (next.Turn origin.Rung)))
      (record pool { idle = pool.idle - 1; rung = pool.rung - 1 }) is_locked is_manned is_queued
  take_rung_kept chosen bell at some =
      let m = moved threads who (Passing chosen bell) (Called bell (next.Turn origin.Rung)) at in
      let once : one_if chosen ≤ 1 = one_if-le chosen in
      record {
        counted = record {
          workers = omega arith;
          idle = omega arith;
          arriving = omega arith;
          least = kept.counted.least;
          unset = kept.counted.unset;
        };
        guarded =
            record { locked = omega arith; manned = omega arith; told = λ u. absurd (omega arith) };
        served =
            record {
              served = λ s a. let before = kept.served.served (omega arith) (omega arith) in
                  omega arith;
              within = λ s a.
                  let before = kept.served.within (omega arith) (omega arith) in omega arith;
            };
      }

  -- a worker takes a swept job
  pub take_swept_kept : (chosen : Bool) (bell : BellKind)
      → slice_get threads who ≡ Some (Passing chosen bell)
      → 0 < pool.swept → IsKept (set threads who (Called bell (next.Turn origin.Swept)))
      (record pool { idle = pool.idle - 1; swept = pool.swept - 1 }) is_locked is_manned is_queued
  take_swept_kept chosen bell at some =
      let m = moved threads who (Passing chosen bell) (Called bell (next.Turn origin.Swept)) at in
      let once : one_if chosen ≤ 1 = one_if-le chosen in
      record {
        counted = record {
          workers = omega arith;
          idle = omega arith;
          arriving = omega arith;
          least = kept.counted.least;
          unset = kept.counted.unset;
        };
        guarded =
            record { locked = omega arith; manned = omega arith; told = λ u. absurd (omega arith) };
        served =
            record {
              served = λ s a. let before = kept.served.served (omega arith) (omega arith) in
                  omega arith;
              within = λ s a.
                  let before = kept.served.within (omega arith) (omega arith) in omega arith;
            };
      }

  -- the pool grows by one worker
  pub start_kept : (spare : ℕ) (bell : BellKind) (next : Next)
      → slice_get threads who ≡ Some (Called bell next) → slice_get threads spare ≡ Some Spare
      → pool.workers < pool.limit → IsKept (set (set threads spare Started) who (Called All next))
      (record pool {
        workers = pool.workers + 1;
        idle = pool.idle + 1;
        arriving = pool.arriving + 1;
        is_limit_set = true;
      }) is_locked is_manned is_queued
  start_kept spare bell next at other due =
      let m = moved threads spare Spare Started other in
      let n = moved (set threads spare Started) who (Called bell next) (Called All next) (stays
      threads spare who Spare Started (Called bell next) other at (λ same. absurd (cc))) in
      record {
        counted = record {
          workers = omega arith;
          idle = omega arith;
          arriving = omega arith;
          least = kept.counted.least;
          unset = λ u. absurd (true≢false u);
        };
        guarded =
            record { locked = omega arith; manned = omega arith; told = λ u. absurd (omega arith) };
        served =
            record { served = λ s a. absurd (omega arith); within = λ s a. absurd (omega arith) };
      }

  -- a start is refused
  pub refuse_kept : (limit : ℕ) → limit ≡ max pool.workers 1 → IsKept threads
      (record pool { limit = limit; is_limit_set = true }) is_locked is_manned is_queued
  refuse_kept limit same =
      record {
        counted = record {
          workers = omega arith;
          idle = omega arith;
          arriving = omega arith;
          least = omega arith;
          unset = λ u. absurd (true≢false u);
        };
        guarded = record { locked = omega arith; manned = omega arith; told = kept.guarded.told };
        served = record { served = kept.served.served; within = λ s a. omega arith };
      }
