-- What callers do keeps what is kept.
use Rattle.std.proofs.Common.{◌≡◌, ℕ, ◌+◌, ◌<◌, ◌≤◌, Bool, true, false, List, set, Some, slice_get}
use Rattle.std.proofs.Common.{ap, ◌∙◌, sym, arith, true≢false}
use Rattle.blocking_pool.specs.Jobs.{one_if}
use Rattle.blocking_pool.specs.declared.pool.bell.BellKind.{BellKind}
use Rattle.blocking_pool.specs.declared.pool.bell.BellKind.TheVariants.{Silent, One}
use Rattle.blocking_schedule.specs.declared.counts.PoolCounts.{PoolCounts}
use Rattle.blocking_schedule.specs.declared.place.Place.{Place}
use Rattle.blocking_schedule.specs.declared.place.Place.TheVariants.{Outside, Called}
use Rattle.blocking_schedule.specs.declared.place.Next.TheVariants as next
use Rattle.blocking_schedule.specs.Places.{all_of, holders}
use Rattle.blocking_schedule.specs.Queues.{IsSweptFrom}
use Rattle.blocking_schedule.specs.Kept.{IsKept}
use Rattle.blocking_schedule.proofs.Moves.{moved}

module _ (threads : List Place) (who : ℕ) (pool : PoolCounts) (is_locked is_manned is_queued : Bool)
    (kept : IsKept threads pool is_locked is_manned is_queued) where
  -- a job is added
  pub add_kept : slice_get threads who ≡ Some (Outside) → is_locked ≡ false
      → IsKept (set threads who (Called One next.Return)) (record pool { rung = pool.rung + 1 })
      true is_manned is_queued
  add_kept at unlocked =
      let m = moved threads who (Outside) (Called One next.Return) at in
      let none : holders threads ≡ 0 = kept.guarded.locked ∙ ap one_if unlocked in
      record {
        counted = record {
          workers = omega arith;
          idle = omega arith;
          arriving = omega arith;
          least = kept.counted.least;
          unset = kept.counted.unset;
        };
        guarded =
            record { locked = omega arith; manned = omega arith; told = λ u. absurd (omega arith) };
        served =
            record {
              served = λ s a. let before = kept.served.served (omega arith) (omega arith) in
                  omega arith;
              within = λ s a.
                  let before = kept.served.within (omega arith) (omega arith) in omega arith;
            };
      }

  -- jobs are put back
  pub sweep_kept : (count : ℕ) (after : PoolCounts)
      → slice_get threads who ≡ Some (Outside) → is_locked ≡ false → IsSweptFrom pool count after
      → IsKept (set threads who (Called One next.Return)) after true is_manned is_queued
  sweep_kept count after at unlocked swept =
      let m = moved threads who (Outside) (Called One next.Return) at in
      let none : holders threads ≡ 0 = kept.guarded.locked ∙ ap one_if unlocked in
      record {
        counted = record {
          workers = omega arith;
          idle = omega arith;
          arriving = omega arith;
          least = omega arith;
          unset = λ u. swept.workers ∙ kept.counted.unset (sym swept.is_limit_set ∙ u);
        };
        guarded =
            record { locked = omega arith; manned = omega arith; told = λ u. absurd (omega arith) };
        served =
            record {
              served = λ s a. let before = kept.served.served (omega arith) (omega arith) in
                  omega arith;
              within = λ s a.
                  let before = kept.served.within (omega arith) (omega arith) in omega arith;
            };
      }

  -- the limit is set
  pub limit_kept : (limit : ℕ) (bell : BellKind)
      → slice_get threads who ≡ Some (Outside) → is_locked ≡ false
      → 0 < limit → (all_of bell ≡ 0 → pool.workers ≤ pool.limit → pool.workers ≤ limit)
      → IsKept (set threads who (Called bell next.Return))
      (record pool { limit = limit; is_limit_set = true }) true is_manned is_queued
  limit_kept limit bell at unlocked some quiet =
      let m = moved threads who (Outside) (Called bell next.Return) at in
      let none : holders threads ≡ 0 = kept.guarded.locked ∙ ap one_if unlocked in
      record {
        counted = record {
          workers = omega arith;
          idle = omega arith;
          arriving = omega arith;
          least = some;
          unset = λ u. absurd (true≢false u);
        };
        guarded =
            record { locked = omega arith; manned = omega arith; told = λ u. absurd (omega arith) };
        served =
            record {
              served = λ s a. let before = kept.served.served (omega arith) (omega arith) in
                  omega arith;
              within = λ s a.
                  quiet (omega arith) (kept.served.within (omega arith) (omega arith));
            };
      }

  -- a section changes nothing
  pub pass_by_kept : slice_get threads who ≡ Some (Outside) → is_locked ≡ false
      → IsKept (set threads who (Called Silent next.Return)) pool true is_manned is_queued
  pass_by_kept at unlocked =
      let m = moved threads who (Outside) (Called Silent next.Return) at in
      let none : holders threads ≡ 0 = kept.guarded.locked ∙ ap one_if unlocked in
      record {
        counted = record {
          workers = omega arith;
          idle = omega arith;
          arriving = omega arith;
          least = kept.counted.least;
          unset = kept.counted.unset;
        };
        guarded =
            record { locked = omega arith; manned = omega arith; told = λ u. absurd (omega arith) };
        served =
            record {
              served = λ s a. let before = kept.served.served (omega arith) (omega arith) in
                  omega arith;
              within = λ s a.
                  let before = kept.served.within (omega arith) (omega arith) in omega arith;
            };
      }
