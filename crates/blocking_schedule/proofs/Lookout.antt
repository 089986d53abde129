-- What happens at the post keeps what is kept.
use Rattle.std.proofs.Common.{◌≡◌, ℕ, ◌≤◌, Bool, true, false, List, set, Some, slice_get, arith}
use Rattle.blocking_pool.specs.Jobs.{one_if}
use Rattle.blocking_pool.specs.declared.pool.bell.BellKind.{BellKind}
use Rattle.blocking_pool.specs.declared.pool.bell.BellKind.TheVariants.{Silent, One}
use Rattle.blocking_schedule.specs.declared.counts.PoolCounts.{PoolCounts}
use Rattle.blocking_schedule.specs.declared.place.Place.{Place}
use Rattle.blocking_schedule.specs.declared.place.Place.TheVariants.{Free, Looking, Looked, Called}
use Rattle.blocking_schedule.specs.declared.place.Place.TheVariants.{Claimed, Told}
use Rattle.blocking_schedule.specs.declared.place.Next.{Next}
use Rattle.blocking_schedule.specs.Queues.{has_job}
use Rattle.blocking_schedule.specs.Kept.{IsKept}
use Rattle.blocking_schedule.specs.Readings.{ClaimsOne}
use Rattle.blocking_schedule.proofs.Moves.{moved, stays}
use Rattle.blocking_schedule.proofs.Numbers.{one_if-le}

module _ (threads : List Place) (who : ℕ) (pool : PoolCounts) (is_locked is_manned is_queued : Bool)
    (kept : IsKept threads pool is_locked is_manned is_queued) where
  -- a worker finds the post manned
  pub look_on_kept : slice_get threads who ≡ Some (Free)
      → IsKept (set threads who (Looked false)) pool is_locked is_manned is_queued
  look_on_kept at =
      let m = moved threads who (Free) (Looked false) at in
      record {
        counted = record {
          workers = omega arith;
          idle = omega arith;
          arriving = omega arith;
          least = kept.counted.least;
          unset = kept.counted.unset;
        };
        guarded = record {
          locked = omega arith;
          manned = omega arith;
          told = λ u. kept.guarded.told (omega arith);
        };
        served =
            record {
              served = λ s a. let before = kept.served.served (omega arith) (omega arith) in
                  omega arith;
              within = λ s a.
                  let before = kept.served.within (omega arith) (omega arith) in omega arith;
            };
      }

  -- a worker mans the post
  pub look_kept : slice_get threads who ≡ Some (Free)
      → IsKept (set threads who (Looking false)) pool is_locked true is_queued
  look_kept at =
      let m = moved threads who (Free) (Looking false) at in
      record {
        counted = record {
          workers = omega arith;
          idle = omega arith;
          arriving = omega arith;
          least = kept.counted.least;
          unset = kept.counted.unset;
        };
        guarded = record {
          locked = omega arith;
          manned = omega arith;
          told = λ u. kept.guarded.told (omega arith);
        };
        served =
            record {
              served = λ s a. let before = kept.served.served (omega arith) (omega arith) in
                  omega arith;
              within = λ s a.
                  let before = kept.served.within (omega arith) (omega arith) in omega arith;
            };
      }

  -- a worker leaves the post
  pub end_look_kept : (claimed : Bool) → slice_get threads who ≡ Some (Looking claimed)
      → IsKept (set threads who (Looked claimed)) pool is_locked false is_queued
  end_look_kept claimed at =
      let m = moved threads who (Looking claimed) (Looked claimed) at in
      record {
        counted = record {
          workers = omega arith;
          idle = omega arith;
          arriving = omega arith;
          least = kept.counted.least;
          unset = kept.counted.unset;
        };
        guarded = record {
          locked = omega arith;
          manned = omega arith;
          told = λ u. kept.guarded.told (omega arith);
        };
        served =
            record {
              served = λ s a. let before = kept.served.served (omega arith) (omega arith) in
                  omega arith;
              within = λ s a.
                  let before = kept.served.within (omega arith) (omega arith) in omega arith;
            };
      }

  -- nobody is claimed
  pub no_claim_kept : (bell : BellKind) (next : Next)
      → slice_get threads who ≡ Some (Called bell next)
      → IsKept (set threads who (Claimed bell next)) pool is_locked is_manned is_queued
  no_claim_kept bell next at =
      let m = moved threads who (Called bell next) (Claimed bell next) at in
      record {
        counted = record {
          workers = omega arith;
          idle = omega arith;
          arriving = omega arith;
          least = kept.counted.least;
          unset = kept.counted.unset;
        };
        guarded =
            record { locked = omega arith; manned = omega arith; told = λ u. absurd (omega arith) };
        served =
            record {
              served = λ s a. let before = kept.served.served (omega arith) (omega arith) in
                  omega arith;
              within = λ s a.
                  let before = kept.served.within (omega arith) (omega arith) in omega arith;
            };
      }

  -- whoever looks is told
  pub tell_kept : (bell : BellKind) (next : Next) (told : Bool)
      → slice_get threads who ≡ Some (Claimed bell next) → told ≡ has_job pool
      → IsKept (set threads who (Told bell next)) pool is_locked is_manned told
  tell_kept bell next told at same =
      let m = moved threads who (Claimed bell next) (Told bell next) at in
      record {
        counted = record {
          workers = omega arith;
          idle = omega arith;
          arriving = omega arith;
          least = kept.counted.least;
          unset = kept.counted.unset;
        };
        guarded = record { locked = omega arith; manned = omega arith; told = λ u. same };
        served =
            record {
              served = λ s a. let before = kept.served.served (omega arith) (omega arith) in
                  omega arith;
              within = λ s a.
                  let before = kept.served.within (omega arith) (omega arith) in omega arith;
            };
      }

  -- a ring of one claims a worker that looks, and is heard by it
  pub claim_kept : (looker : ℕ) (next : Next) → slice_get threads who ≡ Some (Called One next)
      → slice_get threads looker ≡ Some (Looking false)
      → IsKept (set (set threads looker (Looking true)) who (Claimed Silent next)) pool is_locked
      false is_queued
  claim_kept looker next at looks =
      let m = moved threads looker (Looking false) (Looking true) looks in
      let n = moved (set threads looker (Looking true)) who (Called One next) (Claimed Silent next)
      (stays threads looker who (Looking false) (Looking true) (Called One next) looks at
      (λ same. absurd (cc))) in
      record {
        counted = record {
          workers = omega arith;
          idle = omega arith;
          arriving = omega arith;
          least = kept.counted.least;
          unset = kept.counted.unset;
        };
        guarded =
            record { locked = omega arith; manned = omega arith; told = λ u. absurd (omega arith) };
        served =
            record {
              served = λ s a. let before = kept.served.served (omega arith) (omega arith) in
                  omega arith;
              within = λ s a.
                  let before = kept.served.within (omega arith) (omega arith) in omega arith;
            };
      }

  -- such a claim is made under the lock, takes one worker, and leaves its ring with it
  pub claims_one : (looker : ℕ) (next : Next) → slice_get threads who ≡ Some (Called One next)
      → slice_get threads looker ≡ Some (Looking false)
      → ClaimsOne threads (set (set threads looker (Looking true)) who (Claimed Silent next))
  claims_one looker next at looks =
      let m = moved threads looker (Looking false) (Looking true) looks in
      let n = moved (set threads looker (Looking true)) who (Called One next) (Claimed Silent next)
      (stays threads looker who (Looking false) (Looking true) (Called One next) looks at
      (λ same. absurd (cc))) in
      let once : one_if is_locked ≤ 1 = one_if-le is_locked in
      let held = kept.guarded.locked in
      record { under_lock = omega arith; taken = omega arith; ring = omega arith }
