-- The invariants in other words.
use Rattle.std.proofs.Common.{◌≡◌, ℕ, zero, suc, ◌+◌, ◌<◌, ◌≤◌, Bool, List, [], ◌∷◌, refl, arith}
use Rattle.std.proofs.lemmas.Bool.{ltb-true}
use Rattle.std.proofs.lemmas.List.Sums.{sum_by-cons}
use Rattle.blocking_pool.specs.Jobs.{one_if}
use Rattle.blocking_schedule.specs.declared.place.Place.{Place}
use Rattle.blocking_schedule.specs.declared.counts.PoolCounts.{PoolCounts}
use Rattle.blocking_schedule.specs.Places.{ring_at, all_at, drop_at, rings, alls, drops, holders}
use Rattle.blocking_schedule.specs.Kept.{IsKept}
use Rattle.blocking_schedule.specs.Readings.{IsOnTheWay, NobodyIsForgotten, EachHasItsRing}
use Rattle.blocking_schedule.specs.Readings.{FewHaveNone, NobodySleepsOverTheLimit}
use Rattle.blocking_schedule.proofs.Numbers.{one_if-le}

-- where the sum counts something some thread does
some_counts : (threads : List Place) → 0 < (rings threads + alls threads) + drops threads
    → IsOnTheWay threads
some_counts [] some = absurd (omega arith)
some_counts (at ∷ threads) some =
    let r = sum_by-cons ring_at at threads in
    let a = sum_by-cons all_at at threads in
    let d = sum_by-cons drop_at at threads in
    let rest : (ring_at at + all_at at) + drop_at at ≡ 0
    → 0 < (rings threads + alls threads) + drops threads = λ is. omega arith in
    by_head ((ring_at at + all_at at) + drop_at at) refl rest (λ more. some_counts threads more)
  where
    by_head : (count : ℕ) → (ring_at at + all_at at) + drop_at at ≡ count
        → (count ≡ 0 → 0 < (rings threads + alls threads) + drops threads)
        → (0 < (rings threads + alls threads) + drops threads → IsOnTheWay threads)
        → IsOnTheWay (at ∷ threads)
    by_head (suc count) is rest tail = record { who = 0; at = at; is = refl; counts = omega arith }
    by_head zero is rest tail =
        let found = tail (rest refl) in
        record { who = suc found.who; at = found.at; is = found.is; counts = found.counts }

module _ (threads : List Place) (pool : PoolCounts) (is_locked is_manned is_queued : Bool)
    (kept : IsKept threads pool is_locked is_manned is_queued) where
  pub nobody_is_forgotten : NobodyIsForgotten threads pool
  nobody_is_forgotten sleeps queued =
      some_counts threads (by_alls (alls threads) refl)
    where
      by_alls : (count : ℕ) → alls threads ≡ count
          → 0 < (rings threads + alls threads) + drops threads
      by_alls zero is =
          let some = ltb-true 0 (pool.rung + pool.swept) queued in
          let served = kept.served.served sleeps is in
          omega arith
      by_alls (suc count) is = omega arith

  pub each_has_its_ring : EachHasItsRing threads pool
  each_has_its_ring sleeps quiet none dropped = let served = kept.served.served sleeps quiet in
      omega arith

  pub few_have_none : FewHaveNone threads pool
  few_have_none sleeps quiet = let served = kept.served.served sleeps quiet in omega arith

  pub nobody_sleeps_over_the_limit : NobodySleepsOverTheLimit threads pool
  nobody_sleeps_over_the_limit sleeps over = by_alls (alls threads) refl
    where
      by_alls : (count : ℕ) → alls threads ≡ count → 0 < alls threads
      by_alls zero is = let within = kept.served.within sleeps is in absurd (omega arith)
      by_alls (suc count) is = omega arith

  pub alone : holders threads ≤ 1
  alone = let once : one_if is_locked ≤ 1 = one_if-le is_locked in let held = kept.guarded.locked in
      omega arith
