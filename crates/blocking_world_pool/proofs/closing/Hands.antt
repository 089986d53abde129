-- What is known of the hands while a world ends is kept, as first every turn ends and then the
-- workers are let go.
use Rattle.std.proofs.Common.{◌≡◌, ℕ, ◌+◌, ◌-◌, ◌≤◌, List, [], ◌∷◌, ◌++◌, length, slice_get}
use Rattle.std.proofs.Common.{slice_set, Some, ap, ◌∙◌, subst, refl, arith, true}
use Rattle.std.specs.List.{AllWithin}
use Rattle.std.proofs.lemmas.Bool.{eq-eqb}
use Rattle.std.proofs.lemmas.Option.{slice_get_within, get_or_from_slice_get}
use Rattle.blocking_world_pool.proofs.Types.{Hand, Free, Holds, Out, JobInHand}
use Rattle.blocking_world_pool.proofs.Words.{without_job, RunsIn, AreIdle, one_if_free, free_hands}
use Rattle.blocking_world_pool.proofs.Words.{IsReady, JobPool, AreValued}
use Rattle.blocking_world_pool.specs.Closing.{EndsTurn}
use Rattle.blocking_pool.proofs.Places.{got_pushed, got_before, set_same}
use Rattle.blocking_world_pool.proofs.hands.Rows.{sum_pushed, hand_from_place}
use Rattle.blocking_world_pool.proofs.ready.Hands.{over_ready}

-- ---- one turn

-- what is in a hand of a crew runs
pub runs_at : (pool : JobPool) (row : List Hand) (n : ℕ) (hand : Hand)
    → IsReady (record { pool = pool; hands = row }) → slice_get row n ≡ Some hand
    → RunsIn pool.jobs hand
runs_at pool row n hand ready found = grind (arith, hand_from_place)

-- a hand that holds no job
abbrev pub HoldsNone : Hand → Type 0
HoldsNone hand = (held : JobInHand) → hand ≡ Holds held → ⊥

-- a hand after its turn has ended
pub ended_holds_none : (hand after : Hand) (pool new : JobPool) → EndsTurn hand pool after new
    → HoldsNone after
ended_holds_none hand after pool new ends held is = grind arith

-- a crew is ready after the turn of one hand has ended, where it had one
pub still_ready : (pool new : JobPool) (row : List Hand) (place : ℕ) (hand after : Hand)
    → IsReady (record { pool = pool; hands = row }) → slice_get row place ≡ Some hand
    → EndsTurn hand pool after new
    → IsReady (record { pool = new; hands = slice_set row place after })
still_ready pool new row place Out after ready found ends =
    rw (ends.0, ends.1, set_same row place Out found) ready
still_ready pool new row place (Free pass) after ready found ends =
    rw (ends.0, ends.1, set_same row place (Free pass) found) ready
still_ready pool new row place (Holds held) after ready found ends =
    let here : place + 1 - 1 ≡ place = omega arith in
    rw (ends.1, ends.2)
    (subst (λ n. IsReady (record {
      pool = without_job pool held.turn.serial;
      hands = slice_set row n (Free ends.0);
    })) here
    (over_ready (record { pool = pool; hands = row }) (place + 1) held ends.0 ready
    (hand_from_place row place (Holds held) found)))

-- after all turns no hand holds a job
pub all_idle : (pool : JobPool) (hands : List Hand)
    → IsReady (record { pool = pool; hands = hands }) → AllWithin HoldsNone hands 0 (length hands)
    → AreIdle pool hands
all_idle pool row ready jobless = grind (arith, slice_get_within, get_or_from_slice_get)

-- ---- one pass

module _ (pool : JobPool) (hands row : List Hand) (hand : Hand) (popped : hands ≡ row ++ hand ∷ [])
    (idle : AreIdle pool hands) where
  whole : AreIdle pool (row ++ hand ∷ [])
  whole = subst (λ (h : List Hand). AreIdle pool h) popped idle

  -- the last hand holds no job
  pub last_jobless : (held : JobInHand) → hand ≡ Holds held → ⊥
  last_jobless held is = whole.jobless (length row) held
      (got_pushed row hand (length row) true (eq-eqb (length row) (length row) refl) ∙ ap Some is)

  -- a free hand is that of an idle worker
  pub last_free : pool.counts.arriving + one_if_free hand ≤ pool.counts.idle
  last_free = let level = whole.idle in let more = sum_pushed one_if_free row hand in
      omega (arith, level, more)

  -- the other hands, after the last worker was let go
  pub rest_idle : (new : JobPool) → AreValued new.jobs
      → ((rest : ℕ) → pool.counts.idle ≡ pool.counts.arriving + (one_if_free hand + rest)
      → new.counts.idle ≡ new.counts.arriving + rest)
      → AreIdle new row
  rest_idle new valued level = record {
    valued = valued;
    idle = level (free_hands row) (let now = whole.idle in
        let more = sum_pushed one_if_free row hand in omega (arith, now, more));
    jobless = λ n held found. whole.jobless n held
        (got_before row hand n (slice_get_within row n (Holds held) found) ∙ found);
  }
