-- A move that there may be under some answers of a starter may be there under more of them.
use Rattle.std.proofs.Common.{ℕ, List, [], ◌∷◌, Bool, length, Ok, Err, arith}
use Rattle.blocking_world_pool.proofs.Types.{NoWorker, Entered}
use Rattle.blocking_world_pool.proofs.Words.{Counts, after_pickup, Narrows, Growth, ready}
use Rattle.blocking_world_pool.proofs.Words.{ready_with, has_timed_out, Crew, Move, Adds, TakesJob}
use Rattle.blocking_world_pool.proofs.Words.{HasWaited, Sweeps, IsWoken, IsCancelled, May, JobPool}
use Rattle.blocking_world_pool.proofs.Words.{GrowsBy, EntersAgain, to_sweep, SweepsTo, SweepsIf}

module _ (wide narrow : ℕ → Bool → Type 0) (more : Narrows wide narrow) where
  grows : (ready : ℕ) (counts : Counts) (growth : Growth) → GrowsBy narrow ready counts growth
      → GrowsBy wide ready counts growth
  grows ready counts growth g = grind arith

  again : (old : JobPool) (serials : List ℕ) (growth : Growth) (new : JobPool)
      → EntersAgain narrow old serials growth new → EntersAgain wide old serials growth new
  again old serials growth new e =
      record { starts = grows (length _) old.counts growth e.starts; after_is = e.after_is }

  sweeps : (old : JobPool) (serials : List ℕ) (growth : Growth) (new : JobPool)
      → SweepsTo narrow old serials growth new → SweepsTo wide old serials growth new
  sweeps old serials growth new s = grind arith

  sweeps_if : (late : Bool) (old : JobPool) (growth : Growth) (new : JobPool)
      → SweepsIf late narrow old growth new → SweepsIf late wide old growth new
  sweeps_if late old growth new s = grind arith

  -- A move under some answers is one under more.
  pub may_more : (crew : Crew) (move : Move) → May narrow crew move → May wide crew move
  may_more crew (Adds who c (Ok number) growth pool) may =
      record {
        serial = may.serial;
        left = may.left;
        unused = may.unused;
        starts = grows (length (ready pool)) crew.pool.counts growth may.starts;
        staffed = may.staffed;
        after_is = may.after_is;
      }
  may_more crew (Adds who c (Err NoWorker) growth pool) may =
      record {
        left = may.left;
        starts = grows (ready_with crew.pool c) crew.pool.counts growth
            may.starts;
        unstaffed = may.unstaffed;
        after_is = may.after_is;
      }
  may_more crew (TakesJob v old to_drop number ticket growth pool) may = (
    may.0,
    record {
      front = may.1.front;
      once = may.1.once;
      job = may.1.job;
      found = may.1.found;
      stands = may.1.stands;
      place = may.1.place;
      value_is = may.1.value_is;
      wanted = may.1.wanted;
      starts = grows (length (ready pool)) (after_pickup crew.pool.counts) growth may.1.starts;
      after_is = may.1.after_is;
    },
  )
  may_more crew (HasWaited v pass end waited growth pool) may = (
    may.0,
    record {
      between = may.1.between;
      sweep = sweeps_if (has_timed_out end) crew.pool
          growth may.1.between may.1.sweep;
      answer = may.1.answer;
    },
  )
  may_more crew (Sweeps growth pool) may = sweeps crew.pool (to_sweep crew.pool) growth pool may
  may_more crew (IsWoken who number Entered growth pool) may = record {
    answer = may.answer;
    effect = again crew.pool (number.serial ∷ []) growth pool may.effect;
  }
  may_more crew (IsWoken who number _ growth pool) may =
      record { answer = may.answer; effect = may.effect }
  may_more crew (IsCancelled who number Entered growth pool) may =
      record { answer = may.answer; effect = again _ (number.serial ∷ []) growth pool may.effect }
  may_more crew (IsCancelled who number _ growth pool) may =
      record { answer = may.answer; effect = may.effect }
  may_more crew move may = may
