-- Growth: which starts are due, which are refused, and what a growth leaves.
use Rattle.std.specs.Prelude.{◌≡◌, ℕ, ◌+◌, ◌*◌, ◌<◌, ◌==◌, ◌&&◌, nat_lt, max, if◌then◌else◌, Bool}
use Rattle.std.specs.Prelude.{true, false, not, Some, MatchBool}
use Rattle.blocking_pool.specs.declared.pool.bell.BellKind.{BellKind}
use Rattle.blocking_pool.specs.declared.pool.bell.BellKind.TheVariants.{Silent, All}
use Rattle.blocking_pool.specs.Counts.{Counts, limit_of, louder}

-- the greatest number of 64 bits, which is given to nothing
abbrev pub greatest : ℕ
greatest = 18446744073709551615

-- Whether one more start is due after m starts: more jobs are ready than five times the idle
-- workers, and there are fewer workers than the limit.
abbrev pub is_due : ℕ → ℕ → ℕ → ℕ → ℕ → Bool
is_due ready idle workers limit m = nat_lt (5 * (idle + m)) ready && nat_lt (workers + m) limit

-- What is asked of a starter: how it may answer the start of each number (true: it is refused), and
-- how many starts it had refused before, and has refused after.
pub record Asking : Type 1 where
  pub may_answer : ℕ → Bool → Type 0
  pub refusals_before : ℕ
  pub refusals_after : ℕ

-- no start was refused that was asked for
abbrev pub RefusesNone : Asking → Type 0
RefusesNone asking = asking.refusals_after ≡ asking.refusals_before

-- each start that may be answered so now might have been answered so before
abbrev pub Narrows : (ℕ → Bool → Type 0) → (ℕ → Bool → Type 0) → Type 0
Narrows may_answer may_still = (number : ℕ) (refused : Bool) → may_still number refused
    → may_answer number refused

-- how the start of this number may be answered (true: it is refused): the greatest number is always
-- refused
abbrev pub StartAnswer : (ℕ → Bool → Type 0) → ℕ → Bool → Type 0
StartAnswer may_answer number refused =
    MatchBool (number == greatest) (refused ≡ true) (may_answer number refused)

-- a growth: how many workers were started, and whether the start after them was refused
pub record Growth : Type 0 where
  pub started : ℕ
  pub refused : Bool

-- The starts of a growth: each one that was made was due and wasn't refused, and the next one is
-- due exactly where it was refused. Starts are numbered on from the first.
pub record IsGrowth (answer : ℕ → Bool → Type 0) (ready idle workers limit first : ℕ)
    (growth : Growth) : Type 0 where
  pub each : (m : ℕ) → m < growth.started
      → (is_due ready idle workers limit m ≡ true) × answer (first + m) false
  pub next : is_due ready idle workers limit growth.started ≡ growth.refused
  pub cause : growth.refused ≡ true → answer (first + growth.started) true

-- the number after this start: a refused start uses its number up, but the greatest number stays
abbrev pub number_after : ℕ → Bool → ℕ
number_after number false = number
number_after number true = if number == greatest then number else number + 1

-- the limit that a growth leaves: a refused start lowers it to the workers then, and at least to 1
abbrev pub limit_after : ℕ → ℕ → Bool → ℕ
limit_after limit workers false = limit
limit_after limit workers true = max 1 workers

-- all workers are notified where one was started
abbrev pub ring_of : Growth → BellKind
ring_of growth = if growth.started == 0 then Silent else All

-- the counts after a growth
abbrev pub after_growth : Counts → Growth → Counts
after_growth counts growth =
    record {
      workers = counts.workers + growth.started;
      idle = counts.idle + growth.started;
      arriving = counts.arriving + growth.started;
      limit = Some (limit_after (limit_of counts) (counts.workers + growth.started) growth.refused);
      setting = counts.setting;
      next_worker = number_after (counts.next_worker + growth.started) growth.refused;
      bell = louder (ring_of growth) counts.bell;
    }

-- a starter's count of refusals rises by one exactly where it was asked and refused, so it is asked
-- once
abbrev pub Refusals : Bool → ℕ → ℕ → Type 0
Refusals true before after = after ≡ before + 1
Refusals false before after = after ≡ before

-- whether the refused start of a growth was asked for: the greatest number isn't
abbrev pub was_asked : Counts → Growth → Bool
was_asked counts growth = growth.refused && not (counts.next_worker + growth.started == greatest)

-- What a growth does for so many ready jobs.
pub record Grows (asking : Asking) (ready : ℕ) (old new : Counts) (growth : Growth) : Type 0 where
  pub starts : IsGrowth (StartAnswer asking.may_answer) ready old.idle old.workers (limit_of old)
      old.next_worker growth
  pub counts : new ≡ after_growth old growth
  pub refusals : Refusals (was_asked old growth) asking.refusals_before asking.refusals_after

-- one worker more, not arrived yet; all are notified
abbrev pub one_more : Counts → Counts
one_more counts =
    record {
      workers = counts.workers + 1;
      idle = counts.idle + 1;
      arriving = counts.arriving + 1;
      limit = counts.limit;
      setting = counts.setting;
      next_worker = counts.next_worker + 1;
      bell = All;
    }

-- a start that was refused
abbrev pub none_more : Counts → Counts
none_more counts = record counts {
  limit = Some (max 1 counts.workers);
  next_worker = number_after counts.next_worker true;
}
