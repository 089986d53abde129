-- What sweeps and waits do, with the growth that was read.
use Rattle.std.proofs.Common.{◌≤◌, ◌≡◌, ℕ, ◌+◌, ◌<◌, arith, ◌∙◌, Bool, true, false, List, [], ◌∷◌}
use Rattle.std.proofs.Common.{length, ap, subst, sym, refl, ◌&&◌, Option}
use Rattle.std.proofs.lemmas.List.Elements.{filter_agree}
use Rattle.blocking_world_pool.proofs.Types.{Waited, Stay, Stop, WorkerPass, Ticket}
use Rattle.blocking_world_pool.proofs.Words.{limit_of, greatest, Asking, Growth, number_after, Job}
use Rattle.blocking_world_pool.proofs.Words.{Jobs, jobs_after_requeue, is_parked_job, StaysOrStops}
use Rattle.blocking_world_pool.proofs.Words.{IsSound, ready, serials_below, AreAsked, swept, joined}
use Rattle.blocking_world_pool.proofs.Words.{NoneDue, no_growth, JobPool, is_due_to_sweep, to_sweep}
use Rattle.blocking_world_pool.proofs.Words.{AreValued, SweepsTo, SweepsIf, WaitsSo}
use Rattle.std.specs.FinMap as map
use Rattle.blocking_pool.specs.PoolAnswers.{Sweeps as CoreSweeps, SweepsTo as CoreSweepsTo}
use Rattle.blocking_pool.specs.PoolAnswers.{SweepsIf as CoreSweepsIf, Waits as CoreWaits}
use Rattle.blocking_world_pool.proofs.growth.Calls.{is_marked_so, enters_again}
use Rattle.blocking_world_pool.proofs.growth.Reads.{IsRead, numbers_last}
use Rattle.blocking_world_pool.proofs.jobs.Tickets.{swept_valued, none_due, sweeps_nothing}

due_is : (jobs : Jobs Ticket) (marked : ℕ → Bool) (serial : ℕ) (found : Option (Job Ticket))
    → map.get jobs serial ≡ found → AreValued jobs → AreAsked is_marked_so jobs marked
    → (is_parked_job found && marked serial) ≡ is_due_to_sweep found
due_is jobs marked serial found at valued asked = grind arith

none_again : (asking : Asking) (old new : JobPool) (serials : List ℕ) → length serials ≡ 0
    → CoreSweepsTo asking old serials new → SweepsTo asking.may_answer old serials no_growth new
none_again asking old new serials none effect = grind arith

some_again : (asking : Asking) (old new : JobPool) (serials : List ℕ) (seen : Growth)
    → (length serials ≡ 0 → ⊥) → CoreSweepsTo asking old serials new
    → IsRead (length (ready new)) old.counts.workers (limit_of old.counts) new.counts seen
    → SweepsTo asking.may_answer old serials seen new
some_again asking old new [] seen some effect read = absurd (some refl)
some_again asking old new (serial ∷ serials) seen some effect read =
    enters_again asking old new (serial ∷ serials) seen effect read

-- ---- what a sweep leaves

-- What these leave that enter again, or none where there are none; as many idle workers have
-- arrived as before.
pub record LeftBySweep (old new : JobPool) (serials : List ℕ) (growth : Growth) : Type 0 where
  pub jobs : new.jobs ≡ jobs_after_requeue old.jobs serials
  pub line : new.queue ≡ joined old.queue serials
  pub serial : new.next_serial ≡ old.next_serial
  pub level : new.counts.idle + old.counts.arriving ≡ old.counts.idle + new.counts.arriving
  pub setting : new.counts.setting ≡ old.counts.setting
  pub next : new.counts.next_worker
      ≡ number_after (old.counts.next_worker + growth.started) growth.refused
  pub numbers : old.counts.next_worker ≤ greatest
      → old.counts.next_worker + growth.started ≤ greatest

pub left_by :
    (may_answer : ℕ → Bool → Type 0) (old new : JobPool) (serials : List ℕ) (growth : Growth)
    → SweepsTo may_answer old serials growth new → LeftBySweep old new serials growth
left_by may_answer old new serials growth sweeps = grind (arith, numbers_last)

pub sweep_level : (timed_out : Bool) (may_answer : ℕ → Bool → Type 0) (old new : JobPool)
    (growth : Growth) → SweepsIf timed_out may_answer old growth new
    → new.counts.idle + old.counts.arriving ≡ old.counts.idle + new.counts.arriving
sweep_level timed_out may_answer old new growth sweeps = grind arith

pub sweep_serial :
    (timed_out : Bool) (may_answer : ℕ → Bool → Type 0) (old new : JobPool) (growth : Growth)
    → SweepsIf timed_out may_answer old growth new → new.next_serial ≡ old.next_serial
sweep_serial timed_out may_answer old new growth sweeps = grind arith

pub sweep_limit :
    (timed_out : Bool) (may_answer : ℕ → Bool → Type 0) (old new : JobPool) (growth : Growth)
    → SweepsIf timed_out may_answer old growth new → new.client_limit ≡ old.client_limit
sweep_limit timed_out may_answer old new growth sweeps = grind arith

-- What a sweep does: these are put back, each job that doesn't run has its ticket, and none is due
-- any more.
pub record HasSwept (may_answer : ℕ → Bool → Type 0) (old : JobPool) (told : ℕ) (growth : Growth)
    (new : JobPool) : Type 0 where
  pub count : told ≡ length (to_sweep old)
  pub after : SweepsTo may_answer old (to_sweep old) growth new
  pub valued : AreValued new.jobs
  pub due : NoneDue new

module _ (asking : Asking) (old new : JobPool) (count : ℕ) (valued : AreValued old.jobs)
    (sweeps : CoreSweeps is_marked_so asking old count new) where
  -- the tickets tell what is put back
  as_told : swept old.jobs sweeps.marked (serials_below old.next_serial) ≡ to_sweep old
  as_told =
      filter_agree _ _ (λ serial. due_is old.jobs sweeps.marked serial (map.get old.jobs serial)
      refl valued sweeps.asked) (serials_below old.next_serial)

  told : count ≡ length (to_sweep old)
  told = sweeps.counted ∙ ap length as_told

  pub sweeps_so : CoreSweepsTo asking old (to_sweep old) new
  sweeps_so =
      subst (λ (serials : List ℕ). CoreSweepsTo asking old serials new) as_told sweeps.effect

  has_swept : (growth : Growth)
      → IsSound old → SweepsTo asking.may_answer old (to_sweep old) growth new
      → HasSwept asking.may_answer old count growth new
  has_swept growth sound after = grind (arith, left_by, swept_valued, none_due)

  pub swept_none : IsSound old → count ≡ 0 → HasSwept asking.may_answer old count no_growth new
  swept_none sound none = has_swept no_growth sound
      (none_again asking old new (to_sweep old) (sym told ∙ none) sweeps_so)

  pub swept_some : (seen : Growth) → IsSound old → (count ≡ 0 → ⊥)
      → IsRead (length (ready new)) old.counts.workers (limit_of old.counts) new.counts seen
      → HasSwept asking.may_answer old count seen new
  swept_some seen sound some read = has_swept seen sound
      (some_again asking old new (to_sweep old) seen (λ none. some (told ∙ none)) sweeps_so read)

-- ---- waits

-- a second sweep puts nothing back
again_nothing : (asking : Asking) (timed_out : Bool) (old new : JobPool) → AreValued old.jobs
    → (timed_out ≡ true → NoneDue old) → CoreSweepsIf timed_out is_marked_so asking old new
    → new ≡ old
again_nothing asking false old new valued none sweeps = sweeps.0
again_nothing asking true old new valued none sweeps =
    (subst (λ (serials : List ℕ). CoreSweepsTo asking old serials new)
    (sweeps_nothing old (none refl)) (sweeps_so asking old new sweeps.0 valued sweeps.1)).0

-- the pool's wait, after a sweep that was made first
pub waits_after_sweep : (asking : Asking) (timed_out : Bool) (old new : JobPool) (waited : Waited)
    → AreValued old.jobs → (timed_out ≡ true → NoneDue old)
    → CoreWaits is_marked_so asking timed_out old waited new → StaysOrStops timed_out old waited new
waits_after_sweep asking timed_out old new waited valued none waits = grind (arith, again_nothing)

-- of the pool a wait changes at most how many workers there are, and the bell
pub wait_alone : (timed_out : Bool) (old new : JobPool) (waited : Waited)
    → StaysOrStops timed_out old waited new
    → new ≡ record old {
      counts = record old.counts {
        workers = new.counts.workers;
        idle = new.counts.idle;
        bell = new.counts.bell;
      };
    }
wait_alone timed_out old new waited answer = grind arith

-- after a wait
module _ (may_answer : ℕ → Bool → Type 0) (timed_out : Bool) (old new : JobPool) (waited : Waited)
    (growth : Growth) (waits : WaitsSo may_answer timed_out old waited growth new) where
  level : waits.between.counts.idle + old.counts.arriving
      ≡ old.counts.idle + waits.between.counts.arriving
  level = sweep_level timed_out may_answer old waits.between growth waits.sweep

  -- as many idle workers have arrived as before, but for the one that stops
  pub stay_levels : (pass : WorkerPass) → waited ≡ Stay pass
      → new.counts.idle + old.counts.arriving ≡ old.counts.idle + new.counts.arriving
  stay_levels pass stays = rw ((rw stays at waits.answer).1) level

  pub stop_levels : waited ≡ Stop → old.counts.arriving < old.counts.idle
      → new.counts.idle + 1 + old.counts.arriving ≡ old.counts.idle + new.counts.arriving
  stop_levels stops free = rw ((rw stops at waits.answer).1) (omega (arith, level, free))

  -- where nothing is due and the queue is empty, a worker whose time is up doesn't stay
  pub no_stay : (pass : WorkerPass) → timed_out ≡ true → waited ≡ Stay pass → NoneDue old
      → old.queue ≡ [] → ⊥
  no_stay pass late stays none empty = grind (arith, sweeps_nothing)
