-- Calls that make a job ready that wasn't notify a worker, and a take makes none ready.
use Rattle.std.proofs.Common.{◌≡◌, ℕ, ◌≤◌, Bool, true, false, not, eqb, if◌then◌else◌, ltb, List}
use Rattle.std.proofs.Common.{[], ◌∷◌, Option, Some, None, Result, Ok, Err, refl, ap, ◌∙◌, subst}
use Rattle.std.proofs.Common.{sym, inl, inr, arith}
use Rattle.std.proofs.lemmas.Bool.{cases_eq, cases_lt, and_parts, lt-ltb, ltb-true, false≢true}
use Rattle.std.specs.FinMap.{get}
use Rattle.blocking_pool.specs.Clients.{is_below}
use Rattle.blocking_pool.specs.Counts.{Counts, after_ring, louder}
use Rattle.blocking_pool.specs.Growth.{Asking}
use Rattle.blocking_pool.specs.Jobs.{Job, JobNumber, entry_after_take, is_running, entry_after_wake}
use Rattle.blocking_pool.specs.Jobs.{entry_after_cancel, amend}
use Rattle.blocking_pool.specs.Lists.{is_in}
use Rattle.blocking_pool.specs.PoolAnswers.{Adds, Takes, Wakes, WakesTo, Cancels, CancelsTo, Sweeps}
use Rattle.blocking_pool.specs.PoolAnswers.{SweepsTo, Waits, SweepsIf, StaysOrStops}
use Rattle.blocking_pool.specs.Pools.{Pool, has_room, ready, with_taken, TakesFront, EnterAgain}
use Rattle.blocking_pool.specs.Pools.{with_job, IsRefused, SetsClientLimit, ring_of_client_limit}
use Rattle.blocking_pool.specs.Ready.{client_of, is_running_for, running_of}
use Rattle.blocking_pool.specs.ReadyLaws.{is_loud, IsNewlyReady, RingsForReady, RingsAllForReady}
use Rattle.blocking_pool.specs.ReadyLaws.{MakesNoneReady}
use Rattle.blocking_pool.specs.declared.pool.answer.Refusal.TheVariants.{Memory, NoWorker, Numbers}
use Rattle.blocking_pool.specs.declared.pool.answer.Refused.{Refused}
use Rattle.blocking_pool.specs.declared.pool.answer.Refusal.{Refusal}
use Rattle.blocking_pool.specs.declared.pool.answer.Took.{Took}
use Rattle.blocking_pool.specs.declared.pool.answer.Took.TheVariants.{Run, Drop, Idle}
use Rattle.blocking_pool.specs.declared.pool.answer.Waited.{Waited}
use Rattle.blocking_pool.specs.declared.pool.answer.Waited.TheVariants.{Stay, Stop}
use Rattle.blocking_pool.specs.declared.pool.answer.Woke.{Woke}
use Rattle.blocking_pool.specs.declared.pool.answer.Woke.TheVariants.{Entered, Marked, Nothing}
use Rattle.blocking_pool.specs.declared.pool.bell.BellKind.{BellKind}
use Rattle.blocking_pool.specs.declared.pool.bell.BellKind.TheVariants.{Silent, One, All}
use Rattle.blocking_pool.proofs.CountLemmas.{count_less}
use Rattle.blocking_pool.proofs.Lists.{kept_in, filter_same, in_kept}
use Rattle.blocking_pool.proofs.PoolLemmas.{still_tally}
use Rattle.blocking_pool.proofs.SoundLemmas.{amend_each}
use Rattle.blocking_pool.proofs.TableLemmas.{at_insert_same, at_insert_other}

-- after one worker was notified, someone is
one_is_loud : (bell : BellKind) → is_loud (louder One bell) ≡ true
one_is_loud Silent = refl
one_is_loud One = refl
one_is_loud All = refl

-- all are, when all were notified
all_are : (bell : BellKind) → louder All bell ≡ All
all_are Silent = refl
all_are One = refl
all_are All = refl

-- a limit that isn't higher makes no job ready
lower : (limit earlier : Option ℕ) (n : ℕ) → ring_of_client_limit limit earlier ≡ Silent
    → is_below limit n ≡ true → is_below earlier n ≡ true
lower limit None n silent below = refl
lower None (Some earlier) n silent below = absurd (let e : All ≡ Silent = silent in cc)
lower (Some most) (Some earlier) n silent below =
    elim (cases_lt earlier most) [
      | inl higher ↦ absurd (let e : All ≡ Silent =
          sym (ap (λ b. if b then All else Silent) (lt-ltb earlier most higher)) ∙ silent in cc)
      | inr within ↦ let under = ltb-true n most below in
          lt-ltb n earlier (omega (arith, within, under))
    ]

-- a new limit notifies nobody or all
silent_or_all : (limit earlier : Option ℕ) (P : BellKind → Type 0)
    → (ring_of_client_limit limit earlier ≡ Silent → P Silent) → P All
    → P (ring_of_client_limit limit earlier)
silent_or_all limit None P silent all = silent refl
silent_or_all None (Some earlier) P silent all = all
silent_or_all (Some most) (Some earlier) P silent all = by_test (ltb earlier most) refl
  where
    by_test : (b : Bool) → ltb earlier most ≡ b → P (if b then All else Silent)
    by_test true is = all
    by_test false is = silent (ap (λ b. if b then All else Silent) is)

-- what is below a limit is, where fewer are counted
fewer : (limit : Option ℕ) (n m : ℕ) → n ≤ m → is_below limit m ≡ true → is_below limit n ≡ true
fewer None n m less below = refl
fewer (Some most) n m less below = let under = ltb-true m most below in
    lt-ltb n most (omega (arith, less, under))

module _ {J : Type 0} where
  -- where a job is taken, no other is ready that wasn't
  taken_none : (old : Pool J) (serial : ℕ) (job : Job J) → get old.jobs serial ≡ Some job
      → MakesNoneReady old (with_taken old serial job)
  taken_none old serial job found s now =
      let parts = kept_in (λ n. has_room new (client_of (get new.jobs n))) s new.queue now in
      in_kept (λ n. has_room old (client_of (get old.jobs n))) s old.queue
      (kept_in (λ other. not (eqb serial other)) s old.queue parts.0).0
      (fewer old.client_limit _ _ (more (client_of (get old.jobs s)))
      (ap (has_room new) (sym (same_client s)) ∙ parts.1))
    where
      new : Pool J
      new = with_taken old serial job

      there : get new.jobs serial ≡ Some (entry_after_take job)
      there = at_insert_same old.jobs serial (entry_after_take job)

      same_client : (n : ℕ) → client_of (get new.jobs n) ≡ client_of (get old.jobs n)
      same_client n =
          elim (cases_eq n serial) [
            | inl same ↦ ap (λ m. client_of (get new.jobs m)) same ∙ ap client_of there
                ∙ sym (ap (λ m. client_of (get old.jobs m)) same ∙ ap client_of found)
            | inr far ↦ ap client_of (at_insert_other old.jobs serial (entry_after_take job) n far)
          ]

      still : (c n : ℕ) → is_running_for c (get old.jobs n) ≡ true
          → is_running_for c (get new.jobs n) ≡ true
      still c n runs =
          elim (cases_eq n serial) [
            | inl same ↦ ap (λ m. is_running_for c (get new.jobs m)) same
                ∙ ap (is_running_for c) there
                ∙ (and_parts (is_running job.standing)
                (eqb job.client c) (sym (ap (is_running_for c) found)
                ∙ ap (λ m. is_running_for c (get old.jobs m)) (sym same) ∙ runs)).1
            | inr far ↦ ap (is_running_for c)
                (at_insert_other old.jobs serial (entry_after_take job) n far) ∙ runs
          ]

      more : (c : ℕ) → running_of old.jobs c old.next_serial ≤ running_of new.jobs c old.next_serial
      more c = count_less (λ n. is_running_for c (get old.jobs n))
          (λ n. is_running_for c (get new.jobs n)) old.next_serial (still c)

  front_none : (may_mark : J → Bool → Type 0) (asking : Asking)
      (old : Pool J) (number : JobNumber) (value : J) (to_drop : Bool) (new : Pool J)
      → TakesFront may_mark asking old number value to_drop new → MakesNoneReady old new
  front_none may_mark asking old number value to_drop new takes s now = taken_none old number.serial
      takes.job takes.found s (ap (λ p. is_in s (ready p)) (sym takes.after_is) ∙ now)

  pub takes_none : (may_mark : J → Bool → Type 0) (asking : Asking) (old : Pool J) (took : Took J)
      (new : Pool J) → Takes may_mark asking old took new → MakesNoneReady old new
  takes_none may_mark asking old (Run turn value) new takes s now =
      front_none may_mark asking old turn value false new takes s now
  takes_none may_mark asking old (Drop turn value) new takes s now =
      front_none may_mark asking old turn value true new takes s now
  takes_none may_mark asking old (Idle pass) new idle s now =
      ap (λ p. is_in s (ready p)) (sym idle.1) ∙ now

  -- where the same jobs are ready, none is newly so
  none_new : {P : Type 0} (old new : Pool J) (serial : ℕ) → ready new ≡ ready old
      → IsNewlyReady old new serial → P
  none_new old new serial same newly =
      absurd (false≢true (sym newly.1 ∙ ap (is_in serial) (sym same) ∙ newly.0))

  -- one worker was notified
  by_one : (old new : Pool J) (counts : Counts) → new.counts ≡ after_ring One counts
      → RingsForReady old new
  by_one old new counts rings serial newly =
      ap (λ c. is_loud c.bell) rings ∙ one_is_loud counts.bell

  -- a job changed, and stands as it did for its client
  with_job_ready : (pool : Pool J) (serial : ℕ) (change : Job J → Job J)
      → ((j : Job J) → (change j).standing ≡ j.standing)
      → ((j : Job J) → (change j).client ≡ j.client)
      → ready (with_job pool serial change) ≡ ready pool
  with_job_ready pool serial change alike whose =
      filter_same (λ s. has_room
      (with_job pool serial change) (client_of (get (amend pool.jobs serial change) s)))
      (λ s. has_room pool (client_of (get pool.jobs s))) pool.queue
      (λ s found.
      ap (has_room (with_job pool serial change)) (amend_each
      (λ new old. client_of new ≡ client_of old) pool.jobs serial change (λ j. refl) whose s)
      ∙ ap (is_below pool.client_limit) (ap (λ t. t.running) (still_tally pool.jobs serial
      pool.next_serial change alike whose (client_of (get pool.jobs s)))))

  -- a refused job leaves the others as they were
  refused_ready : (asking : Asking) (old new : Pool J) (client : ℕ) (why : Refusal)
      → IsRefused asking old client why new → ready new ≡ ready old
  refused_ready asking old new client Numbers is = ap ready is.1
  refused_ready asking old new client Memory is = ap ready is.1
  refused_ready asking old new client NoWorker is = ap ready is.after_is

  pub adds_ring : (asking : Asking)
      (old : Pool J) (client : ℕ) (value : J) (answer : Result JobNumber (Refused J)) (new : Pool J)
      → Adds asking old client value answer new → RingsForReady old new
  adds_ring asking old client value (Ok number) new enters serial newly =
      by_one old new enters.counts (ap (λ p. p.counts) enters.after_is) serial newly
  adds_ring asking old client value (Err refused) new is serial newly =
      none_new old new serial (refused_ready asking old new client refused.why is.1) newly

  -- jobs that enter again
  again_rings : (asking : Asking) (old first new : Pool J) (serials : List ℕ)
      → EnterAgain asking first serials new → RingsForReady old new
  again_rings asking old first new serials again =
      by_one old new again.counts (ap (λ p. p.counts) again.after_is)

  pub wakes_ring : (asking : Asking) (old : Pool J) (number : JobNumber) (woke : Woke)
      (new : Pool J) → Wakes asking old number woke new → RingsForReady old new
  wakes_ring asking old number woke new wakes = by_woke woke wakes.effect
    where
      by_woke : (woke : Woke) → WakesTo asking old number.serial woke new → RingsForReady old new
      by_woke Entered again serial newly =
          again_rings asking old old new (number.serial ∷ []) again serial newly
      by_woke Marked is serial newly = none_new old new serial (ap ready is.0
          ∙ with_job_ready old number.serial entry_after_wake (λ j. refl) (λ j. refl)) newly
      by_woke Nothing is serial newly = none_new old new serial (ap ready is.0) newly

  pub cancels_ring : (asking : Asking) (old : Pool J) (number : JobNumber) (woke : Woke)
      (new : Pool J) → Cancels asking old number woke new → RingsForReady old new
  cancels_ring asking old number woke new cancels = by_woke woke cancels.effect
    where
      by_woke : (woke : Woke) → CancelsTo asking old number.serial woke new → RingsForReady old new
      by_woke Entered again serial newly =
          again_rings asking old (with_job old number.serial entry_after_cancel) new
          (number.serial ∷ []) again serial newly
      by_woke Marked is serial newly = none_new old new serial (ap ready is.0
          ∙ with_job_ready old number.serial entry_after_cancel (λ j. refl) (λ j. refl)) newly
      by_woke Nothing is serial newly = none_new old new serial (ap ready is.0) newly

  swept_ring : (asking : Asking) (old new : Pool J) (serials : List ℕ)
      → SweepsTo asking old serials new → RingsForReady old new
  swept_ring asking old new [] is serial newly = none_new old new serial (ap ready is.0) newly
  swept_ring asking old new (s ∷ serials) again serial newly =
      again_rings asking old old new (s ∷ serials) again serial newly

  pub sweeps_ring : (may_mark : J → Bool → Type 0) (asking : Asking) (old : Pool J) (count : ℕ)
      (new : Pool J) → Sweeps may_mark asking old count new → RingsForReady old new
  sweeps_ring may_mark asking old count new sweeps = swept_ring asking old new _ sweeps.effect

  -- a worker that stays or stops changes no job, and nobody is notified less than before
  after_stay : (timed_out : Bool) (old between : Pool J) (waited : Waited) (new : Pool J)
      → RingsForReady old between → StaysOrStops timed_out between waited new
      → RingsForReady old new
  after_stay timed_out old between (Stay pass) new rings is serial newly = subst (λ p.
      IsNewlyReady old p serial → is_loud p.counts.bell ≡ true) (sym is.1) (rings serial) newly
  after_stay timed_out old between Stop new rings is serial newly =
      subst (λ p. IsNewlyReady old p serial → is_loud p.counts.bell ≡ true) (sym is.1)
      (λ n. still_loud _ between.counts.bell (rings serial n)) newly
    where
      still_loud : (ring bell : BellKind) → is_loud bell ≡ true → is_loud (louder ring bell) ≡ true
      still_loud Silent bell loud = loud
      still_loud One bell loud = one_is_loud bell
      still_loud All bell loud = refl

  pub waits_ring : (may_mark : J → Bool → Type 0)
      (asking : Asking) (timed_out : Bool) (old : Pool J) (waited : Waited) (new : Pool J)
      → Waits may_mark asking timed_out old waited new → RingsForReady old new
  waits_ring may_mark asking timed_out old waited new waits =
      after_stay timed_out old waits.between waited new (by_time timed_out waits.sweep) waits.answer
    where
      by_time : (timed_out : Bool) → SweepsIf timed_out may_mark asking old waits.between
          → RingsForReady old waits.between
      by_time false is serial newly = none_new old waits.between serial (ap ready is.0) newly
      by_time true sweeps serial newly =
          sweeps_ring may_mark asking old sweeps.0 waits.between sweeps.1 serial newly

  pub limits_ring : (limit : Option ℕ) (old new : Pool J) → SetsClientLimit limit old new
      → RingsAllForReady old new
  limits_ring limit old new sets serial newly =
      ap (λ p. p.counts.bell) sets
      ∙ silent_or_all limit old.client_limit (λ ring. louder ring old.counts.bell ≡ All)
      (λ silent. absurd (false≢true (sym newly.1 ∙ was silent))) (all_are old.counts.bell)
    where
      was : ring_of_client_limit limit old.client_limit ≡ Silent → is_in serial (ready old) ≡ true
      was silent =
          let found : is_in serial (ready (record old { client_limit = limit })) ≡ true =
          ap (λ p. is_in serial (ready p)) (sym sets) ∙ newly.0 in
          let parts = kept_in (λ s. has_room (record old { client_limit = limit })
          (client_of (get old.jobs s))) serial old.queue found in
          in_kept (λ s. has_room old (client_of (get old.jobs s))) serial old.queue parts.0
          (lower limit old.client_limit _ silent parts.1)
