-- How many jobs of a client run before and after a take and the end of a turn.
use Rattle.std.proofs.Common.{◌≡◌, ◌≢◌, ℕ, ◌+◌, ◌<◌, ◌≤◌, Bool, true, false, eqb, ◌&&◌}
use Rattle.std.proofs.Common.{if◌then◌else◌, ◌⊎◌, Option, Some, None, refl, sym, ap, ◌∙◌, subst}
use Rattle.std.proofs.Common.{inl, inr, arith}
use Rattle.std.proofs.lemmas.Bool.{cases_lt, cases_eq, eq-eqb, ne_eqb, ltb-true}
use Rattle.std.proofs.Math.Bool.{and-true, and-false}
use Rattle.std.specs.FinMap.{get, insert, remove}
use Rattle.blocking_pool.specs.Clients.{is_below}
use Rattle.blocking_pool.specs.Growth.{Asking}
use Rattle.blocking_pool.specs.Jobs.{Job, Jobs, JobNumber, is_running, one_if, count_below}
use Rattle.blocking_pool.specs.Jobs.{entry_after_take, entry_after_park, entry_after_requeue, amend}
use Rattle.blocking_pool.specs.Jobs.{job_of}
use Rattle.blocking_pool.specs.PoolAnswers.{Takes, Ends, EndsTo}
use Rattle.blocking_pool.specs.Pools.{Pool, IsSound, has_room, ready, TakesFront, without_job}
use Rattle.blocking_pool.specs.Pools.{after_park, after_return}
use Rattle.blocking_pool.specs.Ready.{client_of, is_running_for, running_of}
use Rattle.blocking_pool.specs.declared.pool.answer.Finish.{Finish}
use Rattle.blocking_pool.specs.declared.pool.answer.Finish.TheVariants.{Done, Dropped, Waiting}
use Rattle.blocking_pool.specs.declared.pool.answer.Gone.{Gone}
use Rattle.blocking_pool.specs.declared.pool.answer.Gone.TheVariants.{Free, Stranger}
use Rattle.blocking_pool.specs.declared.pool.answer.Gone.TheVariants.{Drop as HandOut}
use Rattle.blocking_pool.specs.declared.pool.answer.Took.{Took}
use Rattle.blocking_pool.specs.declared.pool.answer.Took.TheVariants.{Run, Drop, Idle}
use Rattle.blocking_pool.specs.declared.pool.standing.Standing.TheVariants.{Running}
use Rattle.blocking_pool.specs.declared.pool.token.WorkerPass.{WorkerPass}
use Rattle.blocking_pool.proofs.CountLemmas.{count_same, count_changed}
use Rattle.blocking_pool.proofs.Lists.{first_in, kept_in}
use Rattle.blocking_pool.proofs.SweepLemmas.{at_changed, job_of_found}
use Rattle.blocking_pool.proofs.TableLemmas.{at_insert_same, at_insert_other, at_remove_same}
use Rattle.blocking_pool.proofs.TableLemmas.{at_remove_other, amend_found}

at_most_one : (b : Bool) → one_if b ≤ 1
at_most_one true = omega arith
at_most_one false = omega arith

-- where two tests differ at one serial alone, the second counts no more than the first and what it
-- finds there
counts_more : (p q : ℕ → Bool) (serial next : ℕ)
    → ((other : ℕ) → other ≢ serial → q other ≡ p other)
    → count_below q next ≤ count_below p next + one_if (q serial)
counts_more p q serial next others =
    elim (cases_lt serial next) [
      | inl below ↦ (let moved = count_changed p q serial next others below in omega (arith, moved))
      | inr over ↦ (let same = count_same q p next (λ s less.
          others s (λ e. absurd (omega (arith, e, less, over)))) in omega (arith, same))
    ]

module _ {J : Type 0} where
  -- at every other serial the jobs are the same
  abbrev SameBeside : Jobs J → Jobs J → ℕ → Type 0
  SameBeside old new serial = (other : ℕ) → other ≢ serial → get new other ≡ get old other

  turned : (old new : Jobs J) (serial : ℕ) → SameBeside old new serial → SameBeside new old serial
  turned old new serial same other far = sym (same other far)

  -- then of a client no more run than before, and the one at this serial
  runs_more : (old new : Jobs J) (serial next client : ℕ) → SameBeside old new serial → running_of
      new client next ≤ running_of old client next + one_if (is_running_for client (get new serial))
  runs_more old new serial next client same =
      counts_more (λ s. is_running_for client (get old s)) (λ s. is_running_for client (get new s))
      serial next (λ s far. ap (is_running_for client) (same s far))

  -- where no job of the client runs at this serial, as many run as before
  runs_same : (old new : Jobs J) (serial next client : ℕ)
      → SameBeside old new serial → is_running_for client (get old serial) ≡ false
      → is_running_for client (get new serial) ≡ false
      → running_of new client next ≡ running_of old client next
  runs_same old new serial next client same was is =
      let more = runs_more old new serial next client same in
      let less = runs_more new old serial next client (turned old new serial same) in
      let none_was = ap one_if was in
      let none_is = ap one_if is in
      omega (arith, more, less, none_was, none_is)

  -- a job of another client
  of_another : (found : Option (Job J)) (job : Job J) (client : ℕ) → found ≡ Some job
      → client ≢ job.client → is_running_for client found ≡ false
  of_another found job client is far =
      ap (is_running_for client) is ∙ ap (λ b. is_running job.standing && b)
      (ne_eqb job.client client (λ e. far (sym e))) ∙ and-false (is_running job.standing)

  -- a job that doesn't run
  at_rest : (found : Option (Job J)) (job : Job J) (client : ℕ) → found ≡ Some job
      → is_running job.standing ≡ false → is_running_for client found ≡ false
  at_rest found job client is rests =
      ap (is_running_for client) is ∙ ap (λ b. b && eqb job.client client) rests

  -- ---- a take

  module _ (may_mark : J → Bool → Type 0) (asking : Asking)
      (old : Pool J) (turn : JobNumber) (value : J) (to_drop : Bool) (new : Pool J)
      (takes : TakesFront may_mark asking old turn value to_drop new) where
    jobs_are : new.jobs ≡ insert old.jobs turn.serial (entry_after_take takes.job)
    jobs_are = ap (λ (p : Pool J). p.jobs) takes.after_is

    next_is : new.next_serial ≡ old.next_serial
    next_is = ap (λ (p : Pool J). p.next_serial) takes.after_is

    there : get new.jobs turn.serial ≡ Some (entry_after_take takes.job)
    there = ap (λ (js : Jobs J). get js turn.serial) jobs_are
        ∙ at_insert_same old.jobs turn.serial (entry_after_take takes.job)

    beside : SameBeside old.jobs new.jobs turn.serial
    beside other far = ap (λ (js : Jobs J). get js other) jobs_are
        ∙ at_insert_other old.jobs turn.serial (entry_after_take takes.job) other far

    -- the client had room
    had_room : (most : ℕ) → old.client_limit ≡ Some most
        → running_of old.jobs takes.job.client old.next_serial < most
    had_room most limit =
        ltb-true (running_of old.jobs takes.job.client old.next_serial) most
        (ap (λ l. is_below l (running_of old.jobs takes.job.client old.next_serial)) (sym limit)
        ∙ ap (has_room old) (sym (ap client_of takes.found))
        ∙ (kept_in (λ s. has_room old (client_of (get old.jobs s))) turn.serial old.queue
        (first_in turn.serial (ready old) takes.front)).1)

    own_within : (most client : ℕ) → old.client_limit ≡ Some most → client ≡ takes.job.client
        → running_of new.jobs client new.next_serial ≤ most
    own_within most client limit own =
        let more = runs_more old.jobs new.jobs turn.serial old.next_serial client beside in
        let one = at_most_one (is_running_for client (get new.jobs turn.serial)) in
        let same = ap (running_of new.jobs client) next_is in
        let room = had_room most limit in
        let whose = ap (λ c. running_of old.jobs c old.next_serial) own in
        omega (arith, more, one, same, room, whose)

    pub take_within : (most : ℕ) → old.client_limit ≡ Some most
        → running_of new.jobs (client_of (get new.jobs turn.serial)) new.next_serial ≤ most
    take_within most limit =
        own_within most (client_of (get new.jobs turn.serial)) limit (ap client_of there)

    others_same : (client : ℕ) → client ≢ takes.job.client
        → running_of new.jobs client new.next_serial ≡ running_of old.jobs client old.next_serial
    others_same client far =
        ap (running_of new.jobs client) next_is
        ∙ runs_same old.jobs new.jobs turn.serial old.next_serial client beside
        (of_another (get old.jobs turn.serial) takes.job client takes.found far)
        (of_another (get new.jobs turn.serial) (entry_after_take takes.job) client there far)

    pub take_beside : (client : ℕ) → client ≢ client_of (get old.jobs turn.serial)
        → running_of new.jobs client new.next_serial ≡ running_of old.jobs client old.next_serial
    take_beside client far = others_same client (λ e. far (e ∙ sym (ap client_of takes.found)))

    pub take_keeps : (most client : ℕ)
        → old.client_limit ≡ Some most → running_of old.jobs client old.next_serial ≤ most
        → running_of new.jobs client new.next_serial ≤ most
    take_keeps most client limit within =
        elim (cases_eq client takes.job.client) [
          | inl own ↦ own_within most client limit own
          | inr far ↦ (let same = others_same client far in omega (arith, same, within))
        ]

  pub takes_keep : (may_mark : J → Bool → Type 0) (asking : Asking) (old : Pool J)
      (took : Took J) (new : Pool J) (most client : ℕ) → Takes may_mark asking old took new
      → old.client_limit ≡ Some most
      → running_of old.jobs client old.next_serial ≤ most
      → running_of new.jobs client new.next_serial ≤ most
  takes_keep may_mark asking old (Run turn value) new most client takes limit within =
      take_keeps may_mark asking old turn value false new takes most client limit within
  takes_keep may_mark asking old (Drop turn value) new most client takes limit within =
      take_keeps may_mark asking old turn value true new takes most client limit within
  takes_keep may_mark asking old (Idle pass) new most client idle limit within =
      subst (λ (p : Pool J). running_of p.jobs client p.next_serial ≤ most) (sym idle.1) within

  -- ---- the end of a turn

  -- what became of a running job: it runs no more, and all else is as it was
  record Stops (old new : Pool J) (turn : JobNumber) : Type 0 where
    job : Job J
    told : job_of old.jobs turn ≡ Some job
    found : get old.jobs turn.serial ≡ Some job
    runs : job.standing ≡ Running
    next : new.next_serial ≡ old.next_serial
    beside : SameBeside old.jobs new.jobs turn.serial
    rests : (client : ℕ) → is_running_for client (get new.jobs turn.serial) ≡ false

  stops : (old new : Pool J) (turn : JobNumber) (job : Job J) (jobs : Jobs J)
      → job_of old.jobs turn ≡ Some job → job.standing ≡ Running → new.jobs ≡ jobs
      → new.next_serial ≡ old.next_serial
      → SameBeside old.jobs jobs turn.serial
      → ((client : ℕ) → is_running_for client (get jobs turn.serial) ≡ false) → Stops old new turn
  stops old new turn job jobs told runs jobs_are next beside rests =
      record {
        job = job;
        told = told;
        found = (job_of_found old.jobs turn job told).0;
        runs = runs;
        next = next;
        beside = λ other far. ap (λ (js : Jobs J). get js other) jobs_are ∙ beside other far;
        rests = λ client. ap (λ (js : Jobs J). is_running_for client (get js turn.serial)) jobs_are
            ∙ rests client;
      }

  -- a job that parks, or goes back
  given_back : (woken : Bool) (old new : Pool J) (turn : JobNumber) (job : Job J) (value : J)
      → job_of old.jobs turn ≡ Some job → job.standing ≡ Running
      → new ≡ (if woken then after_return old turn.serial value
      else after_park old turn.serial value) → Stops old new turn
  given_back woken old new turn job value told runs = by woken
    where
      parked : Jobs J
      parked = amend old.jobs turn.serial (entry_after_park value)

      there : get parked turn.serial ≡ Some (entry_after_park value job)
      there =
          ap (λ (js : Jobs J). get js turn.serial) (amend_found old.jobs turn.serial
          (entry_after_park value) job (job_of_found old.jobs turn job told).0)
          ∙ at_insert_same old.jobs turn.serial (entry_after_park value job)

      queued : Jobs J
      queued = amend parked turn.serial entry_after_requeue

      again : get queued turn.serial ≡ Some (entry_after_requeue (entry_after_park value job))
      again =
          ap (λ (js : Jobs J). get js turn.serial) (amend_found parked turn.serial
          entry_after_requeue (entry_after_park value job) there)
          ∙ at_insert_same parked turn.serial (entry_after_requeue (entry_after_park value job))

      by : (woken : Bool) → new ≡ (if woken then after_return old turn.serial value
          else after_park old turn.serial value) → Stops old new turn
      by true is =
          stops old new turn job queued told runs (ap (λ (p : Pool J). p.jobs) is)
          (ap (λ (p : Pool J). p.next_serial) is)
          (λ other far. at_changed parked turn.serial other entry_after_requeue far
          ∙ at_changed old.jobs turn.serial other (entry_after_park value) far)
          (λ client. at_rest (get queued turn.serial)
          (entry_after_requeue (entry_after_park value job)) client again refl)
      by false is =
          stops old new turn job parked told runs (ap (λ (p : Pool J). p.jobs) is)
          (ap (λ (p : Pool J). p.next_serial) is)
          (λ other far. at_changed old.jobs turn.serial other (entry_after_park value) far)
          (λ client.
          at_rest (get parked turn.serial) (entry_after_park value job) client there refl)

  gone_for_good : (old new : Pool J) (turn : JobNumber) (job : Job J)
      → job_of old.jobs turn ≡ Some job → job.standing ≡ Running → new ≡ without_job old turn.serial
      → Stops old new turn
  gone_for_good old new turn job told runs is =
      stops old new turn job (remove old.jobs turn.serial)
      told runs (ap (λ (p : Pool J). p.jobs) is) (ap (λ (p : Pool J). p.next_serial) is)
      (at_remove_other old.jobs turn.serial)
      (λ client. ap (is_running_for client) (at_remove_same old.jobs turn.serial))

  -- an end changes nothing, or stops its job
  ends_so : (may_mark : J → Bool → Type 0) (old : Pool J) (turn : JobNumber) (job : Job J)
      (finish : Finish J) (gone : Gone J) (new : Pool J) → job_of old.jobs turn ≡ Some job
      → job.standing ≡ Running
      → EndsTo may_mark old turn job finish gone new → (new ≡ old) ⊎ Stops old new turn
  ends_so may_mark old turn job Done (Free pass) new told runs is =
      inr (gone_for_good old new turn job told runs is)
  ends_so may_mark old turn job Dropped (Free pass) new told runs is =
      inr (gone_for_good old new turn job told runs is)
  ends_so may_mark old turn job (Waiting value) (Free pass) new told runs is =
      inr (given_back job.woken old new turn job value told runs is.1)
  ends_so may_mark old turn job (Waiting value) (HandOut back given) new told runs is = inl is.3
  ends_so may_mark old turn job _ _ new told runs is = absurd is

  how_ends : (may_mark : J → Bool → Type 0) (old : Pool J) (turn : JobNumber)
      (finish : Finish J) (gone : Gone J) (new : Pool J) → Ends may_mark old turn finish gone new
      → (new ≡ old) ⊎ Stops old new turn
  how_ends may_mark old turn finish (Stranger back job) new ends = inl ends.3
  how_ends may_mark old turn finish (Free pass) new ends =
      ends_so may_mark old turn ends.job finish (Free pass) new ends.found ends.runs ends.effect
  how_ends may_mark old turn finish (HandOut back given) new ends = ends_so may_mark old turn
      ends.job finish (HandOut back given) new ends.found ends.runs ends.effect

  -- where the worker gets free, the job stopped
  free_stops : (may_mark : J → Bool → Type 0) (old : Pool J) (turn : JobNumber) (job : Job J)
      (finish : Finish J) (pass : WorkerPass) (new : Pool J) → job_of old.jobs turn ≡ Some job
      → job.standing ≡ Running
      → EndsTo may_mark old turn job finish (Free pass) new → Stops old new turn
  free_stops may_mark old turn job Done pass new told runs is =
      gone_for_good old new turn job told runs is
  free_stops may_mark old turn job Dropped pass new told runs is =
      gone_for_good old new turn job told runs is
  free_stops may_mark old turn job (Waiting value) pass new told runs is =
      given_back job.woken old new turn job value told runs is.1

  -- ---- what runs after an end

  none_more : (old new : Pool J) (turn : JobNumber) (client : ℕ) → Stops old new turn
      → running_of new.jobs client new.next_serial ≤ running_of old.jobs client old.next_serial
  none_more old new turn client stop =
      let more = runs_more old.jobs new.jobs turn.serial old.next_serial client stop.beside in
      let none = ap one_if (stop.rests client) in
      let same = ap (running_of new.jobs client) stop.next in
      omega (arith, more, none, same)

  pub ends_no_more : (may_mark : J → Bool → Type 0) (old : Pool J)
      (turn : JobNumber) (finish : Finish J) (gone : Gone J) (new : Pool J) (client : ℕ)
      → Ends may_mark old turn finish gone new
      → running_of new.jobs client new.next_serial ≤ running_of old.jobs client old.next_serial
  ends_no_more may_mark old turn finish gone new client ends =
      elim (how_ends may_mark old turn finish gone new ends) [
        | inl same ↦
            (let count = ap (λ (p : Pool J). running_of p.jobs client p.next_serial) same in
            omega (arith, count))
        | inr stop ↦ none_more old new turn client stop
      ]

  one_fewer : (old new : Pool J) (turn : JobNumber) (client : ℕ) → Stops old new turn
      → running_of old.jobs client old.next_serial ≤ running_of new.jobs client new.next_serial + 1
  one_fewer old new turn client stop =
      let less = runs_more new.jobs old.jobs turn.serial old.next_serial client
      (turned old.jobs new.jobs turn.serial stop.beside) in
      let one = at_most_one (is_running_for client (get old.jobs turn.serial)) in
      let same = ap (running_of new.jobs client) stop.next in
      omega (arith, less, one, same)

  pub ends_one_less : (may_mark : J → Bool → Type 0) (old : Pool J)
      (turn : JobNumber) (finish : Finish J) (gone : Gone J) (new : Pool J) (client : ℕ)
      → Ends may_mark old turn finish gone new
      → running_of old.jobs client old.next_serial ≤ running_of new.jobs client new.next_serial + 1
  ends_one_less may_mark old turn finish gone new client ends =
      elim (how_ends may_mark old turn finish gone new ends) [
        | inl same ↦
            (let count = ap (λ (p : Pool J). running_of p.jobs client p.next_serial) same in
            omega (arith, count))
        | inr stop ↦ one_fewer old new turn client stop
      ]

  pub ends_beside : (may_mark : J → Bool → Type 0) (old : Pool J)
      (turn : JobNumber) (finish : Finish J) (gone : Gone J) (new : Pool J) (client : ℕ)
      → Ends may_mark old turn finish gone new
      → client ≢ client_of (job_of old.jobs turn)
      → running_of new.jobs client new.next_serial ≡ running_of old.jobs client old.next_serial
  ends_beside may_mark old turn finish gone new client ends far =
      elim (how_ends may_mark old turn finish gone new ends) [
        | inl same ↦ ap (λ (p : Pool J). running_of p.jobs client p.next_serial) same
        | inr stop ↦ (ap (running_of new.jobs client) stop.next
            ∙ runs_same old.jobs new.jobs turn.serial old.next_serial client stop.beside
            (of_another (get old.jobs turn.serial) stop.job client stop.found
            (λ e. far (e ∙ sym (ap client_of stop.told))))
            (stop.rests client))
      ]

  freed_one : (old new : Pool J) (turn : JobNumber) → IsSound old → Stops old new turn
      → running_of old.jobs (client_of (job_of old.jobs turn)) old.next_serial
      ≡ running_of new.jobs (client_of (job_of old.jobs turn)) new.next_serial + 1
  freed_one old new turn sound stop =
      let client = client_of (job_of old.jobs turn) in
      let moved = count_changed (λ s. is_running_for client (get old.jobs s))
      (λ s. is_running_for client (get new.jobs s)) turn.serial old.next_serial
      (λ s far. ap (is_running_for client) (stop.beside s far)) (below sound stop) in
      let ran = ap one_if (ran_for stop) in
      let rests = ap one_if (stop.rests client) in
      let same = ap (running_of new.jobs client) stop.next in
      omega (arith, moved, ran, rests, same)
    where
      below : IsSound old → Stops old new turn → turn.serial < old.next_serial
      below sound stop =
          elim (cases_lt turn.serial old.next_serial) [
            | inl under ↦ under
            | inr over ↦ absurd (let bad : None ≡ Some stop.job =
                sym (sound.unused turn.serial (omega (arith, over))) ∙ stop.found in cc)
          ]

      ran_for : (stop : Stops old new turn)
          → is_running_for (client_of (job_of old.jobs turn)) (get old.jobs turn.serial) ≡ true
      ran_for stop =
          ap (λ c. is_running_for c (get old.jobs turn.serial)) (ap client_of stop.told)
          ∙ ap (is_running_for stop.job.client) stop.found
          ∙ ap (λ b. is_running stop.job.standing && b)
          (eq-eqb stop.job.client stop.job.client refl)
          ∙ and-true (is_running stop.job.standing)
          ∙ ap is_running stop.runs

  pub ends_free : (may_mark : J → Bool → Type 0) (old : Pool J)
      (turn : JobNumber) (finish : Finish J) (pass : WorkerPass) (new : Pool J) → IsSound old
      → Ends may_mark old turn finish (Free pass) new
      → running_of old.jobs (client_of (job_of old.jobs turn)) old.next_serial
      ≡ running_of new.jobs (client_of (job_of old.jobs turn)) new.next_serial + 1
  ends_free may_mark old turn finish pass new sound ends =
      freed_one old new turn sound
      (free_stops may_mark old turn ends.job finish pass new ends.found ends.runs ends.effect)
