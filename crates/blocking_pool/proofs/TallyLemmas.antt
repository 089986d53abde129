-- The tallies of the clients: how they are those of the jobs, and stay so.
use Rattle.std.proofs.Common.{◌≡◌, ◌≢◌, ℕ, suc, ◌+◌, ◌<◌, ◌≤◌, Bool, true, false, cond, eqb, ◌&&◌}
use Rattle.std.proofs.Common.{List, [], ◌∷◌, Option, Some, None, refl, sym, ap, ◌∙◌, inl, inr}
use Rattle.std.proofs.Common.{arith, add-one}
use Rattle.std.proofs.lemmas.Bool.{cases_eq, eq-eqb, ne_eqb, or_right, and_parts, false≢true}
use Rattle.std.proofs.Math.Bool.{and-true, and-false}
use Rattle.std.specs.FinMap.{get, insert, remove}
use Rattle.blocking_pool.specs.Clients.{Tally, tally_at, is_below, has_room_at, enrolled, started}
use Rattle.blocking_pool.specs.Clients.{stopped}
use Rattle.blocking_pool.specs.Counts.{Counts}
use Rattle.blocking_pool.specs.Jobs.{Job, Jobs, is_running, is_running_job, is_parked_job, one_if}
use Rattle.blocking_pool.specs.Jobs.{running_below, new_job, entry_after_take, entry_after_park}
use Rattle.blocking_pool.specs.Jobs.{entry_after_requeue, amend, jobs_after_requeue}
use Rattle.blocking_pool.specs.Lists.{is_in, IsOnce}
use Rattle.blocking_pool.specs.Pools.{has_room, ready}
use Rattle.blocking_pool.specs.Ready.{client_of, is_job_of, is_running_for, jobs_for, running_of}
use Rattle.blocking_pool.specs.Tables.{Table, left, tally_of, pool_over, ready_of}
use Rattle.blocking_pool.specs.declared.pool.standing.Standing.TheVariants.{Queued, Running, Parked}
use Rattle.blocking_pool.proofs.CountLemmas.{count_same, count_changed, count_some, count_within}
use Rattle.blocking_pool.proofs.CountLemmas.{count_less}
use Rattle.blocking_pool.proofs.Lists.{by_eq, is_in-first, filter_same}
use Rattle.blocking_pool.proofs.Standings.{parked_job}
use Rattle.blocking_pool.proofs.SweepLemmas.{at_changed}
use Rattle.blocking_pool.proofs.TableLemmas.{at_insert_same, at_insert_other, at_remove_same}
use Rattle.blocking_pool.proofs.TableLemmas.{at_remove_other, amend_found}

tally_is : (a b : Tally) → a.jobs ≡ b.jobs → a.running ≡ b.running → a ≡ b
tally_is a b jobs running = ap (λ n. record { jobs = n; running = a.running }) jobs
    ∙ ap (λ n. record { jobs = b.jobs; running = n }) running

-- the tallies, of which one has changed so
abbrev pub retold : (ℕ → Tally) → ℕ → (Tally → Tally) → ℕ → Tally
retold tallies client change c = cond (eqb c client) (change (tallies client)) (tallies c)

-- what is so at one client, and at all others
one_retold : (after before : ℕ → Tally) (client : ℕ) (change : Tally → Tally)
    → after client ≡ change (before client) → ((c : ℕ) → c ≢ client → after c ≡ before c) → (c : ℕ)
    → after c ≡ retold before client change c
one_retold after before client change own others c =
    by_eq c client (λ b. after c ≡ cond b (change (before client)) (before c))
    (λ same. ap after same ∙ own) (others c)

module _ {J : Type 0} where
  -- a running job of a client is a job of the client
  not_for : (c : ℕ) (job : Option (Job J)) → is_job_of c job ≡ false → is_running_for c job ≡ false
  not_for c None is = refl
  not_for c (Some job) is =
      ap (λ b. is_running job.standing && b) is ∙ and-false (is_running job.standing)

  -- a running job of a client runs
  runs_for : (c : ℕ) (job : Option (Job J)) → is_running_for c job ≡ true
      → is_running_job job ≡ true
  runs_for c None runs = runs
  runs_for c (Some job) runs = (and_parts (is_running job.standing) (eqb job.client c) runs).0

  -- no client has more jobs that run than all clients
  pub running_at_most : (jobs : Jobs J) (next client : ℕ)
      → running_of jobs client next ≤ running_below jobs next
  running_at_most jobs next client = count_less (λ s. is_running_for client (get jobs s))
      (λ s. is_running_job (get jobs s)) next (λ s. runs_for client (get jobs s))

  -- and not more than it has jobs
  pub running_within : (jobs : Jobs J) (next client : ℕ)
      → running_of jobs client next ≤ jobs_for jobs client next
  running_within jobs next client = count_less (λ s. is_running_for client (get jobs s))
      (λ s. is_job_of client (get jobs s)) next (λ s. own (get jobs s))
    where
      own : (job : Option (Job J)) → is_running_for client job ≡ true → is_job_of client job ≡ true
      own None runs = runs
      own (Some job) runs = (and_parts (is_running job.standing) (eqb job.client client) runs).1

  -- no client has more jobs than there were serials
  pub jobs_at_most : (jobs : Jobs J) (next client : ℕ) → jobs_for jobs client next ≤ next
  jobs_at_most jobs next client = count_within (λ s. is_job_of client (get jobs s)) next

  -- where the jobs are whose they were, and run as they did, so are the tallies
  tally_same : (old new : Jobs J) (next c : ℕ)
      → ((s : ℕ) → is_job_of c (get new s) ≡ is_job_of c (get old s))
      → ((s : ℕ) → is_running_for c (get new s) ≡ is_running_for c (get old s))
      → tally_of new next c ≡ tally_of old next c
  tally_same old new next c jobs running =
      tally_is (tally_of new next c) (tally_of old next c) (count_same
      (λ s. is_job_of c (get new s)) (λ s. is_job_of c (get old s)) next (λ s below. jobs s))
      (count_same (λ s. is_running_for c (get new s)) (λ s. is_running_for c (get old s)) next
      (λ s below. running s))

  -- jobs that differ at one serial, at which a job of this client stood or stands
  record Differ (old new : Jobs J) (serial next client : ℕ) : Type 0 where
    others : (other : ℕ) → other ≢ serial → get new other ≡ get old other
    below : serial < next
    was : (c : ℕ) → c ≢ client → is_job_of c (get old serial) ≡ false
    is : (c : ℕ) → c ≢ client → is_job_of c (get new serial) ≡ false

  -- how the numbers of jobs differ
  jobs_differ : (old new : Jobs J) (serial next client c : ℕ) → Differ old new serial next client
      → jobs_for new c next + one_if (is_job_of c (get old serial))
      ≡ jobs_for old c next + one_if (is_job_of c (get new serial))
  jobs_differ old new serial next client c differ =
      count_changed (λ s. is_job_of c (get old s)) (λ s. is_job_of c (get new s)) serial next
      (λ s far. ap (is_job_of c) (differ.others s far)) differ.below

  running_differ : (old new : Jobs J) (serial next client c : ℕ) → Differ old new serial next client
      → running_of new c next + one_if (is_running_for c (get old serial))
      ≡ running_of old c next + one_if (is_running_for c (get new serial))
  running_differ old new serial next client c differ =
      count_changed (λ s. is_running_for c (get old s)) (λ s. is_running_for c (get new s)) serial
      next (λ s far. ap (is_running_for c) (differ.others s far)) differ.below

  -- the tallies of the other clients
  tally_apart : (old new : Jobs J) (serial next client : ℕ) → Differ old new serial next client
      → (c : ℕ) → c ≢ client → tally_of new next c ≡ tally_of old next c
  tally_apart old new serial next client differ c far =
      let jobs = jobs_differ old new serial next client c differ in
      let running = running_differ old new serial next client c differ in
      let was = ap one_if (differ.was c far) in
      let is = ap one_if (differ.is c far) in
      let ran = ap one_if (not_for c (get old serial) (differ.was c far)) in
      let runs = ap one_if (not_for c (get new serial) (differ.is c far)) in
      tally_is (tally_of new next c) (tally_of old next c) (omega (arith, jobs, was, is))
      (omega (arith, running, ran, runs))

  -- the job of another client
  of_another : (found : Option (Job J)) (job : Job J) → found ≡ Some job → (c : ℕ) → c ≢ job.client
      → is_job_of c found ≡ false
  of_another found job is c far = ap (is_job_of c) is ∙ ne_eqb job.client c (λ e. far (sym e))

  -- and of this one
  of_this : (found : Option (Job J)) (job : Job J) → found ≡ Some job
      → is_job_of job.client found ≡ true
  of_this found job is = ap (is_job_of job.client) is ∙ eq-eqb job.client job.client refl

  runs_this : (found : Option (Job J)) (job : Job J) → found ≡ Some job
      → is_running_for job.client found ≡ is_running job.standing
  runs_this found job is = ap (is_running_for job.client) is
      ∙ ap (λ b. is_running job.standing && b) (eq-eqb job.client job.client refl)
      ∙ and-true (is_running job.standing)

  -- a job that is there, and that its client's tally counts
  pub job_counted : (jobs : Jobs J) (serial next : ℕ) (job : Job J) → serial < next
      → get jobs serial ≡ Some job → 0 < jobs_for jobs job.client next
  job_counted jobs serial next job below found = count_some (λ s. is_job_of job.client (get jobs s))
      serial next below (of_this (get jobs serial) job found)

  pub run_counted : (jobs : Jobs J) (serial next : ℕ) (job : Job J) → serial < next
      → get jobs serial ≡ Some job → job.standing ≡ Running → 0 < running_of jobs job.client next
  run_counted jobs serial next job below found runs =
      count_some (λ s. is_running_for job.client (get jobs s)) serial next below
      (runs_this (get jobs serial) job found ∙ ap is_running runs)

  -- one more job
  pub entered_tally : (jobs : Jobs J) (place client next : ℕ) (value : J) → get jobs next ≡ None
      → (c : ℕ) → tally_of (insert jobs next (new_job place client value)) (next + 1) c
      ≡ retold (tally_of jobs next) client enrolled c
  entered_tally jobs place client next value none c =
      one_retold (tally_of new (next + 1)) (tally_of jobs next) client enrolled own
      (λ c far. tally_apart jobs new next (next + 1) client differ c far ∙ earlier c) c
    where
      new : Jobs J
      new = insert jobs next (new_job place client value)

      there : get new next ≡ Some (new_job place client value)
      there = at_insert_same jobs next (new_job place client value)

      differ : Differ jobs new next (next + 1) client
      differ =
          record {
            others = at_insert_other jobs next (new_job place client value);
            below = omega arith;
            was = λ c far. ap (is_job_of c) none;
            is = of_another (get new next) (new_job place client value) there;
          }

      earlier : (c : ℕ) → tally_of jobs (next + 1) c ≡ tally_of jobs next c
      earlier c =
          let jobs_none = ap (λ j. one_if (is_job_of c j)) none in
          let running_none = ap (λ j. one_if (is_running_for c j)) none in
          ap (λ n. tally_of jobs n c) (add-one next) ∙ tally_is (tally_of jobs (suc next) c)
          (tally_of jobs next c) (omega (arith, jobs_none)) (omega (arith, running_none))

      own : tally_of new (next + 1) client ≡ enrolled (tally_of jobs next client)
      own =
          let jobs_more = jobs_differ jobs new next (next + 1) client client differ in
          let running_more = running_differ jobs new next (next + 1) client client differ in
          let was = ap (λ j. one_if (is_job_of client j)) none in
          let is = ap one_if (of_this (get new next) (new_job place client value) there) in
          let ran = ap (λ j. one_if (is_running_for client j)) none in
          let runs = ap one_if (runs_this (get new next) (new_job place client value) there) in
          let before = earlier client in
          tally_is (tally_of new (next + 1) client) (enrolled (tally_of jobs next client))
          (omega (arith, jobs_more, was, is, ap (λ t. t.jobs) before))
          (omega (arith, running_more, ran, runs, ap (λ t. t.running) before))

  -- a queued job is taken
  pub taken_tally : (jobs : Jobs J) (serial next : ℕ) (job : Job J) → get jobs serial ≡ Some job
      → job.standing ≡ Queued → serial < next → (c : ℕ)
      → tally_of (insert jobs serial (entry_after_take job)) next c
      ≡ retold (tally_of jobs next) job.client started c
  taken_tally jobs serial next job found queued below =
      one_retold (tally_of new next) (tally_of jobs next) job.client started own
      (tally_apart jobs new serial next job.client differ)
    where
      new : Jobs J
      new = insert jobs serial (entry_after_take job)

      there : get new serial ≡ Some (entry_after_take job)
      there = at_insert_same jobs serial (entry_after_take job)

      differ : Differ jobs new serial next job.client
      differ =
          record {
            others = at_insert_other jobs serial (entry_after_take job);
            below = below;
            was = of_another (get jobs serial) job found;
            is = of_another (get new serial) (entry_after_take job) there;
          }

      own : tally_of new next job.client ≡ started (tally_of jobs next job.client)
      own =
          let jobs_same = jobs_differ jobs new serial next job.client job.client differ in
          let running_more = running_differ jobs new serial next job.client job.client differ in
          let was = ap one_if (of_this (get jobs serial) job found) in
          let is = ap one_if (of_this (get new serial) (entry_after_take job) there) in
          let ran = ap one_if (runs_this (get jobs serial) job found ∙ ap is_running queued) in
          let runs = ap one_if (runs_this (get new serial) (entry_after_take job) there) in
          tally_is (tally_of new next job.client) (started (tally_of jobs next job.client))
          (omega (arith, jobs_same, was, is)) (omega (arith, running_more, ran, runs))

  -- a running job runs no more
  pub parked_tally : (jobs : Jobs J) (serial next : ℕ) (job : Job J) (value : J)
      → get jobs serial ≡ Some job → job.standing ≡ Running → serial < next → (c : ℕ)
      → tally_of (amend jobs serial (entry_after_park value)) next c
      ≡ retold (tally_of jobs next) job.client stopped c
  parked_tally jobs serial next job value found runs below =
      one_retold (tally_of new next) (tally_of jobs next) job.client stopped own
      (tally_apart jobs new serial next job.client differ)
    where
      new : Jobs J
      new = amend jobs serial (entry_after_park value)

      there : get new serial ≡ Some (entry_after_park value job)
      there = ap (λ js. get js serial) (amend_found jobs serial (entry_after_park value) job found)
          ∙ at_insert_same jobs serial (entry_after_park value job)

      differ : Differ jobs new serial next job.client
      differ =
          record {
            others = λ s far. at_changed jobs serial s (entry_after_park value) far;
            below = below;
            was = of_another (get jobs serial) job found;
            is = of_another (get new serial) (entry_after_park value job) there;
          }

      own : tally_of new next job.client ≡ stopped (tally_of jobs next job.client)
      own =
          let jobs_same = jobs_differ jobs new serial next job.client job.client differ in
          let running_less = running_differ jobs new serial next job.client job.client differ in
          let was = ap one_if (of_this (get jobs serial) job found) in
          let is = ap one_if (of_this (get new serial) (entry_after_park value job) there) in
          let ran = ap one_if (runs_this (get jobs serial) job found ∙ ap is_running runs) in
          let stands = ap one_if (runs_this (get new serial) (entry_after_park value job) there) in
          tally_is (tally_of new next job.client) (stopped (tally_of jobs next job.client))
          (omega (arith, jobs_same, was, is)) (omega (arith, running_less, ran, stands))

  -- a running job is over
  pub removed_tally : (jobs : Jobs J) (serial next : ℕ) (job : Job J) → get jobs serial ≡ Some job
      → job.standing ≡ Running → serial < next → (c : ℕ)
      → tally_of (remove jobs serial) next c ≡ retold (tally_of jobs next) job.client left c
  removed_tally jobs serial next job found runs below =
      one_retold (tally_of new next) (tally_of jobs next) job.client left own
      (tally_apart jobs new serial next job.client differ)
    where
      new : Jobs J
      new = remove jobs serial

      gone : get new serial ≡ None
      gone = at_remove_same jobs serial

      differ : Differ jobs new serial next job.client
      differ = record {
        others = at_remove_other jobs serial;
        below = below;
        was = of_another (get jobs serial) job found;
        is = λ c far. ap (is_job_of c) gone;
      }

      own : tally_of new next job.client ≡ left (tally_of jobs next job.client)
      own =
          let jobs_less = jobs_differ jobs new serial next job.client job.client differ in
          let running_less = running_differ jobs new serial next job.client job.client differ in
          let was = ap one_if (of_this (get jobs serial) job found) in
          let is = ap (λ j. one_if (is_job_of job.client j)) gone in
          let ran = ap one_if (runs_this (get jobs serial) job found ∙ ap is_running runs) in
          let stands = ap (λ j. one_if (is_running_for job.client j)) gone in
          tally_is (tally_of new next job.client) (left (tally_of jobs next job.client))
          (omega (arith, jobs_less, was, is)) (omega (arith, running_less, ran, stands))

  -- a job changes, and stands as it did for its client
  pub marked_tally : (jobs : Jobs J) (serial next : ℕ) (change : Job J → Job J) → ((c : ℕ)
      → is_job_of c (get (amend jobs serial change) serial) ≡ is_job_of c (get jobs serial))
      → ((c : ℕ) → is_running_for c (get (amend jobs serial change) serial)
      ≡ is_running_for c (get jobs serial)) → (c : ℕ)
      → tally_of (amend jobs serial change) next c ≡ tally_of jobs next c
  marked_tally jobs serial next change whose runs c =
      tally_same jobs (amend jobs serial change) next c (λ s. at_each (is_job_of c) s (whose c))
      (λ s. at_each (is_running_for c) s (runs c))
    where
      at_each : (test : Option (Job J) → Bool) (s : ℕ)
          → test (get (amend jobs serial change) serial) ≡ test (get jobs serial)
          → test (get (amend jobs serial change) s) ≡ test (get jobs s)
      at_each test s same =
          elim (cases_eq s serial) [
            | inl here ↦ ap (λ n. test (get (amend jobs serial change) n)) here ∙ same
                ∙ sym (ap (λ n. test (get jobs n)) here)
            | inr far ↦ ap test (at_changed jobs serial s change far)
          ]

  -- a parked job is queued
  again_tally : (jobs : Jobs J) (serial next : ℕ) (job : Job J)
      → get jobs serial ≡ Some job → job.standing ≡ Parked → (c : ℕ)
      → tally_of (amend jobs serial entry_after_requeue) next c ≡ tally_of jobs next c
  again_tally jobs serial next job found parked =
      marked_tally jobs serial next entry_after_requeue
      (λ c. ap (is_job_of c) there ∙ sym (ap (is_job_of c) found))
      (λ c. ap (is_running_for c) there
      ∙ sym (ap (is_running_for c) found ∙ ap (λ s. is_running s && eqb job.client c) parked))
    where
      there : get (amend jobs serial entry_after_requeue) serial ≡ Some (entry_after_requeue job)
      there = ap (λ js. get js serial) (amend_found jobs serial entry_after_requeue job found)
          ∙ at_insert_same jobs serial (entry_after_requeue job)

  -- parked jobs are queued
  pub requeued_tally : (jobs : Jobs J) (serials : List ℕ) (next : ℕ) → IsOnce serials
      → ((s : ℕ) → is_in s serials ≡ true → is_parked_job (get jobs s) ≡ true) → (c : ℕ)
      → tally_of (jobs_after_requeue jobs serials) next c ≡ tally_of jobs next c
  requeued_tally jobs [] next once parked c = refl
  requeued_tally jobs (serial ∷ serials) next once parked c =
      let job = parked_job (get jobs serial) (parked serial (is_in-first serial serials)) in
      requeued_tally (amend jobs serial entry_after_requeue) serials next once.1
      (λ s found.
      let far : s ≢ serial =
      λ e. false≢true (sym once.0 ∙ ap (λ n. is_in n serials) (sym e) ∙ found) in
      ap is_parked_job (at_changed jobs serial s entry_after_requeue far)
      ∙ parked s (or_right (eqb s serial) (is_in s serials) found)) c
      ∙ again_tally jobs serial next job.0 job.1 job.2 c

  -- the ready jobs of a table, told by the pool
  pub ready_told : (table : Table J) (counts : Counts) (next : ℕ)
      → ((c : ℕ) → tally_at table.tallies c ≡ tally_of table.jobs next c)
      → ready_of table ≡ ready (pool_over table counts next)
  ready_told table counts next tallied =
      filter_same (λ s. has_room_at table.client_limit table.tallies (client_of (get table.jobs s)))
      (λ s. has_room (pool_over table counts next) (client_of (get table.jobs s))) table.queue
      (λ s found. ap (λ t. is_below table.client_limit t.running)
      (tallied (client_of (get table.jobs s))))

  -- and whether a client has room
  pub room_told : (table : Table J) (counts : Counts) (next client : ℕ)
      → ((c : ℕ) → tally_at table.tallies c ≡ tally_of table.jobs next c) → has_room_at
      table.client_limit table.tallies client ≡ has_room (pool_over table counts next) client
  room_told table counts next client tallied =
      ap (λ t. is_below table.client_limit t.running) (tallied client)
