-- What a pool keeps, as a value: that it stays sound.
use Rattle.std.proofs.Common.{◌≡◌, ◌≢◌, ℕ, ◌+◌, ◌<◌, ◌≤◌, true, false, eqb, List, [], ◌∷◌, ◌++◌}
use Rattle.std.proofs.Common.{length, Option, Some, None, is_some, refl, sym, ap, ◌∙◌, subst, inl}
use Rattle.std.proofs.Common.{inr, arith, add-one}
use Rattle.std.proofs.lemmas.Bool.{cases_eq, cases_lt, or_right, false≢true}
use Rattle.std.proofs.lemmas.List.{append-nil, append_assoc}
use Rattle.std.specs.FinMap.{get, insert, remove, empty, get-empty}
use Rattle.std.specs.Ordering.{nat_cmp}
use Rattle.blocking_pool.specs.Lists.{is_in, IsOnce, without}
use Rattle.blocking_pool.specs.Jobs.{Job, Jobs, JobNumber, is_queued, is_running, new_job}
use Rattle.blocking_pool.specs.Jobs.{entry_after_take, is_running_job, is_parked_job, one_if}
use Rattle.blocking_pool.specs.Jobs.{running_below, is_running_as, job_of, jobs_after_change, amend}
use Rattle.blocking_pool.specs.Jobs.{entry_after_requeue, entry_after_park, jobs_after_requeue}
use Rattle.blocking_pool.specs.Counts.{Counts, after_pickup, after_release, after_ring, AreInOrder}
use Rattle.blocking_pool.specs.Growth.{Growth, after_growth}
use Rattle.blocking_pool.specs.Pools.{Pool, is_queued_job, IsSound, with_taken, empty_pool}
use Rattle.blocking_pool.specs.declared.pool.standing.Standing.TheVariants.{Queued, Running, Parked}
use Rattle.blocking_pool.specs.declared.pool.bell.BellKind.{BellKind}
use Rattle.blocking_pool.proofs.CountLemmas.{count_same, count_changed, count_some, count_none}
use Rattle.blocking_pool.proofs.Lists.{is_in-first, is_in-last, is_in-push, is_in-without}
use Rattle.blocking_pool.proofs.Lists.{is_in-without_itself, IsOnce-without, IsOnce-push}
use Rattle.blocking_pool.proofs.Lists.{length-le_below}
use Rattle.blocking_pool.proofs.Standings.{queued_is, running_is, running_job, parked_job}
use Rattle.blocking_pool.proofs.SweepLemmas.{job_of_found, at_changed}
use Rattle.blocking_pool.proofs.TableLemmas.{at_insert_same, at_insert_other, at_remove_same}
use Rattle.blocking_pool.proofs.TableLemmas.{at_remove_other, amend_found}

-- a growth keeps the order of the counts, and the number of those that run a job
pub grown_order : (counts : Counts) (growth : Growth) → AreInOrder counts
    → AreInOrder (after_growth counts growth)
grown_order counts growth order =
    record { arriving = omega (arith, order.arriving); idle = omega (arith, order.idle) }

module _ {J : Type 0} where
  -- a queued job's serial was used
  pub queued_below : (pool : Pool J) → IsSound pool → (serial : ℕ) → is_in serial pool.queue ≡ true
      → serial < pool.next_serial
  queued_below pool sound serial queued =
      elim (cases_lt serial pool.next_serial) [
        | inl below ↦ below
        | inr past ↦ absurd (false≢true (sym (ap is_queued_job (sound.unused serial past))
            ∙ sym (sound.queue.each serial) ∙ queued))
      ]

  -- and its job is queued
  pub queued_stands : (pool : Pool J) → IsSound pool → (serial : ℕ) (job : Job J)
      → is_in serial pool.queue ≡ true → get pool.jobs serial ≡ Some job → job.standing ≡ Queued
  queued_stands pool sound serial job queued found =
      queued_is job.standing (sym (ap is_queued_job found) ∙ sym (sound.queue.each serial) ∙ queued)

  -- where jobs differ at one serial
  running_changed : (old new : Jobs J) (serial next : ℕ)
      → ((other : ℕ) → other ≢ serial → get new other ≡ get old other) → serial < next
      → running_below new next + one_if (is_running_job (get old serial))
      ≡ running_below old next + one_if (is_running_job (get new serial))
  running_changed old new serial next same below =
      count_changed (λ s. is_running_job (get old s)) (λ s. is_running_job (get new s)) serial next
      (λ s far. ap is_running_job (same s far)) below

  -- the queue is no longer than there were serials
  pub queue_within : (pool : Pool J) → IsSound pool → length pool.queue ≤ pool.next_serial
  queue_within pool sound =
      length-le_below pool.queue pool.next_serial sound.queue.once (queued_below pool sound)

  pub empty_sound : (setting serial worker : ℕ) → IsSound {J = J} (empty_pool setting serial worker)
  empty_sound setting serial worker =
      record {
        queue = record { once = tt; each = λ s. sym (ap is_queued_job (get-empty nat_cmp s)) };
        running = omega (
          arith,
          count_none (λ s. is_running_job {J = J} (get empty s)) serial
              (λ s. ap is_running_job (get-empty nat_cmp s)),
        );
        order = record { arriving = omega arith; idle = omega arith };
        unused = λ s past. get-empty nat_cmp s;
        positive = tt;
      }

  pub grown_sound : (pool : Pool J) (growth : Growth) → IsSound pool
      → IsSound (record pool { counts = after_growth pool.counts growth })
  grown_sound pool growth sound =
      record {
        queue = sound.queue;
        running = omega (arith, sound.running);
        order = grown_order
            pool.counts growth sound.order;
        unused = sound.unused;
        positive = sound.positive;
      }

  pub rung_sound : (pool : Pool J) (ring : BellKind) → IsSound pool
      → IsSound (record pool { counts = after_ring ring pool.counts })
  rung_sound pool ring sound =
      record {
        queue = sound.queue;
        running = sound.running;
        order = record { arriving = sound.order.arriving; idle = sound.order.idle };
        unused = sound.unused;
        positive = sound.positive;
      }

  -- a new job at the queue's end
  pub entered_sound : (pool : Pool J) (place client : ℕ) (value : J) → IsSound pool
      → IsSound (record pool {
        queue = pool.queue ++ pool.next_serial ∷ [];
        jobs = insert pool.jobs
            pool.next_serial (new_job place client value);
        next_serial = pool.next_serial + 1;
      })
  entered_sound pool place client value sound =
      record {
        queue = record {
          once = IsOnce-push pool.queue serial sound.queue.once absent;
          each = λ s. elim (cases_eq s serial) [
            | inl same ↦ is_in-last s serial pool.queue same ∙ sym (ap is_queued_job (ap (get jobs)
                same ∙ at_insert_same pool.jobs serial (new_job place client value)))
            | inr far ↦ is_in-push s serial pool.queue far
                ∙ sound.queue.each s ∙ sym (ap is_queued_job
                (at_insert_other pool.jobs serial (new_job place client value) s far))
          ];
        };
        running =
            let counted = running_changed pool.jobs jobs serial (serial + 1) others (omega arith) in
            let fresh : one_if (is_running_job (get pool.jobs serial)) ≡ 0 =
            ap (λ j. one_if (is_running_job j)) none in
            let queued : one_if (is_running_job (get jobs serial)) ≡ 0 =
            ap (λ j. one_if (is_running_job j))
            (at_insert_same pool.jobs serial (new_job place client value)) in
            let more : running_below pool.jobs (serial + 1) ≡ running_below pool.jobs serial =
            ap (running_below pool.jobs) (add-one serial) ∙ omega (arith, fresh) in
            omega (arith, sound.running, counted, fresh, queued, more);
        order = sound.order;
        unused = λ s past. at_insert_other pool.jobs serial (new_job place client value) s
            (λ e. omega arith) ∙ sound.unused s (omega arith);
        positive = sound.positive;
      }
    where
      serial : ℕ
      serial = pool.next_serial

      jobs : Jobs J
      jobs = insert pool.jobs pool.next_serial (new_job place client value)

      none : get pool.jobs serial ≡ None
      none = sound.unused serial (omega arith)

      others : (other : ℕ) → other ≢ serial → get jobs other ≡ get pool.jobs other
      others = at_insert_other pool.jobs serial (new_job place client value)

      absent : is_in serial pool.queue ≡ false
      absent = sound.queue.each serial ∙ ap is_queued_job none

  -- a queued job is taken up by an idle worker
  pub taken_sound : (pool : Pool J) (serial : ℕ) (job : Job J) → is_in serial pool.queue ≡ true
      → get pool.jobs serial ≡ Some job → pool.counts.arriving < pool.counts.idle → IsSound pool
      → IsSound (record (with_taken pool serial job) { counts = after_pickup pool.counts })
  taken_sound pool serial job queued found free sound =
      record {
        queue = record {
          once = IsOnce-without serial pool.queue sound.queue.once;
          each = λ s. elim (cases_eq s serial) [
            | inl same ↦ ap (λ n. is_in n (without serial pool.queue)) same
                ∙ is_in-without_itself serial pool.queue
                ∙ sym (ap is_queued_job
                (ap (get jobs) same ∙ at_insert_same pool.jobs serial (entry_after_take job)))
            | inr far ↦ is_in-without s serial pool.queue far ∙ sound.queue.each s ∙ sym
                (ap is_queued_job (at_insert_other pool.jobs serial (entry_after_take job) s far))
          ];
        };
        running =
            let counted = running_changed pool.jobs jobs serial pool.next_serial
            (at_insert_other pool.jobs serial (entry_after_take job)) below in
            let one : one_if (is_running_job (get jobs serial)) ≡ 1 =
            ap (λ j. one_if (is_running_job j))
            (at_insert_same pool.jobs serial (entry_after_take job)) in
            let waited : one_if (is_running_job (get pool.jobs serial)) ≡ 0 =
            ap (λ j. one_if (is_running_job j)) found ∙ ap (λ s. one_if (is_running s))
            (queued_stands pool sound serial job queued found) in
            omega (arith, sound.running, counted, waited, one, free);
        order = record { arriving = omega (arith, free); idle = omega (arith, sound.order.idle) };
        unused = λ s past. at_insert_other pool.jobs serial (entry_after_take job) s
            (λ e. omega (arith, below)) ∙ sound.unused s past;
        positive = sound.positive;
      }
    where
      jobs : Jobs J
      jobs = insert pool.jobs serial (entry_after_take job)

      below : serial < pool.next_serial
      below = queued_below pool sound serial queued

  -- the number of a running job names a running job
  pub runs_running : (jobs : Jobs J) (number : JobNumber) → is_running_as jobs number ≡ true
      → is_running_job (get jobs number.serial) ≡ true
  runs_running jobs number runs =
      let job = running_job (job_of jobs number) runs in
      ap is_running_job ((job_of_found jobs number job.0 job.1).0) ∙ ap (λ s. is_running s) job.2

  pub not_queued : (job : Option (Job J)) → is_running_job job ≡ true → is_queued_job job ≡ false
  not_queued None runs = refl
  not_queued (Some job) runs = ap is_queued (running_is job.standing runs)

  -- a job's serial was used
  pub job_used : (pool : Pool J) (serial : ℕ) (job : Job J) → IsSound pool
      → get pool.jobs serial ≡ Some job → serial < pool.next_serial
  job_used pool serial job sound found =
      elim (cases_lt serial pool.next_serial) [
        | inl below ↦ below
        | inr past ↦ absurd (let none = sound.unused serial past in cc)
      ]

  -- what the test finds queued is a job
  pub queued_job : (found : Option (Job J)) → is_queued_job found ≡ true
      → (job : Job J) × (found ≡ Some job)
  queued_job None is = absurd (false≢true is)
  queued_job (Some job) is = (job, refl)

  pub running_used : (pool : Pool J) (serial : ℕ) → IsSound pool
      → is_running_job (get pool.jobs serial) ≡ true → serial < pool.next_serial
  running_used pool serial sound runs =
      elim (cases_lt serial pool.next_serial) [
        | inl below ↦ below
        | inr past ↦ absurd (false≢true (sym (ap is_running_job (sound.unused serial past)) ∙ runs))
      ]

  -- where a job runs, a worker isn't idle
  pub running_busy : (pool : Pool J) (number : JobNumber) → IsSound pool
      → is_running_as pool.jobs number ≡ true → pool.counts.idle < pool.counts.workers
  running_busy pool number sound runs =
      let runs_there = runs_running pool.jobs number runs in
      omega (
        arith,
        sound.running,
        count_some (λ s. is_running_job (get pool.jobs s)) number.serial
            pool.next_serial (running_used pool number.serial sound runs_there) runs_there,
      )

  -- a running job leaves
  pub removed_sound : (pool : Pool J) (number : JobNumber) → is_running_as pool.jobs number ≡ true
      → IsSound pool
      → IsSound (record pool {
        jobs = remove pool.jobs number.serial;
        counts = after_release pool.counts;
      })
  removed_sound pool number runs sound =
      record {
        queue = record {
          once = sound.queue.once;
          each = λ s. elim (cases_eq s serial) [
            | inl same ↦ ap (λ n. is_in n pool.queue) same ∙ sound.queue.each serial
                ∙ not_queued (get pool.jobs serial) runs_there
                ∙ sym (ap is_queued_job (ap (get jobs) same ∙ gone))
            | inr far ↦ sound.queue.each s
                ∙ sym (ap is_queued_job (at_remove_other pool.jobs serial s far))
          ];
        };
        running =
            let counted = running_changed pool.jobs jobs serial pool.next_serial
            (at_remove_other pool.jobs serial) (running_used pool serial sound runs_there) in
            let one : one_if (is_running_job (get pool.jobs serial)) ≡ 1 =
            ap (λ b. one_if b) runs_there in
            let none : one_if (is_running_job (get jobs serial)) ≡ 0 =
            ap (λ j. one_if (is_running_job j)) gone in
            omega (arith, sound.running, counted, one, none);
        order = record {
          arriving = omega (arith, sound.order.arriving);
          idle = omega (arith, running_busy pool number sound runs);
        };
        unused = λ s past. elim (cases_eq s serial) [
          | inl same ↦ ap (get jobs) same ∙ gone
          | inr far ↦ at_remove_other pool.jobs serial s far ∙ sound.unused s past
        ];
        positive = sound.positive;
      }
    where
      serial : ℕ
      serial = number.serial

      jobs : Jobs J
      jobs = remove pool.jobs number.serial

      runs_there : is_running_job (get pool.jobs number.serial) ≡ true
      runs_there = runs_running pool.jobs number runs

      gone : get jobs serial ≡ None
      gone = at_remove_same pool.jobs number.serial

  -- jobs that run in the one and in the other
  running_same : (old new : Jobs J) (next : ℕ)
      → ((s : ℕ) → is_running_job (get new s) ≡ is_running_job (get old s))
      → running_below new next ≡ running_below old next
  running_same old new next same = count_same (λ s. is_running_job (get new s))
      (λ s. is_running_job (get old s)) next (λ s below. same s)

  -- a job of this serial changes, and no other
  pub amend_same : (jobs : Jobs J) (serial : ℕ) (change : Job J → Job J) (job : Job J)
      → get jobs serial ≡ Some job → get (amend jobs serial change) serial ≡ Some (change job)
  amend_same jobs serial change job found =
      ap (λ js. get js serial) (amend_found jobs serial change job found)
      ∙ at_insert_same jobs serial (change job)

  pub amend_other : (jobs : Jobs J) (serial : ℕ) (change : Job J → Job J) (other : ℕ)
      → other ≢ serial → get (amend jobs serial change) other ≡ get jobs other
  amend_other jobs serial change other differs = at_changed jobs serial other change differs

  -- what is said of each job, where one changes for which it is said too
  pub amend_each : (P : Option (Job J) → Option (Job J) → Type 0) (jobs : Jobs J)
      (serial : ℕ) (change : Job J → Job J)
      → ((j : Option (Job J)) → P j j) → ((j : Job J) → P (Some (change j)) (Some j)) → (s : ℕ)
      → P (get (amend jobs serial change) s) (get jobs s)
  amend_each P jobs serial change alike changes s = by_job (get jobs serial) refl
    where
      by_job : (found : Option (Job J)) → get jobs serial ≡ found
          → P (get (amend jobs serial change) s) (get jobs s)
      by_job None there = subst (λ js. P (get js s) (get jobs s))
          (sym (ap (jobs_after_change jobs serial change) there)) (alike (get jobs s))
      by_job (Some job) there =
          elim (cases_eq s serial) [
            | inl same ↦ subst (λ n. P (get (amend jobs serial change) n) (get jobs n)) (sym same)
                (subst (λ j. P j (get jobs serial)) (sym (amend_same jobs serial change job there))
                (subst (P (Some (change job))) (sym there) (changes job)))
            | inr differs ↦ subst (λ j. P j (get jobs s))
                (sym (amend_other jobs serial change s differs)) (alike (get jobs s))
          ]

  -- the same serials have jobs
  pub amend_there : (jobs : Jobs J) (serial : ℕ) (change : Job J → Job J) (s : ℕ)
      → is_some (get (amend jobs serial change) s) ≡ is_some (get jobs s)
  amend_there jobs serial change =
      amend_each (λ new old. is_some new ≡ is_some old) jobs serial change (λ j. refl) (λ j. refl)

  none_there : (j : Option (Job J)) → is_some j ≡ false → j ≡ None
  none_there None is = refl
  none_there (Some j) is = absurd (false≢true (sym is))

  -- a job changes, and stands as it did
  pub marked_sound : (pool : Pool J) (serial : ℕ) (change : Job J → Job J)
      → ((j : Job J) → (change j).standing ≡ j.standing) → IsSound pool
      → IsSound (record pool { jobs = amend pool.jobs serial change })
  marked_sound pool serial change alike sound =
      record {
        queue = record {
          once = sound.queue.once;
          each = λ s. sound.queue.each s
              ∙ sym (amend_each (λ new old. is_queued_job new ≡ is_queued_job old) pool.jobs serial
              change (λ j. refl) (λ j. ap is_queued (alike j)) s);
        };
        running = sound.running ∙ ap (λ n. pool.counts.idle + n)
            (sym (running_same pool.jobs (amend pool.jobs serial change) pool.next_serial
            (amend_each (λ new old. is_running_job new ≡ is_running_job old) pool.jobs serial change
            (λ j. refl) (λ j. ap is_running (alike j)))));
        order = sound.order;
        unused = λ s past.
            none_there _ (amend_there pool.jobs serial change s ∙ ap is_some (sound.unused s past));
        positive = sound.positive;
      }

  -- a parked job stands at the queue's end
  again_sound : (pool : Pool J) (serial : ℕ) (job : Job J) → get pool.jobs serial ≡ Some job
      → job.standing ≡ Parked → IsSound pool
      → IsSound (record pool {
        queue = pool.queue ++ serial ∷ [];
        jobs = amend pool.jobs serial entry_after_requeue;
      })
  again_sound pool serial job found parked sound =
      record {
        queue = record {
          once = IsOnce-push pool.queue serial sound.queue.once
              (sound.queue.each serial ∙ ap is_queued_job found ∙ ap is_queued parked);
          each = λ s. elim (cases_eq s serial) [
            | inl same ↦ is_in-last s serial pool.queue same
                ∙ sym (ap is_queued_job (ap (get (amend pool.jobs serial entry_after_requeue)) same
                ∙ amend_same pool.jobs serial entry_after_requeue job found))
            | inr far ↦ is_in-push s serial pool.queue far ∙ sound.queue.each s
                ∙ sym (ap is_queued_job (amend_other pool.jobs serial entry_after_requeue s far))
          ];
        };
        running = sound.running ∙ ap (λ n. pool.counts.idle + n)
            (sym (running_same pool.jobs (amend pool.jobs serial entry_after_requeue)
            pool.next_serial (λ s. elim (cases_eq s serial) [
              | inl same ↦ ap is_running_job
                  (ap (get (amend pool.jobs serial entry_after_requeue)) same
                  ∙ amend_same pool.jobs serial entry_after_requeue job found)
                  ∙ sym (ap is_running_job (ap (get pool.jobs) same ∙ found) ∙ ap is_running parked)
              | inr far ↦ ap is_running_job (amend_other pool.jobs serial entry_after_requeue s far)
            ])));
        order = sound.order;
        unused = λ s past. none_there _
            (amend_there pool.jobs serial entry_after_requeue s ∙ ap is_some (sound.unused s past));
        positive = sound.positive;
      }

  -- parked jobs stand at the queue's end
  pub requeued_sound : (pool : Pool J) (serials : List ℕ) → IsOnce serials
      → ((s : ℕ) → is_in s serials ≡ true → is_parked_job (get pool.jobs s) ≡ true) → IsSound pool
      → IsSound (record pool {
        queue = pool.queue ++ serials;
        jobs = jobs_after_requeue pool.jobs serials;
      })
  requeued_sound pool [] once parked sound =
      subst (λ queue. IsSound (record pool { queue = queue })) (sym (append-nil pool.queue)) sound
  requeued_sound pool (serial ∷ serials) once parked sound =
      let job = parked_job (get pool.jobs serial) (parked serial (is_in-first serial serials)) in
      subst (λ queue. IsSound (record pool {
        queue = queue;
        jobs = jobs_after_requeue (amend pool.jobs serial entry_after_requeue) serials;
      }))
      (append_assoc pool.queue (serial ∷ []) serials)
      (requeued_sound (record pool {
        queue = pool.queue ++ serial ∷ [];
        jobs = amend pool.jobs serial entry_after_requeue;
      }) serials once.1
      (λ s found.
      let far : s ≢ serial =
      λ e. false≢true (sym once.0 ∙ ap (λ n. is_in n serials) (sym e) ∙ found) in
      ap is_parked_job (amend_other pool.jobs serial entry_after_requeue s far)
      ∙ parked s (or_right (eqb s serial) (is_in s serials) found))
      (again_sound pool serial job.0 job.1 job.2 sound))

  -- a running job waits, and its worker is free
  pub parked_sound : (pool : Pool J) (number : JobNumber) (value : J)
      → is_running_as pool.jobs number ≡ true → IsSound pool
      → IsSound (record pool {
        jobs = amend pool.jobs number.serial (entry_after_park value);
        counts = after_release pool.counts;
      })
  parked_sound pool number value runs sound =
      record {
        queue = record {
          once = sound.queue.once;
          each = λ s. elim (cases_eq s serial) [
            | inl same ↦ ap (λ n. is_in n pool.queue) same ∙ sound.queue.each serial
                ∙ not_queued (get pool.jobs serial) runs_there
                ∙ sym (ap is_queued_job (ap (get jobs) same ∙ there))
            | inr far ↦ sound.queue.each s ∙ sym
                (ap is_queued_job (amend_other pool.jobs serial (entry_after_park value) s far))
          ];
        };
        running =
            let counted = running_changed pool.jobs
            jobs serial pool.next_serial (amend_other pool.jobs serial (entry_after_park value))
            (running_used pool serial sound runs_there) in
            let one : one_if (is_running_job (get pool.jobs serial)) ≡ 1 =
            ap (λ b. one_if b) runs_there in
            let none : one_if (is_running_job (get jobs serial)) ≡ 0 =
            ap (λ j. one_if (is_running_job j)) there in
            omega (arith, sound.running, counted, one, none);
        order = record {
          arriving = omega (arith, sound.order.arriving);
          idle = omega (arith, running_busy pool number sound runs);
        };
        unused = λ s past. none_there _ (amend_there pool.jobs serial (entry_after_park value) s
            ∙ ap is_some (sound.unused s past));
        positive = sound.positive;
      }
    where
      serial : ℕ
      serial = number.serial

      jobs : Jobs J
      jobs = amend pool.jobs number.serial (entry_after_park value)

      runs_there : is_running_job (get pool.jobs number.serial) ≡ true
      runs_there = runs_running pool.jobs number runs

      job : (job : Job J) × (job_of pool.jobs number ≡ Some job) × (job.standing ≡ Running)
      job = running_job (job_of pool.jobs number) runs

      there : get jobs serial ≡ Some (entry_after_park value job.0)
      there = amend_same pool.jobs number.serial (entry_after_park value) job.0
          (job_of_found pool.jobs number job.0 job.1).0
