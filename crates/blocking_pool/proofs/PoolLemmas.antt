-- What each call of a pool keeps of its table and counts, and does.
use Rattle.std.proofs.Common.{◌≡◌, ℕ, ◌+◌, ◌-◌, ◌<◌, ◌≤◌, Bool, true, false, cond, eqb, ◌||◌, ◌&&◌}
use Rattle.std.proofs.Common.{filter, List, [], ◌∷◌, ◌++◌, length, Option, Some, None, option_map}
use Rattle.std.proofs.Common.{OnSome, refl, sym, ap, ◌∙◌, subst, arith}
use Rattle.std.proofs.lemmas.Bool.{eqb-true, eq-eqb, or_right, and_parts, false≢true}
use Rattle.std.proofs.lemmas.List.{append-nil, length-append}
use Rattle.std.specs.FinMap.{get, insert, remove, empty, get-empty}
use Rattle.std.specs.Ordering.{nat_cmp}
use Rattle.blocking_pool.specs.Batch.{IsRising}
use Rattle.blocking_pool.specs.Clients.{tally_at, no_jobs, has_room_at, enrolled, started, stopped}
use Rattle.blocking_pool.specs.Clients.{Tally}
use Rattle.blocking_pool.specs.Lists.{is_in, IsOnce, without, first_of}
use Rattle.blocking_pool.specs.Ready.{client_of, is_job_of, is_running_for}
use Rattle.blocking_pool.specs.Sweeps.{is_due, swept, serials_below}
use Rattle.blocking_pool.specs.Tables.{Table, Becomes, MakesRoom, HasJobs, TakesFirst, TakesJob}
use Rattle.blocking_pool.specs.Tables.{SweepsAll, pool_over, tally_of, tally_for, client_at}
use Rattle.blocking_pool.specs.Tables.{retallied, left, ready_of, queued_for, AreCounted, MayEnter}
use Rattle.blocking_pool.specs.Tables.{MayLeave, IsWhole}
use Rattle.blocking_pool.specs.PoolAnswers.{Sweeps, SweepsTo, StaysOrStops, Waits}
use Rattle.blocking_pool.specs.declared.pool.answer.Waited.{Waited}
use Rattle.blocking_pool.specs.declared.pool.table.Front.{Front}
use Rattle.blocking_pool.specs.Jobs.{Job, Jobs, JobNumber, is_running, is_parked, new_job}
use Rattle.blocking_pool.specs.Jobs.{entry_after_take, is_parked_job, one_if, is_running_as, job_of}
use Rattle.blocking_pool.specs.Jobs.{standing_of, amend, entry_after_requeue, entry_after_park}
use Rattle.blocking_pool.specs.Jobs.{entry_after_cancel, entry_with, jobs_after_requeue}
use Rattle.blocking_pool.specs.Counts.{Counts, no_workers, after_pickup, after_release, after_ring}
use Rattle.blocking_pool.specs.Growth.{Asking, RefusesNone, Growth, Grows, after_growth, greatest}
use Rattle.blocking_pool.specs.Pools.{Pool, is_queued_job, IsSound, ready, ready_with, Enters}
use Rattle.blocking_pool.specs.Pools.{FindsNobody, IsToDrop, TakesFront, EnterAgain, with_job}
use Rattle.blocking_pool.specs.Pools.{empty_pool}
use Rattle.blocking_pool.specs.TableLends.{IfLent}
use Rattle.blocking_pool.specs.declared.pool.standing.Standing.{Standing}
use Rattle.blocking_pool.specs.declared.pool.standing.Standing.TheVariants.{Running, Parked}
use Rattle.blocking_pool.specs.declared.pool.bell.BellKind.TheVariants.{One}
use Rattle.blocking_pool.proofs.CountLemmas.{count_none, count_one}
use Rattle.blocking_pool.proofs.Lists.{is_in-first, first_in, kept_in}
use Rattle.blocking_pool.proofs.Standings.{standing_job, running_job}
use Rattle.blocking_pool.proofs.SweepLemmas.{shorter, once_rising, job_of_found, job_of_amend}
use Rattle.blocking_pool.proofs.SweepLemmas.{may_enter, swept_serials}
use Rattle.blocking_pool.proofs.TallyLemmas.{retold, running_at_most, jobs_at_most, running_within}
use Rattle.blocking_pool.proofs.TallyLemmas.{job_counted, run_counted, entered_tally, taken_tally}
use Rattle.blocking_pool.proofs.TallyLemmas.{parked_tally, removed_tally, marked_tally}
use Rattle.blocking_pool.proofs.TallyLemmas.{requeued_tally, ready_told, room_told}
use Rattle.blocking_pool.proofs.SoundLemmas.{queued_below, queued_stands, queue_within, empty_sound}
use Rattle.blocking_pool.proofs.SoundLemmas.{grown_sound, rung_sound, entered_sound, taken_sound}
use Rattle.blocking_pool.proofs.SoundLemmas.{runs_running, not_queued, job_used, queued_job}
use Rattle.blocking_pool.proofs.SoundLemmas.{running_used, removed_sound, amend_each, marked_sound}
use Rattle.blocking_pool.proofs.SoundLemmas.{requeued_sound, parked_sound}

none_of : (serials : List ℕ) → length serials ≡ 0 → serials ≡ []
none_of [] is = refl
none_of (s ∷ serials) is = absurd (omega (arith, is))

module _ {J : Type 0} where
  -- the pool that has a table, as the table is told
  pub pool_as : (old new : Table J) (queue : List ℕ) (jobs : Jobs J) (tallies : ℕ → Tally)
      (counts numbers : Counts) (next : ℕ) → Becomes old new queue jobs tallies → numbers ≡ counts
      → pool_over new numbers next
      ≡ record (pool_over old counts next) { queue = queue; jobs = jobs }
  pool_as old new queue jobs tallies counts numbers next becomes same =
      ap (λ q. record (pool_over new numbers next) { queue = q }) becomes.queue_is
      ∙ ap (λ js. record (pool_over new numbers next) { queue = queue; jobs = js }) becomes.jobs_are
      ∙ ap (λ c. record (pool_over new c next) { queue = queue; jobs = jobs }) same
      ∙ ap (λ l. record (pool_over new counts next)
      { queue = queue; jobs = jobs; client_limit = l }) becomes.limit_is

  -- the tallies of a table, as it is told
  pub tallied_as : (old new : Table J) (queue : List ℕ) (jobs : Jobs J) (tallies : ℕ → Tally)
      (next : ℕ) → Becomes old new queue jobs tallies → ((c : ℕ) → tallies c ≡ tally_of jobs next c)
      → (c : ℕ) → tally_at new.tallies c ≡ tally_of new.jobs next c
  tallied_as old new queue jobs tallies next becomes told c =
      becomes.tallies_are c ∙ told c ∙ ap (λ js. tally_of js next c) (sym becomes.jobs_are)

  -- the ready jobs of a table, as it is told
  pub ready_as : (old new : Table J) (queue : List ℕ) (jobs : Jobs J)
      (tallies : ℕ → Tally) (counts : Counts) (next : ℕ) → Becomes old new queue jobs tallies
      → ((c : ℕ) → tallies c ≡ tally_of jobs next c)
      → ready_of new ≡ ready (record (pool_over old counts next) { queue = queue; jobs = jobs })
  ready_as old new queue jobs tallies counts next becomes told =
      ready_told new counts next (tallied_as old new queue jobs tallies next becomes told)
      ∙ ap ready (pool_as old new queue jobs tallies counts counts next becomes refl)

  -- what a table and counts keep, as their parts are told
  pub whole_as : (old new : Table J) (queue : List ℕ) (jobs : Jobs J) (tallies : ℕ → Tally)
      (counts numbers : Counts) (next room : ℕ) → Becomes old new queue jobs tallies
      → numbers ≡ counts → old.room ≤ room
      → IsSound (record (pool_over old counts next) { queue = queue; jobs = jobs })
      → ((c : ℕ) → tallies c ≡ tally_of jobs next c) → IsWhole new numbers next room
  whole_as old new queue jobs tallies counts numbers next room becomes same within sound told =
      record {
        sound = subst IsSound
            (sym (pool_as old new queue jobs tallies counts numbers next becomes same)) sound;
        room = omega (arith, becomes.room_is, within);
        tallied = tallied_as old new queue jobs tallies next becomes told;
      }

  -- the tallies, where one client's has changed so
  retold_as : (table : Table J) (counts : Counts) (next room client : ℕ) (change : Tally → Tally)
      → IsWhole table counts next room → (c : ℕ)
      → retallied table.tallies client change c ≡ retold (tally_of table.jobs next) client change c
  retold_as table counts next room client change whole c =
      ap (λ t. cond (eqb c client) (change t) (tally_at table.tallies c)) (whole.tallied client)
      ∙ ap (λ t. cond (eqb c client) (change (tally_of table.jobs next client)) t)
      (whole.tallied c)

  -- a pool with no job
  pub empty_whole : (table : Table J) (setting serial worker room : ℕ) (counts : Counts)
      → table.queue ≡ [] → table.jobs ≡ empty → ((c : ℕ) → tally_at table.tallies c ≡ no_jobs)
      → table.client_limit ≡ None → table.room ≡ 0
      → counts ≡ no_workers setting worker → IsWhole table counts serial room
  empty_whole table setting serial worker room counts queue jobs tallies limit narrow none =
      record {
        sound = subst IsSound (sym (
            ap (λ q. record (pool_over table counts serial) { queue = q }) queue
            ∙ ap (λ js. record (pool_over table counts serial) { queue = []; jobs = js }) jobs
            ∙ ap (λ c. record (empty_pool setting serial worker)
            { counts = c; client_limit = table.client_limit }) none
            ∙ ap (λ l. record (empty_pool setting serial worker) { client_limit = l })
            limit)) (empty_sound setting serial worker);
        room = omega (arith, narrow);
        tallied = λ c. tallies c ∙ sym (ap (λ js. tally_of js serial c) jobs ∙ nobody c);
      }
    where
      nobody : (c : ℕ) → tally_of {J = J} empty serial c ≡ no_jobs
      nobody c =
          ap (λ n. record { jobs = n; running = (tally_of {J = J} empty serial c).running })
          (count_none (λ s. is_job_of {J = J} c (get empty s)) serial
          (λ s. ap (is_job_of c) (get-empty nat_cmp s)))
          ∙ ap (λ n. record { jobs = 0; running = n })
          (count_none (λ s. is_running_for {J = J} c (get empty s)) serial
          (λ s. ap (is_running_for c) (get-empty nat_cmp s)))

  -- room was made
  reserved_pool : (old new : Table J) (counts : Counts) (next : ℕ) → MakesRoom old new
      → pool_over new counts next ≡ pool_over old counts next
  reserved_pool old new counts next made =
      ap (λ q. record (pool_over new counts next) { queue = q }) made.queue_is ∙ ap
      (λ js. record (pool_over new counts next) { queue = old.queue; jobs = js }) made.jobs_are
      ∙ ap (λ l. record (pool_over old counts next) { client_limit = l }) made.limit_is

  pub reserved_whole : (old new : Table J) (counts : Counts) (next room more : ℕ)
      → IsWhole old counts next room → MakesRoom old new → new.room ≤ more
      → IsWhole new counts next more
  reserved_whole old new counts next room more whole made within =
      record {
        sound = subst IsSound (sym (reserved_pool old new counts next made)) whole.sound;
        room = within;
        tallied = λ c. made.tallies c ∙ whole.tallied c
            ∙ ap (λ js. tally_of js next c) (sym made.jobs_are);
      }

  -- how many jobs are ready, with one more of a client
  ready_one_more : (old new : Table J) (counts : Counts) (next room more client : ℕ)
      (before : Pool J) → IsWhole new counts next more → MakesRoom old new
      → pool_over old counts next ≡ before → length (ready_of new)
      + one_if (has_room_at new.client_limit new.tallies client) ≡ ready_with before client
  ready_one_more old new counts next room more client before whole made seen =
      ap (λ rs. length rs + one_if (has_room_at new.client_limit new.tallies client))
      (ready_told new counts next whole.tallied)
      ∙ ap (λ b. length (ready (pool_over new counts next)) + one_if b)
      (room_told new counts next client whole.tallied)
      ∙ ap (λ p. ready_with p client) (reserved_pool old new counts next made ∙ seen)

  -- no more are ready than there were serials
  pub ready_within : (table : Table J) (counts : Counts) (next room : ℕ)
      → IsWhole table counts next room → length (ready_of table) ≤ next
  ready_within table counts next room whole =
      omega (
        arith,
        queue_within (pool_over table counts next) whole.sound,
        shorter
            (λ s. has_room_at table.client_limit table.tallies (client_of (get table.jobs s)))
            table.queue,
      )

  -- fewer jobs are a client's than there may be numbers
  pub jobs_under : (table : Table J) (counts : Counts) (next room client : ℕ)
      → IsWhole table counts next room → (tally_at table.tallies client).jobs ≤ next
  jobs_under table counts next room client whole =
      let told = ap (λ t. t.jobs) (whole.tallied client) in
      omega (arith, told, jobs_at_most table.jobs next client)

  -- no worker is there for a new job
  pub finds_nobody : (asking : Asking) (old new : Table J) (counts after : Counts) (growth : Growth)
      (next room more client many : ℕ) (before : Pool J) → IsWhole old counts next room
      → MakesRoom old new → new.room ≤ more → next < greatest
      → many ≡ length (ready_of new) + one_if (has_room_at new.client_limit new.tallies client)
      → Grows asking many counts after growth → after.workers ≡ 0
      → pool_over old counts next ≡ before
      → FindsNobody asking before client (pool_over new after next)
  finds_nobody asking old new counts after growth next room more client many before whole made
      within below are grows none seen =
      subst (λ p. FindsNobody asking p client (pool_over new after next)) seen
      (record {
        left = below;
        growth = growth;
        counts = after;
        grows = subst (λ n. Grows asking n counts after growth)
            (are ∙ ready_one_more old new counts next room more client (pool_over old counts next)
            (reserved_whole old new counts next room more whole made within) made refl) grows;
        unstaffed = none;
        after_is = reserved_pool old new after next made;
      })

  -- a new job, after the growth
  pub entered_whole : (old mid new : Table J) (place client : ℕ) (value : J) (counts after : Counts)
      (growth : Growth) (next room more : ℕ) → IsWhole old counts next room → MakesRoom old mid
      → mid.room ≤ more
      → Becomes mid new (mid.queue ++ next ∷ []) (insert mid.jobs next (new_job place client value))
      (retallied mid.tallies client enrolled)
      → after ≡ after_ring One (after_growth counts growth) → IsWhole new after (next + 1) more
  entered_whole old mid new place client value counts after growth next room more whole made within
      becomes is =
      let ready = reserved_whole old mid counts next room more whole made within in
      whole_as mid new (mid.queue ++ next ∷ []) (insert mid.jobs next (new_job place client value))
      (retallied mid.tallies client enrolled) (after_ring One (after_growth counts growth))
      after (next + 1) more becomes is within
      (entered_sound _ place client value (rung_sound _ One (grown_sound _ growth ready.sound)))
      (λ c. retold_as mid counts next more client enrolled ready c ∙ sym (entered_tally mid.jobs
      place client next value (ready.sound.unused next (omega arith)) c))

  -- a new job enters
  pub enters_so : (asking : Asking) (old mid new : Table J) (number : JobNumber) (value : J)
      (counts numbers after : Counts) (growth : Growth) (next room more client many : ℕ)
      (before : Pool J) → IsWhole old counts next room → MakesRoom old mid → mid.room ≤ more
      → next < greatest
      → many ≡ length (ready_of mid) + one_if (has_room_at mid.client_limit mid.tallies client)
      → Grows asking many counts numbers growth → 0 < numbers.workers
      → after ≡ after_ring One numbers → number.serial ≡ next
      → Becomes mid
      new (mid.queue ++ next ∷ []) (insert mid.jobs next (new_job number.place client value))
      (retallied mid.tallies client enrolled) → pool_over old counts next ≡ before
      → Enters asking before client value number (pool_over new after (next + 1))
  enters_so asking old mid new number value counts numbers after growth next room more client many
      before whole made within below are grows some rings serial becomes seen =
      subst (λ p. Enters asking p client value number (pool_over new after (next + 1))) seen
      (record {
        serial = serial;
        left = below;
        growth = growth;
        counts = numbers;
        grows = subst (λ n. Grows asking n counts numbers growth)
            (are ∙ ready_one_more old mid counts next room more client (pool_over old counts next)
            (reserved_whole old mid counts next room more whole made within) made refl) grows;
        staffed = some;
        after_is = pool_as mid
            new (mid.queue ++ next ∷ []) (insert mid.jobs next (new_job number.place client value))
            (retallied mid.tallies client enrolled) (after_ring One numbers) after (next + 1)
            becomes rings
            ∙ ap {A = Pool J} (λ p. record p {
              queue = p.queue ++ next ∷ [];
              jobs = insert p.jobs
                  next (new_job number.place client value);
              counts = after_ring One numbers;
              next_serial = next + 1;
            }) (reserved_pool old mid numbers next made);
      })

  -- the taken job stands in the queue
  front_in : (table : Table J) (front : Front J) → first_of (ready_of table) ≡ Some front.no.serial
      → is_in front.no.serial table.queue ≡ true
  front_in table front first =
      (kept_in (λ s. has_room_at table.client_limit table.tallies (client_of (get table.jobs s)))
      front.no.serial table.queue (first_in front.no.serial (ready_of table) first)).0

  -- the tallies after a take
  taken_told : (old new : Table J) (front : Front J) (counts : Counts) (next room : ℕ)
      → IsWhole old counts next room → (takes : TakesJob old front new) → (c : ℕ)
      → retallied old.tallies takes.job.client started c
      ≡ tally_of (insert old.jobs front.no.serial (entry_after_take takes.job)) next c
  taken_told old new front counts next room whole takes c =
      let queued = front_in old front takes.first in
      retold_as old counts next room takes.job.client started whole c
      ∙ sym (taken_tally old.jobs front.no.serial next takes.job
      takes.found (queued_stands _ whole.sound front.no.serial takes.job queued takes.found)
      (queued_below _ whole.sound front.no.serial queued) c)

  -- the first ready job is taken, and the pool grows
  pub taken_whole : (old new : Table J) (front : Front J) (counts after : Counts) (growth : Growth)
      (next room : ℕ) → IsWhole old counts next room → TakesFirst old (Some front) new
      → counts.arriving < counts.idle
      → after ≡ after_growth (after_pickup counts) growth → IsWhole new after next room
  taken_whole old new front counts after growth next room whole takes free is =
      whole_as old new (without front.no.serial old.queue) (insert old.jobs front.no.serial
      (entry_after_take takes.job)) (retallied old.tallies takes.job.client started)
      (after_growth (after_pickup counts) growth) after next room
      takes.becomes is whole.room
      (grown_sound _ growth (taken_sound _ front.no.serial takes.job
      (front_in old front takes.first) takes.found free whole.sound))
      (taken_told old new front counts next room whole takes)

  -- what a take does
  pub takes_front : (may_mark : J → Bool → Type 0) (asking : Asking) (old new : Table J)
      (front : Front J) (counts picked after : Counts) (growth : Growth) (next room many : ℕ)
      (number : JobNumber) (to_drop : Bool) (before : Pool J) → IsWhole old counts next room
      → TakesFirst old (Some front) new → number ≡ front.no → picked ≡ after_pickup counts
      → many ≡ length (ready_of new) → Grows asking many picked after growth
      → IsToDrop may_mark front.cancelled front.value to_drop → pool_over old counts next ≡ before
      → TakesFront may_mark asking before number front.value to_drop (pool_over new after next)
  takes_front may_mark asking old new front counts picked after growth next room many number to_drop
      before whole takes same picks are grows wanted seen =
      subst (λ p.
      TakesFront may_mark asking p number front.value to_drop (pool_over new after next)) seen
      (subst (λ n. TakesFront may_mark asking (pool_over old counts next) n front.value to_drop
      (pool_over new after next)) (sym same) (record {
        front = ap first_of (sym (ready_told old counts next whole.tallied)) ∙ takes.first;
        job = takes.job;
        found = takes.found;
        place = takes.place;
        value_is = takes.value_is;
        wanted = subst (λ b. IsToDrop may_mark b front.value to_drop) takes.cancelled_is wanted;
        growth = growth;
        counts = after;
        grows = subst (λ n. Grows asking n (after_pickup counts) after growth)
            (are ∙ ap length (ready_as old new (without front.no.serial old.queue)
            (insert old.jobs front.no.serial (entry_after_take takes.job))
            (retallied old.tallies takes.job.client started) counts next takes.becomes
            (taken_told old new front counts next room whole takes)))
            (subst (λ c. Grows asking many c after growth) picks grows);
        after_is = pool_as old new (without front.no.serial old.queue)
            (insert old.jobs front.no.serial (entry_after_take takes.job))
            (retallied old.tallies takes.job.client started) after after next takes.becomes refl;
      }))

  -- no job is ready
  pub none_ready : (old new : Table J) (counts : Counts) (next room : ℕ) (before : Pool J)
      → IsWhole old counts next room → TakesFirst old None new → pool_over old counts next ≡ before
      → (ready before ≡ []) × (pool_over new counts next ≡ before)
  none_ready old new counts next room before whole none seen = (
    ap ready (sym seen) ∙ sym (ready_told old counts next whole.tallied) ∙ none.0,
    ap (λ t. pool_over t counts next) none.1 ∙ seen,
  )

  -- where a worker is idle, fewer jobs of a client run than there are workers
  pub running_under : (table : Table J) (counts : Counts) (next room client : ℕ)
      → IsWhole table counts next room → counts.arriving < counts.idle
      → (tally_at table.tallies client).running < counts.workers
  running_under table counts next room client whole free =
      let told = ap (λ t. t.running) (whole.tallied client) in
      omega (arith, told, whole.sound.running, running_at_most table.jobs next client, free)

  -- where a job changes, and stands as it did, the tallies stay
  pub still_tally : (jobs : Jobs J) (serial next : ℕ) (change : Job J → Job J)
      → ((j : Job J) → (change j).standing ≡ j.standing)
      → ((j : Job J) → (change j).client ≡ j.client) → (c : ℕ)
      → tally_of (amend jobs serial change) next c ≡ tally_of jobs next c
  still_tally jobs serial next change alike whose c =
      marked_tally jobs serial next change
      (λ d. amend_each (λ new old. is_job_of d new ≡ is_job_of d old) jobs serial change (λ j. refl)
      (λ j. ap (λ n. eqb n d) (whose j)) serial)
      (λ d. amend_each (λ new old. is_running_for d new ≡ is_running_for d old) jobs serial change
      (λ j. refl)
      (λ j. ap (λ s. is_running s && eqb (change j).client d) (alike j)
      ∙ ap (λ n. is_running j.standing && eqb n d) (whose j)) serial) c

  -- a job is marked
  pub marked_whole : (old new : Table J) (counts : Counts) (next room serial : ℕ)
      (change : Job J → Job J) → ((j : Job J) → (change j).standing ≡ j.standing)
      → ((j : Job J) → (change j).client ≡ j.client) → IsWhole old counts next room
      → HasJobs old new (amend old.jobs serial change) → IsWhole new counts next room
  marked_whole old new counts next room serial change alike whose whole becomes =
      whole_as old new old.queue (amend old.jobs serial change) (tally_at old.tallies) counts counts
      next room becomes refl whole.room
      (marked_sound _ serial change alike whole.sound)
      (λ c. whole.tallied c ∙ sym (still_tally old.jobs serial next change alike whose c))

  -- the tallies when parked jobs have entered
  requeued_told : (old : Table J) (counts : Counts) (next room : ℕ) (serials : List ℕ)
      → IsOnce serials → ((s : ℕ) → is_in s serials ≡ true → is_parked_job (get old.jobs s) ≡ true)
      → IsWhole old counts next room
      → (c : ℕ) → tally_at old.tallies c ≡ tally_of (jobs_after_requeue old.jobs serials) next c
  requeued_told old counts next room serials once parked whole c =
      whole.tallied c ∙ sym (requeued_tally old.jobs serials next once parked c)

  -- parked jobs enter again, and the pool grows
  pub requeued_whole : (old new : Table J)
      (counts after : Counts) (growth : Growth) (next room : ℕ) (serials : List ℕ)
      → IsOnce serials → ((s : ℕ) → is_in s serials ≡ true → is_parked_job (get old.jobs s) ≡ true)
      → IsWhole old counts next room
      → Becomes old new (old.queue ++ serials) (jobs_after_requeue old.jobs serials)
      (tally_at old.tallies) → after ≡ after_ring One (after_growth counts growth)
      → IsWhole new after next room
  requeued_whole old new counts after growth next room serials once parked whole becomes is =
      whole_as old new (old.queue ++ serials) (jobs_after_requeue old.jobs serials)
      (tally_at old.tallies) (after_ring One (after_growth counts growth)) after next room
      becomes is whole.room
      (rung_sound _ One (grown_sound _ growth (requeued_sound _ serials once parked whole.sound)))
      (requeued_told old counts next room serials once parked whole)

  -- what it does that parked jobs enter again
  pub enters_again : (asking : Asking) (old new : Table J) (counts numbers told : Counts)
      (growth : Growth) (next room many : ℕ) (serials : List ℕ) (before : Pool J) → IsOnce serials
      → ((s : ℕ) → is_in s serials ≡ true → is_parked_job (get old.jobs s) ≡ true)
      → IsWhole old counts next room → Becomes old
      new (old.queue ++ serials) (jobs_after_requeue old.jobs serials) (tally_at old.tallies)
      → many ≡ length (ready_of new) → Grows asking many counts numbers growth
      → told ≡ after_ring One numbers
      → pool_over old counts next ≡ before
      → EnterAgain asking before serials (pool_over new told next)
  enters_again asking old new counts numbers told growth next room many serials before once parked
      whole becomes are grows rings seen =
      subst (λ p. EnterAgain asking p serials (pool_over new told next)) seen
      (record {
        growth = growth;
        counts = numbers;
        grows = subst (λ n. Grows asking n counts numbers growth)
            (are ∙ ap length (ready_as old new (old.queue ++ serials) (jobs_after_requeue
            old.jobs serials) (tally_at old.tallies) (after_ring One counts) next becomes
            (requeued_told old counts next room serials once parked whole))) grows;
        after_is = pool_as old new (old.queue ++ serials) (jobs_after_requeue old.jobs serials)
            (tally_at old.tallies) (after_ring One numbers) told next becomes rings;
      })

  -- the job of a number that stands parked
  pub parked_one : (jobs : Jobs J) (number : JobNumber) → standing_of jobs number ≡ Some Parked
      → (s : ℕ) → is_in s (number.serial ∷ []) ≡ true → is_parked_job (get jobs s) ≡ true
  parked_one jobs number parked s found =
      let job = standing_job (job_of jobs number) Parked parked in
      let same : s ≡ number.serial =
      eqb-true s number.serial (or_alone (eqb s number.serial) found) in
      ap (λ n. is_parked_job (get jobs n)) same
      ∙ ap is_parked_job (job_of_found jobs number job.0 job.1).0 ∙ ap is_parked job.2
    where
      or_alone : (b : Bool) → (b || false) ≡ true → b ≡ true
      or_alone true is = refl
      or_alone false is = is

  -- a cancelled job stands as it did
  pub cancelled_stands : (jobs : Jobs J) (number : JobNumber) (standing : Standing)
      → standing_of jobs number ≡ Some standing
      → standing_of (amend jobs number.serial entry_after_cancel) number ≡ Some standing
  cancelled_stands jobs number standing is =
      let job = standing_job (job_of jobs number) standing is in
      ap (λ j. option_map (λ found. found.standing) j)
      (job_of_amend jobs number job.0 entry_after_cancel (λ j. refl) job.1) ∙ ap Some job.2

  -- a job that was parked just now stands parked
  pub parked_stands : (jobs : Jobs J) (number : JobNumber) (value : J) → is_running_as jobs number
      ≡ true → standing_of (amend jobs number.serial (entry_after_park value)) number ≡ Some Parked
  parked_stands jobs number value runs =
      let job = running_job (job_of jobs number) runs in
      ap (λ j. option_map (λ found. found.standing) j)
      (job_of_amend jobs number job.0 (entry_after_park value) (λ j. refl) job.1)

  -- the client of the job of a number
  client_is : (table : Table J) (number : JobNumber) (job : Job J)
      → job_of table.jobs number ≡ Some job → client_at table number ≡ job.client
  client_is table number job is = ap client_of is

  -- the tally of the client of a job, by the jobs
  tally_by : (table : Table J) (counts : Counts) (next room : ℕ) (number : JobNumber) (job : Job J)
      → job_of table.jobs number ≡ Some job → IsWhole table counts next room
      → tally_for table number ≡ tally_of table.jobs next job.client
  tally_by table counts next room number job is whole =
      ap (tally_at table.tallies) (client_is table number job is) ∙ whole.tallied job.client

  -- a running job is counted as one that runs
  pub run_told : (table : Table J) (counts : Counts) (next room : ℕ) (number : JobNumber)
      → is_running_as table.jobs number ≡ true → IsWhole table counts next room
      → 0 < (tally_for table number).running
  run_told table counts next room number runs whole =
      let job = running_job (job_of table.jobs number) runs in
      subst (λ t. 0 < t.running) (sym (tally_by table counts next room number job.0 job.1 whole))
      (run_counted table.jobs number.serial next
      job.0 (running_used _ number.serial whole.sound (runs_running table.jobs number runs))
      (job_of_found table.jobs number job.0 job.1).0 job.2)

  -- each job is counted
  pub counted : (table : Table J) (counts : Counts) (next room : ℕ) → IsWhole table counts next room
      → AreCounted table
  counted table counts next room whole serial job found =
      subst (λ t. 0 < t.jobs) (sym (whole.tallied job.client))
      (job_counted table.jobs serial next job (job_used _ serial job whole.sound found) found)

  -- a running job may leave the table
  pub may_leave : (table : Table J) (counts : Counts) (next room : ℕ) (number : JobNumber)
      → is_running_as table.jobs number ≡ true → IsWhole table counts next room
      → MayLeave table number
  may_leave table counts next room number runs whole =
      record {
        runs = runs;
        running = run_told table counts next room number runs whole;
        counted = subst (λ t. 0 < t.jobs) (sym tally)
            (job_counted table.jobs number.serial next job.0 below found);
        none_runs = λ one.
            ap (λ t. t.running) tally
            ∙ omega (
              arith,
              running_within table.jobs next job.0.client,
              run_counted table.jobs
                  number.serial next job.0 below found job.2,
              ap (λ t. t.jobs) tally,
              one,
            );
        none_queued = λ one. ap (queued_for table) (client_is table number job.0 job.1) ∙ none_left
            table.queue (λ s queued. alone (sym (ap (λ t. t.jobs) tally) ∙ one) s queued);
      }
    where
      job : (job : Job J) × (job_of table.jobs number ≡ Some job) × (job.standing ≡ Running)
      job = running_job (job_of table.jobs number) runs

      found : get table.jobs number.serial ≡ Some job.0
      found = (job_of_found table.jobs number job.0 job.1).0

      below : number.serial < next
      below = running_used _ number.serial whole.sound (runs_running table.jobs number runs)

      tally : tally_for table number ≡ tally_of table.jobs next job.0.client
      tally = tally_by table counts next room number job.0 job.1 whole

      -- a queued job is another one, so it is another client's
      alone : (tally_of table.jobs next job.0.client).jobs ≡ 1 → (s : ℕ)
          → is_in s table.queue ≡ true → eqb (client_of (get table.jobs s)) job.0.client ≡ false
      alone one s queued =
          let other = queued_job (get table.jobs s) (sym (whole.sound.queue.each s) ∙ queued) in
          ap (λ j. eqb (client_of j) job.0.client) other.1
          ∙ sym (ap (is_job_of job.0.client) other.1)
          ∙ count_one (λ n. is_job_of job.0.client (get table.jobs n)) number.serial s next one
          (ap (is_job_of job.0.client) found ∙ eq-eqb job.0.client job.0.client refl) below
          (queued_below _ whole.sound s queued)
          (λ same. false≢true (sym
          (not_queued (get table.jobs number.serial) (runs_running table.jobs number runs))
          ∙ ap (λ n. is_queued_job (get table.jobs n)) (sym same)
          ∙ sym (whole.sound.queue.each s) ∙ queued))

      none_left : (queue : List ℕ) → ((s : ℕ)
          → is_in s queue ≡ true → eqb (client_of (get table.jobs s)) job.0.client ≡ false)
          → filter (λ s. eqb (client_of (get table.jobs s)) job.0.client) queue ≡ []
      none_left [] each = refl
      none_left (s ∷ queue) each =
          ap (λ b. cond b (s ∷ filter (λ n. eqb (client_of (get table.jobs n)) job.0.client) queue)
          (filter (λ n. eqb (client_of (get table.jobs n)) job.0.client) queue))
          (each s (is_in-first s queue))
          ∙ none_left queue (λ n within. each n (or_right (eqb n s) (is_in n queue) within))

  -- a job that stands parked may enter
  pub parked_may : (table : Table J) (counts : Counts) (next room : ℕ) (number : JobNumber)
      → standing_of table.jobs number ≡ Some Parked → IsWhole table counts next room
      → MayEnter table number
  parked_may table counts next room number parked whole =
      may_enter table number (counted table counts next room whole) parked

  -- a running job is over
  pub left_whole : (old new : Table J) (number : JobNumber) (counts after : Counts) (next room : ℕ)
      → is_running_as old.jobs number ≡ true → IsWhole old counts next room
      → Becomes old new old.queue (remove old.jobs number.serial)
      (retallied old.tallies (client_at old number) left) → after ≡ after_release counts
      → IsWhole new after next room
  left_whole old new number counts after next room runs whole becomes is =
      let job = running_job (job_of old.jobs number) runs in
      whole_as old new old.queue (remove old.jobs number.serial)
      (retallied old.tallies (client_at old number) left) (after_release counts) after next room
      becomes is whole.room
      (removed_sound _ number runs whole.sound)
      (λ c. ap (λ d. retallied old.tallies d left c) (client_is old number job.0 job.1)
      ∙ retold_as old counts next room job.0.client left whole c
      ∙ sym (removed_tally
      old.jobs number.serial next job.0 (job_of_found old.jobs number job.0 job.1).0 job.2
      (running_used _ number.serial whole.sound (runs_running old.jobs number runs)) c))

  -- a running job waits
  pub parked_whole : (old new : Table J) (number : JobNumber) (value : J) (counts after : Counts)
      (next room : ℕ) → is_running_as old.jobs number ≡ true → IsWhole old counts next room
      → Becomes old new old.queue (amend old.jobs number.serial (entry_after_park value))
      (retallied old.tallies (client_at old number) stopped) → after ≡ after_release counts
      → IsWhole new after next room
  parked_whole old new number value counts after next room runs whole becomes is =
      let job = running_job (job_of old.jobs number) runs in
      whole_as old new old.queue (amend old.jobs number.serial (entry_after_park value))
      (retallied old.tallies (client_at old number) stopped) (after_release counts) after next
      room becomes is whole.room
      (parked_sound _ number value runs whole.sound)
      (λ c. ap (λ d. retallied old.tallies d stopped c) (client_is old number job.0 job.1)
      ∙ retold_as old counts next room job.0.client stopped whole c
      ∙ sym (parked_tally old.jobs
      number.serial next job.0 value (job_of_found old.jobs number job.0 job.1).0 job.2
      (running_used _ number.serial whole.sound (runs_running old.jobs number runs)) c))

  -- a job that was parked now is queued, and one worker is notified
  pub returned_whole : (old new : Table J) (number : JobNumber) (counts after : Counts)
      (next room : ℕ) → standing_of old.jobs number ≡ Some Parked → IsWhole old counts next room
      → Becomes old new (old.queue ++ number.serial ∷ [])
      (amend old.jobs number.serial entry_after_requeue) (tally_at old.tallies)
      → after ≡ after_ring One counts → IsWhole new after next room
  returned_whole old new number counts after next room parked whole becomes is =
      whole_as old new (old.queue ++ number.serial ∷ [])
      (amend old.jobs number.serial entry_after_requeue) (tally_at old.tallies)
      (after_ring One counts) after next room becomes is whole.room
      (rung_sound _ One (requeued_sound _ (number.serial ∷ []) (refl, tt)
      (parked_one old.jobs number parked) whole.sound))
      (requeued_told old counts next room (number.serial ∷ []) (refl, tt)
      (parked_one old.jobs number parked) whole)

  -- a running job waits, and goes back to the queue at once; one worker is notified
  pub returned_at_once : (old mid new : Table J) (number : JobNumber) (value : J)
      (counts free after : Counts) (next room : ℕ) → is_running_as old.jobs number ≡ true
      → IsWhole old counts next room
      → Becomes old mid old.queue (amend old.jobs number.serial (entry_after_park value))
      (retallied old.tallies (client_at old number) stopped)
      → Becomes mid new (mid.queue ++ number.serial ∷ [])
      (amend mid.jobs number.serial entry_after_requeue) (tally_at mid.tallies)
      → free ≡ after_release counts → after ≡ after_ring One free → IsWhole new after next room
  returned_at_once old mid new number value counts free after next room runs whole parks enters
      frees rings =
      returned_whole mid new number free after next room (ap (λ js. standing_of js number)
      parks.jobs_are ∙ parked_stands old.jobs number value runs)
      (parked_whole old mid number value counts free next room runs whole parks frees) enters rings

  -- what the table becomes by a sweep, told by the serials in the order of acceptance
  swept_becomes : (may_answer : J → Bool → Type 0) (old new : Table J) (counts : Counts)
      (next room : ℕ) (sweep : SweepsAll may_answer old new) → IsWhole old counts next room
      → Becomes old new (old.queue ++ swept old.jobs sweep.marked (serials_below next))
      (jobs_after_requeue old.jobs (swept old.jobs sweep.marked (serials_below next)))
      (tally_at old.tallies)
  swept_becomes may_answer old new counts next room sweep whole =
      subst (λ ss. Becomes old new (old.queue ++ ss) (jobs_after_requeue old.jobs ss)
      (tally_at old.tallies)) (swept_serials may_answer old new next sweep whole.sound.unused)
      sweep.becomes

  -- how many jobs were put back, by the lengths of the queue
  swept_count : (may_answer : J → Bool → Type 0) (old new : Table J) (counts : Counts)
      (next room was now : ℕ) (sweep : SweepsAll may_answer old new) → IsWhole old counts next room
      → was ≡ length old.queue → now ≡ length new.queue
      → now ≡ was + length (swept old.jobs sweep.marked (serials_below next))
  swept_count may_answer old new counts next room was now sweep whole before after =
      after ∙ ap length (swept_becomes may_answer old new counts next room sweep whole).queue_is
      ∙ length-append old.queue (swept old.jobs sweep.marked (serials_below next))
      ∙ ap (λ n. n + length (swept old.jobs sweep.marked (serials_below next))) (sym before)

  -- the jobs that a sweep puts back are there once, and parked
  swept_once : (may_answer : J → Bool → Type 0) (old new : Table J) (next : ℕ)
      (sweep : SweepsAll may_answer old new) → ((s : ℕ) → next ≤ s → get old.jobs s ≡ None)
      → IsOnce (swept old.jobs sweep.marked (serials_below next))
  swept_once may_answer old new next sweep unused = once_rising _
      (subst IsRising (swept_serials may_answer old new next sweep unused) sweep.rising)

  swept_parked : (old : Table J) (marked : ℕ → Bool) (next s : ℕ)
      → is_in s (swept old.jobs marked (serials_below next)) ≡ true
      → is_parked_job (get old.jobs s) ≡ true
  swept_parked old marked next s found = (and_parts (is_parked_job (get old.jobs s)) (marked s)
      (kept_in (is_due old.jobs marked) s (serials_below next) found).1).0

  -- a sweep that puts nothing back
  pub swept_none : (may_mark : J → Bool → Type 0) (asking : Asking) (old new : Table J)
      (counts : Counts) (next room was now : ℕ) (before : Pool J) → RefusesNone asking
      → IsWhole old counts next room
      → SweepsAll may_mark old new → was ≡ length old.queue
      → now ≡ length new.queue → now - was ≡ 0 → pool_over old counts next ≡ before
      → Sweeps may_mark asking before 0 (pool_over new counts next)
  swept_none may_mark asking old new counts next room was now before none whole sweep before_is
      after_is nil seen =
      subst (λ p. Sweeps may_mark asking p 0 (pool_over new counts next)) seen
      (record {
        marked = sweep.marked;
        asked = sweep.asked;
        counted = sym (ap length nothing);
        effect =
            subst (λ ss. SweepsTo asking (pool_over old counts next) ss (pool_over new counts next))
            (sym nothing) (same, none);
      })
    where
      nothing : swept old.jobs sweep.marked (serials_below next) ≡ []
      nothing = none_of _ (omega (
        arith,
        swept_count may_mark old new counts next room was now sweep
            whole before_is after_is,
        nil,
      ))

      becomes : Becomes old new (old.queue ++ []) old.jobs (tally_at old.tallies)
      becomes = subst (λ ss. Becomes old
          new (old.queue ++ ss) (jobs_after_requeue old.jobs ss) (tally_at old.tallies)) nothing
          (swept_becomes may_mark old new counts next room sweep whole)

      same : pool_over new counts next ≡ pool_over old counts next
      same = pool_as
          old new (old.queue ++ []) old.jobs (tally_at old.tallies) counts counts next becomes refl
          ∙ ap (λ q. record (pool_over old counts next) { queue = q }) (append-nil old.queue)

  effect_of : (asking : Asking) (old new : Pool J) (serials : List ℕ) → (length serials ≡ 0 → ⊥)
      → EnterAgain asking old serials new → SweepsTo asking old serials new
  effect_of asking old new [] some enter = absurd (some refl)
  effect_of asking old new (s ∷ serials) some enter = enter

  -- a sweep that puts jobs back, and the pool grows
  pub swept_some : (may_mark : J → Bool → Type 0) (asking : Asking) (old new : Table J)
      (counts numbers told : Counts) (growth : Growth) (next room was now many : ℕ)
      (before : Pool J) → IsWhole old counts next room
      → SweepsAll may_mark old new → was ≡ length old.queue → now ≡ length new.queue
      → (now - was ≡ 0 → ⊥) → many ≡ length (ready_of new)
      → Grows asking many counts numbers growth
      → told ≡ after_ring One numbers → pool_over old counts next ≡ before
      → Sweeps may_mark asking before (now - was) (pool_over new told next)
  swept_some may_mark asking old new counts numbers told growth next room was now many before whole
      sweep before_is after_is some are grows rings seen =
      subst (λ p. Sweeps may_mark asking p (now - was) (pool_over new told next)) seen
      (record {
        marked = sweep.marked;
        asked = sweep.asked;
        counted = omega (arith, count);
        effect = effect_of asking _ _ serials (λ e. some (omega (arith, count, e)))
            (enters_again asking old new counts numbers told growth next room
            many serials (pool_over old counts next) (swept_once may_mark old new next sweep
            whole.sound.unused) (swept_parked old sweep.marked next) whole
            (swept_becomes may_mark old new counts next room sweep whole) are grows rings refl);
      })
    where
      serials : List ℕ
      serials = swept old.jobs sweep.marked (serials_below next)

      count : now ≡ was + length serials
      count = swept_count may_mark old new counts next room was now sweep whole before_is after_is

  -- a table with more room for what a sweep gathers
  widened : (table : Table J) (counts : Counts) (next room more : ℕ)
      → IsWhole table counts next room → room ≤ more → IsWhole table counts next more
  widened table counts next room more whole kept = record {
    sound = whole.sound;
    room = omega (arith, whole.room, kept);
    tallied = whole.tallied;
  }

  -- the pool is whole after a sweep, which may have more room for what it gathers
  pub swept_whole : (may_mark : J → Bool → Type 0) (old new : Table J)
      (counts after : Counts) (growth : Growth) (next room more : ℕ) → IsWhole old counts next room
      → SweepsAll may_mark old new → room ≤ more
      → after ≡ after_ring One (after_growth counts growth) → IsWhole new after next more
  swept_whole may_mark old new counts after growth next room more whole sweep kept is =
      requeued_whole old new counts after growth next more
      (swept old.jobs sweep.marked (serials_below next))
      (swept_once may_mark old new next sweep whole.sound.unused)
      (swept_parked old sweep.marked next)
      (widened old counts next room more whole kept)
      (swept_becomes may_mark old new counts next room sweep whole) is

  -- a table that is as it was
  pub same_whole : (old new : Table J) (counts : Counts) (next room : ℕ)
      → IsWhole old counts next room → HasJobs old new old.jobs → IsWhole new counts next room
  same_whole old new counts next room whole becomes =
      whole_as old new old.queue old.jobs (tally_at old.tallies) counts counts next room becomes
      refl whole.room whole.sound whole.tallied

  -- and after a sweep that puts nothing back
  pub swept_still : (may_mark : J → Bool → Type 0) (old new : Table J) (counts : Counts)
      (next room more was now : ℕ) → IsWhole old counts next room → SweepsAll may_mark old new
      → room ≤ more
      → was ≡ length old.queue → now ≡ length new.queue → now - was ≡ 0
      → IsWhole new counts next more
  swept_still may_mark old new counts next room more was now whole sweep kept before_is after_is
      nil =
      let nothing : swept old.jobs sweep.marked (serials_below next) ≡ [] =
      none_of _ (omega (
        arith,
        swept_count may_mark old new counts next room was now sweep whole
            before_is after_is,
        nil,
      )) in
      let becomes = subst (λ ss. Becomes old
      new (old.queue ++ ss) (jobs_after_requeue old.jobs ss) (tally_at old.tallies)) nothing
      (swept_becomes may_mark old new counts next room sweep whole) in
      same_whole old new counts next more (widened old counts next room more whole kept)
      (subst (λ q. Becomes old new q old.jobs (tally_at old.tallies)) (append-nil old.queue)
      becomes)

  -- a wait without a timeout doesn't sweep
  pub waits_on : (may_mark : J → Bool → Type 0) (asking : Asking) (timed_out : Bool)
      (old new : Pool J) (waited : Waited) → RefusesNone asking → timed_out ≡ false
      → StaysOrStops false old waited new
      → Waits may_mark asking timed_out old waited new
  waits_on may_mark asking timed_out old new waited none is answer =
      subst (λ b. Waits may_mark asking b old waited new) (sym is)
      (record { between = old; sweep = (refl, none); answer = answer })

  -- a wait with a timeout sweeps first
  pub waits_out : (may_mark : J → Bool → Type 0) (asking : Asking) (timed_out : Bool)
      (old between new : Pool J) (count : ℕ) (waited : Waited) → timed_out ≡ true
      → Sweeps may_mark asking old count between → StaysOrStops true between waited new
      → Waits may_mark asking timed_out old waited new
  waits_out may_mark asking timed_out old between new count waited is sweeps answer =
      subst (λ b. Waits may_mark asking b old waited new) (sym is)
      (record { between = between; sweep = (count, sweeps); answer = answer })

  -- a value that may have been lent, whatever was left there
  pub lent_whole : {X : Type 0} (lent : Option X) (old new : Table J) (counts : Counts)
      (next room serial : ℕ) (value : J) → IsWhole old counts next room
      → IfLent lent (HasJobs old new (amend old.jobs serial (entry_with value)))
      (HasJobs old new old.jobs) → IsWhole new counts next room
  lent_whole None old new counts next room serial value whole becomes =
      same_whole old new counts next room whole becomes
  lent_whole (Some x) old new counts next room serial value whole becomes = marked_whole old new
      counts next room serial (entry_with value) (λ j. refl) (λ j. refl) whole becomes

  -- the pool with another value of a job
  pub lent_pool : {X : Type 0} (lent : Option X) (old new : Table J) (counts : Counts)
      (next serial : ℕ) (value : J) (before : Pool J) → pool_over old counts next ≡ before
      → IfLent lent (HasJobs old new (amend old.jobs serial (entry_with value)))
      (HasJobs old new old.jobs)
      → OnSome lent (pool_over new counts next ≡ with_job before serial (entry_with value))
  lent_pool None old new counts next serial value before seen becomes = tt
  lent_pool (Some x) old new counts next serial value before seen becomes =
      pool_as old new old.queue (amend old.jobs serial (entry_with value)) (tally_at old.tallies)
      counts counts next becomes refl ∙ ap (λ p. with_job p serial (entry_with value)) seen
