-- How the table keeps the jobs. No public clause cites this file.
use Rattle.std.specs.Prelude.{◌≡◌, ℕ, ◌+◌, ◌<◌, ◌≤◌, ◌==◌, Bool, true, false, not, ◌&&◌, ◌||◌}
use Rattle.std.specs.Prelude.{if◌then◌else◌, List, [], ◌∷◌, ◌++◌, map, filter, length, Option, Some}
use Rattle.std.specs.Prelude.{None, is_some, option_map, nat_lt, IsSome, refl}
use Rattle.std.specs.Coded.{Coded, code_by, coded×, coded_ℕ, coded_bool, coded_list, coded_option}
use Rattle.std.specs.FinMap.{from_entries}
use Rattle.std.specs.FinMap as map
use Rattle.std.specs.List.{All}
use Rattle.slab.specs.Slab.{Slab, get, slab_len}
use Rattle.blocking_pool.specs.Chain.{Chain}
use Rattle.blocking_pool.specs.Batch.{serials_of, IsRising}
use Rattle.blocking_pool.specs.Clients.{Tally, Tallies, tallies_code, tally_at, SameTallies}
use Rattle.blocking_pool.specs.Clients.{started, stopped, discharged, has_room_at}
use Rattle.blocking_pool.specs.Lists.{is_in, IsOnce, without, first_of}
use Rattle.blocking_pool.specs.Jobs.{Job, Jobs, jobs_code, JobNumber, is_queued, is_running}
use Rattle.blocking_pool.specs.Jobs.{is_parked, entry_after_take, job_of, standing_of}
use Rattle.blocking_pool.specs.Jobs.{is_running_as, jobs_after_requeue}
use Rattle.blocking_pool.specs.Queue.{Queue, owner_at, chain_of}
use Rattle.blocking_pool.specs.Ready.{client_of, of_client, jobs_for, running_of}
use Rattle.blocking_pool.specs.Sweeps.{AreAsked, is_due}
use Rattle.blocking_pool.specs.Counts.{Counts}
use Rattle.blocking_pool.specs.Pools.{Pool, IsSound}
use Rattle.blocking_pool.specs.declared.pool.standing.Standing.TheVariants.{Parked}
use Rattle.blocking_pool.specs.declared.pool.table.Entry.{Entry}
use Rattle.blocking_pool.specs.declared.pool.table.Found.{Found}
use Rattle.blocking_pool.specs.declared.pool.table.Front.{Front}

-- what the pool sees of its table: the queued serials in order, the jobs, the tallies of the
-- clients, the client limit, whether one more job has a place, for how many clients more there is
-- room, and for how many parked jobs
pub record Table (J : Type 0) : Type 0 where
  pub queue : List ℕ
  pub jobs : Jobs J
  pub tallies : Tallies
  pub client_limit : Option ℕ
  pub has_place : Bool
  pub spare : ℕ
  pub room : ℕ

abbrev pub table_code : {J : Type 0} → Coded J → Coded (Table J)
table_code {J} code =
    code_by
    (List ℕ × (Jobs J × (Tallies × (Option ℕ × (Bool × (ℕ × ℕ))))))
    (coded× (coded_list coded_ℕ) (coded× (jobs_code code) (coded× tallies_code
    (coded× (coded_option coded_ℕ) (coded× coded_bool (coded× coded_ℕ coded_ℕ))))))
    (λ table. (
      table.queue,
      (
        table.jobs,
        (table.tallies, (table.client_limit, (table.has_place, (table.spare, table.room)))),
      ),
    ))
    (λ parts. record {
      queue = parts.0;
      jobs = parts.1.0;
      tallies = parts.1.1.0;
      client_limit = parts.1.1.1.0;
      has_place = parts.1.1.1.1.0;
      spare = parts.1.1.1.1.1.0;
      room = parts.1.1.1.1.1.1;
    })
    (λ _. refl)

-- the tallies of the clients, of which one has changed so
abbrev pub retallied : Tallies → ℕ → (Tally → Tally) → ℕ → Tally
retallied tallies client change other =
    if other == client then change (tally_at tallies client) else tally_at tallies other

-- a running job is over
abbrev pub left : Tally → Tally
left tally = discharged (stopped tally)

module _ {J : Type 0} where
  -- the job that an entry at this place has
  abbrev pub job_at : ℕ → Entry J → Job J
  job_at place entry = record {
    place = place;
    client = entry.client;
    standing = entry.standing;
    woken = entry.woken;
    cancelled = entry.cancelled;
    value = entry.value;
  }

  -- the jobs of these slots, of which the first is at this place
  abbrev pub listed : ℕ → List (Option (Entry J)) → List (ℕ × Job J)
  listed place [] = []
  listed place (None ∷ slots) = listed (place + 1) slots
  listed place (Some entry ∷ slots) = (entry.serial, job_at place entry) ∷ listed (place + 1) slots

  abbrev pub serial_or_zero : Option (Entry J) → ℕ
  serial_or_zero None = 0
  serial_or_zero (Some entry) = entry.serial

  -- the serials of the entries at these places
  abbrev pub serials_at : Slab (Entry J) → List ℕ → List ℕ
  serials_at slab places = map (λ place. serial_or_zero (get slab place)) places

  abbrev pub table_of : Slab (Entry J) → Queue → Chain → Table J
  table_of slab queue parked =
      record {
        queue = serials_at slab queue.places;
        jobs = from_entries (listed 0 slab.slots);
        tallies = queue.tallies;
        client_limit = queue.limit;
        has_place = nat_lt (slab_len slab) slab.capacity
            && nat_lt slab.vacant_key (length queue.owners) && nat_lt slab.vacant_key parked.room;
        spare = queue.spare;
        room = parked.room;
      }

  -- whether nothing is wanting to one more job of this client
  abbrev pub is_prepared : Table J → ℕ → Bool
  is_prepared table client =
      table.has_place && (is_some (map.get table.tallies client) || nat_lt 0 table.spare)

  -- The queue holds the queued entries, no two entries have one serial, and a value is there but
  -- while its job runs.
  pub record IsTable (slab : Slab (Entry J)) (chain : Chain) : Type 0 where
    pub apart : (place other : ℕ) (entry same : Entry J) → get slab place ≡ Some entry
        → get slab other ≡ Some same → entry.serial ≡ same.serial → place ≡ other
    pub queued : (place : ℕ) (entry : Entry J) → get slab place ≡ Some entry
        → is_in place chain.places ≡ is_queued entry.standing
    pub occupied : (place : ℕ) → is_in place chain.places ≡ true → IsSome (get slab place)
    pub held : (place : ℕ) (entry : Entry J) → get slab place ≡ Some entry
        → is_some entry.value ≡ not (is_running entry.standing)
    pub once : IsOnce chain.places
    pub roomy : (place : ℕ) (entry : Entry J) → get slab place ≡ Some entry → place < chain.room

  abbrev pub is_parked_entry : Option (Entry J) → Bool
  is_parked_entry None = false
  is_parked_entry (Some entry) = is_parked entry.standing

  -- The chain of the parked holds the place of each parked entry once, and no other, and has room
  -- for each entry's.
  pub record HoldsParked (slab : Slab (Entry J)) (chain : Chain) : Type 0 where
    pub each : (place : ℕ) → is_in place chain.places ≡ is_parked_entry (get slab place)
    pub once : IsOnce chain.places
    pub roomy : (place : ℕ) (entry : Entry J) → get slab place ≡ Some entry → place < chain.room

  -- each queued place is known as that of its entry's client
  abbrev pub AreOwned : Slab (Entry J) → Queue → Type 0
  AreOwned slab queue = (place : ℕ) (entry : Entry J) → get slab place ≡ Some entry
      → is_in place queue.places ≡ true → owner_at queue place ≡ entry.client

  -- what every table keeps
  pub record IsKept (slab : Slab (Entry J)) (queue : Queue) (parked : Chain) : Type 0 where
    pub table : IsTable slab (chain_of queue)
    pub holds : HoldsParked slab parked
    pub owned : AreOwned slab queue

  -- the table, with this queue, these jobs and these tallies
  pub record Becomes (old new : Table J) (queue : List ℕ) (jobs : Jobs J) (tallies : ℕ → Tally) :
      Type 0 where
    pub queue_is : new.queue ≡ queue
    pub room_is : new.room ≡ old.room
    pub jobs_are : new.jobs ≡ jobs
    pub tallies_are : (client : ℕ) → tally_at new.tallies client ≡ tallies client
    pub limit_is : new.client_limit ≡ old.client_limit

  -- the table, with these jobs
  abbrev pub HasJobs : Table J → Table J → Jobs J → Type 0
  HasJobs old new jobs = Becomes old new old.queue jobs (tally_at old.tallies)

  -- room was made in the table, and nothing else changed
  pub record MakesRoom (old new : Table J) : Type 0 where
    pub queue_is : new.queue ≡ old.queue
    pub jobs_are : new.jobs ≡ old.jobs
    pub tallies : SameTallies old.tallies new.tallies
    pub limit_is : new.client_limit ≡ old.client_limit

  -- what a look at a job finds
  abbrev pub found_of : Option (Job J) → Option Found
  found_of jobs = option_map
      (λ job. record { standing = job.standing; woken = job.woken; cancelled = job.cancelled }) jobs

  -- the queued serials whose client has room, in order
  abbrev pub ready_of : Table J → List ℕ
  ready_of table = filter (λ serial. has_room_at table.client_limit table.tallies
      (client_of (map.get table.jobs serial))) table.queue

  -- The first ready job is taken, and one job more of its client runs.
  pub record TakesJob (old : Table J) (front : Front J) (new : Table J) : Type 0 where
    pub first : first_of (ready_of old) ≡ Some front.no.serial
    pub job : Job J
    pub found : map.get old.jobs front.no.serial ≡ Some job
    pub place : job.place ≡ front.no.place
    pub value_is : job.value ≡ Some front.value
    pub cancelled_is : front.cancelled ≡ job.cancelled
    pub becomes : Becomes old new (without front.no.serial old.queue) (map.insert old.jobs
        front.no.serial (entry_after_take job)) (retallied old.tallies job.client started)

  -- the first ready job is taken, or there is none
  abbrev pub TakesFirst : Table J → Option (Front J) → Table J → Type 0
  TakesFirst old None new = (ready_of old ≡ []) × (new ≡ old)
  TakesFirst old (Some front) new = TakesJob old front new

  -- the client of the job of this number
  abbrev pub client_at : Table J → JobNumber → ℕ
  client_at table number = client_of (job_of table.jobs number)

  -- the tally of the client of the job of this number
  abbrev pub tally_for : Table J → JobNumber → Tally
  tally_for table number = tally_at table.tallies (client_at table number)

  -- each job is counted as one of its client's
  abbrev pub AreCounted : Table J → Type 0
  AreCounted table = (serial : ℕ) (job : Job J) → map.get table.jobs serial ≡ Some job
      → 0 < (tally_at table.tallies job.client).jobs

  -- a parked job, which is counted as one of its client's
  pub record MayEnter (table : Table J) (number : JobNumber) : Type 0 where
    pub stands : standing_of table.jobs number ≡ Some Parked
    pub counted : 0 < (tally_for table number).jobs

  -- the queued jobs of a client, in order
  abbrev pub queued_for : Table J → ℕ → List ℕ
  queued_for table client = of_client table.jobs client table.queue

  -- A running job, which is counted so. Where it is the one job of its client, no other of the
  -- client's runs or is queued.
  pub record MayLeave (table : Table J) (number : JobNumber) : Type 0 where
    pub runs : is_running_as table.jobs number ≡ true
    pub running : 0 < (tally_for table number).running
    pub counted : 0 < (tally_for table number).jobs
    pub none_runs : (tally_for table number).jobs ≡ 1 → (tally_for table number).running ≡ 1
    pub none_queued : (tally_for table number).jobs ≡ 1
        → queued_for table (client_at table number) ≡ []

  -- the number of the job at a place
  abbrev pub number_at : Slab (Entry J) → ℕ → JobNumber
  number_at slab place = record { place = place; serial = serial_or_zero (get slab place) }

  -- the job at this place was asked for its mark, and its number is told if it bears one
  pub record IsAskedAt (may_answer : J → Bool → Type 0) (slab : Slab (Entry J)) (place : ℕ)
      (number : Option JobNumber) : Type 0 where
    pub marked : Bool
    pub asked : (entry : Entry J) (value : J) → get slab place ≡ Some entry
        → entry.value ≡ Some value → may_answer value marked
    pub number_is : number ≡ (if marked then Some (number_at slab place) else None)

  -- the jobs at these places were asked for their marks, and these are the numbers of those that
  -- bear one
  pub record GathersAt (may_answer : J → Bool → Type 0) (slab : Slab (Entry J)) (places : List ℕ)
      (numbers : List JobNumber) : Type 0 where
    pub marked : ℕ → Bool
    pub asked : (place : ℕ) (entry : Entry J) (value : J) → is_in place places ≡ true
        → get slab place ≡ Some entry → entry.value ≡ Some value → may_answer value (marked place)
    pub numbers_are : numbers ≡ map (number_at slab) (filter marked places)

  -- The parked jobs were asked for their marks, and these are the numbers of those that bear one,
  -- in any order.
  pub record Gathers (may_answer : J → Bool → Type 0) (jobs : Jobs J) (numbers : List JobNumber) :
      Type 0 where
    pub marked : ℕ → Bool
    pub asked : AreAsked may_answer jobs marked
    pub parked : All (λ number. standing_of jobs number ≡ Some Parked) numbers
    pub once : IsOnce (serials_of numbers)
    pub each : (serial : ℕ) → is_in serial (serials_of numbers) ≡ is_due jobs marked serial

  -- The parked jobs that bear a mark stand in the queue again, in the order of their serials.
  pub record SweepsAll (may_answer : J → Bool → Type 0) (old new : Table J) : Type 0 where
    pub marked : ℕ → Bool
    pub asked : AreAsked may_answer old.jobs marked
    pub serials : List ℕ
    pub rising : IsRising serials
    pub each : (serial : ℕ) → is_in serial serials ≡ is_due old.jobs marked serial
    pub becomes : Becomes old new (old.queue ++ serials) (jobs_after_requeue old.jobs serials)
        (tally_at old.tallies)

  -- the tally of a client, by the jobs with serials below this one
  abbrev pub tally_of : Jobs J → ℕ → ℕ → Tally
  tally_of jobs next client =
      record { jobs = jobs_for jobs client next; running = running_of jobs client next }

  -- the pool that has this table and these counts
  abbrev pub pool_over : Table J → Counts → ℕ → Pool J
  pool_over table counts next_serial = record {
    queue = table.queue;
    jobs = table.jobs;
    counts = counts;
    next_serial = next_serial;
    client_limit = table.client_limit;
  }

  -- What every pool keeps of its table and counts: the tallies are those of its jobs, and what a
  -- sweep gathers has room for all jobs.
  pub record IsWhole (table : Table J) (counts : Counts) (next_serial due_room : ℕ) : Type 0 where
    pub sound : IsSound (pool_over table counts next_serial)
    pub room : table.room ≤ due_room
    pub tallied : (client : ℕ)
        → tally_at table.tallies client ≡ tally_of table.jobs next_serial client
