-- The chain of the parked jobs, and what each call of the table makes of queue, parked and jobs.
use Rattle.std.proofs.Common.{◌≡◌, ◌≢◌, ℕ, ◌<◌, Bool, true, false, cond, ltb, not, ◌&&◌, length}
use Rattle.std.proofs.Common.{map, set, List, [], ◌∷◌, ◌++◌, Option, Some, None, is_some, IsSome}
use Rattle.std.proofs.Common.{option_map, refl, sym, ap, ◌∙◌, subst, inl, inr, arith}
use Rattle.std.proofs.lemmas.Bool.{cases_eq, eq-eqb, ne_eqb, and_parts, ltb-true, false≢true}
use Rattle.std.proofs.lemmas.List.{length-set, map_push}
use Rattle.std.specs.Cmp.{nat_cmp_total}
use Rattle.std.specs.FinMap.{get as at, insert, remove, same_map, nat_cmp-IsAntisymmetric}
use Rattle.slab.specs.Slab.{Slab, get, slab_len, Updates, with_value}
use Rattle.slab.proofs.SlabLemmas.{Updates-with_value}
use Rattle.blocking_pool.specs.Chain.{Chain}
use Rattle.blocking_pool.specs.Clients.{Tally, tally_at, enrolled, started, stopped, discharged}
use Rattle.blocking_pool.specs.Lists.{is_in, IsOnce, without}
use Rattle.blocking_pool.specs.Jobs.{Job, Jobs, JobNumber, new_job, is_queued, is_running}
use Rattle.blocking_pool.specs.Jobs.{is_parked, is_running_as, standing_of, entry_after_requeue}
use Rattle.blocking_pool.specs.Jobs.{entry_after_park, has_value, value_at, entry_with, job_of}
use Rattle.blocking_pool.specs.Jobs.{amend}
use Rattle.blocking_pool.specs.declared.pool.standing.Standing.TheVariants.{Queued, Running, Parked}
use Rattle.blocking_pool.specs.Queue.{Queue, owner_at, chain_of, line_in, has_seat, Tallied, Holds}
use Rattle.blocking_pool.specs.Queue.{TakesPlace, TakesReady}
use Rattle.blocking_pool.specs.Ready.{client_of}
use Rattle.blocking_pool.specs.Tables.{Table, job_at, serial_or_zero, serials_at, table_of}
use Rattle.blocking_pool.specs.Tables.{is_prepared, IsTable, is_parked_entry, HoldsParked, IsKept}
use Rattle.blocking_pool.specs.Tables.{Becomes, HasJobs, TakesFirst, client_at, tally_for}
use Rattle.blocking_pool.specs.Tables.{retallied, left, queued_for, ready_of, found_of}
use Rattle.blocking_pool.specs.TableLends.{IfLent}
use Rattle.blocking_pool.specs.declared.pool.table.Entry.{Entry}
use Rattle.blocking_pool.proofs.Lists.{by_eq, is_in-last, is_in-push, same_ends, is_in-without}
use Rattle.blocking_pool.proofs.Lists.{is_in-without_itself, IsOnce-without, IsOnce-push}
use Rattle.blocking_pool.proofs.OwnerLemmas.{QueueIs, chain_as, same_queue, Moves, changed_owned}
use Rattle.blocking_pool.proofs.OwnerLemmas.{stays, pushed, taken_out, ready_queued, ready_serials}
use Rattle.blocking_pool.proofs.OwnerLemmas.{first_serial, line_serials, seated}
use Rattle.blocking_pool.proofs.Standings.{queued_is, standing_job, running_job}
use Rattle.blocking_pool.proofs.TableLemmas.{some_of, jobs_of, tabled, vacant_unqueued, Changes}
use Rattle.blocking_pool.proofs.TableLemmas.{changed_jobs, changed_table, same_serials, taken_by}
use Rattle.blocking_pool.proofs.TableLemmas.{Takes, takes, Inserts, inserts, Removes, removes}
use Rattle.blocking_pool.proofs.TableLemmas.{entry_of, job_here, job_nowhere, at_insert_same}
use Rattle.blocking_pool.proofs.TableLemmas.{at_insert_other, amend_found}

-- what holds where something was lent
pub if_lent : {X : Type 0} (x : Option X) (lent kept : Type 0) → (x ≡ None → ⊥) → lent
    → IfLent x lent kept
if_lent None lent kept some l = absurd (some refl)
if_lent (Some y) lent kept some l = l

-- a copy of something is of something
pub is_lent : {X Y : Type 0} (f : X → Y) (x : Option X) (y : Option Y) → option_map f x ≡ y
    → is_some y ≡ true → x ≡ None → ⊥
is_lent f x y copied some none =
    false≢true (sym (ap (λ o. is_some (option_map f o)) none) ∙ ap is_some copied ∙ some)

module _ {J : Type 0} where
  -- The chain of the parked follows a change of one entry.
  pub record Tracks (old new : Chain) (place : ℕ) (entry : Entry J) : Type 0 where
    pub others : (other : ℕ) → other ≢ place → is_in other new.places ≡ is_in other old.places
    pub here : is_in place new.places ≡ is_parked entry.standing
    pub room : new.room ≡ old.room
    pub within : place < old.room
    pub once : IsOnce new.places

  -- one place has another entry, or its first
  pub parked_changed : (old new : Slab (Entry J)) (chain next : Chain) (place : ℕ) (entry : Entry J)
      → Updates old new place (Some entry) → Tracks chain next place entry → HoldsParked old chain
      → HoldsParked new next
  parked_changed old new chain next place entry updates tracks parked =
      record {
        each = λ q. elim (cases_eq q place) [
          | inl same ↦ ap (λ n. is_in n next.places) same ∙ tracks.here
              ∙ sym (ap is_parked_entry (ap (get new) same ∙ updates.changed))
          | inr differs ↦ tracks.others q differs ∙ parked.each q
              ∙ sym (ap is_parked_entry (updates.others q differs))
        ];
        once = tracks.once;
        roomy = λ q e found. elim (cases_eq q place) [
          | inl same ↦ omega (arith, same, tracks.room, tracks.within)
          | inr differs ↦
              omega (arith, tracks.room, parked.roomy q e (sym (updates.others q differs) ∙ found))
        ];
      }

  -- a place that wasn't parked is vacant
  pub parked_left : (old new : Slab (Entry J)) (chain : Chain) (place : ℕ)
      → Updates old new place None → is_in place chain.places ≡ false → HoldsParked old chain
      → HoldsParked new chain
  parked_left old new chain place updates unparked parked =
      record {
        each = λ q. elim (cases_eq q place) [
          | inl same ↦ ap (λ n. is_in n chain.places) same ∙ unparked
              ∙ sym (ap is_parked_entry (ap (get new) same ∙ updates.changed))
          | inr differs ↦ parked.each q ∙ sym (ap is_parked_entry (updates.others q differs))
        ];
        once = parked.once;
        roomy = λ q e found. elim (cases_eq q place) [
          | inl same ↦
              absurd (let gone = updates.changed in let is = ap (get new) (sym same) ∙ found in cc)
          | inr differs ↦ parked.roomy q e (sym (updates.others q differs) ∙ found)
        ];
      }

  -- the parked stay as they are, where the job is parked as it was
  pub unmoved : (chain : Chain) (slab : Slab (Entry J)) (place : ℕ) (was is : Entry J)
      → HoldsParked slab chain → get slab place ≡ Some was
      → is_parked is.standing ≡ is_parked was.standing → Tracks chain chain place is
  unmoved chain slab place was is parked found alike =
      record {
        others = λ other differs. refl;
        here = parked.each place ∙ ap is_parked_entry found ∙ sym alike;
        room = refl;
        within = parked.roomy place was found;
        once = parked.once;
      }

  -- the place is the last of the parked
  pub parked_last : (chain : Chain) (slab : Slab (Entry J)) (place : ℕ) (was is : Entry J)
      → HoldsParked slab chain → get slab place ≡ Some was → is_parked was.standing ≡ false
      → is_parked is.standing ≡ true
      → Tracks chain (record chain { places = chain.places ++ place ∷ [] }) place is
  parked_last chain slab place was is parked found before after =
      record {
        others = λ other differs. is_in-push other place chain.places differs;
        here = is_in-last place place chain.places refl ∙ sym after;
        room = refl;
        within = parked.roomy place was found;
        once = IsOnce-push chain.places place parked.once
            (parked.each place ∙ ap is_parked_entry found ∙ before);
      }

  -- the place is parked no more
  pub parked_less : (chain : Chain) (slab : Slab (Entry J)) (place : ℕ) (was is : Entry J)
      → HoldsParked slab chain → get slab place ≡ Some was → is_parked is.standing ≡ false
      → Tracks chain (record chain { places = without place chain.places }) place is
  parked_less chain slab place was is parked found after =
      record {
        others = λ other differs. is_in-without other place chain.places differs;
        here = is_in-without_itself place chain.places ∙ sym after;
        room = refl;
        within = parked.roomy place was found;
        once = IsOnce-without place chain.places parked.once;
      }

  -- where an entry keeps its serial, each place has the serial that it had
  serials_stay : (old new : Slab (Entry J)) (place : ℕ) (was is : Entry J)
      → get old place ≡ Some was → Updates old new place (Some is) → is.serial ≡ was.serial
      → (q : ℕ) → serial_or_zero (get new q) ≡ serial_or_zero (get old q)
  serials_stay old new place was is found updates same q =
      elim (cases_eq q place) [
        | inl here ↦ ap (λ n. serial_or_zero (get new n)) here ∙ ap serial_or_zero updates.changed
            ∙ same ∙ sym (ap (λ n. serial_or_zero (get old n)) here ∙ ap serial_or_zero found)
        | inr differs ↦ ap serial_or_zero (updates.others q differs)
      ]

  -- The table after a change of one entry, which keeps its serial. The places of the queue and of
  -- the parked follow.
  pub record Amends (old : Slab (Entry J)) (queue next : Queue) (later : Chain) (place : ℕ)
      (was is : Entry J) : Type 0 where
    pub kept : IsKept (with_value old place is) next later
    pub same_queue : (q : ℕ) → is_in q queue.places ≡ true
        → serial_or_zero (get (with_value old place is) q) ≡ serial_or_zero (get old q)
    pub jobs : jobs_of (with_value old place is) ≡ insert (jobs_of old) was.serial (job_at place is)

  pub amends : (old : Slab (Entry J)) (queue next : Queue) (parked later : Chain)
      (place : ℕ) (was is : Entry J) → IsKept old queue parked → get old place ≡ Some was
      → is.serial ≡ was.serial → Moves queue next place is → Tracks parked later place is
      → Amends old queue next later place was is
  amends old queue next parked later place was is kept found same moves tracks =
      record {
        kept = record {
          table = changed_table old new (chain_of queue) (chain_of next) place is changes
              moves.follows kept.table;
          holds = parked_changed old new parked later place is updates tracks kept.holds;
          owned = changed_owned old new queue next place is updates moves kept.owned;
        };
        same_queue = λ q within. serials_stay old new place was is found updates same q;
        jobs = changed_jobs old new place is changes kept.table.apart
            ∙ ap (λ serial. insert (jobs_of old) serial (job_at place is)) same;
      }
    where
      new : Slab (Entry J)
      new = with_value old place is

      updates : Updates old new place (Some is)
      updates = Updates-with_value old place is (subst IsSome (sym found) refl)

      changes : Changes old new place is
      changes =
          record {
            updates = updates;
            same = λ before there. let e : before ≡ was = cc in ap (λ x. x.serial) e ∙ sym same;
            apart = λ other before differs there alike.
                differs (kept.table.apart other place before was there found (alike ∙ same));
          }

  -- what a change of an entry makes of the table: it is kept, with this queue and these tallies,
  -- and one job has changed so
  abbrev pub IsAmended : Slab (Entry J) → Queue → Chain → ℕ → Entry J → Table J → List ℕ → JobNumber
      → (Job J → Job J) → (ℕ → Tally) → Type 0
  IsAmended old queue parked place is before line number change tallies =
      IsKept (with_value old place is) queue parked
      × Becomes before (table_of (with_value old place is) queue parked) line
      (amend before.jobs number.serial change) tallies

  -- what a change of a job makes of the table, by the serials of the queue's places
  becomes : (old : Slab (Entry J)) (queue next : Queue) (parked later : Chain) (place : ℕ)
      (was is : Entry J) (number : JobNumber) (change : Job J → Job J) (places owners line : List ℕ)
      (tallies : ℕ → Tally) (before : Table J)
      → IsKept old queue parked → get old place ≡ Some was → was.serial ≡ number.serial
      → job_at place is ≡ change (job_at place was) → QueueIs queue next places owners tallies
      → parked.room ≡ later.room
      → table_of old queue parked ≡ before → Amends old queue next later place was is
      → serials_at (with_value old place is) places ≡ line
      → IsAmended old next later place is before line number change tallies
  becomes old queue next parked later place was is number change places owners line tallies before
      kept found serial changes now roomy seen done serials = (
        done.kept,
        subst (λ t. Becomes t (table_of (with_value old place is) next later) line
            (amend t.jobs number.serial change) tallies) seen
            (record {
              queue_is = ap (serials_at (with_value old place is)) now.places_are ∙ serials;
              room_is = sym roomy;
              jobs_are = done.jobs ∙ ap (insert (jobs_of old) was.serial) changes
                  ∙ sym (amend_found (jobs_of old) was.serial change (job_at place was)
                  ((tabled old kept.table.apart).here place was found))
                  ∙ ap (λ s. amend (jobs_of old) s change) serial;
              tallies_are = now.tallies_are;
              limit_is = now.limit_is;
            }),
      )

  -- what a change of a job makes of the table, where the queue's places stay
  pub becomes_kept : (old : Slab (Entry J)) (queue next : Queue) (parked later : Chain) (place : ℕ)
      (was is : Entry J) (number : JobNumber) (change : Job J → Job J) (tallies : ℕ → Tally)
      (before : Table J) → IsKept old queue parked
      → get old place ≡ Some was → was.serial ≡ number.serial → is.serial ≡ was.serial
      → is.client ≡ was.client → is_queued is.standing ≡ is_queued was.standing
      → is_some is.value ≡ not (is_running is.standing)
      → QueueIs queue next queue.places queue.owners tallies → Tracks parked later place is
      → job_at place is ≡ change (job_at place was) → table_of old queue parked ≡ before
      → IsAmended old next later place is before before.queue number change tallies
  becomes_kept old queue next parked later place was is number change tallies before kept found
      serial same whose alike held now tracks changes seen =
      let done = amends old queue next parked later place was is kept found same (stays queue next
      tallies old place was is kept.table kept.owned now found whose alike held) tracks in
      becomes old queue next parked later place was is number change queue.places queue.owners
      before.queue tallies before kept found serial changes now (sym tracks.room) seen done
      (same_serials old (with_value old place is) queue.places done.same_queue
      ∙ ap (λ t. t.queue) seen)

  -- what a change of a job makes of the table, where the job enters the queue
  pub becomes_pushed : (old : Slab (Entry J)) (queue next : Queue) (parked later : Chain)
      (place : ℕ) (was is : Entry J) (number : JobNumber) (change : Job J → Job J)
      (tallies : ℕ → Tally) (before : Table J) → IsKept old queue parked
      → get old place ≡ Some was → was.serial ≡ number.serial
      → is.serial ≡ was.serial → is_queued was.standing ≡ false → is_queued is.standing ≡ true
      → is_some is.value ≡ not (is_running is.standing)
      → QueueIs queue next (queue.places ++ place ∷ []) (set queue.owners place is.client) tallies
      → Tracks parked later place is → job_at place is ≡ change (job_at place was)
      → table_of old queue parked ≡ before
      → IsAmended old next later place is before (before.queue ++ number.serial ∷ []) number change
      tallies
  becomes_pushed old queue next parked later place was is number change tallies before kept found
      serial same unqueued queued held now tracks changes seen =
      let moves = pushed queue next tallies place is kept.table.once
      (kept.table.queued place was found ∙ unqueued) (kept.table.roomy place was found) now
      queued held in
      let done = amends old queue next parked later place was is kept found same moves tracks in
      becomes old queue next parked later place was is number change (queue.places ++ place ∷ [])
      (set queue.owners place is.client) (before.queue ++ number.serial ∷ []) tallies before
      kept found serial changes now (sym tracks.room) seen done
      (map_push (λ q. serial_or_zero (get (with_value old place is) q)) queue.places place
      ∙ same_ends (same_serials old (with_value old place is) queue.places done.same_queue
      ∙ ap (λ t. t.queue) seen)
      (ap serial_or_zero (Updates-with_value old place is (subst IsSome (sym found) refl)).changed
      ∙ same ∙ serial))

  -- the entry to which a number leads is that of its job
  pub leads_to : (slab : Slab (Entry J)) (queue : Queue) (parked : Chain) (before : Table J)
      (number : JobNumber) (job : Job J) (place : ℕ) (entry : Entry J) → IsKept slab queue parked
      → table_of slab queue parked ≡ before
      → job_of before.jobs number ≡ Some job → place ≡ number.place → get slab place ≡ Some entry
      → (entry.serial ≡ number.serial) × (job ≡ job_at place entry)
  leads_to slab queue parked before number job place entry kept seen is here found =
      let own =
      entry_of slab number job kept.table.apart (ap (λ t. job_of t.jobs number) seen ∙ is) in
      let one : own.entry ≡ entry = let e = sym own.is_at ∙ ap (get slab) (sym here) ∙ found in
      cc in (
        ap (λ e. e.serial) (sym one) ∙ own.serial_is,
        own.job_is ∙ ap (job_at number.place) one ∙ ap (λ n. job_at n entry) (sym here),
      )

  pub not_vacant : (slab : Slab (Entry J)) (queue : Queue) (parked : Chain)
      (before : Table J) (number : JobNumber) (job : Job J) (place : ℕ) → IsKept slab queue parked
      → table_of slab queue parked ≡ before
      → job_of before.jobs number ≡ Some job → place ≡ number.place → get slab place ≡ None → ⊥
  not_vacant slab queue parked before number job place kept seen is here none =
      let own =
      entry_of slab number job kept.table.apart (ap (λ t. job_of t.jobs number) seen ∙ is) in
      absurd (let e = sym own.is_at ∙ ap (get slab) (sym here) ∙ none in cc)

  -- the queue of a table that is as it was
  still : (old : Slab (Entry J)) (queue : Queue) (parked : Chain) (before : Table J)
      → table_of old queue parked ≡ before
      → QueueIs queue queue queue.places queue.owners (tally_at before.tallies)
  still old queue parked before seen = record {
    places_are = refl;
    owners_are = refl;
    tallies_are = λ c. ap (λ t. tally_at t.tallies c) seen;
    limit_is = refl;
  }

  -- a job is marked
  pub marks : (old : Slab (Entry J)) (queue : Queue) (parked : Chain) (before : Table J)
      (number : JobNumber) (place : ℕ) (was is : Entry J) (change : Job J → Job J)
      → IsKept old queue parked → table_of old queue parked ≡ before
      → IsSome (job_of before.jobs number) → place ≡ number.place → get old place ≡ Some was
      → is.serial ≡ was.serial → is.client ≡ was.client → is.standing ≡ was.standing
      → is.value ≡ was.value → job_at place is ≡ change (job_at place was)
      → IsAmended old queue parked place is before before.queue number change
      (tally_at before.tallies)
  marks old queue parked before number place was is change kept seen present here found same whose
      alike equal changes =
      let job = some_of (job_of before.jobs number) present in
      becomes_kept old queue
      queue parked parked place was is number change (tally_at before.tallies) before kept found
      (leads_to old queue parked before number job.0 place was kept seen job.1 here found).0
      same whose (ap is_queued alike) (ap is_some equal ∙ kept.table.held place was found
      ∙ ap (λ s. not (is_running s)) (sym alike))
      (still old queue parked before seen)
      (unmoved parked old place was is kept.holds found (ap is_parked alike)) changes seen

  -- the client of the entry to which a number leads is that of its job
  client_here : (old : Slab (Entry J)) (queue : Queue) (parked : Chain) (before : Table J)
      (number : JobNumber) (job : Job J) (place : ℕ) (was : Entry J) → IsKept old queue parked
      → table_of old queue parked ≡ before
      → job_of before.jobs number ≡ Some job → place ≡ number.place → get old place ≡ Some was
      → was.client ≡ client_at before number
  client_here old queue parked before number job place was kept seen is here found =
      ap (λ j. j.client)
      (sym (leads_to old queue parked before number job place was kept seen is here found).1)
      ∙ ap client_of (sym is)

  -- the tally of the client of an entry to which a number leads
  pub tally_here : (old : Slab (Entry J)) (queue : Queue) (parked : Chain) (before : Table J)
      (number : JobNumber) (job : Job J) (place : ℕ) (was : Entry J) → IsKept old queue parked
      → table_of old queue parked ≡ before
      → job_of before.jobs number ≡ Some job → place ≡ number.place → get old place ≡ Some was
      → tally_for before number ≡ tally_at queue.tallies was.client
  tally_here old queue parked before number job place was kept seen is here found =
      ap (λ t. tally_at t.tallies (client_at before number)) (sym seen)
      ∙ ap (tally_at queue.tallies)
      (sym (client_here old queue parked before number job place was kept seen is here found))

  -- the tallies of a table, where one client's has changed so
  tallies_as : (queue : Queue) (before : Table J) (client whose : ℕ) (change : Tally → Tally)
      → queue.tallies ≡ before.tallies → client ≡ whose → (c : ℕ)
      → retallied queue.tallies client change c ≡ retallied before.tallies whose change c
  tallies_as queue before client whose change same alike c =
      ap (λ ts. retallied ts client change c) same
      ∙ ap (λ n. retallied before.tallies n change c) alike

  -- the queue, where one client's tally has changed so
  one_tallied : (queue next : Queue) (before : Table J) (client whose : ℕ) (change : Tally → Tally)
      → queue.tallies ≡ before.tallies → client ≡ whose → Tallied queue next client change
      → QueueIs queue next queue.places queue.owners (retallied before.tallies whose change)
  one_tallied queue next before client whose change same alike tallied =
      record {
        places_are = tallied.places;
        owners_are = tallied.owners;
        tallies_are =
            λ c. tallied.tallies c ∙ tallies_as queue before client whose change same alike c;
        limit_is = tallied.limit;
      }

  -- a running job is parked
  pub parks : (old : Slab (Entry J)) (queue next : Queue) (parked later : Chain) (before : Table J)
      (number : JobNumber) (place : ℕ) (was : Entry J) (value : J) → IsKept old queue parked
      → table_of old queue parked ≡ before
      → is_running_as before.jobs number ≡ true → place ≡ number.place
      → get old place ≡ Some was → later ≡ record parked { places = parked.places ++ place ∷ [] }
      → Tallied queue next was.client stopped
      → IsAmended old next later place (record was { standing = Parked; value = Some value }) before
      before.queue number (entry_after_park value)
      (retallied before.tallies (client_at before number) stopped)
  parks old queue next parked later before number place was value kept seen runs here found longer
      tallied =
      let job = running_job (job_of before.jobs number) runs in
      let own =
      leads_to old queue parked before number job.0 place was kept seen job.1 here found in
      let stood : was.standing ≡ Running = ap (λ j. j.standing) (sym own.1) ∙ job.2 in
      becomes_kept old queue next parked later place
      was (record was { standing = Parked; value = Some value }) number (entry_after_park value)
      (retallied before.tallies (client_at before number) stopped) before kept found own.0
      refl refl (sym (ap is_queued stood)) refl
      (one_tallied queue next before was.client (client_at before number) stopped
      (ap (λ t. t.tallies) seen) (client_here old queue parked before number job.0 place was
      kept seen job.1 here found) tallied)
      (subst (λ row. Tracks parked row place (record was { standing = Parked; value = Some value }))
      (sym longer) (parked_last parked old place was (record was {
        standing = Parked;
        value = Some value;
      }) kept.holds found (ap is_parked stood) refl))
      refl seen

  -- a running job's place is free for the parked
  pub parks_room : (old : Slab (Entry J)) (queue : Queue)
      (parked : Chain) (before : Table J) (number : JobNumber) (place : ℕ) → IsKept old queue parked
      → table_of old queue parked ≡ before
      → is_running_as before.jobs number ≡ true → place ≡ number.place
      → (place < parked.room) × (is_in place parked.places ≡ false)
  parks_room old queue parked before number place kept seen runs here =
      let job = running_job (job_of before.jobs number) runs in
      let own = entry_of old number job.0 kept.table.apart
      (ap (λ t. job_of t.jobs number) seen ∙ job.1) in
      let there : get old place ≡ Some own.entry = ap (get old) here ∙ own.is_at in (
        kept.holds.roomy place own.entry there,
        kept.holds.each place ∙ ap is_parked_entry there
            ∙ ap is_parked (ap (λ j. j.standing) (sym own.job_is) ∙ job.2),
      )

  -- a parked job is queued
  pub enters : (old : Slab (Entry J)) (queue next : Queue) (parked later : Chain)
      (before : Table J) (number : JobNumber) (place : ℕ) (was : Entry J) → IsKept old queue parked
      → table_of old queue parked ≡ before
      → standing_of before.jobs number ≡ Some Parked → place ≡ number.place
      → get old place ≡ Some was
      → Holds queue next (queue.places ++ place ∷ []) (set queue.owners place was.client)
      → later ≡ record parked { places = without place parked.places }
      → IsAmended old next later place (record was { standing = Queued }) before
      (before.queue ++ number.serial ∷ []) number entry_after_requeue (tally_at before.tallies)
  enters old queue next parked later before number place was kept seen stands here found holds
      shorter =
      let job = standing_job (job_of before.jobs number) Parked stands in
      let own =
      leads_to old queue parked before number job.0 place was kept seen job.1 here found in
      let stood : was.standing ≡ Parked = ap (λ j. j.standing) (sym own.1) ∙ job.2 in
      becomes_pushed old queue next parked later place was (record was { standing = Queued }) number
      entry_after_requeue (tally_at before.tallies) before kept found own.0
      refl (ap is_queued stood) refl
      (kept.table.held place was found ∙ ap (λ s. not (is_running s)) stood)
      (record {
        places_are = holds.places_are;
        owners_are = holds.owners_are;
        tallies_are = λ c.
            holds.tallies c ∙ ap (λ t. tally_at t.tallies c) seen;
        limit_is = holds.limit;
      })
      (subst (λ row. Tracks parked row place (record was { standing = Queued })) (sym shorter)
      (parked_less parked old place was (record was { standing = Queued }) kept.holds found
      refl))
      refl seen

  -- a parked job's place is free for the queue, and stands among the parked
  pub enters_room : (old : Slab (Entry J)) (queue : Queue) (parked : Chain)
      (before : Table J) (number : JobNumber) (place : ℕ) → IsKept old queue parked
      → table_of old queue parked ≡ before
      → standing_of before.jobs number ≡ Some Parked
      → place ≡ number.place → (place < length queue.owners) × (is_in place queue.places ≡ false)
      × (is_in place parked.places ≡ true)
  enters_room old queue parked before number place kept seen stands here =
      let job = standing_job (job_of before.jobs number) Parked stands in
      let own = entry_of old number job.0 kept.table.apart
      (ap (λ t. job_of t.jobs number) seen ∙ job.1) in
      let there : get old place ≡ Some own.entry = ap (get old) here ∙ own.is_at in
      let stood : own.entry.standing ≡ Parked = ap (λ j. j.standing) (sym own.job_is) ∙ job.2 in (
        kept.table.roomy place own.entry there,
        kept.table.queued place own.entry there ∙ ap is_queued stood,
        kept.holds.each place ∙ ap is_parked_entry there ∙ ap is_parked stood,
      )

  -- the entry after a take, as the code leaves it
  abbrev pub left_by : Entry J → Option J → Entry J
  left_by entry left = record entry { standing = Running; woken = false; value = left }

  -- no job is ready
  pub takes_none : (old : Slab (Entry J)) (queue next : Queue) (parked : Chain) (before : Table J)
      → IsKept old queue parked → table_of old queue parked ≡ before → TakesReady queue None next
      → TakesFirst before None (table_of old next parked)
  takes_none old queue next parked before kept seen none = (
    ap ready_of (sym seen) ∙ ready_serials old queue parked kept ∙ ap (serials_at old) none.0,
    ap (λ q. table_of old q parked) none.1 ∙ seen,
  )

  -- the first ready job is taken
  pub takes_so : (old : Slab (Entry J)) (queue next : Queue) (parked : Chain) (place : ℕ)
      (entry : Entry J) (value : J) (left : Option J) (number : JobNumber) (before : Table J)
      → IsKept old queue parked → TakesPlace queue place next
      → get old place ≡ Some entry → entry.value ≡ Some value
      → left ≡ None → number ≡ record { place = place; serial = entry.serial }
      → table_of old queue parked ≡ before
      → IsKept (with_value old place (left_by entry left)) next parked
      × TakesFirst
      before (Some (record { no = number; value = value; cancelled = entry.cancelled }))
      (table_of (with_value old place (left_by entry left)) next parked)
  takes_so old queue next parked place entry value left number before kept took found held none is
      seen =
      subst (λ l. IsKept (with_value old place (left_by entry l)) next parked × TakesFirst
      before (Some (record { no = number; value = value; cancelled = entry.cancelled }))
      (table_of (with_value old place (left_by entry l)) next parked)) (sym none) (
        record {
          table = done.table;
          holds = parked_changed old new parked parked place (taken_by entry) updates same_parked
              kept.holds;
          owned = changed_owned old new queue next place (taken_by entry)
              updates (taken_out queue next (tally_at next.tallies) old place entry (taken_by entry)
              kept.table now found refl refl) kept.owned;
        },
        subst (λ t. TakesFirst
            t (Some (record { no = number; value = value; cancelled = entry.cancelled }))
            (table_of new next parked)) seen
            (subst (λ n. TakesFirst (table_of old queue parked)
            (Some (record { no = n; value = value; cancelled = entry.cancelled }))
            (table_of new next parked)) (sym is) (record {
              first = first_serial old queue parked place entry kept took.first found;
              job = job_at place entry;
              found = (tabled old kept.table.apart).here place entry found;
              place = refl;
              value_is = held;
              cancelled_is = refl;
              becomes = record {
                queue_is = done.rest;
                room_is = refl;
                jobs_are = done.jobs;
                tallies_are =
                    λ c. took.tallies c ∙ ap (λ owner. retallied queue.tallies owner started c)
                    (kept.owned place entry found queued);
                limit_is = took.limit;
              };
            })),
      )
    where
      new : Slab (Entry J)
      new = with_value old place (taken_by entry)

      queued : is_in place queue.places ≡ true
      queued = ready_queued queue place took.first

      now : QueueIs queue next (without place queue.places) queue.owners (tally_at next.tallies)
      now = record {
        places_are = took.places;
        owners_are = took.owners;
        tallies_are = λ c. refl;
        limit_is = took.limit;
      }

      done : Takes old new (chain_of queue) (chain_of next) place entry
      done =
          takes old (chain_of queue) (chain_of next) place entry kept.table queued found (chain_as
          queue next (without place queue.places) queue.owners (tally_at next.tallies) now)

      updates : Updates old new place (Some (taken_by entry))
      updates = Updates-with_value old place (taken_by entry) (subst IsSome (sym found) refl)

      same_parked : Tracks parked parked place (taken_by entry)
      same_parked =
          unmoved parked old place entry (taken_by entry) kept.holds found (sym (ap is_parked
          (queued_is entry.standing (sym (kept.table.queued place entry found) ∙ queued))))

  -- one more job of this client has a place in both rows, and its client has a seat
  pub has_room : (old : Slab (Entry J)) (queue : Queue) (parked : Chain) (client : ℕ)
      (before : Table J) → table_of old queue parked ≡ before → is_prepared before client ≡ true
      → (old.vacant_key < length queue.owners) × (old.vacant_key < parked.room)
      × (has_seat queue client ≡ true)
  has_room old queue parked client before seen room =
      let all : is_prepared (table_of old queue parked) client ≡ true =
      ap (λ t. is_prepared t client) seen ∙ room in
      let both = and_parts (ltb (slab_len old) old.capacity && ltb old.vacant_key
      (length queue.owners) && ltb old.vacant_key parked.room) (has_seat queue client) all in
      let last =
      and_parts (ltb (slab_len old) old.capacity && ltb old.vacant_key (length queue.owners))
      (ltb old.vacant_key parked.room) both.0 in
      let first = and_parts (ltb (slab_len old) old.capacity)
      (ltb old.vacant_key (length queue.owners)) last.0 in (
        ltb-true old.vacant_key (length queue.owners) first.1,
        ltb-true old.vacant_key parked.room last.1,
        both.1,
      )

  -- a new job is the last of the queue, and its client's
  pub record Enrols (before : Table J) (new : Slab (Entry J)) (next : Queue) (parked : Chain)
      (place serial client : ℕ) (value : J) : Type 0 where
    pub kept : IsKept new next parked
    pub becomes : Becomes before (table_of new next parked)
        (before.queue ++ serial ∷ []) (insert before.jobs serial (new_job place client value))
        (retallied before.tallies client enrolled)

  pub enrols : (old new : Slab (Entry J)) (queue mid next : Queue) (parked : Chain)
      (place serial client : ℕ) (value : J) (before : Table J) → IsKept old queue parked
      → table_of old queue parked ≡ before
      → get old place ≡ None → at before.jobs serial ≡ None → place < length queue.owners
      → place < parked.room
      → Updates old new place (Some (record {
        serial = serial;
        client = client;
        standing = Queued;
        woken = false;
        cancelled = false;
        value = Some value;
      }))
      → Tallied queue mid client enrolled
      → Holds mid next (mid.places ++ place ∷ []) (set mid.owners place client)
      → Enrols before new next parked place serial client value
  enrols old new queue mid next parked place serial client value before kept seen vacant fresh roomy
      spacious updates enters holds =
      record {
        kept = record {
          table = done.table;
          holds = parked_changed old new parked parked place _ updates same_parked kept.holds;
          owned = changed_owned old new queue next place entry updates (pushed
              queue next (retallied queue.tallies client enrolled) place entry kept.table.once
              (vacant_unqueued old (chain_of queue) place kept.table vacant) roomy now refl refl)
              kept.owned;
        };
        becomes = subst (λ t. Becomes t (table_of new next parked)
            (t.queue ++ serial ∷ []) (insert t.jobs serial (new_job place client value))
            (retallied t.tallies client enrolled)) seen
            (record {
              queue_is = done.queue;
              room_is = refl;
              jobs_are = done.jobs;
              tallies_are = now.tallies_are;
              limit_is = now.limit_is;
            });
      }
    where
      entry : Entry J
      entry = record {
        serial = serial;
        client = client;
        standing = Queued;
        woken = false;
        cancelled = false;
        value = Some value;
      }

      now : QueueIs queue next (queue.places ++ place ∷ []) (set queue.owners place client)
          (retallied queue.tallies client enrolled)
      now =
          record {
            places_are = holds.places_are ∙ ap (λ ps. ps ++ place ∷ []) enters.places;
            owners_are = holds.owners_are ∙ ap (λ os. set os place client) enters.owners;
            tallies_are = λ c. holds.tallies c ∙ enters.tallies c;
            limit_is = holds.limit ∙ enters.limit;
          }

      done : Inserts old new (chain_of queue) (chain_of next) place serial client value
      done =
          inserts old new (chain_of queue) (chain_of next) place serial client value kept.table
          vacant (ap (λ t. at t.jobs serial) seen ∙ fresh) roomy updates
          (chain_as queue next (queue.places ++ place ∷ []) (set queue.owners place client)
          (retallied queue.tallies client enrolled) now
          ∙ ap (λ n. record { places = queue.places ++ place ∷ []; room = n })
          (length-set queue.owners place client))

      same_parked : Tracks parked parked place entry
      same_parked =
          record {
            others = λ other differs. refl;
            here = kept.holds.each place ∙ ap is_parked_entry vacant;
            room = refl;
            within = spacious;
            once = kept.holds.once;
          }

  -- the tally of the client of a running job that leaves, when it runs no more
  pub stopped_here : (old : Slab (Entry J)) (queue mid : Queue) (parked : Chain)
      (before : Table J) (number : JobNumber) (place : ℕ) (was : Entry J) → IsKept old queue parked
      → table_of old queue parked ≡ before
      → is_running_as before.jobs number ≡ true
      → place ≡ number.place → get old place ≡ Some was → Tallied queue mid was.client stopped
      → tally_at mid.tallies was.client ≡ stopped (tally_for before number)
  stopped_here old queue mid parked before number place was kept seen runs here found stops =
      let job = running_job (job_of before.jobs number) runs in
      stops.tallies was.client ∙ ap (λ b. cond b (stopped (tally_at queue.tallies was.client))
      (tally_at queue.tallies was.client)) (eq-eqb was.client was.client refl)
      ∙ ap stopped (sym
      (tally_here old queue parked before number job.0 place was kept seen job.1 here found))

  -- where no job of its client is queued, the client's line is empty
  pub none_lined : (old : Slab (Entry J)) (queue mid : Queue) (parked : Chain)
      (before : Table J) (number : JobNumber) (place : ℕ) (was : Entry J) → IsKept old queue parked
      → table_of old queue parked ≡ before
      → is_running_as before.jobs number ≡ true → place ≡ number.place → get old place ≡ Some was
      → Tallied queue mid was.client stopped → queued_for before (client_at before number) ≡ []
      → line_in mid was.client ≡ []
  none_lined old queue mid parked before number place was kept seen runs here found stops none =
      let job = running_job (job_of before.jobs number) runs in
      let whose =
      client_here old queue parked before number job.0 place was kept seen job.1 here found in
      ap (λ ps. line_in (record mid { places = ps }) was.client) stops.places
      ∙ ap (λ os. line_in (record mid { places = queue.places; owners = os }) was.client)
      stops.owners
      ∙ unmapped _ (line_in queue was.client) (sym (line_serials old queue parked was.client kept)
      ∙ ap (λ t. queued_for t was.client) seen ∙ ap (queued_for before) whose ∙ none)
    where
      unmapped : (f : ℕ → ℕ) (xs : List ℕ) → map f xs ≡ [] → xs ≡ []
      unmapped f [] is = refl
      unmapped f (x ∷ xs) is = absurd (cc)

  -- a running job leaves the table
  pub record Leaves (before : Table J) (new : Slab (Entry J)) (queue : Queue) (parked : Chain)
      (number : JobNumber) : Type 0 where
    pub kept : IsKept new queue parked
    pub becomes : Becomes before (table_of new queue parked) before.queue
        (remove before.jobs number.serial) (retallied before.tallies (client_at before number) left)

  pub leaves : (old new : Slab (Entry J)) (queue mid next : Queue) (parked : Chain)
      (before : Table J) (number : JobNumber) (place : ℕ) (was : Entry J) → IsKept old queue parked
      → table_of old queue parked ≡ before
      → is_running_as before.jobs number ≡ true → place ≡ number.place → get old place ≡ Some was
      → Updates old new place None
      → Tallied queue mid was.client stopped → Tallied mid next was.client discharged
      → Leaves before new next parked number
  leaves old new queue mid next parked before number place was kept seen runs here found updates
      stops over =
      record {
        kept = record {
          table = subst (IsTable new)
              (sym (chain_as queue next queue.places queue.owners (tally_at next.tallies) now))
              done.table;
          holds = parked_left old new parked place updates
              (parks_room old queue parked before number place kept seen runs here).1 kept.holds;
          owned = λ q e there within.
              ap (λ os. owner_at (record queue { owners = os }) q) now.owners_are
              ∙ kept.owned q e (sym (updates.others q (off q e there)) ∙ there)
              (ap (is_in q) (sym now.places_are) ∙ within);
        };
        becomes = record {
          queue_is = ap (serials_at new) now.places_are ∙ done.queue ∙ ap (λ t. t.queue) seen;
          room_is = ap (λ t. t.room) seen;
          jobs_are = done.jobs ∙ ap (λ t. remove t.jobs number.serial) seen;
          tallies_are = λ c. over.tallies c ∙ twice c ∙ tallies_as queue before was.client
              (client_at before number) left (ap (λ t. t.tallies) seen) whose c;
          limit_is = now.limit_is ∙ ap (λ t. t.client_limit) seen;
        };
      }
    where
      job : (job : Job J) × (job_of before.jobs number ≡ Some job) × (job.standing ≡ Running)
      job = running_job (job_of before.jobs number) runs

      whose : was.client ≡ client_at before number
      whose = client_here old queue parked before number job.0 place was kept seen job.1 here found

      now : QueueIs queue next queue.places queue.owners (tally_at next.tallies)
      now = record {
        places_are = over.places ∙ stops.places;
        owners_are = over.owners
            ∙ stops.owners;
        tallies_are = λ c. refl;
        limit_is = over.limit ∙ stops.limit;
      }

      off : (n : ℕ) (x : Entry J) → get new n ≡ Some x → n ≢ place
      off n x is same =
          absurd (let gone = updates.changed in let there = ap (get new) (sym same) ∙ is in cc)

      -- one change after the other of the same tally
      twice : (c : ℕ) → retallied mid.tallies was.client discharged c
          ≡ retallied queue.tallies was.client left c
      twice c =
          by_eq c was.client
          (λ b. cond b (discharged (tally_at mid.tallies was.client)) (tally_at mid.tallies c)
          ≡ cond b (left (tally_at queue.tallies was.client)) (tally_at queue.tallies c))
          (λ same. ap discharged (stops.tallies was.client
          ∙ ap (λ b. cond b (stopped (tally_at queue.tallies was.client))
          (tally_at queue.tallies was.client)) (eq-eqb was.client was.client refl)))
          (λ differs. stops.tallies c
          ∙ ap (λ b. cond b (stopped (tally_at queue.tallies was.client))
          (tally_at queue.tallies c)) (ne_eqb c was.client differs))

      runs_here : is_running_as (jobs_of old) number ≡ true
      runs_here = ap (λ t. is_running_as t.jobs number) seen ∙ runs

      done : Removes old new (chain_of queue) number.serial
      done = removes old new (chain_of queue) number kept.table runs_here
          (subst (λ n. Updates old new n None) here updates)

  -- what is found at the place of a number
  pub finds : (slab : Slab (Entry J)) (queue : Queue) (parked : Chain) (before : Table J)
      (number : JobNumber) (place : ℕ) (entry : Entry J) → IsKept slab queue parked
      → table_of slab queue parked ≡ before
      → place ≡ number.place → get slab place ≡ Some entry → entry.serial ≡ number.serial
      → Some (record {
        standing = entry.standing;
        woken = entry.woken;
        cancelled = entry.cancelled;
      }) ≡ found_of (job_of before.jobs number)
  finds slab queue parked before number place entry kept seen here found same =
      ap found_of (sym
      (job_here slab number entry kept.table.apart (ap (get slab) (sym here) ∙ found) same))
      ∙ ap (λ t. found_of (job_of t.jobs number)) seen

  pub finds_none : (slab : Slab (Entry J)) (queue : Queue) (parked : Chain)
      (before : Table J) (number : JobNumber) (place : ℕ) → IsKept slab queue parked
      → table_of slab queue parked ≡ before
      → place ≡ number.place
      → ((entry : Entry J) → get slab place ≡ Some entry → entry.serial ≢ number.serial)
      → None ≡ job_of before.jobs number
  finds_none slab queue parked before number place kept seen here never =
      sym (job_nowhere slab
      number kept.table.apart (λ entry found. never entry (ap (get slab) here ∙ found)))
      ∙ ap (λ t. job_of t.jobs number) seen

  pub valued_job : (found : Option (Job J)) → has_value found ≡ true
      → (job : Job J) × (found ≡ Some job) × (is_running job.standing ≡ false)
  valued_job None is = absurd (false≢true is)
  valued_job (Some job) is = (job, refl, not_so (is_running job.standing) is)
    where
      not_so : (b : Bool) → not b ≡ true → b ≡ false
      not_so true n = absurd (false≢true n)
      not_so false n = refl

  -- a job that doesn't run has another value
  pub revalues : (old : Slab (Entry J)) (queue : Queue) (parked : Chain) (before : Table J)
      (number : JobNumber) (place : ℕ) (was : Entry J) (value : J) → IsKept old queue parked
      → table_of old queue parked ≡ before
      → has_value (job_of before.jobs number) ≡ true → place ≡ number.place
      → get old place ≡ Some was
      → IsAmended old queue parked place (record was { value = Some value }) before before.queue
      number (entry_with value) (tally_at before.tallies)
  revalues old queue parked before number place was value kept seen idle here found =
      let job = valued_job (job_of before.jobs number) idle in
      let own =
      leads_to old queue parked before number job.0 place was kept seen job.1 here found in
      becomes_kept old queue queue parked parked place was (record was { value = Some value })
      number (entry_with value) (tally_at before.tallies) before kept found own.0
      refl refl refl (sym (ap not (ap (λ j. is_running j.standing) (sym own.1) ∙ job.2)))
      (still old queue parked before seen) (unmoved parked old place was
      (record was { value = Some value }) kept.holds found refl) refl seen

  -- an entry that is written back as it was
  as_it_was : (old : Slab (Entry J)) (queue : Queue) (parked : Chain) (place : ℕ) (was : Entry J)
      → IsKept old queue parked → get old place ≡ Some was
      → Amends old queue queue parked place was was
  as_it_was old queue parked place was kept found =
      amends old queue queue parked parked place was was kept found refl
      (stays queue queue (tally_at queue.tallies) old place was was kept.table
      kept.owned (same_queue queue) found refl refl (kept.table.held place was found))
      (unmoved parked old place was was kept.holds found refl)

  pub rewrites : (old : Slab (Entry J)) (queue : Queue) (parked : Chain) (place : ℕ) (was : Entry J)
      → IsKept old queue parked → get old place ≡ Some was
      → IsKept (with_value old place was) queue parked
  rewrites old queue parked place was kept found =
      (as_it_was old queue parked place was kept found).kept

  -- a job that runs has no value here
  pub no_value : (slab : Slab (Entry J)) (queue : Queue) (parked : Chain) (before : Table J)
      (number : JobNumber) → IsKept slab queue parked → table_of slab queue parked ≡ before
      → has_value (job_of before.jobs number) ≡ false → None ≡ value_at (job_of before.jobs number)
  no_value slab queue parked before number kept seen runs =
      by_job (job_of before.jobs number) refl runs
    where
      empty_of : (value : Option J) → is_some value ≡ false → None ≡ value
      empty_of None is = refl
      empty_of (Some value) is = absurd (false≢true (sym is))

      not_so : (b : Bool) → not b ≡ false → b ≡ true
      not_so true n = refl
      not_so false n = absurd (false≢true (sym n))

      by_job : (found : Option (Job J)) → job_of before.jobs number ≡ found
          → has_value found ≡ false → None ≡ value_at found
      by_job None is runs = refl
      by_job (Some job) is runs =
          let own = entry_of slab number job kept.table.apart
          (ap (λ t. job_of t.jobs number) seen ∙ is) in
          empty_of job.value
          (ap (λ j. is_some j.value) own.job_is ∙ kept.table.held number.place own.entry own.is_at
          ∙ ap not (ap (λ j. is_running j.standing) (sym own.job_is)
          ∙ not_so (is_running job.standing) runs))

  -- the value that is found
  pub value_found : (slab : Slab (Entry J)) (queue : Queue) (parked : Chain) (before : Table J)
      (number : JobNumber) (place : ℕ) (entry : Entry J) → IsKept slab queue parked
      → table_of slab queue parked ≡ before
      → has_value (job_of before.jobs number) ≡ true → place ≡ number.place
      → get slab place ≡ Some entry → entry.value ≡ value_at (job_of before.jobs number)
  value_found slab queue parked before number place entry kept seen idle here found =
      let job = valued_job (job_of before.jobs number) idle in
      sym (ap value_at job.1 ∙ ap (λ j. j.value) (leads_to slab queue parked before number job.0
      place entry kept seen job.1 here found).1)

  -- a table that is written back as it was
  pub rewrites_as : (old : Slab (Entry J)) (queue : Queue) (parked : Chain) (before : Table J)
      (place : ℕ) (was : Entry J) → IsKept old queue parked → table_of old queue parked ≡ before
      → get old place ≡ Some was
      → HasJobs before (table_of (with_value old place was) queue parked) before.jobs
  rewrites_as old queue parked before place was kept seen found =
      let done = as_it_was old queue parked place was kept found in
      subst (λ t. HasJobs t (table_of (with_value old place was) queue parked) t.jobs) seen
      (record {
        queue_is = same_serials old (with_value old place was) queue.places done.same_queue;
        room_is = refl;
        jobs_are = done.jobs ∙ insert_again (jobs_of old) was.serial (job_at place was)
            ((tabled old kept.table.apart).here place was found);
        tallies_are = λ c. refl;
        limit_is = refl;
      })
    where
      insert_again : (jobs : Jobs J) (serial : ℕ) (job : Job J) → at jobs serial ≡ Some job
          → insert jobs serial job ≡ jobs
      insert_again jobs serial job there = same_map nat_cmp_total nat_cmp-IsAntisymmetric
          (insert jobs serial job) jobs (λ s. elim (cases_eq s serial) [
            | inl same ↦ ap (at (insert jobs serial job)) same ∙ at_insert_same jobs serial job
                ∙ sym (ap (at jobs) same ∙ there)
            | inr far ↦ at_insert_other jobs serial job s far
          ])

  -- a table that is as it was
  pub same_table : (now before : Table J) → now ≡ before → HasJobs before now before.jobs
  same_table now before is =
      record {
        queue_is = ap (λ t. t.queue) is;
        room_is = ap (λ t. t.room) is;
        jobs_are = ap (λ t. t.jobs) is;
        tallies_are = λ c. ap (λ t. tally_at t.tallies c) is;
        limit_is = ap (λ t. t.client_limit) is;
      }

  -- the entry of a job that doesn't run has its value
  pub idle_held : (slab : Slab (Entry J)) (queue : Queue) (parked : Chain) (before : Table J)
      (number : JobNumber) (place : ℕ) (entry : Entry J) → IsKept slab queue parked
      → table_of slab queue parked ≡ before
      → has_value (job_of before.jobs number) ≡ true → place ≡ number.place
      → get slab place ≡ Some entry → is_some entry.value ≡ true
  idle_held slab queue parked before number place entry kept seen idle here found =
      let job = valued_job (job_of before.jobs number) idle in
      let own =
      leads_to slab queue parked before number job.0 place entry kept seen job.1 here found in
      kept.table.held place entry found
      ∙ ap not (ap (λ j. is_running j.standing) (sym own.1) ∙ job.2)

  -- the table with another client limit
  pub limited : (slab : Slab (Entry J)) (queue next : Queue) (parked : Chain) (before : Table J)
      → IsKept slab queue parked → table_of slab queue parked ≡ before
      → Holds queue (record next { limit = queue.limit }) queue.places queue.owners
      → IsKept slab next parked × HasJobs before
      (record (table_of slab next parked) { client_limit = before.client_limit }) before.jobs
  limited slab queue next parked before kept seen holds = (
    seated slab queue next parked kept holds.places_are holds.owners_are,
    record {
      queue_is = ap (serials_at slab) holds.places_are ∙ ap (λ t. t.queue) seen;
      room_is = ap (λ t. t.room) seen;
      jobs_are = ap (λ t. t.jobs) seen;
      tallies_are = λ c. holds.tallies c ∙ ap (λ t. tally_at t.tallies c) seen;
      limit_is = refl;
    },
  )
