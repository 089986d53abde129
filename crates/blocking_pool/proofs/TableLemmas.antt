-- How a change of one place of the table changes the jobs and the queue.
use Rattle.std.proofs.Common.{◌≡◌, ◌≢◌, ◌⊎◌, ℕ, zero, suc, ◌+◌, ◌<◌, Bool, true, false, cond, eqb}
use Rattle.std.proofs.Common.{not, List, [], ◌∷◌, ◌++◌, map, get_or, Option, Some, None, is_some}
use Rattle.std.proofs.Common.{IsSome, refl, sym, ap, ◌∙◌, subst, inl, inr, arith, add-zero, nat_cmp}
use Rattle.std.proofs.lemmas.Bool.{eq-eqb, ne_eqb, cases_eq, or_right, false≢true}
use Rattle.std.proofs.lemmas.List.{map_push}
use Rattle.std.specs.Cmp.{nat_cmp_total}
use Rattle.std.specs.FinMap.{find, get as at, insert, remove, from_entries, get-from_entries}
use Rattle.std.specs.FinMap.{get-insert, get-remove, same_map, nat_cmp-IsAntisymmetric}
use Rattle.slab.specs.Slab.{Slab, get, Updates, with_value}
use Rattle.slab.proofs.SlabLemmas.{Updates-with_value}
use Rattle.blocking_pool.specs.Chain.{Chain}
use Rattle.blocking_pool.specs.Lists.{is_in, IsOnce, without}
use Rattle.blocking_pool.specs.Jobs.{Job, Jobs, JobNumber, is_queued, is_running, HaveValues}
use Rattle.blocking_pool.specs.Jobs.{new_job, if_at, job_of, is_running_as, jobs_after_change}
use Rattle.blocking_pool.specs.Jobs.{amend}
use Rattle.blocking_pool.specs.Tables.{job_at, listed, serial_or_zero, serials_at, IsTable}
use Rattle.blocking_pool.specs.declared.pool.standing.Standing.TheVariants.{Queued, Running}
use Rattle.blocking_pool.specs.declared.pool.table.Entry.{Entry}
use Rattle.blocking_pool.proofs.Lists.{eq_by_nat_cmp, by_eq, is_in-first, is_in-last, is_in-push}
use Rattle.blocking_pool.proofs.Lists.{same_ends, is_in-without, is_in-without_itself}
use Rattle.blocking_pool.proofs.Lists.{IsOnce-without, IsOnce-push, filter-map}
use Rattle.blocking_pool.proofs.Standings.{queued_is, running_job}

pub some_or_none : {X : Type 0} (x : Option X) → (x ≡ None) ⊎ ((y : X) × (x ≡ Some y))
some_or_none None = inl refl
some_or_none (Some y) = inr (y, refl)

-- what is some is of something
pub some_of : {X : Type 0} (x : Option X) → is_some x ≡ true → (y : X) × (x ≡ Some y)
some_of None is = absurd (false≢true is)
some_of (Some y) is = (y, refl)

some_is : {X : Type 0} (x : Option X) (y : X) → x ≡ Some y → IsSome x
some_is x y is = subst IsSome (sym is) refl

module _ {J : Type 0} where
  -- the jobs of a slab
  abbrev pub jobs_of : Slab (Entry J) → Jobs J
  jobs_of slab = from_entries (listed 0 slab.slots)

  -- what is at a place stands in the list under its serial
  listed_here : (first : ℕ) (slots : List (Option (Entry J))) (place : ℕ) (entry : Entry J)
      → get_or slots place None ≡ Some entry
      → ((other : ℕ) (same : Entry J) → get_or slots other None ≡ Some same
      → same.serial ≡ entry.serial → other ≡ place)
      → find nat_cmp entry.serial (listed first slots) ≡ Some (job_at (first + place) entry)
  listed_here first [] place entry found one = absurd (cc)
  listed_here first (None ∷ slots) zero entry found one = absurd (cc)
  listed_here first (None ∷ slots) (suc place) entry found one =
      subst (λ n. find nat_cmp entry.serial (listed (first + 1) slots) ≡ Some (job_at n entry))
      (omega arith)
      (listed_here (first + 1) slots place entry found
      (λ other same there alike. omega (arith, one (suc other) same there alike)))
  listed_here first (Some head ∷ slots) zero entry found one =
      let is : head ≡ entry = cc in
      subst (λ e. find nat_cmp entry.serial (listed first (Some e ∷ slots))
      ≡ Some (job_at (first + 0) entry)) (sym is)
      (subst (λ n. find nat_cmp entry.serial (listed first (Some entry ∷ slots))
      ≡ Some (job_at n entry)) (sym (add-zero first))
      (ap (λ b. cond
      b (Some (job_at first entry)) (find nat_cmp entry.serial (listed (first + 1) slots)))
      (eq_by_nat_cmp entry.serial entry.serial ∙ eq-eqb entry.serial entry.serial refl)))
  listed_here first (Some head ∷ slots) (suc place) entry found one =
      let differs : entry.serial ≢ head.serial =
      λ e. absurd (omega (arith, one 0 head refl (sym e))) in
      ap (λ b. cond
      b (Some (job_at first head)) (find nat_cmp entry.serial (listed (first + 1) slots)))
      (eq_by_nat_cmp entry.serial head.serial ∙ ne_eqb entry.serial head.serial differs)
      ∙ subst (λ n. find nat_cmp entry.serial (listed (first + 1) slots) ≡ Some (job_at n entry))
      (omega arith)
      (listed_here (first + 1) slots place entry found
      (λ other same there alike. omega (arith, one (suc other) same there alike)))

  -- the place, counted from the first, and the entry of a job in the list
  pub record IsFrom (first : ℕ) (slots : List (Option (Entry J))) (serial : ℕ) (job : Job J) :
      Type 0 where
    pub place : ℕ
    pub entry : Entry J
    pub is_at : get_or slots place None ≡ Some entry
    pub serial_is : entry.serial ≡ serial
    pub job_is : job ≡ job_at (first + place) entry

  later : (first : ℕ) (slot : Option (Entry J)) (slots : List (Option (Entry J))) (serial : ℕ)
      (job : Job J) → IsFrom (first + 1) slots serial job → IsFrom first (slot ∷ slots) serial job
  later first slot slots serial job from =
      record {
        place = suc from.place;
        entry = from.entry;
        is_at = from.is_at;
        serial_is = from.serial_is;
        job_is = from.job_is ∙ ap (λ n. job_at n from.entry) (omega arith);
      }

  listed_there : (first : ℕ) (slots : List (Option (Entry J))) (serial : ℕ) (job : Job J)
      → find nat_cmp serial (listed first slots) ≡ Some job → IsFrom first slots serial job
  listed_there first [] serial job found = absurd (cc)
  listed_there first (None ∷ slots) serial job found =
      later first None slots serial job (listed_there (first + 1) slots serial job found)
  listed_there first (Some head ∷ slots) serial job found =
      by_eq serial head.serial
      (λ b. cond b (Some (job_at first head)) (find nat_cmp serial (listed (first + 1) slots))
      ≡ Some job → IsFrom first (Some head ∷ slots) serial job)
      (λ same is. record {
        place = 0;
        entry = head;
        is_at = refl;
        serial_is = sym same;
        job_is = (let e : job_at first head ≡ job = cc in sym e)
            ∙ ap (λ n. job_at n head) (sym (add-zero first));
      })
      (λ differs is.
      later first (Some head) slots serial job (listed_there (first + 1) slots serial job is))
      (subst
      (λ b. cond b (Some (job_at first head)) (find nat_cmp serial (listed (first + 1) slots))
      ≡ Some job) (eq_by_nat_cmp serial head.serial) found)

  -- The jobs are those of the slab: each entry's job under its serial, and no others.
  pub record Tabled (slab : Slab (Entry J)) (jobs : Jobs J) : Type 0 where
    pub here : (place : ℕ) (entry : Entry J) → get slab place ≡ Some entry
        → at jobs entry.serial ≡ Some (job_at place entry)
    pub there : (serial : ℕ) (job : Job J) → at jobs serial ≡ Some job
        → IsFrom 0 slab.slots serial job

  -- no two entries have one serial
  abbrev pub AreApart : Slab (Entry J) → Type 0
  AreApart slab = (place other : ℕ) (entry same : Entry J) → get slab place ≡ Some entry
      → get slab other ≡ Some same → entry.serial ≡ same.serial → place ≡ other

  pub tabled : (slab : Slab (Entry J)) → AreApart slab → Tabled slab (jobs_of slab)
  tabled slab apart =
      record {
        here =
            λ place entry found. get-from_entries nat_cmp_total (listed 0 slab.slots) entry.serial
            ∙ listed_here 0 slab.slots place entry found
            (λ other same there alike. apart other place same entry there found alike)
            ∙ ap (λ n. Some (job_at n entry)) (omega arith);
        there = λ serial job found. listed_there 0 slab.slots serial job
            (sym (get-from_entries nat_cmp_total (listed 0 slab.slots) serial) ∙ found);
      }

  pub from_there : (slab : Slab (Entry J)) (jobs : Jobs J) (serial : ℕ) (job : Job J)
      → Tabled slab jobs → at jobs serial ≡ Some job → (entry : Entry J)
      × (get slab job.place ≡ Some entry) × (entry.serial ≡ serial) × (job ≡ job_at job.place entry)
  from_there slab jobs serial job tabled found =
      let from = tabled.there serial job found in
      let is : job.place ≡ from.place = ap (λ j. j.place) from.job_is ∙ omega arith in (
        from.entry,
        ap (get slab) is ∙ from.is_at,
        from.serial_is,
        from.job_is ∙ ap (λ n. job_at n from.entry) (omega (arith, is)),
      )

  same_at : (slab : Slab (Entry J)) (old new : Jobs J) → Tabled slab old → Tabled slab new
      → (serial : ℕ) (job : Job J) → at old serial ≡ Some job → at new serial ≡ Some job
  same_at slab old new o n serial job found =
      let from = from_there slab old serial job o found in
      subst (λ s. at new s ≡ Some job) from.2
      (n.here job.place from.0 from.1 ∙ ap Some (sym from.3))

  pub same_jobs : (slab : Slab (Entry J)) (old new : Jobs J) → Tabled slab old → Tabled slab new
      → old ≡ new
  same_jobs slab old new o n = same_map nat_cmp_total nat_cmp-IsAntisymmetric old new
      (λ serial. either serial (some_or_none (at old serial)) (some_or_none (at new serial)))
    where
      either : (serial : ℕ) → (at old serial ≡ None) ⊎ ((job : Job J) × (at old serial ≡ Some job))
          → (at new serial ≡ None) ⊎ ((job : Job J) × (at new serial ≡ Some job))
          → at old serial ≡ at new serial
      either serial (inr found) other =
          found.1 ∙ sym (same_at slab old new o n serial found.0 found.1)
      either serial (inl none) (inl absent) = none ∙ sym absent
      either serial (inl none) (inr found) =
          same_at slab new old n o serial found.0 found.1 ∙ sym found.1

  pub at_insert_same : (jobs : Jobs J) (serial : ℕ) (job : Job J)
      → at (insert jobs serial job) serial ≡ Some job
  at_insert_same jobs serial job =
      get-insert nat_cmp_total jobs serial job serial ∙ ap (λ b. cond b (Some job) (at jobs serial))
      (eq_by_nat_cmp serial serial ∙ eq-eqb serial serial refl)

  pub at_insert_other : (jobs : Jobs J) (serial : ℕ) (job : Job J) (other : ℕ) → other ≢ serial
      → at (insert jobs serial job) other ≡ at jobs other
  at_insert_other jobs serial job other differs =
      get-insert nat_cmp_total jobs serial job other ∙ ap (λ b. cond b (Some job) (at jobs other))
      (eq_by_nat_cmp other serial ∙ ne_eqb other serial differs)

  pub at_remove_same : (jobs : Jobs J) (serial : ℕ) → at (remove jobs serial) serial ≡ None
  at_remove_same jobs serial =
      get-remove nat_cmp_total jobs serial serial ∙ ap (λ b. cond b None (at jobs serial))
      (eq_by_nat_cmp serial serial ∙ eq-eqb serial serial refl)

  pub at_remove_other : (jobs : Jobs J) (serial other : ℕ) → other ≢ serial
      → at (remove jobs serial) other ≡ at jobs other
  at_remove_other jobs serial other differs =
      get-remove nat_cmp_total jobs serial other ∙ ap (λ b. cond b None (at jobs other))
      (eq_by_nat_cmp other serial ∙ ne_eqb other serial differs)

  -- One place has a new entry: the place was vacant, or its entry had the same serial.
  pub record Changes (old new : Slab (Entry J)) (place : ℕ) (entry : Entry J) : Type 0 where
    pub updates : Updates old new place (Some entry)
    pub same : (was : Entry J) → get old place ≡ Some was → was.serial ≡ entry.serial
    pub apart : (other : ℕ) (was : Entry J) → other ≢ place → get old other ≡ Some was
        → was.serial ≢ entry.serial

  changed_here : (old new : Slab (Entry J)) (place : ℕ) (entry : Entry J)
      → Changes old new place entry → (found : Entry J) → get new place ≡ Some found → found ≡ entry
  changed_here old new place entry changes found is = let e = changes.updates.changed in cc

  pub changed_tabled : (old new : Slab (Entry J)) (jobs : Jobs J) (place : ℕ) (entry : Entry J)
      → Changes old new place entry → Tabled old jobs
      → Tabled new (insert jobs entry.serial (job_at place entry))
  changed_tabled old new jobs place entry changes tabled =
      record {
        here = λ q e found. elim (cases_eq q place) [
          | inl same ↦
              let is =
              changed_here old new place entry changes e (ap (get new) (sym same) ∙ found) in
              ap (at (insert jobs entry.serial (job_at place entry))) (ap (λ x. x.serial) is)
              ∙ at_insert_same jobs entry.serial (job_at place entry)
              ∙ ap Some (ap (λ x. job_at place x) (sym is) ∙ ap (λ n. job_at n e) (sym same))
          | inr differs ↦
              let was = sym (changes.updates.others q differs) ∙ found in
              at_insert_other jobs entry.serial (job_at place entry) e.serial
              (changes.apart q e differs was) ∙ tabled.here q e was
        ];
        there = λ s job found. elim (cases_eq s entry.serial) [
          | inl same ↦
              let is : job_at place entry ≡ job =
              let e = sym (at_insert_same jobs entry.serial (job_at place entry))
              ∙ ap (at (insert jobs entry.serial (job_at place entry))) (sym same) ∙ found in
              cc in
              record {
                place = place;
                entry = entry;
                is_at = changes.updates.changed;
                serial_is = sym same;
                job_is = sym is ∙ ap (λ n. job_at n entry) (omega arith);
              }
          | inr differs ↦
              let from = tabled.there s job (sym
              (at_insert_other jobs entry.serial (job_at place entry) s differs) ∙ found) in
              let other : from.place ≢ place = λ e. differs (sym from.serial_is
              ∙ changes.same from.entry (ap (get old) (sym e) ∙ from.is_at)) in
              record {
                place = from.place;
                entry = from.entry;
                is_at = changes.updates.others from.place other ∙ from.is_at;
                serial_is = from.serial_is;
                job_is = from.job_is;
              }
        ];
      }

  pub changed_apart : (old new : Slab (Entry J)) (place : ℕ) (entry : Entry J)
      → Changes old new place entry → AreApart old → AreApart new
  changed_apart old new place entry changes apart p q e d at_p at_q alike =
      elim (cases_eq p place) [
        | inl here ↦ elim (cases_eq q place) [
          | inl there ↦ here ∙ sym there
          | inr far ↦ absurd (changes.apart q d far (sym (changes.updates.others q far) ∙ at_q)
              (sym alike ∙ ap (λ x. x.serial)
              (changed_here old new place entry changes e (ap (get new) (sym here) ∙ at_p))))
        ]
        | inr off ↦ elim (cases_eq q place) [
          | inl there ↦ absurd (changes.apart p e off (sym (changes.updates.others p off) ∙ at_p)
              (alike ∙ ap (λ x. x.serial)
              (changed_here old new place entry changes d (ap (get new) (sym there) ∙ at_q))))
          | inr far ↦ apart p q e d (sym (changes.updates.others p off) ∙ at_p)
              (sym (changes.updates.others q far) ∙ at_q) alike
        ]
      ]

  -- the map after a change
  pub changed_jobs : (old new : Slab (Entry J)) (place : ℕ) (entry : Entry J)
      → Changes old new place entry → AreApart old
      → jobs_of new ≡ insert (jobs_of old) entry.serial (job_at place entry)
  changed_jobs old new place entry changes apart =
      same_jobs new (jobs_of new) (insert (jobs_of old) entry.serial (job_at place entry))
      (tabled new (changed_apart old new place entry changes apart))
      (changed_tabled old new (jobs_of old) place entry changes (tabled old apart))

  -- The queue follows the change.
  pub record Follows (old new : Chain) (place : ℕ) (entry : Entry J) : Type 0 where
    pub others : (other : ℕ) → other ≢ place → is_in other new.places ≡ is_in other old.places
    pub here : is_in place new.places ≡ is_queued entry.standing
    pub held : is_some entry.value ≡ not (is_running entry.standing)
    pub room : new.room ≡ old.room
    pub within : place < new.room
    pub once : IsOnce new.places

  pub changed_table : (old new : Slab (Entry J)) (chain next : Chain) (place : ℕ) (entry : Entry J)
      → Changes old new place entry → Follows chain next place entry → IsTable old chain
      → IsTable new next
  changed_table old new chain next place entry changes follows table =
      record {
        apart = changed_apart old new place entry changes table.apart;
        queued = λ q e found. elim (cases_eq q place) [
          | inl same ↦
              let is =
              changed_here old new place entry changes e (ap (get new) (sym same) ∙ found) in
              ap (λ n. is_in n next.places) same ∙ follows.here
              ∙ ap (λ x. is_queued x.standing) (sym is)
          | inr differs ↦ follows.others q differs
              ∙ table.queued q e (sym (changes.updates.others q differs) ∙ found)
        ];
        occupied = λ q found. elim (cases_eq q place) [
          | inl same ↦ some_is (get new q) entry (ap (get new) same ∙ changes.updates.changed)
          | inr differs ↦ subst IsSome (sym (changes.updates.others q differs))
              (table.occupied q (sym (follows.others q differs) ∙ found))
        ];
        held = λ q e found. elim (cases_eq q place) [
          | inl same ↦
              let is =
              changed_here old new place entry changes e (ap (get new) (sym same) ∙ found) in
              subst (λ x. is_some x.value ≡ not (is_running x.standing)) (sym is) follows.held
          | inr differs ↦ table.held q e (sym (changes.updates.others q differs) ∙ found)
        ];
        once = follows.once;
        roomy = λ q e found. elim (cases_eq q place) [
          | inl same ↦ subst (λ n. n < next.room) (sym same) follows.within
          | inr differs ↦ omega (
            arith,
            follows.room,
            table.roomy q e (sym (changes.updates.others q differs) ∙ found),
          )
        ];
      }

  -- the serials of places whose entries keep their serials
  pub same_serials : (old new : Slab (Entry J)) (places : List ℕ)
      → ((q : ℕ) → is_in q places ≡ true → serial_or_zero (get new q) ≡ serial_or_zero (get old q))
      → map (λ q. serial_or_zero (get new q)) places ≡ map (λ q. serial_or_zero (get old q)) places
  same_serials old new [] same = refl
  same_serials old new (p ∷ places) same =
      let here = same p (is_in-first p places) in
      let rest = same_serials old new places
      (λ q found. same q (or_right (eqb q p) (is_in q places) found)) in
      (cc)

  -- One place is vacant now, and it was not queued.
  pub removed_apart : (old new : Slab (Entry J)) (place : ℕ) → Updates old new place None
      → AreApart old → AreApart new
  removed_apart old new place updates apart p q e d at_p at_q alike =
      let off : (n : ℕ) (x : Entry J) → get new n ≡ Some x → n ≢ place = λ n x found same.
      absurd (let gone = updates.changed in let is = ap (get new) (sym same) ∙ found in cc) in
      apart p q e d (sym (updates.others p (off p e at_p)) ∙ at_p)
      (sym (updates.others q (off q d at_q)) ∙ at_q) alike

  pub removed_jobs : (old new : Slab (Entry J)) (place : ℕ) (entry : Entry J)
      → get old place ≡ Some entry → Updates old new place None → AreApart old
      → jobs_of new ≡ remove (jobs_of old) entry.serial
  removed_jobs old new place entry was updates apart =
      same_jobs new (jobs_of new) (remove (jobs_of old) entry.serial)
      (tabled new (removed_apart old new place updates apart)) kept
    where
      before : Tabled old (jobs_of old)
      before = tabled old apart

      off : (n : ℕ) (x : Entry J) → get new n ≡ Some x → n ≢ place
      off n x found same =
          absurd (let gone = updates.changed in let is = ap (get new) (sym same) ∙ found in cc)

      kept : Tabled new (remove (jobs_of old) entry.serial)
      kept =
          record {
            here = λ q e found.
                let differs = off q e found in
                let there = sym (updates.others q differs) ∙ found in
                at_remove_other (jobs_of old)
                entry.serial e.serial (λ alike. differs (apart q place e entry there was alike))
                ∙ before.here q e there;
            there = λ s job found. elim (cases_eq s entry.serial) [
              | inl same ↦ absurd (let gone = ap (at (remove (jobs_of old) entry.serial)) same
                  ∙ at_remove_same (jobs_of old) entry.serial in cc)
              | inr differs ↦
                  let from = before.there s job
                  (sym (at_remove_other (jobs_of old) entry.serial s differs) ∙ found) in
                  let other : from.place ≢ place = λ e. differs (sym from.serial_is
                  ∙ ap (λ x. x.serial) (let is = ap (get old) (sym e) ∙ from.is_at in
                  let same : from.entry ≡ entry = cc in same)) in
                  record {
                    place = from.place;
                    entry = from.entry;
                    is_at = updates.others from.place
                        other ∙ from.is_at;
                    serial_is = from.serial_is;
                    job_is = from.job_is;
                  }
            ];
          }

  pub removed_table : (old new : Slab (Entry J)) (chain : Chain) (place : ℕ)
      → Updates old new place None → is_in place chain.places ≡ false → IsTable old chain
      → IsTable new chain
  removed_table old new chain place updates unqueued table =
      record {
        apart = removed_apart old new place updates table.apart;
        queued = λ q e found. table.queued q e (was q e found);
        occupied = λ q found. elim (cases_eq q place) [
          | inl same ↦ absurd (let never = ap (λ n. is_in n chain.places) same ∙ unqueued in
              false≢true (sym never ∙ found))
          | inr differs ↦ subst IsSome (sym (updates.others q differs)) (table.occupied q found)
        ];
        held = λ q e found. table.held q e (was q e found);
        once = table.once;
        roomy = λ q e found. table.roomy q e (was q e found);
      }
    where
      was : (q : ℕ) (e : Entry J) → get new q ≡ Some e → get old q ≡ Some e
      was q e found =
          let differs : q ≢ place = λ same. absurd (let gone = updates.changed in
          let is = ap (get new) (sym same) ∙ found in cc) in
          sym (updates.others q differs) ∙ found

  -- a place with no entry isn't queued
  pub vacant_unqueued : (slab : Slab (Entry J)) (chain : Chain) (place : ℕ) → IsTable slab chain
      → get slab place ≡ None → is_in place chain.places ≡ false
  vacant_unqueued slab chain place table vacant = by_test (is_in place chain.places) refl
    where
      by_test : (b : Bool) → is_in place chain.places ≡ b → is_in place chain.places ≡ false
      by_test false is = is
      by_test true is = absurd (false≢true (subst IsSome vacant (table.occupied place is)))

  -- a serial that no job has is no entry's
  fresh_serial : (slab : Slab (Entry J)) (serial : ℕ) → AreApart slab
      → at (jobs_of slab) serial ≡ None → (other : ℕ) (was : Entry J) → get slab other ≡ Some was
      → was.serial ≢ serial
  fresh_serial slab serial apart fresh other was found same =
      absurd (let there = (tabled slab apart).here other was found in
      let none = ap (at (jobs_of slab)) same ∙ fresh in cc)

  -- a new entry at the queue's end
  pub record Inserts (old new : Slab (Entry J)) (chain next : Chain) (place serial client : ℕ)
      (value : J) : Type 0 where
    pub table : IsTable new next
    pub queue : serials_at new next.places ≡ serials_at old chain.places ++ serial ∷ []
    pub jobs : jobs_of new ≡ insert (jobs_of old) serial (new_job place client value)

  pub inserts : (old new : Slab (Entry J)) (chain next : Chain) (place serial client : ℕ)
      (value : J) → IsTable old chain
      → get old place ≡ None → at (jobs_of old) serial ≡ None → place < chain.room
      → Updates old new place (Some (record {
        serial = serial;
        client = client;
        standing = Queued;
        woken = false;
        cancelled = false;
        value = Some value;
      }))
      → next ≡ record chain { places = chain.places ++ place ∷ [] }
      → Inserts old new chain next place serial client value
  inserts old new chain next place serial client value table vacant fresh roomy updates pushed =
      record {
        table = subst (IsTable new) (sym pushed)
            (changed_table old new chain longer place entry changes follows table);
        queue = ap (λ row. map (λ q. serial_or_zero (get new q)) row.places) pushed
            ∙ map_push (λ q. serial_or_zero (get new q)) chain.places place
            ∙ same_ends (same_serials old new chain.places
            (λ q found. ap serial_or_zero (updates.others q (λ same. both q same found))))
            (ap serial_or_zero updates.changed);
        jobs = changed_jobs old new place entry changes table.apart;
      }
    where
      entry : Entry J
      entry = record {
        serial = serial;
        client = client;
        standing = Queued;
        woken = false;
        cancelled = false;
        value = Some value;
      }

      longer : Chain
      longer = record chain { places = chain.places ++ place ∷ [] }

      unqueued : is_in place chain.places ≡ false
      unqueued = vacant_unqueued old chain place table vacant

      both : (q : ℕ) → q ≡ place → is_in q chain.places ≡ true → ⊥
      both q same found =
          false≢true (sym unqueued ∙ ap (λ n. is_in n chain.places) (sym same) ∙ found)

      changes : Changes old new place entry
      changes =
          record {
            updates = updates;
            same = λ was found. absurd (cc);
            apart = λ other was differs found.
                fresh_serial old serial table.apart fresh other was found;
          }

      follows : Follows chain longer place entry
      follows =
          record {
            others = λ other differs. is_in-push other place chain.places differs;
            here = is_in-last place place chain.places refl;
            held = refl;
            room = refl;
            within = roomy;
            once = IsOnce-push chain.places place table.once unqueued;
          }

  -- the entry of a job in the hands of a worker
  abbrev pub taken_by : Entry J → Entry J
  taken_by entry = record entry { standing = Running; woken = false; value = None }

  -- a queued entry is taken
  pub record Takes (old new : Slab (Entry J)) (chain next : Chain) (place : ℕ) (entry : Entry J) :
      Type 0 where
    pub table : IsTable new next
    pub rest : serials_at new next.places ≡ without entry.serial (serials_at old chain.places)
    pub jobs : jobs_of new ≡ insert (jobs_of old) entry.serial (job_at place (taken_by entry))

  -- a queued entry has its value
  pub queued_held : (slab : Slab (Entry J)) (chain : Chain) (place : ℕ) (entry : Entry J)
      → IsTable slab chain → is_in place chain.places ≡ true → get slab place ≡ Some entry
      → entry.value ≡ None → ⊥
  queued_held slab chain place entry table queued found none =
      let stands = queued_is entry.standing (sym (table.queued place entry found) ∙ queued) in
      false≢true (sym (ap is_some none) ∙ table.held place entry found
      ∙ ap (λ s. not (is_running s)) stands)

  -- each value is there exactly while its job isn't running
  pub valued : (slab : Slab (Entry J)) (chain : Chain) → IsTable slab chain
      → HaveValues (jobs_of slab)
  valued slab chain table serial job found =
      let from = from_there slab (jobs_of slab) serial job (tabled slab table.apart) found in
      subst (λ j. is_some j.value ≡ not (is_running j.standing)) (sym from.3)
      (table.held job.place from.0 from.1)

  -- the serials of a row without a place are those of the row without its serial
  serials_without : (slab : Slab (Entry J)) (chain : Chain) (place : ℕ) (entry : Entry J)
      → IsTable slab chain → get slab place ≡ Some entry
      → without entry.serial (serials_at slab chain.places)
      ≡ serials_at slab (without place chain.places)
  serials_without slab chain place entry table found =
      filter-map (λ serial. not (eqb entry.serial serial)) (λ q. not (eqb place q))
      (λ q. serial_or_zero (get slab q)) chain.places
      (λ q within.
      let there = some_of (get slab q) (table.occupied q within) in
      by_eq place q (λ b. not (eqb entry.serial (serial_or_zero (get slab q))) ≡ not b)
      (λ same. ap not (eq-eqb _ _ (sym (ap serial_or_zero (ap (get slab) (sym same) ∙ found)))))
      (λ differs. ap not (ne_eqb _ _ (λ alike. differs (table.apart place q entry there.0 found
      there.1 (alike ∙ ap serial_or_zero there.1))))))

  pub takes : (old : Slab (Entry J)) (chain next : Chain) (place : ℕ) (entry : Entry J)
      → IsTable old chain → is_in place chain.places ≡ true
      → get old place ≡ Some entry → next ≡ record chain { places = without place chain.places }
      → Takes old (with_value old place (taken_by entry)) chain next place entry
  takes old chain next place entry table queued found unlinked =
      record {
        table = subst (IsTable new) (sym unlinked)
            (changed_table old new chain shorter place taken changes follows table);
        rest = ap (λ row. serials_at new row.places) unlinked ∙ rest_same
            ∙ sym (serials_without old chain place entry table found);
        jobs = changed_jobs old new place taken changes table.apart;
      }
    where
      taken : Entry J
      taken = record entry { standing = Running; woken = false; value = None }

      new : Slab (Entry J)
      new = with_value old place taken

      shorter : Chain
      shorter = record chain { places = without place chain.places }

      updates : Updates old new place (Some taken)
      updates = Updates-with_value old place taken (some_is (get old place) entry found)

      changes : Changes old new place taken
      changes =
          record {
            updates = updates;
            same = λ was is. let e : was ≡ entry = cc in ap (λ x. x.serial) e;
            apart = λ other was differs is alike.
                differs (table.apart other place was entry is found alike);
          }

      follows : Follows chain shorter place taken
      follows =
          record {
            others = λ other differs. is_in-without other place chain.places differs;
            here = is_in-without_itself place chain.places;
            held = refl;
            room = refl;
            within = table.roomy place entry found;
            once = IsOnce-without place chain.places table.once;
          }

      rest_same : serials_at new (without place chain.places)
          ≡ serials_at old (without place chain.places)
      rest_same =
          same_serials old new (without place chain.places)
          (λ q is. ap serial_or_zero
          (updates.others q (λ same. false≢true (sym (is_in-without_itself place chain.places)
          ∙ ap (λ n. is_in n (without place chain.places)) (sym same) ∙ is))))

  -- the job of a number, by the entry at its place
  pub job_here : (slab : Slab (Entry J)) (number : JobNumber) (entry : Entry J)
      → AreApart slab → get slab number.place ≡ Some entry → entry.serial ≡ number.serial
      → job_of (jobs_of slab) number ≡ Some (job_at number.place entry)
  job_here slab number entry apart found same =
      ap (if_at number.place)
      (ap (at (jobs_of slab)) (sym same) ∙ (tabled slab apart).here number.place entry found)
      ∙ ap (λ b. cond b (Some (job_at number.place entry)) None)
      (eq-eqb number.place number.place refl)

  pub job_nowhere : (slab : Slab (Entry J)) (number : JobNumber) → AreApart slab
      → ((entry : Entry J) → get slab number.place ≡ Some entry → entry.serial ≢ number.serial)
      → job_of (jobs_of slab) number ≡ None
  job_nowhere slab number apart never = by_job (at (jobs_of slab) number.serial) refl
    where
      by_job : (found : Option (Job J)) → at (jobs_of slab) number.serial ≡ found
          → if_at number.place found ≡ None
      by_job None is = refl
      by_job (Some job) is =
          by_eq job.place number.place (λ b. cond b (Some job) None ≡ None)
          (λ same. let from = from_there slab (jobs_of slab) number.serial job (tabled slab apart)
          is in absurd (never from.0 (ap (get slab) (sym same) ∙ from.1) from.2))
          (λ differs. refl)

  -- the entry of a job
  pub record IsEntryOf (slab : Slab (Entry J)) (number : JobNumber) (job : Job J) : Type 0 where
    pub entry : Entry J
    pub is_at : get slab number.place ≡ Some entry
    pub serial_is : entry.serial ≡ number.serial
    pub job_is : job ≡ job_at number.place entry

  pub entry_of : (slab : Slab (Entry J)) (number : JobNumber) (job : Job J) → AreApart slab
      → job_of (jobs_of slab) number ≡ Some job → IsEntryOf slab number job
  entry_of slab number job apart is = by_job (at (jobs_of slab) number.serial) refl is
    where
      by_job : (found : Option (Job J)) → at (jobs_of slab) number.serial ≡ found
          → if_at number.place found ≡ Some job → IsEntryOf slab number job
      by_job None there none = absurd (let e : None ≡ Some job = none in cc)
      by_job (Some other) there here =
          by_eq other.place number.place (λ b. cond b (Some other) None ≡ Some job
          → IsEntryOf slab number job)
          (λ same some.
          let from = from_there slab (jobs_of slab) number.serial other (tabled slab apart) there in
          let one : other ≡ job = let e : Some other ≡ Some job = some in cc in
          record {
            entry = from.0;
            is_at = ap (get slab) (sym same) ∙ from.1;
            serial_is = from.2;
            job_is = sym one ∙ from.3 ∙ ap (λ n. job_at n from.0) same;
          })
          (λ differs none. absurd (let e : None ≡ Some job = none in cc)) here

  pub amend_found : (jobs : Jobs J) (serial : ℕ) (change : Job J → Job J) (job : Job J)
      → at jobs serial ≡ Some job → amend jobs serial change ≡ insert jobs serial (change job)
  amend_found jobs serial change job found = ap (jobs_after_change jobs serial change) found

  -- a running job leaves
  pub record Removes (old new : Slab (Entry J)) (chain : Chain) (serial : ℕ) : Type 0 where
    pub table : IsTable new chain
    pub queue : serials_at new chain.places ≡ serials_at old chain.places
    pub jobs : jobs_of new ≡ remove (jobs_of old) serial

  pub removes : (old new : Slab (Entry J)) (chain : Chain) (number : JobNumber) → IsTable old chain
      → is_running_as (jobs_of old) number ≡ true → Updates old new number.place None
      → Removes old new chain number.serial
  removes old new chain number table runs updates =
      record {
        table = removed_table old new chain number.place updates unqueued table;
        queue = same_serials
            old new chain.places (λ q found. ap serial_or_zero (updates.others q (λ same.
            false≢true (sym unqueued ∙ ap (λ n. is_in n chain.places) (sym same) ∙ found))));
        jobs = removed_jobs old new number.place here.entry here.is_at updates table.apart
            ∙ ap (remove (jobs_of old)) here.serial_is;
      }
    where
      job : (job : Job J) × (job_of (jobs_of old) number ≡ Some job) × (job.standing ≡ Running)
      job = running_job (job_of (jobs_of old) number) runs

      here : IsEntryOf old number job.0
      here = entry_of old number job.0 table.apart job.1

      unqueued : is_in number.place chain.places ≡ false
      unqueued = table.queued number.place here.entry here.is_at
          ∙ ap is_queued (ap (λ j. j.standing) (sym here.job_is) ∙ job.2)
