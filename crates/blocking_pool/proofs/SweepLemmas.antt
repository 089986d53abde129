-- Sweeps: what is gathered of the parked jobs, the order in which it is put back, and what that
-- makes of the table.
use Rattle.std.proofs.Common.{◌≡◌, ◌≢◌, ◌<◌, ◌≤◌, ℕ, zero, suc, arith, Bool, true, false, cond, eqb}
use Rattle.std.proofs.Common.{◌||◌, ◌&&◌, List, [], ◌∷◌, ◌++◌, length, filter, map, take, get_or}
use Rattle.std.proofs.Common.{Option, Some, None, option_map, refl, sym, ap, ◌∙◌, subst, inl, inr}
use Rattle.std.proofs.lemmas.Bool.{eq-eqb, ne_eqb, cases_eq, or_left, or_right, or_from, or_parts}
use Rattle.std.proofs.lemmas.Bool.{and_parts, eqb-false, cases_lt, false≢true}
use Rattle.std.proofs.lemmas.List.{append-nil, append_assoc, length-append, map_push}
use Rattle.std.proofs.lemmas.List.Elements.{filter-append, All-cons, All-nil, All-get_or}
use Rattle.std.proofs.lemmas.List.Sorted.{All-permutation, IsPermutation-map}
use Rattle.std.proofs.lemmas.List.Sorted.{list_any-IsPermutation}
use Rattle.std.proofs.lemmas.Map.Keys.{IsDistinct-IsPermutation}
use Rattle.std.specs.FinMap.{get as at, insert}
use Rattle.std.specs.List.{All, AllByRecursion, IsDistinct}
use Rattle.std.specs.List.Sorted.{IsPermutation, IsNonDecreasingBy}
use Rattle.slab.specs.Slab.{Slab, get}
use Rattle.blocking_pool.specs.Batch.{serials_of, IsRising}
use Rattle.blocking_pool.specs.Chain.{Chain}
use Rattle.blocking_pool.specs.Clients.{tally_at}
use Rattle.blocking_pool.specs.Lists.{is_in, IsOnce, first_of, rest_after}
use Rattle.blocking_pool.specs.Ready.{client_of}
use Rattle.blocking_pool.specs.Jobs.{Job, Jobs, JobNumber, is_parked, is_parked_job, if_at, job_of}
use Rattle.blocking_pool.specs.Jobs.{standing_of, entry_after_requeue, amend, jobs_after_requeue}
use Rattle.blocking_pool.specs.Sweeps.{is_due, swept, serials_below}
use Rattle.blocking_pool.specs.Tables.{Table, job_at, serial_or_zero, serials_at, is_parked_entry}
use Rattle.blocking_pool.specs.Tables.{HoldsParked, Becomes, client_at, AreCounted, MayEnter}
use Rattle.blocking_pool.specs.Tables.{number_at, IsAskedAt, GathersAt, Gathers, SweepsAll}
use Rattle.blocking_pool.specs.declared.pool.standing.Standing.TheVariants.{Parked}
use Rattle.blocking_pool.specs.declared.pool.table.Entry.{Entry}
use Rattle.blocking_pool.proofs.Lists.{by_eq, is_in-append, is_in-first, is_in-last, is_in-push}
use Rattle.blocking_pool.proofs.Lists.{filter_same, kept_in, in_kept, IsDistinct-once}
use Rattle.blocking_pool.proofs.Lists.{length-le_below, turned}
use Rattle.blocking_pool.proofs.Standings.{parked_is, parked_job, standing_job}
use Rattle.blocking_pool.proofs.TableLemmas.{jobs_of, AreApart, tabled, from_there, job_here}
use Rattle.blocking_pool.proofs.TableLemmas.{at_insert_same, at_insert_other, amend_found}

absent_in : (x : ℕ) (xs : List ℕ) → (is_in x xs ≡ true → ⊥) → is_in x xs ≡ false
absent_in x xs never = by_test (is_in x xs) refl
  where
    by_test : (b : Bool) → is_in x xs ≡ b → is_in x xs ≡ false
    by_test false is = is
    by_test true is = absurd (never is)

pub once_kept : (p : ℕ → Bool) (xs : List ℕ) → IsOnce xs → IsOnce (filter p xs)
once_kept p [] once = tt
once_kept p (x ∷ xs) once = by_test (p x) (once_kept p xs once.1)
  where
    by_test : (b : Bool) → IsOnce (filter p xs) → IsOnce (cond b (x ∷ filter p xs) (filter p xs))
    by_test true rest =
        (absent_in x (filter p xs) (λ is. false≢true (sym once.0 ∙ (kept_in p x xs is).0)), rest)
    by_test false rest = rest

-- two tests that follow from one another are one
same_test : (a b : Bool) → (a ≡ true → b ≡ true) → (b ≡ true → a ≡ true) → a ≡ b
same_test true b there back = sym (there refl)
same_test false false there back = refl
same_test false true there back = back refl

both_true : (a b : Bool) → a ≡ true → b ≡ true → (a && b) ≡ true
both_true a b is are = ap (λ x. x && b) is ∙ are

-- Rising numbers.

rising_kept : (p : ℕ → Bool) (xs : List ℕ) → IsRising xs → IsRising (filter p xs)
rising_kept p [] rising = tt
rising_kept p (x ∷ xs) rising = by_test (p x) (rising_kept p xs rising.1)
  where
    by_test : (b : Bool) → IsRising (filter p xs)
        → IsRising (cond b (x ∷ filter p xs) (filter p xs))
    by_test true rest = (λ other found. rising.0 other (kept_in p other xs found).0, rest)
    by_test false rest = rest

rising_push : (xs : List ℕ) (y : ℕ) → ((x : ℕ) → is_in x xs ≡ true → x < y) → IsRising xs
    → IsRising (xs ++ y ∷ [])
rising_push [] y below rising = (λ other found. absurd (false≢true found), tt)
rising_push (x ∷ xs) y below rising = (
  λ other found. elim (cases_eq other y) [
    | inl same ↦ subst (λ n. x < n) (sym same) (below x (is_in-first x xs))
    | inr far ↦ rising.0 other (sym (is_in-push other y xs far) ∙ found)
  ],
  rising_push xs y (λ n found. below n (or_right (eqb n x) (is_in n xs) found)) rising.1,
)

-- the serials below one are below it
below : (s next : ℕ) → is_in s (serials_below next) ≡ true → s < next
below s zero found = absurd (false≢true found)
below s (suc next) found =
    elim (cases_eq s next) [
      | inl same ↦ omega (arith, same)
      | inr far ↦
          let rest = sym (is_in-push s next (serials_below next) far) ∙ found in
          omega (arith, below s next rest)
    ]

-- each serial below one stands among them
pub stands_below : (s next : ℕ) → s < next → is_in s (serials_below next) ≡ true
stands_below s zero is = absurd (omega arith)
stands_below s (suc next) is =
    elim (cases_eq s next) [
      | inl same ↦ is_in-last s next (serials_below next) same
      | inr far ↦ is_in-push s next (serials_below next) far
          ∙ stands_below s next (omega (arith, far))
    ]

rising_below : (next : ℕ) → IsRising (serials_below next)
rising_below zero = tt
rising_below (suc next) =
    rising_push (serials_below next) next (λ x found. below x next found) (rising_below next)

-- numbers that rise are there once
pub once_rising : (xs : List ℕ) → IsRising xs → IsOnce xs
once_rising [] rising = tt
once_rising (x ∷ xs) rising =
    (absent_in x xs (λ is. absurd (omega (arith, rising.0 x is))), once_rising xs rising.1)

-- two lists that rise and have the same numbers are one
same_rising : (xs ys : List ℕ) → IsRising xs → IsRising ys → ((n : ℕ) → is_in n xs ≡ is_in n ys)
    → xs ≡ ys
same_rising [] [] up rise same = refl
same_rising [] (y ∷ ys) up rise same = absurd (false≢true (same y ∙ is_in-first y ys))
same_rising (x ∷ xs) [] up rise same = absurd (false≢true (sym (same x) ∙ is_in-first x xs))
same_rising (x ∷ xs) (y ∷ ys) up rise same =
    let one : x ≡ y = heads in
    ap (λ n. n ∷ xs) one ∙ ap (λ ns. y ∷ ns) (same_rising xs ys up.1 rise.1 (tails one))
  where
    heads : x ≡ y
    heads =
        elim (cases_eq x y) [
          | inl e ↦ e
          | inr far ↦
              let more : x < y =
              up.0 y (sym (ap (λ b. b || is_in y xs) (ne_eqb y x (λ e. far (sym e)))) ∙ same y
              ∙ is_in-first y ys) in
              let less : y < x = rise.0 x (sym (ap (λ b. b || is_in x ys) (ne_eqb x y far))
              ∙ sym (same x) ∙ is_in-first x xs) in
              absurd (omega (arith, more, less))
        ]

    tails : x ≡ y → (n : ℕ) → is_in n xs ≡ is_in n ys
    tails one n =
        elim (cases_eq n x) [
          | inl here ↦ absent_in n xs (λ is. absurd (omega (arith, here, up.0 n is)))
              ∙ sym (absent_in n ys (λ is. absurd (omega (arith, here, one, rise.0 n is))))
          | inr far ↦ sym (ap (λ b. b || is_in n xs) (ne_eqb n x far)) ∙ same n
              ∙ ap (λ b. b || is_in n ys) (ne_eqb n y (λ e. far (e ∙ sym one)))
        ]

-- The places that a sweep goes through.

-- the first of what comes after one has after it what is left
rest_again : (x y : ℕ) (xs ys : List ℕ) → IsOnce xs → rest_after x xs ≡ y ∷ ys
    → rest_after y xs ≡ ys
rest_again x y [] ys once is = absurd (cc)
rest_again x y (z ∷ xs) ys once is =
    by_eq x z (λ b. cond b xs (rest_after x xs) ≡ y ∷ ys → cond (eqb y z) xs (rest_after y xs) ≡ ys)
    (λ same here.
    let far : eqb y z ≡ false = apart z y xs once.0 (ap (is_in y) here ∙ is_in-first y ys) in
    ap (λ b. cond b xs (rest_after y xs)) far ∙ ap (rest_after y) here
    ∙ ap (λ b. cond b ys (rest_after y ys)) (eq-eqb y y refl))
    (λ differs there.
    let far : eqb y z ≡ false =
    apart z y xs once.0 (among_rest x y xs (ap (is_in y) there ∙ is_in-first y ys)) in
    ap (λ b. cond b xs (rest_after y xs)) far ∙ rest_again x y xs ys once.1 there) is
  where
    apart : (z y : ℕ) (xs : List ℕ) → is_in z xs ≡ false → is_in y xs ≡ true → eqb y z ≡ false
    apart z y xs fresh found =
        ne_eqb y z (λ e. false≢true (sym fresh ∙ ap (λ n. is_in n xs) (sym e) ∙ found))

    -- what comes after a place stands in the same row
    among_rest : (place q : ℕ) (places : List ℕ) → is_in q (rest_after place places) ≡ true
        → is_in q places ≡ true
    among_rest place q [] found = found
    among_rest place q (p ∷ places) found =
        by_eq place p (λ b. is_in q (cond b places (rest_after place places)) ≡ true
        → is_in q (p ∷ places) ≡ true)
        (λ same f. or_right (eqb q p) (is_in q places) f)
        (λ differs f. or_right (eqb q p) (is_in q places) (among_rest place q places f)) found

-- the places from one on, in a row
abbrev pub from_on : Option ℕ → List ℕ → List ℕ
from_on None places = []
from_on (Some place) places = place ∷ rest_after place places

pub from_first : (places : List ℕ) → from_on (first_of places) places ≡ places
from_first [] = refl
from_first (place ∷ places) =
    ap (λ b. place ∷ cond b places (rest_after place places)) (eq-eqb place place refl)

pub from_next : (place : ℕ) (all rest : List ℕ) → IsOnce all → rest_after place all ≡ rest
    → from_on (first_of rest) all ≡ rest
from_next place all [] once is = refl
from_next place all (q ∷ rest) once is = ap (λ qs. q ∷ qs) (rest_again place q all rest once is)

-- the place stands in what is split before it
pub in_middle : (place : ℕ) (done rest : List ℕ) → is_in place (done ++ place ∷ rest) ≡ true
in_middle place done rest = is_in-append place done (place ∷ rest)
    ∙ or_right (is_in place done) (is_in place (place ∷ rest)) (is_in-first place rest)

-- what stands before a place isn't the place
pub not_before : (place : ℕ) (done rest : List ℕ) → IsOnce (done ++ place ∷ rest)
    → is_in place done ≡ false
not_before place [] rest once = refl
not_before place (p ∷ done) rest once =
    by_eq place p (λ b. (b || is_in place done) ≡ false)
    (λ same. absurd (false≢true (sym once.0 ∙ ap (λ n. is_in n (done ++ place ∷ rest)) (sym same)
    ∙ in_middle place done rest)))
    (λ differs. not_before place done rest once.1)

pub shorter : (p : ℕ → Bool) (xs : List ℕ) → length (filter p xs) ≤ length xs
shorter p [] = omega arith
shorter p (x ∷ xs) = by_test (p x) (shorter p xs)
  where
    by_test : (b : Bool) → length (filter p xs) ≤ length xs
        → length (cond b (x ∷ filter p xs) (filter p xs)) ≤ suc (length xs)
    by_test true less = omega (arith, less)
    by_test false less = omega (arith, less)

-- The order of the serials.

-- what was told apart stands once
once_distinct : (xs : List ℕ) → IsDistinct eqb xs → IsOnce xs
unfolding IsDistinct
once_distinct [] apart = tt
once_distinct (x ∷ xs) apart = (absent x xs apart.0, once_distinct xs apart.1)
  where
    absent : (x : ℕ) (xs : List ℕ) → AllByRecursion (λ y. eqb x y ≡ false) xs → is_in x xs ≡ false
    absent x [] all = refl
    absent x (y ∷ xs) all = or_from _ _ all.0 (absent x xs all.1)

once_permuted : (xs ys : List ℕ) → IsPermutation xs ys → IsOnce xs → IsOnce ys
once_permuted xs ys moved once =
    once_distinct ys (IsDistinct-IsPermutation eqb turned xs ys moved (IsDistinct-once xs once))

sorted_rest : (x : JobNumber) (xs : List JobNumber) → IsNonDecreasingBy (λ no. no.serial) (x ∷ xs)
    → IsNonDecreasingBy (λ no. no.serial) xs
sorted_rest x xs sorted i j d le lt =
    sorted (suc i) (suc j) d (omega (arith, le)) (omega (arith, lt))

-- the first of numbers that don't fall is the least
least : (x : JobNumber) (xs : List JobNumber) (s : ℕ) → IsNonDecreasingBy (λ no. no.serial) (x ∷ xs)
    → is_in s (serials_of xs) ≡ true → x.serial ≤ s
least x [] s sorted found = absurd (false≢true found)
least x (y ∷ xs) s sorted found =
    let next : x.serial ≤ y.serial = sorted 0 1 x (omega arith) (omega arith) in
    by_eq s y.serial (λ b. (b || is_in s (serials_of xs)) ≡ true → x.serial ≤ s)
    (λ same f. omega (arith, same, next))
    (λ far f. omega (arith, next, least y xs s (sorted_rest x (y ∷ xs) sorted) f)) found

-- serials that don't fall, and stand once, rise
pub sorted_rising : (numbers : List JobNumber) → IsNonDecreasingBy (λ no. no.serial) numbers
    → IsOnce (serials_of numbers) → IsRising (serials_of numbers)
sorted_rising [] sorted once = tt
sorted_rising (x ∷ xs) sorted once = (
  λ s found. elim (cases_eq x.serial s) [
    | inl same ↦ absurd (false≢true (sym once.0 ∙ ap (λ n. is_in n (serials_of xs)) same ∙ found))
    | inr far ↦ omega (arith, far, least x xs s sorted found)
  ],
  sorted_rising xs (sorted_rest x xs sorted) once.1,
)

-- a number stands among the numbers, and not among those before it
serial_there : (xs : List JobNumber) (i : ℕ) (d : JobNumber) → i < length xs
    → is_in (get_or xs i d).serial (serials_of xs) ≡ true
serial_there [] i d is = absurd (omega (arith, is))
serial_there (x ∷ xs) zero d is = is_in-first x.serial (serials_of xs)
serial_there (x ∷ xs) (suc i) d is = or_right (eqb (get_or xs i d).serial x.serial)
    (is_in (get_or xs i d).serial (serials_of xs)) (serial_there xs i d (omega (arith, is)))

pub not_taken : (xs : List JobNumber) (i : ℕ) (d : JobNumber) → i < length xs
    → IsOnce (serials_of xs) → is_in (get_or xs i d).serial (serials_of (take i xs)) ≡ false
not_taken [] i d is once = absurd (omega (arith, is))
not_taken (x ∷ xs) zero d is once = refl
not_taken (x ∷ xs) (suc i) d is once =
    or_from _ _
    (ne_eqb (get_or xs i d).serial x.serial (λ same. false≢true (sym once.0 ∙ ap
    (λ n. is_in n (serials_of xs)) (sym same) ∙ serial_there xs i d (omega (arith, is)))))
    (not_taken xs i d (omega (arith, is)) once.1)

-- what was told of a place
abbrev pub told : Option JobNumber → List JobNumber
told None = []
told (Some number) = number ∷ []

module _ {J : Type 0} where
  -- what a number finds stands under its serial, at its place
  pub job_of_found : (jobs : Jobs J) (number : JobNumber) (job : Job J) → job_of jobs number
      ≡ Some job → (at jobs number.serial ≡ Some job) × (job.place ≡ number.place)
  job_of_found jobs number job is = by_job (at jobs number.serial) refl is
    where
      by_job : (found : Option (Job J)) → at jobs number.serial ≡ found → if_at number.place found
          ≡ Some job → (at jobs number.serial ≡ Some job) × (job.place ≡ number.place)
      by_job None there none = absurd (let e : None ≡ Some job = none in cc)
      by_job (Some other) there here =
          by_eq other.place number.place (λ b. cond b (Some other) None ≡ Some job
          → (at jobs number.serial ≡ Some job) × (job.place ≡ number.place))
          (λ same some. (
            there ∙ some,
            let one : other ≡ job = let e : Some other
                ≡ Some job = some in cc in ap (λ j. j.place) (sym one) ∙ same,
          ))
          (λ differs none. absurd (let e : None ≡ Some job = none in cc)) here

  pub job_of_amend : (jobs : Jobs J) (number : JobNumber) (job : Job J) (change : Job J → Job J)
      → ((j : Job J) → (change j).place ≡ j.place) → job_of jobs number ≡ Some job
      → job_of (amend jobs number.serial change) number ≡ Some (change job)
  job_of_amend jobs number job change same is =
      let found = job_of_found jobs number job is in
      ap (λ js. job_of js number) (amend_found jobs number.serial change job found.0)
      ∙ ap (if_at number.place) (at_insert_same jobs number.serial (change job))
      ∙ ap (λ b. cond b (Some (change job)) None)
      (eq-eqb (change job).place number.place (same job ∙ found.1))

  pub at_changed : (jobs : Jobs J) (serial other : ℕ) (change : Job J → Job J) → other ≢ serial
      → at (amend jobs serial change) other ≡ at jobs other
  at_changed jobs serial other change differs = by_job (at jobs serial) refl
    where
      by_job : (found : Option (Job J)) → at jobs serial ≡ found
          → at (amend jobs serial change) other ≡ at jobs other
      by_job None there = ap (λ js. at js other)
          (ap (λ f. elim f [ None ↦ jobs | Some job ↦ insert jobs serial (change job) ]) there)
      by_job (Some job) there = ap (λ js. at js other) (amend_found jobs serial change job there)
          ∙ at_insert_other jobs serial (change job) other differs

  -- Gathering.

  -- one more place is asked
  gathers_on : (may_answer : J → Bool → Type 0) (slab : Slab (Entry J)) (done : List ℕ)
      (numbers : List JobNumber) (place : ℕ) (found : Option JobNumber) → is_in place done ≡ false
      → GathersAt may_answer slab done numbers
      → IsAskedAt may_answer slab place found
      → GathersAt may_answer slab (done ++ place ∷ []) (numbers ++ told found)
  gathers_on may_answer slab done numbers place found fresh gathered one =
      record {
        marked = marked;
        asked = λ q entry value within there held. elim (cases_eq q place) [
          | inl same ↦ subst (may_answer value)
              (sym (ap (λ b. cond b one.marked (gathered.marked q)) (eq-eqb q place same)))
              (one.asked entry value (ap (get slab) (sym same) ∙ there) held)
          | inr far ↦ subst (may_answer value)
              (sym (ap (λ b. cond b one.marked (gathered.marked q)) (ne_eqb q place far)))
              (gathered.asked q entry value (sym (is_in-push q place done far) ∙ within) there held)
        ];
        numbers_are =
            ap (λ ns. ns ++ told found) (gathered.numbers_are ∙ ap (map (number_at slab)) before)
            ∙ by_mark one.marked here one.number_is
            ∙ ap (map (number_at slab)) (sym (filter-append marked done (place ∷ [])));
      }
    where
      marked : ℕ → Bool
      marked q = cond (eqb q place) one.marked (gathered.marked q)

      here : marked place ≡ one.marked
      here = ap (λ b. cond b one.marked (gathered.marked place)) (eq-eqb place place refl)

      before : filter gathered.marked done ≡ filter marked done
      before = filter_same gathered.marked marked done (λ q within.
          sym (ap (λ b. cond b one.marked (gathered.marked q)) (ne_eqb q place
          (λ same. false≢true (sym fresh ∙ ap (λ n. is_in n done) (sym same) ∙ within)))))

      by_mark : (b : Bool) → marked place ≡ b → found ≡ cond b (Some (number_at slab place)) None
          → map (number_at slab) (filter marked done) ++ told found
          ≡ map (number_at slab) (filter marked done ++ filter marked (place ∷ []))
      by_mark true is are =
          ap (λ f. map (number_at slab) (filter marked done) ++ told f) are
          ∙ sym (map_push (number_at slab) (filter marked done) place)
          ∙ ap (λ b. map (number_at slab) (filter marked done ++ cond b (place ∷ []) [])) (sym is)
      by_mark false is are =
          ap (λ f. map (number_at slab) (filter marked done) ++ told f) are
          ∙ append-nil (map (number_at slab) (filter marked done))
          ∙ ap (map (number_at slab)) (sym (append-nil (filter marked done)))
          ∙ ap (λ b. map (number_at slab) (filter marked done ++ cond b (place ∷ []) [])) (sym is)

  -- The gathering so far: the places before the next one were asked.
  pub record IsGathering (may_answer : J → Bool → Type 0) (slab : Slab (Entry J)) (chain : Chain)
      (next : Option ℕ) (numbers : List JobNumber) : Type 0 where
    pub done : List ℕ
    pub split : done ++ from_on next chain.places ≡ chain.places
    pub gathered : GathersAt may_answer slab done numbers
    pub fits : length numbers ≤ length done

  pub gathering_begins : (may_answer : J → Bool → Type 0) (slab : Slab (Entry J)) (chain : Chain)
      (next : Option ℕ) (numbers : List JobNumber) → next ≡ first_of chain.places → numbers ≡ []
      → IsGathering may_answer slab chain next numbers
  gathering_begins may_answer slab chain next numbers first none =
      record {
        done = [];
        split = ap (λ n. from_on n chain.places) first ∙ from_first chain.places;
        gathered = record {
          marked = λ q. false;
          asked = λ q entry value within. absurd (false≢true within);
          numbers_are = none;
        };
        fits = omega (arith, ap length none);
      }

  -- the places before the next one, the next, and the rest
  cut_at : (may_answer : J → Bool → Type 0) (slab : Slab (Entry J))
      (chain : Chain) (next : Option ℕ) (numbers : List JobNumber) (place : ℕ) → next ≡ Some place
      → (gathering : IsGathering may_answer slab chain next numbers)
      → gathering.done ++ place ∷ rest_after place chain.places ≡ chain.places
  cut_at may_answer slab chain next numbers place at_it gathering =
      ap (λ n. gathering.done ++ from_on n chain.places) (sym at_it) ∙ gathering.split

  -- each place of the chain is below its room
  places_within : (slab : Slab (Entry J)) (chain : Chain) → HoldsParked slab chain
      → length chain.places ≤ chain.room
  places_within slab chain holds = length-le_below chain.places chain.room holds.once
      (λ q within. by_entry q (get slab q) refl (sym (holds.each q) ∙ within))
    where
      by_entry : (q : ℕ) (found : Option (Entry J)) → get slab q ≡ found
          → is_parked_entry found ≡ true → q < chain.room
      by_entry q None there never = absurd (false≢true never)
      by_entry q (Some entry) there stands = holds.roomy q entry there

  -- one number more has room
  pub gathering_fits : (may_answer : J → Bool → Type 0) (slab : Slab (Entry J)) (chain : Chain)
      (next : Option ℕ) (numbers : List JobNumber) (place first room : ℕ) → HoldsParked slab chain
      → next ≡ Some place
      → IsGathering may_answer slab chain next numbers → chain.room ≤ first → first ≤ room
      → length numbers < room
  gathering_fits may_answer slab chain next numbers place first room holds at_it gathering wide
      kept =
      let long = sym (length-append gathering.done (place ∷ rest_after place chain.places))
      ∙ ap length (cut_at may_answer slab chain next numbers place at_it gathering) in
      omega (arith, gathering.fits, long, places_within slab chain holds, wide, kept)

  -- the gathering goes on behind a place that was asked
  pub gathering_on : (may_answer : J → Bool → Type 0) (slab : Slab (Entry J)) (chain : Chain)
      (next after : Option ℕ) (numbers more : List JobNumber) (place : ℕ) (found : Option JobNumber)
      → HoldsParked slab chain → next ≡ Some place
      → IsGathering may_answer slab chain next numbers → IsAskedAt may_answer slab place found
      → more ≡ numbers ++ told found → after ≡ first_of (rest_after place chain.places)
      → IsGathering may_answer slab chain after more
  gathering_on may_answer slab chain next after numbers more place found holds at_it gathering one
      are comes =
      record {
        done = gathering.done ++ place ∷ [];
        split = ap (λ n. (gathering.done ++ place ∷ []) ++ from_on n chain.places) comes
            ∙ ap (λ ps. (gathering.done ++ place ∷ []) ++ ps)
            (from_next place chain.places (rest_after place chain.places) holds.once refl)
            ∙ append_assoc gathering.done (place ∷ []) (rest_after place chain.places) ∙ cut;
        gathered = subst (GathersAt may_answer slab (gathering.done ++ place ∷ [])) (sym are)
            (gathers_on may_answer slab gathering.done numbers
            place found (not_before place gathering.done (rest_after place chain.places)
            (subst IsOnce (sym cut) holds.once)) gathering.gathered one);
        fits =
            let long = ap length are ∙ length-append numbers (told found) in
            let longer = length-append gathering.done (place ∷ []) in
            omega (arith, long, longer, gathering.fits, at_most_one found);
      }
    where
      cut : gathering.done ++ place ∷ rest_after place chain.places ≡ chain.places
      cut = cut_at may_answer slab chain next numbers place at_it gathering

      at_most_one : (f : Option JobNumber) → length (told f) ≤ 1
      at_most_one None = omega arith
      at_most_one (Some n) = omega arith

  -- what is left gets shorter
  pub gathering_shorter : (slab : Slab (Entry J)) (chain : Chain)
      (next after : Option ℕ) (place : ℕ) → HoldsParked slab chain → next ≡ Some place
      → after ≡ first_of (rest_after place chain.places)
      → length (from_on after chain.places) < length (from_on next chain.places)
  gathering_shorter slab chain next after place holds at_it comes =
      let left = ap length (ap (λ n. from_on n chain.places) comes
      ∙ from_next place chain.places (rest_after place chain.places) holds.once refl) in
      let was = ap (λ n. length (from_on n chain.places)) at_it in
      omega (arith, left, was)

  -- What was gathered, by the jobs.

  serials_numbers : (slab : Slab (Entry J)) (places : List ℕ)
      → serials_of (map (number_at slab) places) ≡ serials_at slab places
  serials_numbers slab [] = refl
  serials_numbers slab (place ∷ places) =
      ap (λ ss. serial_or_zero (get slab place) ∷ ss) (serials_numbers slab places)

  -- a serial stands where its place stands
  serial_in : (slab : Slab (Entry J)) (q : ℕ) (places : List ℕ) → is_in q places ≡ true
      → is_in (serial_or_zero (get slab q)) (serials_at slab places) ≡ true
  serial_in slab q [] within = absurd (false≢true within)
  serial_in slab q (place ∷ places) within =
      by_eq q place (λ b. (b || is_in q places) ≡ true
      → is_in (serial_or_zero (get slab q)) (serials_at slab (place ∷ places)) ≡ true)
      (λ same f. or_left _ _ (eq-eqb _ _ (ap (λ n. serial_or_zero (get slab n)) same)))
      (λ far f. or_right _ _ (serial_in slab q places f)) within

  serial_from : (slab : Slab (Entry J)) (s : ℕ) (places : List ℕ) → is_in s (serials_at slab places)
      ≡ true → (q : ℕ) × (is_in q places ≡ true) × (serial_or_zero (get slab q) ≡ s)
  serial_from slab s [] within = absurd (false≢true within)
  serial_from slab s (place ∷ places) within =
      by_eq s (serial_or_zero (get slab place)) (λ b. (b || is_in s (serials_at slab places)) ≡ true
      → (q : ℕ) × (is_in q (place ∷ places) ≡ true) × (serial_or_zero (get slab q) ≡ s))
      (λ same f. (place, is_in-first place places, sym same))
      (λ far f. let there = serial_from slab s places f in
      (there.0, or_right (eqb there.0 place) (is_in there.0 places) there.1, there.2)) within

  -- what holds of the number of each place holds of all numbers
  all_numbers : (P : JobNumber → Type 0) (slab : Slab (Entry J)) (places : List ℕ)
      → ((q : ℕ) → is_in q places ≡ true → P (number_at slab q))
      → All P (map (number_at slab) places)
  all_numbers P slab [] each = All-nil P
  all_numbers P slab (place ∷ places) each =
      All-cons P (number_at slab place) (map (number_at slab) places)
      (each place (is_in-first place places)) (all_numbers P slab places
      (λ q within. each q (or_right (eqb q place) (is_in q places) within)))

  -- the entry at a parked place
  parked_there : (found : Option (Entry J)) → is_parked_entry found ≡ true
      → (entry : Entry J) × (found ≡ Some entry) × (entry.standing ≡ Parked)
  parked_there None never = absurd (false≢true never)
  parked_there (Some entry) stands = (entry, refl, parked_is entry.standing stands)

  -- places of entries have serials of their own
  once_serials : (slab : Slab (Entry J)) (places : List ℕ) → AreApart slab
      → IsOnce places → ((q : ℕ) → is_in q places ≡ true → is_parked_entry (get slab q) ≡ true)
      → IsOnce (serials_at slab places)
  once_serials slab [] apart once each = tt
  once_serials slab (place ∷ places) apart once each = (
    absent_in (serial_or_zero (get slab place)) (serials_at slab places) (λ within.
        let other = serial_from slab (serial_or_zero (get slab place)) places within in
        let this = parked_there (get slab place) (each place (is_in-first place places)) in
        let that = parked_there (get slab other.0)
        (each other.0 (or_right (eqb other.0 place) (is_in other.0 places) other.1)) in
        let same : place ≡ other.0 = apart place other.0 this.0 that.0 this.1 that.1
        (ap serial_or_zero (sym this.1) ∙ sym other.2 ∙ ap serial_or_zero that.1) in
        false≢true (sym once.0 ∙ ap (λ n. is_in n places) same ∙ other.1)),
    once_serials slab places apart once.1
        (λ q within. each q (or_right (eqb q place) (is_in q places) within)),
  )

  -- the place of a job, where there is one
  abbrev place_of : Option (Job J) → ℕ
  place_of None = 0
  place_of (Some job) = job.place

  -- what was gathered at the places was gathered of the jobs
  pub gathers : (may_answer : J → Bool → Type 0) (slab : Slab (Entry J))
      (chain : Chain) (numbers : List JobNumber) → AreApart slab → HoldsParked slab chain
      → GathersAt may_answer slab chain.places numbers → Gathers may_answer (jobs_of slab) numbers
  gathers may_answer slab chain numbers apart holds gathered =
      record {
        marked = marked;
        asked = λ s job value found stands held.
            let there = entry_at s job found stands in
            subst (may_answer value) (sym (ap (λ j. gathered.marked (place_of j)) found))
            (gathered.asked job.place there.0 value there.3 there.1
            (ap (λ j. j.value) (sym there.4) ∙ held));
        parked =
            subst (All (λ number. standing_of jobs number ≡ Some Parked)) (sym gathered.numbers_are)
            (all_numbers (λ number. standing_of jobs number ≡ Some Parked) slab due (λ q within.
            let there = parked_there (get slab q) (parked_place q within) in
            ap (option_map (λ job. job.standing)) (job_here slab (number_at slab q) there.0 apart
            there.1 (sym (ap serial_or_zero there.1))) ∙ ap Some there.2));
        once = subst IsOnce (sym serials_are) (once_serials slab due apart
            (once_kept gathered.marked chain.places holds.once) parked_place);
        each = λ s. ap (is_in s) serials_are ∙ same_test _ _ (due_if s) (if_due s);
      }
    where
      jobs : Jobs J
      jobs = jobs_of slab

      due : List ℕ
      due = filter gathered.marked chain.places

      marked : ℕ → Bool
      marked s = gathered.marked (place_of (at jobs s))

      parked_place : (q : ℕ) → is_in q due ≡ true → is_parked_entry (get slab q) ≡ true
      parked_place q within = sym (holds.each q) ∙ (kept_in gathered.marked q chain.places within).0

      serials_are : serials_of numbers ≡ serials_at slab due
      serials_are = ap serials_of gathered.numbers_are ∙ serials_numbers slab due

      entry_at : (s : ℕ) (job : Job J) → at jobs s ≡ Some job → job.standing ≡ Parked
          → (entry : Entry J) × (get slab job.place ≡ Some entry) × (entry.serial ≡ s)
          × (is_in job.place chain.places ≡ true) × (job ≡ job_at job.place entry)
      entry_at s job found stands =
          let from = from_there slab jobs s job (tabled slab apart) found in (
            from.0,
            from.1,
            from.2,
            holds.each job.place ∙ ap is_parked_entry from.1
                ∙ ap is_parked (ap (λ j. j.standing) (sym from.3) ∙ stands),
            from.3,
          )

      due_if : (s : ℕ) → is_in s (serials_at slab due) ≡ true → is_due jobs marked s ≡ true
      due_if s within =
          let q = serial_from slab s due within in
          let there = parked_there (get slab q.0) (parked_place q.0 q.1) in
          let found : at jobs s ≡ Some (job_at q.0 there.0) =
          ap (at jobs) (sym (sym (ap serial_or_zero there.1) ∙ q.2))
          ∙ (tabled slab apart).here q.0 there.0 there.1 in
          both_true (is_parked_job (at jobs s)) (marked s)
          (ap is_parked_job found ∙ ap is_parked there.2)
          (ap (λ j. gathered.marked (place_of j)) found
          ∙ (kept_in gathered.marked q.0 chain.places q.1).1)

      if_due : (s : ℕ) → is_due jobs marked s ≡ true → is_in s (serials_at slab due) ≡ true
      if_due s is =
          let parts = and_parts (is_parked_job (at jobs s)) (marked s) is in
          let job = parked_job (at jobs s) parts.0 in
          let there = entry_at s job.0 job.1 job.2 in
          ap (λ n. is_in n (serials_at slab due)) (sym (ap serial_or_zero there.1 ∙ there.2))
          ∙ serial_in slab job.0.place due (in_kept gathered.marked job.0.place chain.places there.3
          (sym (ap (λ j. gathered.marked (place_of j)) job.1) ∙ parts.1))

  -- numbers that were gathered, in another order
  pub gathers_moved : (may_answer : J → Bool → Type 0) (jobs : Jobs J) (xs ys : List JobNumber)
      → IsPermutation xs ys → Gathers may_answer jobs xs → Gathers may_answer jobs ys
  gathers_moved may_answer jobs xs ys moved gathered =
      record {
        marked = gathered.marked;
        asked = gathered.asked;
        parked = All-permutation (λ number. standing_of jobs number ≡ Some Parked) xs ys moved
            gathered.parked;
        once = once_permuted (serials_of xs) (serials_of ys) serials_moved gathered.once;
        each = λ s. sym (list_any-IsPermutation (λ other. eqb s other) (serials_of xs)
            (serials_of ys) serials_moved) ∙ gathered.each s;
      }
    where
      serials_moved : IsPermutation (serials_of xs) (serials_of ys)
      serials_moved = IsPermutation-map (λ number. number.serial) xs ys moved

  -- Entering again.

  again_elsewhere : (jobs : Jobs J) (serials : List ℕ) (s : ℕ) → is_in s serials ≡ false
      → at (jobs_after_requeue jobs serials) s ≡ at jobs s
  again_elsewhere jobs [] s absent = refl
  again_elsewhere jobs (serial ∷ serials) s absent =
      let parts = or_parts (eqb s serial) (is_in s serials) absent in
      again_elsewhere (amend jobs serial entry_after_requeue) serials s parts.1
      ∙ at_changed jobs serial s entry_after_requeue (eqb-false s serial parts.0)

  again_push : (jobs : Jobs J) (serials : List ℕ) (s : ℕ) → jobs_after_requeue jobs
      (serials ++ s ∷ []) ≡ amend (jobs_after_requeue jobs serials) s entry_after_requeue
  again_push jobs [] s = refl
  again_push jobs (serial ∷ serials) s =
      again_push (amend jobs serial entry_after_requeue) serials s

  -- the table, in which these jobs stand in the queue again
  abbrev pub HasEntered : Table J → List JobNumber → Table J → Type 0
  HasEntered old numbers new = Becomes old new (old.queue ++ serials_of numbers)
      (jobs_after_requeue old.jobs (serials_of numbers)) (tally_at old.tallies)

  -- a job that is yet to enter is parked
  pub still_parked : (first now : Table J) (numbers : List JobNumber) (i : ℕ) (number : JobNumber)
      → i < length numbers → number ≡ get_or numbers i number → IsOnce (serials_of numbers)
      → All (λ no. MayEnter first no) numbers → HasEntered first (take i numbers) now
      → MayEnter now number
  still_parked first now numbers i number less is once parked entered =
      record {
        stands =
            ap (λ j. option_map (λ job. job.standing) (if_at number.place j)) same ∙ before.stands;
        counted = subst (λ tally. 0 < tally.jobs)
            (sym (entered.tallies_are (client_at now number)
            ∙ ap (λ j. tally_at first.tallies (client_of (if_at number.place j))) same))
            before.counted;
      }
    where
      same : at now.jobs number.serial ≡ at first.jobs number.serial
      same =
          ap (λ js. at js number.serial) entered.jobs_are
          ∙ again_elsewhere first.jobs (serials_of (take i numbers)) number.serial
          (subst (λ no. is_in no.serial (serials_of (take i numbers)) ≡ false) (sym is)
          (not_taken numbers i number less once))

      before : MayEnter first number
      before = subst (λ no. MayEnter first no) (sym is)
          (All-get_or (λ no. MayEnter first no) numbers i number less parked)

  -- one more has entered
  pub one_entered : (first now new : Table J) (numbers more : List JobNumber) (number : JobNumber)
      → more ≡ numbers ++ number ∷ [] → HasEntered first numbers now
      → Becomes now new (now.queue ++ number.serial ∷ [])
      (amend now.jobs number.serial entry_after_requeue) (tally_at now.tallies)
      → HasEntered first more new
  one_entered first now new numbers more number are entered becomes =
      subst (λ ns. HasEntered first ns new) (sym are)
      (subst (λ ss. Becomes first new (first.queue ++ ss) (jobs_after_requeue first.jobs ss)
      (tally_at first.tallies)) (sym (map_push (λ no. no.serial) numbers number))
      (record {
        queue_is = becomes.queue_is ∙ ap (λ q. q ++ number.serial ∷ []) entered.queue_is
            ∙ append_assoc first.queue (serials_of numbers) (number.serial ∷ []);
        room_is = becomes.room_is ∙ entered.room_is;
        jobs_are = becomes.jobs_are ∙ ap (λ js. amend js number.serial entry_after_requeue)
            entered.jobs_are ∙ sym (again_push first.jobs (serials_of numbers) number.serial);
        tallies_are = λ c. becomes.tallies_are c ∙ entered.tallies_are c;
        limit_is = becomes.limit_is ∙ entered.limit_is;
      }))

  -- a parked job of a table whose jobs are counted may enter
  pub may_enter : (table : Table J) (number : JobNumber) → AreCounted table
      → standing_of table.jobs number ≡ Some Parked → MayEnter table number
  may_enter table number counted parked =
      let job = standing_job (job_of table.jobs number) Parked parked in
      record {
        stands = parked;
        counted =
            subst (λ client. 0 < (tally_at table.tallies client).jobs) (sym (ap client_of job.1))
            (counted number.serial job.0 (job_of_found table.jobs number job.0 job.1).0);
      }

  -- and so may all that were gathered
  pub may_all : (may_answer : J → Bool → Type 0) (table : Table J) (numbers : List JobNumber)
      → AreCounted table → Gathers may_answer table.jobs numbers
      → All (λ number. MayEnter table number) numbers
  may_all may_answer table numbers counted gathered k d less =
      may_enter table (get_or numbers k d) counted (gathered.parked k d less)

  -- what was gathered, and stands in the order of the serials, has entered
  pub sweeps_all : (may_answer : J → Bool → Type 0) (old new : Table J) (xs ys due : List JobNumber)
      → Gathers may_answer old.jobs xs → IsPermutation xs ys
      → IsNonDecreasingBy (λ no. no.serial) ys
      → due ≡ ys → HasEntered old due new → SweepsAll may_answer old new
  sweeps_all may_answer old new xs ys due gathered moved sorted are entered =
      let all = gathers_moved may_answer old.jobs xs ys moved gathered in
      record {
        marked = all.marked;
        asked = all.asked;
        serials = serials_of ys;
        rising = sorted_rising ys sorted all.once;
        each = all.each;
        becomes = subst (λ ns. HasEntered old ns new) are entered;
      }

  -- the serials of a sweep are those that it finds among all, as they were accepted
  pub swept_serials : (may_answer : J → Bool → Type 0) (old new : Table J) (next : ℕ)
      (sweep : SweepsAll may_answer old new) → ((s : ℕ) → next ≤ s → at old.jobs s ≡ None)
      → sweep.serials ≡ swept old.jobs sweep.marked (serials_below next)
  swept_serials may_answer old new next sweep unused =
      same_rising sweep.serials (swept old.jobs sweep.marked (serials_below next)) sweep.rising
      (rising_kept (is_due old.jobs sweep.marked) (serials_below next) (rising_below next))
      (λ s. sweep.each s ∙ same_test _ _
      (λ due. in_kept (is_due old.jobs sweep.marked) s (serials_below next)
      (stands_below s next (used s due)) due)
      (λ within. (kept_in (is_due old.jobs sweep.marked) s (serials_below next) within).1))
    where
      used : (s : ℕ) → is_due old.jobs sweep.marked s ≡ true → s < next
      used s due =
          elim (cases_lt s next) [
            | inl is ↦ is
            | inr past ↦ absurd (false≢true (sym (ap is_parked_job (unused s past))
                ∙ (and_parts (is_parked_job (at old.jobs s)) (sweep.marked s) due).0))
          ]
