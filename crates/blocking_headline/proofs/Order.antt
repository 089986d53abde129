-- Each client's jobs are run in the order in which they entered the queue.
use Rattle.std.proofs.Common.{◌≡◌, refl, ℕ, ◌==◌, ◌&&◌, ◌||◌, ◌⊎◌, inl, inr, not, Bool, true, false}
use Rattle.std.proofs.Common.{List, [], ◌∷◌, ◌++◌, length, Option, Some, None, cond, if◌then◌else◌}
use Rattle.std.proofs.Common.{ap, sym, ◌∙◌, arith}
use Rattle.std.specs.Prelude.{filter}
use Rattle.std.proofs.lemmas.Bool.{eqb-true, eq-eqb}
use Rattle.std.proofs.lemmas.List.{append-nil}
use mathlib.Core.Path.{subst}
use Rattle.blocking_pool.specs.Lists.{is_in, without, first_of}
use Rattle.blocking_pool.specs.declared.pool.answer.Woke.TheVariants.{Entered}
use Rattle.blocking_pool.specs.declared.pool.standing.Standing.TheVariants.{Queued}
use Rattle.blocking_pool.proofs.Lists.{turned as either_way}
use Rattle.blocking_world_laws.specs.Core.{is_below}
use Rattle.blocking_world_laws.specs.Seen.{joined, without_all}
use Rattle.blocking_world_laws.specs.Jobs.{accepted_jobs, client, standing, is_parked, is_marked, is_to_drop, is_cancelled}
use Rattle.blocking_world_laws.specs.Queue.{queue, ready, has_room, entered_by, taken_by, to_sweep, client_limit, client_limit_by, running, of_client}
use Rattle.blocking_world_laws.specs.Answers.{take_from, PoolAnswers}
use Rattle.blocking_world_laws.specs.Steps.{job_taken}
use Rattle.blocking_world_laws.specs.Legal.{Legal}
use Rattle.blocking_world_laws.specs.declared.event.Act.{Act}
use Rattle.blocking_world_laws.specs.declared.event.Act.TheVariants.{Accepted, JobWoken, ClientLimitSet}
use Rattle.blocking_world_laws.specs.declared.event.Act.TheVariants.{JobCancelled, Swept, Stays, Took}
use Rattle.blocking_world_laws.specs.declared.event.Act.TheVariants.{TookDropped, Stopped, Ended}
use Rattle.blocking_world_laws.specs.declared.event.Moment.{Moment}
use Rattle.blocking_world_laws.specs.declared.event.WaitEnd.TheVariants.{Woken, TimedOut}
use Rattle.blocking_world_laws.proofs.Clients.{first_passes}
use Rattle.blocking_world_laws.specs.Seen.{IsBeginning}
use Rattle.blocking_headline.specs.Headline.{entered, line, is_limit, in_one_line}
use Rattle.blocking_headline.proofs.Bools.{then_so}

-- the first list is the second without some that are to be dropped
abbrev Woven : (ℕ → Bool) → List ℕ → List ℕ → Type 0
Woven drop xs [] = xs ≡ []
Woven drop xs (y ∷ ys) = ((rest : List ℕ) × (xs ≡ y ∷ rest) × Woven drop rest ys)
    ⊎ ((drop y ≡ true) × Woven drop xs ys)

itself : (drop : ℕ → Bool) (xs : List ℕ) → Woven drop xs xs
itself drop [] = refl
itself drop (x ∷ xs) = inl (xs, refl, itself drop xs)

more : (drop : ℕ → Bool) (xs ys zs : List ℕ) → Woven drop xs ys → Woven drop (xs ++ zs) (ys ++ zs)
more drop xs [] zs w = rw w (itself drop zs)
more drop xs (y ∷ ys) zs (inl found) =
    inl (found.0 ++ zs, ap (λ l. l ++ zs) found.1, more drop found.0 ys zs found.2)
more drop xs (y ∷ ys) zs (inr found) = inr (found.0, more drop xs ys zs found.1)

kept_or : (drop : ℕ → Bool) (b : Bool) (z : ℕ) (xs ys : List ℕ) → (b ≡ true → drop z ≡ true)
    → Woven drop xs ys → Woven drop xs (cond b (z ∷ ys) ys)
kept_or drop true z xs ys so w = inr (so refl, w)
kept_or drop false z xs ys so w = w

none : (drop test : ℕ → Bool) (zs : List ℕ) → ((s : ℕ) → test s ≡ true → drop s ≡ true)
    → Woven drop [] (filter test zs)
none drop test [] so = refl
none drop test (z ∷ zs) so = kept_or drop (test z) z [] (filter test zs) (so z) (none drop test zs so)

beside : (drop test : ℕ → Bool) (xs ys zs : List ℕ) → ((s : ℕ) → test s ≡ true → drop s ≡ true)
    → Woven drop xs ys → Woven drop xs (ys ++ filter test zs)
beside drop test xs [] zs so w = rw w (none drop test zs so)
beside drop test xs (y ∷ ys) zs so (inl found) =
    inl (found.0, found.1, beside drop test found.0 ys zs so found.2)
beside drop test xs (y ∷ ys) zs so (inr found) = inr (found.0, beside drop test xs ys zs so found.1)

both_kept : (drop test : ℕ → Bool) (b : Bool) (y : ℕ) (xs ys : List ℕ)
    → Woven drop xs ys → Woven drop (cond b (y ∷ xs) xs) (cond b (y ∷ ys) ys)
both_kept drop test true y xs ys w = inl (xs, refl, w)
both_kept drop test false y xs ys w = w

one_kept : (drop test : ℕ → Bool) (b : Bool) (y : ℕ) (xs ys : List ℕ) → drop y ≡ true
    → Woven drop xs ys → Woven drop xs (cond b (y ∷ ys) ys)
one_kept drop test true y xs ys so w = inr (so, w)
one_kept drop test false y xs ys so w = w

filtered : (drop test : ℕ → Bool) (xs ys : List ℕ) → Woven drop xs ys
    → Woven drop (filter test xs) (filter test ys)
filtered drop test xs [] w = rw w refl
filtered drop test xs (y ∷ ys) (inl found) =
    subst (λ l. Woven drop (filter test l) (filter test (y ∷ ys))) (sym found.1)
    (both_kept drop test (test y) y (filter test found.0) (filter test ys)
    (filtered drop test found.0 ys found.2))
filtered drop test xs (y ∷ ys) (inr found) = one_kept drop test (test y) y (filter test xs)
    (filter test ys) found.0 (filtered drop test xs ys found.1)

weaker : (drop other : ℕ → Bool) (xs ys : List ℕ) → ((s : ℕ) → drop s ≡ true → other s ≡ true)
    → Woven drop xs ys → Woven other xs ys
weaker drop other xs [] so w = w
weaker drop other xs (y ∷ ys) so (inl found) =
    inl (found.0, found.1, weaker drop other found.0 ys so found.2)
weaker drop other xs (y ∷ ys) so (inr found) =
    inr (so y found.0, weaker drop other xs ys so found.1)

-- ---- after an act

or_second : (b : Bool) {c : Bool} → c ≡ true → (b || c) ≡ true
or_second true e = refl
or_second false e = e

all_kept : (xs : List ℕ) → filter (λ s. true) xs ≡ xs
all_kept [] = refl
all_kept (x ∷ xs) = ap (λ l. x ∷ l) (all_kept xs)

or_none : (b : Bool) → (b || false) ≡ b
or_none true = refl
or_none false = refl

turned : (s t : ℕ) → not ((t == s) || false) ≡ not (s == t)
turned s t = ap not (or_none (t == s) ∙ either_way t s)

same_tests : (test other : ℕ → Bool) (xs : List ℕ) → ((s : ℕ) → test s ≡ other s)
    → filter test xs ≡ filter other xs
same_tests test other [] so = refl
same_tests test other (x ∷ xs) so = rw (so x, same_tests test other xs so) refl

joined_is : (xs ys : List ℕ) → joined xs ys ≡ xs ++ ys
joined_is xs [] = sym (append-nil xs)
joined_is xs (y ∷ ys) = refl

untaken : (drop : ℕ → Bool) (xs ys zs : List ℕ) → Woven drop xs ys
    → Woven drop (filter (λ s. true) xs ++ zs) (ys ++ zs)
untaken drop xs ys zs w = rw (all_kept xs) (more drop xs ys zs w)

unchanged : (drop : ℕ → Bool) (xs ys : List ℕ) → Woven drop xs ys
    → Woven drop (filter (λ s. true) xs ++ []) ys
unchanged drop xs ys w = rw (append-nil (filter (λ s. true) xs), all_kept xs) w

took : (drop : ℕ → Bool) (s : ℕ) (xs ys : List ℕ) → Woven drop xs ys
    → Woven drop (filter (λ t. not (is_in t (s ∷ []))) xs ++ []) (without s ys)
took drop s xs ys w = rw (
  append-nil (filter (λ t. not (is_in t (s ∷ []))) xs),
  same_tests (λ t. not (is_in t (s ∷ []))) (λ t. not (s == t)) xs (turned s),
)
    (filtered drop (λ t. not (s == t)) xs ys w)

swept : (past : List Moment) (xs ys : List ℕ) → Woven (is_marked past) xs ys
    → Woven (is_marked past) (filter (λ s. true) xs ++ []) (joined ys (to_sweep past))
swept past xs ys w = rw (joined_is ys (to_sweep past)) (beside (is_marked past)
    (λ s. is_parked (standing past s) && is_marked past s) (filter (λ s. true) xs ++ []) ys (accepted_jobs past)
    (λ s e. then_so (is_parked (standing past s)) (is_marked past s) e)
    (unchanged (is_marked past) xs ys w))

after : (past : List Moment) (act : Act) (xs ys : List ℕ) → Woven (is_marked past) xs ys
    → Woven (is_marked past) (filter (λ s. not (is_in s (taken_by act))) xs ++ entered act)
    (joined (without_all (taken_by act) ys) (entered_by past act))
after past (Accepted s) xs ys w = untaken (is_marked past) xs ys (s ∷ []) w
after past (JobWoken s Entered) xs ys w = untaken (is_marked past) xs ys (s ∷ []) w
after past (JobCancelled s Entered) xs ys w = untaken (is_marked past) xs ys (s ∷ []) w
after past (Ended s Queued) xs ys w = untaken (is_marked past) xs ys (s ∷ []) w
after past (Took s) xs ys w = took (is_marked past) s xs ys w
after past (TookDropped s) xs ys w = took (is_marked past) s xs ys w
after past (Swept n) xs ys w = swept past xs ys w
after past (Stays v TimedOut) xs ys w = swept past xs ys w
after past (Stopped v TimedOut) xs ys w = swept past xs ys w
after past (Stays v Woken) xs ys w = unchanged (is_marked past) xs ys w
after past (Stopped v Woken) xs ys w = unchanged (is_marked past) xs ys w
after past _ xs ys w = unchanged (is_marked past) xs ys w

woven : (past : List Moment) → Woven (is_marked past) (line past) (queue past)
woven [] = refl
woven (now ∷ past) = weaker (is_marked past) (is_marked (now ∷ past)) (line (now ∷ past))
    (queue (now ∷ past)) (λ s e. or_second _ e)
    (after past now.event.act (line past) (queue past) (woven past))

-- ---- what a take gives

front : (test : ℕ → Bool) (b : Bool) (s y : ℕ) (xs rest : List ℕ) → xs ≡ y ∷ rest → test y ≡ b → b ≡ true → y ≡ s
    → IsBeginning (s ∷ []) (filter test xs)
front test b s y xs rest e t f is = (filter test rest, rw (e, t ∙ f, is) refl)

first_by : (drop ready same : ℕ → Bool) (s y : ℕ) (xs ys : List ℕ) → Woven drop xs (y ∷ ys)
    → (b c : Bool) → ready y ≡ b → same y ≡ c
    → first_of (cond b (y ∷ filter ready ys) (filter ready ys)) ≡ Some s → drop s ≡ false
    → same s ≡ true → ((t : ℕ) → same t ≡ true → ready t ≡ true)
    → ((zs : List ℕ) → Woven drop zs ys → first_of (filter ready ys) ≡ Some s
    → IsBeginning (s ∷ []) (filter same zs)) → IsBeginning (s ∷ []) (filter same xs)
first_by drop ready same s y xs ys (inl found) true c r t e live this so ih =
    let is : y ≡ s = cc in
    front same true s y xs found.0 found.1 (ap same is ∙ this) refl is
first_by drop ready same s y xs ys (inr found) true c r t e live this so ih =
    let is : y ≡ s = cc in
    let bad : true ≡ false = sym found.0 ∙ ap drop is ∙ live in absurd cc
first_by drop ready same s y xs ys (inl found) false true r t e live this so ih =
    let bad : true ≡ false = sym (so y t) ∙ r in absurd cc
first_by drop ready same s y xs ys (inl found) false false r t e live this so ih =
    subst (λ l. IsBeginning (s ∷ []) l)
    (sym (ap (filter same) found.1 ∙ ap (λ b. cond b (y ∷ filter same found.0) (filter same found.0)) t))
    (ih found.0 found.2 e)
first_by drop ready same s y xs ys (inr found) false c r t e live this so ih = ih xs found.1 e

first : (drop ready same : ℕ → Bool) (s : ℕ) (xs ys : List ℕ) → Woven drop xs ys
    → first_of (filter ready ys) ≡ Some s → drop s ≡ false → same s ≡ true
    → ((t : ℕ) → same t ≡ true → ready t ≡ true) → IsBeginning (s ∷ []) (filter same xs)
first drop ready same s xs [] w e live this so = absurd cc
first drop ready same s xs (y ∷ ys) w e live this so =
    first_by drop ready same s y xs ys w (ready y) (same y) refl refl e live this so
    (λ zs v f. first drop ready same s zs ys v f live this so)

some_is : {s t : ℕ} → Some s ≡ Some t → s ≡ t
some_is e = cc

abbrev was_dropped : Act → Bool
was_dropped (TookDropped s) = true
was_dropped _ = false

taken_by_flag : (past : List Moment) (s n : ℕ) (b : Bool) (ns : List ℕ) → is_to_drop past n ≡ b
    → Took s ≡ (if b then TookDropped n else Took n)
    → (first_of (n ∷ ns) ≡ Some s) × (is_to_drop past s ≡ false)
taken_by_flag past s n true ns d e =
    absurd (let bad : false ≡ true = ap was_dropped e in cc)
taken_by_flag past s n false ns d e =
    let is : Some s ≡ Some n = ap job_taken e in
    (sym is, ap (is_to_drop past) (some_is is) ∙ d)

not_second : (b c : Bool) → (b || c) ≡ false → c ≡ false
not_second true c e = absurd cc
not_second false c e = e

client_limit_none : (act : Act) (before : Option ℕ) → is_limit act ≡ false → before ≡ None
    → client_limit_by act before ≡ None
client_limit_none (ClientLimitSet None) before e none = refl
client_limit_none (ClientLimitSet (Some n)) before e none = absurd cc
client_limit_none _ before e none = none

never_by : (b : Bool) (now : Moment) (past : List Moment) → is_limit now.event.act ≡ b
    → length (cond b (now ∷ filter (λ m. is_limit m.event.act) past) (filter (λ m. is_limit m.event.act) past)) ≡ 0
    → (length (filter (λ m. is_limit m.event.act) past) ≡ 0 → client_limit past ≡ None)
    → client_limit (now ∷ past) ≡ None
never_by true now past b e ih = absurd (omega (arith, e))
never_by false now past b e ih = client_limit_none now.event.act (client_limit past) b (ih e)

taken_live : (past : List Moment) (s : ℕ) (ns : List ℕ) → Took s ≡ take_from past ns
    → (first_of ns ≡ Some s) × (is_to_drop past s ≡ false)
taken_live past s [] e = absurd (let bad : Some s ≡ None = ap job_taken e in cc)
taken_live past s (n ∷ ns) e = taken_by_flag past s n (is_to_drop past n) ns refl e

never : (past : List Moment) → length (filter (λ now. is_limit now.event.act) past) ≡ 0
    → client_limit past ≡ None
never [] e = refl
never (now ∷ past) e = never_by (is_limit now.event.act) now past refl e (never past)

shares : (past : List Moment) (s t : ℕ) (b : Bool)
    → (length (filter (λ now. is_limit now.event.act) past) == 0) ≡ b
    → (b || client past t == client past s) ≡ true → has_room past (client past s) ≡ true
    → has_room past (client past t) ≡ true
shares past s t true count same room = ap (λ l. is_below l (length (of_client past (client past t) (running past))))
    (never past (eqb-true (length (filter (λ now. is_limit now.event.act) past)) 0 count))
shares past s t false count same room =
    ap (has_room past) (eqb-true (client past t) (client past s) same) ∙ room

pub in_order : (setting : ℕ) (plan : List Bool) (past : List Moment) (now : Moment)
    → Legal setting plan (now ∷ past) → (s : ℕ) → now.event.act ≡ Took s
    → IsBeginning (s ∷ []) (filter (in_one_line past s) (line past))
in_order setting plan past now legal s e =
    let live = taken_live past s (ready past)
    (subst (λ a. PoolAnswers setting past now a) e legal.pool.0.answers) in
    let room = first_passes (λ t. has_room past (client past t)) s (queue past) live.0 in
    first (is_marked past) (λ t. has_room past (client past t)) (in_one_line past s) s (line past)
    (queue past) (woven past) live.0 (not_second (is_cancelled past s) (is_marked past s) live.1)
    (or_second _ (eq-eqb (client past s) (client past s) refl))
    (λ t same. shares past s t (length (filter (λ now. is_limit now.event.act) past) == 0) refl same room)
