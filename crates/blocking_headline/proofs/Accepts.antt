-- The page accepts a trace where each clause, looked at for the parties in it, says so. Their numbers are below a
-- bound.
use Rattle.std.proofs.Common.{◌≡◌, refl, ℕ, zero, suc, ◌+◌, ◌<◌, ◌≤◌, ◌==◌, ◌&&◌, ◌||◌, ◌⊎◌, inl, inr, Bool}
use Rattle.std.proofs.Common.{true, false, cond, nat_lt, nat_le, is_none, List, [], ◌∷◌, ◌++◌, length, Option, Some}
use Rattle.std.proofs.Common.{None, ap, sym, ◌∙◌, arith, append_assoc, append-nil, get_or}
use Rattle.std.specs.Prelude.{not, filter, map, min}
use Rattle.std.proofs.lemmas.Bool.{cases_lt, eqb-true, leb-true}
use Rattle.std.proofs.lemmas.Bool.Decides.{nat_tests}
use mathlib.Core.Path.{subst}
use Rattle.blocking_world_laws.specs.Seen.{is_by_task, is_in_cut, is_some_worker, is_worker, own}
use Rattle.blocking_world_laws.specs.Sessions.{Session}
use Rattle.blocking_world_laws.specs.Copies.{Outcome}
use Rattle.blocking_world_laws.specs.Seen.{is_of_pool}
use Rattle.blocking_world_laws.specs.Turns.{hand_by}
use Rattle.blocking_world_laws.specs.declared.step.Step.{Step}
use Rattle.blocking_headline.specs.Headline.{AtThis, Headline, IsAll, IsFlushed, IsNotLost, IsWhole, calls, came_back}
use Rattle.blocking_headline.specs.Headline.{ends, in_one_line, line, polls, rests, was_woken}
use Rattle.blocking_headline.specs.Words.{Moment, Event, Act, Party, Owner, Task, Worker, Pool, Took, TookDropped}
use Rattle.blocking_headline.specs.Words.{Ended, Replied, Okay, Count, NoMore, HandleAnswer, Fine, HandleCall, Read}
use Rattle.blocking_headline.specs.Words.{Next, Flush, Close, Link, Linked, Copy, Copied, IsBeginning, IsEnding}
use Rattle.blocking_headline.specs.Words.{IsSessionOf, HasReplied, accepted as accepted_in, acts_of_owner, acts_of_task}
use Rattle.blocking_headline.specs.Words.{all_accepted, all_got, all_taken, call, cut, events, gave, got, greatest}
use Rattle.blocking_headline.specs.Words.{hand, hand_of, handle_answers, is_nothing, is_owner, is_task, is_this}
use Rattle.blocking_headline.specs.Words.{is_waiting, last_is_end, last_job, limit, outcome, session, taken, taken_by}
use Rattle.blocking_headline.specs.Words.{workers}
use Rattle.blocking_headline.proofs.Bools.{first_so, or_so, same_self, then_so, unless}

-- ---- at each number below a bound

abbrev each : ℕ → (ℕ → Bool) → Bool
each zero test = true
each (suc n) test = test n && each n test

each_so : (n h : ℕ) (test : ℕ → Bool) → each n test ≡ true → h < n → test h ≡ true
each_so zero h test all less = absurd (omega (arith, less))
each_so (suc n) h test all less = at (cases_lt h n) (each_so n h test (then_so (test n) (each n test) all))
  where
    at : (h < n) ⊎ (n ≤ h) → (h < n → test h ≡ true) → test h ≡ true
    at (inl below) lower = lower below
    at (inr more) lower = let same : n ≡ h = omega (arith, less, more) in
        subst (λ m. test m ≡ true) same (first_so (test n) (each n test) all)

every : (P : ℕ → Type 0) (n : ℕ) (test : ℕ → Bool) → each n test ≡ true → ((h : ℕ) → test h ≡ true → P h)
    → ((h : ℕ) → n ≤ h → P h) → (h : ℕ) → P h
every P n test all inside outside h = at (cases_lt h n)
  where
    at : (h < n) ⊎ (n ≤ h) → P h
    at (inl below) = inside h (each_so n h test all below)
    at (inr more) = outside h more

-- ---- nothing was seen of others

-- whether a number is below the bound, if there is one
abbrev is_known : ℕ → Option ℕ → Bool
is_known n None = true
is_known n (Some h) = nat_lt h n

abbrev number_of : Party → Option ℕ
number_of (Owner h) = Some h
number_of (Task k) = Some k
number_of (Worker w) = Some w
number_of Pool = None

abbrev are_known : ℕ → List Moment → Bool
are_known n [] = true
are_known n (now ∷ past) =
    (is_known n (number_of now.event.party) && is_known n now.event.owner) && are_known n past

module _ (n h : ℕ) (more : n ≤ h) where
  no_owner : (p : Party) → is_known n (number_of p) ≡ true → is_owner h p ≡ false
  no_owner (Owner g) known = grind (arith, nat_tests)
  no_owner _ known = refl

  no_task : (p : Party) → is_known n (number_of p) ≡ true → is_task h p ≡ false
  no_task (Task k) known = grind (arith, nat_tests)
  no_task _ known = refl

  no_worker : (p : Party) → is_known n (number_of p) ≡ true → is_worker h p ≡ false
  no_worker (Worker w) known = grind (arith, nat_tests)
  no_worker _ known = refl

  not_its : (owner : Option ℕ) → is_known n owner ≡ true → is_this h owner ≡ false
  not_its None known = refl
  not_its (Some g) known = grind (arith, nat_tests)

outside : (b c d is its : Bool) → is ≡ false → its ≡ false → (not b && not c && (is || d && its)) ≡ false
outside true c d is its e f = refl
outside false true d is its e f = refl
outside false false true is its e f = rw (e, f) refl
outside false false false is its e f = rw e refl

never : (b c : Bool) → c ≡ false → (not b && c) ≡ false
never true c e = refl
never false c e = e

no_more : (b : Bool) (e : Event) (seen : List Event) → b ≡ false → seen ≡ [] → cond b (e ∷ seen) seen ≡ []
no_more true e seen out none = absurd cc
no_more false e seen out none = none

stays : (act : Act) (before : Option ℕ) → hand_by act false before ≡ before
stays (Took s) before = refl
stays (TookDropped s) before = refl
stays (Ended s how) before = refl
stays _ before = refl

module _ (n h : ℕ) (more : n ≤ h) where
  no_cut : (seen : List Moment) → are_known n seen ≡ true → cut h (events seen) ≡ []
  no_cut [] known = refl
  no_cut (now ∷ past) known =
      let both = first_so _ (are_known n past) known in
      no_more (is_in_cut h now.event) now.event (cut h (events past))
      (outside (is_of_pool now.event.act) (is_nothing now.event.act) (is_some_worker now.event.party)
      (is_owner h now.event.party) (is_this h now.event.owner)
      (no_owner n h more now.event.party (first_so _ _ both)) (not_its n h more now.event.owner (then_so _ _ both)))
      (no_cut past (then_so _ (are_known n past) known))

  no_acts : (seen : List Moment) → are_known n seen ≡ true → filter (is_by_task h) (events seen) ≡ []
  no_acts [] known = refl
  no_acts (now ∷ past) known =
      let both = first_so _ (are_known n past) known in
      no_more (is_by_task h now.event) now.event (filter (is_by_task h) (events past))
      (never (is_nothing now.event.act) (is_task h now.event.party)
      (no_task n h more now.event.party (first_so _ _ both)))
      (no_acts past (then_so _ (are_known n past) known))

  no_hand : (seen : List Moment) → are_known n seen ≡ true → hand seen h ≡ None
  no_hand [] known = refl
  no_hand (now ∷ past) known =
      let both = first_so _ (are_known n past) known in
      ap (λ b. hand_by now.event.act b (hand past h)) (no_worker n h more now.event.party (first_so _ _ both))
      ∙ stays now.event.act (hand past h) ∙ no_hand past (then_so _ (are_known n past) known)

-- ---- lists

abbrev same : List ℕ → List ℕ → Bool
same [] [] = true
same (x ∷ xs) (y ∷ ys) = x == y && same xs ys
same _ _ = false

same_so : (xs ys : List ℕ) → same xs ys ≡ true → xs ≡ ys
same_so [] [] e = refl
same_so (x ∷ xs) (y ∷ ys) e = ap (λ z. z ∷ xs) (eqb-true x y (first_so (x == y) (same xs ys) e))
    ∙ ap (λ l. y ∷ l) (same_so xs ys (then_so (x == y) (same xs ys) e))
same_so [] (y ∷ ys) e = absurd cc
same_so (x ∷ xs) [] e = absurd cc

abbrev begins : List ℕ → List ℕ → Bool
begins [] ys = true
begins (x ∷ xs) [] = false
begins (x ∷ xs) (y ∷ ys) = x == y && begins xs ys

begins_so : (xs ys : List ℕ) → begins xs ys ≡ true → IsBeginning xs ys
begins_so [] ys e = (ys, refl)
begins_so (x ∷ xs) [] e = absurd cc
begins_so (x ∷ xs) (y ∷ ys) e =
    let rest = begins_so xs ys (then_so (x == y) (begins xs ys) e) in
    let first = eqb-true x y (first_so (x == y) (begins xs ys) e) in
    (rest.0, ap (λ l. y ∷ l) rest.1 ∙ ap (λ z. z ∷ xs ++ rest.0) (sym first))

abbrev ends_in : List ℕ → List ℕ → Bool
ends_in xs [] = same [] xs
ends_in xs (y ∷ ys) = same (y ∷ ys) xs || ends_in xs ys

ends_so : (xs ys : List ℕ) → ends_in xs ys ≡ true → IsEnding xs ys
ends_so xs [] e = ([], same_so [] xs e)
ends_so xs (y ∷ ys) e = at (or_so (same (y ∷ ys) xs) (ends_in xs ys) e) (ends_so xs ys)
  where
    at : (same (y ∷ ys) xs ≡ true) ⊎ (ends_in xs ys ≡ true) → (ends_in xs ys ≡ true → IsEnding xs ys)
        → IsEnding xs (y ∷ ys)
    at (inl all) shorter = ([], same_so (y ∷ ys) xs all)
    at (inr some) shorter = let rest = shorter some in (y ∷ rest.0, ap (λ l. y ∷ l) rest.1)

none_so : {A : Type 0} (o : Option A) → is_none o ≡ true → o ≡ None
none_so None e = refl
none_so (Some x) e = absurd cc

not_so : false ≡ true → ⊥
not_so e = cc

this_so : (s : ℕ) (o : Option ℕ) → is_this s o ≡ true → o ≡ Some s
this_so s None e = absurd cc
this_so s (Some t) e = ap Some (eqb-true t s e)

-- ---- 1, 2 and 3

abbrev in_line : Act → List Moment → Bool
in_line (Took s) past = begins (s ∷ []) (filter (in_one_line past s) (line past))
in_line _ past = true

line_so : (act : Act) (past : List Moment) (s : ℕ) → in_line act past ≡ true → act ≡ Took s
    → IsBeginning (s ∷ []) (filter (in_one_line past s) (line past))
line_so act past s ok is = begins_so (s ∷ []) (filter (in_one_line past s) (line past))
    (subst (λ a. in_line a past ≡ true) is ok)

abbrev may_take : ℕ → List Moment → Option ℕ → List ℕ → Bool
may_take n past held [] = true
may_take n past held (s ∷ more) = is_none held && each n (λ v. not (is_this s (hand past v)))

take_so : (n : ℕ) (past : List Moment) → are_known n past ≡ true → (s : ℕ) (held : Option ℕ)
    → may_take n past held (s ∷ []) ≡ true → (held ≡ None) × ((v : ℕ) → hand past v ≡ Some s → ⊥)
take_so n past known s held ok = (
  none_so held (first_so (is_none held) _ ok),
  every (λ v. hand past v ≡ Some s → ⊥) n (λ v. not (is_this s (hand past v))) (then_so (is_none held) _ ok)
      (λ v other is. not_held (hand past v) other is) (λ v more is. no_job (sym (no_hand n v more past known) ∙ is)),
)
  where
    not_held : (o : Option ℕ) → not (is_this s o) ≡ true → o ≡ Some s → ⊥
    not_held o other is = let bad : not (s == s) ≡ true = subst (λ h. not (is_this s h) ≡ true) is other in
        not_so (sym (ap not (same_self s)) ∙ bad)

    no_job : None ≡ Some s → ⊥
    no_job e = cc

abbrev may_act : List ℕ → Option ℕ → Option ℕ → Bool
may_act [] (Some s) held = is_this s held
may_act _ _ held = true

act_so : (ts : List ℕ) (job held : Option ℕ) (s : ℕ) → may_act ts job held ≡ true → ts ≡ [] → job ≡ Some s
    → held ≡ Some s
act_so ts job held s ok none is =
    this_so s held (subst (λ j. may_act [] j held ≡ true) is (subst (λ l. may_act l job held ≡ true) none ok))

abbrev may_end : Act → Option ℕ → Bool
may_end (Ended t how) held = is_this t held
may_end _ held = true

end_so : (act : Act) (held : Option ℕ) (s : ℕ) → may_end act held ≡ true → ends act s ≡ true → held ≡ Some s
end_so (Ended t how) held s ok is = this_so t held ok ∙ ap Some (eqb-true t s is)
end_so _ held s ok is = absurd cc

abbrev may_start : ℕ → ℕ → ℕ → Bool
may_start zero workers limit = true
may_start (suc n) workers limit = nat_le (workers + suc n) limit

start_so : (n w l : ℕ) → may_start n w l ≡ true → 0 < n → w + n ≤ l
start_so zero w l ok some = absurd (omega (arith, some))
start_so (suc n) w l ok some = leb-true (w + suc n) l ok

-- ---- 4

abbrev is_whole : List Act → List Act → Bool
is_whole own job = same (got own) (gave job) && last_is_end (handle_answers job)

whole_so : (own job : List Act) → is_whole own job ≡ true → IsWhole own job
whole_so own job ok = (same_so (got own) (gave job) (first_so _ _ ok), then_so _ _ ok)

abbrev is_fine : List HandleAnswer → Bool
is_fine (Fine ∷ older) = true
is_fine _ = false

fine_so : (answers : List HandleAnswer) → is_fine answers ≡ true → (older : List HandleAnswer) × (answers ≡ Fine ∷ older)
fine_so (Fine ∷ older) ok = (older, refl)
fine_so _ ok = absurd cc

abbrev is_flushed : List Act → List Act → Bool
is_flushed own job = is_none (session own) && (not (came_back own) || (same (accepted_in own) []
    || same (taken job) (accepted_in own) && is_fine (handle_answers job)))

flushed_so : (own job : List Act) → is_flushed own job ≡ true → IsFlushed own job
flushed_so own job ok = (
  none_so (session own) (first_so (is_none (session own)) _ ok),
  λ back some. at some (or_so (same (accepted_in own) []) _
      (unless (not (came_back own)) _ (then_so (is_none (session own)) _ ok) (ap not back))),
)
  where
    at : (accepted_in own ≡ [] → ⊥) → (same (accepted_in own) [] ≡ true)
        ⊎ ((same (taken job) (accepted_in own) && is_fine (handle_answers job)) ≡ true)
        → (taken job ≡ accepted_in own) × (older : List HandleAnswer) × (handle_answers job ≡ Fine ∷ older)
    at some (inl none) = absurd (some (same_so (accepted_in own) [] none))
    at some (inr all) =
        let fine = fine_so (handle_answers job) (then_so _ _ all) in
        (same_so (taken job) (accepted_in own) (first_so _ _ all), fine.0, fine.1)

abbrev is_all : List Act → List Act → Option HandleCall → Act → Bool
is_all own job (Some (Read (suc n))) (Replied (Count zero)) = is_whole own job
is_all own job (Some Next) (Replied NoMore) = is_whole own job
is_all own job (Some Flush) (Replied Okay) = is_flushed own job
is_all own job (Some Close) (Replied Okay) = is_flushed own job
is_all own job _ _ = true

all_so : (own job : List Act) (asked : Option HandleCall) (act : Act) → is_all own job asked act ≡ true
    → IsAll own job asked act
all_so own job (Some (Read (suc n))) (Replied (Count zero)) ok = whole_so own job ok
all_so own job (Some Next) (Replied NoMore) ok = whole_so own job ok
all_so own job (Some Flush) (Replied Okay) ok = flushed_so own job ok
all_so own job (Some Close) (Replied Okay) ok = flushed_so own job ok
all_so own job asked act ok = tt

-- ---- 5

abbrev is_told : Party → ℕ → List Act → List Moment → Bool
is_told p s own seen = not (is_waiting own) || (not (rests s seen) || was_woken p s seen)

told_so : (p : Party) (s : ℕ) (own : List Act) (seen : List Moment) → is_told p s own seen ≡ true
    → IsNotLost p s own seen
told_so p s own seen ok waits lies =
    unless (not (rests s seen)) _ (unless (not (is_waiting own)) _ ok (ap not waits)) (ap not lies)

abbrev is_heeded : Party → Option Session → List Act → List Moment → Bool
is_heeded p None own seen = true
is_heeded p (Some r) own seen = is_told p r.serial own seen

heeded_so : (p : Party) (last : Option Session) (own : List Act) (seen : List Moment)
    → is_heeded p last own seen ≡ true → (s : ℕ) → IsSessionOf last s → IsNotLost p s own seen
heeded_so p None own seen ok s is = absurd is
heeded_so p (Some r) own seen ok s is =
    subst (λ t. IsNotLost p t own seen) is (told_so p r.serial own seen ok)

-- ---- copiers

abbrev is_flush : Option HandleCall → Bool
is_flush (Some Flush) = true
is_flush _ = false

flush_so : (asked : Option HandleCall) → is_flush asked ≡ true → asked ≡ Some Flush
flush_so (Some Flush) ok = refl
flush_so _ ok = absurd cc

abbrev is_okay : Outcome → Bool
is_okay (HasReplied Okay) = true
is_okay _ = false

okay_so : (came : Outcome) → is_okay came ≡ true → came ≡ HasReplied Okay
okay_so (HasReplied Okay) ok = refl
okay_so _ ok = absurd cc

-- what the page says of a copier that tells this number
abbrev IsCopied : List Moment → List Moment → ℕ → ℕ → ℕ → Type 0
IsCopied past later a b n =
    (all_accepted (acts_of_owner b (events later)) ≡ all_got (acts_of_owner a (events later)))
    × IsEnding (all_got (acts_of_owner a (events later))) (all_taken (cut b (events past)))
    × (n ≡ min (length (all_got (acts_of_owner a (events later)))) greatest)
    × (call (polls a b later) ≡ Some Flush) × (outcome (polls a b later) ≡ HasReplied Okay)

abbrev is_copied : List Moment → List Moment → ℕ → ℕ → ℕ → Bool
is_copied past later a b n =
    same (all_accepted (acts_of_owner b (events later))) (all_got (acts_of_owner a (events later)))
    && (ends_in (all_got (acts_of_owner a (events later))) (all_taken (cut b (events past)))
    && ((n == min (length (all_got (acts_of_owner a (events later)))) greatest)
    && (is_flush (call (polls a b later)) && is_okay (outcome (polls a b later)))))

copied_so : (past later : List Moment) (a b n : ℕ) → is_copied past later a b n ≡ true → IsCopied past later a b n
copied_so past later a b n ok =
    let more = then_so (same (all_accepted (acts_of_owner b (events later))) _) _ ok in
    let most = then_so (ends_in (all_got (acts_of_owner a (events later))) _) _ more in
    let last = then_so (n == _) _ most in (
      same_so _ _ (first_so _ _ ok),
      ends_so _ _ (first_so _ _ more),
      eqb-true n _ (first_so _ _ most),
      flush_so (call (polls a b later)) (first_so _ _ last),
      okay_so (outcome (polls a b later)) (then_so (is_flush _) _ last),
    )

abbrev at_link : List Moment → List Moment → ℕ → ℕ → Step → Act → Bool
at_link past later k n (Link a b m) (Linked j) = not (j == k) || is_copied past later a b n
at_link past later k n _ _ = true

link_so : (past later : List Moment) (k n a b m : ℕ) (step : Step) (act : Act) → at_link past later k n step act ≡ true
    → step ≡ Link a b m → act ≡ Linked k → IsCopied past later a b n
link_so past later k n a b m step act ok is made = copied_so past later a b n
    (unless (not (k == k)) _ (subst (λ c. at_link past later k n (Link a b m) c ≡ true) made
    (subst (λ s. at_link past later k n s act ≡ true) is ok)) (ap not (same_self k)))

-- at each moment of a past, whose newer ones are these
abbrev at_links : List Moment → ℕ → ℕ → List Moment → List Moment → Bool
at_links past k n newer [] = true
at_links past k n newer (link ∷ before) =
    at_link past newer k n link.step link.event.act && at_links past k n (newer ++ link ∷ []) before

links_so : (past : List Moment) (k n : ℕ) (newer rest : List Moment) → at_links past k n newer rest ≡ true
    → (later before : List Moment) (link : Moment) → rest ≡ later ++ link ∷ before
    → at_link past (newer ++ later) k n link.step link.event.act ≡ true
links_so past k n newer [] ok [] before link split = absurd cc
links_so past k n newer [] ok (m ∷ later) before link split = absurd cc
links_so past k n newer (now ∷ rest) ok [] before link split =
    let same : now ≡ link = cc in subst (λ m. at_link past (newer ++ []) k n m.step m.event.act ≡ true) same
    (subst (λ l. at_link past l k n now.step now.event.act ≡ true) (sym (append-nil newer)) (first_so _ _ ok))
links_so past k n newer (now ∷ rest) ok (m ∷ later) before link split =
    let same : now ≡ m = cc in
    let more : rest ≡ later ++ link ∷ before = cc in
    subst (λ l. at_link past l k n link.step link.event.act ≡ true)
    (append_assoc newer (now ∷ []) later ∙ ap (λ x. newer ++ x ∷ later) same)
    (links_so past k n (newer ++ now ∷ []) rest (then_so (at_link past newer k n _ _) _ ok) later before link more)

abbrev tells : Step → Act → List Moment → Bool
tells (Copy k) (Copied n) past = at_links past k n [] past
tells _ _ past = true

tells_so : (step : Step) (act : Act) (past : List Moment) → tells step act past ≡ true
    → (later before : List Moment) (link : Moment) (a b m k n : ℕ) → past ≡ later ++ link ∷ before
    → link.step ≡ Link a b m → link.event.act ≡ Linked k → step ≡ Copy k → act ≡ Copied n → IsCopied past later a b n
tells_so step act past ok later before link a b m k n split is made by told =
    link_so past later k n a b m link.step link.event.act (links_so past k n [] past
    (subst (λ c. tells (Copy k) c past ≡ true) told (subst (λ s. tells s act past ≡ true) by ok))
    later before link split) is made

-- ---- all of it

-- the first three sentences and that on copiers
abbrev is_at : ℕ → ℕ → List Moment → Moment → Bool
is_at n setting past now =
    (in_line now.event.act past && may_take n past (hand_of past now.event.party) (taken_by now.event.act))
    && ((may_act (taken_by now.event.act) now.event.job (hand_of past now.event.party)
    && may_end now.event.act (hand_of past now.event.party))
    && (may_start now.event.started (workers past) (limit setting past) && tells now.step now.event.act past))

-- the fourth, of owner h
abbrev passes : List Moment → Moment → ℕ → Bool
passes past now h =
    begins (got (acts_of_owner h (events (now ∷ past)))) (gave (last_job (cut h (events (now ∷ past)))))
    && (begins (taken (last_job (cut h (events (now ∷ past))))) (accepted_in (acts_of_owner h (events (now ∷ past))))
    && (not (is_owner h now.event.party) || is_all (acts_of_owner h (events past)) (last_job (cut h (events past)))
    (call (acts_of_owner h (events past))) now.event.act))

-- the fifth, of owner h and of task h
abbrev waits : List Moment → ℕ → Bool
waits seen h =
    is_heeded (Owner h) (session (acts_of_owner h (events seen))) (acts_of_owner h (events seen)) seen
    && is_told (Task h) (get_or (calls seen) h 0) (acts_of_task h (events seen)) seen

abbrev is_accepted : ℕ → ℕ → List Moment → Bool
is_accepted n setting [] = true
is_accepted n setting (now ∷ past) =
    (is_at n setting past now && (each n (passes past now) && each n (waits (now ∷ past))))
    && is_accepted n setting past

empty_begins : IsBeginning [] []
empty_begins = ([], refl)

module _ (n setting : ℕ) (past : List Moment) (now : Moment) (known : are_known n (now ∷ past) ≡ true) where
  before : are_known n past ≡ true
  before = then_so _ (are_known n past) known

  is_known_now : is_known n (number_of now.event.party) ≡ true
  is_known_now = first_so _ _ (first_so _ (are_known n past) known)

  unseen : (h : ℕ) → n ≤ h → cut h (events (now ∷ past)) ≡ []
  unseen h more = no_cut n h more (now ∷ past) known

  by_owner : (h : ℕ) → (not (is_owner h now.event.party) || is_all (acts_of_owner h (events past))
      (last_job (cut h (events past))) (call (acts_of_owner h (events past))) now.event.act) ≡ true
      → now.event.party ≡ Owner h → IsAll (acts_of_owner h (events past)) (last_job (cut h (events past)))
      (call (acts_of_owner h (events past))) now.event.act
  by_owner h ok is = all_so (acts_of_owner h (events past)) (last_job (cut h (events past)))
      (call (acts_of_owner h (events past))) now.event.act
      (unless (not (is_owner h now.event.party)) _ ok (ap (λ p. not (is_owner h p)) is ∙ ap not (same_self h)))

  no_such_owner : (h : ℕ) → n ≤ h → now.event.party ≡ Owner h → ⊥
  no_such_owner h more is =
      not_so (sym (no_owner n h more now.event.party is_known_now) ∙ ap (is_owner h) is ∙ same_self h)

  none_waits : (k : ℕ) → n ≤ k → is_waiting (acts_of_task k (events (now ∷ past))) ≡ false
  none_waits k more = ap (λ es. is_waiting (map (λ e. e.act) es)) (no_acts n k more (now ∷ past) known)

  at_this : is_at n setting past now ≡ true → each n (passes past now) ≡ true
      → each n (waits (now ∷ past)) ≡ true → AtThis setting past now
  at_this ok passed heeded = let rest = then_so _ _ ok in record {
    in_order = λ s is. line_so now.event.act past s (first_so _ _ (first_so _ _ ok)) is;
    take = λ w s by is. take_so n past before s (hand past w)
        (subst (λ ts. may_take n past (hand past w) ts ≡ true) is
        (subst (λ p. may_take n past (hand_of past p) (taken_by now.event.act) ≡ true) by
        (then_so (in_line now.event.act past) _ (first_so _ _ ok))));
    held = λ s none is. act_so (taken_by now.event.act) now.event.job (hand_of past now.event.party) s
        (first_so _ _ (first_so _ _ rest)) none is;
    turn = λ s is. end_so now.event.act (hand_of past now.event.party) s (then_so _ _ (first_so _ _ rest)) is;
    within = start_so now.event.started (workers past) (limit setting past) (first_so _ _ (then_so _ _ rest));
    reads = every (λ h. IsBeginning (got (acts_of_owner h (events (now ∷ past))))
        (gave (last_job (cut h (events (now ∷ past)))))) n (passes past now) passed
        (λ h all. begins_so _ _ (first_so _ _ all))
        (λ h more. subst (λ es. IsBeginning (got (own es)) (gave (last_job es))) (sym (unseen h more)) empty_begins);
    writes = every (λ h. IsBeginning (taken (last_job (cut h (events (now ∷ past)))))
        (accepted_in (acts_of_owner h (events (now ∷ past))))) n (passes past now) passed
        (λ h all. begins_so _ _ (first_so _ _ (then_so _ _ all)))
        (λ h more. subst (λ es. IsBeginning (taken (last_job es)) (accepted_in (own es))) (sym (unseen h more))
        empty_begins);
    all = every (λ h. now.event.party ≡ Owner h → IsAll (acts_of_owner h (events past))
        (last_job (cut h (events past))) (call (acts_of_owner h (events past))) now.event.act) n (passes past now)
        passed (λ h all is. by_owner h (then_so _ _ (then_so _ _ all)) is)
        (λ h more is. absurd (no_such_owner h more is));
    owners = every (λ h. (s : ℕ) → IsSessionOf (session (acts_of_owner h (events (now ∷ past)))) s
        → IsNotLost (Owner h) s (acts_of_owner h (events (now ∷ past))) (now ∷ past)) n (waits (now ∷ past)) heeded
        (λ h all s is. heeded_so (Owner h) (session (acts_of_owner h (events (now ∷ past))))
        (acts_of_owner h (events (now ∷ past))) (now ∷ past) (first_so _ _ all) s is)
        (λ h more s is. absurd (subst (λ es. IsSessionOf (session (own es)) s) (unseen h more) is));
    tasks = every (λ k. (s : ℕ) → get_or (calls (now ∷ past)) k 0 ≡ s
        → IsNotLost (Task k) s (acts_of_task k (events (now ∷ past))) (now ∷ past)) n (waits (now ∷ past)) heeded
        (λ k all s is. subst (λ t. IsNotLost (Task k) t (acts_of_task k (events (now ∷ past))) (now ∷ past)) is
        (told_so (Task k) (get_or (calls (now ∷ past)) k 0) (acts_of_task k (events (now ∷ past))) (now ∷ past)
        (then_so _ _ all)))
        (λ k more s is waiting lies. absurd (not_so (sym (none_waits k more) ∙ waiting)));
    copies = tells_so now.step now.event.act past (then_so _ _ (then_so _ _ rest));
  }

-- so is each moment before
at_each : (n setting : ℕ) (later past : List Moment) (now : Moment) → are_known n (later ++ now ∷ past) ≡ true
    → is_accepted n setting (later ++ now ∷ past) ≡ true → AtThis setting past now
at_each n setting [] past now known ok = at_this n setting past now known (first_so _ _ (first_so _ _ ok))
    (first_so _ _ (then_so _ _ (first_so _ _ ok))) (then_so _ _ (then_so _ _ (first_so _ _ ok)))
at_each n setting (m ∷ later) past now known ok =
    at_each n setting later past now (then_so _ _ known) (then_so _ _ ok)

-- the page holds of a trace that passes, where all numbers in it are below n
pub accepted : (n : ℕ) {setting : ℕ} {seen : List Moment}
    → (are_known n seen && is_accepted n setting seen) ≡ true → Headline setting seen
accepted n {setting} {seen} ok later past now split = at_each n setting later past now
    (subst (λ l. are_known n l ≡ true) split (first_so _ _ ok))
    (subst (λ l. is_accepted n setting l ≡ true) split (then_so _ _ ok))
