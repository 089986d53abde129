-- What is kept of an owner keeps the fourth and the fifth sentence by itself.
use Rattle.std.proofs.Common.{◌≡◌, refl, ℕ, ◌&&◌, ◌||◌, ◌⊎◌, inl, inr, Bool, true, false, cond, List, []}
use Rattle.std.proofs.Common.{◌∷◌, ◌++◌, Option, Some, None, ap, sym, ◌∙◌}
use Rattle.std.specs.Prelude.{not, filter, map}
use mathlib.Core.Path.{subst}
use Rattle.blocking_world_laws.specs.Legal.{Legal, PoolLaw}
use Rattle.blocking_world_laws.specs.Jobs.{holder}
use Rattle.blocking_world_laws.specs.OwnerLaws.{OwnerLaws, OwnerMayAct}
use Rattle.blocking_world_laws.specs.OwnerWakes.{IsSessionOf}
use Rattle.blocking_world_laws.specs.Passed.{accepted, gave, got, last_job, taken}
use Rattle.blocking_world_laws.specs.Seen.{EachMayFollow, IsBeginning, acts_of_owner, cut, events, is_in_cut}
use Rattle.blocking_world_laws.specs.Seen.{is_of_job, is_of_pool, is_some_worker, is_this, own}
use Rattle.blocking_world_laws.specs.Sessions.{call, session}
use Rattle.blocking_world_laws.specs.Steps.{StepLaw}
use Rattle.blocking_world_laws.specs.Turns.{ActsInTurn, TurnLaw, hand_of, has_job, is_job_act}
use Rattle.blocking_world_laws.specs.Wakes.{is_waiting}
use Rattle.blocking_world_laws.specs.declared.event.Act.{Act}
use Rattle.blocking_world_laws.specs.declared.event.Act.TheVariants.{HolderWoken}
use Rattle.blocking_world_laws.specs.declared.event.Event.{Event}
use Rattle.blocking_world_laws.specs.declared.event.Moment.{Moment}
use Rattle.blocking_world_laws.specs.declared.event.Party.{Party}
use Rattle.blocking_world_laws.specs.declared.event.Party.TheVariants.{Owner, Worker}
use Rattle.blocking_headline.specs.Headline.{IsAll, by, is_wake, rests, was_woken}
use Rattle.blocking_headline.specs.Independence.{Fourth, IsIndependent, kept}
use Rattle.blocking_headline.proofs.All.{all_by}
use Rattle.blocking_headline.proofs.OwnerCuts.{OnlyBy, job_in_cut, only_before, only_of, session_held}
use Rattle.blocking_headline.proofs.OwnerWakes.{open_session, owners}
use Rattle.blocking_headline.proofs.Bools.{first_so, then_so, and_so, or_so, or_left, either}

-- ---- the events that are kept

module _ {X Y : Type 0} (f : X → Y) (test : Y → Bool) where
  filtered_map : (xs : List X) → map f (filter (λ x. test (f x)) xs) ≡ filter test (map f xs)
  filtered_map [] = refl
  filtered_map (x ∷ xs) = at (test (f x)) refl (filtered_map xs)
    where
      at : (b : Bool) → test (f x) ≡ b → map f (filter (λ x. test (f x)) xs) ≡ filter test (map f xs)
          → map f (filter (λ x. test (f x)) (x ∷ xs)) ≡ filter test (map f (x ∷ xs))
      at true e same = rw e (ap (λ l. f x ∷ l) same)
      at false e same = rw e same

-- each member passes the test
module _ {X : Type 0} (test : X → Bool) where
  abbrev AllPass : List X → Type 0
  AllPass [] = Unit {0}
  AllPass (x ∷ xs) = (test x ≡ true) × AllPass xs

  passing : (xs : List X) → AllPass (filter test xs)
  passing [] = tt
  passing (x ∷ xs) = at (test x) refl (passing xs)
    where
      at : (b : Bool) → test x ≡ b → AllPass (filter test xs) → AllPass (filter test (x ∷ xs))
      at true e rest = rw e (e, rest)
      at false e rest = rw e rest

  unfiltered : (xs : List X) → AllPass xs → filter test xs ≡ xs
  unfiltered [] all = refl
  unfiltered (x ∷ xs) all = rw (all.0) (ap (λ l. x ∷ l) (unfiltered xs all.1))

  later_pass : (later xs : List X) → AllPass (later ++ xs) → AllPass xs
  later_pass [] xs all = all
  later_pass (x ∷ later) xs all = later_pass later xs all.1

events_kept : (h : ℕ) (seen : List Moment) → events (kept h seen) ≡ cut h (events seen)
events_kept h seen = filtered_map (λ now. now.event) (is_in_cut h) seen

cut_twice : (h : ℕ) (seen : List Moment) → cut h (events (kept h seen)) ≡ cut h (events seen)
cut_twice h seen = ap (cut h) (events_kept h seen)
    ∙ unfiltered (is_in_cut h) (cut h (events seen)) (passing (is_in_cut h) (events seen))

later_laws : (later es : List Event) → OwnerLaws (later ++ es) → OwnerLaws es
later_laws [] es laws = laws
later_laws (e ∷ later) es laws = later_laws later es laws.1

events_joined : (later past : List Moment) → events (later ++ past) ≡ events later ++ events past
events_joined [] past = refl
events_joined (now ∷ later) past = ap (λ l. now.event ∷ l) (events_joined later past)

-- ---- the fourth sentence

fourth_by : (h : ℕ) (past : List Moment) (now : Moment) → OwnerLaws (events (now ∷ past))
    → cut h (events (now ∷ past)) ≡ events (now ∷ past) → cut h (events past) ≡ events past → Fourth h past now
fourth_by h past now laws same before = record {
  reads = subst (λ es. IsBeginning (got (own es)) (gave (last_job es))) (sym same) laws.0.passed.read;
  writes = subst (λ es. IsBeginning (taken (last_job es)) (accepted (own es))) (sym same) laws.0.passed.written;
  all = λ is. subst (λ es. IsAll (own es) (last_job es) (call (own es)) now.event.act) (sym before)
      (all_by (events past) laws.1 (call (own (events past))) refl now.event.act
      (subst (λ p. OwnerMayAct (is_some_worker p) (events past) now.event) is laws.0.acts) laws.0.ends);
}

fourth_of : (h : ℕ) (seen later past : List Moment) (now : Moment) → OwnerLaws (cut h (events seen))
    → kept h seen ≡ later ++ now ∷ past → Fourth h past now
fourth_of h seen later past now laws split =
    let parts : cut h (events seen) ≡ events later ++ events (now ∷ past) =
    sym (events_kept h seen) ∙ ap events split ∙ events_joined later (now ∷ past) in
    let pass = later_pass (is_in_cut h) (events later) (events (now ∷ past))
    (subst (AllPass (is_in_cut h)) parts (passing (is_in_cut h) (events seen))) in
    fourth_by h past now (later_laws (events later) (events (now ∷ past)) (subst OwnerLaws parts laws))
    (unfiltered (is_in_cut h) (events (now ∷ past)) pass) (unfiltered (is_in_cut h) (events past) pass.1)

-- ---- the fifth sentence

wake_is : (act : Act) → is_wake act ≡ true → act ≡ HolderWoken
wake_is HolderWoken e = refl
wake_is _ e = absurd cc

job_of_event : (s : ℕ) (job : Option ℕ) → is_this s job ≡ true → has_job job ≡ true
job_of_event s None e = absurd cc
job_of_event s (Some t) e = refl

holds_worker : (past : List Moment) (p : Party) (s : ℕ) (job : Option ℕ) → is_this s job ≡ true
    → hand_of past p ≡ job → is_some_worker p ≡ true
holds_worker past (Worker w) s job e is = refl
holds_worker past _ s job e is = absurd (let bad : false ≡ true = ap (is_this s) is ∙ e in cc)

-- the call of a waker by a job is an act of that job
wake_of_job : (past : List Moment) (now : Moment) (s : ℕ) → TurnLaw past now
    → (is_this s now.event.job && is_wake now.event.act) ≡ true → is_of_job s now.event ≡ true
wake_of_job past now s law e =
    let this = first_so (is_this s now.event.job) (is_wake now.event.act) e in
    let act = wake_is now.event.act (then_so (is_this s now.event.job) (is_wake now.event.act) e) in
    let mine : is_job_act now.event ≡ true = ap (λ a. has_job now.event.job && not (is_of_pool a)) act
    ∙ ap (λ b. b && true) (job_of_event s now.event.job this) in
    let acts = subst (λ b. ActsInTurn b past now.event) mine law.acts in
    let worker = holds_worker past now.event.party s now.event.job this acts.0 in
    rw (act, worker) this

module _ (setting : ℕ) (plan : List Bool) (h s : ℕ) where
  kept_wake : (b : Bool) (past : List Moment) (now : Moment) → is_in_cut h now.event ≡ b → StepLaw past now
      → EachMayFollow (PoolLaw setting plan) (now ∷ past) → OnlyBy h past s
      → (was_woken (Owner h) s past ≡ true → was_woken (Owner h) s (kept h past) ≡ true)
      → was_woken (Owner h) s (now ∷ past) ≡ true
      → was_woken (Owner h) s (cond b (now ∷ kept h past) (kept h past)) ≡ true
  kept_wake true past now there step pool only before woken =
      and_so (not (by (Owner h) now.event)) _ (first_so (not (by (Owner h) now.event)) _ woken)
      (at (or_so (is_this s now.event.job && is_wake now.event.act) (was_woken (Owner h) s past)
      (then_so (not (by (Owner h) now.event)) _ woken)))
    where
      at : ((is_this s now.event.job && is_wake now.event.act) ≡ true) ⊎ (was_woken (Owner h) s past ≡ true)
          → (is_this s now.event.job && is_wake now.event.act || was_woken (Owner h) s (kept h past)) ≡ true
      at (inl here) = or_left (is_this s now.event.job && is_wake now.event.act) _ here
      at (inr earlier) = either (is_this s now.event.job && is_wake now.event.act) _ (before earlier)
  kept_wake false past now there step pool only before woken =
      at (or_so (is_this s now.event.job && is_wake now.event.act) (was_woken (Owner h) s past)
      (then_so (not (by (Owner h) now.event)) _ woken))
    where
      at : ((is_this s now.event.job && is_wake now.event.act) ≡ true) ⊎ (was_woken (Owner h) s past ≡ true)
          → was_woken (Owner h) s (kept h past) ≡ true
      at (inl here) = absurd (let bad : false ≡ true = sym there ∙ job_in_cut setting plan past now step pool h s only
          (wake_of_job past now s pool.0.turns here) in cc)
      at (inr earlier) = before earlier

  woken_kept : (seen : List Moment) → EachMayFollow StepLaw seen → EachMayFollow (PoolLaw setting plan) seen
      → OnlyBy h seen s → was_woken (Owner h) s seen ≡ true → was_woken (Owner h) s (kept h seen) ≡ true
  woken_kept [] steps pool only woken = woken
  woken_kept (now ∷ past) steps pool only woken =
      let only_so = only_before setting plan past now pool h s only in
      kept_wake (is_in_cut h now.event) past now refl steps.0 pool only_so
      (woken_kept past steps.1 pool.1 only_so) woken

fifth_of : (setting : ℕ) (plan : List Bool) (seen : List Moment) → Legal setting plan seen → (h s : ℕ)
    → IsSessionOf (session (acts_of_owner h (events (kept h seen)))) s
    → is_waiting (acts_of_owner h (events (kept h seen))) ≡ true → rests s seen ≡ true
    → was_woken (Owner h) s (kept h seen) ≡ true
fifth_of setting plan seen legal h s of waits resting =
    let same = cut_twice h seen in
    let open_one : IsSessionOf (session (acts_of_owner h (events seen))) s =
    subst (λ es. IsSessionOf (session (own es)) s) same of in
    let found = open_session (session (acts_of_owner h (events seen))) s open_one in
    let held = subst (λ t. holder seen t ≡ Some (Owner h)) found.2
    (session_held setting plan seen legal.pool h found.0 found.1) in
    woken_kept setting plan h s seen legal.steps legal.pool (only_of seen h s held)
    (owners setting plan seen legal h s open_one (subst (λ es. is_waiting (own es) ≡ true) same waits) resting)

pub independent : (setting : ℕ) (plan : List Bool) (seen : List Moment) → Legal setting plan seen → (h : ℕ)
    → IsIndependent h seen
independent setting plan seen legal h = record {
  fourth = λ later past now split. fourth_of h seen later past now (legal.owners h) split;
  fifth = fifth_of setting plan seen legal h;
}
