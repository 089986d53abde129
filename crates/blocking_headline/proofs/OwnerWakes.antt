-- No owner waits for a job that rests without having been woken.
use Rattle.std.proofs.Common.{◌≡◌, refl, ℕ, ◌&&◌, ◌||◌, ◌⊎◌, inl, inr, Bool, true, false, cond}
use Rattle.std.proofs.Common.{List, [], ◌∷◌, Option, Some, None, ap, sym, ◌∙◌}
use Rattle.std.specs.Prelude.{not, map, filter}
use Rattle.std.proofs.lemmas.Bool.{eqb-true}
use mathlib.Core.Path.{subst}
use Rattle.blocking_world_laws.specs.Jobs.{has_ended, holder, is_marked, is_parked, standing}
use Rattle.blocking_world_laws.specs.JobTable.{Kind, next_but_wake, takes_waker}
use Rattle.blocking_world_laws.specs.Legal.{Legal, PoolLaw}
use Rattle.blocking_world_laws.specs.OwnerLaws.{JobActs, JobMayAct, OwnerLaw, OwnerLaws, OwnerMayAct, Works}
use Rattle.blocking_world_laws.specs.OwnerWakes.{IsSessionOf, NoLostOwnerWake, is_waking}
use Rattle.blocking_world_laws.specs.Seen.{AtEveryBeginning, EachMayFollow, events, own, cut, acts_of, acts_of_owner}
use Rattle.blocking_world_laws.specs.Seen.{is_in_cut, is_of_job, is_of_pool, is_nothing, is_owner, is_some_worker}
use Rattle.blocking_world_laws.specs.Seen.{is_this}
use Rattle.blocking_world_laws.specs.Sessions.{Session, kind_of_job, session}
use Rattle.blocking_world_laws.specs.Steps.{StepLaw}
use Rattle.blocking_world_laws.specs.Turns.{FitsTurn, Turn, turn}
use Rattle.blocking_world_laws.specs.Wakes.{was_woken as was_told}
use Rattle.blocking_world_laws.specs.declared.event.Act.{Act}
use Rattle.blocking_world_laws.specs.declared.event.Act.TheVariants.{GaveUp, HolderWoken}
use Rattle.blocking_world_laws.specs.declared.event.Event.{Event}
use Rattle.blocking_world_laws.specs.declared.event.Moment.{Moment}
use Rattle.blocking_world_laws.specs.declared.event.Party.{Party}
use Rattle.blocking_world_laws.specs.declared.event.Party.TheVariants.{Owner, Worker}
use Rattle.blocking_headline.specs.Headline.{IsNotLost, by, is_wake, was_woken}
use Rattle.blocking_headline.proofs.Jobs.{by_job, calm, job_follows, kept, over_next}
use Rattle.blocking_headline.proofs.OwnerCuts.{OnlyBy, job_in_cut, job_of_owner, marked_own, only_before, only_of}
use Rattle.blocking_headline.proofs.OwnerCuts.{owner_plain, session_held}
use Rattle.blocking_headline.proofs.OwnerNotes.{IsOldOrOpen, let_go_waits, no_note, older}
use Rattle.blocking_headline.proofs.Rests.{lies}
use Rattle.blocking_headline.proofs.TaskWakes.{gives_up_stopped, older_laws}
use Rattle.blocking_headline.proofs.TaskWakes.{told_before, waker_first, wakes_now}
use Rattle.blocking_headline.proofs.Turns.{has_waker, is_stopped, of_turn, rests_rid, rid_of}
use Rattle.blocking_headline.proofs.Bools.{same_self, first_so, and_so, or_left, either}

-- ---- the act of a job

-- where the job has a waker to call, its act is that call
owner_calls : (es : List Event) (s : ℕ) (kind : Kind) (at : Turn) (act : Act) → has_waker (acts_of s es) ≡ true
    → (is_stopped at ≡ true → has_waker (acts_of s es) ≡ false) → FitsTurn at act → JobActs es s kind act
    → act ≡ HolderWoken
owner_calls es s kind at (GaveUp waker) has stopped fits law =
    absurd (let bad : true ≡ false = sym has ∙ stopped (gives_up_stopped at waker fits) in cc)
owner_calls es s kind at act has stopped fits law =
    subst (λ a. Works es a act) (waker_first kind (acts_of s es) has) law

by_worker : (b : Bool) (es : List Event) (now : Event) → b ≡ true → OwnerMayAct b es now → JobMayAct es now.job now.act
by_worker true es now e acts = acts
by_worker false es now e acts = absurd cc

its_job : (a b c : Bool) (t s : ℕ) (job : Option ℕ) → job ≡ Some t → a ≡ false → b ≡ false → c ≡ true → t ≡ s
    → (not a && not b && c && is_this s job) ≡ true
its_job a b c t s job of plain done worker is = rw (of, plain, done, worker) (rw is (same_self s))

plain_of : (a b d : Bool) → (not a && not b && d) ≡ true → (a ≡ false) × (b ≡ false)
plain_of false false d e = (refl, refl)
plain_of false true d e = absurd cc
plain_of true b d e = absurd cc

-- an older job of the owner takes no waker
other_job : (h : ℕ) (es : List Event) (laws : OwnerLaws es) (now : Event) (s : ℕ) (r : Session)
    → is_in_cut h now ≡ true → is_some_worker now.party ≡ true → is_of_job s now ≡ false
    → session (own es) ≡ Some r → r.serial ≡ s → (job : Option ℕ) → now.job ≡ job → JobMayAct es job now.act
    → takes_waker now.act ≡ false
other_job h es laws now s r there worker is open_one serial None of acts = absurd acts
other_job h es laws now s r there worker is open_one serial (Some t) of acts = at (older es laws t acts.0)
  where
    kind : Kind
    kind = kind_of_job t (own es)

    at : IsOldOrOpen (session (own es)) t (acts_of t es) → takes_waker now.act ≡ false
    at (inl this) =
        let same : this.0.serial ≡ r.serial = ap serial_of (sym this.1 ∙ open_one) in
        let done = plain_of (is_of_pool now.act) (is_nothing now.act) _ there in
        absurd (let bad : true ≡ false = sym (its_job (is_of_pool now.act) (is_nothing now.act)
        (is_some_worker now.party) t s now.job of done.0 done.1 worker (sym this.2 ∙ same ∙ serial)) ∙ is in cc)
      where
        serial_of : Option Session → ℕ
        serial_of None = t
        serial_of (Some r) = r.serial
    at (inr old) = ap takes_waker (over_next now.act (next_but_wake (kind_of_job t (own es)) (acts_of t es))
        ((calm es laws t).over old) (job_follows es t (kind_of_job t (own es)) now.act acts.1))

-- ---- the moments

no_owner : (h : ℕ) (p : Party) → is_some_worker p ≡ true → is_owner h p ≡ false
no_owner h (Worker w) e = refl
no_owner h _ e = absurd cc

unowned : (a b : Bool) → a ≡ false → not (a && b) ≡ true
unowned true b e = absurd cc
unowned false b e = refl

-- what is in no cut of the owner is nothing that it did
outside : (h : ℕ) (past : List Moment) (now : Moment) → StepLaw past now → is_in_cut h now.event ≡ false
    → not (by (Owner h) now.event) ≡ true
outside h past now law out = at (is_owner h now.event.party) refl
  where
    owner_party : (p : Party) → is_owner h p ≡ true → p ≡ Owner h
    owner_party (Owner g) e = ap Owner (eqb-true g h e)
    owner_party _ e = absurd cc

    idle : (a b o w : Bool) → a ≡ false → o ≡ true → (not a && not b && (o || w)) ≡ false → not (o && not b) ≡ true
    idle false true true w e f g = refl
    idle false false true w e f g = absurd cc
    idle true b o w e f g = absurd cc
    idle false b false w e f g = absurd cc

    at : (b : Bool) → is_owner h now.event.party ≡ b → not (is_owner h now.event.party && not (is_nothing now.event.act)) ≡ true
    at false e = unowned (is_owner h now.event.party) (not (is_nothing now.event.act)) e
    at true e = idle (is_of_pool now.event.act) (is_nothing now.event.act) (is_owner h now.event.party)
        (is_some_worker now.event.party && is_this h now.event.owner)
        (owner_plain past now h law (owner_party now.event.party e)) e out

owner_before : (h : ℕ) (past : List Moment) (now : Moment) → OwnerLaws (cut h (events (now ∷ past)))
    → OwnerLaws (cut h (events past))
owner_before h past now laws = older_laws OwnerLaw (is_in_cut h now.event) now.event (cut h (events past)) laws

-- Where the law sees that a job took its owner's waker, the page sees that the job of the open session
-- called it.
module _ (setting : ℕ) (plan : List Bool) (h s : ℕ) where
  abbrev Earlier : List Moment → Type 0
  Earlier past = (r : Session) → session (acts_of_owner h (events past)) ≡ Some r → r.serial ≡ s
      → was_told (cut h (events past)) ≡ true → has_waker (acts_of s (events past)) ≡ false
      → was_woken (Owner h) s past ≡ true

  owner_moment : (b c : Bool) (past : List Moment) (now : Moment) → is_in_cut h now.event ≡ b
      → is_of_job s now.event ≡ c → EachMayFollow StepLaw (now ∷ past)
      → EachMayFollow (PoolLaw setting plan) (now ∷ past)
      → OwnerLaws (cond b (now.event ∷ cut h (events past)) (cut h (events past))) → OnlyBy h past s
      → Earlier past → (r : Session)
      → session (own (cond b (now.event ∷ cut h (events past)) (cut h (events past)))) ≡ Some r → r.serial ≡ s
      → was_told (cond b (now.event ∷ cut h (events past)) (cut h (events past))) ≡ true
      → has_waker (map (λ e. e.act) (cond c (now.event ∷ filter (is_of_job s) (events past))
      (filter (is_of_job s) (events past)))) ≡ false
      → was_woken (Owner h) s (now ∷ past) ≡ true
  owner_moment false true past now there is steps pool laws only before r open_one serial told free =
      absurd (let bad : false ≡ true = sym there ∙ job_in_cut setting plan past now steps.0 pool h s only is in cc)
  owner_moment false false past now there is steps pool laws only before r open_one serial told free =
      and_so (not (by (Owner h) now.event)) _ (outside h past now steps.0 there)
      (either (is_this s now.event.job && is_wake now.event.act) (was_woken (Owner h) s past)
      (before r open_one serial told free))
  owner_moment true c past now there is steps pool laws only before r open_one serial told free =
      and_so (not (by (Owner h) now.event)) _ (unowned (is_owner h now.event.party) (not (is_nothing now.event.act))
      (no_owner h now.event.party worker)) (at c is free)
    where
      worker : is_some_worker now.event.party ≡ true
      worker = first_so (is_some_worker now.event.party) _ told

      mine : session (own (cut h (events past))) ≡ Some r
      mine = ap session (sym (kept now.event (cut h (events past)) worker)) ∙ open_one

      acts : JobMayAct (cut h (events past)) now.event.job now.event.act
      acts = by_worker (is_some_worker now.event.party) (cut h (events past)) now.event worker laws.0.acts

      earlier : takes_waker now.event.act ≡ false → has_waker (acts_of s (events past)) ≡ false
          → (is_this s now.event.job && is_wake now.event.act || was_woken (Owner h) s past) ≡ true
      earlier none rid = either (is_this s now.event.job && is_wake now.event.act) (was_woken (Owner h) s past)
          (before r mine serial (told_before (is_some_worker now.event.party) (takes_waker now.event.act)
          (was_told (cut h (events past))) told none) rid)

      own_job : (w : Bool) → is_of_job s now.event ≡ true → takes_waker now.event.act ≡ false
          → has_waker (acts_of s (events past)) ≡ w
          → (is_this s now.event.job && is_wake now.event.act || was_woken (Owner h) s past) ≡ true
      own_job false is none has = earlier none has
      own_job true is none has =
          let t = of_turn past now s pool.0.turns is in
          let same = job_of_owner setting plan past steps.1 pool.1 h s only in
          let rid = rid_of setting plan past steps.1 pool.1 s in
          let called = owner_calls (cut h (events past)) s (kind_of_job s (own (cut h (events past)))) (turn past s)
          now.event.act (ap has_waker same ∙ has) (λ e. ap has_waker same ∙ rid.stopped e) t.fits
          (by_job (cut h (events past)) now.event s is acts).1 in
          or_left (is_this s now.event.job && is_wake now.event.act) (was_woken (Owner h) s past)
          (wakes_now s now.event.job now.event.act t.of called)

      at : (c : Bool) → is_of_job s now.event ≡ c
          → has_waker (map (λ e. e.act) (cond c (now.event ∷ filter (is_of_job s) (events past))
          (filter (is_of_job s) (events past)))) ≡ false
          → (is_this s now.event.job && is_wake now.event.act || was_woken (Owner h) s past) ≡ true
      at true is free = own_job (has_waker (acts_of s (events past))) is free refl
      at false is free = earlier (other_job h (cut h (events past)) laws.1 now.event s r there worker is mine serial
          now.event.job refl acts) free

  owner_called : (past : List Moment) → EachMayFollow StepLaw past → EachMayFollow (PoolLaw setting plan) past
      → OwnerLaws (cut h (events past)) → OnlyBy h past s → Earlier past
  owner_called [] steps pool laws only = λ r open_one serial told free. absurd cc
  owner_called (now ∷ past) steps pool laws only =
      let only_so = only_before setting plan past now pool h s only in
      owner_moment (is_in_cut h now.event) (is_of_job s now.event) past now refl refl steps pool laws only_so
      (owner_called past steps.1 pool.1 (owner_before h past now laws) only_so)

-- ---- so no wake of an owner is lost

lasting : (seen : List Moment) → AtEveryBeginning NoLostOwnerWake seen → NoLostOwnerWake seen
lasting [] wakes = wakes
lasting (now ∷ past) wakes = wakes.0

pub open_session : (last : Option Session) (s : ℕ) → IsSessionOf last s → (r : Session) × (last ≡ Some r) × (r.serial ≡ s)
open_session None s is = absurd is
open_session (Some r) s is = (r, refl, is)

pub owners : (setting : ℕ) (plan : List Bool) (seen : List Moment) → Legal setting plan seen
    → (h s : ℕ) → IsSessionOf (session (acts_of_owner h (events seen))) s
    → IsNotLost (Owner h) s (acts_of_owner h (events seen)) seen
owners setting plan seen legal h s of waits resting =
    at (lies setting plan seen legal.pool s resting)
  where
    found : (r : Session) × (session (acts_of_owner h (events seen)) ≡ Some r) × (r.serial ≡ s)
    found = open_session (session (acts_of_owner h (events seen))) s of

    only : OnlyBy h seen s
    only = only_of seen h s (subst (λ t. holder seen t ≡ Some (Owner h)) found.2
        (session_held setting plan seen legal.pool h found.0 found.1))

    woken : (was_told (cut h (events seen)) ≡ true) ⊎ (is_waking s (own (cut h (events seen))) ≡ true)
        → was_woken (Owner h) s seen ≡ true
    woken (inl told) = owner_called setting plan h s seen legal.steps legal.pool (legal.owners h) only found.0 found.1
        found.2 told (rests_rid setting plan seen legal.steps legal.pool s resting)
    woken (inr waking) = absurd (no_note (cut h (events seen)) (legal.owners h) waits s waking)

    at : ((is_parked (standing seen s) || has_ended seen s) ≡ true) ⊎ (is_marked seen s ≡ true)
        → was_woken (Owner h) s seen ≡ true
    at (inl rest) = woken ((lasting seen legal.owner_wakes).owners h s of waits rest)
    at (inr mark) = absurd (let bad : true ≡ false = sym waits
        ∙ let_go_waits (cut h (events seen)) (legal.owners h) (marked_own setting plan seen legal.pool h s only mark) in cc)
