-- The tie of the owners and their laws hold after one more moment, where they held before it.
use Rattle.std.proofs.Common.{◌≡◌, ℕ, ◌==◌, List, [], ◌∷◌, ◌++◌, length, length-append, Bool, true}
use Rattle.std.proofs.Common.{false, refl, sym, ap, ◌∙◌, subst, arith, if◌then◌else◌, Option, Some}
use Rattle.std.proofs.Common.{None, ⊎_elim, inl, inr, suc, ◌||◌, ◌⊎◌, cond, filter, slice_get}
use Rattle.std.proofs.Common.{length-set}
use Rattle.std.proofs.lemmas.Bool.{or_left, or_right}
use Rattle.std.proofs.lemmas.Bool.Decides.{nat_tests}
use Rattle.std.proofs.lemmas.Option.{slice_get_within}
use Rattle.blocking_world_holders.proofs.Types.{Act, Accepted, Made, Event, Moment, Party, ByOwner}
use Rattle.blocking_world_holders.proofs.Types.{Worker, SessionJob}
use Rattle.blocking_world_holders.proofs.Words.{Growth, is_in, Kind, accepted_by, accepts, holder}
use Rattle.blocking_world_holders.proofs.Words.{newcomer, OwnerLaws, acts_of, cut, events}
use Rattle.blocking_world_holders.proofs.Words.{is_in_cut, is_of_job, is_some_worker, own, jobs_of}
use Rattle.blocking_world_holders.proofs.Words.{kind_of_job, is_making, owners, Begins, CallsWaker}
use Rattle.blocking_world_holders.proofs.Words.{GivesUp, IsAnswered, IsAside, IsFresh, IsHeld}
use Rattle.blocking_world_holders.proofs.Words.{MakesOwner, MayTake, OwnerStep, TakesStep}
use Rattle.blocking_world_holders.proofs.Words.{DoesWork as Works, by_its_job, by_owner, event_for}
use Rattle.blocking_world_holders.proofs.Words.{is_of_its_job, owner_after_step as owner_after}
use Rattle.blocking_world_holders.proofs.Words.{OwnerAs, OwnersHold, Owner, Worked, capacity_of}
use Rattle.blocking_world_holders.proofs.Words.{new_owner, worked, JobAs}
use Rattle.blocking_pool.proofs.Places.{got_same, got_other, in_pushed}
use Rattle.blocking_world_holders.proofs.owners.Cuts.{passes}
use Rattle.blocking_world_holders.proofs.owners.Jobs.{worked_on}
use Rattle.blocking_world_holders.proofs.owners.Polls.{Goes}
use Rattle.blocking_world_holders.proofs.owners.Events.{IsPlain, brought, plain_of}
use Rattle.blocking_world_holders.proofs.owners.Steps.{IsNewTo, step_goes, law_of}

-- ---- one more event

-- it stands in no cut but where it is of the owner or of one of its jobs, and there it is the
-- newest
cut_same : (h : ℕ) (e : Event) (seen : List Event) → is_in_cut h e ≡ false
    → cut h (e ∷ seen) ≡ cut h seen
cut_same h e seen out = rw out refl

cut_more : (h : ℕ) (e : Event) (seen : List Event) → is_in_cut h e ≡ true
    → cut h (e ∷ seen) ≡ e ∷ cut h seen
cut_more h e seen inside = rw inside refl

acts_same : (s : ℕ) (e : Event) (seen : List Event) → is_of_job s e ≡ false
    → acts_of s (e ∷ seen) ≡ acts_of s seen
acts_same s e seen out = rw out refl

acts_more : (s : ℕ) (e : Event) (seen : List Event) → is_of_job s e ≡ true
    → acts_of s (e ∷ seen) ≡ e.act ∷ acts_of s seen
acts_more s e seen inside = rw inside refl

-- the acts of a job stand all in a cut that its acts stand in
acts_cut : (s : ℕ) (e : Event) (X Y : List Event) (c : Bool) → acts_of s X ≡ acts_of s Y
    → (is_of_job s e ≡ true → c ≡ true) → acts_of s (cond c (e ∷ X) X) ≡ acts_of s (e ∷ Y)
acts_cut s e X Y c same there = at (is_of_job s e) refl
  where
    into : (c : Bool) → is_of_job s e ≡ false → acts_of s (cond c (e ∷ X) X) ≡ acts_of s X
    into true out = acts_same s e X out
    into false out = refl

    at : (b : Bool) → is_of_job s e ≡ b → acts_of s (cond c (e ∷ X) X) ≡ acts_of s (e ∷ Y)
    at true is = ap (λ b. acts_of s (cond b (e ∷ X) X)) (there is) ∙ acts_more s e X is
        ∙ ap (λ (l : List Act). e.act ∷ l) same ∙ sym (acts_more s e Y is)
    at false is = into c is ∙ same ∙ sym (acts_same s e Y is)

-- a job that did nothing did nothing in a cut
quiet_cut : (h s : ℕ) (seen : List Event) → acts_of s seen ≡ [] → acts_of s (cut h seen) ≡ []
quiet_cut h s [] none = refl
quiet_cut h s (e ∷ seen) none = at (is_of_job s e) refl (quiet_cut h s seen)
  where
    into : (c : Bool) → is_of_job s e ≡ false
        → acts_of s (cond c (e ∷ cut h seen) (cut h seen)) ≡ acts_of s (cut h seen)
    into true out = acts_same s e (cut h seen) out
    into false out = refl

    at : (b : Bool) → is_of_job s e ≡ b → (acts_of s seen ≡ [] → acts_of s (cut h seen) ≡ [])
        → acts_of s (cut h (e ∷ seen)) ≡ []
    at true is earlier = absurd (let some = sym (acts_more s e seen is) ∙ none in cc)
    at false is earlier = into (is_in_cut h e) is ∙ earlier (sym (acts_same s e seen is) ∙ none)

-- ---- who holds a job

owners_stay : (past : List Moment) (now : Moment) → is_making now.event.act ≡ false
    → owners (now ∷ past) ≡ owners past
owners_stay past now none = ap (λ b. length (cond b (now ∷ filter (λ m. is_making m.event.act) past)
    (filter (λ m. is_making m.event.act) past))) none

-- who holds a job that isn't new held it before
holder_old : (past : List Moment) (now : Moment) (s : ℕ) → accepts s now.event.act ≡ false
    → holder (now ∷ past) s ≡ holder past s
holder_old past now s none =
    ap (λ b. if b then Some (newcomer past now.event.party) else holder past s) none

holder_new : (past : List Moment) (now : Moment) (s : ℕ) → accepts s now.event.act ≡ true
    → holder (now ∷ past) s ≡ Some (newcomer past now.event.party)
holder_new past now s new =
    ap (λ b. if b then Some (newcomer past now.event.party) else holder past s) new

nobody : (b : Bool) (new : Party) (before : Option Party) → (if b then Some new else before) ≡ None
    → before ≡ None
nobody b new before e = grind arith

-- a newcomer that is an owner brought the job itself
newcomer_is : (past : List Moment) (p : Party) (h : ℕ) → Some (newcomer past p) ≡ Some (ByOwner h)
    → p ≡ ByOwner h
newcomer_is past p h e = grind arith

-- ---- an event of no owner

pub aside : (row : List Owner) (past : List Moment) (now : Moment) → IsAside past now.event
    → OwnersHold row past → OwnersHold row (now ∷ past)
aside row past now a h =
    let e = now.event in
    let X = events past in
    let same = λ (g : ℕ). cut_same g e X (a.out g) in
    record {
      tied = record {
        count = h.tied.count ∙ sym (owners_stay past now a.none_made);
        each = λ g owner found. subst (OwnerAs owner) (sym (same g)) (h.tied.each g owner found);
        unborn = λ g beyond. same g ∙ h.tied.unborn g beyond;
        unheld = λ s none. unheld s (nobody (accepts s e.act) (newcomer past e.party)
            (holder past s) none) (is_of_job s e) refl;
        begun = λ g s held. subst (λ l. is_in s (jobs_of (own l)) ≡ true) (sym (same g))
            (h.tied.begun g s (was_held g s held (accepts s e.act) refl));
        held = λ g s among. stays_held g s
            (h.tied.held g s (subst (λ l. is_in s (jobs_of (own l)) ≡ true) (same g) among))
            (accepts s e.act) refl;
        acts = λ g s held.
            let before = was_held g s held (accepts s e.act) refl in
            ap (acts_of s) (same g) ∙ h.tied.acts g s before
            ∙ sym (acts_same s e X (not_its g s before (is_of_job s e) refl));
      };
      laws = λ g. subst OwnerLaws (sym (same g)) (h.laws g);
    }
  where
    unheld : (s : ℕ) → holder past s ≡ None → (b : Bool) → is_of_job s now.event ≡ b
        → acts_of s (now.event ∷ events past) ≡ []
    unheld s none true is = absurd (let held = (a.of_task s is).1 in cc)
    unheld s none false is = acts_same s now.event (events past) is ∙ h.tied.unheld s none

    was_held : (g s : ℕ) → holder (now ∷ past) s ≡ Some (ByOwner g) → (b : Bool)
        → accepts s now.event.act ≡ b → holder past s ≡ Some (ByOwner g)
    was_held g s held true new = absurd (a.not_theirs g s new
        (newcomer_is past now.event.party g (sym (holder_new past now s new) ∙ held)))
    was_held g s held false new = sym (holder_old past now s new) ∙ held

    stays_held : (g s : ℕ) → holder past s ≡ Some (ByOwner g) → (b : Bool)
        → accepts s now.event.act ≡ b → holder (now ∷ past) s ≡ Some (ByOwner g)
    stays_held g s held true new = absurd (let none = a.new s new in cc)
    stays_held g s held false new = holder_old past now s new ∙ held

    not_its : (g s : ℕ) → holder past s ≡ Some (ByOwner g) → (b : Bool) → is_of_job s now.event ≡ b
        → is_of_job s now.event ≡ false
    not_its g s held true is = absurd (let task = (a.of_task s is).1 in cc)
    not_its g s held false is = is

-- ---- a new owner

new_tied : (h capacity client first : ℕ) (growth : Growth)
    → OwnerAs (new_owner capacity client) (by_owner h (Made h capacity) first growth ∷ [])
new_tied h capacity client first growth = record {
  made = refl;
  gone = (refl, refl, refl);
  asked = refl;
  polled = refl;
  bytes = λ kind. refl;
  stage = (refl, refl, refl);
  operates = refl;
  last = (refl, refl, refl);
  place = tt;
  ended = λ is_end. absurd (cc);
  earlier = λ s among other. absurd (cc);
  noted = λ number is. absurd (cc);
  told = λ waits. absurd (cc);
}

or_false : (b : Bool) → (b || false) ≡ b
or_false b = grind arith

pub born : (row : List Owner) (past : List Moment) (now : Moment) (capacity client : ℕ)
    → MakesOwner now.event (length row) capacity → OwnersHold row past
    → OwnersHold (row ++ new_owner capacity client ∷ []) (now ∷ past)
born row past now capacity client makes h =
    let e = now.event in
    let X = events past in
    let more = length-append row (new_owner capacity client ∷ []) in
    let grown : owners (now ∷ past) ≡ suc (owners past) =
    ap (λ b. length (cond b (now ∷ filter (λ m. is_making m.event.act) past)
    (filter (λ m. is_making m.event.act) past)))
    (ap (λ (x : Event). is_making x.act) makes.event_is) in
    let count = h.tied.count in
    record {
      tied = record {
        count = omega (arith, more, grown, count);
        each = λ g owner found.
            ⊎_elim
            (λ before. let within = slice_get_within row g owner before in
            subst (OwnerAs owner) (sym (cut_same g e X (in_is g ∙ grind (arith, nat_tests))))
            (h.tied.each g owner before))
            (λ last. let place = last.0 in
            subst (λ (o : Owner). OwnerAs o (cut g (e ∷ X))) last.1
            (subst (OwnerAs (new_owner capacity client)) (sym (alone g (omega (arith, place))))
            (new_tied (length row) capacity client makes.first makes.growth)))
            (in_pushed row (new_owner capacity client) g owner found);
        unborn = λ g beyond. cut_same g e X (in_is g ∙ grind (arith, nat_tests))
            ∙ h.tied.unborn g (omega (arith, more, beyond));
        unheld = λ s none. acts_same s e X (no_job s)
            ∙ h.tied.unheld s (sym (holder_old past now s (not_new s)) ∙ none);
        begun = λ g s held. subst (λ l. is_in s l ≡ true) (sym (jobs_same g))
            (h.tied.begun g s (sym (holder_old past now s (not_new s)) ∙ held));
        held = λ g s among. holder_old past now s (not_new s)
            ∙ h.tied.held g s (subst (λ l. is_in s l ≡ true) (jobs_same g) among);
        acts = λ g s held.
            acts_cut s e (cut g X)
            X (is_in_cut g e) (h.tied.acts g s (sym (holder_old past now s (not_new s)) ∙ held))
            (λ is. absurd (let none = no_job s in cc));
      };
      laws = λ g. law g (length row == g) refl;
    }
  where
    in_is : (g : ℕ) → is_in_cut g now.event ≡ (length row == g)
    in_is g = ap (is_in_cut g) makes.event_is ∙ or_false (length row == g)

    no_job : (s : ℕ) → is_of_job s now.event ≡ false
    no_job s = ap (is_of_job s) makes.event_is

    not_new : (s : ℕ) → accepts s now.event.act ≡ false
    not_new s = ap (λ (x : Event). accepts s x.act) makes.event_is

    made : Event
    made = by_owner (length row) (Made (length row) capacity) makes.first makes.growth

    alone : (g : ℕ) → length row ≡ g → cut g (now.event ∷ events past) ≡ made ∷ []
    alone g same =
        cut_more g now.event (events past) (in_is g ∙ grind (arith, nat_tests))
        ∙ ap (λ (l : List Event). now.event ∷ l) (h.tied.unborn g (omega arith))
        ∙ ap (λ (x : Event). x ∷ []) makes.event_is

    jobs_same : (g : ℕ)
        → jobs_of (own (cut g (now.event ∷ events past))) ≡ jobs_of (own (cut g (events past)))
    jobs_same g = at (is_in_cut g now.event)
      where
        at : (b : Bool)
            → jobs_of (own (cond b (now.event ∷ cut g (events past)) (cut g (events past))))
            ≡ jobs_of (own (cut g (events past)))
        at true = ap (λ (x : Event). jobs_of (own (x ∷ cut g (events past)))) makes.event_is
        at false = refl

    law : (g : ℕ) (b : Bool) → (length row == g) ≡ b → OwnerLaws (cut g (now.event ∷ events past))
    law g true test =
        let same : length row ≡ g = grind (arith, nat_tests) in
        subst OwnerLaws (sym (alone g same)) (
          record {
            acts = refl;
            ends = tt;
            passed = passes None (capacity_of (new_owner capacity client)) (made ∷ [])
                (λ kind. refl) (refl, refl, refl);
          },
          tt,
        )
    law g false test =
        subst OwnerLaws (sym (cut_same g now.event (events past) (in_is g ∙ test))) (h.laws g)

-- ---- a step of one owner

-- what a step looks at is the same in its owner's cut
may_moved : (step : OwnerStep) (owner : Owner) (kind : Kind) (acts same : List Act)
    → (is_of_its_job step ≡ true → same ≡ acts) → MayTake step owner kind acts
    → MayTake step owner kind same
may_moved (Works p) owner kind acts same is may =
    subst (MayTake (Works p) owner kind) (sym (is refl)) may
may_moved (IsAnswered p answer) owner kind acts same is may =
    subst (MayTake (IsAnswered p answer) owner kind) (sym (is refl)) may
may_moved GivesUp owner kind acts same is may =
    subst (MayTake GivesUp owner kind) (sym (is refl)) may
may_moved CallsWaker owner kind acts same is may =
    subst (MayTake CallsWaker owner kind) (sym (is refl)) may
may_moved _ owner kind acts same is may = may

held_of : (b : Bool) (past : List Moment) (g s : ℕ) → b ≡ true → IsHeld b past g s
    → holder past s ≡ Some (ByOwner g)
held_of b past g s is held = grind arith

-- a job that is new was held by nobody, and no job's act brings one
fresh_for : (step : OwnerStep) (past : List Moment) (act : Act) (s : ℕ)
    → IsFresh step past → accepted_by act ≡ brought step → accepts s act ≡ true
    → (holder past s ≡ None) × (is_of_its_job step ≡ false)
fresh_for step past act s fresh new is = by_step step fresh (sym (brings act s is) ∙ new)
  where
    brings : (act : Act) (s : ℕ) → accepts s act ≡ true → accepted_by act ≡ s ∷ []
    brings (Accepted t) s is = let same : t ≡ s = grind (arith, nat_tests) in ap (λ n. n ∷ []) same
    brings _ s is = absurd (cc)

    by_step : (step : OwnerStep) → IsFresh step past → s ∷ [] ≡ brought step
        → (holder past s ≡ None) × (is_of_its_job step ≡ false)
    by_step (Begins number) fresh e = let same : number.serial ≡ s = cc in
        (subst (λ n. holder past n ≡ None) same fresh, refl)
    by_step _ fresh e = absurd (cc)

module _ (old new : List Owner) (past : List Moment) (now : Moment)
    (q : TakesStep past old now.event new) (h : OwnersHold old past) where
  abbrev X : List Event
  X = events past

  plain : IsPlain (brought q.step) q.act
  plain = plain_of q.step q.owner q.act q.act_is

  act_so : now.event.act ≡ q.act
  act_so = ap (λ (x : Event). x.act) q.event_is ∙ at (is_of_its_job q.step)
    where
      at : (b : Bool) → (event_for b q.place q.worker q.job q.act q.first q.growth).act ≡ q.act
      at b = grind arith

  -- where the step stands
  in_is : (g : ℕ) → is_in_cut g now.event ≡ (q.place == g)
  in_is g = ap (is_in_cut g) q.event_is ∙ at (is_of_its_job q.step)
    where
      at : (b : Bool)
          → is_in_cut g (event_for b q.place q.worker q.job q.act q.first q.growth) ≡ (q.place == g)
      at true = rw (plain.pool, plain.nothing) refl
      at false = rw (plain.pool, plain.nothing) (or_false (q.place == g))

  -- whose act it is
  of_job : (s : ℕ) → is_of_job s now.event ≡ true → (is_of_its_job q.step ≡ true) × (q.job ≡ s)
  of_job s is = at (is_of_its_job q.step) (sym (ap (is_of_job s) q.event_is) ∙ is)
    where
      at : (b : Bool) → is_of_job s (event_for b q.place q.worker q.job q.act q.first q.growth)
          ≡ true → (b ≡ true) × (q.job ≡ s)
      at true is =
          let test : (q.job == s) ≡ true = sym (job_test refl) ∙ is in
          (refl, grind (arith, nat_tests))
        where
          job_test : true ≡ true → is_of_job s
              (by_its_job q.place q.worker q.job q.act q.first q.growth) ≡ (q.job == s)
          job_test e = rw (plain.pool, plain.nothing) refl
      at false is = absurd (let none = sym none_test ∙ is in cc)
        where
          none_test : is_of_job s (by_owner q.place q.act q.first q.growth) ≡ false
          none_test = rw (plain.pool, plain.nothing) refl

  its_holder : is_of_its_job q.step ≡ true → holder past q.job ≡ Some (ByOwner q.place)
  its_holder is = held_of (is_of_its_job q.step) past q.place q.job is q.held

  tie : OwnerAs q.owner (cut q.place X)
  tie = h.tied.each q.place q.owner q.there

  fresh_in : (step : OwnerStep) → IsFresh step past → IsNewTo step (cut q.place X)
  fresh_in (Begins number) fresh = (
    at (is_in number.serial (jobs_of (own (cut q.place X)))) refl,
    quiet_cut q.place number.serial X (h.tied.unheld number.serial fresh),
  )
    where
      at : (b : Bool) → is_in number.serial (jobs_of (own (cut q.place X))) ≡ b
          → is_in number.serial (jobs_of (own (cut q.place X))) ≡ false
      at true is = absurd (let held = h.tied.held q.place number.serial is in cc)
      at false is = is
  fresh_in _ fresh = tt

  goes : Goes (owner_after q.step q.owner) (cut q.place X) now.event
  goes =
      subst (Goes (owner_after q.step q.owner) (cut q.place X)) (sym q.event_is)
      (step_goes q.step q.owner q.place q.worker q.job q.first q.growth (cut q.place X) q.act tie
      (record {
        may = may_moved q.step q.owner (kind_of_job q.job (own (cut q.place X))) (acts_of q.job X)
            (acts_of q.job (cut q.place X)) (λ is. h.tied.acts q.place q.job (its_holder is)) q.may;
        among = λ is. h.tied.begun q.place q.job (its_holder is);
        fresh = fresh_in q.step q.fresh;
      }) q.act_is)

  -- a job that is new was held by nobody, and an owner brings it
  fresh : (s : ℕ) → accepts s now.event.act ≡ true
      → (holder past s ≡ None) × (is_of_its_job q.step ≡ false)
  fresh s is = fresh_for q.step past q.act s q.fresh plain.new (sym (ap (accepts s) act_so) ∙ is)

  not_again : (s : ℕ) (p : Party) → holder past s ≡ Some p → (b : Bool)
      → accepts s now.event.act ≡ b → accepts s now.event.act ≡ false
  not_again s p held true is = absurd (let none = (fresh s is).0 in cc)
  not_again s p held false is = is

  stays_held : (s : ℕ) (p : Party) → holder past s ≡ Some p → holder (now ∷ past) s ≡ Some p
  stays_held s p held =
      holder_old past now s (not_again s p held (accepts s now.event.act) refl) ∙ held

  party_is : is_of_its_job q.step ≡ false → now.event.party ≡ ByOwner q.place
  party_is is = ap (λ (x : Event). x.party) q.event_is
      ∙ ap (λ b. (event_for b q.place q.worker q.job q.act q.first q.growth).party) is

  -- a job is new, and the owner's, or it was held before
  which : (g s : ℕ)
      → holder (now ∷ past) s ≡ Some (ByOwner g) → (b : Bool) → accepts s now.event.act ≡ b
      → ((accepts s now.event.act ≡ true) × (q.place ≡ g)) ⊎ (holder past s ≡ Some (ByOwner g))
  which g s held true is =
      let mine = newcomer_is past now.event.party g (sym (holder_new past now s is) ∙ held) in
      let place : ByOwner q.place ≡ ByOwner g = sym (party_is (fresh s is).1) ∙ mine in
      inl (is, cc)
  which g s held false is = inr (sym (holder_old past now s is) ∙ held)

  -- the jobs of an owner after the step: the new one, and those that were
  jobs_more : (s : ℕ) → accepts s now.event.act ≡ true
      → is_in s (jobs_of (own (now.event ∷ cut q.place X))) ≡ true
  jobs_more s is = subst (λ l. is_in s (jobs_of l) ≡ true) (sym (own_more (fresh s is).1))
      (first (jobs_of (now.event.act ∷ own (cut q.place X))) now.event.act is)
    where
      own_more : is_of_its_job q.step ≡ false
          → own (now.event ∷ cut q.place X) ≡ now.event.act ∷ own (cut q.place X)
      own_more none = rw (party_is none) refl

      first : List ℕ → (act : Act) → accepts s act ≡ true
          → is_in s (jobs_of (act ∷ own (cut q.place X))) ≡ true
      first l (Accepted t) is = let same : (s == t) ≡ true = grind (arith, nat_tests) in
          or_left (s == t) (is_in s (jobs_of (own (cut q.place X)))) same
      first l _ is = absurd (cc)

  -- and no others
  jobs_old : (s : ℕ) → is_in s (jobs_of (own (now.event ∷ cut q.place X))) ≡ true
      → ((accepts s now.event.act ≡ true) × (is_of_its_job q.step ≡ false))
      ⊎ (is_in s (jobs_of (own (cut q.place X))) ≡ true)
  jobs_old s among = at (is_of_its_job q.step) refl
    where
      by_act : (act : Act)
          → is_of_its_job q.step ≡ false → is_in s (jobs_of (act ∷ own (cut q.place X))) ≡ true
          → ((accepts s act ≡ true) × (is_of_its_job q.step ≡ false))
          ⊎ (is_in s (jobs_of (own (cut q.place X))) ≡ true)
      by_act (Accepted t) none among = by (s == t) refl among
        where
          by : (b : Bool) → (s == t) ≡ b → b || is_in s (jobs_of (own (cut q.place X))) ≡ true
              → (((t == s) ≡ true) × (is_of_its_job q.step ≡ false))
              ⊎ (is_in s (jobs_of (own (cut q.place X))) ≡ true)
          by true test among = inl (grind (arith, nat_tests), none)
          by false test among = inr among
      by_act _ none among = inr among

      at : (b : Bool) → is_of_its_job q.step ≡ b
          → ((accepts s now.event.act ≡ true) × (is_of_its_job q.step ≡ false))
          ⊎ (is_in s (jobs_of (own (cut q.place X))) ≡ true)
      at true is =
          let worker : now.event.party ≡ Worker q.worker = ap (λ (x : Event). x.party) q.event_is
          ∙ ap (λ b. (event_for b q.place q.worker q.job q.act q.first q.growth).party) is in
          let same : own (now.event ∷ cut q.place X) ≡ own (cut q.place X) = rw worker refl in
          inr (subst (λ l. is_in s (jobs_of l) ≡ true) same among)
      at false is =
          let more : own (now.event ∷ cut q.place X) ≡ now.event.act ∷ own (cut q.place X) =
          rw (party_is is) refl in
          by_act now.event.act is (subst (λ l. is_in s (jobs_of l) ≡ true) more among)

  -- those that were stay
  jobs_stay : (s : ℕ) → is_in s (jobs_of (own (cut q.place X))) ≡ true
      → is_in s (jobs_of (own (now.event ∷ cut q.place X))) ≡ true
  jobs_stay s among = at (is_some_worker now.event.party) refl
    where
      by_act : (act : Act) → is_in s (jobs_of (act ∷ own (cut q.place X))) ≡ true
      by_act (Accepted t) = or_right (s == t) (is_in s (jobs_of (own (cut q.place X)))) among
      by_act _ = among

      at : (b : Bool) → is_some_worker now.event.party ≡ b
          → is_in s (jobs_of (own (now.event ∷ cut q.place X))) ≡ true
      at true is = rw is among
      at false is = rw is (by_act now.event.act)

  each : (g : ℕ) (b : Bool) → (q.place == g) ≡ b → (owner : Owner) → slice_get new g ≡ Some owner
      → OwnerAs owner (cut g (now.event ∷ X))
  each g true test owner found =
      let place : q.place ≡ g = grind (arith, nat_tests) in
      let there = got_same old q.place (owner_after q.step q.owner)
      (slice_get_within old q.place q.owner q.there) in
      let here = ap (λ (l : List Owner). slice_get l q.place) (sym q.after_is)
      ∙ subst (λ j. slice_get new j ≡ Some owner) (sym place) found in
      let same : owner_after q.step q.owner ≡ owner = cc in
      subst (λ (o : Owner). OwnerAs o (cut g (now.event ∷ X))) same
      (subst (λ j. OwnerAs (owner_after q.step q.owner) (cut j (now.event ∷ X))) place
      (subst (OwnerAs (owner_after q.step q.owner)) (sym
      (cut_more q.place now.event X (in_is q.place ∙ grind (arith, nat_tests)))) goes.tie))
  each g false test owner found =
      let other : q.place ≡ g → ⊥ = λ same. grind (arith, nat_tests) in
      let here = ap (λ (l : List Owner). slice_get l g) (sym q.after_is) ∙ found in
      subst (OwnerAs owner) (sym (cut_same g now.event X (in_is g ∙ test))) (h.tied.each g owner
      (sym (got_other old q.place g (owner_after q.step q.owner) other) ∙ here))

  -- a job that its owner holds stands in its cut
  in_jobs : (g s : ℕ) (b : Bool) → (q.place == g) ≡ b
      → ((accepts s now.event.act ≡ true) × (q.place ≡ g)) ⊎ (holder past s ≡ Some (ByOwner g))
      → is_in s (jobs_of (own (cut g (now.event ∷ X)))) ≡ true
  in_jobs g s true test held =
      let place : q.place ≡ g = grind (arith, nat_tests) in
      subst (λ j. is_in s (jobs_of (own (cut j (now.event ∷ X)))) ≡ true) place
      (subst (λ l. is_in s (jobs_of (own l)) ≡ true)
      (sym (cut_more q.place now.event X (in_is q.place ∙ grind (arith, nat_tests))))
      (⊎_elim (λ brought. jobs_more s brought.0) (λ held. jobs_stay s (h.tied.begun q.place s
      (subst (λ j. holder past s ≡ Some (ByOwner j)) (sym place) held))) held))
  in_jobs g s false test held =
      subst (λ l. is_in s (jobs_of (own l)) ≡ true) (sym (cut_same g now.event X (in_is g ∙ test)))
      (⊎_elim (λ brought. absurd (let place = brought.1 in grind (arith, nat_tests)))
      (λ held. h.tied.begun g s held) held)

  still_held : (g s : ℕ) (b : Bool)
      → (q.place == g) ≡ b → is_in s (jobs_of (own (cut g (now.event ∷ X)))) ≡ true
      → holder (now ∷ past) s ≡ Some (ByOwner g)
  still_held g s true test among =
      let place : q.place ≡ g = grind (arith, nat_tests) in
      let here = subst (λ l. is_in s (jobs_of (own l)) ≡ true)
      (cut_more q.place now.event X (in_is q.place ∙ grind (arith, nat_tests)))
      (subst (λ j. is_in s (jobs_of (own (cut j (now.event ∷ X)))) ≡ true) (sym place) among) in
      subst (λ j. holder (now ∷ past) s ≡ Some (ByOwner j)) place
      (⊎_elim (λ brought. holder_new past now s brought.0
      ∙ ap (λ p. Some (newcomer past p)) (party_is brought.1)) (λ before.
      stays_held s (ByOwner q.place) (h.tied.held q.place s before)) (jobs_old s here))
  still_held g s false test among =
      stays_held s (ByOwner g) (h.tied.held g s (subst (λ l. is_in s (jobs_of (own l)) ≡ true)
      (cut_same g now.event X (in_is g ∙ test)) among))

  quiet : (s : ℕ) → holder past s ≡ None → (b : Bool) → is_of_job s now.event ≡ b
      → acts_of s (now.event ∷ X) ≡ []
  quiet s none true is =
      let of = of_job s is in
      absurd (let held =
      subst (λ j. holder past j ≡ Some (ByOwner q.place)) of.1 (its_holder of.0) in cc)
  quiet s none false is = acts_same s now.event X is ∙ h.tied.unheld s none

  all_acts : (g s : ℕ)
      → ((accepts s now.event.act ≡ true) × (q.place ≡ g)) ⊎ (holder past s ≡ Some (ByOwner g))
      → acts_of s (cut g (now.event ∷ X)) ≡ acts_of s (now.event ∷ X)
  all_acts g s (inl brought) =
      let none = (fresh s brought.0).0 in
      let whole = quiet s none (is_of_job s now.event) refl in
      quiet_cut g s (now.event ∷ X) whole ∙ sym whole
  all_acts g s (inr held) =
      acts_cut s now.event (cut g X) X (is_in_cut g now.event) (h.tied.acts g s held)
      (λ is.
      let of = of_job s is in
      let mine = subst (λ j. holder past j ≡ Some (ByOwner q.place)) of.1 (its_holder of.0) in
      let same : q.place ≡ g = cc in
      in_is g ∙ grind (arith, nat_tests))

  law : (g : ℕ) (b : Bool) → (q.place == g) ≡ b → OwnerLaws (cut g (now.event ∷ X))
  law g true test =
      let place : q.place ≡ g = grind (arith, nat_tests) in
      subst (λ j. OwnerLaws (cut j (now.event ∷ X))) place
      (subst OwnerLaws
      (sym (cut_more q.place now.event X (in_is q.place ∙ grind (arith, nat_tests))))
      (law_of (owner_after q.step q.owner) (cut q.place X) now.event goes, h.laws q.place))
  law g false test = subst OwnerLaws (sym (cut_same g now.event X (in_is g ∙ test))) (h.laws g)

  pub stepped : OwnersHold new (now ∷ past)
  stepped =
      let count : length new ≡ length old = ap (λ (l : List Owner). length l) q.after_is
      ∙ length-set old q.place (owner_after q.step q.owner) in
      let there = slice_get_within old q.place q.owner q.there in
      record {
        tied = record {
          count =
              count ∙ h.tied.count ∙ sym (owners_stay past now (ap is_making act_so ∙ plain.made));
          each = λ g owner found. each g (q.place == g) refl owner found;
          unborn = λ g beyond. cut_same g now.event X (in_is g ∙ grind (arith, nat_tests))
              ∙ h.tied.unborn g (omega (arith, count, beyond));
          unheld = λ s none. quiet s (nobody (accepts s now.event.act)
              (newcomer past now.event.party) (holder past s) none) (is_of_job s now.event) refl;
          begun = λ g s held.
              in_jobs g s (q.place == g) refl (which g s held (accepts s now.event.act) refl);
          held = λ g s among. still_held g s (q.place == g) refl among;
          acts = λ g s held. all_acts g s (which g s held (accepts s now.event.act) refl);
        };
        laws = λ g. law g (q.place == g) refl;
      }

-- how far a job is after an act of its own, by all that it has done
pub job_after : (row : List Owner) (past : List Moment) → OwnersHold row past
    → (g s : ℕ) (owner : Owner) → slice_get row g ≡ Some owner → holder past s ≡ Some (ByOwner g)
    → (p : SessionJob) → JobAs p (acts_of s (events past)) → (done : Worked)
    → worked p owner ≡ Some done → JobAs done.job (done.act ∷ acts_of s (events past))
job_after row past h g s owner found held p r done does =
    worked_on p (acts_of s (events past)) owner done r does
