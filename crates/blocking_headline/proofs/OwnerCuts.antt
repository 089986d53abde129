-- What was seen of an owner and of its jobs, moment by moment.
use Rattle.std.proofs.Common.{◌≡◌, refl, ℕ, ◌+◌, ◌==◌, ◌&&◌, ◌||◌, ◌⊎◌, inl, inr, Bool, true, false}
use Rattle.std.proofs.Common.{if◌then◌else◌, List, [], ◌∷◌, ◌++◌, Option, Some, None, ap, sym, ◌∙◌, arith}
use Rattle.std.specs.Prelude.{not, is_some}
use Rattle.std.proofs.lemmas.Bool.{eqb-true}
use mathlib.Core.Path.{subst}
use Rattle.blocking_world_laws.specs.Copies.{CopierAction, AskReader, AskWriter, Tells, next_of_copier}
use Rattle.blocking_world_laws.specs.Jobs.{accepted_by, accepted_jobs, accepts, newcomer, holder, as_owner}
use Rattle.blocking_world_laws.specs.Jobs.{has_ended, is_holder, is_marked, lets_go}
use Rattle.blocking_world_laws.specs.Legal.{PoolLaw}
use Rattle.blocking_world_laws.specs.Lent.{Copier, copiers, copier_in}
use Rattle.blocking_world_laws.specs.Queue.{times}
use Rattle.blocking_world_laws.specs.Seen.{EachMayFollow, joined, events, own, cut, acts_of, acts_of_owner}
use Rattle.blocking_world_laws.specs.Seen.{is_in_cut, is_of_job, is_of_pool, is_nothing, is_some_worker, is_this}
use Rattle.blocking_world_laws.specs.Seen.{is_owner}
use Rattle.blocking_world_laws.specs.Sessions.{Session, session}
use Rattle.blocking_world_laws.specs.Steps.{StepLaw, Happens, IsOfCopier, has_action, named, party, copier_party}
use Rattle.blocking_world_laws.specs.Steps.{asked_by, act_of_copier, owner_of}
use Rattle.blocking_world_laws.specs.TaskLaws.{is_let_go}
use Rattle.blocking_world_laws.specs.Turns.{hand}
use Rattle.blocking_world_laws.specs.declared.event.Act.{Act}
use Rattle.blocking_world_laws.specs.declared.event.Act.TheVariants.{Accepted, Back, HolderDropped, TaskCancelled}
use Rattle.blocking_world_laws.specs.declared.event.Act.TheVariants.{NoAction}
use Rattle.blocking_world_laws.specs.declared.event.Event.{Event}
use Rattle.blocking_world_laws.specs.declared.event.Moment.{Moment}
use Rattle.blocking_world_laws.specs.declared.event.Party.{Party}
use Rattle.blocking_world_laws.specs.declared.event.Party.TheVariants.{Owner, Task, Worker, Pool}
use Rattle.blocking_world_laws.specs.declared.step.Step.{Step}
use Rattle.blocking_world_laws.specs.declared.step.Step.TheVariants.{New, Ask, Own, DropOwner, Copy}
use Rattle.blocking_world_laws.proofs.Beginnings.{keeps}
use Rattle.blocking_world_laws.proofs.Queues.{times_both, times_one, held_so, known_so}
use Rattle.blocking_headline.proofs.Turns.{of_turn}
use Rattle.blocking_headline.proofs.Bools.{same_self, or_so, either}

-- ---- who holds what is in a hand

unheld_new : (b : Bool) (t s : ℕ) (new : Party) (held : Option Party) (jobs : List ℕ) → (t == s) ≡ b
    → (held ≡ None → times s jobs ≡ 0)
    → (if b then Some new else held) ≡ None → times s (jobs ++ t ∷ []) ≡ 0
unheld_new true t s new held jobs same earlier e = absurd cc
unheld_new false t s new held jobs same earlier e =
    let before_it : times s jobs ≡ 0 = earlier e in
    let of_it : times s (t ∷ []) ≡ 0 = times_one s t ∙ ap (λ (b : Bool). if b then 1 else 0) same in
    let both : times s (jobs ++ t ∷ []) ≡ times s jobs + times s (t ∷ []) = times_both s jobs (t ∷ []) in
    omega (arith, both, before_it, of_it)

unheld_by : (act : Act) (s : ℕ) (new : Party) (held : Option Party) (jobs : List ℕ)
    → (held ≡ None → times s jobs ≡ 0) → (if accepts s act then Some new else held) ≡ None
    → times s (joined jobs (accepted_by act)) ≡ 0
unheld_by (Accepted t) s new held jobs earlier e = unheld_new (t == s) t s new held jobs refl earlier e
unheld_by _ s new held jobs earlier e = earlier e

-- a job without a holder was never accepted
unheld : (past : List Moment) (s : ℕ) → holder past s ≡ None → times s (accepted_jobs past) ≡ 0
unheld [] s e = refl
unheld (now ∷ past) s e = unheld_by now.event.act s (newcomer past now.event.party) (holder past s)
    (accepted_jobs past) (unheld past s) e

held_or : (held : Option Party) → (held ≡ None → ⊥) → (p : Party) × (held ≡ Some p)
held_or None never = absurd (never refl)
held_or (Some p) never = (p, refl)

-- what is in a hand has a holder
in_hand_is_held : (setting : ℕ) (plan : List Bool) (past : List Moment) → EachMayFollow (PoolLaw setting plan) past
    → (w s : ℕ) → hand past w ≡ Some s → (p : Party) × (holder past s ≡ Some p)
in_hand_is_held setting plan past laws w s e = held_or (holder past s) (λ none.
    let stands = held_so setting plan past laws w s e in
    let once : times s (accepted_jobs past) ≡ 1 =
    known_so setting plan past laws s ∙ ap (λ st. if is_some st then 1 else 0) stands in
    let never = unheld past s none in
    omega (arith, once, never))

-- nobody but this owner holds the job so far
abbrev pub OnlyBy : ℕ → List Moment → ℕ → Type 0
OnlyBy h past s = (p : Party) → holder past s ≡ Some p → p ≡ Owner h

pub only_before : (setting : ℕ) (plan : List Bool) (past : List Moment) (now : Moment)
    → EachMayFollow (PoolLaw setting plan) (now ∷ past) → (h s : ℕ) → OnlyBy h (now ∷ past) s → OnlyBy h past s
only_before setting plan past now laws h s only p e = only p (keeps setting plan past now laws s p e)

pub only_of : (past : List Moment) (h s : ℕ) → holder past s ≡ Some (Owner h) → OnlyBy h past s
only_of past h s held p e = let both = sym e ∙ held in cc

-- ---- the jobs of an owner

in_cut_of_job : (b c : Bool) (party : Party) (owner : Option ℕ) (w h : ℕ) → b ≡ false → c ≡ false
    → party ≡ Worker w → owner ≡ Some h
    → (not b && not c && (is_owner h party || is_some_worker party && is_this h owner)) ≡ true
in_cut_of_job b c party owner w h own done by owned = rw (own, done, by, owned) (same_self h)

done_of : (a b c d : Bool) → (not a && not b && c && d) ≡ true → b ≡ false
done_of false false c d e = refl
done_of false true c d e = absurd cc
done_of true b c d e = absurd cc

-- an event of a job that only the owner holds is in its cut
pub job_in_cut : (setting : ℕ) (plan : List Bool) (past : List Moment) (now : Moment)
    → StepLaw past now → EachMayFollow (PoolLaw setting plan) (now ∷ past) → (h s : ℕ) → OnlyBy h past s
    → is_of_job s now.event ≡ true → is_in_cut h now.event ≡ true
job_in_cut setting plan past now step laws h s only is =
    let t = of_turn past now s laws.0.turns is in
    let held = in_hand_is_held setting plan past laws.1 t.worker s t.holds in
    let owned : now.event.owner ≡ Some h = step.owned ∙ ap (λ j. owner_of j past) t.of
    ∙ ap as_owner (held.1 ∙ ap Some (only held.0 held.1)) in
    in_cut_of_job (is_of_pool now.event.act) (is_nothing now.event.act) now.event.party now.event.owner
    t.worker h t.plain (done_of (is_of_pool now.event.act) (is_nothing now.event.act)
    (is_some_worker now.event.party) (is_this s now.event.job) is) t.by owned

same_by : (b c : Bool) (s h : ℕ) (e : Event) (es : List Event) → is_of_job s e ≡ b → is_in_cut h e ≡ c
    → (b ≡ true → c ≡ true) → acts_of s (cut h es) ≡ acts_of s es → acts_of s (cut h (e ∷ es)) ≡ acts_of s (e ∷ es)
same_by true true s h e es is there must before = rw there (rw is (ap (λ l. e.act ∷ l) before))
same_by true false s h e es is there must before = absurd (let bad = must refl in cc)
same_by false true s h e es is there must before = rw there (rw is before)
same_by false false s h e es is there must before = rw there (rw is before)

-- the acts of a job that only the owner holds are those in its cut
pub job_of_owner : (setting : ℕ) (plan : List Bool) (past : List Moment) → EachMayFollow StepLaw past
    → EachMayFollow (PoolLaw setting plan) past → (h s : ℕ) → OnlyBy h past s
    → acts_of s (cut h (events past)) ≡ acts_of s (events past)
job_of_owner setting plan [] steps laws h s only = refl
job_of_owner setting plan (now ∷ past) steps laws h s only =
    let earlier = only_before setting plan past now laws h s only in
    same_by (is_of_job s now.event) (is_in_cut h now.event) s h now.event (events past) refl refl
    (job_in_cut setting plan past now steps.0 laws h s earlier)
    (job_of_owner setting plan past steps.1 laws.1 h s earlier)

-- ---- own events

-- a moment is one of the owner's own, or leaves its own acts
abbrev pub IsOwnOrNot : ℕ → List Moment → Moment → Type 0
IsOwnOrNot h past now = (acts_of_owner h (events (now ∷ past)) ≡ acts_of_owner h (events past))
    ⊎ ((now.event.party ≡ Owner h) × (is_in_cut h now.event ≡ true)
    × (acts_of_owner h (events (now ∷ past)) ≡ now.event.act ∷ acts_of_owner h (events past)))

out_of_cut : (a b : Bool) → (a && b && false) ≡ true → ⊥
out_of_cut true true e = cc
out_of_cut true false e = cc
out_of_cut false b e = cc

owner_is : (a b : Bool) (g h : ℕ) → (a && b && (g == h || false)) ≡ true → g ≡ h
owner_is true true g h e = eqb-true g h (either_false (g == h) e)
  where
    either_false : (b : Bool) → (b || false) ≡ true → b ≡ true
    either_false true e = refl
    either_false false e = absurd cc
owner_is true false g h e = absurd cc
owner_is false b g h e = absurd cc

own_by : (p : Party) (h : ℕ) (e : Event) (es : List Event) → e.party ≡ p → is_in_cut h e ≡ true
    → (own (e ∷ cut h es) ≡ own (cut h es))
    ⊎ ((e.party ≡ Owner h) × (own (e ∷ cut h es) ≡ e.act ∷ own (cut h es)))
own_by (Worker w) h e es by there = inl (rw by refl)
own_by (Owner g) h e es by there = inr (
  by ∙ ap Owner (owner_is (not (is_of_pool e.act)) (not (is_nothing e.act)) g h
      (subst (λ p. (not (is_of_pool e.act) && not (is_nothing e.act)
      && (is_owner h p || is_some_worker p && is_this h e.owner)) ≡ true) by there)),
  rw by refl,
)
own_by (Task k) h e es by there = absurd (out_of_cut (not (is_of_pool e.act)) (not (is_nothing e.act))
    (subst (λ p. (not (is_of_pool e.act) && not (is_nothing e.act)
    && (is_owner h p || is_some_worker p && is_this h e.owner)) ≡ true) by there))
own_by Pool h e es by there = absurd (out_of_cut (not (is_of_pool e.act)) (not (is_nothing e.act))
    (subst (λ p. (not (is_of_pool e.act) && not (is_nothing e.act)
    && (is_owner h p || is_some_worker p && is_this h e.owner)) ≡ true) by there))

pub own_or_not : (h : ℕ) (past : List Moment) (now : Moment) → IsOwnOrNot h past now
own_or_not h past now = at (is_in_cut h now.event) refl
  where
    at : (b : Bool) → is_in_cut h now.event ≡ b → IsOwnOrNot h past now
    at false there = inl (rw there refl)
    at true there = by (own_by now.event.party h now.event (events past) refl there)
      where
        by : (own (now.event ∷ cut h (events past)) ≡ own (cut h (events past)))
            ⊎ ((now.event.party ≡ Owner h) × (own (now.event ∷ cut h (events past)) ≡ now.event.act ∷ own (cut h (events past))))
            → IsOwnOrNot h past now
        by (inl same) = inl (rw there same)
        by (inr one) = inr (one.0, there, rw there one.1)

-- ---- who holds the job of the open session

session_by : (setting : ℕ) (plan : List Bool) (past : List Moment) (now : Moment) (h : ℕ) (act : Act) (mine : List Act)
    → EachMayFollow (PoolLaw setting plan) (now ∷ past) → now.event.act ≡ act → now.event.party ≡ Owner h
    → ((r : Session) → session mine ≡ Some r → holder past r.serial ≡ Some (Owner h))
    → (r : Session) → session (act ∷ mine) ≡ Some r → holder (now ∷ past) r.serial ≡ Some (Owner h)
session_by setting plan past now h (Accepted t) mine laws is by before r e =
    let serial : t ≡ r.serial = ap serial_of e in
    subst (λ u. holder (now ∷ past) u ≡ Some (Owner h)) serial (new t now.event.act now.event.party is by)
  where
    serial_of : Option Session → ℕ
    serial_of None = t
    serial_of (Some r) = r.serial

    new : (t : ℕ) (act : Act) (p : Party) → act ≡ Accepted t → p ≡ Owner h
        → (if accepts t act then Some (newcomer past p) else holder past t) ≡ Some (Owner h)
    new t act p is by = rw (is, by) (rw (same_self t) refl)
session_by setting plan past now h Back mine laws is by before r e = absurd cc
session_by setting plan past now h act mine laws is by before r e =
    keeps setting plan past now laws r.serial (Owner h) (before r e)

-- the owner itself
pub session_held : (setting : ℕ) (plan : List Bool) (past : List Moment) → EachMayFollow (PoolLaw setting plan) past
    → (h : ℕ) (r : Session) → session (acts_of_owner h (events past)) ≡ Some r → holder past r.serial ≡ Some (Owner h)
session_held setting plan [] laws h r e = absurd cc
session_held setting plan (now ∷ past) laws h r e =
    at (own_or_not h past now) (session_held setting plan past laws.1 h)
  where
    at : IsOwnOrNot h past now
        → ((r : Session) → session (acts_of_owner h (events past)) ≡ Some r → holder past r.serial ≡ Some (Owner h))
        → holder (now ∷ past) r.serial ≡ Some (Owner h)
    at (inl same) before = keeps setting plan past now laws r.serial (Owner h) (before r (ap session (sym same) ∙ e))
    at (inr one) before = session_by setting plan past now h now.event.act (acts_of_owner h (events past)) laws refl
        one.0 before r (ap session (sym one.2) ∙ e)

-- ---- marks

three : (a b c : Bool) → (a && b && c) ≡ true → (a ≡ true) × (b ≡ true)
three true true c e = (refl, refl)
three true false c e = absurd cc
three false b c e = absurd cc

owner_party : (h : ℕ) (p : Party) → is_owner h p ≡ true → p ≡ Owner h
owner_party h (Owner g) e = ap Owner (eqb-true g h e)
owner_party h _ e = absurd cc

-- the holder that lets go is the owner
holder_is : (h : ℕ) (held : Option Party) (p : Party) → ((q : Party) → held ≡ Some q → q ≡ Owner h)
    → is_holder held p ≡ true → p ≡ Owner h
holder_is h None p only e = absurd cc
holder_is h (Some q) p only e = owner_party h p (subst (λ r. is_holder (Some r) p ≡ true) (only q refl) e)

in_cut_of_drop : (act : Act) (p : Party) (owner : Option ℕ) (h : ℕ) → lets_go act ≡ true → p ≡ Owner h
    → (not (is_of_pool act) && not (is_nothing act) && (is_owner h p || is_some_worker p && is_this h owner)) ≡ true
in_cut_of_drop HolderDropped p owner h e by = rw by (rw (same_self h) refl)
in_cut_of_drop TaskCancelled p owner h e by = rw by (rw (same_self h) refl)
in_cut_of_drop _ p owner h e by = absurd cc

drop_own : (h : ℕ) (past : List Moment) (now : Moment) → lets_go now.event.act ≡ true → now.event.party ≡ Owner h
    → is_let_go (acts_of_owner h (events (now ∷ past))) ≡ true
drop_own h past now goes by =
    let there = in_cut_of_drop now.event.act now.event.party now.event.owner h goes by in
    rw there (rw by (either_left (lets_go now.event.act) _ goes))
  where
    either_left : (b c : Bool) → b ≡ true → (b || c) ≡ true
    either_left true c e = refl
    either_left false c e = absurd cc

-- a job that only the owner holds and that is marked was let go by the owner
pub marked_own : (setting : ℕ) (plan : List Bool) (past : List Moment) → EachMayFollow (PoolLaw setting plan) past
    → (h s : ℕ) → OnlyBy h past s → is_marked past s ≡ true → is_let_go (acts_of_owner h (events past)) ≡ true
marked_own setting plan [] laws h s only e = absurd cc
marked_own setting plan (now ∷ past) laws h s only e =
    at (or_so (lets_go now.event.act && is_holder (holder past s) now.event.party && not (has_ended past s))
    (is_marked past s) e) (own_or_not h past now)
    (marked_own setting plan past laws.1 h s (only_before setting plan past now laws h s only))
  where
    at : ((lets_go now.event.act && is_holder (holder past s) now.event.party && not (has_ended past s)) ≡ true)
        ⊎ (is_marked past s ≡ true) → IsOwnOrNot h past now
        → (is_marked past s ≡ true → is_let_go (acts_of_owner h (events past)) ≡ true)
        → is_let_go (acts_of_owner h (events (now ∷ past))) ≡ true
    at (inl new) own_it before =
        let p = three (lets_go now.event.act) (is_holder (holder past s) now.event.party) (not (has_ended past s)) new in
        drop_own h past now p.0 (holder_is h (holder past s) now.event.party
        (only_before setting plan past now laws h s only) p.1)
    at (inr old) (inl same) before = ap is_let_go same ∙ before old
    at (inr old) (inr one) before = ap is_let_go one.2
        ∙ either (lets_go now.event.act) (is_let_go (acts_of_owner h (events past))) (before old)

-- ---- an owner takes no step of the pool

no_owner_pool : (o : Option Copier) (past : List Moment) (act : Act) (h : ℕ) → IsOfCopier o past act
    → copier_party o past ≡ Owner h → is_of_pool act ≡ false
no_owner_pool None past act h is by = absurd is
no_owner_pool (Some c) past act h is by = at (next_of_copier c past) is by
  where
    at : (action : CopierAction) → act ≡ act_of_copier action → asked_by action c ≡ Owner h → is_of_pool act ≡ false
    at (AskReader call) is by = ap is_of_pool is
    at (AskWriter call) is by = ap is_of_pool is
    at (Tells told) is by = absurd cc

plain_at : (b : Bool) (past : List Moment) (step : Step) (act : Act) (h : ℕ) → has_action past step ≡ b
    → Happens b past step act → party past step ≡ Owner h → is_of_pool act ≡ false
plain_at false past step act h has happens by = ap is_of_pool happens
plain_at true past (New capacity c) act h has happens by = ap is_of_pool happens.1
plain_at true past (Ask g call) act h has happens by = ap is_of_pool happens.1
plain_at true past (Own g) act h has happens by = happens.1
plain_at true past (DropOwner g) act h has happens by = ap is_of_pool happens.1
plain_at true past (Copy k) act h has happens by =
    no_owner_pool (copier_in k (copiers past)) past act h happens.1 by
plain_at true past step act h has happens by = absurd cc

nothing_plain : (act : Act) → is_nothing act ≡ true → is_of_pool act ≡ false
nothing_plain NoAction e = refl
nothing_plain _ e = absurd cc

pub owner_plain : (past : List Moment) (now : Moment) (h : ℕ) → StepLaw past now → now.event.party ≡ Owner h
    → is_of_pool now.event.act ≡ false
owner_plain past now h law by = at (is_nothing now.event.act) refl
  where
    at : (b : Bool) → is_nothing now.event.act ≡ b → is_of_pool now.event.act ≡ false
    at true e = nothing_plain now.event.act e
    at false e = plain_at (has_action past now.step) past now.step now.event.act h refl law.act
        (sym (law.by ∙ ap (λ b. if b then named now.step else party past now.step) e) ∙ by)
