-- The first owner keeps its law, and of any other nothing was seen.
use Rattle.std.proofs.Common.{rules, ◌≡◌, refl, ℕ, ◌==◌, ◌&&◌, ◌||◌, ◌⊎◌, inl, inr, Bool, true}
use Rattle.std.proofs.Common.{false, cond, List, [], ◌∷◌, length, Option, Some, None, arith}
use Rattle.std.specs.Prelude.{not, if◌then◌else◌}
use Rattle.std.proofs.lemmas.Bool.Decides.{nat_tests}
use mathlib.Core.Path.{subst, sym}
use Rattle.blocking_world_laws.specs.Jobs.{accepts, holder, is_parked, newcomer, standing}
use Rattle.blocking_world_laws.specs.OwnerWakes.{IsNotLost, IsSessionOf, IsStuck, NoLostOwnerWake}
use Rattle.blocking_world_laws.specs.OwnerWakes.{ParksRightly, is_waking}
use Rattle.blocking_world_laws.specs.JobTable.{Kind, Writing}
use Rattle.blocking_world_laws.specs.Passed.{inside, last_kind}
use Rattle.blocking_world_laws.specs.Seen.{AtEveryBeginning, events, cut, own, is_owner}
use Rattle.blocking_world_laws.specs.Seen.{is_some_worker, is_this, is_of_pool, is_nothing}
use Rattle.blocking_world_laws.specs.Seen.{is_in_cut}
use Rattle.blocking_world_laws.specs.Sessions.{Session, capacity, is_shut, session}
use Rattle.blocking_world_laws.specs.Wakes.{is_at_rest, is_waiting, was_woken}
use Rattle.blocking_world_laws.specs.OwnerLaws.{OwnerLaws}
use Rattle.blocking_world_laws.specs.Traces.{◌▸◌}
use Rattle.blocking_world_laws.specs.OpTraces.{operation_over, inner_replied}
use Rattle.blocking_world_laws.specs.OwnerTraces.{polls, end_read, stop_back}
use Rattle.blocking_world_laws.specs.declared.event.Act.{Act}
use Rattle.blocking_world_laws.specs.declared.event.Act.TheVariants.{Accepted, Replied}
use Rattle.blocking_world_laws.specs.declared.event.Event.{Event}
use Rattle.blocking_world_laws.specs.declared.event.Moment.{Moment}
use Rattle.blocking_world_laws.specs.declared.event.Party.{Party}
use Rattle.blocking_world_laws.specs.declared.event.Party.TheVariants.{Owner, Pool}
use Rattle.blocking_world_laws.specs.declared.event.Reply.TheVariants.{Handle}
use Rattle.blocking_world_law_tests.proofs.NoCopies.{none_copies}
use Rattle.blocking_world_law_tests.proofs.Orders.{legal_so, pooled_so}
use Rattle.blocking_world_law_tests.proofs.owners.legality.sessions.Goals as goal

-- whether this is the first owner, or none
abbrev is_first : Option ℕ → Bool
is_first None = true
is_first (Some h) = h == 0

-- the owner that a party is
abbrev owner_in : Party → Option ℕ
owner_in (Owner h) = Some h
owner_in _ = None

-- whether events are of the first owner or of none
abbrev are_firsts : List Event → Bool
are_firsts [] = true
are_firsts (e ∷ seen) = (is_first (owner_in e.party) && is_first e.owner) && are_firsts seen

both_are : (b c : Bool) → (b && c) ≡ true → (b ≡ true) × (c ≡ true)
both_are true c e = (refl, e)
both_are false c e = absurd cc

not_owner : (party : Party) (h : ℕ) → (0 == h) ≡ false → is_first (owner_in party) ≡ true
    → is_owner h party ≡ false
not_owner (Owner g) h other first = grind (arith, nat_tests)
not_owner _ h other first = refl

not_this : (owner : Option ℕ) (h : ℕ) → (0 == h) ≡ false → is_first owner ≡ true
    → is_this h owner ≡ false
not_this None h other first = refl
not_this (Some g) h other first = grind (arith, nat_tests)

outside : (b c d is its : Bool) → is ≡ false → its ≡ false
    → (not b && not c && (is || d && its)) ≡ false
outside true c d is its e f = refl
outside false true d is its e f = refl
outside false false true is its e f = rw (e, f) refl
outside false false false is its e f = rw e refl

no_more : (b : Bool) (e : Event) (seen : List Event) → b ≡ false → seen ≡ []
    → cond b (e ∷ seen) seen ≡ []
no_more true e seen out none = absurd cc
no_more false e seen out none = none

-- of another owner nothing is seen there
none_of_other : (h : ℕ) (seen : List Event) → (0 == h) ≡ false → are_firsts seen ≡ true
    → cut h seen ≡ []
none_of_other h [] other firsts = refl
none_of_other h (e ∷ seen) other firsts =
    let both =
    both_are (is_first (owner_in e.party) && is_first e.owner) (are_firsts seen) firsts in
    let its = both_are (is_first (owner_in e.party)) (is_first e.owner) both.0 in
    no_more (is_in_cut h e) e (cut h seen)
    (outside (is_of_pool e.act) (is_nothing e.act) (is_some_worker e.party) (is_owner h e.party)
    (is_this h e.owner)
    (not_owner e.party h other its.0) (not_this e.owner h other its.1))
    (none_of_other h seen other both.1)

is_zero : (h : ℕ) → (0 == h) ≡ true → 0 ≡ h
is_zero h e = grind (arith, nat_tests)

-- so each owner keeps its law, where the first does
by_first : (b : Bool) (h : ℕ) (seen : List Event) → (0 == h) ≡ b → are_firsts seen ≡ true
    → OwnerLaws (cut 0 seen) → OwnerLaws (cut h seen)
by_first true h seen same firsts laws = subst (λ g. OwnerLaws (cut g seen)) (is_zero h same) laws
by_first false h seen other firsts laws =
    subst OwnerLaws (sym (none_of_other h seen other firsts)) tt

-- ---- no wake is lost

-- whether the first owner alone began sessions, with the first job alone
abbrev is_first_job : Act → Bool
is_first_job (Accepted s) = s == 1
is_first_job _ = true

abbrev is_only : List Moment → Bool
is_only [] = true
is_only (now ∷ past) =
    (is_first_job now.event.act && is_first (owner_in now.event.party)) && is_only past

first_job : (act : Act) (s : ℕ) → accepts s act ≡ true → is_first_job act ≡ true → 1 ≡ s
first_job (Accepted t) s accepted first = grind (arith, nat_tests)
first_job _ s accepted first = absurd cc

first_owner : (past : List Moment) (party : Party) (h : ℕ)
    → Some (newcomer past party) ≡ Some (Owner h) → is_first (owner_in party) ≡ true → 0 ≡ h
first_owner past (Owner g) h new first = let same : g ≡ h = cc in grind (arith, nat_tests)
first_owner past Pool h new first = absurd cc
first_owner past _ h new first = absurd cc

-- so it holds that job, and no other owner holds any
held_is : (past : List Moment) (h s : ℕ) → is_only past ≡ true → holder past s ≡ Some (Owner h)
    → (1 ≡ s) × (0 ≡ h)
held_is [] h s only held = absurd cc
held_is (now ∷ past) h s only held =
    by (accepts s now.event.act) refl held (held_is past h s (both_are _ (is_only past) only).1)
  where
    first : (is_first_job now.event.act ≡ true) × (is_first (owner_in now.event.party) ≡ true)
    first = both_are (is_first_job now.event.act) (is_first (owner_in now.event.party))
        (both_are _ (is_only past) only).0

    by : (b : Bool) → accepts s now.event.act ≡ b
        → (if b then Some (newcomer past now.event.party) else holder past s) ≡ Some (Owner h)
        → (holder past s ≡ Some (Owner h) → (1 ≡ s) × (0 ≡ h)) → (1 ≡ s) × (0 ≡ h)
    by true is held before =
        (first_job now.event.act s is first.0, first_owner past now.event.party h held first.1)
    by false is held before = before held

-- whether the first owner's session is that of the first job
abbrev is_of_first : Option Session → Bool
is_of_first None = true
is_of_first (Some r) = r.serial == 1

session_is : (r : Option Session) (s : ℕ) → is_of_first r ≡ true → IsSessionOf r s → 1 ≡ s
session_is None s first of = absurd of
session_is (Some r) s first of = grind (arith, nat_tests)

-- whether the first owner doesn't wait in vain, and whether its job has reason to park
abbrev is_told : List Moment → Bool
is_told past =
    not (is_waiting (own (cut 0 (events past)))) || (not (is_at_rest past 1)
    || (was_woken (cut 0 (events past)) || is_waking 1 (own (cut 0 (events past)))))

abbrev is_empty : List ℕ → Bool
is_empty [] = true
is_empty _ = false

abbrev is_stuck : Kind → List Event → Bool
is_stuck Writing cut = is_empty (inside cut)
is_stuck kind cut = length (inside cut) == capacity kind (own cut)

abbrev has_reason : List Moment → Bool
has_reason past =
    not (is_parked (standing past 1)) || (is_waking 1 (own (cut 0 (events past)))
    || (not (is_shut (own (cut 0 (events past))))
    && is_stuck (last_kind (cut 0 (events past))) (cut 0 (events past))))

stuck_is : (kind : Kind) (cut : List Event) → is_stuck kind cut ≡ true → IsStuck kind cut
stuck_is Writing cut stuck = nothing (inside cut) stuck
  where
    nothing : (bytes : List ℕ) → is_empty bytes ≡ true → bytes ≡ []
    nothing [] none = refl
    nothing (b ∷ bytes) none = absurd cc
stuck_is _ cut stuck = grind (arith, nat_tests)

told_by : (waits rests woken waking : Bool) → not waits || (not rests || (woken || waking)) ≡ true
    → waits ≡ true → rests ≡ true → (woken ≡ true) ⊎ (waking ≡ true)
told_by true true true waking e w r = inl refl
told_by true true false true e w r = inr refl
told_by true true false false e w r = absurd cc
told_by true false woken waking e w r = absurd cc
told_by false rests woken waking e w r = absurd cc

reason_by : (parked waking shut stuck : Bool) → not parked || (waking || (not shut && stuck)) ≡ true
    → parked ≡ true → waking ≡ false → (shut ≡ false) × (stuck ≡ true)
reason_by true false false stuck e p w = (refl, e)
reason_by true false true stuck e p w = absurd cc
reason_by true true shut stuck e p w = absurd cc
reason_by false waking shut stuck e p w = absurd cc

-- whether all this holds at this point, and at every beginning
abbrev is_right : List Moment → Bool
is_right past = (are_firsts (events past) && is_only past)
    && (is_of_first (session (own (cut 0 (events past)))) && (is_told past && has_reason past))

abbrev are_right : List Moment → Bool
are_right [] = is_right []
are_right (now ∷ past) = is_right (now ∷ past) && are_right past

module _ (past : List Moment) (right : is_right past ≡ true) where
  firsts : (are_firsts (events past) ≡ true) × (is_only past ≡ true)
  firsts = both_are (are_firsts (events past)) (is_only past)
      (both_are (are_firsts (events past) && is_only past) _ right).0

  others : (is_of_first (session (own (cut 0 (events past)))) ≡ true)
      × ((is_told past && has_reason past) ≡ true)
  others =
      both_are (is_of_first (session (own (cut 0 (events past))))) (is_told past && has_reason past)
      (both_are (are_firsts (events past) && is_only past) _ right).1

  told_first : IsNotLost past 1 (cut 0 (events past))
  told_first waits rests =
      told_by (is_waiting (own (cut 0 (events past)))) (is_at_rest past 1)
      (was_woken (cut 0 (events past))) (is_waking 1 (own (cut 0 (events past))))
      (both_are (is_told past) (has_reason past) others.1).0 waits rests

  reason_first : ParksRightly past 1 (cut 0 (events past))
  reason_first parked still =
      let stuck = is_stuck (last_kind (cut 0 (events past))) (cut 0 (events past)) in
      let why =
      reason_by (is_parked (standing past 1)) (is_waking 1 (own (cut 0 (events past))))
      (is_shut (own (cut 0 (events past)))) stuck
      (both_are (is_told past) (has_reason past) others.1).1 parked still in
      (why.0, stuck_is (last_kind (cut 0 (events past))) (cut 0 (events past)) why.1)

  owner_is_told : (b : Bool) (h s : ℕ) → (0 == h) ≡ b
      → IsSessionOf (session (own (cut h (events past)))) s → IsNotLost past s (cut h (events past))
  owner_is_told true h s same of =
      let zero = is_zero h same in
      let one = session_is (session (own (cut 0 (events past)))) s others.0
      (subst (λ g. IsSessionOf (session (own (cut g (events past)))) s) (sym zero) of) in
      subst (λ g. IsNotLost past s (cut g (events past))) zero
      (subst (λ n. IsNotLost past n (cut 0 (events past))) one told_first)
  owner_is_told false h s other of = absurd (subst (λ c. IsSessionOf (session (own c)) s)
      (none_of_other h (events past) other firsts.0) of)

  none_is_lost : NoLostOwnerWake past
  none_is_lost = record {
    owners = λ h s of. owner_is_told (0 == h) h s refl of;
    jobs = λ h s held.
        (let its = held_is past h s firsts.1 held in
        subst (λ g. ParksRightly past s (cut g (events past))) its.1
        (subst (λ n. ParksRightly past n (cut 0 (events past))) its.0 reason_first));
  }

none_is_ever_lost : (past : List Moment) → are_right past ≡ true
    → AtEveryBeginning NoLostOwnerWake past
none_is_ever_lost [] right = none_is_lost [] right
none_is_ever_lost (now ∷ past) right =
    let both = both_are (is_right (now ∷ past)) (are_right past) right in
    (none_is_lost (now ∷ past) both.0, none_is_ever_lost past both.1)

-- ---- whole sessions

read_whole : OwnerLaws (cut 0 (events end_read))
read_whole = search rules

stopped_whole : OwnerLaws (cut 0 (events (stop_back ▸ polls (Replied Handle) 2)))
stopped_whole = search rules

operated_whole : OwnerLaws (cut 0 (events operation_over))
operated_whole = search rules

returned_whole : OwnerLaws (cut 0 (events inner_replied))
returned_whole = search rules

pub returns-clause-accepts_operation : goal.returns-clause-accepts_operation
returns-clause-accepts_operation c = record {
  steps = search rules;
  pool = search rules;
  owners = λ h. by_first (0 == h) h (events operation_over) refl refl operated_whole;
  copies = none_copies operation_over refl;
  tasks = search rules;
  wakes = search rules;
  owner_wakes = none_is_ever_lost operation_over refl;
  served = search rules;
  staffed = search rules;
}

pub returns-clause-accepts_return : goal.returns-clause-accepts_return
returns-clause-accepts_return c = record {
  steps = search rules;
  pool = pooled_so (search rules);
  owners = λ h. by_first (0 == h) h (events inner_replied) refl refl returned_whole;
  copies = none_copies inner_replied refl;
  tasks = search rules;
  wakes = search rules;
  owner_wakes = none_is_ever_lost inner_replied refl;
  served = search rules;
  staffed = search rules;
}

pub returns-clause-accepts_read : goal.returns-clause-accepts_read
returns-clause-accepts_read c = record {
  steps = search rules;
  pool = pooled_so (search rules);
  owners = λ h. by_first (0 == h) h (events end_read) refl refl read_whole;
  copies = none_copies end_read refl;
  tasks = search rules;
  wakes = search rules;
  owner_wakes = none_is_ever_lost end_read refl;
  served = search rules;
  staffed = search rules;
}

pub returns-clause-accepts_stop : goal.returns-clause-accepts_stop
returns-clause-accepts_stop c = record {
  steps = search rules;
  pool = pooled_so (search rules);
  owners = λ h.
      by_first (0 == h) h (events (stop_back ▸ polls (Replied Handle) 2)) refl refl stopped_whole;
  copies = none_copies (stop_back ▸ polls (Replied Handle) 2) refl;
  tasks = search rules;
  wakes = search rules;
  owner_wakes = none_is_ever_lost (stop_back ▸ polls (Replied Handle) 2) refl;
  served = search rules;
  staffed = search rules;
}

pub returns-clause-accepts_drop : goal.returns-clause-accepts_drop
returns-clause-accepts_drop c = legal_so (search rules)
