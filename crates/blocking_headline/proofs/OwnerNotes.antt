-- What an owner has left undone: no note is undelivered where it waits, one that was dropped doesn't wait,
-- and its older jobs have finished.
use Rattle.std.proofs.Common.{◌≡◌, refl, ℕ, zero, suc, ◌==◌, ◌&&◌, ◌||◌, ◌⊎◌, inl, inr, Bool, true, false}
use Rattle.std.proofs.Common.{List, [], ◌∷◌, Option, Some, None, ap, sym, ◌∙◌}
use Rattle.std.specs.Prelude.{not}
use Rattle.std.proofs.lemmas.Bool.{eqb-true}
use mathlib.Core.Path.{subst}
use Rattle.blocking_pool.specs.Lists.{is_in}
use Rattle.blocking_world_laws.specs.JobTable.{has_finished}
use Rattle.blocking_world_laws.specs.OwnerLaws.{Polls, OwnerActs, OwnerMayAct, OwnerLaws}
use Rattle.blocking_world_laws.specs.OwnerTable.{OwnerAction, Begin, WakeJob, Drain, note_in}
use Rattle.blocking_world_laws.specs.OwnerTable.{owner_next_but_wake, next_of_owner, next_of_owner_by, deliver_first}
use Rattle.blocking_world_laws.specs.OwnerTable.{at_accepted, at_back, is_at_end}
use Rattle.blocking_world_laws.specs.OwnerWakes.{is_waking}
use Rattle.blocking_world_laws.specs.Seen.{own, acts_of, is_of_job, is_some_worker, is_this}
use Rattle.blocking_world_laws.specs.Sessions.{kind_of}
use Rattle.blocking_world_laws.specs.Sessions.{Session, call, session, last_session, jobs_of, under_way, State}
use Rattle.blocking_world_laws.specs.Sessions.{is_poll_over, is_owner_gone, is_made, rests, state}
use Rattle.blocking_world_laws.specs.Sessions.{is_closed, is_for_closed, is_shut}
use Rattle.blocking_world_laws.specs.Sessions.{is_again, is_pending_operation}
use Rattle.blocking_world_laws.specs.TaskLaws.{is_let_go}
use Rattle.blocking_world_laws.specs.Wakes.{is_waiting}
use Rattle.blocking_world_laws.specs.declared.event.Act.{Act}
use Rattle.blocking_world_laws.specs.declared.event.Act.TheVariants.{Made, Asked, Accepted}
use Rattle.blocking_world_laws.specs.declared.event.Act.TheVariants.{Back, JobWoken, Waits, Replied, Finished}
use Rattle.blocking_world_laws.specs.declared.event.Act.TheVariants.{HolderDropped, TaskCancelled}
use Rattle.blocking_world_laws.specs.declared.event.Event.{Event}
use Rattle.blocking_world_laws.specs.declared.step.HandleCall.{HandleCall}
use Rattle.blocking_headline.proofs.Polls.{gives, gives_so, is_home, suits, is_just_back}
use Rattle.blocking_headline.proofs.Owns.{each_own, note_at, next_is, is_waking_act, sound_own, suited}
use Rattle.blocking_headline.proofs.Owns.{home_none, session_last, IsSound}
use Rattle.blocking_headline.proofs.Jobs.{no_job, grown, kept, more_of, same_of}
use Rattle.blocking_headline.proofs.All.{slot_of, job_of_last}
use Rattle.blocking_headline.proofs.Bools.{first_so, then_so, and_parts, or_so}

-- ---- an owner that rests

-- whether no poll is under way, as the newest act tells
abbrev pub is_resting : List Act → Bool
is_resting [] = true
is_resting (Made h n ∷ past) = true
is_resting (Waits ∷ past) = true
is_resting (Replied reply ∷ past) = true
is_resting (HolderDropped ∷ past) = true
is_resting _ = false

rest_rests : (cut : List Event) (acts : List Act) (act : Act) → is_resting acts ≡ true
    → Polls cut (next_of_owner_by cut acts) act → ⊥
rest_rests cut [] act rest is = is
rest_rests cut (Made h n ∷ past) act rest is = is
rest_rests cut (Waits ∷ past) act rest is = is
rest_rests cut (Replied reply ∷ past) act rest is = is
rest_rests cut (HolderDropped ∷ past) act rest is = is
rest_rests cut (_ ∷ past) act rest is = cc

-- a poll under way has a call
abbrev IsGoing : List Act → Type 0
IsGoing acts = is_resting acts ≡ false → is_poll_over (under_way acts) ≡ false

goes_before : (cut : List Event) (acts : List Act) (act : Act) → IsGoing acts
    → Polls cut (next_of_owner_by cut acts) act → is_poll_over (under_way acts) ≡ false
goes_before cut acts act going is = at (is_resting acts) refl
  where
    at : (b : Bool) → is_resting acts ≡ b → is_poll_over (under_way acts) ≡ false
    at true e = absurd (rest_rests cut acts act e is)
    at false e = going e

going_after : (cut : List Event) (act : Act) → IsGoing (own cut) → OwnerActs cut act → IsGoing (act ∷ own cut)
going_after cut (Made h n) going acts e = absurd cc
going_after cut (Asked c) going acts e = refl
going_after cut HolderDropped going acts e = absurd cc
going_after cut Waits going acts e = absurd cc
going_after cut (Replied reply) going acts e = absurd cc
going_after cut act going acts e = goes_before cut (own cut) act going acts

-- ---- notes

-- a note that isn't delivered yet is that of the newest act
record HasNoted (acts : List Act) : Type 0 where
  pub going : IsGoing acts
  pub noted : (s : ℕ) → is_waking s acts ≡ true → note_at acts ≡ Some s

none_of : (acts : List Act) (s : ℕ) → note_at acts ≡ Some s → is_resting acts ≡ false
none_of [] s e = absurd cc
none_of (Made h n ∷ past) s e = absurd cc
none_of (Waits ∷ past) s e = absurd cc
none_of (Replied reply ∷ past) s e = absurd cc
none_of (HolderDropped ∷ past) s e = absurd cc
none_of (_ ∷ past) s e = refl

over_if_rests : (made gone over : Bool) → (made && not gone && over) ≡ true → over ≡ true
over_if_rests true false over e = e
over_if_rests true true over e = absurd cc
over_if_rests false gone over e = absurd cc

-- where a note is undelivered, the owner doesn't rest
noted_goes : (acts : List Act) (s : ℕ) → IsGoing acts → note_at acts ≡ Some s → rests acts ≡ true → ⊥
noted_goes acts s going note rest =
    let bad : true ≡ false = sym (over_if_rests (is_made acts) (is_owner_gone acts) (is_poll_over (under_way acts)) rest)
    ∙ going (none_of acts s note) in cc

asked_rests : (cut : List Event) (c : HandleCall) → OwnerActs cut (Asked c) → rests (own cut) ≡ true
asked_rests cut c acts = first_so (rests (own cut)) _ (first_so _ _ (first_so _
    (not (is_again c) || is_pending_operation (own cut)) acts))

woken_note : (cut : List Event) (acts : List Act) (s : ℕ) (act : Act) → note_at acts ≡ Some s
    → Polls cut (next_of_owner_by cut acts) act → gives (WakeJob s) act ≡ true
woken_note cut [] s act note is = absurd cc
woken_note cut (a ∷ past) s act note is = gives_so cut (WakeJob s) act
    (subst (λ o. Polls cut (deliver_first o (owner_next_but_wake cut (a ∷ past))) act) note is)

this_is : (s : ℕ) (note : Option ℕ) → is_this s note ≡ true → note ≡ Some s
this_is s None e = absurd cc
this_is s (Some t) e = ap Some (eqb-true t s e)

old_note : (cut : List Event) (act : Act) (s : ℕ) → HasNoted (own cut) → is_waking_act act ≡ false
    → OwnerActs cut act → is_waking s (own cut) ≡ true → ⊥
old_note cut (Made h n) s so other acts waking =
    let bad : false ≡ true = sym (ap (λ l. is_waking s (own l)) acts) ∙ waking in cc
old_note cut (Asked c) s so other acts waking =
    noted_goes (own cut) s so.going (so.noted s waking) (asked_rests cut c acts)
old_note cut HolderDropped s so other acts waking = noted_goes (own cut) s so.going (so.noted s waking) acts
old_note cut act s so other acts waking =
    let bad = sym (next_is cut act other acts).rid ∙ so.noted s waking in cc

new_note : (cut : List Event) (act : Act) (s : ℕ) → HasNoted (own cut) → is_waking_act act ≡ false
    → OwnerActs cut act → (is_this s (note_in act) || is_waking s (own cut)) ≡ true → note_in act ≡ Some s
new_note cut act s so other acts e = at (or_so (is_this s (note_in act)) (is_waking s (own cut)) e)
  where
    at : (is_this s (note_in act) ≡ true) ⊎ (is_waking s (own cut) ≡ true) → note_in act ≡ Some s
    at (inl is) = this_is s (note_in act) is
    at (inr waking) = absurd (old_note cut act s so other acts waking)

noted_after : (cut : List Event) (act : Act) (s : ℕ) → HasNoted (own cut) → OwnerActs cut act
    → is_waking s (act ∷ own cut) ≡ true → note_at (act ∷ own cut) ≡ Some s
noted_after cut (JobWoken t woke) s so acts e =
    let p = and_parts (t == s) (is_waking s (own cut)) e in
    let woken = woken_note cut (own cut) s (JobWoken t woke) (so.noted s p.1) acts in
    absurd (let bad : true ≡ false = sym woken ∙ p.0 in cc)
noted_after cut act s so acts e = new_note cut act s so refl acts e

has_noted : (cut : List Event) → OwnerLaws cut → HasNoted (own cut)
has_noted = each_own HasNoted (record { going = λ e. absurd cc; noted = λ s e. absurd cc })
    (λ cut act laws so acts. record {
      going = going_after cut act so.going acts;
      noted = λ s. noted_after cut act s so acts;
    })

waiting_note : (acts : List Act) → is_waiting acts ≡ true → note_at acts ≡ None
waiting_note [] e = absurd cc
waiting_note (Waits ∷ past) e = refl
waiting_note (_ ∷ past) e = absurd cc

-- no wake of a job is under way where the owner waits
pub no_note : (cut : List Event) → OwnerLaws cut → is_waiting (own cut) ≡ true → (s : ℕ)
    → is_waking s (own cut) ≡ true → ⊥
no_note cut laws waits s waking =
    let bad = sym (waiting_note (own cut) waits) ∙ (has_noted cut laws).noted s waking in cc

-- ---- an owner that was dropped

abbrev is_drop : List Act → Bool
is_drop (HolderDropped ∷ past) = true
is_drop _ = false

drop_rests : (acts : List Act) → is_drop acts ≡ true → is_resting acts ≡ true
drop_rests [] e = absurd cc
drop_rests (HolderDropped ∷ past) e = refl
drop_rests (_ ∷ past) e = absurd cc

drop_gone : (acts : List Act) → is_drop acts ≡ true → is_owner_gone acts ≡ true
drop_gone [] e = absurd cc
drop_gone (HolderDropped ∷ past) e = refl
drop_gone (_ ∷ past) e = absurd cc

gone_rests : (made gone over : Bool) → gone ≡ true → (made && not gone && over) ≡ true → ⊥
gone_rests true true over e rest = cc
gone_rests true false over e rest = cc
gone_rests false gone over e rest = cc

-- nothing follows a drop
after_drop : (cut : List Event) (act : Act) → is_drop (own cut) ≡ true → OwnerActs cut act → ⊥
after_drop cut (Made h n) drop acts = let bad : false ≡ true = sym (ap (λ l. is_drop (own l)) acts) ∙ drop in cc
after_drop cut (Asked c) drop acts = gone_rests (is_made (own cut)) (is_owner_gone (own cut))
    (is_poll_over (under_way (own cut))) (drop_gone (own cut) drop) (asked_rests cut c acts)
after_drop cut HolderDropped drop acts = gone_rests (is_made (own cut)) (is_owner_gone (own cut))
    (is_poll_over (under_way (own cut))) (drop_gone (own cut) drop) acts
after_drop cut act drop acts = rest_rests cut (own cut) act (drop_rests (own cut) drop) acts

no_cancel : (action : OwnerAction) → gives action TaskCancelled ≡ true → ⊥
no_cancel (Drain zero) e = cc
no_cancel (Drain (suc n)) e = cc
no_cancel _ e = cc

abbrev DropsLast : List Act → Type 0
DropsLast acts = is_let_go acts ≡ true → is_drop acts ≡ true

drops_after : (cut : List Event) (act : Act) → DropsLast (own cut) → OwnerActs cut act → DropsLast (act ∷ own cut)
drops_after cut HolderDropped so acts e = refl
drops_after cut TaskCancelled so acts e =
    absurd (no_cancel (next_of_owner cut) (gives_so cut (next_of_owner cut) TaskCancelled acts))
drops_after cut act so acts e = absurd (after_drop cut act (so e) acts)

waits_not : (acts : List Act) → is_drop acts ≡ true → is_waiting acts ≡ false
waits_not [] e = absurd cc
waits_not (HolderDropped ∷ past) e = refl
waits_not (_ ∷ past) e = absurd cc

-- an owner that let its job go doesn't wait
pub let_go_waits : (cut : List Event) → OwnerLaws cut → is_let_go (own cut) ≡ true → is_waiting (own cut) ≡ false
let_go_waits cut laws e = waits_not (own cut)
    (each_own DropsLast (λ e. absurd cc) (λ cut act laws so acts. drops_after cut act so acts) cut laws e)

-- ---- older jobs

begin_accepted : (past : List Act) (asked : Option HandleCall) (at : State) → at_accepted asked at ≡ Begin
    → (c : HandleCall) × (asked ≡ Some c)
begin_accepted past None at e = absurd cc
begin_accepted past (Some c) at e = (c, refl)

begin_back : (asked : Option HandleCall) (last : Option Session) (ended : Bool) (cut : List Event)
    → at_back asked last ended cut ≡ Begin → (c : HandleCall) × (asked ≡ Some c)
begin_back None last ended cut e = absurd cc
begin_back (Some c) last ended cut e = (c, refl)

-- a session begins for a call
begin_called : (cut : List Event) (acts : List Act) → owner_next_but_wake cut acts ≡ Begin
    → (c : HandleCall) × (call acts ≡ Some c)
begin_called cut [] e = absurd cc
begin_called cut (Asked c ∷ past) e = (c, refl)
begin_called cut (Accepted s ∷ past) e = begin_accepted past (call past) (state (Accepted s ∷ past)) e
begin_called cut (Back ∷ past) e = begin_back (call past) (last_session past) (is_at_end past) cut e
begin_called cut (JobWoken s woke ∷ past) e = begin_called cut past e
begin_called cut (_ ∷ past) e = absurd cc

begins : (action : OwnerAction) (s : ℕ) → gives action (Accepted s) ≡ true → action ≡ Begin
begins Begin s e = refl
begins (Drain zero) s e = absurd cc
begins (Drain (suc n)) s e = absurd cc
begins _ s e = absurd cc

-- no session is open where one begins
begun_home : (cut : List Event) (s : ℕ) → IsSound (own cut) → Polls cut (next_of_owner cut) (Accepted s)
    → session (own cut) ≡ None
begun_home cut s sound acts =
    let next = next_is cut (Accepted s) refl acts in
    let begin = begins (owner_next_but_wake cut (own cut)) s
    (gives_so cut (owner_next_but_wake cut (own cut)) (Accepted s) next.gives_it) in
    let asked = begin_called cut (own cut) begin in
    let suit = suited cut asked.0 (Accepted s) sound.fit asked.1 refl acts in
    home_none (is_closed (own cut)) (session (own cut)) (is_shut (own cut)) sound.gone
    (then_so (not (is_for_closed asked.0)) (is_home (state (own cut)))
    (subst (λ a. suits (is_just_back (own cut)) asked.0 (state (own cut)) a ≡ true) (suit.next ∙ begin) suit.suited))

-- a job is that of the open session, or it has finished
abbrev pub IsOldOrOpen : Option Session → ℕ → List Act → Type 0
IsOldOrOpen open_one t acts = ((r : Session) × (open_one ≡ Some r) × (r.serial ≡ t)) ⊎ (has_finished acts ≡ true)

abbrev AreOldOrOpen : List Act → List Event → Type 0
AreOldOrOpen own_acts cut = (t : ℕ) → is_in t (jobs_of own_acts) ≡ true → IsOldOrOpen (session own_acts) t (acts_of t cut)

finished_still : (act : Act) (acts : List Act) → has_finished acts ≡ true → has_finished (act ∷ acts) ≡ true
finished_still (Finished waker) acts e = refl
finished_still _ acts e = e

older_by_worker : (cut : List Event) (now : Event) → AreOldOrOpen (own cut) cut → AreOldOrOpen (own cut) (now ∷ cut)
older_by_worker cut now so t among = at (is_of_job t now) refl (so t among)
  where
    at : (b : Bool) → is_of_job t now ≡ b → IsOldOrOpen (session (own cut)) t (acts_of t cut)
        → IsOldOrOpen (session (own cut)) t (acts_of t (now ∷ cut))
    at b is (inl this) = inl this
    at true is (inr old) = inr (ap has_finished (more_of t now cut is) ∙ finished_still now.act (acts_of t cut) old)
    at false is (inr old) = inr (ap has_finished (same_of t now cut is) ∙ old)

older_after : (cut : List Event) (act : Act) → OwnerLaws cut → AreOldOrOpen (own cut) cut → OwnerActs cut act
    → AreOldOrOpen (act ∷ own cut) cut
older_after cut (Accepted s) laws so acts t among = at (or_so (t == s) (is_in t (jobs_of (own cut))) among)
  where
    earlier : IsOldOrOpen (session (own cut)) t (acts_of t cut)
        → IsOldOrOpen (session (Accepted s ∷ own cut)) t (acts_of t cut)
    earlier (inl this) =
        absurd (let bad = sym (begun_home cut s (sound_own cut laws) acts) ∙ this.1 in cc)
    earlier (inr old) = inr old

    at : ((t == s) ≡ true) ⊎ (is_in t (jobs_of (own cut)) ≡ true)
        → IsOldOrOpen (session (Accepted s ∷ own cut)) t (acts_of t cut)
    at (inl is) = inl (record { serial = s; kind = kind_of (call (own cut)) }, refl, sym (eqb-true t s is))
    at (inr before) = earlier (so t before)
older_after cut Back laws so acts t among = inr (at (so t among))
  where
    at : IsOldOrOpen (session (own cut)) t (acts_of t cut) → has_finished (acts_of t cut) ≡ true
    at (inl this) =
        let next = next_is cut Back refl acts in
        let last = job_of_last cut this.0 (session_last (own cut) this.0 this.1) in
        subst (λ u. has_finished (acts_of u cut) ≡ true) this.2 (ap has_finished (sym last)
        ∙ slot_of cut (owner_next_but_wake cut (own cut))
        (gives_so cut (owner_next_but_wake cut (own cut)) Back next.gives_it) next.gives_it)
    at (inr old) = old
older_after cut _ laws so acts t among = so t among

older_by : (cut : List Event) (now : Event) (b : Bool) → is_some_worker now.party ≡ b → OwnerLaws cut
    → AreOldOrOpen (own cut) cut → OwnerMayAct b cut now → AreOldOrOpen (own (now ∷ cut)) (now ∷ cut)
older_by cut now true of laws so acts =
    subst (λ l. AreOldOrOpen l (now ∷ cut)) (sym (kept now cut of)) (older_by_worker cut now so)
older_by cut now false of laws so acts =
    let next = older_after cut now.act laws so acts in
    subst (λ l. AreOldOrOpen l (now ∷ cut)) (sym (grown now cut of)) (λ t among.
    subst (IsOldOrOpen (session (now.act ∷ own cut)) t) (sym (same_of t now cut (no_job now t of))) (next t among))

pub older : (cut : List Event) → OwnerLaws cut → (t : ℕ) → is_in t (jobs_of (own cut)) ≡ true
    → IsOldOrOpen (session (own cut)) t (acts_of t cut)
older [] laws = λ t among. absurd cc
older (now ∷ cut) laws =
    older_by cut now (is_some_worker now.party) refl laws.1 (older cut laws.1) laws.0.acts
