-- What a poll does next, by its call and by where the handle is.
use Rattle.std.proofs.Common.{◌≡◌, refl, ℕ, zero, suc, ◌==◌, ◌&&◌, ◌||◌, Bool, true, false, List, []}
use Rattle.std.proofs.Common.{◌∷◌, length, Option, Some, None, ap, sym, ◌∙◌, arith}
use Rattle.std.specs.Prelude.{not}
use mathlib.Core.Path.{subst}
use Rattle.blocking_core.specs.declared.io.Fault.{Fault}
use Rattle.blocking_pool.specs.declared.pool.answer.Refusal.{Refusal}
use Rattle.blocking_world_laws.specs.Core.{Met, Served, Waiting, Closed as Shut, drain, receive, fill}
use Rattle.blocking_world_laws.specs.JobTable.{Kind, Writing}
use Rattle.blocking_world_laws.specs.JobTable.{has_closed, has_finished, has_result, number}
use Rattle.blocking_world_laws.specs.OwnerLaws.{Polls, IsBegunAnew}
use Rattle.blocking_world_laws.specs.OwnerSeats.{noted}
use Rattle.blocking_world_laws.specs.OwnerTable.{OwnerAction, Begin, CloseOwn, WakeJob, Drain, Fill}
use Rattle.blocking_world_laws.specs.OwnerTable.{Receive, PollSlot, PollPlace, Say, Rest, table}
use Rattle.blocking_world_laws.specs.OwnerTable.{at_asked, at_accepted, refusal, after_back, at_back}
use Rattle.blocking_world_laws.specs.OwnerTable.{owner_next_but_wake, is_at_end}
use Rattle.blocking_world_laws.specs.Passed.{inside, room_in, last_job}
use Rattle.blocking_world_laws.specs.Places.{seen_drain, seen_receive, seen_fill, poll_slot, poll_place}
use Rattle.blocking_world_laws.specs.Seen.{own}
use Rattle.blocking_world_laws.specs.Sessions.{Session, call, state, state_by, State, Closed, Idle, In}
use Rattle.blocking_world_laws.specs.Sessions.{is_for_closed, is_operation, has_begun, last_session, is_closed}
use Rattle.blocking_world_laws.specs.Sessions.{is_shut}
use Rattle.blocking_world_laws.specs.Steps.{IsWakeOf}
use Rattle.blocking_world_laws.specs.declared.event.Act.{Act}
use Rattle.blocking_world_laws.specs.declared.event.Act.TheVariants.{Asked, Accepted, Refused, OwnerClosed}
use Rattle.blocking_world_laws.specs.declared.event.Act.TheVariants.{Got, GotItem, GotEnd, Filled, FillShut}
use Rattle.blocking_world_laws.specs.declared.event.Act.TheVariants.{Back, ResultGot, JobWoken, Waits, Replied}
use Rattle.blocking_world_laws.specs.declared.event.Event.{Event}
use Rattle.blocking_world_laws.specs.declared.event.Reply.TheVariants.{Okay, Count, NoMore}
use Rattle.blocking_world_laws.specs.declared.step.HandleCall.{HandleCall}
use Rattle.blocking_world_laws.specs.declared.step.HandleCall.TheVariants.{Read, Write}
use Rattle.blocking_world_laws.specs.declared.step.HandleCall.TheVariants.{Next, Operate}
use Rattle.blocking_world_laws.specs.declared.step.HandleCall.TheVariants.{OperateAgain}
use Rattle.blocking_headline.proofs.Bools.{same_self, first_so}

-- whether a call asks for one byte at least
abbrev pub is_reading : HandleCall → Bool
is_reading (Read (suc n)) = true
is_reading _ = false

abbrev pub is_write : HandleCall → Bool
is_write (Write bytes) = true
is_write _ = false

abbrev pub is_writing : State → Bool
is_writing (In Writing is_open) = true
is_writing _ = false

-- whether no job has the handle
abbrev pub is_home : State → Bool
is_home Idle = true
is_home Closed = true
is_home _ = false

-- whether such an action fits the call, with the handle there, and whether it has just come back
abbrev pub suits : Bool → HandleCall → State → OwnerAction → Bool
suits back c at Begin = not (is_for_closed c) && is_home at
suits back c at (Fill bytes) = is_write c && is_writing at
suits back c at (Drain zero) = false
suits back c at PollPlace = is_operation (Some c)
suits back c at (Say Okay) = is_home at
suits back c at (Say (Count zero)) = back || not (is_reading c)
suits back c at (Say NoMore) = back
suits back c at _ = true

-- whether the handle came back, and the owner did nothing since but wake a job
abbrev pub is_just_back : List Act → Bool
is_just_back (Back ∷ acts) = true
is_just_back (JobWoken s woke ∷ acts) = is_just_back acts
is_just_back _ = false

-- whether an act fits the call
abbrev pub fits_call : Option HandleCall → Act → Bool
fits_call (Some c) (Filled n told) = is_write c
fits_call (Some c) FillShut = is_write c
fits_call (Some c) (ResultGot n) = is_operation (Some c)
fits_call (Some c) (Accepted s) = not (is_for_closed c)
fits_call (Some c) (Got [] told) = false
fits_call _ act = true

-- whether the newest act that is no wake of a job fits the call
abbrev pub is_fitting : List Act → Bool
is_fitting [] = true
is_fitting (JobWoken s woke ∷ acts) = is_fitting acts
is_fitting (act ∷ acts) = fits_call (call acts) act

-- ---- what an action gives

-- whether an action may give this act
abbrev pub gives : OwnerAction → Act → Bool
gives Begin (Accepted s) = true
gives Begin (Refused why) = true
gives CloseOwn (OwnerClosed told) = true
gives (WakeJob s) (JobWoken t woke) = t == s
gives (Drain zero) (Got bytes told) = true
gives (Drain (suc n)) (Got (b ∷ bytes) told) = true
gives (Drain n) Waits = true
gives (Drain n) GotEnd = true
gives (Fill bytes) (Filled n told) = true
gives (Fill bytes) Waits = true
gives (Fill bytes) FillShut = true
gives Receive (GotItem x told) = true
gives Receive Waits = true
gives Receive GotEnd = true
gives PollSlot Back = true
gives PollSlot Waits = true
gives PollPlace (ResultGot n) = true
gives PollPlace Waits = true
gives (Say reply) (Replied told) = true
gives _ _ = false

at_drain : (n : ℕ) (xs : List ℕ) (is_open : Bool) (seat : Option ℕ)
    → gives (Drain n) (seen_drain (drain n xs is_open seat)) ≡ true
at_drain zero [] true seat = refl
at_drain zero [] false seat = refl
at_drain zero (x ∷ xs) is_open seat = refl
at_drain (suc n) [] true seat = refl
at_drain (suc n) [] false seat = refl
at_drain (suc n) (x ∷ xs) is_open seat = refl

at_receive : (met : Met (ℕ × Option ℕ)) → gives Receive (seen_receive met) ≡ true
at_receive (Served found) = refl
at_receive Waiting = refl
at_receive Shut = refl

at_fill : (bytes : List ℕ) (met : Met (ℕ × Option ℕ)) → gives (Fill bytes) (seen_fill met) ≡ true
at_fill bytes (Served went) = refl
at_fill bytes Waiting = refl
at_fill bytes Shut = refl

at_slot : (there : Bool) → gives PollSlot (poll_slot there) ≡ true
at_slot true = refl
at_slot false = refl

at_place : (there : Bool) (n : ℕ) → gives PollPlace (poll_place there n) ≡ true
at_place true n = refl
at_place false n = refl

at_begin : (acts : List Act) (act : Act) → IsBegunAnew acts act → gives Begin act ≡ true
at_begin acts (Accepted s) is = refl
at_begin acts (Refused why) is = refl
at_begin acts _ is = absurd is

at_wake : (s : ℕ) (act : Act) → IsWakeOf s act → gives (WakeJob s) act ≡ true
at_wake s (JobWoken t woke) is = ap (λ n. n == s) is ∙ same_self s
at_wake s _ is = absurd is

pub gives_so : (cut : List Event) (action : OwnerAction) (act : Act) → Polls cut action act
    → gives action act ≡ true
gives_so cut Begin act is = at_begin (own cut) act is
gives_so cut (WakeJob s) act is = at_wake s act is
gives_so cut CloseOwn act is = ap (gives CloseOwn) is
gives_so cut (Drain n) act is = ap (gives (Drain n)) is
    ∙ at_drain n (inside cut) (not (has_closed (last_job cut))) (noted cut)
gives_so cut (Fill bytes) act is = ap (gives (Fill bytes)) is
    ∙ at_fill bytes (fill (length bytes) (room_in cut) (not (has_closed (last_job cut))) (noted cut))
gives_so cut Receive act is = ap (gives Receive) is
    ∙ at_receive (receive (inside cut) (not (has_closed (last_job cut))) (noted cut))
gives_so cut PollSlot act is = ap (gives PollSlot) is ∙ at_slot (has_finished (last_job cut))
gives_so cut PollPlace act is = ap (gives PollPlace) is
    ∙ at_place (has_result (last_job cut)) (number (last_job cut))
gives_so cut (Say reply) act is = ap (gives (Say reply)) is
gives_so cut Rest act is = absurd is

-- ---- what a poll does next

table_suits : (back : Bool) (c : HandleCall) (at : State) → suits back c at (table c at) ≡ true
table_suits back c at = grind arith

asked_suits : (back : Bool) (c : HandleCall) (begun : Bool) (at : State)
    → suits back c at (at_asked c begun at) ≡ true
asked_suits back OperateAgain true at = refl
asked_suits back c _ at = table_suits back c at

accepted_suits : (back : Bool) (c : HandleCall) (at : State)
    → suits back c at (at_accepted (Some c) at) ≡ true
accepted_suits back Operate at = refl
accepted_suits back OperateAgain at = refl
accepted_suits back c at = table_suits back c at

refusal_suits : (back : Bool) (c : HandleCall) (at : State) (why : Refusal)
    → suits back c at (Say (refusal (Some c) why)) ≡ true
refusal_suits back Next at why = refl
refusal_suits back Operate at why = refl
refusal_suits back OperateAgain at why = refl
refusal_suits back _ at why = refl

back_suits : (c : HandleCall) (at : State) (found : Option (Fault ℕ)) (ended : Bool) (kind : Kind) (n : ℕ)
    → is_home at ≡ true → suits true c at (after_back c found ended kind n) ≡ true
back_suits c at found ended kind n home = grind arith

home : (closed shut : Bool) → is_home (state_by closed None shut) ≡ true
home true shut = refl
home false shut = refl

at_back_suits : (c : HandleCall) (last : Option Session) (ended : Bool) (cut : List Event) (at : State)
    → is_home at ≡ true → suits true c at (at_back (Some c) last ended cut) ≡ true
at_back_suits c None ended cut at home = refl
at_back_suits c (Some s) ended cut at home = back_suits c at _ ended s.kind _ home

by_write : (c : HandleCall) (at : State) (n : ℕ) → is_write c ≡ true → suits false c at (Say (Count n)) ≡ true
by_write c at n is = grind arith

by_operation : (c : HandleCall) (at : State) (n : ℕ) → is_operation (Some c) ≡ true
    → suits false c at (Say (Count n)) ≡ true
by_operation c at n is = grind arith

pub next_suits : (cut : List Event) (acts : List Act) (c : HandleCall) → call acts ≡ Some c
    → is_fitting acts ≡ true → suits (is_just_back acts) c (state acts) (owner_next_but_wake cut acts) ≡ true
next_suits cut [] c e fit = absurd cc
next_suits cut (Asked d ∷ past) c e fit = let same : d ≡ c = cc in
    subst (λ x. suits false x (state past) (at_asked d (has_begun past) (state past)) ≡ true) same
    (asked_suits false d (has_begun past) (state past))
next_suits cut (Accepted s ∷ past) c e fit =
    subst (λ o. suits false c (state (Accepted s ∷ past)) (at_accepted o (state (Accepted s ∷ past))) ≡ true)
    (sym e) (accepted_suits false c (state (Accepted s ∷ past)))
next_suits cut (Refused why ∷ past) c e fit =
    subst (λ o. suits false c (state past) (Say (refusal o why)) ≡ true) (sym e)
    (refusal_suits false c (state past) why)
next_suits cut (OwnerClosed told ∷ past) c e fit = refl
next_suits cut (Got [] told ∷ past) c e fit =
    absurd (let bad : false ≡ true = subst (λ o. fits_call o (Got [] told) ≡ true) e fit in cc)
next_suits cut (Got (b ∷ bytes) told ∷ past) c e fit = refl
next_suits cut (GotItem x told ∷ past) c e fit = refl
next_suits cut (GotEnd ∷ past) c e fit = refl
next_suits cut (Filled n told ∷ past) c e fit = by_write c (state past) n
    (subst (λ o. fits_call o (Filled n told) ≡ true) e fit)
next_suits cut (FillShut ∷ past) c e fit = by_write c (state past) 0
    (subst (λ o. fits_call o FillShut ≡ true) e fit)
next_suits cut (ResultGot n ∷ past) c e fit = by_operation c (state past) n
    (subst (λ o. fits_call o (ResultGot n) ≡ true) e fit)
next_suits cut (Back ∷ past) c e fit =
    subst (λ o. suits true c (state (Back ∷ past)) (at_back o (last_session past) (is_at_end past) cut) ≡ true)
    (sym e) (at_back_suits c (last_session past) (is_at_end past) cut (state (Back ∷ past))
    (home (is_closed past) (is_shut past)))
next_suits cut (JobWoken s woke ∷ past) c e fit = next_suits cut past c e fit
next_suits cut (_ ∷ past) c e fit = refl

-- ---- what a poll did

-- what an action gives that suits the call fits the call
pub fits_so : (back : Bool) (c : HandleCall) (at : State) (action : OwnerAction) (act : Act)
    → suits back c at action ≡ true → gives action act ≡ true → fits_call (Some c) act ≡ true
fits_so back c at Begin (Accepted s) suit give = first_so (not (is_for_closed c)) (is_home at) suit
fits_so back c at (Fill bytes) (Filled n told) suit give = first_so (is_write c) (is_writing at) suit
fits_so back c at (Fill bytes) FillShut suit give = first_so (is_write c) (is_writing at) suit
fits_so back c at (Drain zero) act suit give = absurd cc
fits_so back c at (Drain (suc n)) (Got (b ∷ bytes) told) suit give = refl
fits_so back c at PollPlace (ResultGot n) suit give = suit
fits_so back c at action act suit give = grind arith
