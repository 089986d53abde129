-- What the own acts of an owner keep.
use Rattle.std.proofs.Common.{◌≡◌, refl, ℕ, zero, suc, ◌&&◌, ◌||◌, ◌⊎◌, inl, inr, Bool, true, false}
use Rattle.std.proofs.Common.{List, [], ◌∷◌, ◌++◌, Option, Some, None, ap, sym, ◌∙◌}
use Rattle.std.specs.Prelude.{not, take}
use mathlib.Core.Path.{subst}
use Rattle.blocking_world_laws.specs.JobTable.{Kind, Calling, Reading, Writing, Streaming, Seeking, Operating}
use Rattle.blocking_world_laws.specs.OwnerLaws.{Polls, OwnerActs, OwnerMayAct, OwnerLaws}
use Rattle.blocking_world_laws.specs.OwnerTable.{OwnerAction, Drain, Fill}
use Rattle.blocking_world_laws.specs.OwnerTable.{Say, note_in}
use Rattle.blocking_world_laws.specs.OwnerTable.{owner_next_but_wake, next_of_owner, next_of_owner_by, deliver_first}
use Rattle.blocking_world_laws.specs.Passed.{accepted, data_of, kind_in}
use Rattle.blocking_world_laws.specs.Seen.{own, is_some_worker}
use Rattle.blocking_world_laws.specs.Sessions.{Session, call, state, state_by, State, In}
use Rattle.blocking_world_laws.specs.Sessions.{is_for_closed, last_session, is_closed, is_shut, session}
use Rattle.blocking_world_laws.specs.Sessions.{rests, was_asked_inner, is_into_inner, is_again, ends_close}
use Rattle.blocking_world_laws.specs.Sessions.{is_pending_operation}
use Rattle.blocking_world_laws.specs.declared.event.Act.{Act}
use Rattle.blocking_world_laws.specs.declared.event.Act.TheVariants.{Made, Asked, Accepted, Filled, Back}
use Rattle.blocking_world_laws.specs.declared.event.Act.TheVariants.{JobWoken, Replied, HolderDropped}
use Rattle.blocking_world_laws.specs.declared.event.Event.{Event}
use Rattle.blocking_world_laws.specs.declared.event.Reply.{Reply}
use Rattle.blocking_world_laws.specs.declared.event.Reply.TheVariants.{Okay}
use Rattle.blocking_world_laws.specs.declared.step.HandleCall.{HandleCall}
use Rattle.blocking_world_laws.specs.declared.step.HandleCall.TheVariants.{Close}
use Rattle.blocking_headline.proofs.Polls.{suits, is_writing, is_home, is_write, is_fitting, fits_call, gives}
use Rattle.blocking_headline.proofs.Polls.{is_just_back, gives_so, next_suits, fits_so}
use Rattle.blocking_headline.proofs.Bools.{first_so, then_so, or_so}

-- what holds before any own act and is kept by each holds of the own acts
module _ (Holds : List Act → Type 0) (start : Holds [])
    (step : (cut : List Event) (act : Act) → OwnerLaws cut → Holds (own cut) → OwnerActs cut act
    → Holds (act ∷ own cut)) where
  by_own : (cut : List Event) (now : Event) (b : Bool) → is_some_worker now.party ≡ b → OwnerLaws cut
      → Holds (own cut) → OwnerMayAct b cut now → Holds (own (now ∷ cut))
  by_own cut now true of laws holds acts =
      let same : own (now ∷ cut) ≡ own cut = rw of refl in subst Holds (sym same) holds
  by_own cut now false of laws holds acts =
      let same : own (now ∷ cut) ≡ now.act ∷ own cut = rw of refl in
      subst Holds (sym same) (step cut now.act laws holds acts)

  pub each_own : (cut : List Event) → OwnerLaws cut → Holds (own cut)
  each_own [] laws = start
  each_own (now ∷ cut) laws = by_own cut now (is_some_worker now.party) refl laws.1
      (each_own cut laws.1) laws.0.acts

-- ---- an act of a poll

-- the job whose note the newest act took
abbrev pub note_at : List Act → Option ℕ
note_at [] = None
note_at (act ∷ past) = note_in act

-- whether an act wakes a job
abbrev pub is_waking_act : Act → Bool
is_waking_act (JobWoken s woke) = true
is_waking_act _ = false

-- An act of a poll that wakes no job: no note was taken, and the poll's next action gives it.
pub record IsNext (cut : List Event) (act : Act) : Type 0 where
  pub rid : note_at (own cut) ≡ None
  pub gives_it : Polls cut (owner_next_but_wake cut (own cut)) act

next_by : (cut : List Event) (note : Option ℕ) (action : OwnerAction) (act : Act)
    → is_waking_act act ≡ false → Polls cut (deliver_first note action) act
    → (note ≡ None) × Polls cut action act
next_by cut None action act other is = (refl, is)
next_by cut (Some s) action (JobWoken t woke) other is = absurd cc
next_by cut (Some s) action _ other is = absurd is

next_at : (cut : List Event) (acts : List Act) (act : Act) → is_waking_act act ≡ false
    → Polls cut (next_of_owner_by cut acts) act
    → (note_at acts ≡ None) × Polls cut (owner_next_but_wake cut acts) act
next_at cut [] act other is = absurd is
next_at cut (a ∷ past) act other is = next_by cut (note_in a) (owner_next_but_wake cut (a ∷ past)) act other is

pub next_is : (cut : List Event) (act : Act) → is_waking_act act ≡ false
    → Polls cut (next_of_owner cut) act → IsNext cut act
next_is cut act other is = let both = next_at cut (own cut) act other is in
    record { rid = both.0; gives_it = both.1 }

-- ---- what is known of the own acts

pub record IsSound (acts : List Act) : Type 0 where
  pub fit : is_fitting acts ≡ true
  pub gone : is_closed acts ≡ true → session acts ≡ None
  pub asked : is_closed acts ≡ true → (c : HandleCall) × (call acts ≡ Some c) × (is_for_closed c ≡ true)
  pub writes : (accepted acts ≡ [] → ⊥) → kind_in (last_session acts) ≡ Writing

-- with the call known, what the act's action is, suits it
pub record IsSuited (cut : List Event) (c : HandleCall) (act : Act) : Type 0 where
  pub action : OwnerAction
  pub next : action ≡ owner_next_but_wake cut (own cut)
  pub suited : suits (is_just_back (own cut)) c (state (own cut)) action ≡ true
  pub given : gives action act ≡ true

pub suited : (cut : List Event) (c : HandleCall) (act : Act) → is_fitting (own cut) ≡ true
    → call (own cut) ≡ Some c → is_waking_act act ≡ false → Polls cut (next_of_owner cut) act → IsSuited cut c act
suited cut c act fit e other is = record {
  action = owner_next_but_wake cut (own cut);
  next = refl;
  suited = next_suits cut (own cut) c e fit;
  given = gives_so cut (owner_next_but_wake cut (own cut)) act (next_is cut act other is).gives_it;
}

fits_by : (cut : List Event) (act : Act) (asked : Option HandleCall) → call (own cut) ≡ asked
    → is_fitting (own cut) ≡ true → is_waking_act act ≡ false → Polls cut (next_of_owner cut) act
    → fits_call asked act ≡ true
fits_by cut act None e fit other is = refl
fits_by cut act (Some c) e fit other is = let s = suited cut c act fit e other is in
    fits_so (is_just_back (own cut)) c (state (own cut)) s.action act s.suited s.given

-- an act that fits any call
any_call : (asked : Option HandleCall) (act : Act) → ((c : HandleCall) → fits_call (Some c) act ≡ true)
    → fits_call asked act ≡ true
any_call None act each = refl
any_call (Some c) act each = each c

fit_after : (cut : List Event) (act : Act) → is_fitting (own cut) ≡ true → OwnerActs cut act
    → is_fitting (act ∷ own cut) ≡ true
fit_after cut (JobWoken s woke) fit acts = fit
fit_after cut (Made h n) fit acts = any_call (call (own cut)) (Made h n) (λ c. refl)
fit_after cut (Asked c) fit acts = any_call (call (own cut)) (Asked c) (λ d. refl)
fit_after cut HolderDropped fit acts = any_call (call (own cut)) HolderDropped (λ c. refl)
fit_after cut act fit acts = fits_by cut act (call (own cut)) refl fit refl acts

-- ---- where the handle is

pub home_none : (closed : Bool) (last : Option Session) (shut : Bool) → (closed ≡ true → last ≡ None)
    → is_home (state_by closed last shut) ≡ true → last ≡ None
home_none true last shut gone is = gone refl
home_none false None shut gone is = refl
home_none false (Some s) shut gone is = absurd cc

writing_kind : (kind : Kind) (is_open : Bool) → is_writing (In kind is_open) ≡ true → kind ≡ Writing
writing_kind Writing is_open is = refl
writing_kind Calling is_open is = absurd cc
writing_kind Reading is_open is = absurd cc
writing_kind Streaming is_open is = absurd cc
writing_kind (Seeking position) is_open is = absurd cc
writing_kind Operating is_open is = absurd cc

writing_session : (closed : Bool) (last : Option Session) (shut : Bool)
    → is_writing (state_by closed last shut) ≡ true → (s : Session) × (last ≡ Some s) × (s.kind ≡ Writing)
writing_session true last shut is = absurd cc
writing_session false None shut is = absurd cc
writing_session false (Some s) shut is = (s, refl, writing_kind s.kind (not shut) is)

pub session_last : (acts : List Act) (s : Session) → session acts ≡ Some s → last_session acts ≡ Some s
session_last [] s e = absurd cc
session_last (Back ∷ past) s e = absurd cc
session_last (Accepted t ∷ past) s e = e
session_last (_ ∷ past) s e = session_last past s e

-- the owner is at home where its poll replies okay
okay_home : (back : Bool) (c : HandleCall) (at : State) (action : OwnerAction) → suits back c at action ≡ true
    → action ≡ Say Okay → is_home at ≡ true
okay_home back c at action suit e = subst (λ a. suits back c at a ≡ true) e suit

-- whether an action is to say this
abbrev pub IsSaid : OwnerAction → Reply → Type 0
IsSaid (Say told) reply = reply ≡ told
IsSaid _ reply = ⊥

not_said : (action : OwnerAction) (reply : Reply) → gives action (Replied reply) ≡ true
    → (told : Reply) × (action ≡ Say told)
not_said (Say told) reply give = (told, refl)
not_said (Drain zero) reply give = absurd cc
not_said (Drain (suc n)) reply give = absurd cc
not_said _ reply give = absurd cc

told_so : (cut : List Event) (told reply : Reply) → Polls cut (Say told) (Replied reply) → told ≡ reply
told_so cut told reply is = cc

pub said : (cut : List Event) (action : OwnerAction) (reply : Reply) → Polls cut action (Replied reply)
    → action ≡ Say reply
said cut action reply is =
    let found = not_said action reply (gives_so cut action (Replied reply) is) in
    found.1 ∙ ap Say (told_so cut found.0 reply (subst (λ a. Polls cut a (Replied reply)) found.1 is))

-- so its session is over where a poll replies okay
pub okay_none : (cut : List Event) (c : HandleCall) → IsSound (own cut) → call (own cut) ≡ Some c
    → Polls cut (next_of_owner cut) (Replied Okay) → session (own cut) ≡ None
okay_none cut c sound e is =
    let next = next_is cut (Replied Okay) refl is in
    let action = said cut (owner_next_but_wake cut (own cut)) Okay next.gives_it in
    home_none (is_closed (own cut)) (session (own cut)) (is_shut (own cut)) sound.gone
    (okay_home (is_just_back (own cut)) c (state (own cut)) (owner_next_but_wake cut (own cut))
    (next_suits cut (own cut) c e sound.fit) action)

-- ---- after a close

ends : (reply : Reply) (asked : Option HandleCall) → ends_close reply asked ≡ true
    → (reply ≡ Okay) × (asked ≡ Some Close)
ends Okay (Some Close) e = (refl, refl)
ends reply asked e = absurd cc

abbrev ClosedSo : List Act → Type 0
ClosedSo acts = (session acts ≡ None)
    × ((c : HandleCall) × (call acts ≡ Some c) × (is_for_closed c ≡ true))

closed_now : (cut : List Event) → IsSound (own cut) → is_closed (own cut) ≡ true → ClosedSo (own cut)
closed_now cut sound e = (sound.gone e, sound.asked e)

asks : (a i g : Bool) (c : HandleCall) (closed : Bool) → closed ≡ true
    → (a && (not closed || is_for_closed c) && i && g) ≡ true → is_for_closed c ≡ true
asks a i g c true e may = then_so a (is_for_closed c)
    (first_so (a && is_for_closed c) i (first_so (a && is_for_closed c && i) g may))
asks a i g c false e may = absurd cc

replied : (cut : List Event) (reply : Reply) → IsSound (own cut)
    → Polls cut (next_of_owner cut) (Replied reply) → (ends_close reply (call (own cut)) ≡ true) ⊎ (is_closed (own cut) ≡ true)
    → ClosedSo (own cut)
replied cut reply sound acts (inr e) = closed_now cut sound e
replied cut reply sound acts (inl e) = let is = ends reply (call (own cut)) e in (
  okay_none cut Close sound is.1 (subst (λ r. Polls cut (next_of_owner cut) (Replied r)) is.0 acts),
  (Close, is.1, refl),
)

no_new : (cut : List Event) (s : ℕ) (c : HandleCall) → call (own cut) ≡ Some c → is_for_closed c ≡ true
    → fits_call (call (own cut)) (Accepted s) ≡ true → ⊥
no_new cut s c e closed fit = let bad : not true ≡ true =
    ap not (sym closed) ∙ subst (λ o. fits_call o (Accepted s) ≡ true) e fit in cc

closed_after : (cut : List Event) (act : Act) → IsSound (own cut) → is_fitting (act ∷ own cut) ≡ true
    → OwnerActs cut act → is_closed (act ∷ own cut) ≡ true → ClosedSo (act ∷ own cut)
closed_after cut (Replied reply) sound fit acts e =
    replied cut reply sound acts (or_so (ends_close reply (call (own cut))) (is_closed (own cut)) e)
closed_after cut (Asked c) sound fit acts e = (
  sound.gone e,
  (
    c,
    refl,
    asks (rests (own cut))
        (not (was_asked_inner (own cut)) || is_into_inner (Some c))
        (not (is_again c) || is_pending_operation (own cut)) c (is_closed (own cut)) e acts,
  ),
)
closed_after cut (Accepted s) sound fit acts e = let so = sound.asked e in
    absurd (no_new cut s so.0 so.1 so.2 fit)
closed_after cut Back sound fit acts e = (refl, sound.asked e)
closed_after cut act sound fit acts e = (sound.gone e, sound.asked e)

-- ---- what is written

joined_none : (xs : List ℕ) (n : ℕ) → xs ≡ [] → xs ++ take n [] ≡ []
joined_none xs zero e = rw e refl
joined_none xs (suc n) e = rw e refl

wrote : (cut : List Event) (n : ℕ) (told : Option ℕ) (asked : Option HandleCall) → call (own cut) ≡ asked
    → IsSound (own cut) → Polls cut (next_of_owner cut) (Filled n told)
    → (accepted (own cut) ++ take n (data_of asked) ≡ [] → ⊥) → kind_in (last_session (own cut)) ≡ Writing
wrote cut n told None e sound acts some =
    sound.writes (λ none. some (joined_none (accepted (own cut)) n none))
wrote cut n told (Some c) e sound acts some =
    let s = suited cut c (Filled n told) sound.fit e refl acts in
    let there = writing_session (is_closed (own cut)) (session (own cut)) (is_shut (own cut))
    (filling (is_just_back (own cut)) c (state (own cut)) s.action n told s.suited s.given) in
    ap kind_in (session_last (own cut) there.0 there.1) ∙ there.2
  where
    filling : (back : Bool) (c : HandleCall) (at : State) (action : OwnerAction) (n : ℕ) (told : Option ℕ)
        → suits back c at action ≡ true → gives action (Filled n told) ≡ true → is_writing at ≡ true
    filling back c at (Fill bytes) n told suit give = then_so (is_write c) (is_writing at) suit
    filling back c at (Drain zero) n told suit give = absurd cc
    filling back c at (Drain (suc m)) n told suit give = absurd cc
    filling back c at _ n told suit give = absurd cc

writes_after : (cut : List Event) (act : Act) → IsSound (own cut) → OwnerActs cut act
    → (accepted (act ∷ own cut) ≡ [] → ⊥) → kind_in (last_session (act ∷ own cut)) ≡ Writing
writes_after cut (Accepted s) sound acts some = absurd (some refl)
writes_after cut (Filled n told) sound acts some = wrote cut n told (call (own cut)) refl sound acts some
writes_after cut act sound acts some = sound.writes some

sound_after : (cut : List Event) (act : Act) → OwnerLaws cut → IsSound (own cut) → OwnerActs cut act
    → IsSound (act ∷ own cut)
sound_after cut act laws sound acts =
    let fit = fit_after cut act sound.fit acts in
    record {
      fit = fit;
      gone = λ e. (closed_after cut act sound fit acts e).0;
      asked = λ e. (closed_after cut act sound fit acts e).1;
      writes = writes_after cut act sound acts;
    }

pub sound_own : (cut : List Event) → OwnerLaws cut → IsSound (own cut)
sound_own = each_own IsSound
    (record { fit = refl; gone = λ e. absurd cc; asked = λ e. absurd cc; writes = λ some. absurd (some refl) })
    sound_after
