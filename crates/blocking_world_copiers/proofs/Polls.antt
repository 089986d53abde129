-- What a poll that reads, writes or flushes has done so far, by the owner's own acts: how its reply
-- goes with what it got or filled in.
use Rattle.std.proofs.Common.{◌≡◌, ◌⊎◌, ⊎_elim, inl, inr, ℕ, zero, suc, ◌<◌, ◌≤◌, List, [], ◌∷◌}
use Rattle.std.proofs.Common.{◌++◌, length, take, not, cond, Bool, true, false, refl, sym, ap, ◌∙◌}
use Rattle.std.proofs.Common.{subst, Option, Some, None, arith}
use Rattle.std.proofs.lemmas.Bool.Decides.{nat_tests}
use Rattle.std.proofs.lemmas.List.{length-take}
use Rattle.blocking_world_copiers.proofs.Words.{State, Kind, Fault, Session, last_session, table}
use Rattle.blocking_world_copiers.proofs.Words.{after_end, after_back, at_back, at_asked}
use Rattle.blocking_world_copiers.proofs.Words.{at_accepted, refusal, is_at_end, has_begun, state}
use Rattle.blocking_world_copiers.proofs.Words.{drain, fill, receive, IsBegunAnew, IsWakeOf}
use Rattle.blocking_world_copiers.proofs.Words.{has_finished, has_result, last_job, number}
use Rattle.blocking_world_copiers.proofs.Words.{poll_slot, poll_place, Polls, OwnerActs}
use Rattle.blocking_world_copiers.proofs.Words.{OwnerMayAct, OwnerLaw, OwnerLaws, OwnerAction}
use Rattle.blocking_world_copiers.proofs.Words.{Begin, CloseOwn, WakeJob, Drain, Fill, Receive}
use Rattle.blocking_world_copiers.proofs.Words.{PollSlot, PollPlace, Say, Rest, owner_next_but_wake}
use Rattle.blocking_world_copiers.proofs.Words.{next_of_owner_by, next_of_owner, seen_drain}
use Rattle.blocking_world_copiers.proofs.Words.{seen_receive, seen_fill, data_of, EachMayFollow}
use Rattle.blocking_world_copiers.proofs.Words.{Refusal, Woke, inside, room_in, has_closed, noted}
use Rattle.blocking_world_copiers.proofs.Words.{own, is_some_worker, call, rests, may_ask}
use Rattle.blocking_world_copiers.proofs.Words.{under_way, is_operation, Act, Made, Asked}
use Rattle.blocking_world_copiers.proofs.Words.{OwnerClosed, Got, GotItem, GotEnd, Filled, FillShut}
use Rattle.blocking_world_copiers.proofs.Words.{Back, ResultGot, Replied, Accepted, Refused}
use Rattle.blocking_world_copiers.proofs.Words.{JobWoken, Waits, HolderDropped, Event, Reply, Count}
use Rattle.blocking_world_copiers.proofs.Words.{HandleCall, Read, Write, Flush}
use Rattle.blocking_world_copiers.proofs.Words as words
use Rattle.blocking_world_copiers.specs.Ties.{got_now, filled_now}

-- ---- the next action is one of the call's

-- what asks the pipe or the result's place does so for this call
abbrev pub IsFor : OwnerAction → Option HandleCall → Type 0
IsFor (Drain n) asked = (asked ≡ Some (Read n)) × (0 < n)
IsFor (Fill bytes) asked = (asked ≡ Some (Write bytes)) × (0 < length bytes)
IsFor Receive asked = asked ≡ Some words.Next
IsFor PollPlace asked = is_operation asked ≡ true
IsFor action asked = Unit {0}

table_for : (asked : HandleCall) (at : State) → IsFor (table asked at) (Some asked)
table_for asked at = grind arith

end_for : (asked : HandleCall) (ended : Bool) (kind : Kind) (n : ℕ)
    → IsFor (after_end asked ended kind n) (Some asked)
end_for asked ended kind n = grind (arith, table_for)

back_for : (asked : HandleCall) (found : Option (Fault ℕ)) (ended : Bool) (kind : Kind) (n : ℕ)
    → IsFor (after_back asked found ended kind n) (Some asked)
back_for asked found ended kind n = grind (arith, end_for)

at_back_for : (asked : Option HandleCall) (last : Option Session) (ended : Bool) (cut : List Event)
    → IsFor (at_back asked last ended cut) asked
at_back_for asked last ended cut = grind (arith, back_for)

asked_for : (asked : HandleCall) (begun : Bool) (at : State)
    → IsFor (at_asked asked begun at) (Some asked)
asked_for asked begun at = grind (arith, table_for)

accepted_for : (asked : Option HandleCall) (at : State) → IsFor (at_accepted asked at) asked
accepted_for asked at = grind (arith, table_for)

pub is_for : (cut : List Event) (acts : List Act) → IsFor (owner_next_but_wake cut acts) (call acts)
is_for cut [] = tt
is_for cut (JobWoken s woke ∷ acts) = is_for cut acts
is_for cut (Back ∷ acts) = at_back_for (call acts) (last_session acts) (is_at_end acts) cut
is_for cut (Asked asked ∷ acts) = asked_for asked (has_begun acts) (state acts)
is_for cut (Accepted s ∷ acts) = accepted_for (call acts) (state (Accepted s ∷ acts))
is_for cut (act ∷ acts) = tt

-- ---- the act of a poll tells its next action

-- what an owner does that isn't a wake is the next action but for wakes
abbrev IsNoWake : OwnerAction → Type 0
IsNoWake (WakeJob s) = ⊥
IsNoWake action = Unit {0}

next_is : (cut : List Event) (acts : List Act) → IsNoWake (next_of_owner_by cut acts)
    → next_of_owner_by cut acts ≡ owner_next_but_wake cut acts
next_is cut acts no_wake = grind arith

-- what an act of a poll says of the next action
abbrev pub ActsAs : OwnerAction → Act → Type 0
ActsAs next (Got bytes told) = (n : ℕ) × (next ≡ Drain n) × (0 < length bytes) × (length bytes ≤ n)
ActsAs next (GotItem x told) = next ≡ Receive
ActsAs next GotEnd = (next ≡ Receive) ⊎ ((n : ℕ) × (next ≡ Drain n))
ActsAs next (Filled n told) = (bytes : List ℕ) × (next ≡ Fill bytes) × (0 < n) × (n ≤ length bytes)
ActsAs next FillShut = (bytes : List ℕ) × (next ≡ Fill bytes)
ActsAs next (ResultGot n) = next ≡ PollPlace
ActsAs next Back = next ≡ PollSlot
ActsAs next (Accepted s) = next ≡ Begin
ActsAs next (OwnerClosed told) = next ≡ CloseOwn
ActsAs next (Replied reply) = next ≡ Say reply
ActsAs next act = (reply : Reply) → next ≡ Say reply → ⊥

drained_as : (n : ℕ) (inside : List ℕ) (is_open : Bool) (seat : Option ℕ) → 0 < n
    → ActsAs (Drain n) (seen_drain (drain n inside is_open seat))
drained_as n inside is_open seat positive = grind (arith, length-take)

filled_as : (bytes : List ℕ) (room : ℕ) (is_open : Bool) (seat : Option ℕ) → 0 < length bytes
    → ActsAs (Fill bytes) (seen_fill (fill (length bytes) room is_open seat))
filled_as bytes room is_open seat positive = grind (arith, nat_tests)

received_as : (inside : List ℕ) (is_open : Bool) (seat : Option ℕ)
    → ActsAs Receive (seen_receive (receive inside is_open seat))
received_as inside is_open seat = grind arith

-- the act of an action, by what the place answers
acts_as : (cut : List Event) (asked : Option HandleCall) (next : OwnerAction) (act : Act)
    → IsFor next asked → Polls cut next act → ActsAs next act
acts_as cut asked Begin act for does = begun act does
  where
    begun : (act : Act) → IsBegunAnew (own cut) act → ActsAs Begin act
    begun act does = grind arith
acts_as cut asked (WakeJob s) act for does = woken act does
  where
    woken : (act : Act) → IsWakeOf s act → ActsAs (WakeJob s) act
    woken act does = grind arith
acts_as cut asked (Drain n) act for does = subst (ActsAs (Drain n)) (sym does)
    (drained_as n (inside cut) (not (has_closed (last_job cut))) (noted cut) for.1)
acts_as cut asked (Fill bytes) act for does = subst (ActsAs (Fill bytes)) (sym does)
    (filled_as bytes (room_in cut) (not (has_closed (last_job cut))) (noted cut) for.1)
acts_as cut asked Receive act for does = subst (ActsAs Receive) (sym does)
    (received_as (inside cut) (not (has_closed (last_job cut))) (noted cut))
acts_as cut asked PollSlot act for does =
    subst (ActsAs PollSlot) (sym does) (polled (has_finished (last_job cut)))
  where
    polled : (b : Bool) → ActsAs PollSlot (poll_slot b)
    polled b = grind arith
acts_as cut asked PollPlace act for does =
    subst (ActsAs PollPlace) (sym does) (placed (has_result (last_job cut)) (number (last_job cut)))
  where
    placed : (b : Bool) (n : ℕ) → ActsAs PollPlace (poll_place b n)
    placed b n = grind arith
acts_as cut asked Rest act for does = absurd does
acts_as cut asked CloseOwn act for does = subst (ActsAs CloseOwn) (sym does) refl
acts_as cut asked (Say reply) act for does = subst (ActsAs (Say reply)) (sym does) refl

-- ---- the owner's own acts

own_by : (b : Bool) (now : Event) (cut : List Event) → is_some_worker now.party ≡ b
    → own (now ∷ cut) ≡ cond b (own cut) (now.act ∷ own cut)
own_by true now cut is = grind arith
own_by false now cut is = grind arith

-- an event of a job is none of them
pub own_not : (now : Event) (cut : List Event) → is_some_worker now.party ≡ true
    → own (now ∷ cut) ≡ own cut
own_not now cut is = own_by true now cut is

pub own_more : (now : Event) (cut : List Event) → is_some_worker now.party ≡ false
    → own (now ∷ cut) ≡ now.act ∷ own cut
own_more now cut is = own_by false now cut is

-- What holds of them after an event: it may be a job's, or one of them.
pub own_after : (P : List Act → Type 0) (now : Event) (cut : List Event)
    → (is_some_worker now.party ≡ true → P (own cut))
    → (is_some_worker now.party ≡ false → P (now.act ∷ own cut)) → P (own (now ∷ cut))
own_after P now cut job mine = by (is_some_worker now.party) refl
  where
    by : (b : Bool) → is_some_worker now.party ≡ b → P (own (now ∷ cut))
    by true is = subst P (sym (own_not now cut is)) (job is)
    by false is = subst P (sym (own_more now cut is)) (mine is)

-- Each of them is what the laws let the owner do.
pub own_law : (now : Event) (cut : List Event) → OwnerLaws (now ∷ cut)
    → is_some_worker now.party ≡ false → OwnerActs cut now.act
own_law now cut laws is = subst (λ b. OwnerMayAct b cut now) is laws.0.acts

-- ---- what was done in a poll so far

-- whether the next action, with no wake in between, says no number above 0
abbrev pub IsCalm : OwnerAction → Type 0
IsCalm (Say (Count (suc k))) = ⊥
IsCalm action = Unit {0}

abbrev pub calmly : List Act → Type 0
calmly acts = (cut : List Event) → IsCalm (owner_next_but_wake cut acts)

-- the poll will say this number next
abbrev pub will_say : List Act → ℕ → Type 0
will_say acts n = (cut : List Event) → owner_next_but_wake cut acts ≡ Say (Count n)

-- Of a poll that reads: nothing came out of the pipe, or what came out is told next.
pub record ReadAs (m : ℕ) (acts : List Act) : Type 0 where
  pub none_filled : filled_now acts ≡ []
  pub got : ((got_now acts ≡ []) × calmly acts) ⊎ ((0 < length (got_now acts))
      × (length (got_now acts) ≤ m) × will_say acts (length (got_now acts)))

-- Of a poll that writes: nothing went into the pipe, or what went in is told next.
pub record WriteAs (bytes : List ℕ) (acts : List Act) : Type 0 where
  pub none_got : got_now acts ≡ []
  pub filled : ((filled_now acts ≡ []) × calmly acts)
      ⊎ ((n : ℕ) × (0 < n) × (n ≤ length bytes) × (filled_now acts ≡ take n bytes)
      × will_say acts n)

-- Of a poll that flushes: nothing passes.
pub record FlushAs (acts : List Act) : Type 0 where
  pub none_got : got_now acts ≡ []
  pub none_filled : filled_now acts ≡ []

abbrev pub CallAs : Option HandleCall → List Act → Type 0
CallAs (Some (Read m)) acts = ReadAs m acts
CallAs (Some (Write bytes)) acts = WriteAs bytes acts
CallAs (Some Flush) acts = FlushAs acts
CallAs asked acts = Unit {0}

abbrev pub PollAs : List Act → Type 0
PollAs acts = CallAs (under_way acts) acts

-- ---- it stays so

-- a call that is under way is the one that was asked last
pub under_way_call : (acts : List Act) (asked : HandleCall) → under_way acts ≡ Some asked
    → call acts ≡ Some asked
under_way_call [] asked is = absurd cc
under_way_call (act ∷ acts) asked is = grind (arith, under_way_call acts asked)

-- of the calls of a copier
abbrev pub IsCopiers : HandleCall → Type 0
IsCopiers (Read m) = Unit {0}
IsCopiers (Write bytes) = Unit {0}
IsCopiers Flush = Unit {0}
IsCopiers asked = ⊥

-- such a call begins calmly, and goes on calmly once its session began, or its handle is back
table_calm : (asked : HandleCall) (at : State) → IsCopiers asked → IsCalm (table asked at)
table_calm asked at its = grind arith

asked_calm : (asked : HandleCall) (begun : Bool) (at : State) → IsCopiers asked
    → IsCalm (at_asked asked begun at)
asked_calm asked begun at its = grind (arith, table_calm)

accepted_calm : (asked : HandleCall) (at : State) → IsCopiers asked
    → IsCalm (at_accepted (Some asked) at)
accepted_calm asked at its = grind (arith, table_calm)

end_calm : (asked : HandleCall) (ended : Bool) (kind : Kind) (n : ℕ) → IsCopiers asked
    → IsCalm (after_end asked ended kind n)
end_calm asked ended kind n its = grind (arith, table_calm)

back_calm : (asked : HandleCall) (found : Option (Fault ℕ)) (ended : Bool) (kind : Kind) (n : ℕ)
    → IsCopiers asked → IsCalm (after_back asked found ended kind n)
back_calm asked found ended kind n its = grind (arith, end_calm)

at_back_calm : (asked : HandleCall) (last : Option Session) (ended : Bool) (cut : List Event)
    → IsCopiers asked → IsCalm (at_back (Some asked) last ended cut)
at_back_calm asked last ended cut its = grind (arith, back_calm)

refusal_calm : (asked : Option HandleCall) (why : Refusal) → IsCalm (Say (refusal asked why))
refusal_calm asked why = grind arith

-- whether nothing passes by an act of a poll, which goes on
abbrev pub is_quiet : Act → Bool
is_quiet (Made h capacity) = false
is_quiet (Asked asked) = false
is_quiet (Got bytes told) = false
is_quiet (Filled n told) = false
is_quiet (ResultGot n) = false
is_quiet (JobWoken s woke) = false
is_quiet Waits = false
is_quiet (Replied reply) = false
is_quiet HolderDropped = false
is_quiet act = true

-- an act that wakes no job
abbrev pub IsNoWaking : Act → Type 0
IsNoWaking (JobWoken s woke) = ⊥
IsNoWaking act = Unit {0}

quiet_plain : (act : Act) → is_quiet act ≡ true → IsNoWaking act
quiet_plain act quiet = grind arith

-- what follows an act of such a poll by which nothing passes
module _ (asked : HandleCall) (acts : List Act) (its : IsCopiers asked)
    (is : under_way acts ≡ Some asked) where
  called : call acts ≡ Some asked
  called = under_way_call acts asked is

  -- what is next is no wait for a result
  no_place : (cut : List Event) → owner_next_but_wake cut acts ≡ PollPlace → ⊥
  no_place cut next =
      let for : is_operation (call acts) ≡ true =
      subst (λ n. IsFor n (call acts)) next (is_for cut acts) in
      let one : is_operation (Some asked) ≡ true = sym (ap is_operation called) ∙ for in
      none asked its one
    where
      none : (asked : HandleCall) → IsCopiers asked → is_operation (Some asked) ≡ true → ⊥
      none asked its one = grind arith

  calm_after : (act : Act) → is_quiet act ≡ true → calmly (act ∷ acts)
  calm_after (Accepted s) quiet =
      λ cut. subst (λ c. IsCalm (at_accepted c (state (Accepted s ∷ acts)))) (sym called)
      (accepted_calm asked (state (Accepted s ∷ acts)) its)
  calm_after Back quiet =
      λ cut. subst (λ c. IsCalm (at_back c (last_session acts) (is_at_end acts) cut)) (sym called)
      (at_back_calm asked (last_session acts) (is_at_end acts) cut its)
  calm_after (Refused why) quiet = λ cut. refusal_calm (call acts) why
  calm_after (ResultGot n) quiet = absurd cc
  calm_after (Got bytes told) quiet = absurd cc
  calm_after (Filled n told) quiet = absurd cc
  calm_after (JobWoken s woke) quiet = absurd cc
  calm_after (Asked other) quiet = absurd cc
  calm_after act quiet = λ cut. tt

-- what such an act leaves
record IsLeft (acts : List Act) (act : Act) : Type 0 where
  got : got_now (act ∷ acts) ≡ got_now acts
  filled : filled_now (act ∷ acts) ≡ filled_now acts
  under : under_way (act ∷ acts) ≡ under_way acts

left_by : (acts : List Act) (act : Act) → is_quiet act ≡ true → IsLeft acts act
left_by acts act quiet = grind arith

-- no reply is next where such an act follows
no_say : (next : OwnerAction) (act : Act) → ActsAs next act → is_quiet act ≡ true → (n : ℕ)
    → next ≡ Say (Count n) → ⊥
no_say next act acts quiet n is = grind arith

-- an act but for a wake is that of the next action but for wakes
pub acts_now : (cut : List Event) (act : Act) → Polls cut (next_of_owner cut) act → IsNoWaking act
    → ActsAs (owner_next_but_wake cut (own cut)) act
acts_now cut act does plain =
    let same : next_of_owner cut ≡ owner_next_but_wake cut (own cut) =
    next_is cut (own cut) (no_waking cut (next_of_owner cut) act does plain) in
    acts_as cut (call (own cut)) (owner_next_but_wake cut (own cut)) act (is_for cut (own cut))
    (subst (λ n. Polls cut n act) same does)
  where
    no_waking : (cut : List Event) (next : OwnerAction) (act : Act) → Polls cut next act
        → IsNoWaking act → IsNoWake next
    no_waking cut (WakeJob s) act does plain = woken act does plain
      where
        woken : (act : Act) → IsWakeOf s act → IsNoWaking act → ⊥
        woken act does plain = grind arith
    no_waking cut next act does plain = tt

-- Nothing came out of the pipe, and nothing went in, where no number is said next.
unsaid_got : (cut : List Event) (acts : List Act) (m : ℕ) → ReadAs m acts
    → ((k : ℕ) → owner_next_but_wake cut acts ≡ Say (Count k) → ⊥) → got_now acts ≡ []
unsaid_got cut acts m was unsaid =
    ⊎_elim (λ calm. calm.0) (λ says. absurd (unsaid _ (says.2 cut))) was.got

unsaid_filled : (cut : List Event) (acts : List Act) (bytes : List ℕ) → WriteAs bytes acts
    → ((k : ℕ) → owner_next_but_wake cut acts ≡ Say (Count k) → ⊥) → filled_now acts ≡ []
unsaid_filled cut acts bytes was unsaid =
    ⊎_elim (λ calm. calm.0) (λ says. absurd (unsaid _ (says.4 cut))) was.filled

-- after such an act of a poll
quietly : (cut : List Event) (act : Act) (asked : HandleCall) → under_way (own cut) ≡ Some asked
    → is_quiet act ≡ true → Polls cut (next_of_owner cut) act → CallAs (Some asked) (own cut)
    → CallAs (Some asked) (act ∷ own cut)
quietly cut act (Read m) is quiet does was =
    let left = left_by (own cut) act quiet in
    let now = acts_now cut act does (quiet_plain act quiet) in
    record {
      none_filled = left.filled ∙ was.none_filled;
      got = inl (
        left.got ∙ unsaid_got cut (own cut) m was (no_say _ act now quiet),
        calm_after (Read m) (own cut) tt is act quiet,
      );
    }
quietly cut act (Write bytes) is quiet does was =
    let left = left_by (own cut) act quiet in
    let now = acts_now cut act does (quiet_plain act quiet) in
    record {
      none_got = left.got ∙ was.none_got;
      filled = inl (
        left.filled ∙ unsaid_filled cut (own cut) bytes was (no_say _ act now quiet),
        calm_after (Write bytes) (own cut) tt is act quiet,
      );
    }
quietly cut act Flush is quiet does was =
    let left = left_by (own cut) act quiet in
    record { none_got = left.got ∙ was.none_got; none_filled = left.filled ∙ was.none_filled }
quietly cut act asked is quiet does was = tt

-- a poll begins
begins : (asked : HandleCall) (acts : List Act) → CallAs (Some asked) (Asked asked ∷ acts)
begins (Read m) acts = record {
  none_filled = refl;
  got = inl (refl, λ cut. asked_calm (Read m) (has_begun acts) (state acts) tt);
}
begins (Write bytes) acts = record {
  none_got = refl;
  filled = inl (refl, λ cut. asked_calm (Write bytes) (has_begun acts) (state acts) tt);
}
begins Flush acts = record { none_got = refl; none_filled = refl }
begins asked acts = tt

-- a number isn't said where the pipe is asked
no_drain : {next : OwnerAction} {n k : ℕ} → next ≡ Say (Count k) → next ≡ Drain n → ⊥
no_drain says drains = let both = sym says ∙ drains in cc

no_fill : {next : OwnerAction} {bytes : List ℕ} {k : ℕ} → next ≡ Say (Count k) → next ≡ Fill bytes
    → ⊥
no_fill says fills = let both = sym says ∙ fills in cc

-- What the pipe is asked is for the read that is under way, or for the write.
drains : (cut : List Event) (acts : List Act) (n : ℕ) (asked : HandleCall)
    → under_way acts ≡ Some asked → owner_next_but_wake cut acts ≡ Drain n → Read n ≡ asked
drains cut acts n asked is next =
    let for = subst (λ a. IsFor a (call acts)) next (is_for cut acts) in
    let one : Some (Read n) ≡ Some asked = sym for.0 ∙ under_way_call acts asked is in
    cc

fills_is : (cut : List Event) (acts : List Act) (bytes : List ℕ) (asked : HandleCall)
    → under_way acts ≡ Some asked → owner_next_but_wake cut acts ≡ Fill bytes → Write bytes ≡ asked
fills_is cut acts bytes asked is next =
    let for = subst (λ a. IsFor a (call acts)) next (is_for cut acts) in
    let one : Some (Write bytes) ≡ Some asked = sym for.0 ∙ under_way_call acts asked is in
    cc

-- bytes come out of the pipe
module _ (acts : List Act) (bytes : List ℕ) (told : Option ℕ) (some : 0 < length bytes) where
  gets_read : (m : ℕ) → length bytes ≤ m → got_now acts ≡ [] → filled_now acts ≡ []
      → ReadAs m (Got bytes told ∷ acts)
  gets_read m fits none none_filled =
      let same : got_now acts ++ bytes ≡ bytes = ap (λ l. l ++ bytes) none in
      record {
        none_filled = none_filled;
        got = subst (λ l. ((l ≡ []) × calmly (Got bytes told ∷ acts)) ⊎ ((0 < length l)
            × (length l ≤ m) × will_say (Got bytes told ∷ acts) (length l))) (sym same)
            (inr (some, fits, λ cut. refl));
      }

  gets : (cut : List Event) (n : ℕ) (asked : HandleCall) → under_way acts ≡ Some asked
      → owner_next_but_wake cut acts ≡ Drain n → length bytes ≤ n → CallAs (Some asked) acts
      → CallAs (Some asked) (Got bytes told ∷ acts)
  gets cut n asked is next fits was =
      subst (λ c. CallAs (Some c) acts → CallAs (Some c) (Got bytes told ∷ acts))
      (drains cut acts n asked is next)
      (λ reads. gets_read n fits (unsaid_got cut acts n reads (λ k says. no_drain says next))
      reads.none_filled) was

-- and go in
module _ (acts : List Act) (n : ℕ) (told : Option ℕ) (some : 0 < n) where
  fills_write : (bytes : List ℕ) → n ≤ length bytes → call acts ≡ Some (Write bytes)
      → got_now acts ≡ [] → filled_now acts ≡ [] → WriteAs bytes (Filled n told ∷ acts)
  fills_write bytes fits called none_got none =
      let same : filled_now acts ++ take n (data_of (call acts)) ≡ take n bytes =
      ap (λ l. l ++ take n (data_of (call acts))) none ∙ ap (λ c. take n (data_of c)) called in
      record { none_got = none_got; filled = inr (n, some, fits, same, λ cut. refl) }

  fills : (cut : List Event) (bytes : List ℕ) (asked : HandleCall) → under_way acts ≡ Some asked
      → owner_next_but_wake cut acts ≡ Fill bytes → n ≤ length bytes → CallAs (Some asked) acts
      → CallAs (Some asked) (Filled n told ∷ acts)
  fills cut bytes asked is next fits was =
      let same = fills_is cut acts bytes asked is next in
      subst (λ c. CallAs (Some c) acts → CallAs (Some c) (Filled n told ∷ acts)) same
      (λ writes. fills_write bytes fits
      (under_way_call acts (Write bytes) (is ∙ ap (λ c. Some c) (sym same))) writes.none_got
      (unsaid_filled cut acts bytes writes (λ k says. no_fill says next))) was

-- a wake of a job comes between
woken : (s : ℕ) (woke : Woke) (acts : List Act) (asked : Option HandleCall) → CallAs asked acts
    → CallAs asked (JobWoken s woke ∷ acts)
woken s woke acts (Some (Read m)) was = record { none_filled = was.none_filled; got = was.got }
woken s woke acts (Some (Write bytes)) was = record { none_got = was.none_got; filled = was.filled }
woken s woke acts (Some Flush) was =
    record { none_got = was.none_got; none_filled = was.none_filled }
woken s woke acts asked was = tt

-- no result is found by such a poll
no_result : (cut : List Event) (acts : List Act) (n : ℕ) (asked : HandleCall)
    → under_way acts ≡ Some asked → owner_next_but_wake cut acts ≡ PollPlace
    → CallAs (Some asked) (ResultGot n ∷ acts)
no_result cut acts n asked is next = by asked is
  where
    by : (asked : HandleCall) → under_way acts ≡ Some asked
        → CallAs (Some asked) (ResultGot n ∷ acts)
    by (Read m) is = absurd (no_place (Read m) acts tt is cut next)
    by (Write bytes) is = absurd (no_place (Write bytes) acts tt is cut next)
    by Flush is = absurd (no_place Flush acts tt is cut next)
    by asked is = tt

-- ---- each act

-- the same where a poll is under way, or none
if_polled : (acts : List Act) (act : Act) → under_way (act ∷ acts) ≡ under_way acts
    → ((asked : HandleCall) → under_way acts ≡ Some asked → CallAs (Some asked) acts
    → CallAs (Some asked) (act ∷ acts)) → PollAs acts → PollAs (act ∷ acts)
if_polled acts act same goes was =
    subst (λ a. CallAs a (act ∷ acts)) (sym same) (by (under_way acts) refl was)
  where
    by : (a : Option HandleCall) → under_way acts ≡ a → CallAs a acts → CallAs a (act ∷ acts)
    by None is was = tt
    by (Some asked) is was = goes asked is was

pub poll_on : (cut : List Event) (act : Act) → PollAs (own cut) → OwnerActs cut act
    → PollAs (act ∷ own cut)
poll_on cut (Asked asked) was does = begins asked (own cut)
poll_on cut (Made h capacity) was does = tt
poll_on cut Waits was does = tt
poll_on cut (Replied reply) was does = tt
poll_on cut HolderDropped was does = tt
poll_on cut (JobWoken s woke) was does = if_polled (own cut) (JobWoken s woke) refl
    (λ asked is was. woken s woke (own cut) (Some asked) was) was
poll_on cut (Got bytes told) was does =
    let now = acts_now cut (Got bytes told) does tt in
    if_polled (own cut) (Got bytes told) refl
    (λ asked is was. gets (own cut) bytes told now.2 cut now.0 asked is now.1 now.3 was) was
poll_on cut (Filled n told) was does =
    let now = acts_now cut (Filled n told) does tt in
    if_polled (own cut) (Filled n told) refl
    (λ asked is was. fills (own cut) n told now.2 cut now.0 asked is now.1 now.3 was) was
poll_on cut (ResultGot n) was does =
    if_polled (own cut) (ResultGot n) refl (λ asked is was.
    no_result cut (own cut) n asked is (acts_now cut (ResultGot n) does tt)) was
poll_on cut act was does =
    if_polled (own cut) act refl (λ asked is was. quietly cut act asked is refl does was) was

-- By its laws each owner's poll is so.
pub poll_as : (cut : List Event) → EachMayFollow OwnerLaw cut → PollAs (own cut)
poll_as [] laws = tt
poll_as (now ∷ cut) laws =
    let was = poll_as cut laws.1 in
    own_after PollAs now cut (λ is. was)
    (λ is. poll_on cut now.act was (own_law now cut laws is))

-- ---- what an act of a poll finds

-- how a reply goes with what came out of the pipe
abbrev pub ReadReply : ℕ → List Act → Reply → Type 0
ReadReply m acts (Count zero) = got_now acts ≡ []
ReadReply m acts (Count (suc k)) = (length (got_now acts) ≡ suc k) × (suc k ≤ m)
ReadReply m acts reply = got_now acts ≡ []

-- and with what went in
abbrev pub WriteReply : List ℕ → List Act → Reply → Type 0
WriteReply bytes acts (Count zero) = filled_now acts ≡ []
WriteReply bytes acts (Count (suc k)) =
    (filled_now acts ≡ take (suc k) bytes) × (suc k ≤ length bytes)
WriteReply bytes acts reply = filled_now acts ≡ []

abbrev pub StepAs : HandleCall → List Act → Act → Type 0
StepAs asked acts (Asked other) = ⊥
StepAs asked acts (Made h capacity) = ⊥
StepAs asked acts HolderDropped = ⊥
StepAs (Read m) acts (Got bytes told) = got_now acts ≡ []
StepAs (Read m) acts Waits = got_now acts ≡ []
StepAs (Read m) acts (Replied reply) = ReadReply m acts reply
StepAs (Write bytes) acts (Filled n told) = (filled_now acts ≡ []) × (n ≤ length bytes)
StepAs (Write bytes) acts Waits = filled_now acts ≡ []
StepAs (Write bytes) acts (Replied reply) = WriteReply bytes acts reply
StepAs Flush acts (Filled n told) = ⊥
StepAs (Write bytes) acts (Got other told) = ⊥
StepAs Flush acts (Got other told) = ⊥
StepAs asked acts act = Unit {0}

-- a number that is said is one
zero_or_more : {next : OwnerAction} {k n : ℕ} → next ≡ Say (Count k) → next ≡ Say (Count n) → k ≡ n
zero_or_more a b = let both = sym a ∙ b in cc

other_reply : {next : OwnerAction} {reply : Reply} {n : ℕ} → next ≡ Say reply → next ≡ Say (Count n)
    → reply ≡ Count n
other_reply a b = let both = sym a ∙ b in cc

calm_is : (next : OwnerAction) (k : ℕ) → IsCalm next → next ≡ Say (Count (suc k)) → ⊥
calm_is next k calm is = subst IsCalm is calm

read_replied : (m : ℕ) (acts : List Act) (next : OwnerAction) (reply : Reply) → ReadAs m acts
    → (calmly acts → IsCalm next) → ((n : ℕ) → will_say acts n → next ≡ Say (Count n))
    → next ≡ Say reply → ReadReply m acts reply
read_replied m acts next reply was calm says is =
    ⊎_elim (λ quiet. quietly_so reply quiet.0 (calm quiet.1) is) (λ told. subst (ReadReply m acts)
    (sym (other_reply is (says _ told.2))) (counts (length (got_now acts)) refl told.0 told.1))
    was.got
  where
    quietly_so : (reply : Reply) → got_now acts ≡ [] → IsCalm next → next ≡ Say reply
        → ReadReply m acts reply
    quietly_so (Count zero) none calm is = none
    quietly_so (Count (suc k)) none calm is = absurd (calm_is next k calm is)
    quietly_so reply none calm is = none

    counts : (n : ℕ) → length (got_now acts) ≡ n → 0 < length (got_now acts)
        → length (got_now acts) ≤ m → ReadReply m acts (Count n)
    counts zero is some fits = absurd (omega (arith, is, some))
    counts (suc k) is some fits = (is, omega (arith, is, fits))

write_replied : (bytes : List ℕ) (acts : List Act) (next : OwnerAction) (reply : Reply)
    → WriteAs bytes acts → (calmly acts → IsCalm next)
    → ((n : ℕ) → will_say acts n → next ≡ Say (Count n)) → next ≡ Say reply
    → WriteReply bytes acts reply
write_replied bytes acts next reply was calm says is = ⊎_elim
    (λ quiet. quietly_so reply quiet.0 (calm quiet.1) is) (λ told. subst (WriteReply bytes acts)
    (sym (other_reply is (says _ told.4))) (counts told.0 told.1 told.2 told.3)) was.filled
  where
    quietly_so : (reply : Reply) → filled_now acts ≡ [] → IsCalm next → next ≡ Say reply
        → WriteReply bytes acts reply
    quietly_so (Count zero) none calm is = none
    quietly_so (Count (suc k)) none calm is = absurd (calm_is next k calm is)
    quietly_so reply none calm is = none

    counts : (n : ℕ) → 0 < n → n ≤ length bytes → filled_now acts ≡ take n bytes
        → WriteReply bytes acts (Count n)
    counts zero some fits is = absurd (omega (arith, some))
    counts (suc k) some fits is = (is, fits)

-- no poll is under way where an owner may be asked, or is dropped
pub no_poll : (acts : List Act) (asked : HandleCall) → under_way acts ≡ Some asked
    → rests acts ≡ true → ⊥
no_poll acts asked is resting = grind arith

pub no_ask : (acts : List Act) (asked other : HandleCall) → under_way acts ≡ Some asked
    → may_ask acts other ≡ true → ⊥
no_ask acts asked other is may = grind arith

pub no_owner : (cut : List Event) (asked : HandleCall) → under_way (own cut) ≡ Some asked → cut ≡ []
    → ⊥
no_owner cut asked is none = let nobody = ap (λ c. under_way (own c)) none in cc

-- bytes are got by reads alone
abbrev is_read : HandleCall → Bool
is_read (Read m) = true
is_read asked = false

not_read : (cut : List Event) (bytes : List ℕ) (told : Option ℕ) (asked : HandleCall)
    → under_way (own cut) ≡ Some asked → OwnerActs cut (Got bytes told) → is_read asked ≡ false → ⊥
not_read cut bytes told asked is does other =
    let now = acts_now cut (Got bytes told) does tt in
    let both = sym other ∙ ap is_read (sym (drains cut (own cut) now.0 asked is now.1)) in
    absurd cc

step_by : (cut : List Event) (act : Act) (asked : HandleCall) → under_way (own cut) ≡ Some asked
    → CallAs (Some asked) (own cut) → OwnerActs cut act → StepAs asked (own cut) act
step_by cut (Asked other) asked is was does = no_ask (own cut) asked other is does
step_by cut (Made h capacity) asked is was does = no_owner cut asked is does
step_by cut HolderDropped asked is was does = no_poll (own cut) asked is does
step_by cut (Got bytes told) (Read m) is was does =
    let now = acts_now cut (Got bytes told) does tt in
    unsaid_got cut (own cut) m was (λ k says. no_drain says now.1)
step_by cut Waits (Read m) is was does =
    unsaid_got cut (own cut) m was (λ k. acts_now cut Waits does tt (Count k))
step_by cut (Replied reply) (Read m) is was does =
    read_replied m (own cut) (owner_next_but_wake cut (own cut)) reply was (λ calm. calm cut)
    (λ n says. says cut) (acts_now cut (Replied reply) does tt)
step_by cut (Filled n told) (Write bytes) is was does =
    let now = acts_now cut (Filled n told) does tt in
    let one = fills_is cut (own cut) now.0 (Write bytes) is now.1 in
    let same : now.0 ≡ bytes = cc in (
      unsaid_filled cut (own cut) bytes was (λ k says. no_fill says now.1),
      subst (λ l. n ≤ length l) same now.3,
    )
step_by cut Waits (Write bytes) is was does =
    unsaid_filled cut (own cut) bytes was (λ k. acts_now cut Waits does tt (Count k))
step_by cut (Replied reply) (Write bytes) is was does =
    write_replied bytes (own cut) (owner_next_but_wake cut (own cut)) reply was (λ calm. calm cut)
    (λ n says. says cut) (acts_now cut (Replied reply) does tt)
step_by cut (Filled n told) Flush is was does =
    let now = acts_now cut (Filled n told) does tt in
    let one = fills_is cut (own cut) now.0 Flush is now.1 in
    absurd cc
step_by cut (Got bytes told) (Write other) is was does =
    not_read cut bytes told (Write other) is does refl
step_by cut (Got bytes told) Flush is was does = not_read cut bytes told Flush is does refl
step_by cut act asked is was does = tt

pub step_as : (cut : List Event) (act : Act) (asked : HandleCall) → under_way (own cut) ≡ Some asked
    → PollAs (own cut) → OwnerActs cut act → StepAs asked (own cut) act
step_as cut act asked is was does =
    step_by cut act asked is (subst (λ a. CallAs a (own cut)) is was) does
