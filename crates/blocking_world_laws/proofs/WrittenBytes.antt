-- A job takes no more out of its pipe than its writer took; so no more is accepted and not taken
-- than the pipe holds.
use Rattle.std.proofs.Common.{◌≡◌, refl, sym, ap, ◌∙◌, ℕ, suc, zero, ◌+◌, ◌≤◌, ◌==◌, Bool, true}
use Rattle.std.proofs.Common.{false, if◌then◌else◌, List, [], ◌∷◌, length, Option, Some, None}
use Rattle.std.proofs.Common.{arith, length-append}
use Rattle.std.specs.Prelude.{drop, take, map, filter, not, ◌&&◌, ◌||◌}
use Rattle.std.proofs.lemmas.Bool.{eqb-true}
use Rattle.std.proofs.lemmas.Bool.Decides.{nat_tests}
use Rattle.std.proofs.lemmas.List.{length-drop, length-take-le}
use mathlib.Core.Path.{subst}
use Rattle.blocking_pool.specs.Lists.{is_in}
use Rattle.blocking_world_laws.specs.Behind.{WritesBehind, AllWriteBehind}
use Rattle.blocking_world_laws.specs.Core.{Met, Served, Waiting, Closed, drain, receive, fill}
use Rattle.blocking_world_laws.specs.Core.{find_room, hand_in, peek}
use Rattle.blocking_world_laws.specs.JobTable.{Kind, Calling, Reading, Writing, Streaming, Seeking}
use Rattle.blocking_world_laws.specs.JobTable.{Operating, JobAction, AskBytes, FindRoom, PutPiece}
use Rattle.blocking_world_laws.specs.JobTable.{Peek, OfferBytes, Consume, AskItem, SendItem}
use Rattle.blocking_world_laws.specs.JobTable.{CloseEnd, PutResult, Finish, WakeHolder, Over, piece}
use Rattle.blocking_world_laws.specs.JobTable.{next_but_wake, next_of_job, next_after_answer}
use Rattle.blocking_world_laws.specs.JobTable.{after_put, wake_first, takes_waker, is_answer}
use Rattle.blocking_world_laws.specs.JobTable.{has_closed, has_result, has_finished, number}
use Rattle.blocking_world_laws.specs.Legal.{Legal}
use Rattle.blocking_world_laws.specs.OwnerLaws.{Polls, OwnerActs, Works, JobActs, JobMayAct}
use Rattle.blocking_world_laws.specs.OwnerLaws.{OwnerMayAct, OwnerLaws}
use Rattle.blocking_world_laws.specs.OwnerSeats.{noted, pipe_seat}
use Rattle.blocking_world_laws.specs.OwnerTable.{OwnerAction, Begin, CloseOwn, WakeJob, Drain, Fill}
use Rattle.blocking_world_laws.specs.OwnerTable.{Receive, PollSlot, PollPlace, Say, Rest}
use Rattle.blocking_world_laws.specs.OwnerTable.{next_of_owner}
use Rattle.blocking_world_laws.specs.Passed.{accepted, taken, removed, peeked, counted, inside}
use Rattle.blocking_world_laws.specs.Passed.{inside_by, last_job, kind_in, is_of_session, room_in}
use Rattle.blocking_world_laws.specs.Places.{seen_drain, seen_receive, seen_fill, seen_room, seated}
use Rattle.blocking_world_laws.specs.Places.{seen_put, seen_peek, poll_slot, poll_place}
use Rattle.blocking_world_laws.specs.Seen.{events, cut, own, acts_of, is_of_job, is_of_pool}
use Rattle.blocking_world_laws.specs.Seen.{is_nothing, is_some_worker, is_this}
use Rattle.blocking_world_laws.specs.Sessions.{Session, last_session, jobs_of, kind_of_job, kind_of}
use Rattle.blocking_world_laws.specs.Sessions.{call, capacity, is_shut}
use Rattle.blocking_world_laws.specs.declared.event.Act.{Act}
use Rattle.blocking_world_laws.specs.declared.event.Act.TheVariants.{Accepted, Answered, RoomFree}
use Rattle.blocking_world_laws.specs.declared.event.Act.TheVariants.{RoomShut, Put, Lost, Peeked}
use Rattle.blocking_world_laws.specs.declared.event.Act.TheVariants.{Drained, Taken as TakenOut}
use Rattle.blocking_world_laws.specs.declared.event.Act.TheVariants.{JobClosed, ResultPut, Finished}
use Rattle.blocking_world_laws.specs.declared.event.Act.TheVariants.{GaveUp}
use Rattle.blocking_world_laws.specs.declared.event.Event.{Event}
use Rattle.blocking_world_laws.specs.declared.event.HolderWaker.{HolderWaker}
use Rattle.blocking_world_laws.specs.declared.event.Moment.{Moment}
use Rattle.blocking_world_laws.specs.declared.step.HandleAnswer.{HandleAnswer}
use Rattle.blocking_world_laws.specs.declared.step.HandleAnswer.TheVariants.{Number, Gave, Item}

-- ---- what is seen at a place

-- an act that no place answers: a new job, an answer from outside, bytes that are taken out
abbrev is_elsewhere : Act → Bool
is_elsewhere (Accepted s) = true
is_elsewhere (Answered answer) = true
is_elsewhere (TakenOut n waker) = true
is_elsewhere _ = false

at_drain : (met : Met (List ℕ × Option ℕ)) → is_elsewhere (seen_drain met) ≡ false
at_drain (Served found) = refl
at_drain Waiting = refl
at_drain Closed = refl

at_receive : (met : Met (ℕ × Option ℕ)) → is_elsewhere (seen_receive met) ≡ false
at_receive (Served found) = refl
at_receive Waiting = refl
at_receive Closed = refl

at_fill : (met : Met (ℕ × Option ℕ)) → is_elsewhere (seen_fill met) ≡ false
at_fill (Served went) = refl
at_fill Waiting = refl
at_fill Closed = refl

at_slot : (there : Bool) → is_elsewhere (poll_slot there) ≡ false
at_slot true = refl
at_slot false = refl

at_result : (there : Bool) (n : ℕ) → is_elsewhere (poll_place there n) ≡ false
at_result true n = refl
at_result false n = refl

at_room : (met : Met ℕ) → is_elsewhere (seen_room met) ≡ false
at_room (Served room) = refl
at_room Waiting = refl
at_room Closed = refl

at_put : (n : ℕ) (met : Met (Option (Unit {0}))) → is_elsewhere (seen_put n met) ≡ false
at_put n (Served seat) = refl
at_put n Waiting = refl
at_put n Closed = refl

at_peek : (met : Met (List ℕ)) → is_elsewhere (seen_peek met) ≡ false
at_peek (Served found) = refl
at_peek Waiting = refl
at_peek Closed = refl

not_there : (act seen : Act) → is_elsewhere act ≡ true → act ≡ seen → is_elsewhere seen ≡ false → ⊥
not_there act seen is same none = let both : true ≡ false = sym is ∙ ap is_elsewhere same ∙ none in
    cc

-- ---- what a job may do

-- where it takes bytes out, or is answered, that is its next action or an answer to it
abbrev Meets : JobAction → Act → Type 0
Meets action (TakenOut n waker) = action ≡ Consume n
Meets action (Answered answer) = is_answer action answer ≡ true
Meets action act = Unit {0}

no_place : (action : JobAction) (act seen : Act) → act ≡ seen → is_elsewhere seen ≡ false
    → Meets action act
no_place action (TakenOut n waker) seen same none =
    absurd (not_there (TakenOut n waker) seen refl same none)
no_place action (Answered answer) seen same none =
    absurd (not_there (Answered answer) seen refl same none)
no_place action _ seen same none = tt

taken_out : (n : ℕ) (waker : HolderWaker) (act : Act) → act ≡ TakenOut n waker
    → Meets (Consume n) act
taken_out n waker act same = subst (Meets (Consume n)) (sym same) refl

meets : (cut : List Event) (action : JobAction) (act : Act) → Works cut action act
    → Meets action act
meets cut FindRoom act is =
    no_place FindRoom act _ is (at_room (find_room (room_in cut) (not (is_shut (own cut)))))
meets cut (PutPiece bytes) act is =
    no_place (PutPiece bytes) act _ is (at_put (length bytes)
    (hand_in (length bytes) (room_in cut) (not (is_shut (own cut))) (seated (pipe_seat cut))))
meets cut (SendItem x) act is = no_place (SendItem x) act _ is
    (at_put 1 (hand_in 1 (room_in cut) (not (is_shut (own cut))) (seated (pipe_seat cut))))
meets cut Peek act is =
    no_place Peek act _ is (at_peek (peek piece (inside cut) (not (is_shut (own cut)))))
meets cut (Consume n) act is = taken_out n _ act is
meets cut CloseEnd act is = no_place CloseEnd act _ is refl
meets cut PutResult act is = no_place PutResult act _ is refl
meets cut Finish act is = no_place Finish act _ is refl
meets cut WakeHolder act is = no_place WakeHolder act _ is refl
meets cut Over act is = absurd is
meets cut action (Answered answer) is = is
meets cut _ _ is = absurd is

-- what does so called no waker
meets_awake : (woke : Bool) (action : JobAction) (act : Act) → Meets (wake_first woke action) act
    → Meets action act
meets_awake false action act is = is
meets_awake true action (TakenOut n waker) is = absurd cc
meets_awake true action (Answered answer) is = absurd cc
meets_awake true action _ is = tt

meets_next : (kind : Kind) (acts : List Act) (act : Act) → Meets (next_of_job kind acts) act
    → Meets (next_but_wake kind acts) act
meets_next kind [] act is = is
meets_next kind (last ∷ past) act is =
    meets_awake (takes_waker last) (next_but_wake kind (last ∷ past)) act is

job_meets : (cut : List Event) (s : ℕ) (kind : Kind) (act : Act) → JobActs cut s kind act
    → Meets (next_but_wake kind (acts_of s cut)) act
job_meets cut s kind (GaveUp waker) is = tt
job_meets cut s kind (TakenOut n waker) is = meets_next kind (acts_of s cut) (TakenOut n waker)
    (meets cut (next_of_job kind (acts_of s cut)) (TakenOut n waker) is)
job_meets cut s kind (Answered answer) is = meets_next kind (acts_of s cut) (Answered answer)
    (meets cut (next_of_job kind (acts_of s cut)) (Answered answer) is)
job_meets cut s kind _ is = tt

-- ---- one job

-- A job took no more out of the pipe than its writer took, also with what it is to take out next;
-- and it offers the piece that it found last.
record Behind (kind : Kind) (acts : List Act) : Type 0 where
  pub out : removed acts ≤ length (taken acts)
  pub due : (n : ℕ) → next_but_wake kind acts ≡ Consume n → n + removed acts ≤ length (taken acts)
  pub offered : (bytes : List ℕ) → next_but_wake kind acts ≡ OfferBytes bytes → peeked acts ≡ bytes

-- whether an action has to do with bytes that a writer is offered or took
abbrev is_of_writer : JobAction → Bool
is_of_writer (Consume n) = true
is_of_writer (OfferBytes bytes) = true
is_of_writer _ = false

not_so : (action other : JobAction) → is_of_writer action ≡ false → is_of_writer other ≡ true
    → action ≡ other → ⊥
not_so action other none is same = let both : true ≡ false =
    sym is ∙ sym (ap is_of_writer same) ∙ none in cc

-- where it does something else next
elsewhere : (kind : Kind) (acts : List Act) → removed acts ≤ length (taken acts)
    → is_of_writer (next_but_wake kind acts) ≡ false → Behind kind acts
elsewhere kind acts within none = record {
  out = within;
  due = λ n is. absurd (not_so (next_but_wake kind acts) (Consume n) none refl is);
  offered = λ bytes is. absurd (not_so (next_but_wake kind acts) (OfferBytes bytes) none refl is);
}

first_is : (kind : Kind) → is_of_writer (next_but_wake kind []) ≡ false
first_is Calling = refl
first_is Reading = refl
first_is Writing = refl
first_is Streaming = refl
first_is (Seeking position) = refl
first_is Operating = refl

put_is : (kind : Kind) → is_of_writer (after_put kind) ≡ false
put_is Streaming = refl
put_is _ = refl

-- an answer to an offer leaves bytes to be taken out, as many as were taken; no other leaves any
taken_is_due : (action : JobAction) (answer : HandleAnswer) (n : ℕ) (found : List ℕ)
    → is_answer action answer ≡ true → next_after_answer action answer ≡ Consume n
    → ((bytes : List ℕ) → action ≡ OfferBytes bytes → found ≡ bytes)
    → length (counted answer found) ≡ n
taken_is_due (OfferBytes bytes) (Number zero) n found fits next offered = absurd cc
taken_is_due (OfferBytes bytes) (Number (suc k)) n found fits next offered =
    let same : found ≡ bytes = offered bytes refl in
    let count : suc k ≡ n = cc in
    let within : suc k ≤ length bytes = grind (arith, fits, nat_tests) in
    subst (λ (l : List ℕ). length (take (suc k) l) ≡ n) (sym same)
    (length-take-le (suc k) bytes within ∙ count)
taken_is_due (OfferBytes bytes) _ n found fits next offered = absurd cc
taken_is_due (AskBytes m) (Gave []) n found fits next offered = absurd cc
taken_is_due (AskBytes m) (Gave (b ∷ bs)) n found fits next offered = absurd cc
taken_is_due (AskBytes m) _ n found fits next offered = absurd cc
taken_is_due AskItem (Item x) n found fits next offered = absurd cc
taken_is_due AskItem _ n found fits next offered = absurd cc
taken_is_due _ answer n found fits next offered = absurd cc

-- and none leaves an offer
no_offer : (action : JobAction) (answer : HandleAnswer) (bytes : List ℕ)
    → next_after_answer action answer ≡ OfferBytes bytes → ⊥
no_offer (OfferBytes more) (Number zero) bytes next = cc
no_offer (OfferBytes more) (Number (suc k)) bytes next = cc
no_offer (OfferBytes more) _ bytes next = cc
no_offer (AskBytes m) (Gave []) bytes next = cc
no_offer (AskBytes m) (Gave (b ∷ bs)) bytes next = cc
no_offer (AskBytes m) _ bytes next = cc
no_offer AskItem (Item x) bytes next = cc
no_offer AskItem _ bytes next = cc
no_offer _ answer bytes next = cc

more_taken : (acts : List Act) (answer : HandleAnswer) → length (taken (Answered answer ∷ acts))
    ≡ length (taken acts) + length (counted answer (peeked acts))
more_taken acts answer = length-append (taken acts) (counted answer (peeked acts))

-- each act of a job keeps it so
after : (kind : Kind) (acts : List Act) (act : Act) → Behind kind acts
    → Meets (next_but_wake kind acts) act → Behind kind (act ∷ acts)
after kind acts (Answered answer) b is = record {
  out = let more = more_taken acts answer in let out = b.out in omega (arith, more, out);
  due = λ n next.
      (let more = more_taken acts answer in
      let out = b.out in
      let due = taken_is_due (next_but_wake kind acts) answer n (peeked acts) is next b.offered in
      omega (arith, more, out, due));
  offered = λ bytes next. absurd (no_offer (next_but_wake kind acts) answer bytes next);
}
after kind acts (TakenOut n waker) b is = elsewhere kind (TakenOut n waker ∷ acts) (b.due n is) refl
after kind acts (Peeked bytes) b is = record {
  out = b.out;
  due = λ n next. absurd cc;
  offered = λ found next. cc;
}
after kind acts (RoomFree n) b is = elsewhere kind (RoomFree n ∷ acts) b.out refl
after kind acts RoomShut b is = elsewhere kind (RoomShut ∷ acts) b.out refl
after kind acts (Put n waker) b is = elsewhere kind (Put n waker ∷ acts) b.out (put_is kind)
after kind acts (Lost n) b is = elsewhere kind (Lost n ∷ acts) b.out refl
after kind acts Drained b is = elsewhere kind (Drained ∷ acts) b.out refl
after kind acts (JobClosed waker) b is = elsewhere kind (JobClosed waker ∷ acts) b.out refl
after kind acts (ResultPut waker) b is = elsewhere kind (ResultPut waker ∷ acts) b.out refl
after kind acts (Finished waker) b is = elsewhere kind (Finished waker ∷ acts) b.out refl
after kind acts (GaveUp waker) b is = elsewhere kind (GaveUp waker ∷ acts) b.out refl
after kind acts _ b is = record { out = b.out; due = b.due; offered = b.offered }

-- ---- all jobs of an owner

-- each job of an owner is so; and what is no job of it did nothing
record AreBehind (own_acts : List Act) (cut : List Event) : Type 0 where
  pub none : (s : ℕ) → is_in s (jobs_of own_acts) ≡ false → acts_of s cut ≡ []
  pub each : (s : ℕ) → Behind (kind_of_job s own_acts) (acts_of s cut)

-- a session begins with a new job
begun_anew : (cut : List Event) (action : OwnerAction) (s : ℕ) → Polls cut action (Accepted s)
    → is_in s (jobs_of (own cut)) ≡ false
begun_anew cut Begin s is = is
begun_anew cut (WakeJob t) s is = absurd is
begun_anew cut CloseOwn s is = absurd (not_there (Accepted s) _ refl is refl)
begun_anew cut (Drain n) s is = absurd (not_there (Accepted s) _ refl is
    (at_drain (drain n (inside cut) (not (has_closed (last_job cut))) (noted cut))))
begun_anew cut (Fill bytes) s is = absurd (not_there (Accepted s) _ refl is
    (at_fill (fill (length bytes) (room_in cut) (not (has_closed (last_job cut))) (noted cut))))
begun_anew cut Receive s is = absurd (not_there (Accepted s) _ refl is
    (at_receive (receive (inside cut) (not (has_closed (last_job cut))) (noted cut))))
begun_anew cut PollSlot s is =
    absurd (not_there (Accepted s) _ refl is (at_slot (has_finished (last_job cut))))
begun_anew cut PollPlace s is = absurd (not_there (Accepted s) _ refl is
    (at_result (has_result (last_job cut)) (number (last_job cut))))
begun_anew cut (Say reply) s is = absurd (not_there (Accepted s) _ refl is refl)
begun_anew cut Rest s is = absurd is

neither : (b c : Bool) → (b || c) ≡ false → c ≡ false
neither true c e = absurd cc
neither false c e = e

-- an own act keeps it so
after_own : (cut : List Event) (act : Act) → AreBehind (own cut) cut → OwnerActs cut act
    → AreBehind (act ∷ own cut) cut
after_own cut (Accepted t) b is = record {
  none = λ s out. b.none s (neither (s == t) (is_in s (jobs_of (own cut))) out);
  each = λ s. by s (t == s) refl;
}
  where
    by : (s : ℕ) (same : Bool) → (t == s) ≡ same → Behind
        (if same then kind_of (call (own cut)) else kind_of_job s (own cut)) (acts_of s cut)
    by s true e =
        let new = begun_anew cut (next_of_owner cut) t is in
        let nothing =
        b.none s (subst (λ n. is_in n (jobs_of (own cut)) ≡ false) (eqb-true t s e) new) in
        subst (Behind (kind_of (call (own cut)))) (sym nothing) (elsewhere
        (kind_of (call (own cut))) [] (omega arith) (first_is (kind_of (call (own cut)))))
    by s false e = b.each s
after_own cut _ b is = record { none = b.none; each = b.each }

fourth : (a b c d : Bool) → (a && b && c && d) ≡ true → d ≡ true
fourth true true true d e = e
fourth true true false d e = absurd cc
fourth true false c d e = absurd cc
fourth false b c d e = absurd cc

without_third : (a b d : Bool) → (a && b && false && d) ≡ false
without_third true true d = refl
without_third true false d = refl
without_third false b d = refl

-- whose job acts is told by the event
of_its_job : (cut : List Event) (job : Option ℕ) (act : Act) (s : ℕ) → is_this s job ≡ true
    → JobMayAct cut job act
    → (is_in s (jobs_of (own cut)) ≡ true) × JobActs cut s (kind_of_job s (own cut)) act
of_its_job cut None act s is acts = absurd cc
of_its_job cut (Some t) act s is acts =
    subst (λ n. (is_in n (jobs_of (own cut)) ≡ true) × JobActs cut n (kind_of_job n (own cut)) act)
    (eqb-true t s is) acts

module _ (cut : List Event) (now : Event) (b : AreBehind (own cut) cut) where
  -- an event of a worker
  by_worker : is_some_worker now.party ≡ true → JobMayAct cut now.job now.act
      → AreBehind (own (now ∷ cut)) (now ∷ cut)
  by_worker of acts = subst (λ l. AreBehind l (now ∷ cut)) (sym same)
      (record { none = none; each = λ s. each s (is_of_job s now) refl })
    where
      same : own (now ∷ cut) ≡ own cut
      same = rw of refl

      its : (s : ℕ) → is_of_job s now ≡ true
          → (is_in s (jobs_of (own cut)) ≡ true) × JobActs cut s (kind_of_job s (own cut)) now.act
      its s is =
          of_its_job cut now.job now.act s (fourth (not (is_of_pool now.act))
          (not (is_nothing now.act)) (is_some_worker now.party) (is_this s now.job) is) acts

      each : (s : ℕ) (c : Bool) → is_of_job s now ≡ c
          → Behind (kind_of_job s (own cut)) (acts_of s (now ∷ cut))
      each s true is =
          let more : acts_of s (now ∷ cut) ≡ now.act ∷ acts_of s cut = rw is refl in
          subst (Behind (kind_of_job s (own cut))) (sym more)
          (after (kind_of_job s (own cut)) (acts_of s cut) now.act (b.each s)
          (job_meets cut s (kind_of_job s (own cut)) now.act (its s is).1))
      each s false is =
          let kept : acts_of s (now ∷ cut) ≡ acts_of s cut = rw is refl in
          subst (Behind (kind_of_job s (own cut))) (sym kept) (b.each s)

      none : (s : ℕ) → is_in s (jobs_of (own cut)) ≡ false → acts_of s (now ∷ cut) ≡ []
      none s out = at (is_of_job s now) refl
        where
          at : (c : Bool) → is_of_job s now ≡ c → acts_of s (now ∷ cut) ≡ []
          at true is = absurd (let both : true ≡ false = sym (its s is).0 ∙ out in cc)
          at false is = let kept : acts_of s (now ∷ cut) ≡ acts_of s cut = rw is refl in
              kept ∙ b.none s out

  -- an event of the owner itself
  by_owner : is_some_worker now.party ≡ false → OwnerActs cut now.act
      → AreBehind (own (now ∷ cut)) (now ∷ cut)
  by_owner of acts =
      let next = after_own cut now.act b acts in
      subst (λ l. AreBehind l (now ∷ cut)) (sym grown) (record {
        none = λ s out. kept s ∙ next.none s out;
        each = λ s. subst (Behind (kind_of_job s (now.act ∷ own cut))) (sym (kept s)) (next.each s);
      })
    where
      grown : own (now ∷ cut) ≡ now.act ∷ own cut
      grown = rw of refl

      no_job : (s : ℕ) → is_of_job s now ≡ false
      no_job s =
          subst (λ w. (not (is_of_pool now.act) && not (is_nothing now.act) && w
          && is_this s now.job) ≡ false) (sym of)
          (without_third (not (is_of_pool now.act)) (not (is_nothing now.act)) (is_this s now.job))

      kept : (s : ℕ) → acts_of s (now ∷ cut) ≡ acts_of s cut
      kept s = rw (no_job s) refl

  by_event : (worker : Bool) → is_some_worker now.party ≡ worker → OwnerMayAct worker cut now
      → AreBehind (own (now ∷ cut)) (now ∷ cut)
  by_event true of acts = by_worker of acts
  by_event false of acts = by_owner of acts

are_behind : (cut : List Event) → OwnerLaws cut → AreBehind (own cut) cut
are_behind [] laws =
    record { none = λ s out. refl; each = λ s. elsewhere Calling [] (omega arith) refl }
are_behind (now ∷ cut) laws =
    by_event cut now (are_behind cut laws.1) (is_some_worker now.party) refl laws.0.acts

-- ---- the last session

-- what its writer didn't take is no more than its pipe holds
pub writes_behind : (cut : List Event) → OwnerLaws cut → WritesBehind cut
writes_behind [] laws is = absurd cc
writes_behind (now ∷ past) laws is = by (last_session (own (now ∷ past))) refl
  where
    by : (last : Option Session) → last_session (own (now ∷ past)) ≡ last
        → length (accepted (own (now ∷ past)))
        ≤ length (taken (last_job (now ∷ past))) + capacity Writing (own (now ∷ past))
    by None e = absurd (let none : Calling ≡ Writing = sym (ap kind_in e) ∙ is in cc)
    by (Some r) e =
        let job : last_job (now ∷ past) ≡ acts_of r.serial (now ∷ past) =
        ap (λ l. map (λ e. e.act) (filter (is_of_session l) (now ∷ past))) e in
        let out : removed (last_job (now ∷ past)) ≤ length (taken (last_job (now ∷ past))) =
        subst (λ l. removed l ≤ length (taken l)) (sym job)
        ((are_behind (now ∷ past) laws).each r.serial).out in
        let within : length (drop (removed (last_job (now ∷ past))) (accepted (own (now ∷ past))))
        ≤ capacity Writing (own (now ∷ past)) =
        subst (λ k. length (inside_by k (own (now ∷ past)) (last_job (now ∷ past)))
        ≤ capacity k (own (now ∷ past))) is laws.0.passed.within in
        let left = length-drop (removed (last_job (now ∷ past))) (accepted (own (now ∷ past))) in
        omega (arith, out, within, left)

-- and so it is with each owner in every legal past
pub all_write_behind : (setting : ℕ) (plan : List Bool) (past : List Moment)
    → Legal setting plan past → AllWriteBehind past
all_write_behind setting plan past legal h = writes_behind (cut h (events past)) (legal.owners h)
