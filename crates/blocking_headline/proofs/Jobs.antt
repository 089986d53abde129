-- What the acts of an owner's job keep.
use Rattle.std.proofs.Common.{◌≡◌, refl, ℕ, zero, suc, ◌==◌, ◌&&◌, ◌||◌, Bool, true, false, if◌then◌else◌, List, []}
use Rattle.std.proofs.Common.{◌∷◌, length, Option, Some, None, ap, sym, ◌∙◌}
use Rattle.std.specs.Prelude.{not}
use Rattle.std.proofs.lemmas.Bool.{eqb-true}
use mathlib.Core.Path.{subst}
use Rattle.blocking_pool.specs.Lists.{is_in}
use Rattle.blocking_world_laws.specs.Core.{Met, Served, Waiting, Closed, find_room, hand_in, peek}
use Rattle.blocking_world_laws.specs.Ends.{handle_answers, has_flush}
use Rattle.blocking_world_laws.specs.JobTable.{Kind, Calling}
use Rattle.blocking_world_laws.specs.JobTable.{JobAction, AskCall, AskBytes, FindRoom, PutPiece}
use Rattle.blocking_world_laws.specs.JobTable.{Peek, OfferBytes, Consume, AskFlush, AskItem, SendItem}
use Rattle.blocking_world_laws.specs.JobTable.{CloseEnd, AskSeek, AskResult, PutResult, Finish, WakeHolder}
use Rattle.blocking_world_laws.specs.JobTable.{Over, piece, next_but_wake, next_of_job, next_after_answer}
use Rattle.blocking_world_laws.specs.JobTable.{wake_first, takes_waker, is_answer, is_over, has_finished}
use Rattle.blocking_world_laws.specs.JobTable.{IsAnswerTo}
use Rattle.blocking_world_laws.specs.OwnerLaws.{Polls, OwnerActs, Works, JobActs, JobMayAct, OwnerMayAct}
use Rattle.blocking_world_laws.specs.OwnerLaws.{OwnerLaws}
use Rattle.blocking_world_laws.specs.OwnerSeats.{pipe_seat}
use Rattle.blocking_world_laws.specs.OwnerTable.{OwnerAction, Begin, Drain, next_of_owner}
use Rattle.blocking_world_laws.specs.Passed.{inside, room_in}
use Rattle.blocking_world_laws.specs.Places.{seen_room, seated, seen_put, seen_peek}
use Rattle.blocking_world_laws.specs.Seen.{own, acts_of, is_of_job, is_of_pool, is_nothing}
use Rattle.blocking_world_laws.specs.Seen.{is_some_worker, is_this}
use Rattle.blocking_world_laws.specs.Sessions.{jobs_of, kind_of_job, kind_of, call, is_shut}
use Rattle.blocking_world_laws.specs.declared.event.Act.{Act}
use Rattle.blocking_world_laws.specs.declared.event.Act.TheVariants.{Accepted, Answered, RoomFree}
use Rattle.blocking_world_laws.specs.declared.event.Act.TheVariants.{RoomShut, JobParked, Put, Lost, Peeked}
use Rattle.blocking_world_laws.specs.declared.event.Act.TheVariants.{Drained, Taken, JobClosed, ResultPut}
use Rattle.blocking_world_laws.specs.declared.event.Act.TheVariants.{Finished, GaveUp, HolderWoken}
use Rattle.blocking_world_laws.specs.declared.event.Event.{Event}
use Rattle.blocking_world_laws.specs.declared.step.HandleAnswer.{HandleAnswer}
use Rattle.blocking_world_laws.specs.declared.step.HandleAnswer.TheVariants.{Number, Gave, Fine}
use Rattle.blocking_headline.proofs.Polls.{gives_so, gives}

-- ---- what an action does

-- whether an act is one that this action does
abbrev pub does : Act → JobAction → Bool
does (Answered answer) action = is_answer action answer
does (RoomFree n) FindRoom = true
does RoomShut FindRoom = true
does JobParked FindRoom = true
does JobParked (PutPiece bytes) = true
does JobParked (SendItem x) = true
does JobParked Peek = true
does (Put n waker) (PutPiece bytes) = true
does (Put n waker) (SendItem x) = true
does (Lost n) (PutPiece bytes) = true
does (Lost n) (SendItem x) = true
does (Peeked bytes) Peek = true
does Drained Peek = true
does (Taken n waker) (Consume m) = true
does (JobClosed waker) CloseEnd = true
does (ResultPut waker) PutResult = true
does (Finished waker) Finish = true
does HolderWoken WakeHolder = true
does act action = false

at_room : (met : Met ℕ) → does (seen_room met) FindRoom ≡ true
at_room (Served room) = refl
at_room Waiting = refl
at_room Closed = refl

at_put : (n : ℕ) (bytes : List ℕ) (met : Met (Option (Unit {0}))) → does (seen_put n met) (PutPiece bytes) ≡ true
at_put n bytes (Served seat) = refl
at_put n bytes Waiting = refl
at_put n bytes Closed = refl

at_send : (x : ℕ) (met : Met (Option (Unit {0}))) → does (seen_put 1 met) (SendItem x) ≡ true
at_send x (Served seat) = refl
at_send x Waiting = refl
at_send x Closed = refl

at_peek : (met : Met (List ℕ)) → does (seen_peek met) Peek ≡ true
at_peek (Served found) = refl
at_peek Waiting = refl
at_peek Closed = refl

answers : (action : JobAction) (act : Act) → IsAnswerTo action act → does act action ≡ true
answers action (Answered answer) is = is
answers action _ is = absurd is

pub does_so : (cut : List Event) (action : JobAction) (act : Act) → Works cut action act → does act action ≡ true
does_so cut FindRoom act is = ap (λ a. does a FindRoom) is
    ∙ at_room (find_room (room_in cut) (not (is_shut (own cut))))
does_so cut (PutPiece bytes) act is = ap (λ a. does a (PutPiece bytes)) is
    ∙ at_put (length bytes) bytes (hand_in (length bytes) (room_in cut) (not (is_shut (own cut))) (seated (pipe_seat cut)))
does_so cut (SendItem x) act is = ap (λ a. does a (SendItem x)) is
    ∙ at_send x (hand_in 1 (room_in cut) (not (is_shut (own cut))) (seated (pipe_seat cut)))
does_so cut Peek act is = ap (λ a. does a Peek) is
    ∙ at_peek (peek piece (inside cut) (not (is_shut (own cut))))
does_so cut (Consume n) act is = ap (λ a. does a (Consume n)) is
does_so cut CloseEnd act is = ap (λ a. does a CloseEnd) is
does_so cut PutResult act is = ap (λ a. does a PutResult) is
does_so cut Finish act is = ap (λ a. does a Finish) is
does_so cut WakeHolder act is = ap (λ a. does a WakeHolder) is
does_so cut Over act is = absurd is
does_so cut AskCall act is = answers AskCall act is
does_so cut (AskBytes n) act is = answers (AskBytes n) act is
does_so cut (OfferBytes bytes) act is = answers (OfferBytes bytes) act is
does_so cut AskFlush act is = answers AskFlush act is
does_so cut AskItem act is = answers AskItem act is
does_so cut AskSeek act is = answers AskSeek act is
does_so cut AskResult act is = answers AskResult act is

-- ---- what follows the acts of a job

-- whether an act may be next where this action is, were no waker to be called first
abbrev pub follows : Act → JobAction → Bool
follows HolderWoken action = true
follows (GaveUp waker) action = not (is_over action)
follows act action = does act action

woken_follows : (act : Act) (action : JobAction) → does act WakeHolder ≡ true → follows act action ≡ true
woken_follows HolderWoken action is = refl
woken_follows (Answered (Number n)) action is = absurd cc
woken_follows (Answered (Gave bytes)) action is = absurd cc
woken_follows (Answered answer) action is = absurd cc
woken_follows _ action is = absurd cc

does_follow : (act : Act) (action : JobAction) → does act action ≡ true → follows act action ≡ true
does_follow HolderWoken action is = refl
does_follow (GaveUp waker) action is = absurd cc
does_follow act action is = is

first_follow : (woke : Bool) (act : Act) (action : JobAction) → does act (wake_first woke action) ≡ true
    → follows act action ≡ true
first_follow true act action is = woken_follows act action is
first_follow false act action is = does_follow act action is

next_follow : (kind : Kind) (acts : List Act) (act : Act) → does act (next_of_job kind acts) ≡ true
    → follows act (next_but_wake kind acts) ≡ true
next_follow kind [] act is = does_follow act (next_but_wake kind []) is
next_follow kind (last ∷ past) act is = first_follow (takes_waker last) act (next_but_wake kind (last ∷ past)) is

not_so : (b : Bool) → b ≡ false → not b ≡ true
not_so b e = rw e refl

pub job_follows : (cut : List Event) (s : ℕ) (kind : Kind) (act : Act) → JobActs cut s kind act
    → follows act (next_but_wake kind (acts_of s cut)) ≡ true
job_follows cut s kind (GaveUp waker) is = not_so (is_over (next_but_wake kind (acts_of s cut))) is.1
job_follows cut s kind act is = next_follow kind (acts_of s cut) act
    (does_so cut (next_of_job kind (acts_of s cut)) act is)

-- whether an act is one of a job
abbrev pub is_deed : Act → Bool
is_deed (Answered answer) = true
is_deed (RoomFree n) = true
is_deed RoomShut = true
is_deed JobParked = true
is_deed (Put n waker) = true
is_deed (Lost n) = true
is_deed (Peeked bytes) = true
is_deed Drained = true
is_deed (Taken n waker) = true
is_deed (JobClosed waker) = true
is_deed (ResultPut waker) = true
is_deed (Finished waker) = true
is_deed (GaveUp waker) = true
is_deed HolderWoken = true
is_deed _ = false

pub deed_follows : (act : Act) (action : JobAction) → follows act action ≡ true → is_deed act ≡ true
deed_follows (Answered answer) action is = refl
deed_follows (RoomFree n) action is = refl
deed_follows RoomShut action is = refl
deed_follows JobParked action is = refl
deed_follows (Put n waker) action is = refl
deed_follows (Lost n) action is = refl
deed_follows (Peeked bytes) action is = refl
deed_follows Drained action is = refl
deed_follows (Taken n waker) action is = refl
deed_follows (JobClosed waker) action is = refl
deed_follows (ResultPut waker) action is = refl
deed_follows (Finished waker) action is = refl
deed_follows (GaveUp waker) action is = refl
deed_follows HolderWoken action is = refl
deed_follows _ action is = absurd cc

-- what follows where nothing is left to be done
over_follow : (act : Act) → follows act Over ≡ true → act ≡ HolderWoken
over_follow HolderWoken is = refl
over_follow (Answered (Number n)) is = absurd cc
over_follow (Answered answer) is = absurd cc
over_follow _ is = absurd cc

over_is : (action : JobAction) → is_over action ≡ true → action ≡ Over
over_is Over e = refl
over_is _ e = absurd cc

pub over_next : (act : Act) (action : JobAction) → is_over action ≡ true → follows act action ≡ true
    → act ≡ HolderWoken
over_next act action over is = over_follow act (subst (λ a. follows act a ≡ true) (over_is action over) is)

-- ---- each job of an owner

-- no job of these did anything but the owner's
abbrev NoOthers : List Act → List Event → Type 0
NoOthers own_acts cut = (s : ℕ) → is_in s (jobs_of own_acts) ≡ false → acts_of s cut ≡ []

begun_anew : (cut : List Event) (action : OwnerAction) (s : ℕ) → Polls cut action (Accepted s)
    → is_in s (jobs_of (own cut)) ≡ false
begun_anew cut action s is = at action (gives_so cut action (Accepted s) is) is
  where
    at : (action : OwnerAction) → gives action (Accepted s) ≡ true → Polls cut action (Accepted s)
        → is_in s (jobs_of (own cut)) ≡ false
    at Begin give is = is
    at (Drain zero) give is = absurd cc
    at (Drain (suc n)) give is = absurd cc
    at _ give is = absurd cc

in_neither : (b c : Bool) → (b || c) ≡ false → c ≡ false
in_neither true c e = absurd cc
in_neither false c e = e

fourth : (a b c d : Bool) → (a && b && c && d) ≡ true → d ≡ true
fourth true true true d e = e
fourth true true false d e = absurd cc
fourth true false c d e = absurd cc
fourth false b c d e = absurd cc

without_third : (a b d : Bool) → (a && b && false && d) ≡ false
without_third true true d = refl
without_third true false d = refl
without_third false b d = refl

-- whose job acts is told by the event
pub of_its_job : (cut : List Event) (job : Option ℕ) (act : Act) (s : ℕ) → is_this s job ≡ true
    → JobMayAct cut job act
    → (is_in s (jobs_of (own cut)) ≡ true) × JobActs cut s (kind_of_job s (own cut)) act
of_its_job cut None act s is acts = absurd cc
of_its_job cut (Some t) act s is acts =
    subst (λ n. (is_in n (jobs_of (own cut)) ≡ true) × JobActs cut n (kind_of_job n (own cut)) act)
    (eqb-true t s is) acts

-- an event of a worker, where it is one of job s, is as the law of its owner says
pub by_job : (cut : List Event) (now : Event) (s : ℕ) → is_of_job s now ≡ true → JobMayAct cut now.job now.act
    → (is_in s (jobs_of (own cut)) ≡ true) × JobActs cut s (kind_of_job s (own cut)) now.act
by_job cut now s is acts = of_its_job cut now.job now.act s (fourth (not (is_of_pool now.act))
    (not (is_nothing now.act)) (is_some_worker now.party) (is_this s now.job) is) acts

-- an event of the owner itself is of no job
pub no_job : (now : Event) (s : ℕ) → is_some_worker now.party ≡ false → is_of_job s now ≡ false
no_job now s of = subst (λ w. (not (is_of_pool now.act) && not (is_nothing now.act) && w
    && is_this s now.job) ≡ false) (sym of)
    (without_third (not (is_of_pool now.act)) (not (is_nothing now.act)) (is_this s now.job))

pub grown : (now : Event) (cut : List Event) → is_some_worker now.party ≡ false
    → own (now ∷ cut) ≡ now.act ∷ own cut
grown now cut of = rw of refl

pub kept : (now : Event) (cut : List Event) → is_some_worker now.party ≡ true → own (now ∷ cut) ≡ own cut
kept now cut of = rw of refl

pub more_of : (s : ℕ) (now : Event) (cut : List Event) → is_of_job s now ≡ true
    → acts_of s (now ∷ cut) ≡ now.act ∷ acts_of s cut
more_of s now cut is = rw is refl

pub same_of : (s : ℕ) (now : Event) (cut : List Event) → is_of_job s now ≡ false
    → acts_of s (now ∷ cut) ≡ acts_of s cut
same_of s now cut is = rw is refl

-- What holds before any act of a job and is kept by each holds of the acts of each job of an owner.
module _ (Holds : Kind → List Act → Type 0) (start : (kind : Kind) → Holds kind [])
    (step : (kind : Kind) (acts : List Act) (act : Act) → Holds kind acts
    → follows act (next_but_wake kind acts) ≡ true → Holds kind (act ∷ acts)) where
  record AllHold (own_acts : List Act) (cut : List Event) : Type 0 where
    pub none : NoOthers own_acts cut
    pub each : (s : ℕ) → Holds (kind_of_job s own_acts) (acts_of s cut)

  after_own : (cut : List Event) (act : Act) → AllHold (own cut) cut → OwnerActs cut act
      → AllHold (act ∷ own cut) cut
  after_own cut (Accepted t) b is = record {
    none = λ s out. b.none s (in_neither (s == t) (is_in s (jobs_of (own cut))) out);
    each = λ s. by s (t == s) refl;
  }
    where
      by : (s : ℕ) (same : Bool) → (t == s) ≡ same
          → Holds (if same then kind_of (call (own cut)) else kind_of_job s (own cut)) (acts_of s cut)
      by s true e =
          let new = begun_anew cut (next_of_owner cut) t is in
          let nothing = b.none s (subst (λ n. is_in n (jobs_of (own cut)) ≡ false) (eqb-true t s e) new) in
          subst (Holds (kind_of (call (own cut)))) (sym nothing) (start (kind_of (call (own cut))))
      by s false e = b.each s
  after_own cut _ b is = record { none = b.none; each = b.each }

  by_worker : (cut : List Event) (now : Event) → AllHold (own cut) cut → is_some_worker now.party ≡ true
      → JobMayAct cut now.job now.act → AllHold (own (now ∷ cut)) (now ∷ cut)
  by_worker cut now b of acts = subst (λ l. AllHold l (now ∷ cut)) (sym (kept now cut of))
      (record { none = λ s out. none s out (is_of_job s now) refl; each = λ s. each s (is_of_job s now) refl })
    where
      each : (s : ℕ) (c : Bool) → is_of_job s now ≡ c → Holds (kind_of_job s (own cut)) (acts_of s (now ∷ cut))
      each s true is = subst (Holds (kind_of_job s (own cut))) (sym (more_of s now cut is))
          (step (kind_of_job s (own cut)) (acts_of s cut) now.act (b.each s)
          (job_follows cut s (kind_of_job s (own cut)) now.act (by_job cut now s is acts).1))
      each s false is = subst (Holds (kind_of_job s (own cut))) (sym (same_of s now cut is)) (b.each s)

      none : (s : ℕ) → is_in s (jobs_of (own cut)) ≡ false → (c : Bool) → is_of_job s now ≡ c
          → acts_of s (now ∷ cut) ≡ []
      none s out true is =
          absurd (let both : true ≡ false = sym (by_job cut now s is acts).0 ∙ out in cc)
      none s out false is = same_of s now cut is ∙ b.none s out

  by_owner : (cut : List Event) (now : Event) → AllHold (own cut) cut → is_some_worker now.party ≡ false
      → OwnerActs cut now.act → AllHold (own (now ∷ cut)) (now ∷ cut)
  by_owner cut now b of acts =
      let next = after_own cut now.act b acts in
      let same : (s : ℕ) → acts_of s (now ∷ cut) ≡ acts_of s cut =
      λ s. same_of s now cut (no_job now s of) in
      subst (λ l. AllHold l (now ∷ cut)) (sym (grown now cut of)) (record {
        none = λ s out. same s ∙ next.none s out;
        each = λ s. subst (Holds (kind_of_job s (now.act ∷ own cut))) (sym (same s)) (next.each s);
      })

  by_event : (cut : List Event) (now : Event) → AllHold (own cut) cut → (worker : Bool)
      → is_some_worker now.party ≡ worker → OwnerMayAct worker cut now → AllHold (own (now ∷ cut)) (now ∷ cut)
  by_event cut now b true of acts = by_worker cut now b of acts
  by_event cut now b false of acts = by_owner cut now b of acts

  all_hold : (cut : List Event) → OwnerLaws cut → AllHold (own cut) cut
  all_hold [] laws = record { none = λ s out. refl; each = λ s. start Calling }
  all_hold (now ∷ cut) laws =
      by_event cut now (all_hold cut laws.1) (is_some_worker now.party) refl laws.0.acts

  pub each_job : (cut : List Event) → OwnerLaws cut → (s : ℕ) → Holds (kind_of_job s (own cut)) (acts_of s cut)
  each_job cut laws s = (all_hold cut laws).each s

-- ---- what is done last

-- whether nothing is asked of the handle any more
abbrev pub is_late : JobAction → Bool
is_late CloseEnd = true
is_late Finish = true
is_late Over = true
is_late _ = false

-- whether an act may be one of these
abbrev is_late_act : Act → Bool
is_late_act (JobClosed waker) = true
is_late_act (Finished waker) = true
is_late_act (GaveUp waker) = true
is_late_act HolderWoken = true
is_late_act _ = false

late_follow : (action : JobAction) (act : Act) → is_late action ≡ true → follows act action ≡ true
    → is_late_act act ≡ true
late_follow CloseEnd act late is = at act is
  where
    at : (act : Act) → follows act CloseEnd ≡ true → is_late_act act ≡ true
    at (JobClosed waker) is = refl
    at (GaveUp waker) is = refl
    at HolderWoken is = refl
    at (Answered (Number n)) is = absurd cc
    at (Answered answer) is = absurd cc
    at _ is = absurd cc
late_follow Finish act late is = at act is
  where
    at : (act : Act) → follows act Finish ≡ true → is_late_act act ≡ true
    at (Finished waker) is = refl
    at (GaveUp waker) is = refl
    at HolderWoken is = refl
    at (Answered (Number n)) is = absurd cc
    at (Answered answer) is = absurd cc
    at _ is = absurd cc
late_follow Over act late is = subst (λ a. is_late_act a ≡ true) (sym (over_follow act is)) refl
late_follow _ act late is = absurd cc

-- the newest answer is that of a flush that went well
abbrev pub IsFine : List HandleAnswer → Type 0
IsFine answers = (older : List HandleAnswer) × (answers ≡ Fine ∷ older)

-- A job that put its result has nothing left to do; and one whose writer was flushed asks its handle for
-- nothing more.
pub record IsCalm (kind : Kind) (acts : List Act) : Type 0 where
  pub over : has_finished acts ≡ true → is_over (next_but_wake kind acts) ≡ true
  pub flushed : has_flush (handle_answers acts) ≡ true → IsFine (handle_answers acts)
  pub late : has_flush (handle_answers acts) ≡ true → is_late (next_but_wake kind acts) ≡ true

fine_after : (action : JobAction) → is_answer action Fine ≡ true → is_late (next_after_answer action Fine) ≡ true
fine_after AskFlush is = refl
fine_after _ is = absurd cc

answer_after : (kind : Kind) (acts : List Act) (answer : HandleAnswer) → IsCalm kind acts
    → is_answer (next_but_wake kind acts) answer ≡ true
    → has_flush (answer ∷ handle_answers acts) ≡ true → IsFine (answer ∷ handle_answers acts)
    × (is_late (next_after_answer (next_but_wake kind acts) answer) ≡ true)
answer_after kind acts Fine calm is flush = ((handle_answers acts, refl), fine_after (next_but_wake kind acts) is)
answer_after kind acts answer calm is flush =
    absurd (let bad = late_follow (next_but_wake kind acts) (Answered answer) (calm.late flush) is in cc)

calm_after : (kind : Kind) (acts : List Act) (act : Act) → IsCalm kind acts
    → follows act (next_but_wake kind acts) ≡ true → IsCalm kind (act ∷ acts)
calm_after kind acts (Answered answer) calm is = record {
  over = λ e. absurd (let bad = over_next (Answered answer) (next_but_wake kind acts) (calm.over e) is in cc);
  flushed = λ e. (answer_after kind acts answer calm is e).0;
  late = λ e. (answer_after kind acts answer calm is e).1;
}
calm_after kind acts (Finished waker) calm is = record { over = λ e. refl; flushed = calm.flushed; late = λ e. refl }
calm_after kind acts (GaveUp waker) calm is = record { over = λ e. refl; flushed = calm.flushed; late = λ e. refl }
calm_after kind acts HolderWoken calm is = record { over = calm.over; flushed = calm.flushed; late = calm.late }
calm_after kind acts (JobClosed waker) calm is = record {
  over = λ e. absurd (let bad = over_next (JobClosed waker) (next_but_wake kind acts) (calm.over e) is in cc);
  flushed = calm.flushed;
  late = λ e. refl;
}
calm_after kind acts act calm is = record {
  over = λ e. absurd (let bad = over_next act (next_but_wake kind acts) (calm.over e) is in cc);
  flushed = calm.flushed;
  late = λ e. absurd (let bad = late_follow (next_but_wake kind acts) act (calm.late e) is in cc);
}

pub calm : (cut : List Event) → OwnerLaws cut → (s : ℕ) → IsCalm (kind_of_job s (own cut)) (acts_of s cut)
calm = each_job IsCalm (λ kind. record { over = λ e. absurd cc; flushed = λ e. absurd cc; late = λ e. absurd cc })
    calm_after
