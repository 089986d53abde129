-- A reply that tells the end, or that all is flushed, tells the truth.
use Rattle.std.proofs.Common.{◌≡◌, refl, ℕ, zero, suc, ◌&&◌, ◌||◌, Bool, true, false, List, []}
use Rattle.std.proofs.Common.{◌∷◌, Option, Some, None, if◌then◌else◌, ap, sym, ◌∙◌}
use Rattle.std.specs.Prelude.{not, map, filter}
use mathlib.Core.Path.{subst}
use Rattle.blocking_pool.specs.declared.pool.answer.Refusal.{Refusal}
use Rattle.blocking_world_laws.specs.Ends.{EndsTruly, IsTrueEnd, IsReadBack, IsFlushedBack, IsFlushedIf}
use Rattle.blocking_world_laws.specs.Ends.{back_by, handle_answers, has_flush, last_is_end}
use Rattle.blocking_world_laws.specs.Ends.{IsFlushed as IsFlushedAt, came_back as part_back}
use Rattle.blocking_world_laws.specs.JobTable.{Kind, Writing, has_finished, next_but_wake}
use Rattle.blocking_world_laws.specs.OwnerLaws.{Polls, OwnerActs, JobMayAct, OwnerMayAct, OwnerLaws}
use Rattle.blocking_world_laws.specs.OwnerTable.{OwnerAction, Drain, PollSlot, Say, next_of_owner}
use Rattle.blocking_world_laws.specs.OwnerTable.{owner_next_but_wake, refusal}
use Rattle.blocking_world_laws.specs.Passed.{gave, got, accepted, taken, last_job, last_kind, kind_in}
use Rattle.blocking_world_laws.specs.Passed.{is_of_session, is_serial}
use Rattle.blocking_world_laws.specs.Places.{poll_slot}
use Rattle.blocking_world_laws.specs.Seen.{own, acts_of, is_of_pool, is_nothing, is_some_worker}
use Rattle.blocking_world_laws.specs.Seen.{cut, events, acts_of_owner, is_owner}
use Rattle.blocking_world_laws.specs.Sessions
use Rattle.blocking_world_laws.specs.Sessions.{Session, call, session, last_session, kind_of_job}
use Rattle.blocking_world_laws.specs.declared.event.Act.{Act}
use Rattle.blocking_world_laws.specs.declared.event.Act.TheVariants.{Asked, Accepted, Back}
use Rattle.blocking_world_laws.specs.declared.event.Act.TheVariants.{JobWoken, HolderWoken, Replied, Refused}
use Rattle.blocking_world_laws.specs.declared.event.Event.{Event}
use Rattle.blocking_world_laws.specs.declared.event.Reply.{Reply}
use Rattle.blocking_world_laws.specs.declared.event.Reply.TheVariants.{Okay, Count, NoMore}
use Rattle.blocking_world_laws.specs.declared.step.HandleCall.{HandleCall}
use Rattle.blocking_world_laws.specs.declared.step.HandleCall.TheVariants.{Read, Flush, Close, Next}
use Rattle.blocking_world_laws.specs.declared.step.HandleCall.TheVariants.{Operate, OperateAgain}
use Rattle.blocking_world_laws.specs.Legal.{Legal}
use Rattle.blocking_world_laws.specs.declared.event.Moment.{Moment}
use Rattle.blocking_world_laws.specs.declared.event.Party.{Party}
use Rattle.blocking_world_laws.specs.declared.event.Party.TheVariants.{Owner}
use Rattle.blocking_world_laws.specs.Seen.{is_this}
use Rattle.blocking_world_laws.proofs.Beginnings.{before, owner_keeps}
use Rattle.blocking_headline.specs.Headline.{IsAll, IsWhole, IsFlushed, came_back}
use Rattle.blocking_headline.proofs.Polls.{gives, gives_so, is_just_back, suits}
use Rattle.blocking_headline.proofs.Owns.{IsSound, sound_own, suited, said, next_is, okay_none}
use Rattle.blocking_headline.proofs.Jobs.{calm, by_job, grown, kept, job_follows, deed_follows}
use Rattle.blocking_headline.proofs.Jobs.{over_next, is_deed}
use Rattle.blocking_headline.proofs.Bools.{same_self}

-- ---- the job of the last session

pub job_of_last : (es : List Event) (s : Session) → last_session (own es) ≡ Some s
    → last_job es ≡ acts_of s.serial es
job_of_last es s e = ap (λ l. map (λ e. e.act) (filter (is_of_session l) es)) e

not_of_session : (last : Option Session) (now : Event) → is_some_worker now.party ≡ false
    → is_of_session last now ≡ false
not_of_session last now of = subst (λ w. (not (is_of_pool now.act) && not (is_nothing now.act) && w
    && is_serial last now.job) ≡ false) (sym of)
    (off (not (is_of_pool now.act)) (not (is_nothing now.act)) (is_serial last now.job))
  where
    off : (a b d : Bool) → (a && b && false && d) ≡ false
    off true true d = refl
    off true false d = refl
    off false b d = refl

-- an own act that begins no session
own_last : (now : Event) (es : List Event) → is_some_worker now.party ≡ false
    → last_session (now.act ∷ own es) ≡ last_session (own es) → last_job (now ∷ es) ≡ last_job es
own_last now es of same =
    ap (λ a. map (λ e. e.act) (filter (is_of_session (last_session a)) (now ∷ es))) (grown now es of)
    ∙ ap (λ l. map (λ e. e.act) (filter (is_of_session l) (now ∷ es))) same
    ∙ passed (is_of_session (last_session (own es)) now) (not_of_session (last_session (own es)) now of)
  where
    passed : (b : Bool) → b ≡ false
        → map (λ e. e.act) (if b then now ∷ filter (is_of_session (last_session (own es))) es
        else filter (is_of_session (last_session (own es))) es) ≡ last_job es
    passed true e = absurd cc
    passed false e = refl

-- ---- the acts since the handle came back

-- all was got up to the end
abbrev Whole : List Act → List Act → Type 0
Whole own job = (got own ≡ gave job) × (last_is_end (handle_answers job) ≡ true)

-- all was taken, and the writer was flushed
abbrev Flushed : List Act → List Act → Type 0
Flushed own job = kind_in (last_session own) ≡ Writing
    → (taken job ≡ accepted own) × (has_flush (handle_answers job) ≡ true)

-- Where the handle has just come back, its job has finished, and what the law of ends says of that
-- moment holds still.
abbrev Lasts : Option (List Event) → List Act → List Act → Type 0
Lasts back own job = (has_finished job ≡ true) × (IsReadBack back → Whole own job)
    × (IsFlushedBack back → Flushed own job)

record IsFresh (es : List Event) : Type 0 where
  pub lasts : is_just_back (own es) ≡ true → Lasts (part_back es) (own es) (last_job es)

by_deed : (act : Act) (here : List Event) (before : Option (List Event)) → is_deed act ≡ true
    → back_by act here before ≡ before
by_deed Back here before is = absurd cc
by_deed (Asked call) here before is = absurd cc
by_deed _ here before is = refl

woken_last : (back : Option (List Event)) (own job : List Act) (act : Act) → act ≡ HolderWoken
    → Lasts back own job → Lasts back own (act ∷ job)
woken_last back own job act e lasts = subst (λ a. Lasts back own (a ∷ job)) (sym e) lasts

if_writing : (kind : Kind) (es : List Event) → kind ≡ Writing → IsFlushedIf kind es → IsFlushedAt es
if_writing kind es e is = subst (λ k. IsFlushedIf k es) e is

pub slot_of : (cut : List Event) (action : OwnerAction) → gives action Back ≡ true → Polls cut action Back
    → has_finished (last_job cut) ≡ true
slot_of cut PollSlot give is = there (has_finished (last_job cut)) is
  where
    there : (b : Bool) → Back ≡ poll_slot b → b ≡ true
    there true e = refl
    there false e = absurd cc
slot_of cut (Drain zero) give is = absurd cc
slot_of cut (Drain (suc n)) give is = absurd cc
slot_of cut _ give is = absurd cc

deed_of : (es : List Event) (job : Option ℕ) (act : Act) → JobMayAct es job act → is_deed act ≡ true
deed_of es None act acts = absurd acts
deed_of es (Some s) act acts = deed_follows act (next_but_wake (kind_of_job s (own es)) (acts_of s es))
    (job_follows es s (kind_of_job s (own es)) act acts.1)

-- a worker's act where the last job has finished: the last job's is the call of its waker
finished_last : (es : List Event) (laws : OwnerLaws es) (now : Event) → JobMayAct es now.job now.act
    → (last : Option Session) → last_session (own es) ≡ last → is_of_session last now ≡ true
    → has_finished (last_job es) ≡ true → now.act ≡ HolderWoken
finished_last es laws now acts None e is finished = absurd (not_none _ is)
  where
    not_none : (a : Bool) → (a && false) ≡ true → ⊥
    not_none true e = cc
    not_none false e = cc
finished_last es laws now acts (Some s) e is finished =
    let kind = kind_of_job s.serial (own es) in
    let over = (calm es laws s.serial).over
    (subst (λ l. has_finished l ≡ true) (job_of_last es s e) finished) in
    over_next now.act (next_but_wake kind (acts_of s.serial es)) over
    (job_follows es s.serial kind now.act (by_job es now s.serial is acts).1)

worker_last : (now : Event) (es : List Event) (b : Bool) → is_some_worker now.party ≡ true
    → is_of_session (last_session (own es)) now ≡ b
    → last_job (now ∷ es) ≡ (if b then now.act ∷ last_job es else last_job es)
worker_last now es b of is =
    ap (λ a. map (λ e. e.act) (filter (is_of_session (last_session a)) (now ∷ es))) (kept now es of)
    ∙ passed b is
  where
    passed : (b : Bool) → is_of_session (last_session (own es)) now ≡ b
        → map (λ e. e.act) (filter (is_of_session (last_session (own es))) (now ∷ es))
        ≡ (if b then now.act ∷ last_job es else last_job es)
    passed true is = rw is refl
    passed false is = rw is refl

fresh_by_worker : (es : List Event) (laws : OwnerLaws es) (now : Event) → IsFresh es
    → is_some_worker now.party ≡ true → JobMayAct es now.job now.act → IsFresh (now ∷ es)
fresh_by_worker es laws now fresh of acts = record {
  lasts = λ back.
      let before = fresh.lasts (subst (λ a. is_just_back a ≡ true) (kept now es of) back) in
      subst (λ b. Lasts b (own (now ∷ es)) (last_job (now ∷ es)))
      (sym (by_deed now.act (now ∷ es) (part_back es) (deed_of es now.job now.act acts)))
      (subst (λ a. Lasts (part_back es) a (last_job (now ∷ es))) (sym (kept now es of))
      (at (is_of_session (last_session (own es)) now) refl before));
}
  where
    at : (b : Bool) → is_of_session (last_session (own es)) now ≡ b
        → Lasts (part_back es) (own es) (last_job es) → Lasts (part_back es) (own es) (last_job (now ∷ es))
    at true is before = subst (Lasts (part_back es) (own es)) (sym (worker_last now es true of is))
        (woken_last (part_back es) (own es) (last_job es) now.act
        (finished_last es laws now acts (last_session (own es)) refl is before.0) before)
    at false is before = subst (Lasts (part_back es) (own es)) (sym (worker_last now es false of is)) before

-- the moment at which the handle comes back
at_return : (es : List Event) (now : Event) → is_some_worker now.party ≡ false → now.act ≡ Back
    → Polls es (next_of_owner es) Back → Lasts (Some (now ∷ es)) (own (now ∷ es)) (last_job (now ∷ es))
at_return es now of is acts =
    let next = next_is es Back refl acts in
    let same : last_job (now ∷ es) ≡ last_job es = own_last now es of (ap (λ a. last_session (a ∷ own es)) is) in (
      ap has_finished same ∙ slot_of es (owner_next_but_wake es (own es))
          (gives_so es (owner_next_but_wake es (own es)) Back next.gives_it) next.gives_it,
      λ w. (w.all, w.ended),
      λ f kind. let flushed = if_writing (last_kind (now ∷ es)) (now ∷ es) kind f in (flushed.all, flushed.flushed),
    )

fresh_by_own : (es : List Event) (now : Event) (act : Act) → now.act ≡ act → IsFresh es
    → is_some_worker now.party ≡ false → OwnerActs es act → is_just_back (act ∷ own es) ≡ true
    → Lasts (back_by act (now ∷ es) (part_back es)) (own (now ∷ es)) (last_job (now ∷ es))
fresh_by_own es now Back is fresh of acts back = at_return es now of is acts
fresh_by_own es now (JobWoken s woke) is fresh of acts back =
    let before = fresh.lasts back in
    let same : last_job (now ∷ es) ≡ last_job es = own_last now es of (ap (λ a. last_session (a ∷ own es)) is) in
    let mine : own (now ∷ es) ≡ JobWoken s woke ∷ own es = grown now es of ∙ ap (λ a. a ∷ own es) is in
    subst (Lasts (part_back es) (own (now ∷ es))) (sym same)
    (subst (λ a. Lasts (part_back es) a (last_job es)) (sym mine) before)
fresh_by_own es now act is fresh of acts back = absurd cc

fresh_by : (es : List Event) (laws : OwnerLaws es) (now : Event) (b : Bool) → is_some_worker now.party ≡ b
    → IsFresh es → OwnerMayAct b es now → IsFresh (now ∷ es)
fresh_by es laws now true of fresh acts = fresh_by_worker es laws now fresh of acts
fresh_by es laws now false of fresh acts = record {
  lasts = λ back. fresh_by_own es now now.act refl fresh of acts
      (subst (λ a. is_just_back a ≡ true) (grown now es of) back);
}

fresh_of : (es : List Event) → OwnerLaws es → IsFresh es
fresh_of [] laws = record { lasts = λ back. absurd cc }
fresh_of (now ∷ es) laws =
    fresh_by es laws.1 now (is_some_worker now.party) refl (fresh_of es laws.1) laws.0.acts

-- ---- the replies

whole_of : (es : List Event) → OwnerLaws es → is_just_back (own es) ≡ true → IsReadBack (part_back es)
    → IsWhole (own es) (last_job es)
whole_of es laws back read = ((fresh_of es laws).lasts back).1 read

not_okay : (asked : Option HandleCall) (why : Refusal) → refusal asked why ≡ Okay → ⊥
not_okay (Some Next) why e = cc
not_okay (Some Operate) why e = cc
not_okay (Some OperateAgain) why e = cc
not_okay _ why e = cc

okay_say : (reply : Reply) → Say reply ≡ Say Okay → reply ≡ Okay
okay_say reply e = cc

-- where a poll replies okay in which the handle came back, it has just come back
okay_back : (es : List Event) (acts : List Act) → owner_next_but_wake es acts ≡ Say Okay
    → session acts ≡ None → came_back acts ≡ true → is_just_back acts ≡ true
okay_back es [] say none back = absurd cc
okay_back es (Asked c ∷ past) say none back = absurd cc
okay_back es (Accepted s ∷ past) say none back = absurd cc
okay_back es (Refused why ∷ past) say none back =
    absurd (not_okay (call past) why (okay_say (refusal (call past) why) say))
okay_back es (Back ∷ past) say none back = refl
okay_back es (JobWoken s woke ∷ past) say none back = okay_back es past say none back
okay_back es (_ ∷ past) say none back = absurd cc

writing_is : (last : Option Session) → kind_in last ≡ Writing → (s : Session) × (last ≡ Some s)
writing_is None e = absurd cc
writing_is (Some s) e = (s, refl)

flushed_of : (es : List Event) → OwnerLaws es → IsSound (own es) → (c : HandleCall) → call (own es) ≡ Some c
    → Polls es (next_of_owner es) (Replied Okay) → IsFlushedBack (part_back es) → IsFlushed (own es) (last_job es)
flushed_of es laws sound c e acts ends =
    let none = okay_none es c sound e acts in (
      none,
      λ back some.
          (let say = said es (owner_next_but_wake es (own es)) Okay (next_is es (Replied Okay) refl acts).gives_it in
          let just = okay_back es (own es) say none back in
          let kind = sound.writes some in
          let flushed = ((fresh_of es laws).lasts just).2 ends kind in
          let last = writing_is (last_session (own es)) kind in
          let job = job_of_last es last.0 last.1 in
          let fine = (calm es laws last.0.serial).flushed
          (subst (λ l. has_flush (handle_answers l) ≡ true) job flushed.1) in
          (flushed.0, fine.0, ap handle_answers job ∙ fine.1)),
    )

-- the call told that nothing is left
told_back : (es : List Event) (c : HandleCall) (reply : Reply) → IsSound (own es) → call (own es) ≡ Some c
    → Polls es (next_of_owner es) (Replied reply)
    → suits (is_just_back (own es)) c (Sessions.state (own es)) (Say reply) ≡ true
told_back es c reply sound e acts =
    let s = suited es c (Replied reply) sound.fit e refl acts in
    subst (λ a. suits (is_just_back (own es)) c (Sessions.state (own es)) a ≡ true)
    (s.next ∙ said es (owner_next_but_wake es (own es)) reply (next_is es (Replied reply) refl acts).gives_it) s.suited

or_false : (b : Bool) → (b || false) ≡ true → b ≡ true
or_false true e = refl
or_false false e = absurd cc

pub all_by : (es : List Event) → OwnerLaws es → (asked : Option HandleCall) → call (own es) ≡ asked → (act : Act)
    → OwnerActs es act → EndsTruly es act → IsAll (own es) (last_job es) asked act
all_by es laws (Some (Read (suc n))) e (Replied (Count zero)) acts ends = whole_of es laws
    (or_false (is_just_back (own es)) (told_back es (Read (suc n)) (Count 0) (sound_own es laws) e acts))
    (subst (λ c. IsTrueEnd c (Count 0) (part_back es)) e ends)
all_by es laws (Some Next) e (Replied NoMore) acts ends = whole_of es laws
    (told_back es Next NoMore (sound_own es laws) e acts)
    (subst (λ c. IsTrueEnd c NoMore (part_back es)) e ends)
all_by es laws (Some Flush) e (Replied Okay) acts ends =
    flushed_of es laws (sound_own es laws) Flush e acts (subst (λ c. IsTrueEnd c Okay (part_back es)) e ends)
all_by es laws (Some Close) e (Replied Okay) acts ends =
    flushed_of es laws (sound_own es laws) Close e acts (subst (λ c. IsTrueEnd c Okay (part_back es)) e ends)
all_by es laws asked e act acts ends = tt

abbrev is_reply : Act → Bool
is_reply (Replied reply) = true
is_reply _ = false

unsaid : (mine job : List Act) (asked : Option HandleCall) (act : Act) → is_reply act ≡ false
    → IsAll mine job asked act
unsaid mine job (Some (Read (suc n))) (Replied (Count zero)) none = absurd cc
unsaid mine job (Some Next) (Replied NoMore) none = absurd cc
unsaid mine job (Some Flush) (Replied Okay) none = absurd cc
unsaid mine job (Some Close) (Replied Okay) none = absurd cc
unsaid mine job asked act none = tt

reply_in_cut : (act : Act) (party : Party) (owner : Option ℕ) (h : ℕ) → is_reply act ≡ true → party ≡ Owner h
    → (not (is_of_pool act) && not (is_nothing act) && (is_owner h party || is_some_worker party && is_this h owner)) ≡ true
reply_in_cut (Replied reply) party owner h is by = rw by (rw (same_self h) refl)
reply_in_cut _ party owner h is by = absurd cc

pub all : (setting : ℕ) (plan : List Bool) (past : List Moment) (now : Moment) → Legal setting plan (now ∷ past)
    → (h : ℕ) → now.event.party ≡ Owner h → IsAll (acts_of_owner h (events past))
    (last_job (cut h (events past))) (call (acts_of_owner h (events past))) now.event.act
all setting plan past now legal h by = at (is_reply now.event.act) refl
  where
    at : (b : Bool) → is_reply now.event.act ≡ b → IsAll (own (cut h (events past)))
        (last_job (cut h (events past))) (call (own (cut h (events past)))) now.event.act
    at false none = unsaid (own (cut h (events past))) (last_job (cut h (events past)))
        (call (own (cut h (events past)))) now.event.act none
    at true is =
        let law = owner_keeps setting plan past now h
        (reply_in_cut now.event.act now.event.party now.event.owner h is by) legal in
        let acts : OwnerActs (cut h (events past)) now.event.act =
        subst (λ p. OwnerMayAct (is_some_worker p) (cut h (events past)) now.event) by law.acts in
        all_by (cut h (events past)) ((before setting plan past now legal).owners h)
        (call (own (cut h (events past)))) refl now.event.act acts law.ends
