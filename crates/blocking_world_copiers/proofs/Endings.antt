-- What a copier wrote is an ending of what its writer's session accepted, until a flush ends
-- without a fault: then the handle took all of it.
use Rattle.std.proofs.Common.{◌≡◌, ◌⊎◌, ⊎_elim, inl, inr, ℕ, zero, suc, ◌&&◌, ◌||◌, not, cond}
use Rattle.std.proofs.Common.{if◌then◌else◌, List, [], ◌∷◌, ◌++◌, length, take, map, filter, Bool}
use Rattle.std.proofs.Common.{true, false, refl, sym, ap, ◌∙◌, subst, Option, Some, None, arith}
use Rattle.std.proofs.Common.{append-nil, append_assoc}
use Rattle.blocking_core.specs.Places.{Met, find_room, hand_in, peek}
use Rattle.blocking_world_laws.specs.Copies.{IsEnding, all_accepted, all_taken, taken_by_jobs}
use Rattle.blocking_world_laws.specs.Copies.{acts_since, since, makes_copier, is_write}
use Rattle.blocking_world_laws.specs.Ends.{EndsTruly, IsTrueEnd, IsFlushedIf, IsFlushedBack}
use Rattle.blocking_world_laws.specs.Ends.{came_back, back_by}
use Rattle.blocking_world_laws.specs.JobTable.{piece, JobAction, FindRoom, PutPiece, SendItem, Peek}
use Rattle.blocking_world_laws.specs.JobTable.{Consume, CloseEnd, PutResult, Finish, WakeHolder}
use Rattle.blocking_world_laws.specs.JobTable.{Over}
use Rattle.blocking_world_laws.specs.OwnerLaws.{JobMayAct, Works}
use Rattle.blocking_world_laws.specs.OwnerSeats.{pipe_seat}
use Rattle.blocking_world_laws.specs.Passed.{inside, room_in, accepted, taken, peeked, counted}
use Rattle.blocking_world_laws.specs.Passed.{kind_in, is_of_session}
use Rattle.blocking_world_laws.specs.Places.{seen_room, seen_put, seen_peek, seated}
use Rattle.blocking_world_laws.specs.Seen.{IsBeginning, acts_of, events, cut, is_in_cut}
use Rattle.blocking_world_laws.specs.Sessions.{jobs_of, ends_close}
use Rattle.blocking_world_laws.specs.declared.event.Act.TheVariants.{Answered}
use Rattle.blocking_world_laws.specs.declared.event.Moment.{Moment}
use Rattle.blocking_world_copiers.specs.Ties.{asks_writes, ends_flush, asks_flushes, IsJustFlushed}
use Rattle.blocking_world_copiers.proofs.Words.{Writing, Session, In, OwnerActs, OwnerMayAct}
use Rattle.blocking_world_copiers.proofs.Words.{OwnerLaws, Polls, data_of, last_job, own}
use Rattle.blocking_world_copiers.proofs.Words.{is_some_worker, call, under_way, last_session}
use Rattle.blocking_world_copiers.proofs.Words.{session, is_closed, is_shut, state, state_by, Act}
use Rattle.blocking_world_copiers.proofs.Words.{Asked, Accepted, OwnerClosed, Filled, Back, Replied}
use Rattle.blocking_world_copiers.proofs.Words.{Event, Reply, Okay, HandleCall, Write, Flush}
use Rattle.blocking_world_copiers.proofs.Polls.{acts_now, own_not, own_more, own_after, own_law}
use Rattle.blocking_world_copiers.proofs.Polls.{no_ask, under_way_call}
use Rattle.blocking_world_copiers.proofs.Owners.{IsIdle, idle_rests, idle_as}
use Rattle.blocking_world_copiers.proofs.Orders.{asked_write, writes_before, flushes_before}
use Rattle.blocking_world_copiers.proofs.Orders.{flushes_write, IsToWriter, flushes_asked}
use Rattle.blocking_world_copiers.proofs.NextActs.{EndsAs, ends_as, shut_now, in_last, fills_open}
use Rattle.blocking_world_copiers.proofs.NextActs.{IsOfWrite, write_next, IsOfFlush, flush_next}
use Rattle.blocking_world_copiers.proofs.NextActs.{IsJustBack, back_under, not_at_end, after_return}

-- ---- endings

abbrev nothing : List ℕ
nothing = []

take_none : (n : ℕ) → take n nothing ≡ nothing
take_none zero = refl
take_none (suc n) = refl

none_ends : (xs ys : List ℕ) → xs ≡ [] → IsEnding xs ys
none_ends xs ys none = (ys, sym (append-nil ys) ∙ ap (λ l. ys ++ l) (sym none))

ends_behind : (xs ys more : List ℕ) → IsEnding xs ys → IsEnding (xs ++ more) (ys ++ more)
ends_behind xs ys more e = (e.0, ap (λ l. l ++ more) e.1 ∙ append_assoc e.0 xs more)

ends_under : (xs ys before : List ℕ) → IsEnding xs ys → IsEnding xs (before ++ ys)
ends_under xs ys before e =
    (before ++ e.0, ap (λ l. before ++ l) e.1 ∙ sym (append_assoc before e.0 xs))

-- nothing is between a list and what it is a beginning of, if they are the same
none_between : (xs more rest : List ℕ) → xs ≡ (xs ++ more) ++ rest → more ≡ []
none_between [] [] rest is = refl
none_between [] (y ∷ more) rest is = absurd cc
none_between (x ∷ xs) more rest is =
    none_between xs more rest (let tails : xs ≡ (xs ++ more) ++ rest = cc in tails)

stays_whole : (xs more all rest : List ℕ) → xs ≡ all → all ≡ (xs ++ more) ++ rest → xs ++ more ≡ all
stays_whole xs more all rest whole is =
    ap (λ l. xs ++ l) (none_between xs more rest (whole ∙ is)) ∙ append-nil xs ∙ whole

-- ---- what was written

-- nothing more, where the call has no bytes
same_written : (act : Act) (s : List Act) (o : Option HandleCall) → call s ≡ o → data_of o ≡ []
    → all_accepted (act ∷ s) ≡ all_accepted s
same_written (Filled n told) s o called none =
    ap (λ c. all_accepted s ++ take n (data_of c)) called ∙ ap (λ l. all_accepted s ++ take n l)
    none ∙ ap (λ l. all_accepted s ++ l) (take_none n) ∙ append-nil (all_accepted s)
same_written act s o called none = refl

-- and nothing at all, where nothing was asked
unasked : (s : List Act) → call s ≡ None → all_accepted s ≡ []
unasked [] none = refl
unasked (Asked asked ∷ s) none = absurd cc
unasked (Filled n told ∷ s) none = same_written (Filled n told) s None none refl ∙ unasked s none
unasked (act ∷ s) none = unasked s none

-- what the pipe accepts it was asked to write
fill_ends : (s t : List Act) (n : ℕ) (asked : HandleCall) → call s ≡ Some asked
    → call t ≡ Some asked → IsEnding (all_accepted s) (accepted t)
    → IsEnding (all_accepted s ++ take n (data_of (call s)))
    (accepted t ++ take n (data_of (call t)))
fill_ends s t n asked here there e =
    subst (λ c.
    IsEnding (all_accepted s ++ take n (data_of (call s))) (accepted t ++ take n (data_of c)))
    (here ∙ sym there) (ends_behind (all_accepted s) (accepted t) (take n (data_of (call s))) e)

-- ---- while it writes

-- Over the writer's own acts since the copier was made, and all of them: nothing was written, or it
-- stands at the end of what the session under way accepted.
abbrev Writes : List Act → List Act → Type 0
Writes s t =
    (all_accepted s ≡ []) ⊎ (IsEnding (all_accepted s) (accepted t) × (state t ≡ In Writing true))

open_write : (reply : Reply) (bytes : List ℕ) → ends_close reply (Some (Write bytes)) ≡ false
open_write reply bytes = grind arith

open_flush : (reply : Reply) → ends_close reply (Some Flush) ≡ false
open_flush reply = grind arith

-- a reply to a call that is no close leaves the handle where it is
stays_open : (t : List Act) (reply : Reply) (asked : HandleCall) → call t ≡ Some asked
    → ends_close reply (Some asked) ≡ false → state (Replied reply ∷ t) ≡ state t
stays_open t reply asked called is = ap (λ b. state_by (b || is_closed t) (session t) (is_shut t))
    (ap (ends_close reply) called ∙ is)

module _ (s : List Act) (cut : List Event) (bytes : List ℕ) (here : call s ≡ Some (Write bytes))
    (there : call (own cut) ≡ Some (Write bytes)) (ends : EndsAs (own cut)) where
  -- the first bytes
  first_written : (act : Act) → all_accepted s ≡ [] → OwnerActs cut act
      → Writes (act ∷ s) (act ∷ own cut)
  first_written (Filled n told) none does =
      let fills = acts_now cut (Filled n told) does tt in
      inr (
        fill_ends s (own cut)
            n (Write bytes) here there (none_ends (all_accepted s) (accepted (own cut)) none),
        fills_open cut (own cut) fills.0 fills.1,
      )
  first_written act none does = inl none

  -- more of them
  more_written : (act : Act) → IsEnding (all_accepted s) (accepted (own cut))
      → state (own cut) ≡ In Writing true → OwnerActs cut act → Writes (act ∷ s) (act ∷ own cut)
  more_written (Filled n told) e at does =
      inr (fill_ends s (own cut) n (Write bytes) here there e, at)
  more_written (Accepted n) e at does = absurd (subst IsOfWrite (acts_now cut (Accepted n) does tt)
      (write_next cut (own cut) bytes there at ends))
  more_written (OwnerClosed told) e at does = absurd (subst IsOfWrite
      (acts_now cut (OwnerClosed told) does tt) (write_next cut (own cut) bytes there at ends))
  more_written Back e at does = absurd
      (subst IsOfWrite (acts_now cut Back does tt) (write_next cut (own cut) bytes there at ends))
  more_written (Replied reply) e at does =
      inr (e, stays_open (own cut) reply (Write bytes) there (open_write reply bytes) ∙ at)
  more_written act e at does = inr (e, at)

-- an act of its own, where nothing but writes was asked
writes_on : (s : List Act) (cut : List Event) (act : Act)
    → ((asked : HandleCall) → call s ≡ Some asked → call (own cut) ≡ Some asked) → EndsAs (own cut)
    → OwnerActs cut act → asks_writes s ≡ true
    → Writes s (own cut) → Writes (act ∷ s) (act ∷ own cut)
writes_on s cut act agrees ends does order was = by (call s) refl
  where
    writes : (asked : HandleCall) → is_write (Some asked) ≡ true → call s ≡ Some asked
        → Writes (act ∷ s) (act ∷ own cut)
    writes (Write bytes) is called =
        ⊎_elim (λ none.
        first_written s cut bytes called (agrees (Write bytes) called) ends act none does)
        (λ w. more_written s cut bytes called (agrees (Write bytes) called) ends act w.0 w.1 does)
        was
    writes asked is called = absurd cc

    by : (o : Option HandleCall) → call s ≡ o → Writes (act ∷ s) (act ∷ own cut)
    by None called = inl (same_written act s None called refl ∙ unasked s called)
    by (Some asked) called = writes asked (asked_write s asked order called) called

-- ---- while it flushes

-- the same, where the pipe may be shut, or the handle may have come back in this poll
abbrev Flushes : List Act → List Act → Type 0
Flushes s t =
    (all_accepted s ≡ [])
    ⊎ (IsEnding (all_accepted s) (accepted t) × (kind_in (last_session t) ≡ Writing)
    × (((b : Bool) × (state t ≡ In Writing b)) ⊎ IsJustBack t))

kind_of_last : (t : List Act) (b : Bool) → state t ≡ In Writing b
    → kind_in (last_session t) ≡ Writing
kind_of_last t b at = let last = in_last t Writing b at in ap kind_in last.1 ∙ last.2

writes_flushes : (s t : List Act) → Writes s t → Flushes s t
writes_flushes s t was =
    ⊎_elim (λ none. inl none) (λ w. inr (w.0, kind_of_last t true w.1, inl (true, w.1))) was

module _ (s : List Act) (cut : List Event)
    (here : call s ≡ Some Flush) (there : call (own cut) ≡ Some Flush) (ends : EndsAs (own cut))
    (idle : under_way (own cut) ≡ None → IsIdle (own cut)) where
  -- where the handle comes back, the flush is under way
  polled : OwnerActs cut Back → under_way (own cut) ≡ Some Flush
  polled does = by (under_way (own cut)) refl
    where
      by : (o : Option HandleCall) → under_way (own cut) ≡ o → o ≡ Some Flush
      by None rests =
          absurd (subst (λ next. Polls cut next Back) (idle_rests cut (own cut) (idle rests)) does)
      by (Some asked) runs = sym (under_way_call (own cut) asked runs) ∙ there

  -- where the handle is out
  flush_out : (act : Act) (b : Bool) → IsEnding (all_accepted s) (accepted (own cut))
      → state (own cut) ≡ In Writing b → OwnerActs cut act → Flushes (act ∷ s) (act ∷ own cut)
  flush_out (Accepted n) b e at does = absurd
      (subst IsOfFlush (acts_now cut (Accepted n) does tt) (flush_next cut (own cut) b there at))
  flush_out (Filled n told) b e at does = absurd (subst IsOfFlush
      (acts_now cut (Filled n told) does tt).1 (flush_next cut (own cut) b there at))
  flush_out (OwnerClosed told) b e at does = inr (
    e,
    kind_of_last (own cut) b at,
    inl (
      false,
      shut_now (is_closed (own cut)) (session (own cut)) (is_shut (own cut)) b Writing at,
    ),
  )
  flush_out Back b e at does =
      inr (e, kind_of_last (own cut) b at, inr (polled does, not_at_end (own cut) ends there))
  flush_out (Replied reply) b e at does = inr (
    e,
    kind_of_last (own cut) b at,
    inl (b, stays_open (own cut) reply Flush there (open_flush reply) ∙ at),
  )
  flush_out act b e at does = inr (e, kind_of_last (own cut) b at, inl (b, at))

  -- where it came back the flush ends
  flush_back : (act : Act) → IsJustBack (own cut) → OwnerActs cut act
      → asks_flushes (act ∷ s) ≡ true → ⊥
  flush_back act back does order =
      let end = after_return cut act back there does in
      let goes : (not (ends_flush (call s) end.0) && asks_flushes s) ≡ true =
      sym (ap (λ a. asks_flushes (a ∷ s)) end.1) ∙ order in
      no_more (ends_flush (call s) end.0) (asks_flushes s)
      (ap (λ c. ends_flush c end.0) here ∙ end.2) goes
    where
      no_more : (x y : Bool) → x ≡ true → (not x && y) ≡ true → ⊥
      no_more x y is goes = grind arith

  flushes_on : (act : Act) → OwnerActs cut act → asks_flushes (act ∷ s) ≡ true → Flushes s (own cut)
      → Flushes (act ∷ s) (act ∷ own cut)
  flushes_on act does order was =
      let same = same_written act s (Some Flush) here refl in
      ⊎_elim (λ none. inl (same ∙ none)) (λ w. ⊎_elim (λ out. flush_out act out.0 w.0 out.1 does)
      (λ back. absurd (flush_back act back does order)) w.2) was

-- ---- since the copier was made

-- what was asked since then is what was asked last
call_on : (act : Act) (s t : List Act)
    → ((asked : HandleCall) → call s ≡ Some asked → call t ≡ Some asked) → (asked : HandleCall)
    → call (act ∷ s) ≡ Some asked → call (act ∷ t) ≡ Some asked
call_on (Asked one) s t agrees asked called = called
call_on act s t agrees asked called = agrees asked called

-- An event of a job leaves both, and one of the owner's own comes to both.
both_after : (P : List Act → List Act → Type 0) (now : Event) (recent before : List Event)
    → (is_some_worker now.party ≡ true → P (own recent) (own (recent ++ before)))
    → (is_some_worker now.party ≡ false
    → P (now.act ∷ own recent) (now.act ∷ own (recent ++ before)))
    → P (own (now ∷ recent)) (own (now ∷ recent ++ before))
both_after P now recent before job mine =
    own_after (λ s. P s (own (now ∷ recent ++ before))) now recent
    (λ is. subst (λ t. P (own recent) t) (sym (own_not now (recent ++ before) is)) (job is))
    (λ is. subst (λ t. P (now.act ∷ own recent) t) (sym (own_more now (recent ++ before) is))
    (mine is))

call_since : (recent before : List Event) (asked : HandleCall) → call (own recent) ≡ Some asked
    → call (own (recent ++ before)) ≡ Some asked
call_since [] before asked called = absurd cc
call_since (now ∷ recent) before asked called =
    let was = call_since recent before in
    both_after (λ s t. call s ≡ Some asked → call t ≡ Some asked) now recent before
    (λ is. was asked) (λ is. call_on now.act (own recent) (own (recent ++ before)) was asked) called

writes_since : (recent before : List Event) → OwnerLaws (recent ++ before)
    → asks_writes (own recent) ≡ true → Writes (own recent) (own (recent ++ before))
writes_since [] before laws order = inl refl
writes_since (now ∷ recent) before laws order =
    let was = writes_since recent before laws.1 in
    both_after (λ s t. asks_writes s ≡ true → Writes s t) now recent before (λ is. was)
    (λ is comes. let earlier = writes_before now.act (own recent) comes in
    writes_on (own recent) (recent ++ before) now.act (call_since recent before)
    (ends_as (recent ++ before) laws.1) (own_law now (recent ++ before) laws is) earlier
    (was earlier)) order

-- where the flush is asked, and while it is under way
module _ (recent before : List Event) (laws : OwnerLaws (recent ++ before))
    (was : asks_flushes (own recent) ≡ true → call (own recent) ≡ Some Flush
    → Flushes (own recent) (own (recent ++ before))) where
  flushes_before_ask : asks_flushes (own recent) ≡ true
      → Flushes (own recent) (own (recent ++ before))
  flushes_before_ask order = by (call (own recent)) refl
    where
      asks : (asked : HandleCall) → IsToWriter asked → call (own recent) ≡ Some asked
          → Flushes (own recent) (own (recent ++ before))
      asks (Write bytes) its called = writes_flushes (own recent) (own (recent ++ before))
          (writes_since recent before laws (flushes_write (own recent) bytes order called))
      asks Flush its called = was order called
      asks asked its called = absurd its

      by : (o : Option HandleCall) → call (own recent) ≡ o
          → Flushes (own recent) (own (recent ++ before))
      by None called = inl (unasked (own recent) called)
      by (Some asked) called = asks asked (flushes_asked (own recent) asked order called) called

  ask_flush : OwnerActs (recent ++ before) (Asked Flush) → asks_flushes (own recent) ≡ true
      → Flushes (Asked Flush ∷ own recent) (Asked Flush ∷ own (recent ++ before))
  ask_flush does order =
      ⊎_elim (λ none. inl none)
      (λ w. inr (w.0, w.1, inl (⊎_elim (λ out. out) (λ back. absurd (no_return back)) w.2)))
      (flushes_before_ask order)
    where
      no_return : IsJustBack (own (recent ++ before)) → ⊥
      no_return back = no_ask (own (recent ++ before)) Flush Flush
          (back_under (own (recent ++ before)) back) does

  flush_acts : (act : Act) → OwnerActs (recent ++ before) act
      → asks_flushes (act ∷ own recent) ≡ true → call (act ∷ own recent) ≡ Some Flush
      → Flushes (act ∷ own recent) (act ∷ own (recent ++ before))
  flush_acts (Asked asked) does order called =
      by asked (let same : asked ≡ Flush = cc in same) does order
    where
      by : (asked : HandleCall) → asked ≡ Flush → OwnerActs (recent ++ before) (Asked asked)
          → asks_flushes (Asked asked ∷ own recent) ≡ true
          → Flushes (Asked asked ∷ own recent) (Asked asked ∷ own (recent ++ before))
      by Flush same does order = ask_flush does order
      by asked same does order = absurd cc
  flush_acts act does order called =
      flushes_on (own recent) (recent ++ before) called (call_since recent before Flush called)
      (ends_as (recent ++ before) laws) (idle_as (recent ++ before) laws) act does order
      (was (flushes_before act (own recent) order) called)

flushes_since : (recent before : List Event) → OwnerLaws (recent ++ before)
    → asks_flushes (own recent) ≡ true → call (own recent) ≡ Some Flush
    → Flushes (own recent) (own (recent ++ before))
flushes_since [] before laws order called = absurd cc
flushes_since (now ∷ recent) before laws order called =
    let was = flushes_since recent before laws.1 in
    both_after (λ s t. asks_flushes s ≡ true → call s ≡ Some Flush → Flushes s t) now recent before
    (λ is. was)
    (λ is. flush_acts recent before laws.1 was now.act (own_law now (recent ++ before) laws is))
    order called

-- ---- where the handle came back

abbrev is_asked : Act → Bool
is_asked (Asked asked) = true
is_asked act = false

room_asks : (met : Met ℕ) → is_asked (seen_room met) ≡ false
room_asks met = grind arith

put_asks : (n : ℕ) (met : Met (Option (Unit {0}))) → is_asked (seen_put n met) ≡ false
put_asks n met = grind arith

peek_asks : (met : Met (List ℕ)) → is_asked (seen_peek met) ≡ false
peek_asks met = grind arith

no_question : (asked : HandleCall) (act : Act) → is_asked act ≡ false → Asked asked ≡ act → ⊥
no_question asked act none is = let both = ap is_asked is ∙ none in cc

-- a job asks no owner
works_ask_none : (cut : List Event) (action : JobAction) (asked : HandleCall)
    → Works cut action (Asked asked) → ⊥
works_ask_none cut FindRoom asked does =
    let met = find_room (room_in cut) (not (is_shut (own cut))) in
    no_question asked (seen_room met) (room_asks met) does
works_ask_none cut (PutPiece bytes) asked does =
    let met =
    hand_in (length bytes) (room_in cut) (not (is_shut (own cut))) (seated (pipe_seat cut)) in
    no_question asked (seen_put (length bytes) met) (put_asks (length bytes) met) does
works_ask_none cut (SendItem x) asked does =
    let met = hand_in 1 (room_in cut) (not (is_shut (own cut))) (seated (pipe_seat cut)) in
    no_question asked (seen_put 1 met) (put_asks 1 met) does
works_ask_none cut Peek asked does =
    let met = peek piece (inside cut) (not (is_shut (own cut))) in
    no_question asked (seen_peek met) (peek_asks met) does
works_ask_none cut (Consume n) asked does = absurd cc
works_ask_none cut CloseEnd asked does = absurd cc
works_ask_none cut PutResult asked does = absurd cc
works_ask_none cut Finish asked does = absurd cc
works_ask_none cut WakeHolder asked does = absurd cc
works_ask_none cut Over asked does = does
works_ask_none cut action asked does = does

job_asks_none : (cut : List Event) (job : Option ℕ) (asked : HandleCall)
    → JobMayAct cut job (Asked asked) → ⊥
job_asks_none cut None asked does = does
job_asks_none cut (Some s) asked does = works_ask_none cut _ asked does.1

-- what its handle took only grows
job_by : (b : Bool) (last : Option Session) (now : Event) (cut : List Event)
    → is_of_session last now ≡ b
    → map (λ (e : Event). e.act) (filter (is_of_session last) (now ∷ cut))
    ≡ cond b (now.act ∷ map (λ (e : Event). e.act) (filter (is_of_session last) cut))
    (map (λ (e : Event). e.act) (filter (is_of_session last) cut))
job_by true last now cut is = grind arith
job_by false last now cut is = grind arith

-- one list is the other, and something behind it
abbrev Grows : List ℕ → List ℕ → Type 0
Grows before after = (more : List ℕ) × (after ≡ before ++ more)

takes_more : (act : Act) (job : List Act) → Grows (taken job) (taken (act ∷ job))
takes_more (Answered answer) job = (counted answer (peeked job), refl)
takes_more act job = ([], sym (append-nil (taken job)))

job_grows : (now : Event) (cut : List Event) → last_session (own (now ∷ cut))
    ≡ last_session (own cut) → Grows (taken (last_job cut)) (taken (last_job (now ∷ cut)))
job_grows now cut same = subst (λ l. Grows (taken (last_job cut)) (taken l)) (sym here)
    (by (is_of_session (last_session (own cut)) now))
  where
    here : last_job (now ∷ cut)
        ≡ cond (is_of_session (last_session (own cut)) now) (now.act ∷ last_job cut) (last_job cut)
    here = ap (λ o. map (λ (e : Event). e.act) (filter (is_of_session o) (now ∷ cut))) same
        ∙ job_by (is_of_session (last_session (own cut)) now) (last_session (own cut)) now cut refl

    by : (b : Bool)
        → Grows (taken (last_job cut)) (taken (cond b (now.act ∷ last_job cut) (last_job cut)))
    by true = takes_more now.act (last_job cut)
    by false = ([], sym (append-nil (taken (last_job cut))))

-- The handle came back at an earlier point of the cut: since then the owner did nothing.
record Returned (cut : List Event) : Type 0 where
  earlier : List Event
  came : came_back cut ≡ Some earlier
  same : own earlier ≡ own cut
  grown : Grows (taken (last_job earlier)) (taken (last_job cut))

here_back : (now : Event) (cut : List Event) → now.act ≡ Back → Returned (now ∷ cut)
here_back now cut is = record {
  earlier = now ∷ cut;
  came = ap (λ a. back_by a (now ∷ cut) (came_back cut)) is;
  same = refl;
  grown = ([], sym (append-nil (taken (last_job (now ∷ cut)))));
}

-- an act of a job comes after it
job_after : (now : Event) (cut : List Event) → is_some_worker now.party ≡ true
    → OwnerMayAct true cut now → Returned cut → Returned (now ∷ cut)
job_after now cut is acts r = by now.act refl
  where
    more : Grows (taken (last_job cut)) (taken (last_job (now ∷ cut)))
    more = job_grows now cut (ap last_session (own_not now cut is))

    later : came_back (now ∷ cut) ≡ came_back cut → Returned (now ∷ cut)
    later came = record {
      earlier = r.earlier;
      came = came ∙ r.came;
      same = r.same ∙ sym (own_not now cut is);
      grown = (
        r.grown.0 ++ more.0,
        more.1 ∙ ap (λ l. l ++ more.0) r.grown.1
            ∙ append_assoc (taken (last_job r.earlier)) r.grown.0 more.0,
      );
    }

    by : (act : Act) → now.act ≡ act → Returned (now ∷ cut)
    by Back same = here_back now cut same
    by (Asked asked) same =
        absurd (job_asks_none cut now.job asked (subst (JobMayAct cut now.job) same acts))
    by act same = later (ap (λ a. back_by a (now ∷ cut) (came_back cut)) same)

returned : (cut : List Event) → OwnerLaws cut → IsJustBack (own cut) → Returned cut
returned [] laws back = absurd back
returned (now ∷ cut) laws back =
    own_after (λ l. IsJustBack l → Returned (now ∷ cut)) now cut
    (λ is back. job_after now cut is (subst (λ b. OwnerMayAct b cut now) is laws.0.acts)
    (returned cut laws.1 back))
    (λ is back. here_back now cut (is_back now.act refl back)) back
  where
    is_back : (act : Act) → now.act ≡ act → IsJustBack (act ∷ own cut) → now.act ≡ Back
    is_back Back same back = same
    is_back act same back = absurd back

-- ---- where the flush has ended

passed_now : (cut : List Event) → OwnerLaws cut
    → IsBeginning (taken (last_job cut)) (accepted (own cut))
passed_now [] laws = ([], refl)
passed_now (now ∷ cut) laws = laws.0.passed.written

-- nothing was written, or it stands at the end of what the handle took of the last session
abbrev HasTaken : List Act → List Event → Type 0
HasTaken s cut = (all_accepted s ≡ []) ⊎ (IsEnding (all_accepted s) (accepted (own cut))
    × ((last : Session) × (last_session (own cut) ≡ Some last))
    × (taken (last_job cut) ≡ accepted (own cut)))

session_of : (o : Option Session) → kind_in o ≡ Writing → (last : Session) × (o ≡ Some last)
session_of None is = absurd cc
session_of (Some s) is = (s, refl)

-- the session was flushed
took_whole : (cut : List Event) → OwnerLaws cut → (r : Returned cut)
    → kind_in (last_session (own cut)) ≡ Writing → IsFlushedBack (came_back cut)
    → taken (last_job cut) ≡ accepted (own cut)
took_whole cut laws r kind ends =
    let flushed : IsFlushedIf Writing r.earlier = subst (λ k. IsFlushedIf k r.earlier)
    (ap (λ l. kind_in (last_session l)) r.same ∙ kind) (subst IsFlushedBack r.came ends) in
    let all : taken (last_job r.earlier) ≡ accepted (own cut) = flushed.all ∙ ap accepted r.same in
    let passed = passed_now cut laws in
    r.grown.1 ∙ stays_whole (taken (last_job r.earlier)) r.grown.0 (accepted (own cut)) passed.0 all
    (passed.1 ∙ ap (λ l. l ++ passed.0) r.grown.1)

-- where it tells so
flush_took : (s : List Act) (cut : List Event) → OwnerLaws cut → call (own cut) ≡ Some Flush
    → OwnerActs cut (Replied Okay) → EndsTruly cut (Replied Okay) → Flushes s (own cut)
    → HasTaken s cut
flush_took s cut laws there does ends was = ⊎_elim (λ none. inl none)
    (λ w. inr (w.0, session_of (last_session (own cut)) w.1, ⊎_elim out (back w.1) w.2)) was
  where
    out : ((b : Bool) × (state (own cut) ≡ In Writing b))
        → taken (last_job cut) ≡ accepted (own cut)
    out at = absurd (subst IsOfFlush (acts_now cut (Replied Okay) does tt)
        (flush_next cut (own cut) at.0 there at.1))

    back : kind_in (last_session (own cut)) ≡ Writing → IsJustBack (own cut)
        → taken (last_job cut) ≡ accepted (own cut)
    back kind is = took_whole cut laws (returned cut laws is) kind
        (subst (λ c. IsTrueEnd c Okay (came_back cut)) there ends)

-- an event after which the owner's last session and what it accepted are as before
stays_taken : (s : List Act) (now : Event) (cut : List Event)
    → last_session (own (now ∷ cut)) ≡ last_session (own cut)
    → accepted (own (now ∷ cut)) ≡ accepted (own cut) → OwnerLaws (now ∷ cut) → HasTaken s cut
    → HasTaken s (now ∷ cut)
stays_taken s now cut last same laws was = ⊎_elim (λ none. inl none) (λ w.
    inr (subst (IsEnding (all_accepted s)) (sym same) w.0, (w.1.0, last ∙ w.1.1), whole w.2)) was
  where
    whole : taken (last_job cut) ≡ accepted (own cut)
        → taken (last_job (now ∷ cut)) ≡ accepted (own (now ∷ cut))
    whole all =
        let more = job_grows now cut last in
        let passed = passed_now (now ∷ cut) laws in
        more.1 ∙ stays_whole (taken (last_job cut)) more.0 (accepted (own (now ∷ cut))) passed.0
        (all ∙ sym same) (passed.1 ∙ ap (λ l. l ++ passed.0) more.1)

taken_since : (recent before : List Event) → OwnerLaws (recent ++ before)
    → IsJustFlushed (own recent) → HasTaken (own recent) (recent ++ before)
taken_since [] before laws flushed = absurd flushed
taken_since (now ∷ recent) before laws flushed =
    own_after (λ s. IsJustFlushed s → HasTaken s (now ∷ recent ++ before)) now recent
    (λ is flushed. let more = own_not now (recent ++ before) is in
    stays_taken (own recent) now (recent ++ before) (ap last_session more) (ap accepted more) laws
    (taken_since recent before laws.1 flushed))
    (λ is. ends now.act refl is (own_law now (recent ++ before) laws is) laws.0.ends) flushed
  where
    ends : (act : Act) → now.act ≡ act → is_some_worker now.party ≡ false
        → OwnerActs (recent ++ before) act → EndsTruly (recent ++ before) act
        → IsJustFlushed (act ∷ own recent) → HasTaken (act ∷ own recent) (now ∷ recent ++ before)
    ends (Replied Okay) is own_act does truly flushed =
        let more =
        own_more now (recent ++ before) own_act ∙ ap (λ a. a ∷ own (recent ++ before)) is in
        let here : HasTaken (own recent) (recent ++ before) =
        flush_took (own recent) (recent ++ before) laws.1 (call_since recent before Flush flushed.0)
        does truly (flushes_since recent before laws.1 flushed.1 flushed.0) in
        stays_taken (Replied Okay ∷ own recent) now (recent ++ before) (ap last_session more)
        (ap accepted more) laws here
    ends act is own_act does truly flushed = absurd flushed

-- ---- over all sessions

abbrev serial_in : Option Session → ℕ
serial_in None = 0
serial_in (Some s) = s.serial

jobs_last : (acts : List Act) (s : Session) → last_session acts ≡ Some s
    → (older : List ℕ) × (jobs_of acts ≡ s.serial ∷ older)
jobs_last [] s is = absurd cc
jobs_last (Accepted n ∷ acts) s is = (jobs_of acts, ap (λ m. m ∷ jobs_of acts) (ap serial_in is))
jobs_last (act ∷ acts) s is = jobs_last acts s is

job_is : (cut : List Event) (s : Session) → last_session (own cut) ≡ Some s
    → last_job cut ≡ acts_of s.serial cut
job_is cut s is = ap (λ o. map (λ (e : Event). e.act) (filter (is_of_session o) cut)) is

all_ends : (s : List Act) (cut : List Event) → HasTaken s cut
    → IsEnding (all_accepted s) (all_taken cut)
all_ends s cut taken_all = ⊎_elim (λ none. none_ends (all_accepted s) (all_taken cut) none)
    (λ w. ends w.0 w.1.0 w.1.1 w.2) taken_all
  where
    ends : IsEnding (all_accepted s) (accepted (own cut)) → (last : Session)
        → last_session (own cut) ≡ Some last → taken (last_job cut) ≡ accepted (own cut)
        → IsEnding (all_accepted s) (all_taken cut)
    ends e last is whole =
        let jobs = jobs_last (own cut) last is in
        let all : all_taken cut ≡ taken_by_jobs jobs.0 cut ++ accepted (own cut) =
        ap (λ l. taken_by_jobs l cut) jobs.1 ∙ ap (λ l. taken_by_jobs jobs.0 cut ++ l)
        (ap taken (sym (job_is cut last is)) ∙ whole) in
        subst (IsEnding (all_accepted s)) (sym all)
        (ends_under (all_accepted s) (accepted (own cut)) (taken_by_jobs jobs.0 cut) e)

-- what came before the copier was made
cut_since : (k h : ℕ) (past : List Moment)
    → (before : List Event) × (cut h (events past) ≡ cut h (events (since k past)) ++ before)
cut_since k h [] = ([], refl)
cut_since k h (now ∷ past) = by (makes_copier k now.step now.event.act) refl (cut_since k h past)
  where
    in_cut : (b : Bool) (es : List Event) → is_in_cut h now.event ≡ b
        → cut h (now.event ∷ es) ≡ cond b (now.event ∷ cut h es) (cut h es)
    in_cut true es is = grind arith
    in_cut false es is = grind arith

    joins : (b : Bool) → is_in_cut h now.event ≡ b → (rest : (before : List Event)
        × (cut h (events past) ≡ cut h (events (since k past)) ++ before))
        → cut h (now.event ∷ events past) ≡ cut h (now.event ∷ events (since k past)) ++ rest.0
    joins true is rest = in_cut true (events past) is ∙ ap (λ l. now.event ∷ l) rest.1
        ∙ sym (ap (λ l. l ++ rest.0) (in_cut true (events (since k past)) is))
    joins false is rest = in_cut false (events past) is ∙ rest.1
        ∙ sym (ap (λ l. l ++ rest.0) (in_cut false (events (since k past)) is))

    by : (b : Bool) → makes_copier k now.step now.event.act ≡ b
        → ((before : List Event) × (cut h (events past) ≡ cut h (events (since k past)) ++ before))
        → (before : List Event)
        × (cut h (events (now ∷ past)) ≡ cut h (events (since k (now ∷ past))) ++ before)
    by true is rest =
        let recent : since k (now ∷ past) ≡ [] =
        ap (λ b. if b then [] else now ∷ since k past) is in (
          cut h (events (now ∷ past)),
          sym (ap (λ l. cut h (events l) ++ cut h (events (now ∷ past))) recent),
        )
    by false is rest =
        let recent : since k (now ∷ past) ≡ now ∷ since k past =
        ap (λ b. if b then [] else now ∷ since k past) is in (
          rest.0,
          joins (is_in_cut h now.event) refl rest
              ∙ sym (ap (λ l. cut h (events l) ++ rest.0) recent),
        )

-- Where a copier's flush has just ended without a fault, its writer's handle took all that it
-- wrote.
pub took_all : (k h : ℕ) (past : List Moment)
    → OwnerLaws (cut h (events past)) → IsJustFlushed (acts_since k h past)
    → IsEnding (all_accepted (acts_since k h past)) (all_taken (cut h (events past)))
took_all k h past laws flushed =
    let split = cut_since k h past in
    subst (λ c. IsEnding (all_accepted (acts_since k h past)) (all_taken c)) (sym split.1)
    (all_ends (acts_since k h past) (cut h (events (since k past)) ++ split.0)
    (taken_since (cut h (events (since k past))) split.0 (subst OwnerLaws split.1 laws) flushed))
