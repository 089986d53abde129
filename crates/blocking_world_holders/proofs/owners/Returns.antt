-- Where the handle of a session was lent, and what follows once it is back.
use Rattle.std.proofs.Common.{◌≡◌, ℕ, suc, zero, List, [], ◌∷◌, Bool, true, false, refl, sym, ◌∙◌}
use Rattle.std.proofs.Common.{arith, Option, Some, None, ◌||◌, not, is_none, if◌then◌else◌}
use Rattle.std.proofs.lemmas.Bool.{or_from}
use Rattle.blocking_world_holders.proofs.Types.{Fault, Position, OwnerAction, OwnerEnd, Open, Shut}
use Rattle.blocking_world_holders.proofs.Types.{PollCall, Reply, SessionKind, State, Act, Answered}
use Rattle.blocking_world_holders.proofs.Types.{Event, Told, HandleAnswer, HandleCall}
use Rattle.blocking_world_holders.proofs.Words.{OwnerMachine, same_position, IsFlushedBack}
use Rattle.blocking_world_holders.proofs.Words.{IsReadBack, handle_answers, has_failure, is_failure}
use Rattle.blocking_world_holders.proofs.Words.{JobAction, Kind, Reading, Seeking}
use Rattle.blocking_world_holders.proofs.Words.{job_earlier as earlier, fault, fault_in}
use Rattle.blocking_world_holders.proofs.Words.{next_but_wake, number, acts_of, SeenSession}
use Rattle.blocking_world_holders.proofs.Words.{SeenState, seen_state_in, FitsNext, GaveAll}
use Rattle.blocking_world_holders.proofs.Words.{IsOperating, LooksFrom, Passed, action_as, state_as}
use Rattle.blocking_world_holders.proofs.Words.{poll_call_of, Session}
use Rattle.blocking_core.specs.OwnerCalls as machine
use Rattle.blocking_world_laws.specs.OwnerTable as law
use Rattle.blocking_world_holders.proofs.owners.States.{is_away}
use Rattle.blocking_world_holders.proofs.owners.Polls.{failed_fits}

earlier_none : (a b : Option (Fault ℕ)) → earlier a b ≡ None → (a ≡ None) × (b ≡ None)
earlier_none None b e = (refl, e)
earlier_none (Some why) b e = absurd (cc)

pub no_failure : (past : List Act) → fault Reading past ≡ None
    → has_failure (handle_answers past) ≡ false
no_failure [] e = refl
no_failure (Answered answer ∷ past) e =
    let both = earlier_none (fault Reading past) (fault_in (next_but_wake Reading past) answer) e in
    or_from (is_failure answer) (has_failure (handle_answers past))
    (sound (next_but_wake Reading past) answer both.1) (no_failure past both.0)
  where
    sound : (action : JobAction) (answer : HandleAnswer) → fault_in action answer ≡ None
        → is_failure answer ≡ false
    sound action answer e = grind arith
no_failure (_ ∷ past) e = no_failure past e

-- what ended, with nothing left inside, and met no fault, was read whole
pub whole_by : (g : Passed) (stopped : Bool) (took : List ℕ) → stopped ≡ false → GaveAll stopped g
    → g.put ≡ took → g.failed ≡ false → (took ≡ g.given) × (g.ended ≡ true)
whole_by g true took goes all put sound = absurd (cc)
whole_by g false took goes all put sound = (sym put ∙ sym all.0, ended g.failed g.ended sound all.1)
  where
    ended : (a b : Bool) → a ≡ false → a || b ≡ true → b ≡ true
    ended a b none e = grind arith

-- ---- where the handle was lent

-- a session whose handle isn't back goes on
pub looks_away : (c : HandleCall) (st : State) (ended : Bool) → LooksFrom c st ended
    → is_away st ≡ false
looks_away c State.Closed ended looks = absurd looks
looks_away c _ ended looks = refl

pub lent_state : (c : HandleCall) (st : State) (ended : Bool) → LooksFrom c st ended
    → (r : Option SeenSession) (b : Bool) → seen_state_in r b ≡ state_as st → is_none r ≡ false
lent_state c (State.Lent kind end) ended looks None b e = absurd (cc)
lent_state c (State.Lent kind end) ended looks (Some r) b e = refl
lent_state c _ ended looks r b e = absurd looks

pub shut_now : (k : Kind) (r : Option SeenSession) (b : Bool)
    → seen_state_in r b ≡ SeenState.In k false → not b ≡ false
shut_now k r b e = grind arith

-- ---- once it is back

-- what the law says once the handle is back, by the call that is asked, the fault that the job met,
-- its kind and its last number
abbrev pub once_back : Option HandleCall → Option (Fault ℕ) → Bool → Kind → ℕ → law.OwnerAction
once_back None why ended of n = law.Rest
once_back (Some call) why ended of n = law.after_back call why ended of n

pub at_back_is : (asked : Option HandleCall) (r : SeenSession) (ended : Bool) (seen : List Event)
    → law.at_back asked (Some r) ended seen ≡ once_back asked (fault r.kind (acts_of r.serial seen))
    ended r.kind (number (acts_of r.serial seen))
at_back_is asked r ended seen = grind arith

-- only a read and a call for an item see the end
abbrev sees_end : HandleCall → Bool
sees_end (HandleCall.Read most) = true
sees_end HandleCall.Next = true
sees_end _ = false

only_seen : (c : HandleCall) (st : State) → LooksFrom c st true → sees_end c ≡ true
only_seen (HandleCall.Read most) st looks = refl
only_seen HandleCall.Next st looks = refl
only_seen c (State.Lent _ Shut) looks = absurd looks
only_seen _ (State.Lent _ Open) looks = absurd looks
only_seen c _ looks = absurd looks

-- each in its own session
seen_reading : (most : ℕ) (st : State) → LooksFrom (HandleCall.Read most) st true
    → st ≡ State.Lent SessionKind.Reading Open
seen_reading most (State.Lent SessionKind.Reading Open) looks = refl
seen_reading most (State.Lent _ Shut) looks = absurd looks
seen_reading most (State.Lent _ Open) looks = absurd looks
seen_reading most _ looks = absurd looks

seen_streaming : (st : State) → LooksFrom HandleCall.Next st true
    → st ≡ State.Lent SessionKind.Streaming Open
seen_streaming (State.Lent SessionKind.Streaming Open) looks = refl
seen_streaming (State.Lent _ Shut) looks = absurd looks
seen_streaming (State.Lent _ Open) looks = absurd looks
seen_streaming _ looks = absurd looks

-- it came back from no seek that went well
abbrev pub IsNoSeek : Kind → Option (Fault ℕ) → Type 0
IsNoSeek (Seeking goal) None = ⊥
IsNoSeek of why = Unit {0}

pub some_why : (k : Kind) (why : Fault ℕ) → IsNoSeek k (Some why)
some_why (Seeking goal) why = tt
some_why _ why = tt

module _ (s : Session) where
  -- what follows once the handle is back
  pub after_back_is : (k : Bool) (c : HandleCall) (st : State) (ended : Bool)
      (why : Option (Fault ℕ)) (of : Kind) (last : ℕ) → LooksFrom c st ended → IsNoSeek of why
      → law.after_back c why ended of last
      ≡ action_as s.item c (machine.after_back (poll_call_of k c) ended why)
  after_back_is k (HandleCall.Read zero) st false None of last looks kept = refl
  after_back_is k (HandleCall.Read (suc n)) st false None of last looks kept = refl
  after_back_is k (HandleCall.Write []) st false None of last looks kept = refl
  after_back_is k (HandleCall.Write (byte ∷ more)) st false None of last looks kept = refl
  after_back_is k (HandleCall.Write offered) st true None of last looks kept =
      absurd (let seen = only_seen (HandleCall.Write offered) st looks in cc)
  after_back_is k HandleCall.Flush st true None of last looks kept =
      absurd (let seen = only_seen HandleCall.Flush st looks in cc)
  after_back_is k HandleCall.Close st true None of last looks kept =
      absurd (let seen = only_seen HandleCall.Close st looks in cc)
  after_back_is k HandleCall.GetMut st false (Some why) of last looks kept = refl
  after_back_is k HandleCall.GetMut st true why of last looks kept =
      absurd (let seen = only_seen HandleCall.GetMut st looks in cc)
  after_back_is k HandleCall.Next st true (Some why) of last looks kept = refl
  after_back_is k HandleCall.Next st false (Some why) of last looks kept = refl
  after_back_is k (HandleCall.Seek goal) st false None (Seeking from) last looks kept = absurd kept
  after_back_is k (HandleCall.Seek goal) st false None _ last looks kept = refl
  after_back_is k (HandleCall.Seek goal) st true None of last looks kept =
      absurd (let seen = only_seen (HandleCall.Seek goal) st looks in cc)
  after_back_is k HandleCall.Operate st false (Some why) of last looks kept = refl
  after_back_is k HandleCall.Operate st true why of last looks kept =
      absurd (let seen = only_seen HandleCall.Operate st looks in cc)
  after_back_is k HandleCall.OperateAgain st false (Some why) of last looks kept = refl
  after_back_is k HandleCall.OperateAgain st true why of last looks kept =
      absurd (let seen = only_seen HandleCall.OperateAgain st looks in cc)
  after_back_is k HandleCall.IntoInner st false (Some why) of last looks kept = refl
  after_back_is k HandleCall.IntoInner st true why of last looks kept =
      absurd (let seen = only_seen HandleCall.IntoInner st looks in cc)
  after_back_is k _ st false None of last looks kept = refl
  after_back_is k _ st ended (Some why) of last looks kept = refl
  after_back_is k _ st true None of last looks kept = refl

  -- and once it is back from a seek that went well
  pub sought_is : (k : Bool) (c : HandleCall) (goal : Position) (end : OwnerEnd) (place : ℕ)
      → law.after_back c None false (Seeking goal) place ≡ action_as s.item c
      (machine.after_seek (State.Lent (SessionKind.Seeking goal) end) (poll_call_of k c) place)
  sought_is k (HandleCall.Seek to) goal end place = by (same_position goal to)
    where
      by : (b : Bool) → (if b then law.Say (Told.Count place) else law.Begin)
          ≡ action_as s.item (HandleCall.Seek to)
          (if b then OwnerAction.Reply (Reply.Position place) else OwnerAction.Begin)
      by true = refl
      by false = refl
  sought_is k (HandleCall.Read zero) goal end place = refl
  sought_is k (HandleCall.Read (suc n)) goal end place = refl
  sought_is k (HandleCall.Write []) goal end place = refl
  sought_is k (HandleCall.Write (byte ∷ more)) goal end place = refl
  sought_is k _ goal end place = refl

-- and it fits
pub back_fits : (k : Bool) (q : OwnerMachine ℕ) (c : HandleCall) (st : State) (ended : Bool)
    (why : Option (Fault ℕ)) (back : Option (List Event)) → LooksFrom c st ended
    → q.state ≡ State.Idle → q.is_at_end ≡ ended
    → (ended ≡ true → why ≡ None → st ≡ State.Lent SessionKind.Reading Open → IsReadBack back)
    → (ended ≡ true → st ≡ State.Lent SessionKind.Streaming Open → IsReadBack back)
    → (why ≡ None → IsFlushedBack back)
    → FitsNext c q (machine.after_back (poll_call_of k c) ended why) false back
back_fits k q (HandleCall.Read most) st ended (Some why) back looks at end whole taken flushed =
    failed_fits (HandleCall.Read most) q why false back
back_fits k q (HandleCall.Read zero) st true None back looks at end whole taken flushed =
    (refl, tt, tt)
back_fits k q (HandleCall.Read (suc n)) st true None back looks at end whole taken flushed =
    (refl, whole refl refl (seen_reading (suc n) st looks), tt)
back_fits k q (HandleCall.Read zero) st false None back looks at end whole taken flushed =
    (refl, tt, tt)
back_fits k q (HandleCall.Read (suc n)) st false None back looks at end whole taken flushed =
    (tt, at, end)
back_fits k q (HandleCall.Write []) st false None back looks at end whole taken flushed =
    (refl, tt, tt)
back_fits k q (HandleCall.Write (byte ∷ more)) st false None back looks at end whole taken flushed =
    (tt, at, end)
back_fits k q (HandleCall.Write offered) st true None back looks at end whole taken flushed =
    absurd (let seen = only_seen (HandleCall.Write offered) st looks in cc)
back_fits k q HandleCall.Flush st true None back looks at end whole taken flushed =
    (refl, flushed refl, tt)
back_fits k q HandleCall.Flush st false None back looks at end whole taken flushed =
    (refl, flushed refl, tt)
back_fits k q HandleCall.Close st true None back looks at end whole taken flushed =
    (refl, at, flushed refl)
back_fits k q HandleCall.Close st false None back looks at end whole taken flushed =
    (refl, at, flushed refl)
back_fits k q HandleCall.GetMut st true (Some why) back looks at end whole taken flushed =
    (refl, tt, tt)
back_fits k q HandleCall.GetMut st false None back looks at end whole taken flushed = (refl, tt, tt)
back_fits k q HandleCall.GetMut st false (Some why) back looks at end whole taken flushed =
    (refl, tt, tt)
back_fits k q HandleCall.Next st true None back looks at end whole taken flushed =
    (refl, taken refl (seen_streaming st looks), tt)
back_fits k q HandleCall.Next st true (Some why) back looks at end whole taken flushed =
    (refl, taken refl (seen_streaming st looks), tt)
back_fits k q HandleCall.Next st false (Some why) back looks at end whole taken flushed =
    (tt, at, end)
back_fits k q (HandleCall.Seek goal) st true None back looks at end whole taken flushed =
    absurd (let seen = only_seen (HandleCall.Seek goal) st looks in cc)
back_fits k q HandleCall.Operate st false (Some why) back looks at end whole taken flushed =
    (tt, at, end)
back_fits k q HandleCall.Operate st true why back looks at end whole taken flushed =
    absurd (let seen = only_seen HandleCall.Operate st looks in cc)
back_fits k q HandleCall.OperateAgain st false (Some why) back looks at end whole taken flushed =
    (tt, at, end)
back_fits k q HandleCall.OperateAgain st true why back looks at end whole taken flushed =
    absurd (let seen = only_seen HandleCall.OperateAgain st looks in cc)
back_fits k q HandleCall.IntoInner st true (Some why) back looks at end whole taken flushed =
    (refl, tt, tt)
back_fits k q HandleCall.IntoInner st false None back looks at end whole taken flushed =
    (refl, tt, tt)
back_fits k q HandleCall.IntoInner st false (Some why) back looks at end whole taken flushed =
    (refl, tt, tt)
back_fits k q _ st ended (Some why) back looks at end whole taken flushed = (refl, tt, tt)
back_fits k q _ st false None back looks at end whole taken flushed = (tt, at, end)
back_fits k q _ st true None back looks at end whole taken flushed = (refl, tt, tt)

pub sought_fits : (k : Bool) (q : OwnerMachine ℕ) (c : HandleCall) (goal : Position)
    (end : OwnerEnd) (place : ℕ) (back : Option (List Event)) → q.state ≡ State.Idle
    → q.is_at_end ≡ false
    → IsFlushedBack back → FitsNext c q (machine.after_seek
    (State.Lent (SessionKind.Seeking goal) end) (poll_call_of k c) place) false back
sought_fits k q (HandleCall.Seek to) goal end place back at ended flushed =
    by (same_position goal to)
  where
    by : (b : Bool) → FitsNext (HandleCall.Seek to) q
        (if b then OwnerAction.Reply (Reply.Position place) else OwnerAction.Begin) false back
    by true = (refl, tt, tt)
    by false = (tt, at, ended)
sought_fits k q (HandleCall.Read zero) goal end place back at ended flushed = (refl, tt, tt)
sought_fits k q (HandleCall.Read (suc n)) goal end place back at ended flushed = (tt, at, ended)
sought_fits k q (HandleCall.Write []) goal end place back at ended flushed = (refl, tt, tt)
sought_fits k q (HandleCall.Write (byte ∷ more)) goal end place back at ended flushed =
    (tt, at, ended)
sought_fits k q HandleCall.Flush goal end place back at ended flushed = (refl, flushed, tt)
sought_fits k q HandleCall.Close goal end place back at ended flushed = (refl, at, flushed)
sought_fits k q HandleCall.GetMut goal end place back at ended flushed = (refl, tt, tt)
sought_fits k q HandleCall.IntoInner goal end place back at ended flushed = (refl, tt, tt)
sought_fits k q _ goal end place back at ended flushed = (tt, at, ended)

module _ (begun came : Bool) where
  -- once the handle is back, an operation hasn't begun its session
  idle_operates : (c : PollCall) (operates : Bool) → (operates ≡ true → begun ≡ false)
      → IsOperating (machine.table c State.Idle) operates begun came
  idle_operates (PollCall.Read zero) operates before = tt
  idle_operates (PollCall.Read (suc n)) operates before = before
  idle_operates (PollCall.Write zero) operates before = tt
  idle_operates (PollCall.Write (suc n)) operates before = before
  idle_operates PollCall.Flush operates before = tt
  idle_operates PollCall.GetMut operates before = tt
  idle_operates PollCall.IntoInner operates before = tt
  idle_operates _ operates before = before

  end_operates : (c : PollCall) (ended operates : Bool) → (operates ≡ true → begun ≡ false)
      → IsOperating (machine.after_end c ended) operates begun came
  end_operates c false operates before = idle_operates c operates before
  end_operates c true operates before = at_end c
    where
      at_end : (c : PollCall) → IsOperating (machine.at_end c) operates begun came
      at_end (PollCall.Write n) = idle_operates (PollCall.Write n) operates before
      at_end PollCall.Flush = idle_operates PollCall.Flush operates before
      at_end PollCall.Close = idle_operates PollCall.Close operates before
      at_end (PollCall.Seek goal) = idle_operates (PollCall.Seek goal) operates before
      at_end (PollCall.Operate has_begun) =
          idle_operates (PollCall.Operate has_begun) operates before
      at_end PollCall.GetMut = idle_operates PollCall.GetMut operates before
      at_end PollCall.IntoInner = idle_operates PollCall.IntoInner operates before
      at_end _ = tt

  pub back_operates : (c : PollCall) (ended : Bool) (why : Option (Fault ℕ)) (operates : Bool)
      → (operates ≡ true → begun ≡ false)
      → IsOperating (machine.after_back c ended why) operates begun came
  back_operates c ended None operates before = end_operates c ended operates before
  back_operates c ended (Some why) operates before = by (machine.tells_faults c)
    where
      by : (b : Bool) → IsOperating (if b then OwnerAction.Reply (Reply.Failed why)
          else machine.after_end c ended) operates begun came
      by true = tt
      by false = end_operates c ended operates before

  pub sought_operates : (st : State) (c : PollCall) (place : ℕ) (operates : Bool)
      → (operates ≡ true → begun ≡ false)
      → IsOperating (machine.after_seek st c place) operates begun came
  sought_operates st c place operates before = by (machine.sought_by st c)
    where
      by : (b : Bool) → IsOperating (if b then OwnerAction.Reply (Reply.Position place)
          else machine.table c State.Idle) operates begun came
      by true = tt
      by false = idle_operates c operates before
