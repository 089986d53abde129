-- Where the handle is, by the law and by the machine.
use Rattle.std.proofs.Common.{arith, ◌≡◌, ℕ, List, [], ◌∷◌, Bool, true, false, refl, sym, ap, ◌∙◌}
use Rattle.std.proofs.Common.{subst, Option, Some, None, ◌||◌, not, is_none, is_some}
use Rattle.blocking_world_holders.proofs.Types.{Position, OwnerEnd, Open, Shut, SessionKind, State}
use Rattle.blocking_world_holders.proofs.Types.{Act, Accepted, Back, Event, HandleCall}
use Rattle.blocking_world_holders.proofs.Words.{has_pipe, Kind, next_but_wake, accepted, got}
use Rattle.blocking_world_holders.proofs.Words.{kind_in, acts_of, own, SeenSession, SeenState}
use Rattle.blocking_world_holders.proofs.Words.{seen_is_closed, is_for_closed, seen_is_shut}
use Rattle.blocking_world_holders.proofs.Words.{seen_last_session as last_session}
use Rattle.blocking_world_holders.proofs.Words.{seen_session as session, seen_state, seen_state_by}
use Rattle.blocking_world_holders.proofs.Words.{seen_state_in, IsLentOpen, LastAs, LooksFrom}
use Rattle.blocking_world_holders.proofs.Words.{is_end_open, is_piped_kind, kind_as, state_as}
use Rattle.blocking_world_holders.proofs.Words.{may_call_at, is_piped, Session, goods_of}
use Rattle.blocking_world_holders.proofs.owners.Drains.{IsLending, lends}

-- the session that isn't over is the last one
pub session_is_last : (acts : List Act) (r : SeenSession) → session acts ≡ Some r
    → last_session acts ≡ Some r
session_is_last [] r e = absurd (cc)
session_is_last (Back ∷ past) r e = absurd (cc)
session_is_last (Accepted s ∷ past) r e = e
session_is_last (_ ∷ past) r e = session_is_last past r e

-- ---- it is gone

-- whether the handle is gone
abbrev pub is_away : State → Bool
is_away State.Closed = true
is_away _ = false

-- what the law tells of it, where the machine knows where it is
pub away_is : (closed : Bool) (r : Option SeenSession) (shut : Bool) (st : State)
    → seen_state_by closed r shut ≡ state_as st → closed ≡ is_away st
away_is closed r shut st e = grind arith

-- whether the handle was dropped by a close
pub gone_is : (acts : List Act) (st : State) → seen_state acts ≡ state_as st
    → seen_is_closed acts ≡ is_away st
gone_is acts st e = away_is (seen_is_closed acts) (session acts) (seen_is_shut acts) st e

-- where it isn't gone it is with its owner, or with a job
pub lent_by : (acts : List Act) (st : State) → is_away st ≡ false → seen_state acts ≡ state_as st
    → seen_state_in (session acts) (seen_is_shut acts) ≡ state_as st
lent_by acts st there e =
    ap (λ b. seen_state_by b (session acts) (seen_is_shut acts)) (sym (gone_is acts st e ∙ there))
    ∙ e

-- what may be asked, by the law
pub may_be_asked : (here : State) (call : HandleCall)
    → (not (is_away here) || is_for_closed call) ≡ may_call_at here call
may_be_asked here call = grind arith

-- ---- it is lent

-- of a handle that is lent the last session has the kind, and tells whether the own end of its pipe
-- is open
pub lent_at : (acts : List Act) (k : Kind) (opened : Bool) → seen_state acts ≡ SeenState.In k opened
    → (kind_in (last_session acts) ≡ k) × (not (seen_is_shut acts) ≡ opened)
    × (is_none (session acts) ≡ false)
lent_at acts k opened e = by (seen_is_closed acts) (session acts) refl e
  where
    by : (closed : Bool) (r : Option SeenSession) → session acts ≡ r
        → seen_state_by closed r (seen_is_shut acts) ≡ SeenState.In k opened
        → (kind_in (last_session acts) ≡ k) × (not (seen_is_shut acts) ≡ opened)
        × (is_none (session acts) ≡ false)
    by true r is e = absurd (cc)
    by false None is e = absurd (cc)
    by false (Some r) is e =
        let same : r.kind ≡ k = cc in
        let ends : not (seen_is_shut acts) ≡ opened = cc in
        (ap kind_in (session_is_last acts r is) ∙ same, ends, ap is_none is)

-- whether the handle is with a job
abbrev pub is_lent : State → Bool
is_lent (State.Lent kind end) = true
is_lent _ = false

-- who looks for it, or closes the own end, has lent it
pub looks_lent : (c : HandleCall) (st : State) (ended : Bool) → LooksFrom c st ended
    → is_lent st ≡ true
looks_lent c (State.Lent kind end) ended looks = refl
looks_lent c _ ended looks = absurd looks

pub open_lent : (st : State) → IsLentOpen st → is_lent st ≡ true
open_lent (State.Lent kind end) opened = refl
open_lent _ opened = absurd opened

lent_goes_on : (acts : List Act) (st : State) → is_lent st ≡ true → seen_state acts ≡ state_as st
    → is_none (session acts) ≡ false
lent_goes_on acts (State.Lent kind end) is at = (lent_at acts (kind_as kind) (is_end_open end) at).2
lent_goes_on acts _ is at = absurd (cc)

-- a handle that is lent is lent to the last session's job
pub lent : (last : Option Session) (bytes : Kind → ℕ) (cut : List Event) (st : State)
    → LastAs last bytes cut → seen_state (own cut) ≡ state_as st → is_lent st ≡ true
    → is_some last ≡ true
lent (Some s) bytes cut st l at is = refl
lent None bytes cut st l at is =
    absurd (none (session (own cut)) refl (lent_goes_on (own cut) st is at))
  where
    none : (r : Option SeenSession) → session (own cut) ≡ r → is_none (session (own cut)) ≡ false
        → ⊥
    none (Some r) is goes = let began = sym (session_is_last (own cut) r is) ∙ l.0 in cc
    none None is goes = let over = ap is_none is in cc

-- ---- the sessions that there are

-- a handle that is lent is lent to a job that reads, writes, takes items, seeks or runs an
-- operation
abbrev pub IsThere : State → Type 0
IsThere (State.Lent kind end) = IsLending (kind_as kind)
IsThere _ = Unit {0}

pub is_there : (last : Option Session) (bytes : Kind → ℕ) (cut : List Event) (st : State)
    → LastAs last bytes cut → seen_state (own cut) ≡ state_as st → IsThere st
is_there None bytes cut (State.Lent kind end) l at =
    absurd (let none = lent None bytes cut (State.Lent kind end) l at refl in cc)
is_there (Some s) bytes cut (State.Lent kind end) l at =
    let of = kind_in (last_session (own cut)) in
    let works = acts_of s.number.serial cut in
    subst IsLending (lent_at (own cut) (kind_as kind) (is_end_open end) at).0
    (lends s (seen_is_shut (own cut)) (got (own cut)) (accepted (own cut)) (next_but_wake of works)
    works of l.flow)
is_there last bytes cut _ l at = tt

-- whether its session has a pipe
pub piped_is : (kind : SessionKind) → has_pipe kind ≡ is_piped_kind (kind_as kind)
piped_is kind = grind arith

-- and then such things pass as need one
pub piped_goods : (kind : Kind) → is_piped_kind kind ≡ true → is_piped (goods_of kind) ≡ true
piped_goods kind is = grind arith

-- whose own end is open has one
pub open_piped : (acts : List Act) (st : State) → IsLentOpen st → seen_state acts ≡ state_as st
    → is_piped (goods_of (kind_in (last_session acts))) ≡ true
open_piped acts (State.Lent kind Open) opened at =
    piped_goods (kind_in (last_session acts))
    (ap is_piped_kind (lent_at acts (kind_as kind) true at).0 ∙ sym (piped_is kind) ∙ opened)
open_piped acts _ opened at = absurd opened

-- what holds in each session that there is, with either end, holds where the handle is lent
pub of_session : (P : SessionKind → OwnerEnd → Type 0) → P SessionKind.Reading Open
    → P SessionKind.Reading Shut → P SessionKind.Writing Open → P SessionKind.Writing Shut
    → P SessionKind.Streaming Open → P SessionKind.Streaming Shut
    → ((goal : Position) → P (SessionKind.Seeking goal) Open)
    → ((goal : Position) → P (SessionKind.Seeking goal) Shut) → P SessionKind.Operating Open
    → P SessionKind.Operating Shut
    → (kind : SessionKind) (end : OwnerEnd) → IsLending (kind_as kind) → P kind end
of_session P reads read writes written streams streamed seeks sought operates operated
    SessionKind.Reading Open there = reads
of_session P reads read writes written streams streamed seeks sought operates operated
    SessionKind.Reading Shut there = read
of_session P reads read writes written streams streamed seeks sought operates operated
    SessionKind.Writing Open there = writes
of_session P reads read writes written streams streamed seeks sought operates operated
    SessionKind.Writing Shut there = written
of_session P reads read writes written streams streamed seeks sought operates operated
    SessionKind.Streaming Open there = streams
of_session P reads read writes written streams streamed seeks sought operates operated
    SessionKind.Streaming Shut there = streamed
of_session P reads read writes written streams streamed seeks sought operates operated
    (SessionKind.Seeking goal) Open there = seeks goal
of_session P reads read writes written streams streamed seeks sought operates operated
    (SessionKind.Seeking goal) Shut there = sought goal
of_session P reads read writes written streams streamed seeks sought operates operated
    SessionKind.Operating Open there = operates
of_session P reads read writes written streams streamed seeks sought operates operated
    SessionKind.Operating Shut there = operated
