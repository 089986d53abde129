-- The event of a move carries no more bytes than was told before it.
use Rattle.std.proofs.Common.{◌≡◌, ◌≤◌, ℕ, List, [], ◌∷◌, length, Bool, true, false, refl, sym, ap}
use Rattle.std.proofs.Common.{◌∙◌, subst, arith, Option, Some, None, slice_get, min, max, Result}
use Rattle.std.proofs.lemmas.Bool.Decides.{nat_tests}
use Rattle.std.proofs.lemmas.List.{length-take}
use Rattle.blocking_world_state.proofs.Types.{Action, Refusal, Act, Event, Step, TurnStage, Parking}
use Rattle.blocking_world_state.proofs.Types.{Core}
use Rattle.blocking_world_state.proofs.Words.{OwnerMachine, Met, drain, JobNumber, is_bare}
use Rattle.blocking_world_state.proofs.Words.{IsPlanned, added_act, parked_act, act_of_work, Owner}
use Rattle.blocking_world_state.proofs.Words.{front_in, next_of, bytes_in, Did, drain_did}
use Rattle.blocking_world_state.proofs.Words.{receive_did, fill_did, did, Worked, worked, Session}
use Rattle.blocking_world_state.proofs.Words.{Task, bytes_of, front_at, front_for, bytes_to_come}
use Rattle.blocking_world_state.proofs.Words.{Move, step_of, May, CrewMoves, is_own_step, Moves}
use Rattle.blocking_world_state.proofs.Words.{Parts, call_step_by, call_step, session_step, Done}
use Rattle.blocking_world_state.proofs.Words.{call_done, session_seen, session_done}
use Rattle.blocking_world_pool.specs.declared.hand.TurnStage.TheVariants as turn
use Rattle.blocking_world_holders.specs.OwnerSteps as steps
use Rattle.blocking_world_state.specs.Rows as rows
use Rattle.blocking_world_state.specs.declared.row.Core.TheVariants as core
use Rattle.blocking_world_holders.proofs.acts.Calls.{by_call}
use Rattle.blocking_world_state.proofs.moves.PollActs.{is_look, did_holds}
use Rattle.blocking_world_state.proofs.moves.SessionActs.{DoesSo, carried_at, moved}
use Rattle.blocking_world_state.proofs.moves.SessionActs.{seen as seen_at, worked_so}
use Rattle.blocking_world_state.proofs.ties.Events.{said}

-- nothing carried is no more than anything
none_more : (bytes : List ℕ) (n : ℕ) → bytes ≡ [] → length bytes ≤ n
none_more bytes n none = let zeroed = ap length none in omega (arith, zeroed)

-- ---- what an owner's poll does

-- What comes out of a pipe is no more than reached: an empty one gives nothing.
got_within : (most : ℕ) (items : List ℕ) (is_open : Bool) (seat : Option JobNumber)
    (p : OwnerMachine ℕ) (s : Session) (owner : Owner)
    → length (bytes_of (drain_did (drain (max 1 (min (max 1 most) (length items))) items is_open
    seat) p s owner).act) ≤ min (max 1 most) (length items)
got_within most [] true seat p s owner = omega arith
got_within most [] false seat p s owner = omega arith
got_within most (x ∷ xs) is_open seat p s owner =
    let count = length-take (max 1 (min (max 1 most) (length (x ∷ xs)))) (x ∷ xs) in
    subst (λ n. n ≤ min (max 1 most) (length (x ∷ xs))) (sym count) (grind (arith, nat_tests))

receives : (met : Met (ℕ × Option JobNumber)) (p : OwnerMachine ℕ) (s : Session) (owner : Owner)
    → bytes_of (receive_did met p s owner).act ≡ []
receives met p s owner = grind arith

fills : (bytes : List ℕ) (met : Met (ℕ × Option JobNumber)) (p : OwnerMachine ℕ) (s : Session)
    (owner : Owner) → bytes_of (fill_did bytes met p s owner).act ≡ []
fills bytes met p s owner = grind arith

looks : (act : Act) → is_look act ≡ true → bytes_of act ≡ []
looks act is = grind arith

owner_carries : (owner : Owner) (done : Did) → did owner ≡ Some done
    → length (bytes_of done.act) ≤ bytes_in (next_of owner)
owner_carries owner done = grind (arith, did_holds, got_within, receives, none_more, fills, looks)

-- ---- what a job does

-- how many bytes it finds at most
abbrev front_of : List Owner → Core → ℕ
front_of owners (core.Call k call) = 0
front_of owners (core.Session h job) = front_at (slice_get owners h)

-- what a job of a call does carries nothing, and one of a session finds no more than is at the
-- front of its pipe
done_carries : (tasks : List Task) (owners : List Owner) (done : Done) (at : TurnStage) (c : Core)
    → rows.done at c tasks owners ≡ Some done → length (bytes_of done.act) ≤ front_of owners c
done_carries tasks owners done at (core.Call k call) is = by at (slice_get tasks k) is
  where
    runs : (next : Action) (task : Task) → call_done k call turn.Runs tasks owners (Some task)
        (call_step_by next call.number) ≡ Some done → length (bytes_of done.act) ≤ 0
    runs next task is = grind arith

    by : (at : TurnStage) (o : Option Task) → call_done k call at tasks owners o (call_step at call)
        ≡ Some done → length (bytes_of done.act) ≤ 0
    by at o is = grind arith
done_carries tasks owners done at (core.Session h job) is = by at (slice_get owners h) is
  where
    works : (owner : Owner) (did : Worked) → DoesSo job owner did
        → length (bytes_of did.act) ≤ front_in owner.session
    works owner did o = grind (arith, none_more, seen_at, carried_at)

    runs : (owner : Owner) (o : Option Worked) → worked job owner ≡ o
        → session_seen h job tasks owners owner (steps.Works job) (act_of_work o) ≡ Some done
        → length (bytes_of done.act) ≤ front_in owner.session
    runs owner None found is = absurd cc
    runs owner (Some did) found is = moved (λ (d : Done). length (bytes_of d.act)
        ≤ front_in owner.session) _ done is (works owner did (worked_so job owner did found))

    by : (at : TurnStage) (o : Option Owner)
        → session_done h job tasks owners o (session_step at job)
        ≡ Some done → length (bytes_of done.act) ≤ front_at o
    by at None is = absurd cc
    by turn.Runs (Some owner) is = runs owner (worked job owner) refl is
    by turn.MustGiveUp (Some owner) is = moved
        (λ (d : Done). length (bytes_of d.act) ≤ front_in owner.session) _ done is (omega arith)
    by turn.MustWake (Some owner) is = moved
        (λ (d : Done). length (bytes_of d.act) ≤ front_in owner.session) _ done is (omega arith)
    by _ (Some owner) is = absurd cc

front_row : (w : Parts) (done : Done) (c : Core) → length (bytes_of done.act) ≤ front_of w.owners c
    → length (bytes_of done.act) ≤ front_for w c
front_row w done c fits = grind arith

-- ---- each move

added_bare : (added : Result JobNumber Refusal) → bytes_of (added_act added) ≡ []
added_bare added = grind arith

parked_bare : (how : Parking) (s : ℕ) → bytes_of (parked_act how s) ≡ []
parked_bare how s = grind arith

act_bare : (act : Act) → is_bare act ≡ true → bytes_of act ≡ []
act_bare act is = grind arith

-- an event of this act, which carries nothing
bare_told : (act : Act) (e : Event) (n : ℕ) → e.act ≡ act → bytes_of act ≡ []
    → length (bytes_of e.act) ≤ n
bare_told act e n is bare = none_more (bytes_of e.act) n (ap bytes_of is ∙ bare)

carried_by : (plan : List Bool) (w : Parts) (move : Move) (e : Event) (new : Parts)
    → is_own_step move ≡ true → May w move → CrewMoves (IsPlanned plan) move w e new
    → length (bytes_of e.act) ≤ bytes_to_come w (step_of move)
carried_by plan w move e new own may does = grind (
  arith,
  said,
  owner_carries,
  bare_told,
  added_bare,
  by_call,
  front_row,
  done_carries,
  parked_bare,
  none_more,
  act_bare,
)

-- The event of a step carries no more bytes than were told before it.
pub carried : (plan : List Bool) (step : Step) (w : Parts) (e : Event) (new : Parts)
    → Moves (IsPlanned plan) step w e new → length (bytes_of e.act) ≤ bytes_to_come w step
carried plan step w e new m = subst (λ s. length (bytes_of e.act) ≤ bytes_to_come w s)
    (sym m.step_is) (carried_by plan w m.move e new m.its_own m.may m.crew)
