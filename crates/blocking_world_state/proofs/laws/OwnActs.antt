-- What a job does that is its own to do: what is seen of it, and that it stays the job of its
-- owner.
use Rattle.std.proofs.Common.{◌≡◌, ⊎_elim, ℕ, List, Bool, true, false, refl, sym, ap, ◌∙◌, Option}
use Rattle.std.proofs.Common.{Some, None, ◌&&◌, not, slice_get, arith}
use Rattle.blocking_world_state.proofs.Types.{Action, Act, TurnStage, SessionJob, Core}
use Rattle.blocking_world_state.proofs.Words.{is_of_pool, is_nothing, is_answered, OwnerStep}
use Rattle.blocking_world_state.proofs.Words.{act_of_work, Owner, Worked, worked, TaskStep, Task}
use Rattle.blocking_world_state.proofs.Words.{owner_in, call_step_by, call_step, session_step, Done}
use Rattle.blocking_world_state.proofs.Words.{call_done, session_seen, session_done, done}
use Rattle.blocking_world_pool.specs.declared.hand.TurnStage.TheVariants as stage
use Rattle.blocking_world_holders.specs.OwnerSteps as owners
use Rattle.blocking_world_state.specs.declared.row.Core.TheVariants as core
use Rattle.blocking_world_state.proofs.moves.SessionActs.{is_own, own_at, worked_so}

-- ---- what is seen of it

-- whether that is so of an act if there is one, and of what a job does next
abbrev is_own_if : Option Act → Bool
is_own_if None = true
is_own_if (Some act) = is_own act

abbrev is_own_done : Option Done → Bool
is_own_done None = true
is_own_done (Some did) = is_own did.act

works : (job : SessionJob) (owner : Owner) → is_own_if (act_of_work (worked job owner)) ≡ true
works job owner = by (worked job owner) refl
  where
    by : (o : Option Worked) → worked job owner ≡ o → is_own_if (act_of_work o) ≡ true
    by None is = refl
    by (Some done) is = ⊎_elim (λ wakes. ap is_own wakes.0)
        (λ at. ap is_own at.act_is ∙ own_at at.act) (worked_so job owner done is)

does : (at : TurnStage) (c : Core) (all : List Task) (row : List Owner)
    → is_own_done (done at c all row) ≡ true
does at (core.Call k call) all row = by at (slice_get all k)
  where
    runs : (next : Action) (task : Task) → is_own_done
        (call_done k call stage.Runs all row (Some task) (call_step_by next call.number)) ≡ true
    runs next task = grind arith

    by : (at : TurnStage) (o : Option Task)
        → is_own_done (call_done k call at all row o (call_step at call)) ≡ true
    by at o = grind arith
does at (core.Session h p) all row = by at (slice_get row h)
  where
    seen : (owner : Owner) (act : Option Act) → is_own_if act ≡ true
        → is_own_done (session_seen h p all row owner (owners.Works p) act) ≡ true
    seen owner act is = grind arith

    by : (at : TurnStage) (o : Option Owner)
        → is_own_done (session_done h p all row o (session_step at p)) ≡ true
    by at None = refl
    by stage.Runs (Some owner) = seen owner (act_of_work (worked p owner)) (works p owner)
    by _ (Some owner) = refl

-- An act of a job's own: something is done that neither the pool decides nor anyone answers.
pub record IsOwn (act : Act) : Type 0 where
  pub pool : is_of_pool act ≡ false
  pub nothing : is_nothing act ≡ false
  pub unasked : is_answered act ≡ false

pub own_act : (at : TurnStage) (c : Core) (all : List Task) (row : List Owner) (did : Done)
    → done at c all row ≡ Some did → IsOwn did.act
own_act at c all row did is =
    let each = by (is_of_pool did.act) (is_nothing did.act) (is_answered did.act)
    (sym (ap is_own_done is) ∙ does at c all row) in
    record { pool = each.0; nothing = each.1; unasked = each.2 }
  where
    by : (a b c : Bool) → (not a && not b && not c) ≡ true → (a ≡ false) × (b ≡ false) × (c ≡ false)
    by a b c is = grind arith

-- ---- whose job it is

-- the owner of the job after what it does, if it does something
abbrev owner_left : Core → Option Done → Option ℕ
owner_left c None = owner_in c
owner_left c (Some did) = owner_in did.core

stays : (at : TurnStage) (c : Core) (all : List Task) (row : List Owner)
    → owner_left c (done at c all row) ≡ owner_in c
stays at (core.Call k call) all row = by (slice_get all k) (call_step at call)
  where
    by : (o : Option Task) (step : Option TaskStep)
        → owner_left (core.Call k call) (call_done k call at all row o step) ≡ None
    by o step = grind arith
stays at (core.Session h p) all row = by (slice_get row h) (session_step at p)
  where
    seen : (owner : Owner) (step : OwnerStep) (act : Option Act)
        → owner_left (core.Session h p) (session_seen h p all row owner step act) ≡ Some h
    seen owner step act = grind arith

    by : (o : Option Owner) (step : Option OwnerStep)
        → owner_left (core.Session h p) (session_done h p all row o step) ≡ Some h
    by o step = grind arith

-- A job that does something stays its owner's.
pub same_owner : (at : TurnStage) (c : Core) (all : List Task) (row : List Owner) (did : Done)
    → done at c all row ≡ Some did → owner_in did.core ≡ owner_in c
same_owner at c all row did is = sym (ap (owner_left c) is) ∙ stays at c all row
