-- How far the job of an operation is after each of its acts.
use Rattle.std.proofs.Common.{arith, ◌≡◌, ℕ, List, ◌∷◌, Bool, true, false, refl, sym, ap, ◌∙◌, None}
use Rattle.std.proofs.Common.{subst}
use Rattle.blocking_world_holders.proofs.Types.{OpAction, OpAnswer, Act, Answered, HolderWoken}
use Rattle.blocking_world_holders.proofs.Types.{HandleAnswer, Number}
use Rattle.blocking_world_holders.proofs.Words.{Machine, machine, op_after, op_by}
use Rattle.blocking_world_holders.proofs.Words.{core_op_in as op_in, op_next, Operating, fault}
use Rattle.blocking_world_holders.proofs.Words.{is_answer, next_but_wake, number, takes_waker}
use Rattle.blocking_world_holders.proofs.Words.{OperationAs, OpProgress as Progress}
use Rattle.blocking_world_holders.proofs.Words.{op_action_as as action_as}
use Rattle.blocking_world_holders.proofs.Words.{op_action_of as action_of}
use Rattle.blocking_world_holders.proofs.Words.{op_progress_after_answer as progress_after_answer}
use Rattle.blocking_world_holders.proofs.Words.{op_progress_with as progress_with}
use Rattle.blocking_world_holders.proofs.owners.Machines.{Does, Asks, called, next_on, fault_on}
use Rattle.blocking_world_holders.proofs.owners.Machines as machines

-- what it does next, but for calling a waker
pub does : (p : Progress) (acts : List Act) → OperationAs p acts → {now : OpAction}
    → op_next p.core ≡ now → (now ≡ OpAction.Deliver → ⊥)
    → Does action_as Operating acts p.core now
does p acts r is other =
    machines.does action_as OpAction.Deliver refl Operating acts p.core r.next r.waking is other

-- ---- what it leaves

-- The job was answered so, and has this number now: it goes on by its table.
pub meets : (p : Progress) {n : ℕ} {now : OpAction} (acts : List Act) (next : OpAction)
    (woke : Bool) (answer : OpAnswer) (act : Act) → Does action_as Operating acts p.core now
    → op_by now answer ≡ machine next woke
    → action_as next ≡ next_but_wake Operating (act ∷ acts) → woke ≡ takes_waker act
    → fault Operating (act ∷ acts) ≡ None → n ≡ number (act ∷ acts)
    → OperationAs (record { core = op_after p.core answer; number = n }) (act ∷ acts)
meets p {n} acts next woke answer act d goes table took sound counted =
    subst (λ (core : Machine OpAction).
    OperationAs (record { core = core; number = n }) (act ∷ acts))
    (sym (ap (λ core. op_after core answer) d.core_is ∙ goes))
    (record { next = table; waking = took; fault_is = sound; number_is = counted })

-- the waker that it took is called
pub wakes : (p : Progress) (acts : List Act) → OperationAs p acts → op_next p.core
    ≡ OpAction.Deliver → OperationAs (progress_with p OpAnswer.Delivered) (HolderWoken ∷ acts)
wakes p acts r is =
    subst (λ (core : Machine OpAction). OperationAs (record p { core = core }) (HolderWoken ∷ acts))
    (sym (called OpAction.Deliver p.core.next p.core.is_waking
    (λ b a. op_in b a OpAnswer.Delivered) (λ a. machine a false) (λ a. refl) refl is))
    (record { next = r.next; waking = refl; fault_is = r.fault_is; number_is = r.number_is })

-- ---- its operation answers

-- who is answered runs its operation
runs : (action : OpAction) (answer : HandleAnswer) → is_answer (action_as action) answer ≡ true
    → action ≡ OpAction.Call
runs action answer is = grind arith

-- a job that is to be answered runs its operation
pub asks : (p : Progress) (acts : List Act) (answer : HandleAnswer) → OperationAs p acts
    → is_answer (action_of p) answer ≡ true
    → Asks action_as Operating acts p.core answer OpAction.Call
asks p acts answer r is =
    machines.asks action_as OpAction.Deliver refl Operating acts p.core r.next r.waking
    answer (runs (op_next p.core) answer is) is

-- The operation answered so, and the job goes on by its table.
pub answers : (p : Progress) (acts : List Act) (answer : HandleAnswer) → OperationAs p acts
    → is_answer (action_of p) answer ≡ true
    → OperationAs (progress_after_answer p answer) (Answered answer ∷ acts)
answers p acts (Number n) r is =
    let d = (asks p acts (Number n) r is).does in
    meets p acts OpAction.PutResult false OpAnswer.Returned (Answered (Number n)) d
    refl (next_on d (Number n)) refl (sym (fault_on d (Number n) None (sym r.fault_is))) refl
answers p acts answer r is = let q = asks p acts answer r is in absurd (let f = q.fits in cc)
