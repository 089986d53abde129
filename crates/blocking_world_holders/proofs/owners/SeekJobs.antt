-- How far the job of a seek is after each of its acts.
use Rattle.std.proofs.Common.{arith, ◌≡◌, ℕ, List, ◌∷◌, Bool, true, false, refl, sym, ap, ◌∙◌}
use Rattle.std.proofs.Common.{Option, subst}
use Rattle.blocking_world_holders.proofs.Types.{Fault, SeekAction, SeekAnswer, Act, Answered}
use Rattle.blocking_world_holders.proofs.Types.{HolderWoken, HandleAnswer, Failed, Number}
use Rattle.blocking_world_holders.proofs.Words.{Machine, machine, seek_after, seek_by, seek_next}
use Rattle.blocking_world_holders.proofs.Words.{core_seek_in as seek_in, Seeking, fault, is_answer}
use Rattle.blocking_world_holders.proofs.Words.{next_but_wake, number, takes_waker, SeekAs}
use Rattle.blocking_world_holders.proofs.Words.{SeekProgress as Progress}
use Rattle.blocking_world_holders.proofs.Words.{seek_action_as as action_as}
use Rattle.blocking_world_holders.proofs.Words.{seek_action_of as action_of}
use Rattle.blocking_world_holders.proofs.Words.{seek_progress_after_answer as progress_after_answer}
use Rattle.blocking_world_holders.proofs.Words.{seek_progress_with as progress_with}
use Rattle.blocking_world_holders.proofs.owners.Machines.{Does, Asks, called, no_fault, next_on}
use Rattle.blocking_world_holders.proofs.owners.Machines.{fault_on}
use Rattle.blocking_world_holders.proofs.owners.Machines as machines

-- what it does next, but for calling a waker
pub does : (p : Progress) (acts : List Act) → SeekAs p acts → {now : SeekAction}
    → seek_next p.core ≡ now → (now ≡ SeekAction.Deliver → ⊥)
    → Does action_as (Seeking p.goal) acts p.core now
does p acts r is other = machines.does action_as SeekAction.Deliver refl (Seeking p.goal) acts
    p.core r.next r.waking is other

-- ---- what it leaves

-- The job was answered so, its handle is there now, and it met this fault: it goes on by its table.
pub meets : (p : Progress) {place : ℕ} {why : Option (Fault ℕ)} {now : SeekAction}
    (acts : List Act) (next : SeekAction) (woke : Bool) (answer : SeekAnswer) (act : Act)
    → Does action_as (Seeking p.goal) acts p.core now → seek_by now answer ≡ machine next woke
    → action_as next ≡ next_but_wake (Seeking p.goal) (act ∷ acts) → woke ≡ takes_waker act
    → why ≡ fault (Seeking p.goal) (act ∷ acts) → place ≡ number (act ∷ acts)
    → SeekAs (record {
      core = seek_after p.core answer;
      goal = p.goal;
      place = place;
      fault = why;
    }) (act ∷ acts)
meets p {place} {why} acts next woke answer act d goes table took same counted =
    subst (λ (core : Machine SeekAction). SeekAs
    (record { core = core; goal = p.goal; place = place; fault = why }) (act ∷ acts))
    (sym (ap (λ core. seek_after core answer) d.core_is ∙ goes))
    (record { next = table; waking = took; fault_is = same; place_is = counted })

-- the waker that it took is called
pub wakes : (p : Progress) (acts : List Act) → SeekAs p acts → seek_next p.core ≡ SeekAction.Deliver
    → SeekAs (progress_with p SeekAnswer.Delivered) (HolderWoken ∷ acts)
wakes p acts r is =
    subst (λ (core : Machine SeekAction). SeekAs (record p { core = core }) (HolderWoken ∷ acts))
    (sym (called SeekAction.Deliver p.core.next p.core.is_waking
    (λ b a. seek_in b a SeekAnswer.Delivered) (λ a. machine a false) (λ a. refl) refl is))
    (record { next = r.next; waking = refl; fault_is = r.fault_is; place_is = r.place_is })

-- ---- its handle answers

-- who is answered seeks
seeks : (action : SeekAction) (answer : HandleAnswer) → is_answer (action_as action) answer ≡ true
    → action ≡ SeekAction.Seek
seeks action answer is = grind arith

-- a job that asks its handle seeks
pub asks : (p : Progress) (acts : List Act) (answer : HandleAnswer) → SeekAs p acts
    → is_answer (action_of p) answer ≡ true
    → Asks action_as (Seeking p.goal) acts p.core answer SeekAction.Seek
asks p acts answer r is =
    machines.asks action_as SeekAction.Deliver refl (Seeking p.goal) acts p.core r.next r.waking
    answer (seeks (seek_next p.core) answer is) is

-- The handle answered so, and the job goes on by its table.
pub answers : (p : Progress) (acts : List Act) (answer : HandleAnswer) → SeekAs p acts
    → is_answer (action_of p) answer ≡ true
    → SeekAs (progress_after_answer p answer) (Answered answer ∷ acts)
answers p acts (Number place) r is =
    let d = (asks p acts (Number place) r is).does in
    meets p acts SeekAction.Finish false SeekAnswer.Sought (Answered (Number place))
    d refl (next_on d (Number place)) refl
    (no_fault p.fault ∙ fault_on d (Number place) p.fault r.fault_is) refl
answers p acts (Failed error) r is =
    let d = (asks p acts (Failed error) r is).does in
    meets p acts SeekAction.Finish false SeekAnswer.Failed (Answered (Failed error))
    d refl (next_on d (Failed error)) refl (fault_on d (Failed error) p.fault r.fault_is) r.place_is
answers p acts answer r is = let q = asks p acts answer r is in absurd (let f = q.fits in cc)
