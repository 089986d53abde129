-- How far the job of an iterator is after each of its acts.
use Rattle.std.proofs.Common.{arith, ◌≡◌, ℕ, List, ◌∷◌, Bool, true, false, refl, sym, ap, ◌∙◌, None}
use Rattle.std.proofs.Common.{subst}
use Rattle.blocking_world_holders.proofs.Types.{ItemAction, ItemAnswer, Act, Answered, HolderWoken}
use Rattle.blocking_world_holders.proofs.Types.{HandleAnswer, Item, NoItem}
use Rattle.blocking_world_holders.proofs.Words.{item_after, item_by, core_item_in as item_in}
use Rattle.blocking_world_holders.proofs.Words.{item_next, Machine, machine, Streaming, fault}
use Rattle.blocking_world_holders.proofs.Words.{is_answer, next_but_wake, takes_waker, ItemAs}
use Rattle.blocking_world_holders.proofs.Words.{ItemProgress as Progress}
use Rattle.blocking_world_holders.proofs.Words.{item_action_as as action_as}
use Rattle.blocking_world_holders.proofs.Words.{item_action_of as action_of}
use Rattle.blocking_world_holders.proofs.Words.{item_progress_after_answer as progress_after_answer}
use Rattle.blocking_world_holders.proofs.Words.{item_progress_with as progress_with}
use Rattle.blocking_world_holders.proofs.owners.Machines.{Does, Asks, called, next_on, fault_on}
use Rattle.blocking_world_holders.proofs.owners.Machines as machines

-- what it does next, but for calling a waker
pub does : (p : Progress) (acts : List Act) → ItemAs p acts → {now : ItemAction}
    → item_next p.core ≡ now → (now ≡ ItemAction.Deliver → ⊥)
    → Does (action_as p.item) Streaming acts p.core now
does p acts r is other = machines.does (action_as p.item) ItemAction.Deliver refl Streaming acts
    p.core r.next r.waking is other

-- ---- what it leaves

-- The job was answered so, and has this item now: it goes on by its table.
pub meets : (p : Progress) {item : ℕ} {now : ItemAction} (acts : List Act) (later : ItemAction)
    (woke : Bool) (answer : ItemAnswer) (act : Act)
    → Does (action_as p.item) Streaming acts p.core now
    → item_by now answer ≡ machine later woke
    → action_as item later ≡ next_but_wake Streaming (act ∷ acts) → woke ≡ takes_waker act
    → fault Streaming (act ∷ acts) ≡ None
    → ItemAs (record { core = item_after p.core answer; item = item }) (act ∷ acts)
meets p {item} acts later woke answer act d goes table took sound =
    subst (λ (core : Machine ItemAction). ItemAs (record { core = core; item = item }) (act ∷ acts))
    (sym (ap (λ core. item_after core answer) d.core_is ∙ goes))
    (record { next = table; waking = took; fault_is = sound })

-- the waker that it took is called
pub wakes : (p : Progress) (acts : List Act) → ItemAs p acts → item_next p.core ≡ ItemAction.Deliver
    → ItemAs (progress_with p ItemAnswer.Delivered) (HolderWoken ∷ acts)
wakes p acts r is =
    subst (λ (core : Machine ItemAction). ItemAs (record p { core = core }) (HolderWoken ∷ acts))
    (sym (called ItemAction.Deliver p.core.next p.core.is_waking
    (λ b a. item_in b a ItemAnswer.Delivered) (λ a. machine a false) (λ a. refl) refl is))
    (record { next = r.next; waking = refl; fault_is = r.fault_is })

-- ---- its handle answers

-- what is asked for an item asks for one
fetches : (item : ℕ) (action : ItemAction) (answer : HandleAnswer)
    → is_answer (action_as item action) answer ≡ true → action ≡ ItemAction.Next
fetches item action answer is = grind arith

-- a job that asks its handle wants an item
pub asks : (p : Progress) (acts : List Act) (answer : HandleAnswer) → ItemAs p acts
    → is_answer (action_of p) answer ≡ true
    → Asks (action_as p.item) Streaming acts p.core answer ItemAction.Next
asks p acts answer r is =
    machines.asks (action_as p.item) ItemAction.Deliver refl Streaming acts p.core r.next r.waking
    answer (fetches p.item (item_next p.core) answer is) is

-- The handle answered so, and the job goes on by its table.
pub answers : (p : Progress) (acts : List Act) (answer : HandleAnswer) → ItemAs p acts
    → is_answer (action_of p) answer ≡ true
    → ItemAs (progress_after_answer p answer) (Answered answer ∷ acts)
answers p acts (Item x) r is =
    let d = (asks p acts (Item x) r is).does in
    meets p acts ItemAction.Send false ItemAnswer.Gave (Answered (Item x)) d refl
    (next_on d (Item x)) refl (sym (fault_on d (Item x) None (sym r.fault_is)))
answers p acts NoItem r is =
    let d = (asks p acts NoItem r is).does in
    meets p acts ItemAction.Close false ItemAnswer.Ended (Answered NoItem) d refl
    (next_on d NoItem) refl (sym (fault_on d NoItem None (sym r.fault_is)))
answers p acts answer r is = let q = asks p acts answer r is in absurd (let f = q.fits in cc)
