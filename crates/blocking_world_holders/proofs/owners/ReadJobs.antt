-- How far the job of a reader is after each of its acts.
use Rattle.std.proofs.Common.{◌≡◌, ℕ, List, [], ◌∷◌, length, Bool, true, false, refl, sym, ap, ◌∙◌}
use Rattle.std.proofs.Common.{Option, if◌then◌else◌, nat_le, subst}
use Rattle.blocking_world_holders.proofs.Types.{Fault, ReadAction, ReadAnswer, Act, Answered}
use Rattle.blocking_world_holders.proofs.Types.{HolderWoken, HandleAnswer, Failed, Gave}
use Rattle.blocking_world_holders.proofs.Words.{Machine, machine, read_after, read_by, read_next}
use Rattle.blocking_world_holders.proofs.Words.{core_read_in as read_in, AskBytes, Reading, fault}
use Rattle.blocking_world_holders.proofs.Words.{is_answer, next_but_wake}
use Rattle.blocking_world_holders.proofs.Words.{job_next_after_answer as next_after_answer}
use Rattle.blocking_world_holders.proofs.Words.{takes_waker, ReadProgress as Progress, ReadAs}
use Rattle.blocking_world_holders.proofs.Words.{read_action_as as action_as}
use Rattle.blocking_world_holders.proofs.Words.{read_action_of as action_of}
use Rattle.blocking_world_holders.proofs.Words.{read_progress_after_answer as progress_after_answer}
use Rattle.blocking_world_holders.proofs.Words.{read_progress_with as progress_with}
use Rattle.blocking_world_holders.proofs.owners.Machines.{Does, Asks, called, no_fault, next_on}
use Rattle.blocking_world_holders.proofs.owners.Machines.{fault_on}
use Rattle.blocking_world_holders.proofs.owners.Machines as machines

-- what it does next, but for calling a waker
pub does : (p : Progress) (acts : List Act) → ReadAs p acts → {now : ReadAction}
    → read_next p.core ≡ now → (now ≡ ReadAction.Deliver → ⊥)
    → Does (action_as p.piece) Reading acts p.core now
does p acts r is other = machines.does (action_as p.piece) ReadAction.Deliver refl Reading acts
    p.core r.next r.waking is other

-- ---- what it leaves

-- The job was answered so, has these bytes now, and met this fault: it goes on by its table.
pub meets : (p : Progress) {piece : List ℕ} {why : Option (Fault ℕ)} {now : ReadAction}
    (acts : List Act) (next : ReadAction) (woke : Bool) (answer : ReadAnswer) (act : Act)
    → Does (action_as p.piece) Reading acts p.core now → read_by now answer ≡ machine next woke
    → action_as piece next ≡ next_but_wake Reading (act ∷ acts) → woke ≡ takes_waker act
    → why ≡ fault Reading (act ∷ acts)
    → ReadAs (record { core = read_after p.core answer; piece = piece; fault = why }) (act ∷ acts)
meets p {piece} {why} acts next woke answer act d goes table took same =
    subst
    (λ (core : Machine ReadAction). ReadAs (record { core = core; piece = piece; fault = why })
    (act ∷ acts)) (sym (ap (λ core. read_after core answer) d.core_is ∙ goes))
    (record { next = table; waking = took; fault_is = same })

-- the waker that it took is called
pub wakes : (p : Progress) (acts : List Act) → ReadAs p acts → read_next p.core ≡ ReadAction.Deliver
    → ReadAs (progress_with p ReadAnswer.Delivered) (HolderWoken ∷ acts)
wakes p acts r is =
    subst (λ (core : Machine ReadAction). ReadAs (record p { core = core }) (HolderWoken ∷ acts))
    (sym (called ReadAction.Deliver p.core.next p.core.is_waking
    (λ b a. read_in b a ReadAnswer.Delivered) (λ a. machine a false) (λ a. refl) refl is))
    (record { next = r.next; waking = refl; fault_is = r.fault_is })

-- ---- its reader answers

-- what the machine makes of bytes that are no more than it asked for
gift_next : (most : ℕ) (bytes : List ℕ) → nat_le (length bytes) most ≡ true
    → (next : ReadAction)
    × (read_by (ReadAction.Read most) (ReadAnswer.Gave (length bytes)) ≡ machine next false)
    × (action_as bytes next ≡ next_after_answer (AskBytes most) (Gave bytes))
gift_next most [] fits = (ReadAction.Close, refl, refl)
gift_next most (b ∷ bs) fits = (
  ReadAction.Put (length (b ∷ bs)),
  ap (λ t. machine
      (if t then ReadAction.Put (length (b ∷ bs)) else ReadAction.Read most) false) fits,
  refl,
)

-- what is asked for bytes is a read
reads : (piece : List ℕ) (action : ReadAction) (answer : HandleAnswer)
    → is_answer (action_as piece action) answer ≡ true
    → (most : ℕ) × (action ≡ ReadAction.Read most)
reads piece (ReadAction.Read most) answer is = (most, refl)
reads piece _ answer is = absurd (cc)

-- a job that asks its reader wants at most so many bytes
pub asks : (p : Progress) (acts : List Act) (answer : HandleAnswer) → ReadAs p acts
    → is_answer (action_of p) answer ≡ true
    → (most : ℕ) × Asks (action_as p.piece) Reading acts p.core answer (ReadAction.Read most)
asks p acts answer r is =
    let found = reads p.piece (read_next p.core) answer is in (
      found.0,
      machines.asks (action_as p.piece) ReadAction.Deliver refl Reading acts p.core r.next r.waking
          answer found.1 is,
    )

-- The reader answered so, and the job goes on by its table.
pub answers : (p : Progress) (acts : List Act) (answer : HandleAnswer) → ReadAs p acts
    → is_answer (action_of p) answer ≡ true
    → ReadAs (progress_after_answer p answer) (Answered answer ∷ acts)
answers p acts (Gave bytes) r is =
    let q = asks p acts (Gave bytes) r is in
    let g = gift_next q.0 bytes q.1.fits in
    meets p acts g.0 false (ReadAnswer.Gave (length bytes))
    (Answered (Gave bytes)) q.1.does g.1 (g.2 ∙ next_on q.1.does (Gave bytes)) refl
    (no_fault p.fault ∙ fault_on q.1.does (Gave bytes) p.fault r.fault_is)
answers p acts (Failed error) r is =
    let q = asks p acts (Failed error) r is in
    meets p acts ReadAction.Close false ReadAnswer.Failed
    (Answered (Failed error)) q.1.does refl (next_on q.1.does (Failed error)) refl
    (fault_on q.1.does (Failed error) p.fault r.fault_is)
answers p acts answer r is = let q = asks p acts answer r is in absurd (let f = q.1.fits in cc)
