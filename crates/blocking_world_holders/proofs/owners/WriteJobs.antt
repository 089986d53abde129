-- How far the job of a writer is after each of its acts.
use Rattle.std.proofs.Common.{◌≡◌, ℕ, zero, suc, ◌≤◌, List, [], ◌∷◌, length, Bool, true, false}
use Rattle.std.proofs.Common.{refl, sym, ap, ◌∙◌, subst, arith, Option, None, if◌then◌else◌, nat_le}
use Rattle.std.proofs.lemmas.Bool.Decides.{nat_tests}
use Rattle.blocking_world_holders.proofs.Types.{JobFault, WriteAction, WriteAnswer, Act, Answered}
use Rattle.blocking_world_holders.proofs.Types.{HolderWoken, Peeked, HandleAnswer}
use Rattle.blocking_world_holders.proofs.Types.{Failed, Fine, Number}
use Rattle.blocking_world_holders.proofs.Words.{Machine, machine, WriteMachine, first_fault, noting}
use Rattle.blocking_world_holders.proofs.Words.{write_after, write_by, write_next, Writing}
use Rattle.blocking_world_holders.proofs.Words.{core_write_in as write_in, job_earlier, fault}
use Rattle.blocking_world_holders.proofs.Words.{fault_in, is_answer, next_but_wake, takes_waker}
use Rattle.blocking_world_holders.proofs.Words.{job_next_after_answer as next_after_answer}
use Rattle.blocking_world_holders.proofs.Words.{IsOffered, WriteProgress as Progress, WriteAs}
use Rattle.blocking_world_holders.proofs.Words.{write_action_as as action_as}
use Rattle.blocking_world_holders.proofs.Words.{write_action_of as action_of}
use Rattle.blocking_world_holders.proofs.Words.{write_fault_of as fault_of}
use Rattle.blocking_world_holders.proofs.Words.{write_progress_after_answer as progress_after_answer}
use Rattle.blocking_world_holders.proofs.Words.{progress_after_piece}
use Rattle.blocking_world_holders.proofs.Words.{write_progress_with as progress_with, told_as}
use Rattle.blocking_core.specs.Writes as core
use Rattle.blocking_world_holders.proofs.owners.Machines.{Does, Asks, called, next_on, fault_on}
use Rattle.blocking_world_holders.proofs.owners.Machines as machines

-- its machine, but for the fault
abbrev pub plain : WriteMachine ℕ → Machine WriteAction
plain core = machine core.next core.is_waking

-- what it does next, but for calling a waker
pub does : (p : Progress) (acts : List Act) → WriteAs p acts → {now : WriteAction}
    → write_next p.core ≡ now → (now ≡ WriteAction.Deliver → ⊥)
    → Does (action_as p.piece) Writing acts (plain p.core) now
does p acts r is other = machines.does (action_as p.piece) WriteAction.Deliver refl Writing acts
    (plain p.core) r.next r.waking is other

-- ---- what it leaves

-- a fault stays
kept_fault : (held : Option (JobFault ℕ)) → first_fault held None ≡ held
kept_fault held = grind arith

pub kept : (p : Progress) (acts : List Act) → WriteAs p acts
    → told_as (first_fault p.core.fault None) ≡ fault Writing acts
kept p acts r = ap told_as (kept_fault p.core.fault) ∙ r.fault_is

-- the first of two faults is told
told_first : (held later : Option (JobFault ℕ))
    → told_as (first_fault held later) ≡ job_earlier (told_as held) (told_as later)
told_first held later = grind arith

-- The job was answered so, and has this piece now: it goes on by its table.
pub meets : (p : Progress) {piece : List ℕ} {now : WriteAction} (acts : List Act)
    (next : WriteAction) (woke : Bool) (answer : WriteAnswer ℕ) (act : Act)
    → Does (action_as p.piece) Writing acts (plain p.core) now
    → write_by now answer ≡ machine next woke
    → action_as piece next ≡ next_but_wake Writing (act ∷ acts) → IsOffered next piece
    → woke ≡ takes_waker act
    → told_as (first_fault p.core.fault (core.fault_in now answer)) ≡ fault Writing (act ∷ acts)
    → WriteAs (record { core = write_after p.core answer; piece = piece }) (act ∷ acts)
meets p {piece} {now} acts next woke answer act d goes table offered took told =
    let after : write_after p.core answer
    ≡ noting (machine next woke) (first_fault p.core.fault (core.fault_in now answer)) =
    ap (λ m. write_after (noting m p.core.fault) answer) d.core_is
    ∙ ap (λ m. noting m (first_fault p.core.fault (core.fault_in now answer))) goes in
    subst (λ (core : WriteMachine ℕ). WriteAs (record { core = core; piece = piece }) (act ∷ acts))
    (sym after) (record { next = table; offered = offered; waking = took; fault_is = told })

-- it found this piece at the front of the pipe
pub meets_piece : (p : Progress) (acts : List Act) (piece : List ℕ) → WriteAs p acts
    → write_next p.core ≡ WriteAction.Peek → (piece ≡ [] → ⊥) → length piece ≤ 65536
    → WriteAs (progress_after_piece p piece) (Peeked piece ∷ acts)
meets_piece p acts [] r is some fits = absurd (some refl)
meets_piece p acts (b ∷ bs) r is some fits =
    let test : nat_le (length (b ∷ bs)) 65536 ≡ true = grind (arith, nat_tests) in
    meets p acts (WriteAction.Write (length (b ∷ bs))) false
    (WriteAnswer.Peeked (length (b ∷ bs))) (Peeked (b ∷ bs)) (does p acts r is (λ e. cc))
    (ap (λ t. machine (if t then WriteAction.Write (length (b ∷ bs)) else WriteAction.Peek) false)
    test) refl refl refl (kept p acts r)

-- the waker that it took is called
pub wakes : (p : Progress) (acts : List Act) → WriteAs p acts → write_next p.core
    ≡ WriteAction.Deliver → WriteAs (progress_with p WriteAnswer.Delivered) (HolderWoken ∷ acts)
wakes p acts r is =
    let told = λ (n : WriteAction).
    first_fault p.core.fault (core.fault_in n WriteAnswer.Delivered) in
    let after : write_after p.core WriteAnswer.Delivered
    ≡ noting (machine p.core.next false) (first_fault p.core.fault None) =
    ap (λ m. noting m (told (write_next p.core))) (called WriteAction.Deliver p.core.next
    p.core.is_waking (λ b a. write_in {E = ℕ} b a WriteAnswer.Delivered) (λ a. machine a false)
    (λ a. refl)
    refl is) ∙ ap (λ n. noting (machine p.core.next false) (told n)) is in
    subst (λ (core : WriteMachine ℕ). WriteAs (record p { core = core }) (HolderWoken ∷ acts))
    (sym after)
    (record { next = r.next; offered = r.offered; waking = refl; fault_is = kept p acts r })

-- ---- its writer answers

-- a job that asks its writer does this by its table
pub asks : (p : Progress) (acts : List Act) (answer : HandleAnswer) → WriteAs p acts
    → is_answer (action_of p) answer ≡ true
    → Asks (action_as p.piece) Writing acts (plain p.core) answer (write_next p.core)
asks p acts answer r is = machines.asks (action_as p.piece) WriteAction.Deliver refl Writing acts
    (plain p.core) r.next r.waking answer refl is

module _ (p : Progress) (acts : List Act) (r : WriteAs p acts) where
  -- what an answer leaves, by the table and by the fault that it tells
  answered_by : {now : WriteAction} (next : WriteAction) (told : WriteAnswer ℕ)
      (answer : HandleAnswer)
      → Does (action_as p.piece) Writing acts (plain p.core) now
      → write_by now told ≡ machine next false
      → action_as p.piece next ≡ next_after_answer (action_as p.piece now) answer
      → IsOffered next p.piece
      → told_as (core.fault_in now told) ≡ fault_in (action_as p.piece now) answer
      → WriteAs (progress_with p told) (Answered answer ∷ acts)
  answered_by {now} next told answer d goes on offered why =
      meets p acts next false told (Answered answer) d goes (on ∙ next_on d answer) offered refl
      (told_first p.core.fault (core.fault_in now told) ∙ ap (job_earlier (fault_of p.core)) why
      ∙ fault_on d answer (fault_of p.core) r.fault_is)

  by_action : (now : WriteAction) (answer : HandleAnswer)
      → Does (action_as p.piece) Writing acts (plain p.core) now
      → is_answer (action_as p.piece now) answer ≡ true
      → WriteAs (progress_after_answer p answer) (Answered answer ∷ acts)
  by_action (WriteAction.Write most) (Number zero) d fits =
      answered_by WriteAction.Flush (WriteAnswer.Took 0) (Number 0) d
      refl refl tt refl
  by_action (WriteAction.Write most) (Number (suc k)) d fits =
      let whole : most ≡ length p.piece =
      subst (λ n. IsOffered n p.piece) (ap (λ (m : Machine WriteAction). m.next) d.core_is)
      r.offered in
      answered_by (WriteAction.Consume (suc k)) (WriteAnswer.Took (suc k))
      (Number (suc k)) d
      (ap (λ t. machine (if t then WriteAction.Consume (suc k) else WriteAction.Write most) false)
      (ap (nat_le (suc k)) whole ∙ fits)) refl tt refl
  by_action (WriteAction.Write most) (Failed error) d fits =
      answered_by WriteAction.Flush (WriteAnswer.Failed error)
      (Failed error) d refl refl tt refl
  by_action (WriteAction.Write most) _ d fits = absurd (cc)
  by_action WriteAction.Flush Fine d fits = answered_by WriteAction.Close
      WriteAnswer.Flushed Fine d refl refl tt refl
  by_action WriteAction.Flush (Failed error) d fits = answered_by
      WriteAction.Close (WriteAnswer.Failed error) (Failed error) d refl refl tt refl
  by_action WriteAction.Flush _ d fits = absurd (cc)
  by_action _ answer d fits = absurd (cc)

-- The writer answered so, and the job goes on by its table.
pub answers : (p : Progress) (acts : List Act) (answer : HandleAnswer) → WriteAs p acts
    → is_answer (action_of p) answer ≡ true
    → WriteAs (progress_after_answer p answer) (Answered answer ∷ acts)
answers p acts answer r is =
    by_action p acts r (write_next p.core) answer (asks p acts answer r is).does is
