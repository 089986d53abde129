-- What the acts of any poll are shown with: an owner by its parts, that it keeps its law and its
-- tie, and what the machine of a poll does.
use Rattle.std.proofs.Common.{◌≡◌, ℕ, suc, zero, ◌<◌, List, ◌∷◌, Bool, true, false, refl, sym, ap}
use Rattle.std.proofs.Common.{◌∙◌, subst, arith, Option, Some, None, ◌≤◌, nat_le, is_some}
use Rattle.std.proofs.Common.{if◌then◌else◌}
use Rattle.std.proofs.lemmas.Bool.Decides.{nat_tests}
use Rattle.blocking_world_holders.proofs.Types.{Fault, OwnerAction, OwnerAnswer, Reply, State, Act}
use Rattle.blocking_world_holders.proofs.Types.{Event, HandleCall, OwnerStage, PollEnd}
use Rattle.blocking_world_holders.proofs.Words.{wake_first, OwnerMachine, owner_after, owner_by}
use Rattle.blocking_world_holders.proofs.Words.{owner_in, owner_next, JobNumber, EndsTruly}
use Rattle.blocking_world_holders.proofs.Words.{came_back, JobAction, Kind, Over, is_over}
use Rattle.blocking_world_holders.proofs.Words.{OwnerMayAct, deliver_first, next_of_owner}
use Rattle.blocking_world_holders.proofs.Words.{owner_next_but_wake, is_some_worker, own, SeenState}
use Rattle.blocking_world_holders.proofs.Words.{FitsNext, GoneBy, IsOperating, OperatesBy, OwnerAs}
use Rattle.blocking_world_holders.proofs.Words.{PollAs, StageBy, action_as, called_at, seat_of}
use Rattle.blocking_world_holders.proofs.Words.{Owner, capacity_of, goes_on, last_item, note_at}
use Rattle.blocking_world_holders.proofs.Words.{Session, serial_of}
use Rattle.blocking_world_holders.proofs.Clashes.{nothing}
use Rattle.blocking_core.specs.OwnerCalls as machine
use Rattle.blocking_world_laws.specs.OwnerTable as law
use Rattle.blocking_world_holders.proofs.owners.Cuts.{next_with}

-- an owner by its parts
abbrev pub owner_by_parts : ℕ → ℕ → Option HandleCall → OwnerStage → Option Session → Owner
owner_by_parts bytes client asked here last =
    record { capacity = bytes; client = client; asked = asked; stage = here; session = last }

-- how much the pipes of its sessions hold, by their kind
abbrev pub bound : ℕ → Kind → ℕ
bound bytes kind = capacity_of
    (owner_by_parts bytes 0 None (OwnerStage.Rests State.Idle PollEnd.Replied) None) kind

-- An event keeps the law of its owner but for what passed, and leaves the owner tied.
pub record Goes (new : Owner) (cut : List Event) (e : Event) : Type 0 where
  pub acts : OwnerMayAct (is_some_worker e.party) cut e
  pub ends : EndsTruly cut e.act
  pub tie : OwnerAs new (e ∷ cut)

-- the value that is there, or another one
abbrev pub value_of : {A : Type 0} → A → Option A → A
value_of other None = other
value_of other (Some value) = value

-- a value that is there has what holds of it
pub moved : {A : Type 0} (P : A → Type 0) (x y : A) → Some x ≡ Some y → P x → P y
moved P x y e so = subst P (ap (value_of y) e) so

-- ---- the machine of a poll

-- an answer to what a poll does next, where it has no note to deliver
pub turned : (p : OwnerMachine ℕ) (next : OwnerAction ℕ) (answer : OwnerAnswer ℕ)
    → p.is_waking ≡ false → p.next ≡ next → owner_after p answer ≡ owner_by next answer p
turned p next answer waking is =
    ap (λ b. owner_in b answer p) waking ∙ ap (λ n. owner_by n answer p) is

-- what it does next
pub doing : (p : OwnerMachine ℕ) → p.is_waking ≡ false → owner_next p ≡ p.next
doing p waking = ap (λ b. wake_first b OwnerAction.Deliver p.next) waking

-- a poll that goes on, first by a note that it took
pub goes_on_so : (q : OwnerMachine ℕ) (note : Option JobNumber) (x : ℕ) (asked : Option HandleCall)
    (at : SeenState) (next : law.OwnerAction) (ended : Bool) (back : Option (List Event))
    → PollAs q x asked at next ended back → q.is_waking ≡ is_some note
    → StageBy (goes_on q note) x asked at next ended back (serial_of note)
goes_on_so q None x asked at next ended back p waking = (p, waking, refl)
goes_on_so q (Some number) x asked at next ended back p waking = (p, waking, refl)

pub still_there : (q : OwnerMachine ℕ) (note : Option JobNumber) (asked : Option HandleCall)
    (acts : List Act) → GoneBy (OwnerStage.Polls q) asked acts → GoneBy (goes_on q note) asked acts
still_there q None asked acts g = g
still_there q (Some number) asked acts g = g

pub still_called : (q : OwnerMachine ℕ) (note : Option JobNumber) (asked : Option HandleCall)
    → asked ≡ called_at (goes_on q note) asked
still_called q taken asked = grind arith

-- what its poll does next is what the law says, and fits
pub lawful : (bytes client : ℕ) (asked : Option HandleCall) (p : OwnerMachine ℕ) (cut : List Event)
    (last : Option Session) (next : OwnerAction ℕ)
    → (t : OwnerAs (owner_by_parts bytes client asked (OwnerStage.Polls p) last) cut)
    → p.next ≡ next → next_of_owner cut ≡ action_as (last_item last) t.stage.0.call next
lawful bytes client asked p cut last next t is =
    next_with cut ∙ ap (λ n. deliver_first n (owner_next_but_wake cut (own cut))) t.stage.2
    ∙ t.stage.0.next_is ∙ ap (action_as (last_item last) t.stage.0.call) is

pub fits_at : (bytes client : ℕ) (asked : Option HandleCall) (p : OwnerMachine ℕ) (cut : List Event)
    (last : Option Session) (next : OwnerAction ℕ)
    → (t : OwnerAs (owner_by_parts bytes client asked (OwnerStage.Polls p) last) cut)
    → p.next ≡ next → FitsNext t.stage.0.call p next (law.is_at_end (own cut)) (came_back cut)
fits_at bytes client asked p cut last next t is = subst
    (λ n. FitsNext t.stage.0.call p n (law.is_at_end (own cut)) (came_back cut)) is t.stage.0.fits

-- a poll that goes on, first by a note that it took, is where it is in its operations
pub operating_so : (q : OwnerMachine ℕ) (note : Option JobNumber)
    (waits operates begun found : Bool) → IsOperating q.next operates begun found
    → OperatesBy (goes_on q note) waits operates begun found
operating_so q None waits operates begun found is = is
operating_so q (Some number) waits operates begun found is = is

-- the note that it took is of the job in the seat
pub noted_so : (q : OwnerMachine ℕ) (note : Option JobNumber) (sits : Bool) (seated : JobNumber)
    → note ≡ seat_of sits seated → (number : JobNumber) → note_at (goes_on q note) ≡ Some number
    → Some seated ≡ Some number
noted_so q None sits seated e number is = absurd (nothing is)
noted_so q (Some note) true seated e number is = sym e ∙ is
noted_so q (Some note) false seated e number is = absurd (cc)

-- a reply that isn't that all is done leaves the handle where it is
pub failed_fits : (c : HandleCall) (p : OwnerMachine ℕ) (why : Fault ℕ) (ended : Bool)
    (back : Option (List Event)) → FitsNext c p (OwnerAction.Reply (Reply.Failed why)) ended back
failed_fits (HandleCall.Read zero) p why ended back = (refl, tt, tt)
failed_fits (HandleCall.Read (suc n)) p why ended back = (refl, tt, tt)
failed_fits _ p why ended back = (refl, tt, tt)

pub some_fits :
    (c : HandleCall) (p : OwnerMachine ℕ) (count : ℕ) (ended : Bool) (back : Option (List Event))
    → 0 < count → FitsNext c p (OwnerAction.Reply (Reply.Count count)) ended back
some_fits c p zero ended back some = absurd (omega arith)
some_fits (HandleCall.Read zero) p (suc count) ended back some = (refl, tt, tt)
some_fits (HandleCall.Read (suc n)) p (suc count) ended back some = (refl, tt, tt)
some_fits _ p (suc count) ended back some = (refl, tt, tt)

-- some bytes that came out or went in are told
pub got_machine : (p : OwnerMachine ℕ) (most count : ℕ) (noted : Bool) → 0 < count → count ≤ most
    → machine.after_got most count noted p
    ≡ record p { next = OwnerAction.Reply (Reply.Count count); is_waking = noted }
got_machine p most zero noted some fits = absurd (omega arith)
got_machine p most (suc count) noted some fits =
    let test : nat_le (suc count) most ≡ true = grind (arith, nat_tests) in
    ap (λ b. if b then record p {
      next = OwnerAction.Reply (Reply.Count (suc count));
      is_waking = noted;
    } else p) test

pub last_is : (a : JobAction) → is_over a ≡ true → a ≡ Over
last_is a e = grind arith
