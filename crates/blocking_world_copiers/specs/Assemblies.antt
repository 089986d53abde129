-- The parts of a world with its copiers, and what each step does to them.
use Rattle.std.specs.Prelude.{◌≡◌, ℕ, ◌+◌, ◌&&◌, ◌==◌, nat_lt, not, Bool, true, false, List, []}
use Rattle.std.specs.Prelude.{◌∷◌, length, slice_get, refl, Option, Some, None}
use Rattle.std.specs.Coded.{Coded, code_by, coded×, coded_list, coded_ℕ}
use Rattle.blocking_world_pool.specs.Moves.{NeverAsked}
use Rattle.blocking_world_laws.specs.declared.event.Act.{Act}
use Rattle.blocking_world_laws.specs.declared.event.Act.TheVariants.{Asked, Linked, Copied}
use Rattle.blocking_world_laws.specs.declared.event.Act.TheVariants.{CopyFailed, NoAction}
use Rattle.blocking_world_laws.specs.declared.event.Event.{Event}
use Rattle.blocking_world_laws.specs.declared.event.Party.{Party}
use Rattle.blocking_world_laws.specs.declared.event.Party.TheVariants.{Owner as ByOwner, Pool}
use Rattle.blocking_world_laws.specs.declared.step.HandleCall.{HandleCall}
use Rattle.blocking_world_laws.specs.declared.step.HandleCall.TheVariants.{Read}
use Rattle.blocking_world_laws.specs.declared.step.Step.{Step}
use Rattle.blocking_world_laws.specs.declared.step.Step.TheVariants.{Ask, Own, DropOwner, Link}
use Rattle.blocking_world_laws.specs.declared.step.Step.TheVariants.{Copy}
use Rattle.blocking_world_state.specs.Carried.{bytes_to_come as bytes_of_parts}
use Rattle.blocking_world_state.specs.Moves.{CopierMoves, Steps, may_ask_in, rests_in}
use Rattle.blocking_world_state.specs.Parts.{Parts, parts_code}
use Rattle.blocking_world_copiers.specs.Copiers.{CopierState, new_copier, next_of, next_bytes}
use Rattle.blocking_world_copiers.specs.Copiers.{copier_at, is_lent, hear_first, without_number}
use Rattle.blocking_world_copiers.specs.contracts.copier.Copier.{the_row as rows}
use Rattle.blocking_world_copiers.specs.declared.copier.CopierNext.{CopierNext}
use Rattle.blocking_world_copiers.specs.declared.copier.CopierNext.TheVariants as next

-- The parts of a world, the copiers that have told no end, the newest first, and how many were
-- made.
pub record Assembled : Type 0 where
  pub parts : Parts
  pub copiers : List CopierState
  pub made : ℕ

abbrev pub assembly_code : Coded Assembled
assembly_code =
    code_by (Parts × (List CopierState × ℕ)) (coded× parts_code
    (coded× (coded_list rows.coded) coded_ℕ)) (λ w. (w.parts, (w.copiers, w.made)))
    (λ parts. record { parts = parts.0; copiers = parts.1.0; made = parts.1.1 }) (λ _. refl)

-- ---- which steps have an action

-- whether owner h may be lent to a copier
abbrev pub may_lend_in : Assembled → ℕ → Bool
may_lend_in w h = may_ask_in (slice_get w.parts.owners h) (Read 0) && not (is_lent h w.copiers)

-- whether a copier may be made that reads a, writes b and reads at most n bytes at once
abbrev pub may_link_in : Assembled → ℕ → ℕ → ℕ → Bool
may_link_in w a b n = may_lend_in w a && may_lend_in w b && not (a == b) && nat_lt 0 n

-- whether the owner that a copier asks next may be asked
abbrev pub may_do_in : Assembled → ℕ → ℕ → CopierNext → Bool
may_do_in w a b (next.AskReader asked) = may_ask_in (slice_get w.parts.owners a) asked
may_do_in w a b (next.AskWriter asked) = may_ask_in (slice_get w.parts.owners b) asked
may_do_in w a b told = true

-- whether a copier may take its step: both owners rest
abbrev pub may_copy_in : Assembled → CopierState → Bool
may_copy_in w c =
    rests_in (slice_get w.parts.owners c.reader) && rests_in (slice_get w.parts.owners c.writer)
    && may_do_in w c.reader c.writer (next_of c)

-- ---- what a step does

-- the copiers stay
pub record AllStay (w new : Assembled) : Type 0 where
  pub copiers : new.copiers ≡ w.copiers
  pub made : new.made ≡ w.made

-- at this step this is told, and nothing becomes of the parts or of an owner but what the act says
-- of it
pub record Tells (step : Step) (who : Party) (act : Act) (w : Assembled) (e : Event)
    (new : Assembled) : Type 0 where
  pub moves : CopierMoves step who act w.parts e new.parts
  pub stays : AllStay w new

-- the parts take the step
pub record Takes (may_answer : ℕ → Bool → Type 0) (step : Step) (w : Assembled) (e : Event)
    (new : Assembled) : Type 0 where
  pub steps : Steps may_answer step w.parts e new.parts
  pub stays : AllStay w new

-- an owner that is lent isn't asked and not dropped by others; one that isn't goes its way
abbrev pub IfLent : Bool → (ℕ → Bool → Type 0) → ℕ → Step → Assembled → Event → Assembled → Type 0
IfLent true may_answer h step w e new = Tells step (ByOwner h) NoAction w e new
IfLent false may_answer h step w e new = Takes may_answer step w e new

-- the poll of an owner takes its next action, and the copier to which it is lent hears of it
pub record Polls (may_answer : ℕ → Bool → Type 0) (h : ℕ) (w : Assembled) (e : Event)
    (new : Assembled) : Type 0 where
  pub steps : Steps may_answer (Own h) w.parts e new.parts
  pub copiers : new.copiers ≡ hear_first h e.act w.copiers
  pub made : new.made ≡ w.made

-- a copier is made, and gets the next number
pub record Links (a b n : ℕ) (w : Assembled) (e : Event) (new : Assembled) : Type 0 where
  pub moves : CopierMoves (Link a b n) Pool (Linked w.made) w.parts e new.parts
  pub copiers : new.copiers ≡ new_copier w.made a b n ∷ w.copiers
  pub made : new.made ≡ w.made + 1

-- (where it may be)
abbrev pub IfLinks : Bool → ℕ → ℕ → ℕ → Assembled → Event → Assembled → Type 0
IfLinks true a b n w e new = Links a b n w e new
IfLinks false a b n w e new = Tells (Link a b n) Pool NoAction w e new

-- a copier tells its end, and goes
pub record Ends (k : ℕ) (act : Act) (w : Assembled) (e : Event) (new : Assembled) : Type 0 where
  pub moves : CopierMoves (Copy k) Pool act w.parts e new.parts
  pub copiers : new.copiers ≡ without_number k w.copiers
  pub made : new.made ≡ w.made

-- a copier does what it does next
abbrev pub Copies : ℕ → CopierState → CopierNext → Assembled → Event → Assembled → Type 0
Copies k c (next.AskReader asked) w e new = Tells (Copy k) (ByOwner c.reader) (Asked asked) w e new
Copies k c (next.AskWriter asked) w e new = Tells (Copy k) (ByOwner c.writer) (Asked asked) w e new
Copies k c (next.Copied n) w e new = Ends k (Copied n) w e new
Copies k c (next.Failed at) w e new = Ends k (CopyFailed at) w e new

-- (where it may)
abbrev pub IfCopies : Bool → ℕ → CopierState → Assembled → Event → Assembled → Type 0
IfCopies true k c w e new = Copies k c (next_of c) w e new
IfCopies false k c w e new = Tells (Copy k) Pool NoAction w e new

-- (where there is one)
abbrev pub CopiesAt : ℕ → Option CopierState → Assembled → Event → Assembled → Type 0
CopiesAt k None w e new = Tells (Copy k) Pool NoAction w e new
CopiesAt k (Some c) w e new = IfCopies (may_copy_in w c) k c w e new

-- What a step does, and is seen to do.
abbrev pub Does : (ℕ → Bool → Type 0) → Step → Assembled → Event → Assembled → Type 0
Does may_answer (Ask h call) w e new =
    IfLent (is_lent h w.copiers) may_answer h (Ask h call) w e new
Does may_answer (DropOwner h) w e new =
    IfLent (is_lent h w.copiers) may_answer h (DropOwner h) w e new
Does may_answer (Own h) w e new = Polls may_answer h w e new
Does may_answer (Link a b n) w e new = IfLinks (may_link_in w a b n) a b n w e new
Does may_answer (Copy k) w e new = CopiesAt k (copier_at k w.copiers) w e new
Does may_answer step w e new = Takes may_answer step w e new

-- ---- how many bytes an event carries

-- those that a copier asks to have written
abbrev pub bytes_to_copy : Option CopierState → ℕ
bytes_to_copy None = 0
bytes_to_copy (Some c) = length (next_bytes (next_of c))

-- how many bytes the event of this step carries at most
abbrev pub bytes_to_come : Assembled → Step → ℕ
bytes_to_come w (Copy k) = bytes_to_copy (copier_at k w.copiers)
bytes_to_come w step = bytes_of_parts w.parts step
