-- The event of a step carries no more bytes than were told before it.
use Rattle.std.proofs.Common.{◌≡◌, ◌≤◌, ℕ, length, List, [], Bool, true, false, refl, sym, ap, ◌∙◌}
use Rattle.std.proofs.Common.{subst, Option, Some, None, arith}
use Rattle.blocking_world_laws.specs.Growth.{IsPlanned}
use Rattle.blocking_world_laws.specs.declared.event.Act.{Act}
use Rattle.blocking_world_laws.specs.declared.event.Act.TheVariants.{Asked, Linked, Copied}
use Rattle.blocking_world_laws.specs.declared.event.Act.TheVariants.{CopyFailed, NoAction}
use Rattle.blocking_world_laws.specs.declared.event.Event.{Event}
use Rattle.blocking_world_laws.specs.declared.step.Step.{Step}
use Rattle.blocking_world_laws.specs.declared.step.Step.TheVariants.{Ask, Own, DropOwner, Link}
use Rattle.blocking_world_laws.specs.declared.step.Step.TheVariants.{Copy}
use Rattle.blocking_world_laws.specs.declared.step.HandleCall.{HandleCall}
use Rattle.blocking_world_state.specs.Carried.{bytes_of, bytes_to_come as bytes_of_parts}
use Rattle.blocking_world_state.proofs.laws.Legality.{carried}
use Rattle.blocking_world_copiers.specs.Assemblies.{Assembled, Takes, Copies, IfLent, IfLinks}
use Rattle.blocking_world_copiers.specs.Assemblies.{IfCopies, CopiesAt, Does, may_link_in}
use Rattle.blocking_world_copiers.specs.Assemblies.{may_copy_in, bytes_to_copy, bytes_to_come}
use Rattle.blocking_world_copiers.specs.Copiers.{CopierState, copier_at, is_lent, next_of}
use Rattle.blocking_world_copiers.specs.Copiers.{next_bytes, bytes_in_call}
use Rattle.blocking_world_copiers.specs.declared.copier.CopierNext.{CopierNext}
use Rattle.blocking_world_copiers.specs.declared.copier.CopierNext.TheVariants as next

-- an act without bytes carries none
bare : (act told : Act) (n : ℕ) → told ≡ act → bytes_of act ≡ [] → length (bytes_of told) ≤ n
bare act told n is none = let zeroed = ap length (ap bytes_of is ∙ none) in omega (arith, zeroed)

same_bytes : (call : HandleCall) → bytes_of (Asked call) ≡ bytes_in_call call
same_bytes call = grind arith

-- a copier asks its reader for bytes, and has none for it
reader_bare : (c : CopierState) (asked : HandleCall) → next_of c ≡ next.AskReader asked
    → bytes_in_call asked ≡ []
reader_bare c asked is = grind arith

module _ (plan : List Bool) (w : Assembled) (e : Event) (new : Assembled) where
  takes : (step : Step) → bytes_to_come w step ≡ bytes_of_parts w.parts step
      → Takes (IsPlanned plan) step w e new → length (bytes_of e.act) ≤ bytes_to_come w step
  takes step same does = subst (λ n. length (bytes_of e.act) ≤ n) (sym same)
      (carried plan w.parts new.parts step e does.steps)

  if_lent : (b : Bool) (h : ℕ) (step : Step) → bytes_to_come w step ≡ bytes_of_parts w.parts step
      → IfLent b (IsPlanned plan) h step w e new → length (bytes_of e.act) ≤ bytes_to_come w step
  if_lent true h step same does = bare NoAction e.act _ does.moves.act_is refl
  if_lent false h step same does = takes step same does

  if_links : (b : Bool) (r v n : ℕ) → IfLinks b r v n w e new
      → length (bytes_of e.act) ≤ bytes_to_come w (Link r v n)
  if_links true r v n does = bare (Linked w.made) e.act _ does.moves.act_is refl
  if_links false r v n does = bare NoAction e.act _ does.moves.act_is refl

  asks : (call : HandleCall) → e.act ≡ Asked call
      → length (bytes_of e.act) ≤ length (bytes_in_call call)
  asks call is = let many = ap length (ap bytes_of is ∙ same_bytes call) in omega (arith, many)

  reads_bare : (call : HandleCall) (n : ℕ) → e.act ≡ Asked call → bytes_in_call call ≡ []
      → length (bytes_of e.act) ≤ n
  reads_bare call n is none = bare (Asked call) e.act n is (same_bytes call ∙ none)

  -- what a copier's reader is asked carries nothing
  copies : (k : ℕ) (c : CopierState) (n : CopierNext) → next_of c ≡ n → Copies k c n w e new
      → length (bytes_of e.act) ≤ length (next_bytes n)
  copies k c (next.AskReader asked) is does =
      reads_bare asked _ does.moves.act_is (reader_bare c asked is)
  copies k c (next.AskWriter asked) is does = asks asked does.moves.act_is
  copies k c (next.Copied n) is does = bare (Copied n) e.act _ does.moves.act_is refl
  copies k c (next.Failed at) is does = bare (CopyFailed at) e.act _ does.moves.act_is refl

  copies_at : (k : ℕ) (o : Option CopierState) → CopiesAt k o w e new
      → length (bytes_of e.act) ≤ bytes_to_copy o
  copies_at k None does = bare NoAction e.act _ does.moves.act_is refl
  copies_at k (Some c) does = by (may_copy_in w c) does
    where
      by : (b : Bool) → IfCopies b k c w e new → length (bytes_of e.act) ≤ bytes_to_copy (Some c)
      by true does = copies k c (next_of c) refl does
      by false does = bare NoAction e.act _ does.moves.act_is refl

  pub does_carry : (step : Step) → Does (IsPlanned plan) step w e new
      → length (bytes_of e.act) ≤ bytes_to_come w step
  does_carry (Ask h call) does = if_lent (is_lent h w.copiers) h (Ask h call) refl does
  does_carry (DropOwner h) does = if_lent (is_lent h w.copiers) h (DropOwner h) refl does
  does_carry (Own h) does = carried plan w.parts new.parts (Own h) e does.steps
  does_carry (Link r v n) does = if_links (may_link_in w r v n) r v n does
  does_carry (Copy k) does = copies_at k (copier_at k w.copiers) does
  does_carry step does = takes step refl does
