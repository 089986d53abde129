-- What is found of a copier, and what comes of a step.
use Rattle.std.proofs.Common.{◌≡◌, ℕ, ◌<◌, ◌≤◌, List, length, Bool, false, refl, sym, ap, ◌∙◌}
use Rattle.std.proofs.Common.{subst, arith, None, slice_get, slice_set, slice_index_or, nat_lt}
use Rattle.std.proofs.Common.{IfSome}
use Rattle.std.proofs.lemmas.Option.{slice_get_read, slice_get_past}
use Rattle.std.proofs.lemmas.Bool.Decides.{nat_tests}
use Rattle.std.specs.List.{position_or_len}
use Rattle.blocking_world_laws.specs.declared.event.Act.{Act}
use Rattle.blocking_world_laws.specs.declared.event.Act.TheVariants.{NoAction}
use Rattle.blocking_world_laws.specs.declared.event.Event.{Event}
use Rattle.blocking_world_laws.specs.declared.event.Party.TheVariants.{Pool}
use Rattle.blocking_world_laws.specs.declared.step.HandleCall.{HandleCall}
use Rattle.blocking_world_laws.specs.declared.step.Step.{Step}
use Rattle.blocking_world_laws.specs.declared.step.Step.TheVariants.{Ask, Own, DropOwner, Link}
use Rattle.blocking_world_laws.specs.declared.step.Step.TheVariants.{Copy}
use Rattle.blocking_world_state.specs.Moves.{CopierMoves}
use Rattle.blocking_world_state.proofs.moves.Lookups.{there}
use Rattle.blocking_world_copiers.specs.Assemblies.{Assembled, Takes, IfCopies, CopiesAt}
use Rattle.blocking_world_copiers.specs.Assemblies.{may_copy_in, Does}
use Rattle.blocking_world_copiers.specs.Copiers.{CopierState, belongs, has_number, heard, copier_at}
use Rattle.blocking_world_copiers.specs.Copiers.{hear_first}
use Rattle.blocking_world_copiers.proofs.Places.{at_most, found_is, hear_is, hear_none}

-- ---- the copier of a number

pub copied_at : (k : ℕ) (w : Assembled) (e : Event) (new : Assembled) (place : ℕ)
    → place ≡ position_or_len (has_number k) w.copiers → place < length w.copiers
    → IfSome (slice_get w.copiers place) (λ c. IfCopies (may_copy_in w c) k c w e new)
    → CopiesAt k (copier_at k w.copiers) w e new
copied_at k w e new place is within does =
    let found = there w.copiers place within in
    subst (λ o. CopiesAt k o w e new)
    (sym found.1 ∙ ap (slice_get w.copiers) is ∙ found_is k w.copiers)
    (subst (λ o. IfSome o (λ c. IfCopies (may_copy_in w c) k c w e new)) found.1 does)

pub no_copier : (k : ℕ) (w : Assembled) (place : ℕ)
    → place ≡ position_or_len (has_number k) w.copiers → nat_lt place (length w.copiers) ≡ false
    → copier_at k w.copiers ≡ None
no_copier k w place is beyond =
    let past : length w.copiers ≤ place = grind (arith, nat_tests) in
    sym (ap (slice_get w.copiers) is ∙ found_is k w.copiers) ∙ slice_get_past w.copiers place past

pub copied_none : (k : ℕ) (w : Assembled) (e : Event)
    → copier_at k w.copiers ≡ None → CopierMoves (Copy k) Pool NoAction w.parts e w.parts
    → CopiesAt k (copier_at k w.copiers) w e w
copied_none k w e none moves = subst (λ o. CopiesAt k o w e w) (sym none)
    (record { moves = moves; stays = record { copiers = refl; made = refl } })

-- ---- an owner's poll

pub unheard : (h : ℕ) (act : Act) (copiers : List CopierState) (place : ℕ)
    → place ≡ position_or_len (belongs h) copiers → nat_lt place (length copiers) ≡ false
    → copiers ≡ hear_first h act copiers
unheard h act copiers place is beyond =
    let most = at_most (belongs h) copiers in
    let all : position_or_len (belongs h) copiers ≡ length copiers = grind (arith, nat_tests) in
    hear_none h act copiers all

pub heard_at : (h : ℕ) (act : Act) (copiers : List CopierState) (place : ℕ) (old new : CopierState)
    → place ≡ position_or_len (belongs h) copiers → place < length copiers
    → old ≡ slice_index_or copiers place old → new ≡ heard old act
    → slice_set copiers place new ≡ hear_first h act copiers
heard_at h act copiers place old new is within value heard_is =
    let found = slice_get_read copiers (length copiers) place old refl within value in
    ap (slice_set copiers place) heard_is ∙ ap (λ p. slice_set copiers p (heard old act)) is
    ∙ hear_is h act copiers old (sym (ap (slice_get copiers) is) ∙ found)

-- ---- the steps that are the parts' own

abbrev pub IsOwnStep : Step → Type 0
IsOwnStep (Ask h call) = ⊥
IsOwnStep (DropOwner h) = ⊥
IsOwnStep (Own h) = ⊥
IsOwnStep (Link a b n) = ⊥
IsOwnStep (Copy k) = ⊥
IsOwnStep step = Unit {0}

pub own_step : (step : Step) → ((h : ℕ) (call : HandleCall) → step ≡ Ask h call → ⊥)
    → ((h : ℕ) → step ≡ Own h → ⊥) → ((h : ℕ) → step ≡ DropOwner h → ⊥)
    → ((a b n : ℕ) → step ≡ Link a b n → ⊥)
    → ((k : ℕ) → step ≡ Copy k → ⊥) → IsOwnStep step
own_step (Ask h call) a o d l c = absurd (a h call refl)
own_step (Own h) a o d l c = absurd (o h refl)
own_step (DropOwner h) a o d l c = absurd (d h refl)
own_step (Link x y n) a o d l c = absurd (l x y n refl)
own_step (Copy k) a o d l c = absurd (c k refl)
own_step step a o d l c = tt

pub passed :
    (may_answer : ℕ → Bool → Type 0) (step : Step) (w : Assembled) (e : Event) (new : Assembled)
    → IsOwnStep step → Takes may_answer step w e new → Does may_answer step w e new
passed may_answer (Ask h call) w e new its does = absurd its
passed may_answer (DropOwner h) w e new its does = absurd its
passed may_answer (Own h) w e new its does = absurd its
passed may_answer (Link a b n) w e new its does = absurd its
passed may_answer (Copy k) w e new its does = absurd its
passed may_answer step w e new its does = does
