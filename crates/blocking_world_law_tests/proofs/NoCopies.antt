-- A trace without steps of copiers keeps the law of copies.
use Rattle.std.proofs.Common.{◌≡◌, List, [], ◌∷◌, ◌&&◌, Bool, true, false, refl, ap, ◌∙◌, arith}
use Rattle.blocking_world_laws.specs.Copies.{CopyLaw, StepTells}
use Rattle.blocking_world_laws.specs.Lent.{Copier, copiers, copiers_by, copier_in}
use Rattle.blocking_world_laws.specs.Seen.{EachMayFollow}
use Rattle.blocking_world_laws.specs.declared.event.Act.{Act}
use Rattle.blocking_world_laws.specs.declared.event.Moment.{Moment}
use Rattle.blocking_world_laws.specs.declared.step.Step.{Step}
use Rattle.blocking_world_laws.specs.declared.step.Step.TheVariants.{Link, Copy}

-- whether a step is no copier's
abbrev is_uncopied : Step → Bool
is_uncopied (Link a b n) = false
is_uncopied (Copy k) = false
is_uncopied step = true

abbrev pub are_uncopied : List Moment → Bool
are_uncopied [] = true
are_uncopied (now ∷ past) = is_uncopied now.step && are_uncopied past

both : (a b : Bool) → (a && b) ≡ true → (a ≡ true) × (b ≡ true)
both a b is = grind arith

copiers_stay : (step : Step) (act : Act) (before : List Copier) → is_uncopied step ≡ true
    → copiers_by step act before ≡ before
copiers_stay step act before is = grind arith

no_copiers : (past : List Moment) → are_uncopied past ≡ true → copiers past ≡ []
no_copiers [] is = refl
no_copiers (now ∷ past) is =
    let each = both (is_uncopied now.step) (are_uncopied past) is in
    copiers_stay now.step now.event.act (copiers past) each.0 ∙ no_copiers past each.1

tells_nothing : (step : Step) (past : List Moment) (act : Act) → is_uncopied step ≡ true
    → StepTells step past act
tells_nothing (Link a b n) past act is = absurd cc
tells_nothing (Copy k) past act is = absurd cc
tells_nothing step past act is = tt

pub none_copies : (past : List Moment) → are_uncopied past ≡ true → EachMayFollow CopyLaw past
none_copies [] is = tt
none_copies (now ∷ past) is =
    let each = both (is_uncopied now.step) (are_uncopied past) is in (
      record {
        copies =
            λ k c found. absurd (let none = ap (copier_in k) (no_copiers (now ∷ past) is) in cc);
        told = tells_nothing now.step past now.event.act each.0;
      },
      none_copies past each.1,
    )
