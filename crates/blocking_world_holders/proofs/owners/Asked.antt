-- When an owner may be asked, by the law and by the holder.
use Rattle.std.proofs.Common.{arith, ◌≡◌, ◌&&◌, List, ◌∷◌, Bool, true, false, refl, ap, ◌∙◌, Some}
use Rattle.std.proofs.Common.{◌||◌, not}
use Rattle.blocking_world_holders.proofs.Types.{Act, Asked, HandleCall, IntoInner}
use Rattle.blocking_world_holders.proofs.Words.{seen_call as call}
use Rattle.blocking_world_holders.proofs.Words.{seen_is_into_inner as is_into_inner, is_operation}
use Rattle.blocking_world_holders.proofs.Words.{seen_is_pending_operation as is_pending_operation}
use Rattle.blocking_world_holders.proofs.Words.{seen_was_asked_inner as was_asked_inner, is_waiting}

pub both_true : (a b : Bool) → (a && b) ≡ true → (a ≡ true) × (b ≡ true)
both_true true b e = (refl, e)
both_true false b e = absurd (cc)

-- four that hold
pub all_true : (a b c d : Bool) → a ≡ true → b ≡ true → c ≡ true → d ≡ true
    → (a && b && c && d) ≡ true
all_true a b c d e f g i =
    ap (λ x. x && b && c && d) e ∙ ap (λ x. x && c && d) f ∙ ap (λ x. x && d) g ∙ i

-- once the handle was asked for for good, the last call does so
pub asks_inner : (c : HandleCall) (acts : List Act)
    → (not (was_asked_inner acts) || is_into_inner (Some c)) ≡ true
    → was_asked_inner (Asked c ∷ acts) ≡ is_into_inner (Some c)
asks_inner IntoInner acts may = refl
asks_inner _ acts may = none (was_asked_inner acts) may
  where
    none : (b : Bool) → (not b || false) ≡ true → b ≡ false
    none b e = grind arith

-- an operation is pending where one was asked, and the owner waits
pub pending_is : (acts : List Act)
    → is_pending_operation acts ≡ (is_waiting acts && is_operation (call acts))
pending_is acts = grind arith
