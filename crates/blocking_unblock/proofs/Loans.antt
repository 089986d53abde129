-- An owner whose handle was lent is as its place says, since it keeps one fact of that alone.
use Rattle.std.proofs.Common.{◌≡◌, Bool, false, Option, Some, None, subst, ap}
use Rattle.std.proofs.Math.Bool.{Bool-set}
use Rattle.blocking_unblock.specs.Loans.{IfLent}

module _ {P U : Type 0} (is_lost : P → Bool) (owner : (place : P) → is_lost place ≡ false → U) where
  pub same : (place other : P) (held : is_lost place ≡ false) (kept : is_lost other ≡ false)
      → place ≡ other → owner place held ≡ owner other kept
  same place other held kept is = subst (λ p. (k : is_lost p ≡ false) → owner place held
      ≡ owner p k) is (λ k. ap (owner place) (Bool-set (is_lost place) false held k)) kept

  pub lent : {X : Type 0} (handle : Option X) (place left before : P) (held : is_lost place ≡ false)
      (kept : is_lost left ≡ false) (was : is_lost before ≡ false)
      → IfLent handle (place ≡ left) (place ≡ before)
      → IfLent handle (owner place held ≡ owner left kept) (owner place held ≡ owner before was)
  lent (Some h) place left before held kept was is = same place left held kept is
  lent None place left before held kept was is = same place before held was is
