-- What a job is to do once a waker was called.
use Rattle.std.proofs.Common.{◌≡◌, Bool, true, false, sym, subst, refl}
use Rattle.blocking_core.specs.Machines.{wake_first}

module _ {A : Type 0} (deliver : A) (P : A → Type 0) (never : P deliver → ⊥) where
  -- what holds of its next action holds of it still, where that is no call of a waker itself
  pub delivered : (waking : Bool) (next end : A) → wake_first waking deliver next ≡ deliver
      → (waking ≡ true → end ≡ next) → P next → P end
  delivered true next end is same held = subst P (sym (same refl)) held
  delivered false next end is same held = absurd (never (subst P is held))
