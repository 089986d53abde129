-- What is done at a session only where such things pass as are wanted.
use Rattle.std.proofs.Common.{arith, ◌≡◌, refl, true, Option, Some, None}
use Rattle.blocking_world_holders.proofs.Words.{Goods, OfBytes, OfItems, OfNothing, if_piped}
use Rattle.blocking_world_holders.proofs.Words.{is_piped, through}

module _ {A : Type 0} where
  -- what is done is what would be done anyhow, and such things pass
  pub through_some : (wanted there : Goods) (does : Option A) (done : A)
      → through wanted there does ≡ Some done → (there ≡ wanted) × (does ≡ Some done)
  through_some OfBytes OfBytes does done is = (refl, is)
  through_some OfItems OfItems does done is = (refl, is)
  through_some OfNothing OfNothing does done is = (refl, is)
  through_some _ _ does done is = absurd (cc)

  -- where they pass it is done
  pub through_here : (wanted there : Goods) (does : Option A) → there ≡ wanted
      → through wanted there does ≡ does
  through_here wanted there does is = grind arith

  -- where nothing would be done nothing is
  pub through_none : (wanted there : Goods) (does : Option A) → does ≡ None
      → through wanted there does ≡ None
  through_none wanted there does is = grind arith

  -- what is done at a pipe is what would be done anyhow, and there is one
  pub piped_some : (there : Goods) (does : Option A) (done : A) → if_piped there does ≡ Some done
      → does ≡ Some done
  piped_some there does done is = grind arith

  pub piped_here : (there : Goods) (does : Option A) → is_piped there ≡ true
      → if_piped there does ≡ does
  piped_here there does is = grind arith
