-- Flags that are joined, and what each then says.
use Rattle.std.proofs.Common.{◌≡◌, refl, ℕ, ◌==◌, ◌&&◌, ◌||◌, ◌⊎◌, inl, inr, Bool, true, false, arith}
use Rattle.std.specs.Prelude.{not}

pub same_self : (n : ℕ) → (n == n) ≡ true
same_self n = grind arith

pub first_so : (b c : Bool) → (b && c) ≡ true → b ≡ true
first_so true c e = refl
first_so false c e = absurd cc

pub then_so : (b c : Bool) → (b && c) ≡ true → c ≡ true
then_so true c e = e
then_so false c e = absurd cc

pub and_so : (b c : Bool) → b ≡ true → c ≡ true → (b && c) ≡ true
and_so true c e f = f
and_so false c e f = absurd cc

pub and_parts : (b c : Bool) → (not b && c) ≡ true → (b ≡ false) × (c ≡ true)
and_parts false c e = (refl, e)
and_parts true c e = absurd cc

pub or_so : (b c : Bool) → (b || c) ≡ true → (b ≡ true) ⊎ (c ≡ true)
or_so true c e = inl refl
or_so false c e = inr e

pub or_left : (b c : Bool) → b ≡ true → (b || c) ≡ true
or_left true c e = refl
or_left false c e = absurd cc

pub either : (b c : Bool) → c ≡ true → (b || c) ≡ true
either true c e = refl
either false c e = e

pub unless : (b c : Bool) → (b || c) ≡ true → b ≡ false → c ≡ true
unless true c e f = absurd cc
unless false c e f = e
