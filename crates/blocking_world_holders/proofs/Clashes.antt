-- What can't be. A case that can't be is refused by one of these at once, where a search would look
-- through all that is known there.
use Rattle.std.proofs.Common.{◌≡◌, true, false, Option, Some, None}

-- nothing isn't something
pub nothing : {A : Type 0} {x : A} → None ≡ Some x → ⊥
nothing e = cc

pub never : false ≡ true → ⊥
never e = cc
