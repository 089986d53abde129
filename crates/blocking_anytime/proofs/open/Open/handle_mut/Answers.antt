-- The owner ends as its own call of this name leaves it.
use Rattle.std.proofs.Common.{refl}
use Rattle.blocking_anytime.proofs.open.Open.handle_mut.Goals as goal

pub returns : goal.returns
returns g c =
    ((refl, c.handle_mut.follows.holds, c.handle_mut.follows.holds-at-none), c.handle_mut.ensures)
