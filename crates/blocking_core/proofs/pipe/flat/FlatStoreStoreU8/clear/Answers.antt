use Rattle.std.specs.Prelude.{refl}
use Rattle.blocking_core.specs.Flat.{window}
use Rattle.blocking_core.proofs.pipe.flat.FlatStoreStoreU8.clear.Goals as goal

-- src/pipe/flat.rt:139:5
pub returns : goal.returns
unfolding window
returns c = refl
