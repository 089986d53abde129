use Rattle.std.proofs.Common.{refl}
use Rattle.blocking_core.proofs.Flat.{window_none}
use Rattle.blocking_core.proofs.pipe.flat.FlatStoreStoreU8.new.Goals as goal

pub returns : goal.returns
returns c = rw (window_none 0 0 c.in_ok-bytes.bytes.items refl)
