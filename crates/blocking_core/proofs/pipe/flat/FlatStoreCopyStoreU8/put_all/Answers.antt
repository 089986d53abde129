use Rattle.std.proofs.Common.{arith}
use Rattle.std.proofs.lemmas.Grind.{common_steps}
use Rattle.blocking_core.proofs.Flat.{window_length}
use Rattle.blocking_core.proofs.pipe.flat.FlatStoreCopyStoreU8.put_all.Goals as goal

pub put_part-requires-clause-room : goal.put_part-requires-clause-room
put_part-requires-clause-room c = grind (arith, common_steps, window_length)

pub put_part-requires-2-clause-room : goal.put_part-requires-2-clause-room
put_part-requires-2-clause-room c = grind (arith, common_steps, window_length)
