-- The law of each owner says so.
use Rattle.blocking_world_laws.proofs.WrittenBytes.{all_write_behind}
use Rattle.blocking_world_laws.proofs.laws.legality.writing_behind.Goals as goal

pub returns : goal.returns
returns c = all_write_behind
