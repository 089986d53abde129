use Rattle.blocking.proofs.Wholes.{ok_so}
use Rattle.blocking.proofs.whole.copy_over.Goals as goal

pub returns-in-Ok-Ok : goal.returns-in-Ok-Ok
returns-in-Ok-Ok g c = ok_so (λ _ done. (c.new-reader.result, c.new-reader.ensures.place, (c.new-writer.result, c.new-writer.ensures.place, done))) c.copy_whole.result c.copy_whole.ensures
