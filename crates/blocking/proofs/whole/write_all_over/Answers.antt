use Rattle.blocking.proofs.Wholes.{ok_so}
use Rattle.blocking.proofs.whole.write_all_over.Goals as goal

pub returns : goal.returns
returns g c = ok_so (λ _ done. (c.new-writer.result, c.new-writer.ensures.place, done)) c.write_whole.result c.write_whole.ensures
