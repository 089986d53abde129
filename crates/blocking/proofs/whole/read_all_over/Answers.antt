use Rattle.blocking.proofs.Wholes.{ok_so}
use Rattle.blocking.proofs.whole.read_all_over.Goals as goal

pub returns : goal.returns
returns g c = ok_so (λ _ done. (c.new-reader.result, c.new-reader.ensures.place, done)) c.read_whole.result c.read_whole.ensures
