use Rattle.blocking_headline.proofs.Kept.{independent}
use Rattle.blocking_headline.proofs.independence.Goals as goal

pub returns : goal.returns
returns c = record { of_each = independent }
