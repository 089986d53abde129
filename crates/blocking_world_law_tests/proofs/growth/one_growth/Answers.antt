-- Two events with one act have the same starts.
use Rattle.blocking_world_law_tests.proofs.Growths.{same_event}
use Rattle.blocking_world_law_tests.proofs.growth.one_growth.Goals as goal

pub returns : goal.returns
returns c = same_event
