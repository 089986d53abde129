-- The cut of a cut is the cut, and a law that is said of the cut alone holds of it alone.
use Rattle.blocking_world_laws.proofs.Filters.{filter_reverse, independent}
use Rattle.blocking_world_laws.specs.Seen.{is_in_cut}
use Rattle.blocking_world_laws.proofs.laws.legality.independence.Goals as goal

pub returns-clause-solo : goal.returns-clause-solo
returns-clause-solo c = independent

pub returns-clause-either_order : goal.returns-clause-either_order
returns-clause-either_order c = λ h seen. filter_reverse (is_in_cut h) seen
