-- Both forms say the same, and a legal past is legal without its last moment.
use Rattle.blocking_world_laws.proofs.Beginnings.{before, throughout, whole}
use Rattle.blocking_world_laws.proofs.laws.legality.beginnings.Goals as goal

pub returns-clause-both_forms : goal.returns-clause-both_forms
returns-clause-both_forms c =
    λ setting plan past. (throughout setting plan past, whole setting plan past)

pub returns-clause-each_beginning : goal.returns-clause-each_beginning
returns-clause-each_beginning c = before
