-- No client's takes go beyond the limit.
use Rattle.blocking_world_law_tests.proofs.Within.{take_within, none_more, keeps_within}
use Rattle.blocking_world_law_tests.proofs.Within.{stays_within, within_from_rest}
use Rattle.blocking_world_law_tests.proofs.answers.within_client_limit.Goals as goal

pub returns-clause-taken : goal.returns-clause-taken
returns-clause-taken c =
    λ setting plan past now s most laws. take_within setting plan past now laws s most

pub returns-clause-no_more : goal.returns-clause-no_more
returns-clause-no_more c =
    λ setting plan past now client laws. none_more setting plan past now laws client

pub returns-clause-kept : goal.returns-clause-kept
returns-clause-kept c =
    λ setting plan past now client most laws. keeps_within setting plan past now laws client most

pub returns-clause-throughout : goal.returns-clause-throughout
returns-clause-throughout c = stays_within

pub returns-clause-from_rest : goal.returns-clause-from_rest
returns-clause-from_rest c = within_from_rest
