-- A take leaves its client within the limit.
use Rattle.std.proofs.Common.{true, false}
use Rattle.blocking_pool.specs.Starters.{asked}
use Rattle.blocking_world_law_tests.proofs.Rooms.{take_within, take_beside, takes_keep}
use Rattle.blocking_world_law_tests.proofs.room.takes_within_limit.Goals as goal

pub returns-clause-run : goal.returns-clause-run
returns-clause-run g c = λ before after old turn value new most takes. take_within
    g.J.Job.may_answer (asked g.S.Starter before after) old turn value false new takes most

pub returns-clause-drop : goal.returns-clause-drop
returns-clause-drop g c = λ before after old turn value new most takes. take_within
    g.J.Job.may_answer (asked g.S.Starter before after) old turn value true new takes most

pub returns-clause-run_beside : goal.returns-clause-run_beside
returns-clause-run_beside g c = λ before after old turn value new client takes. take_beside
    g.J.Job.may_answer (asked g.S.Starter before after) old turn value false new takes client

pub returns-clause-drop_beside : goal.returns-clause-drop_beside
returns-clause-drop_beside g c = λ before after old turn value new client takes. take_beside
    g.J.Job.may_answer (asked g.S.Starter before after) old turn value true new takes client

pub returns-clause-kept : goal.returns-clause-kept
returns-clause-kept g c =
    λ before after. takes_keep g.J.Job.may_answer (asked g.S.Starter before after)
