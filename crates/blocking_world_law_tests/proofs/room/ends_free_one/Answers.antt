-- The end of a turn frees at most one place.
use Rattle.blocking_world_law_tests.proofs.Rooms.{ends_no_more, ends_one_less, ends_free}
use Rattle.blocking_world_law_tests.proofs.Rooms.{ends_beside}
use Rattle.blocking_world_law_tests.proofs.room.ends_free_one.Goals as goal

pub returns-clause-no_more : goal.returns-clause-no_more
returns-clause-no_more g c = ends_no_more g.J.Job.may_answer

pub returns-clause-one_less : goal.returns-clause-one_less
returns-clause-one_less g c = ends_one_less g.J.Job.may_answer

pub returns-clause-freed : goal.returns-clause-freed
returns-clause-freed g c = ends_free g.J.Job.may_answer

pub returns-clause-beside : goal.returns-clause-beside
returns-clause-beside g c = ends_beside g.J.Job.may_answer
