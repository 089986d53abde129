use Rattle.blocking_schedule.proofs.stream.Ring.step.Goals as goal

pub returns-in-Pop-clause-takes : goal.returns-in-Pop-clause-takes
returns-in-Pop-clause-takes c = rw c.in-Pop.is c.pop.ensures.does
