use Rattle.blocking_pool.specs.Starters.{asked}
use Rattle.blocking_executor.proofs.Weaker.{takes_weaker}
use Rattle.blocking_executor.proofs.held.Held.after_wait.Goals as goal

pub returns-in-Stay : goal.returns-in-Stay
returns-in-Stay g c = (
  c.in-Stay.pass,
  c.after_wait.new.self,
  c.take-took.new.self,
  g.S.Starter.refusals c.after_wait.new.starter,
  c.in-Stay.ensures.answer,
  takes_weaker (record (asked g.S.Starter c.args.starter.now c.take-took.new.starter)
      { refusals_before = g.S.Starter.refusals c.after_wait.new.starter })
      (g.S.Starter.may_answer c.after_wait.new.starter) c.after_wait.ensures.steady
      g.J.Job.may_answer c.after_wait.new.self c.take-took.new.self c.take-took.result
      c.take-took.ensures.answer,
  record { told = c.bell.ensures.ring; silent = c.bell.ensures.silent },
)
