-- What a job does after an answer.
use Rattle.std.specs.Prelude.{true, false}
use Rattle.blocking_core.specs.declared.job.Action.{Action}
use Rattle.blocking_core.specs.declared.job.Action.TheVariants.{Call, Finish, Deliver, Done}
use Rattle.blocking_core.specs.declared.job.Answer.{Answer}
use Rattle.blocking_core.specs.declared.job.Answer.TheVariants.{Returned, Put, Delivered}

-- A call: it is made, its answer is put, a waker that was taken is called, and the job is over. An
-- answer to another action changes nothing.
abbrev pub call_after : Action → Answer → Action
call_after Call Returned = Finish
call_after Finish (Put true) = Deliver
call_after Finish (Put false) = Done
call_after Deliver Delivered = Done
call_after action answer = action
