use Rattle.blocking_world_pool.proofs.closing.Jobs.{idle_shorter, takes_front, taken_runs}
use Rattle.blocking_world_pool.proofs.closing.Jobs.{took_shorter, same_limit, passed_over}
use Rattle.blocking_world_pool.proofs.tickets.Tickets.pass_over.Goals as goal

pub end-requires : goal.end-requires
end-requires g c =
    let may_answer = g.S.Starter.may_answer c.args.starter.now in
    let front = takes_front may_answer c.args.self.now c.take-took.new.self c.take-took.result.0
    c.in-Run.turn c.take-took.result.1 c.in-Run.is c.take-took.ensures in
    taken_runs may_answer c.args.self.now c.take-took.new.self c.take-took.new.self c.in-Run.turn
    front.0 front.1 c.take-took.result.1 front.2

pub returns-in-Run-clause-passed : goal.returns-in-Run-clause-passed
returns-in-Run-clause-passed g c =
    let may_answer = g.S.Starter.may_answer c.args.starter.now in
    let front = takes_front may_answer c.args.self.now c.take-took.new.self c.take-took.result.0
    c.in-Run.turn c.take-took.result.1 c.in-Run.is c.take-took.ensures in
    passed_over may_answer c.args.self.now c.take-took.new.self c.end.new.self c.in-Run.turn front.0
    front.1 c.take-took.result.1 front.2 c.end.ensures
    c.requires.valued c.requires.free

pub returns-in-Run-clause-shorter : goal.returns-in-Run-clause-shorter
returns-in-Run-clause-shorter g c = λ free.
    let may_answer = g.S.Starter.may_answer c.args.starter.now in
    let front = takes_front may_answer c.args.self.now c.take-took.new.self c.take-took.result.0
    c.in-Run.turn c.take-took.result.1 c.in-Run.is c.take-took.ensures in
    took_shorter may_answer c.args.self.now c.take-took.new.self c.end.new.self c.in-Run.turn
    front.0 front.1 c.take-took.result.1 front.2 c.end.ensures

pub returns-in-Run-clause-limit : goal.returns-in-Run-clause-limit
returns-in-Run-clause-limit g c =
    let may_answer = g.S.Starter.may_answer c.args.starter.now in
    let front = takes_front may_answer c.args.self.now c.take-took.new.self c.take-took.result.0
    c.in-Run.turn c.take-took.result.1 c.in-Run.is c.take-took.ensures in
    same_limit may_answer c.args.self.now c.take-took.new.self c.end.new.self c.in-Run.turn front.0
    front.1 c.take-took.result.1 front.2 c.end.ensures

pub returns-in-Idle-clause-shorter : goal.returns-in-Idle-clause-shorter
returns-in-Idle-clause-shorter g c =
    let idle = rw c.in-Idle.is at c.take-took.ensures in
    idle_shorter c.args.self.now c.take-took.new.self idle.0 idle.2
