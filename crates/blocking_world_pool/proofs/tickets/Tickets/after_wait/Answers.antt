use Rattle.std.proofs.Common.{ap, arith}
use Rattle.blocking_world_pool.proofs.Words.{StaysOrStops, asked, JobPool}
use Rattle.blocking_world_pool.proofs.growth.Sweeps.{waits_after_sweep, wait_alone, sweep_level}
use Rattle.blocking_world_pool.proofs.tickets.Tickets.after_wait.Goals as goal

pub after_wait-requires : goal.after_wait-requires
after_wait-requires g c =
    let level =
    sweep_level c.args.timed_out (g.S.Starter.may_answer c.args.starter.now) c.args.self.now
    c.sweep_if-growth.new.self c.sweep_if-growth.result c.sweep_if-growth.ensures.after in
    let free = c.requires.free in
    rw c.self.view_is (omega (arith, level, free))

-- what the pool's wait is, after the sweep
answered : (g : _) (c : goal.After-after_wait g) → StaysOrStops c.args.timed_out
    c.sweep_if-growth.new.self c.after_wait.result c.after_wait.new.self
answered g c =
    waits_after_sweep (asked g.S.Starter c.sweep_if-growth.new.starter c.after_wait.new.starter)
    c.args.timed_out c.sweep_if-growth.new.self c.after_wait.new.self c.after_wait.result
    c.sweep_if-growth.ensures.valued c.sweep_if-growth.ensures.due
    (rw c.self.view_is at c.after_wait.ensures.answer)

pub returns : goal.returns
returns g c =
    let jobs = ap (λ (p : JobPool). p.jobs) (wait_alone c.args.timed_out c.sweep_if-growth.new.self
    c.after_wait.new.self c.after_wait.result (answered g c)) in
    record {
      waits = record {
        between = c.sweep_if-growth.new.self;
        sweep = c.sweep_if-growth.ensures.after;
        answer = answered g c;
      };
      valued = rw jobs c.sweep_if-growth.ensures.valued;
      due = λ late. rw jobs (c.sweep_if-growth.ensures.due late);
    }

pub invariant_of-self : goal.invariant_of-self
invariant_of-self g c = rw (wait_alone c.args.timed_out c.sweep_if-growth.new.self
    c.after_wait.new.self c.after_wait.result (answered g c)) (cc, cc, cc)
