use Rattle.std.proofs.Common.{ap, ◌∙◌, sym, refl}
use Rattle.blocking_world_pool.proofs.Words.{Wait, HasWaited, next_start}
use Rattle.blocking_world_pool.specs.contracts.crew.Crew.{the_view}
use Rattle.blocking_world_pool.proofs.calls.Moves.{idles, no_pass, refilled, pass_is_out, pass_free}
use Rattle.blocking_world_pool.proofs.crew.Crew.wait.Goals as goal
use Rattle.blocking_world_pool.proofs.hands.Loans.{pass_is}
use Rattle.blocking_world_pool.proofs.ready.Moves.{moved_ready}

pub returns : goal.returns
returns g c =
    rw (sym c.self.view_is)
    (record {
      move = HasWaited c.args.worker c.in-Some.pass c.args.end c.after_wait-waited.result.0
          c.after_wait-waited.result.1 c.after_wait-waited.new.self;
      may = (
        pass_is _ c.in-Some.pass c.in-Some.ensures.pass,
        rw c.has_timed_out.ensures at c.after_wait-waited.ensures.waits,
      );
      call_is = refl;
      event_is = cc (
        c.seen.ensures,
        c.settled-hand.ensures.act,
        c.next_start-first.ensures,
        c.self.view_is,
      );
      after_is =
          let row = refilled c.self.inside.workers c.take_pass.new.self c.args.worker
          c.in-Some.ensures.after c.put.new.self _ c.put.ensures in
          cc (row, c.settled-hand.ensures.hand);
    })

pub invariant_of-self-2 : goal.invariant_of-self-2
invariant_of-self-2 g c = moved_ready c.self.invariant c.self.view_is (returns g c)

pub put-requires : goal.put-requires
put-requires g c = pass_is_out c.self.inside.workers c.take_pass.new.self c.args.worker
    c.in-Some.ensures.after c.in-Some.pass c.in-Some.ensures.pass

pub after_wait-waited-requires-clause-free : goal.after_wait-waited-requires-clause-free
after_wait-waited-requires-clause-free g c = pass_free (the_view c.self.inside) c.args.worker
    c.in-Some.pass c.self.invariant c.in-Some.ensures.pass

pub returns-in_default : goal.returns-in_default
returns-in_default g c =
    rw (sym c.self.view_is)
    (idles (g.S.Starter.may_answer c.args.starter.now)
    (Wait c.args.worker c.args.end) (the_view c.self.inside)
    c.take_pass.new.self (no_pass _ c.in_default.ensures.pass) c.in_default.ensures.after
    (c.next_start-first.ensures ∙ ap next_start (sym c.self.view_is)) c.nothing.ensures)
