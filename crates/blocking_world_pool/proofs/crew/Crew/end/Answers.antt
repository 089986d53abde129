use Rattle.std.proofs.Common.{is_some, ap, ◌∙◌, sym, refl}
use Rattle.blocking_world_pool.proofs.Words.{may_end, End, EndsTurn, next_start, NeverAsked}
use Rattle.blocking_world_pool.specs.contracts.crew.Crew.{the_view}
use Rattle.blocking_world_pool.proofs.calls.Moves.{idles, refilled, held_is_out, held_runs}
use Rattle.blocking_world_pool.proofs.crew.Crew.end.Goals as goal
use Rattle.blocking_world_pool.proofs.hands.Loans.{held_is}
use Rattle.blocking_world_pool.proofs.ready.Moves.{moved_ready}

pub returns : goal.returns
returns c =
    rw (sym c.self.view_is)
    (record {
      move = EndsTurn c.args.worker c.in-Some.held c.end-pass.result;
      may = held_is may_end _ c.in-Some.held c.in-Some.ensures.held;
      call_is = refl;
      event_is = cc (
        c.seen.ensures,
        c.serial-serial.ensures,
        c.job.ensures,
        c.standing.ensures,
        c.outcome-outcome.ensures,
        c.next_start-first.ensures,
        c.self.view_is,
      );
      after_is =
          let row = refilled c.self.inside.workers c.take_ended.new.self c.args.worker
          c.in-Some.ensures.after c.put.new.self _ c.put.ensures in
          cc (row, c.end-pass.ensures);
    })

pub invariant_of-self-2 : goal.invariant_of-self-2
invariant_of-self-2 c = moved_ready c.self.invariant c.self.view_is (returns c)

pub put-requires : goal.put-requires
put-requires c = held_is_out c.self.inside.workers c.take_ended.new.self c.args.worker
    c.in-Some.ensures.after may_end c.in-Some.held c.in-Some.ensures.held

pub end-pass-requires : goal.end-pass-requires
end-pass-requires c = c.self.invariant.runs c.args.worker c.in-Some.held
    (held_runs (the_view c.self.inside) c.args.worker may_end c.in-Some.held c.in-Some.ensures.held)

pub returns-in_default : goal.returns-in_default
returns-in_default c =
    rw (sym c.self.view_is)
    (idles NeverAsked (End c.args.worker) (the_view c.self.inside) c.take_ended.new.self
    (ap is_some (sym c.in_default.ensures.held)) c.in_default.ensures.after
    (c.next_start-first.ensures ∙ ap next_start (sym c.self.view_is)) c.nothing.ensures)
