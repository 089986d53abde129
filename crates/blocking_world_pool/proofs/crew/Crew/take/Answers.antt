use Rattle.std.proofs.Common.{ap, ◌∙◌, sym}
use Rattle.blocking_world_pool.proofs.Words.{with_hand, Take, next_start}
use Rattle.blocking_world_pool.specs.contracts.crew.Crew.{the_view}
use Rattle.blocking_world_pool.proofs.calls.Moves.{idles, no_pass, takes_by, refilled, pass_is_out}
use Rattle.blocking_world_pool.proofs.calls.Moves.{pass_free}
use Rattle.blocking_world_pool.proofs.crew.Crew.take.Goals as goal
use Rattle.blocking_world_pool.proofs.hands.Loans.{pass_is}
use Rattle.blocking_world_pool.proofs.ready.Moves.{moved_ready}

pub returns : goal.returns
returns g c =
    rw (sym c.self.view_is)
    (takes_by (g.S.Starter.may_answer c.args.starter.now) (the_view c.self.inside) c.args.worker
    c.in-Some.pass c.take-took.result.0 c.take-took.result.1 c.take-took.new.self _ _
    (pass_is _ c.in-Some.pass c.in-Some.ensures.pass) c.take-took.ensures
    (cc (
      c.seen.ensures,
      c.received-hand.ensures.job,
      c.received-hand.ensures.act,
      c.next_start-first.ensures,
      c.self.view_is,
    ))
    (refilled c.self.inside.workers
    c.take_pass.new.self c.args.worker c.in-Some.ensures.after c.put.new.self _ c.put.ensures
    ∙ ap (with_hand c.self.inside.workers c.args.worker) c.received-hand.ensures.hand))

pub invariant_of-self-2 : goal.invariant_of-self-2
invariant_of-self-2 g c = moved_ready c.self.invariant c.self.view_is (returns g c)

pub put-requires : goal.put-requires
put-requires g c = pass_is_out c.self.inside.workers c.take_pass.new.self c.args.worker
    c.in-Some.ensures.after c.in-Some.pass c.in-Some.ensures.pass

pub take-took-requires : goal.take-took-requires
take-took-requires g c = pass_free (the_view c.self.inside) c.args.worker c.in-Some.pass
    c.self.invariant c.in-Some.ensures.pass

pub returns-in_default : goal.returns-in_default
returns-in_default g c =
    rw (sym c.self.view_is)
    (idles (g.S.Starter.may_answer c.args.starter.now) (Take c.args.worker) (the_view c.self.inside)
    c.take_pass.new.self (no_pass _ c.in_default.ensures.pass) c.in_default.ensures.after
    (c.next_start-first.ensures ∙ ap next_start (sym c.self.view_is)) c.nothing.ensures)
