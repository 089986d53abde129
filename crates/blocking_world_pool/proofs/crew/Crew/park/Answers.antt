use Rattle.std.proofs.Common.{is_some, ap, ◌∙◌, sym, refl, Some}
use Rattle.blocking_world_pool.proofs.Types.{Act, Worker}
use Rattle.blocking_world_pool.proofs.Words.{JobNumber, is_waiting, Park, Parks, next_start, seen}
use Rattle.blocking_world_pool.proofs.Words.{NeverAsked, no_growth}
use Rattle.blocking_world_pool.specs.contracts.crew.Crew.{the_view}
use Rattle.blocking_world_pool.proofs.calls.Moves.{idles, refilled, waits_at, held_is_out}
use Rattle.blocking_world_pool.proofs.calls.Moves.{held_runs}
use Rattle.blocking_world_pool.proofs.crew.Crew.park.Goals as goal
use Rattle.blocking_world_pool.proofs.hands.Loans.{held_is}
use Rattle.blocking_world_pool.proofs.ready.Moves.{moved_ready}

pub returns : goal.returns
returns c =
    let holds = held_is is_waiting _ c.in-Some.held c.in-Some.ensures.held in
    rw (sym c.self.view_is)
    (record {
      move = Parks c.args.worker c.in-Some.held c.args.ticket c.park.result c.park.new.self;
      may = (holds.0, waits_at c.in-Some.held.stage holds.1, c.park.ensures);
      call_is = refl;
      event_is =
          rw (
            ← (c.serial-serial.ensures ∙ ap (λ (n : JobNumber). n.serial) c.job.ensures),
            ← (c.next_start-first.ensures ∙ ap next_start (sym c.self.view_is)),
          )
          (c.seen.ensures
          ∙ ap (λ (act : Act). seen (Worker c.args.worker) (Some c.serial-serial.result) act
          c.next_start-first.result no_growth) c.parked-hand.ensures.act);
      after_is =
          let row = refilled c.self.inside.workers c.take_waiting.new.self c.args.worker
          c.in-Some.ensures.after c.put.new.self _ c.put.ensures in
          cc (row, c.parked-hand.ensures.hand);
    })

pub invariant_of-self-2 : goal.invariant_of-self-2
invariant_of-self-2 c = moved_ready c.self.invariant c.self.view_is (returns c)

pub put-requires : goal.put-requires
put-requires c = held_is_out c.self.inside.workers c.take_waiting.new.self c.args.worker
    c.in-Some.ensures.after is_waiting c.in-Some.held c.in-Some.ensures.held

pub park-requires : goal.park-requires
park-requires c = c.self.invariant.runs c.args.worker c.in-Some.held (held_runs
    (the_view c.self.inside) c.args.worker is_waiting c.in-Some.held c.in-Some.ensures.held)

pub returns-in_default : goal.returns-in_default
returns-in_default c =
    rw (sym c.self.view_is)
    (idles NeverAsked (Park c.args.worker c.args.ticket) (the_view c.self.inside)
    c.take_waiting.new.self (ap is_some (sym c.in_default.ensures.held)) c.in_default.ensures.after
    (c.next_start-first.ensures ∙ ap next_start (sym c.self.view_is)) c.nothing.ensures)
