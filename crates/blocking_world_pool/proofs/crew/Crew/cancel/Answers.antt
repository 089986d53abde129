use Rattle.std.proofs.Common.{sym, refl}
use Rattle.blocking_world_pool.proofs.Words.{IsCancelled}
use Rattle.blocking_world_pool.proofs.crew.Crew.cancel.Goals as goal
use Rattle.blocking_world_pool.proofs.ready.Moves.{moved_ready}

pub returns : goal.returns
returns g c =
    rw (sym c.self.view_is)
    (record {
      move = IsCancelled c.args.party c.args.number c.cancel-woke.result.0
          c.cancel-woke.result.1 c.cancel-woke.new.self;
      may = c.cancel-woke.ensures;
      call_is =
          refl;
      event_is = cc (c.seen.ensures, c.serial.ensures, c.next_start-first.ensures);
      after_is = refl;
    })

pub invariant_of-self : goal.invariant_of-self
invariant_of-self g c = moved_ready c.self.invariant c.self.view_is (returns g c)
