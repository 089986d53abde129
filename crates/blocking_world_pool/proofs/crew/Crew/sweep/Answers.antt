use Rattle.std.proofs.Common.{sym, refl}
use Rattle.blocking_world_pool.proofs.Words.{Sweeps}
use Rattle.blocking_world_pool.proofs.crew.Crew.sweep.Goals as goal
use Rattle.blocking_world_pool.proofs.ready.Moves.{moved_ready}

pub returns : goal.returns
returns g c =
    rw (sym c.self.view_is)
    (record {
      move = Sweeps c.sweep-count.result.1 c.sweep-count.new.self;
      may = c.sweep-count.ensures.after;
      call_is = refl;
      event_is = cc (
        c.seen.ensures,
        c.sweep-count.ensures.count,
        c.next_start-first.ensures,
      );
      after_is = refl;
    })

pub invariant_of-self : goal.invariant_of-self
invariant_of-self g c = moved_ready c.self.invariant c.self.view_is (returns g c)
