use Rattle.std.proofs.Common.{sym, refl, Err}
use Rattle.blocking_world_pool.proofs.Words.{Adds, no_growth}
use Rattle.blocking_world_pool.proofs.crew.Crew.refuse.Goals as goal

pub returns : goal.returns
returns c = λ client.
    rw (sym c.self.view_is)
    (record {
      move = Adds c.args.party client (Err c.refuse-why.result) no_growth
          c.self.inside.tickets;
      may = c.refuse-why.ensures client;
      call_is = refl;
      event_is = cc
          (c.seen-event.ensures, c.next_start-first.ensures, c.self.view_is);
      after_is = refl;
    })
