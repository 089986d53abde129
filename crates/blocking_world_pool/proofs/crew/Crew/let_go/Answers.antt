use Rattle.std.proofs.Common.{sym, ap, refl}
use Rattle.blocking_world_pool.proofs.Words.{IsLetGo, JobPool}
use Rattle.blocking_world_pool.proofs.crew.Crew.let_go.Goals as goal
use Rattle.blocking_world_pool.proofs.ready.Moves.{moved_ready}

pub returns : goal.returns
returns c =
    rw (sym c.self.view_is)
    (record {
      move = IsLetGo c.args.party c.args.act c.args.number;
      may = c.requires;
      call_is = refl;
      event_is = cc (c.seen.ensures, c.next_start-first.ensures);
      after_is = ap (λ (pool : JobPool).
          record { pool = pool; hands = c.self.inside.workers }) c.let_go.ensures;
    })

pub invariant_of-self : goal.invariant_of-self
invariant_of-self c = moved_ready c.self.invariant c.self.view_is (returns c)
