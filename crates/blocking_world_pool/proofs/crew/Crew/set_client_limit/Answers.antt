use Rattle.std.proofs.Common.{◌≡◌, ap, ◌∙◌, sym, refl, false}
use Rattle.blocking_world_laws.specs.Steps.{may_limit}
use Rattle.blocking_world_pool.proofs.Words.{SetClientLimit, SetsClientLimit, next_start}
use Rattle.blocking_world_pool.proofs.Words.{NeverAsked, JobPool}
use Rattle.blocking_world_pool.specs.contracts.crew.Crew.{the_view}
use Rattle.blocking_world_pool.proofs.calls.Moves.{idles, limit_above}
use Rattle.blocking_world_pool.proofs.crew.Crew.set_client_limit.Goals as goal
use Rattle.blocking_world_pool.proofs.ready.Moves.{moved_ready}

pub set_client_limit-requires : goal.set_client_limit-requires
set_client_limit-requires c =
    limit_above c.args.limit (sym c.may_limit.ensures ∙ c.if-not-may_limit.false)

pub returns : goal.returns
returns c =
    rw (sym c.self.view_is)
    (record {
      move = SetsClientLimit c.args.limit;
      may = limit_above c.args.limit
          (sym c.may_limit.ensures ∙ c.if-not-may_limit.false);
      call_is = refl;
      event_is =
          cc (c.seen.ensures, c.next_start-first.ensures);
      after_is = ap (λ (pool : JobPool).
          record { pool = pool; hands = c.self.inside.workers }) c.set_client_limit.ensures;
    })

pub invariant_of-self : goal.invariant_of-self
invariant_of-self c = moved_ready c.self.invariant c.self.view_is (returns c)

pub returns-then-not-may_limit : goal.returns-then-not-may_limit
returns-then-not-may_limit c =
    let zero : may_limit c.args.limit ≡ false = sym c.may_limit.ensures ∙ c.if-not-may_limit.true in
    rw (sym c.self.view_is)
    (idles NeverAsked (SetClientLimit c.args.limit) (the_view c.self.inside) c.self.inside.workers
    zero refl (c.next_start-first.ensures ∙ ap next_start (sym c.self.view_is))
    c.nothing.ensures)
