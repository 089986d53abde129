use Rattle.std.proofs.Common.{◌≡◌, ap, ◌∙◌, sym, refl, arith, false, not, ◌==◌}
use Rattle.std.proofs.lemmas.Bool.Decides.{nat_tests}
use Rattle.blocking_world_pool.proofs.Words.{SetLimit, SetsLimit, next_start, NeverAsked, JobPool}
use Rattle.blocking_world_pool.specs.contracts.crew.Crew.{the_view}
use Rattle.blocking_world_pool.proofs.calls.Moves.{idles}
use Rattle.blocking_world_pool.proofs.crew.Crew.set_limit.Goals as goal
use Rattle.blocking_world_pool.proofs.ready.Moves.{moved_ready}

pub returns : goal.returns
returns c =
    rw (sym c.self.view_is)
    (record {
      move = SetsLimit c.args.limit;
      may = omega (arith, c.if-limit-eq0.false);
      call_is = refl;
      event_is = cc (c.seen.ensures, c.next_start-first.ensures);
      after_is = ap (λ (pool : JobPool).
          record { pool = pool; hands = c.self.inside.workers }) c.set_limit.ensures;
    })

pub invariant_of-self : goal.invariant_of-self
invariant_of-self c = moved_ready c.self.invariant c.self.view_is (returns c)

pub returns-then-limit-eq0 : goal.returns-then-limit-eq0
returns-then-limit-eq0 c =
    let zero : not (c.args.limit == 0) ≡ false =
    (let none = c.if-limit-eq0.true in grind (arith, nat_tests, none)) in
    rw (sym c.self.view_is)
    (idles NeverAsked (SetLimit c.args.limit) (the_view c.self.inside) c.self.inside.workers zero
    refl (c.next_start-first.ensures ∙ ap next_start (sym c.self.view_is)) c.nothing.ensures)
