use Rattle.std.proofs.Common.{◌≡◌, ◌∙◌, sym, Some, None}
use Rattle.blocking_world_pool.proofs.Words.{NeverAsked}
use Rattle.blocking_world_pool.specs.contracts.crew.Crew.{the_view}
use Rattle.blocking_world_pool.proofs.calls.Moves.{arrives_by}
use Rattle.blocking_world_pool.proofs.crew.Crew.arrive.Goals as goal
use Rattle.blocking_world_pool.proofs.ready.Moves.{moved_ready}

pub returns-in_default-clause-ok : goal.returns-in_default-clause-ok
returns-in_default-clause-ok c =
    rw (sym c.self.view_is)
    (arrives_by NeverAsked (the_view c.self.inside) c.in_ok-worker.field-0 c.arrive.new.tickets
    c.arrive.new.self _ c.in_ok-worker.ensures.ok
    (λ v is. absurd (c.in_default.not-Some v is))
    (λ is. cc (c.nothing.ensures, c.next_start-first.ensures, c.self.view_is)))

pub returns-clause-ok : goal.returns-clause-ok
returns-clause-ok c =
    rw (sym c.self.view_is)
    (arrives_by NeverAsked (the_view c.self.inside) c.in_ok-worker.field-0 c.arrive.new.tickets
    c.arrive.new.self _ c.in_ok-worker.ensures.ok
    (λ v is. (let same : c.in-Some.worker ≡ v = (let there = c.in-Some.is in cc) in
    cc (same, c.seen.ensures, c.next_start-first.ensures, c.self.view_is)))
    (λ is. absurd (let there = c.in-Some.is in
    let bad : Some c.in-Some.worker ≡ None = sym there ∙ is in cc)))

pub invariant_of-self-2 : goal.invariant_of-self-2
invariant_of-self-2 c = moved_ready c.self.invariant c.self.view_is (returns-clause-ok c)
