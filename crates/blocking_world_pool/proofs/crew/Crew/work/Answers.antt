use Rattle.std.proofs.Common.{is_some, ap, ◌∙◌, sym, refl}
use Rattle.blocking_world_pool.proofs.Words.{Work, next_start, NeverAsked}
use Rattle.blocking_world_pool.specs.contracts.crew.Crew.{the_view}
use Rattle.blocking_world_pool.proofs.calls.Moves.{idles, acts_by}
use Rattle.blocking_world_pool.proofs.crew.Crew.work.Goals as goal
use Rattle.blocking_world_pool.proofs.ready.Moves.{moved_ready}

pub returns : goal.returns
returns c =
    rw (sym c.self.view_is)
    (acts_by NeverAsked (the_view c.self.inside) c.args.worker _
    c.args.act c.in-Some.serial _ _ refl c.in-Some.ensures.serial c.in-Some.ensures.after
    (cc (c.seen.ensures, c.next_start-first.ensures, c.self.view_is)))

pub invariant_of-self-2 : goal.invariant_of-self-2
invariant_of-self-2 c = moved_ready c.self.invariant c.self.view_is (returns c)

pub returns-in_default : goal.returns-in_default
returns-in_default c =
    rw (sym c.self.view_is)
    (idles NeverAsked (Work c.args.worker c.args.act) (the_view c.self.inside)
    c.work.new.self (ap is_some (sym c.in_default.ensures.serial)) c.in_default.ensures.after
    (c.next_start-first.ensures ∙ ap next_start (sym c.self.view_is)) c.nothing.ensures)
