use Rattle.std.proofs.Common.{ap, ◌∙◌, refl}
use Rattle.std.proofs.lemmas.Bool.{false≢true}
use Rattle.std.specs.FinMap.{insert}
use Rattle.blocking_pool.proofs.ClientLemmas.{got_room, set_first, set_next}
use Rattle.blocking_pool.proofs.pool.clients.Clients.set_named.Goals as goal

pub unreachable-requires : goal.unreachable-requires
unreachable-requires c =
    got_room c.args.self.now c.self.inside.named.entries c.self.inside.recent.name
    c.self.inside.recent.state c.self.inside.unnamed _ c.self.view_is c.args.client
    c.requires.named c.self.invariant.2 c.in_default.ensures.absent c.requires.seat
    (λ some. false≢true (c.in_default.ensures.succeeds some))

pub returns-then-last-eq0 : goal.returns-then-last-eq0
returns-then-last-eq0 c =
    set_first c.self.inside.named.entries c.insert.new.self.entries c.self.inside.unnamed
    c.args.state c.self.inside.recent.state c.args.client c.self.inside.recent.name
    c.requires.named c.insert.new.self.entries (c.in-Ok.ensures.updates.0) c.if-last-eq0.true
    refl
    ∙ ap (λ v. insert v.known c.args.client c.args.state) c.self.view_is

pub returns : goal.returns
returns c =
    set_next c.self.inside.named.entries c.insert-2.new.self.entries c.self.inside.unnamed
    c.args.state c.self.inside.recent.state c.args.client c.self.inside.recent.name
    c.requires.named c.insert.new.self.entries (c.in-Ok.ensures.updates.0)
    (c.in-Ok-insert.ensures.updates.0)
    ∙ ap (λ v. insert v.known c.args.client c.args.state) c.self.view_is
