use Rattle.std.proofs.Common.{◌≡◌, ◌<◌, false, length, refl, sym, ap, subst, arith}
use Rattle.std.proofs.lemmas.List.{length-map, length-set, map-set}
use Rattle.blocking_pool.specs.Chain.{Chain}
use Rattle.blocking_pool.specs.Lists.{is_in}
use Rattle.blocking_pool.specs.Clients.{Tally}
use Rattle.blocking_pool.specs.Queue.{Queue}
use Rattle.blocking_pool.specs.ClientTable.{client_at}
use Rattle.blocking_pool.specs.declared.pool.queue.Spot.{Spot}
use Rattle.blocking_pool.proofs.QueueLemmas.{tally_seen}
use Rattle.blocking_pool.proofs.KeptLemmas.{client_put, holds_owner, kept_entered}
use Rattle.blocking_pool.proofs.pool.queue.Queue.enter.Goals as goal

pub invariant_of-self : goal.invariant_of-self
invariant_of-self c =
    let room : c.args.place < length c.self.inside.spots.items =
    (let long = ap (λ (v : Queue). length v.owners) c.self.view_is in
    let mapped = length-map c.self.inside.spots.items (λ (s : Spot). s.client) in
    omega (arith, long, mapped, c.requires.room)) in
    kept_entered _ _ _ _ _ _ _ c.self.invariant c.in-None.is c.args.place c.args.client
    room (subst (λ (v : Queue). is_in c.args.place v.places ≡ false) (sym c.self.view_is)
    c.requires.fresh)
    (subst (λ (t : Tally). 0 < t.jobs) (tally_seen _ _ _ _ _ _ c.args.client (client_at
    c.self.inside.clients.known c.args.client) c.self.view_is refl) c.requires.client) _
    (length-set c.self.inside.spots.items c.args.place _) (client_put c.self.inside.spots.items
    c.args.place c.args.client _ room refl) c.push_back.new.self c.push_back.ensures

pub returns-in-None : goal.returns-in-None
returns-in-None c =
    holds_owner _ _ _ _ _ _ _ _ _
    c.args.place c.args.client c.self.view_is (ap (λ (q : Chain). q.places) c.push_back.ensures)
    (map-set (λ (s : Spot). s.client) c.self.inside.spots.items c.args.place _)
