use Rattle.std.proofs.Common.{◌<◌, ◌-◌, min, refl, sym, ap, ◌∙◌, subst, arith}
use Rattle.std.proofs.lemmas.List.{get_or_read}
use Rattle.std.specs.FinMap.{len}
use Rattle.blocking_pool.specs.Growth.{greatest}
use Rattle.blocking_pool.specs.Lists.{first_of}
use Rattle.blocking_pool.specs.Clients.{Tally}
use Rattle.blocking_pool.specs.ClientTable.{client_at}
use Rattle.blocking_pool.specs.QueueForm.{nowhere}
use Rattle.blocking_pool.specs.declared.pool.queue.Spot.{Spot}
use Rattle.blocking_pool.proofs.OpenLemmas.{is_in-head}
use Rattle.blocking_pool.proofs.QueueLemmas.{tally_seen, all_seen, seats_again}
use Rattle.blocking_pool.proofs.StepLemmas.{takes_place}
use Rattle.blocking_pool.proofs.KeptLemmas.{held_by, kept_taken, unlimited_seen}
use Rattle.blocking_pool.proofs.pool.queue.Queue.take_front.Goals as goal

pub index-requires : goal.index-requires
index-requires c =
    let there = c.self.invariant.within c.in_ok-place.place (is_in-head c.in_ok-place.place
    c.self.inside.places.places (sym c.in_ok-place.ensures.first)) in
    omega (arith, there, c.self.inside.spots.ok.0)

pub start-requires-clause-some : goal.start-requires-clause-some
start-requires-clause-some c =
    let there = is_in-head c.in_ok-place.place c.self.inside.places.places
    (sym c.in_ok-place.ensures.first) in
    let own = sym (ap (λ (s : Spot). s.client)
    (get_or_read c.self.inside.spots.items c.in_ok-place.place c.index.result.now
    (c.self.invariant.within c.in_ok-place.place there) c.index.ensures nowhere)) in
    held_by _ _ _ c.self.invariant.held c.in_ok-place.place there own

pub start-requires-clause-left : goal.start-requires-clause-left
start-requires-clause-left c =
    subst (λ (t : Tally). t.running < greatest) (tally_seen _ _ _ _ _ _ c.index.result.now.client _
    c.self.view_is refl) (c.requires.running c.index.result.now.client)

pub invariant_of-self : goal.invariant_of-self
invariant_of-self c =
    let there = is_in-head c.in_ok-place.place c.self.inside.places.places
    (sym c.in_ok-place.ensures.first) in
    let own = sym (ap (λ (s : Spot). s.client)
    (get_or_read c.self.inside.spots.items c.in_ok-place.place c.index.result.now
    (c.self.invariant.within c.in_ok-place.place there) c.index.ensures nowhere)) in
    let some = held_by _ _ _ c.self.invariant.held c.in_ok-place.place there own in
    kept_taken _ _ _ _ _ _ _ c.self.invariant
    (unlimited_seen _ _ _ _ _ _ c.self.view_is c.requires.limit) c.in_ok-place.place
    c.index.result.now.client _ c.start.new.self.known c.start.ensures refl refl
    (λ most. seats_again _ _ (λ k. k.jobs) (client_at c.self.inside.clients.known
    c.index.result.now.client) refl refl some _ _ _ c.start.ensures most) c.unlink.new.self
    c.unlink.ensures

pub returns : goal.returns
returns c =
    let there = is_in-head c.in_ok-place.place c.self.inside.places.places
    (sym c.in_ok-place.ensures.first) in
    let own = sym (ap (λ (s : Spot). s.client)
    (get_or_read c.self.inside.spots.items c.in_ok-place.place c.index.result.now
    (c.self.invariant.within c.in_ok-place.place there) c.index.ensures nowhere)) in
    takes_place _ _ _ _ _ _ _ _ _ c.index.result.now.client c.in_ok-place.place
    (client_at c.self.inside.clients.known c.index.result.now.client) _ c.self.view_is refl
    c.start.ensures refl own
    (ap first_of (all_seen c.self.inside.places.places c.self.inside.spots.items
    c.self.inside.clients.known c.self.inside.limit (min c.self.inside.clients.spare
    (c.self.inside.heads.room - len c.self.inside.clients.known)) (unlimited_seen _ _ _ _
    _ _ c.self.view_is c.requires.limit)) ∙ sym c.in_ok-place.ensures.first)
    (ap (λ q. q.places) c.unlink.ensures)
