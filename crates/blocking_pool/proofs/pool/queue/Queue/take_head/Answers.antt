use Rattle.std.proofs.Common.{◌≡◌, ◌<◌, ◌+◌, ◌-◌, ◌≤◌, ◌++◌, min, length, IsSome, IsPermutation}
use Rattle.std.proofs.Common.{refl, sym, ap, ◌∙◌, subst, arith}
use Rattle.std.specs.FinMap.{len}
use Rattle.blocking_pool.specs.Growth.{greatest}
use Rattle.blocking_pool.specs.Lists.{first_of}
use Rattle.blocking_pool.specs.Chain.{Chain}
use Rattle.blocking_pool.specs.Heads.{Heads}
use Rattle.blocking_pool.specs.Clients.{Tally}
use Rattle.blocking_pool.specs.Queue.{Queue, ready_in, TakesReady}
use Rattle.blocking_pool.specs.ClientTable.{client_at}
use Rattle.blocking_pool.specs.QueueForm.{tally_of, number_by, head_of, taken_from, AreHeld}
use Rattle.blocking_pool.specs.declared.pool.clients.Client.{Client}
use Rattle.blocking_pool.specs.declared.pool.queue.Spot.{Spot}
use Rattle.blocking_pool.proofs.ClientLemmas.{client_set}
use Rattle.blocking_pool.proofs.KeptLemmas.{limited, limit_seen, lined_of, held_fewer, held_same}
use Rattle.blocking_pool.proofs.QueueLemmas.{seen_as, tally_seen, ready_seen, set_room, seats_again}
use Rattle.blocking_pool.proofs.StepLemmas.{some_limit, no_head, first_within, first_queued}
use Rattle.blocking_pool.proofs.StepLemmas.{head_some, head_of_client, head_first, head_counted}
use Rattle.blocking_pool.proofs.StepLemmas.{again_first, again_room, again_small, again_queue}
use Rattle.blocking_pool.proofs.StepLemmas.{takes_place}
use Rattle.blocking_pool.proofs.pool.queue.Queue.take_head.Goals as goal

pub returns-in_err-client : goal.returns-in_err-client
returns-in_err-client c =
    let limit = some_limit c.self.inside.limit
    (subst IsSome (sym (ap (λ (v : Queue). v.limit) c.self.view_is)) c.requires.limit) in
    subst (λ taken. TakesReady c.args.self.now taken (seen_as c.self.inside.places.places
    c.self.inside.spots.items c.self.inside.clients.known c.self.inside.limit (min
    c.self.inside.clients.spare (c.pop.new.self.room - len c.self.inside.clients.known))))
    (sym c.from_residual.ensures) (
      ap ready_in (sym c.self.view_is) ∙ no_head _ _ _ _ _ _ _ (min c.self.inside.clients.spare
          (c.self.inside.heads.room - len c.self.inside.clients.known)) limit.0 (lined_of _ _ _ _
          _ _ _ c.self.invariant (limit_seen _ _ _ _ _ _ c.self.view_is c.requires.limit)) limit.1
          c.in_err-client.ensures.0,
      ap (λ (h : Heads). seen_as c.self.inside.places.places c.self.inside.spots.items
          c.self.inside.clients.known c.self.inside.limit (min c.self.inside.clients.spare
          (h.room - len c.self.inside.clients.known))) c.in_err-client.ensures.1
          ∙ c.self.view_is,
    )

pub take_from-later-requires-clause-some : goal.take_from-later-requires-clause-some
take_from-later-requires-clause-some c = head_some _ _ _ _ _ _ _ (lined_of
    _ _ _ _ _ _ _ c.self.invariant (limit_seen _ _ _ _ _ _ c.self.view_is c.requires.limit))
    c.in_ok-client.field-0-0 c.in_ok-client.client c.pop.new.self c.in_ok-client.ensures
    c.get-state.result c.get-state.ensures

pub take_from-later-requires-clause-first : goal.take_from-later-requires-clause-first
take_from-later-requires-clause-first c =
    let some = head_some _ _ _ _ _ _ _ (lined_of _ _ _ _ _ _ _ c.self.invariant
    (limit_seen _ _ _ _ _ _ c.self.view_is c.requires.limit)) c.in_ok-client.field-0-0
    c.in_ok-client.client c.pop.new.self c.in_ok-client.ensures c.get-state.result
    c.get-state.ensures in
    subst (λ spots. c.get-state.result.line.first < length {A = Spot} spots)
    (sym c.deref.ensures.value)
    (first_within _ _ _ _ _ _ _ (lined_of _ _ _ _ _ _ _ c.self.invariant
    (limit_seen _ _ _ _ _ _ c.self.view_is c.requires.limit)) c.in_ok-client.client
    c.get-state.result c.get-state.ensures some)

pub take_from-later-requires-clause-running : goal.take_from-later-requires-clause-running
take_from-later-requires-clause-running c =
    subst (λ (t : Tally). t.running < greatest) (tally_seen _ _ _ _ _ _ _ _ c.self.view_is
    c.get-state.ensures) (c.requires.running c.in_ok-client.client)

pub unlink-requires : goal.unlink-requires
unlink-requires c =
    let some = head_some _ _ _ _ _ _ _ (lined_of _ _ _ _ _ _ _ c.self.invariant
    (limit_seen _ _ _ _ _ _ c.self.view_is c.requires.limit)) c.in_ok-client.field-0-0
    c.in_ok-client.client c.pop.new.self c.in_ok-client.ensures c.get-state.result
    c.get-state.ensures in
    first_queued _ _ _ _ _ _ _ (lined_of _ _ _ _ _ _ _ c.self.invariant
    (limit_seen _ _ _ _ _ _ c.self.view_is c.requires.limit)) c.in_ok-client.client
    c.get-state.result c.get-state.ensures some

pub set-requires : goal.set-requires
set-requires c =
    let some = head_some _ _ _ _ _ _ _ (lined_of _ _ _ _ _ _ _ c.self.invariant
    (limit_seen _ _ _ _ _ _ c.self.view_is c.requires.limit)) c.in_ok-client.field-0-0
    c.in_ok-client.client c.pop.new.self c.in_ok-client.ensures c.get-state.result
    c.get-state.ensures in
    set_room _ _ (λ k. k.line.len) c.get-state.result c.get-state.ensures refl some _

pub overflow_sub-self : goal.overflow_sub-self
overflow_sub-self c = head_counted _ _ _ _ _ _ _ (lined_of _ _ _ _ _ _ _ c.self.invariant
    (limit_seen _ _ _ _ _ _ c.self.view_is c.requires.limit)) c.in_ok-client.field-0-0
    c.in_ok-client.client c.pop.new.self c.in_ok-client.ensures c.get-state.result
    c.get-state.ensures

pub admit-requires-clause-first : goal.admit-requires-clause-first
admit-requires-clause-first c =
    let some = head_some _ _ _ _ _ _ _ (lined_of _ _ _ _ _ _ _ c.self.invariant
    (limit_seen _ _ _ _ _ _ c.self.view_is c.requires.limit)) c.in_ok-client.field-0-0
    c.in_ok-client.client c.pop.new.self c.in_ok-client.ensures c.get-state.result
    c.get-state.ensures in
    let taken = subst (λ spots. c.take_from-later.result ≡ taken_from spots c.get-state.result)
    c.deref.ensures.value c.take_from-later.ensures in
    subst (λ spots. 0 < c.take_from-later.result.line.len → c.take_from-later.result.line.first
    < length {A = Spot} spots) (sym c.deref-2.ensures.value)
    (again_first _ _ _ _ _ _ _ (lined_of _ _ _ _ _ _ _ c.self.invariant
    (limit_seen _ _ _ _ _ _ c.self.view_is c.requires.limit)) c.in_ok-client.field-0-0
    c.in_ok-client.client c.pop.new.self c.in_ok-client.ensures c.get-state.result
    c.get-state.ensures c.set.new.self.known c.take_from-later.result c.set.ensures taken
    (λ most. seats_again _ _ (λ k. k.line.len) c.get-state.result c.get-state.ensures refl some _ _
    _ c.set.ensures most))

pub admit-requires-clause-room : goal.admit-requires-clause-room
admit-requires-clause-room c =
    let some = head_some _ _ _ _ _ _ _ (lined_of _ _ _ _ _ _ _ c.self.invariant
    (limit_seen _ _ _ _ _ _ c.self.view_is c.requires.limit)) c.in_ok-client.field-0-0
    c.in_ok-client.client c.pop.new.self c.in_ok-client.ensures c.get-state.result
    c.get-state.ensures in
    let taken = subst (λ spots. c.take_from-later.result ≡ taken_from spots c.get-state.result)
    c.deref.ensures.value c.take_from-later.ensures in
    subst (λ spots. length (head_of (number_by spots) c.self.inside.limit c.in_ok-client.client
    c.take_from-later.result) + length c.pop.new.self.heads ≤ c.pop.new.self.room)
    (sym c.deref-2.ensures.value)
    (again_room _ _ _ _ _ _ _ (lined_of _ _ _ _ _ _ _ c.self.invariant
    (limit_seen _ _ _ _ _ _ c.self.view_is c.requires.limit)) c.in_ok-client.field-0-0
    c.in_ok-client.client c.pop.new.self c.in_ok-client.ensures c.get-state.result
    c.get-state.ensures c.set.new.self.known c.take_from-later.result c.set.ensures taken
    (λ most. seats_again _ _ (λ k. k.line.len) c.get-state.result c.get-state.ensures refl some _ _
    _ c.set.ensures most))

pub overflow_add-self : goal.overflow_add-self
overflow_add-self c =
    let some = head_some _ _ _ _ _ _ _ (lined_of _ _ _ _ _ _ _ c.self.invariant
    (limit_seen _ _ _ _ _ _ c.self.view_is c.requires.limit)) c.in_ok-client.field-0-0
    c.in_ok-client.client c.pop.new.self c.in_ok-client.ensures c.get-state.result
    c.get-state.ensures in
    let taken = subst (λ spots. c.take_from-later.result ≡ taken_from spots c.get-state.result)
    c.deref.ensures.value c.take_from-later.ensures in
    let small = again_small _ _ _ _ _ _ _ (lined_of _ _ _ _ _ _ _ c.self.invariant
    (limit_seen _ _ _ _ _ _ c.self.view_is c.requires.limit)) c.in_ok-client.field-0-0
    c.in_ok-client.client c.pop.new.self c.in_ok-client.ensures c.get-state.result
    c.get-state.ensures c.set.new.self.known c.take_from-later.result c.set.ensures taken
    (λ most. seats_again _ _ (λ k. k.line.len) c.get-state.result c.get-state.ensures refl some _ _
    _ c.set.ensures most) in
    omega (
      arith,
      small,
      c.admit.ensures.ready,
      c.self.inside.spots.ok.0,
      c.self.inside.spots.ok.1,
      c.self.inside.spots.small,
    )

pub invariant_of-self-2 : goal.invariant_of-self-2
invariant_of-self-2 c =
    let some = head_some _ _ _ _ _ _ _ (lined_of _ _ _ _ _ _ _ c.self.invariant
    (limit_seen _ _ _ _ _ _ c.self.view_is c.requires.limit)) c.in_ok-client.field-0-0
    c.in_ok-client.client c.pop.new.self c.in_ok-client.ensures c.get-state.result
    c.get-state.ensures in
    let taken = subst (λ spots. c.take_from-later.result ≡ taken_from spots c.get-state.result)
    c.deref.ensures.value c.take_from-later.ensures in
    limited _ _ _ _ _ _ _ (limit_seen _ _ _ _ _ _ c.self.view_is c.requires.limit)
    (again_queue _ _ _ _ _ _ _ (lined_of _ _ _ _ _ _ _ c.self.invariant
    (limit_seen _ _ _ _ _ _ c.self.view_is c.requires.limit)) c.in_ok-client.field-0-0
    c.in_ok-client.client c.pop.new.self c.in_ok-client.ensures c.get-state.result
    c.get-state.ensures c.set.new.self.known c.take_from-later.result c.set.ensures taken
    (λ most. seats_again _ _ (λ k. k.line.len) c.get-state.result c.get-state.ensures refl some _ _
    _ c.set.ensures most)
    c.unlink.new.self c.admit.new.heads c.admit.result c.unlink.ensures
    (subst (λ spots. IsPermutation (head_of (number_by spots) c.self.inside.limit
    c.in_ok-client.client c.take_from-later.result ++ c.pop.new.self.heads)
    c.admit.new.heads.heads) c.deref-2.ensures.value c.admit.ensures.heads)
    c.admit.ensures.kept c.admit.ensures.ready)
    (subst (λ (q : Chain). AreHeld c.self.inside.spots.items c.set.new.self.known q.places)
    (sym c.unlink.ensures)
    (held_fewer _ _ _ _ (held_same _ _ _ _ c.in_ok-client.client _ c.self.invariant.held
    (λ q. ap (λ k. client_at k q) c.set.ensures ∙ client_set _ _ _ q)
    (ap (λ (k : Client). k.jobs) taken ∙ ap (λ (k : Client). k.jobs) c.get-state.ensures))))

pub returns : goal.returns
returns c =
    let limit = some_limit c.self.inside.limit
    (subst IsSome (sym (ap (λ (v : Queue). v.limit) c.self.view_is)) c.requires.limit) in
    let taken = subst (λ spots. c.take_from-later.result ≡ taken_from spots c.get-state.result)
    c.deref.ensures.value c.take_from-later.ensures in
    takes_place _ _ _ _ _ _ _ _ _ c.in_ok-client.client c.get-state.result.line.first
    c.get-state.result c.take_from-later.result c.self.view_is c.get-state.ensures c.set.ensures
    (ap tally_of taken)
    (head_of_client _ _ _ _ _ _ _ (lined_of _ _ _ _ _ _ _ c.self.invariant (limit_seen _ _ _
    _ _ _ c.self.view_is c.requires.limit)) c.in_ok-client.field-0-0 c.in_ok-client.client
    c.pop.new.self c.in_ok-client.ensures c.get-state.result c.get-state.ensures)
    (ap first_of (ready_seen c.self.inside.places.places c.self.inside.spots.items
    c.self.inside.clients.known c.self.inside.limit (min c.self.inside.clients.spare
    (c.self.inside.heads.room - len c.self.inside.clients.known)) limit.0 limit.1)
    ∙ head_first _ _ _ _ _ _ _ (lined_of _ _ _ _ _ _ _ c.self.invariant (limit_seen _ _ _
    _ _ _ c.self.view_is c.requires.limit)) c.in_ok-client.field-0-0 c.in_ok-client.client
    c.pop.new.self c.in_ok-client.ensures c.get-state.result c.get-state.ensures)
    (ap (λ q. q.places) c.unlink.ensures)
