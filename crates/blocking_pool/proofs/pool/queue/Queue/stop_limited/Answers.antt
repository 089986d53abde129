use Rattle.std.proofs.Common.{◌+◌, ◌<◌, ◌-◌, ◌≤◌, ◌++◌, List, length, IsPermutation, subst, sym, ap}
use Rattle.std.proofs.Common.{◌∙◌, refl, arith}
use Rattle.blocking_pool.specs.Clients.{Tally}
use Rattle.blocking_pool.specs.ClientTable.{client_at}
use Rattle.blocking_pool.specs.QueueForm.{number_by, admits, head_of}
use Rattle.blocking_pool.specs.declared.pool.clients.Client.{Client}
use Rattle.blocking_pool.specs.declared.pool.queue.Spot.{Spot}
use Rattle.blocking_pool.proofs.ClientLemmas.{client_set}
use Rattle.blocking_pool.proofs.QueueLemmas.{lowered, tally_seen, set_room, seats_again}
use Rattle.blocking_pool.proofs.QueueLemmas.{tallied_set}
use Rattle.blocking_pool.proofs.KeptLemmas.{limited, limit_seen, lined_of, held_same, kept_jobs}
use Rattle.blocking_pool.proofs.StepLemmas.{opens_first, opens_room, opens_small, opens_queue}
use Rattle.blocking_pool.proofs.pool.queue.Queue.stop_limited.Goals as goal

pub overflow_sub-running : goal.overflow_sub-running
overflow_sub-running c =
    let some = subst (λ (t : Tally). 0 < t.running)
    (tally_seen _ _ _ _ _ _ _ _ c.self.view_is c.get-state.ensures) c.requires.running in
    omega (arith, some)

pub set-requires : goal.set-requires
set-requires c =
    let some = subst (λ (t : Tally). 0 < t.running)
    (tally_seen _ _ _ _ _ _ _ _ c.self.view_is c.get-state.ensures) c.requires.running in
    set_room _ _ (λ k. k.running) c.get-state.result c.get-state.ensures refl some _

pub invariant_of-self : goal.invariant_of-self
invariant_of-self c =
    let some = subst (λ (t : Tally). 0 < t.running)
    (tally_seen _ _ _ _ _ _ _ _ c.self.view_is c.get-state.ensures) c.requires.running in
    kept_jobs _ _ _ _ _ _ _ c.self.invariant c.set.new.self.known c.args.client _ c.set.ensures
    (ap (λ (k : Client). k.line) c.get-state.ensures)
    (lowered
    c.self.inside.limit c.get-state.result.running (sym c.is_open.ensures ∙ c.if-is_open.true)
    ∙ ap (λ (k : Client). admits c.self.inside.limit k.running) c.get-state.ensures)
    (λ many. seats_again _ _ (λ k. k.running) c.get-state.result
    c.get-state.ensures refl some _ _ _ c.set.ensures (c.self.invariant.seats many))
    (ap (λ (k : Client). k.jobs) c.get-state.ensures)

pub returns-then-is_open : goal.returns-then-is_open
returns-then-is_open c = tallied_set _ _ _ _ _ _ _ _ _ c.get-state.result _ _ c.self.view_is
    c.get-state.ensures c.set.ensures refl

pub admit-requires-clause-first : goal.admit-requires-clause-first
admit-requires-clause-first c =
    let some = subst (λ (t : Tally). 0 < t.running)
    (tally_seen _ _ _ _ _ _ _ _ c.self.view_is c.get-state.ensures) c.requires.running in
    subst (λ (spots : List Spot). 0 < c.get-state.result.line.len
    → c.get-state.result.line.first < length spots) (sym c.deref.ensures.value)
    (opens_first _ _ _ _ _ _ _ (lined_of _ _ _ _ _ _ _ c.self.invariant
    (limit_seen _ _ _ _ _ _ c.self.view_is c.requires.limit)) c.set.new.self.known
    c.args.client c.get-state.result _ c.get-state.ensures c.set.ensures refl
    (sym c.is_open.ensures ∙ c.if-is_open.false)
    (λ most. seats_again _ _ (λ k. k.running) c.get-state.result c.get-state.ensures refl some _ _ _
    c.set.ensures most))

pub admit-requires-clause-room : goal.admit-requires-clause-room
admit-requires-clause-room c =
    let some = subst (λ (t : Tally). 0 < t.running)
    (tally_seen _ _ _ _ _ _ _ _ c.self.view_is c.get-state.ensures) c.requires.running in
    subst (λ spots. length (head_of (number_by spots) c.self.inside.limit
    c.args.client (record {
      line = c.get-state.result.line;
      jobs = c.get-state.result.jobs;
      running = c.get-state.result.running - 1;
    })) + length c.self.inside.heads.heads
    ≤ c.self.inside.heads.room) (sym c.deref.ensures.value)
    (opens_room _ _ _ _ _ _ _ (lined_of _ _ _ _ _ _ _ c.self.invariant
    (limit_seen _ _ _ _ _ _ c.self.view_is c.requires.limit)) c.set.new.self.known
    c.args.client c.get-state.result _ c.get-state.ensures c.set.ensures refl
    (sym c.is_open.ensures ∙ c.if-is_open.false)
    (λ most. seats_again _ _ (λ k. k.running) c.get-state.result c.get-state.ensures refl some _ _ _
    c.set.ensures most))

pub overflow_add-self : goal.overflow_add-self
overflow_add-self c =
    let some = subst (λ (t : Tally). 0 < t.running)
    (tally_seen _ _ _ _ _ _ _ _ c.self.view_is c.get-state.ensures) c.requires.running in
    let small = opens_small _ _ _ _ _ _ _ (lined_of _ _ _ _ _ _ _ c.self.invariant
    (limit_seen _ _ _ _ _ _ c.self.view_is c.requires.limit)) c.set.new.self.known
    c.args.client c.get-state.result _ c.get-state.ensures c.set.ensures refl
    (sym c.is_open.ensures ∙ c.if-is_open.false)
    (λ most. seats_again _ _ (λ k. k.running) c.get-state.result c.get-state.ensures refl some _ _ _
    c.set.ensures most) in
    omega (
      arith,
      small,
      c.admit.ensures.ready,
      c.self.inside.spots.ok.0,
      c.self.inside.spots.ok.1,
      c.self.inside.spots.small,
    )

pub invariant_of-self-2 : goal.invariant_of-self-2
invariant_of-self-2 c =
    let some = subst (λ (t : Tally). 0 < t.running)
    (tally_seen _ _ _ _ _ _ _ _ c.self.view_is c.get-state.ensures) c.requires.running in
    limited _ _ _ _ _ _ _ (limit_seen _ _ _ _ _ _ c.self.view_is c.requires.limit)
    (opens_queue _ _ _ _ _ _ _ (lined_of _ _ _ _ _ _ _ c.self.invariant
    (limit_seen _ _ _ _ _ _ c.self.view_is c.requires.limit)) c.set.new.self.known
    c.args.client c.get-state.result _ c.get-state.ensures c.set.ensures refl
    (sym c.is_open.ensures ∙ c.if-is_open.false)
    (λ most. seats_again _ _ (λ k. k.running) c.get-state.result c.get-state.ensures refl some _ _ _
    c.set.ensures most) c.admit.new.heads c.admit.result
    (subst (λ spots. IsPermutation (head_of (number_by spots) c.self.inside.limit c.args.client
    (record {
      line = c.get-state.result.line;
      jobs = c.get-state.result.jobs;
      running = c.get-state.result.running - 1;
    }) ++ c.self.inside.heads.heads)
    c.admit.new.heads.heads) c.deref.ensures.value c.admit.ensures.heads)
    c.admit.ensures.kept c.admit.ensures.ready)
    (held_same _ _ _ _ c.args.client _ c.self.invariant.held (λ q. ap (λ k. client_at k q)
    c.set.ensures ∙ client_set _ _ _ q) (ap (λ (k : Client). k.jobs) c.get-state.ensures))

pub returns : goal.returns
returns c = tallied_set _ _ _ _ _ _ _ _ _ c.get-state.result _ _ c.self.view_is c.get-state.ensures
    c.set.ensures refl
