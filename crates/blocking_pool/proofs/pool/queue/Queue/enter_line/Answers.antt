use Rattle.std.proofs.Common.{◌≡◌, ◌<◌, ◌+◌, ◌++◌, false, map, set, length, IsPermutation, refl}
use Rattle.std.proofs.Common.{sym, ap, ◌∙◌, subst, arith}
use Rattle.std.proofs.lemmas.List.{length-map, with_items_is}
use Rattle.std.specs.Vec.{with_items}
use Rattle.blocking_pool.specs.Chain.{Chain}
use Rattle.blocking_pool.specs.Growth.{greatest}
use Rattle.blocking_pool.specs.Lists.{is_in}
use Rattle.blocking_pool.specs.Clients.{Tally}
use Rattle.blocking_pool.specs.Hangs.{one_if}
use Rattle.blocking_pool.specs.Queue.{Queue}
use Rattle.blocking_pool.specs.QueueForm.{Appends, Renumbers, Fits, AreAnew, AreHeld, IsQueue}
use Rattle.blocking_pool.specs.declared.pool.clients.Client.{Client}
use Rattle.blocking_pool.specs.declared.pool.queue.Spot.{Spot}
use Rattle.blocking_pool.proofs.AdmitLemmas.{IsBase, fits_anew}
use Rattle.blocking_pool.proofs.QueueLemmas.{tally_seen, set_room, seats_again}
use Rattle.blocking_pool.proofs.StepLemmas.{queue_anew}
use Rattle.blocking_pool.proofs.KeptLemmas.{limited, limit_seen, lined_of, counts_set, held_more}
use Rattle.blocking_pool.proofs.EnterLemmas.{new_head, end_within, line_small, came_base, came_seat}
use Rattle.blocking_pool.proofs.EnterLemmas.{came_small, came_queue, base_renumbered, later_small}
use Rattle.blocking_pool.proofs.EnterLemmas.{owners_renumbered, holds_entered}
use Rattle.blocking_pool.proofs.pool.queue.Queue.enter_line.Goals as goal

pub append-line-requires-clause-last : goal.append-line-requires-clause-last
append-line-requires-clause-last c =
    subst (λ spots. 0 < c.get-state.result.line.len
    → c.get-state.result.line.last < length {A = Spot} spots) (sym c.deref_mut.ensures.value)
    (end_within _ _ _ _ _ _ _ (lined_of _ _ _ _ _ _ _ c.self.invariant
    (limit_seen _ _ _ _ _ _ c.self.view_is c.requires.limit)) c.args.place c.args.client
    c.get-state.result c.get-state.ensures)

pub append-line-requires-clause-few : goal.append-line-requires-clause-few
append-line-requires-clause-few c =
    let small = line_small _ _ _ _ _ _ _ (lined_of _ _ _ _ _ _ _ c.self.invariant
    (limit_seen _ _ _ _ _ _ c.self.view_is c.requires.limit)) c.args.place c.args.client
    c.get-state.result c.get-state.ensures in
    omega (
      arith,
      small,
      c.self.inside.spots.ok.0,
      c.self.inside.spots.ok.1,
      c.self.inside.spots.small,
    )

pub set-requires : goal.set-requires
set-requires c =
    let some = subst (λ (t : Tally). 0 < t.jobs)
    (tally_seen _ _ _ _ _ _ _ _ c.self.view_is c.get-state.ensures) c.requires.client in
    set_room _ _ (λ k. k.jobs) c.get-state.result c.get-state.ensures refl some _

pub admit_entry-requires : goal.admit_entry-requires
admit_entry-requires c free none =
    let room : c.args.place < length c.self.inside.spots.items =
    (let long = ap (λ (v : Queue). length v.owners) c.self.view_is in
    let mapped = length-map c.self.inside.spots.items (λ (s : Spot). s.client) in
    omega (arith, long, mapped, c.requires.room)) in
    let fresh = subst (λ (v : Queue). is_in c.args.place v.places ≡ false) (sym c.self.view_is)
    c.requires.fresh in
    let appended =
    subst (λ spots. Appends spots c.append-line.new.spots c.get-state.result.line c.args.place
    (record { client = c.args.client; number = c.self.inside.next; after = c.args.place }))
    c.deref_mut.ensures.value c.append-line.ensures.spots in
    let some = subst (λ (t : Tally). 0 < t.jobs)
    (tally_seen _ _ _ _ _ _ _ _ c.self.view_is c.get-state.ensures) c.requires.client in
    came_seat _ _ _ _ _ _ _ (lined_of _ _ _ _ _ _ _ c.self.invariant
    (limit_seen _ _ _ _ _ _ c.self.view_is c.requires.limit)) c.args.place c.args.client
    c.get-state.result c.get-state.ensures room fresh c.append-line.new.spots appended
    c.set.new.self.known _ c.set.ensures c.append-line.ensures.line refl
    (λ most. seats_again _ _ (λ k. k.jobs) c.get-state.result c.get-state.ensures refl some _ _ _
    c.set.ensures most) (sym c.is_open-may_run.ensures ∙ free) none

pub overflow_add-self : goal.overflow_add-self
overflow_add-self c =
    let room : c.args.place < length c.self.inside.spots.items =
    (let long = ap (λ (v : Queue). length v.owners) c.self.view_is in
    let mapped = length-map c.self.inside.spots.items (λ (s : Spot). s.client) in
    omega (arith, long, mapped, c.requires.room)) in
    let fresh = subst (λ (v : Queue). is_in c.args.place v.places ≡ false) (sym c.self.view_is)
    c.requires.fresh in
    let appended =
    subst (λ spots. Appends spots c.append-line.new.spots c.get-state.result.line c.args.place
    (record { client = c.args.client; number = c.self.inside.next; after = c.args.place }))
    c.deref_mut.ensures.value c.append-line.ensures.spots in
    let some = subst (λ (t : Tally). 0 < t.jobs)
    (tally_seen _ _ _ _ _ _ _ _ c.self.view_is c.get-state.ensures) c.requires.client in
    let long : length c.append-line.new.spots ≡ c.self.inside.spots.len =
    (let same = appended.count in omega (arith, same, c.self.inside.spots.ok.0)) in
    let small = came_small _ _ _ _ _ _ _ (lined_of _ _ _ _ _ _ _ c.self.invariant
    (limit_seen _ _ _ _ _ _ c.self.view_is c.requires.limit)) c.args.place c.args.client
    c.get-state.result c.get-state.ensures room fresh c.append-line.new.spots appended
    c.set.new.self.known _ c.set.ensures c.append-line.ensures.line refl
    (λ most. seats_again _ _ (λ k. k.jobs) c.get-state.result c.get-state.ensures refl some _ _ _
    c.set.ensures most) in
    let one = ap one_if c.is_open-may_run.ensures in
    omega (
      arith,
      small,
      long,
      one,
      c.admit_entry.ensures.ready,
      c.self.inside.spots.ok.1,
      c.self.inside.spots.small,
    )

pub invariant_of-self : goal.invariant_of-self
invariant_of-self c =
    let room : c.args.place < length c.self.inside.spots.items =
    (let long = ap (λ (v : Queue). length v.owners) c.self.view_is in
    let mapped = length-map c.self.inside.spots.items (λ (s : Spot). s.client) in
    omega (arith, long, mapped, c.requires.room)) in
    let fresh = subst (λ (v : Queue). is_in c.args.place v.places ≡ false) (sym c.self.view_is)
    c.requires.fresh in
    let appended =
    subst (λ spots. Appends spots c.append-line.new.spots c.get-state.result.line c.args.place
    (record { client = c.args.client; number = c.self.inside.next; after = c.args.place }))
    c.deref_mut.ensures.value c.append-line.ensures.spots in
    let some = subst (λ (t : Tally). 0 < t.jobs)
    (tally_seen _ _ _ _ _ _ _ _ c.self.view_is c.get-state.ensures) c.requires.client in
    let long : length c.append-line.new.spots ≡ c.self.inside.spots.len =
    (let same = appended.count in omega (arith, same, c.self.inside.spots.ok.0)) in
    let spots = with_items_is c.self.inside.spots c.append-line.new.spots long in
    let pushed = ap (λ (q : Chain). q.places) c.push_back.ensures in
    subst (λ spots. IsQueue c.push_back.new.self spots c.set.new.self.known c.admit_entry.new.heads
    c.self.inside.limit (c.self.inside.ready + c.admit_entry.result) (c.self.inside.next + 1))
    (sym spots)
    (limited _ _ _ _ _ _ _ (limit_seen _ _ _ _ _ _ c.self.view_is c.requires.limit)
    (came_queue _ _ _ _ _ _ _ (lined_of _ _ _ _ _ _ _ c.self.invariant
    (limit_seen _ _ _ _ _ _ c.self.view_is c.requires.limit)) c.args.place c.args.client
    c.get-state.result c.get-state.ensures room fresh c.append-line.new.spots appended
    c.set.new.self.known _ c.set.ensures c.append-line.ensures.line refl
    (λ most. seats_again _ _ (λ k. k.jobs) c.get-state.result c.get-state.ensures refl some _ _
    _ c.set.ensures most) c.push_back.new.self c.admit_entry.new.heads c.admit_entry.result
    c.push_back.ensures
    (subst (λ b. IsPermutation (new_head b c.get-state.result.line c.self.inside.next c.args.client
    ++ c.self.inside.heads.heads) c.admit_entry.new.heads.heads) c.is_open-may_run.ensures
    c.admit_entry.ensures.heads)
    c.admit_entry.ensures.kept (c.admit_entry.ensures.ready ∙ ap one_if c.is_open-may_run.ensures)
    c.if-self-lt18446744073709551615.true)
    (subst (AreHeld c.append-line.new.spots c.set.new.self.known) (sym pushed)
    (held_more _ _ _ _ _ c.args.place c.args.client c.self.invariant.held
    (counts_set _ c.args.client c.get-state.result _ _ c.get-state.ensures c.set.ensures refl)
    fresh appended.clients
    (subst (λ (k : Client). 0 < k.jobs) c.get-state.ensures some))))

pub returns-then-self-lt18446744073709551615 : goal.returns-then-self-lt18446744073709551615
returns-then-self-lt18446744073709551615 c =
    let appended =
    subst (λ spots. Appends spots c.append-line.new.spots c.get-state.result.line c.args.place
    (record { client = c.args.client; number = c.self.inside.next; after = c.args.place }))
    c.deref_mut.ensures.value c.append-line.ensures.spots in
    let long : length c.append-line.new.spots ≡ c.self.inside.spots.len =
    (let same = appended.count in omega (arith, same, c.self.inside.spots.ok.0)) in
    let spots = with_items_is c.self.inside.spots c.append-line.new.spots long in
    let pushed = ap (λ (q : Chain). q.places) c.push_back.ensures in
    holds_entered _ _ _ _ _ _ _ _ _ _ c.args.client c.args.place c.get-state.result _ c.self.view_is
    c.get-state.ensures c.set.ensures refl pushed
    (ap (map (λ (s : Spot). s.client)) spots
    ∙ subst (λ spots. map (λ (s : Spot). s.client) c.append-line.new.spots
    ≡ set (map (λ (s : Spot). s.client) spots) c.args.place c.args.client)
    c.deref_mut.ensures.value c.append-line.ensures.owners)

pub heads_anew-self-inside-requires : goal.heads_anew-self-inside-requires
heads_anew-self-inside-requires c entries all =
    let room : c.args.place < length c.self.inside.spots.items =
    (let long = ap (λ (v : Queue). length v.owners) c.self.view_is in
    let mapped = length-map c.self.inside.spots.items (λ (s : Spot). s.client) in
    omega (arith, long, mapped, c.requires.room)) in
    let fresh = subst (λ (v : Queue). is_in c.args.place v.places ≡ false) (sym c.self.view_is)
    c.requires.fresh in
    let appended =
    subst (λ spots. Appends spots c.append-line.new.spots c.get-state.result.line c.args.place
    (record { client = c.args.client; number = c.self.inside.next; after = c.args.place }))
    c.deref_mut.ensures.value c.append-line.ensures.spots in
    let some = subst (λ (t : Tally). 0 < t.jobs)
    (tally_seen _ _ _ _ _ _ _ _ c.self.view_is c.get-state.ensures) c.requires.client in
    let long : length c.append-line.new.spots ≡ c.self.inside.spots.len =
    (let same = appended.count in omega (arith, same, c.self.inside.spots.ok.0)) in
    let spots = with_items_is c.self.inside.spots c.append-line.new.spots long in
    let pushed = ap (λ (q : Chain). q.places) c.push_back.ensures in
    let numbered = subst (λ spots. Renumbers spots c.number_anew-self-inside.new.spots
    c.push_back.new.self.places c.number_anew-self-inside.result)
    (c.deref_mut-2.ensures.value ∙ spots) c.number_anew-self-inside.ensures in
    let long_now : length c.number_anew-self-inside.new.spots ≡ c.self.inside.spots.len =
    numbered.count ∙ long in
    let spots_now = with_items_is (with_items c.self.inside.spots c.append-line.new.spots)
    c.number_anew-self-inside.new.spots long_now in
    let base = subst (λ places. IsBase places c.append-line.new.spots c.set.new.self.known
    c.admit_entry.new.heads.room (c.self.inside.next + 1)) (sym pushed)
    (came_base _ _ _ _ _ _ _ (lined_of _ _ _ _ _ _ _ c.self.invariant
    (limit_seen _ _ _ _ _ _ c.self.view_is c.requires.limit)) c.args.place c.args.client
    c.get-state.result c.get-state.ensures room fresh c.append-line.new.spots appended
    c.set.new.self.known _ c.set.ensures c.append-line.ensures.line refl
    (λ most. seats_again _ _ (λ k. k.jobs) c.get-state.result c.get-state.ensures refl some _ _ _
    c.set.ensures most) c.admit_entry.new.heads.room c.admit_entry.ensures.kept) in
    let again = base_renumbered c.push_back.new.self.places c.append-line.new.spots
    c.number_anew-self-inside.new.spots c.set.new.self.known c.admit_entry.new.heads.room
    (c.self.inside.next + 1) c.number_anew-self-inside.result base numbered in
    let small : length c.append-line.new.spots < greatest =
    omega (arith, long, c.self.inside.spots.ok.1, c.self.inside.spots.small) in
    subst (λ spots. Fits spots c.self.inside.limit c.admit_entry.new.heads.room entries)
    (sym (c.deref.ensures.value ∙ spots_now))
    (fits_anew _ _ _ _ _ again c.self.inside.limit entries all
    (let same = numbered.count in omega (arith, same, small)))

pub invariant_of-self-2 : goal.invariant_of-self-2
invariant_of-self-2 c =
    let room : c.args.place < length c.self.inside.spots.items =
    (let long = ap (λ (v : Queue). length v.owners) c.self.view_is in
    let mapped = length-map c.self.inside.spots.items (λ (s : Spot). s.client) in
    omega (arith, long, mapped, c.requires.room)) in
    let fresh = subst (λ (v : Queue). is_in c.args.place v.places ≡ false) (sym c.self.view_is)
    c.requires.fresh in
    let appended =
    subst (λ spots. Appends spots c.append-line.new.spots c.get-state.result.line c.args.place
    (record { client = c.args.client; number = c.self.inside.next; after = c.args.place }))
    c.deref_mut.ensures.value c.append-line.ensures.spots in
    let some = subst (λ (t : Tally). 0 < t.jobs)
    (tally_seen _ _ _ _ _ _ _ _ c.self.view_is c.get-state.ensures) c.requires.client in
    let long : length c.append-line.new.spots ≡ c.self.inside.spots.len =
    (let same = appended.count in omega (arith, same, c.self.inside.spots.ok.0)) in
    let spots = with_items_is c.self.inside.spots c.append-line.new.spots long in
    let pushed = ap (λ (q : Chain). q.places) c.push_back.ensures in
    let numbered = subst (λ spots. Renumbers spots c.number_anew-self-inside.new.spots
    c.push_back.new.self.places c.number_anew-self-inside.result)
    (c.deref_mut-2.ensures.value ∙ spots) c.number_anew-self-inside.ensures in
    let long_now : length c.number_anew-self-inside.new.spots ≡ c.self.inside.spots.len =
    numbered.count ∙ long in
    let spots_now = with_items_is (with_items c.self.inside.spots c.append-line.new.spots)
    c.number_anew-self-inside.new.spots long_now in
    let base = subst (λ places. IsBase places c.append-line.new.spots c.set.new.self.known
    c.admit_entry.new.heads.room (c.self.inside.next + 1)) (sym pushed)
    (came_base _ _ _ _ _ _ _ (lined_of _ _ _ _ _ _ _ c.self.invariant
    (limit_seen _ _ _ _ _ _ c.self.view_is c.requires.limit)) c.args.place c.args.client
    c.get-state.result c.get-state.ensures room fresh c.append-line.new.spots appended
    c.set.new.self.known _ c.set.ensures c.append-line.ensures.line refl
    (λ most. seats_again _ _ (λ k. k.jobs) c.get-state.result c.get-state.ensures refl some _ _ _
    c.set.ensures most) c.admit_entry.new.heads.room c.admit_entry.ensures.kept) in
    let again = base_renumbered c.push_back.new.self.places c.append-line.new.spots
    c.number_anew-self-inside.new.spots c.set.new.self.known c.admit_entry.new.heads.room
    (c.self.inside.next + 1) c.number_anew-self-inside.result base numbered in
    let small : length c.append-line.new.spots < greatest =
    omega (arith, long, c.self.inside.spots.ok.1, c.self.inside.spots.small) in
    subst (λ spots.
    IsQueue c.push_back.new.self spots c.set.new.self.known c.heads_anew-self-inside.new.heads
    c.self.inside.limit c.heads_anew-self-inside.result c.number_anew-self-inside.result)
    (sym spots_now)
    (limited _ _ _ _ _ _ _ (limit_seen _ _ _ _ _ _ c.self.view_is c.requires.limit)
    (queue_anew c.push_back.new.self c.number_anew-self-inside.new.spots c.set.new.self.known
    c.admit_entry.new.heads c.heads_anew-self-inside.new.heads c.self.inside.limit
    c.heads_anew-self-inside.result c.number_anew-self-inside.result again
    (let same = numbered.count in let space = ap (λ (q : Chain). q.room) c.push_back.ensures in
    let fits = c.self.invariant.chain_room in let count = appended.count in
    omega (arith, same, space, fits, count))
    (later_small c.push_back.new.self.places c.append-line.new.spots
    c.number_anew-self-inside.new.spots c.set.new.self.known c.admit_entry.new.heads.room
    (c.self.inside.next + 1) c.number_anew-self-inside.result base numbered small)
    (subst (λ spots. AreAnew c.set.new.self.known spots c.self.inside.limit c.admit_entry.new.heads
    c.heads_anew-self-inside.new.heads c.heads_anew-self-inside.result)
    (c.deref.ensures.value ∙ spots_now) c.heads_anew-self-inside.ensures))
    (subst (AreHeld c.number_anew-self-inside.new.spots c.set.new.self.known) (sym pushed)
    (held_more _ _ _ _ _ c.args.place c.args.client c.self.invariant.held (counts_set _
    c.args.client c.get-state.result _ _ c.get-state.ensures c.set.ensures refl) fresh
    (λ p. numbered.clients p ∙ appended.clients p)
    (subst (λ (k : Client). 0 < k.jobs) c.get-state.ensures some))))

pub returns : goal.returns
returns c =
    let room : c.args.place < length c.self.inside.spots.items =
    (let long = ap (λ (v : Queue). length v.owners) c.self.view_is in
    let mapped = length-map c.self.inside.spots.items (λ (s : Spot). s.client) in
    omega (arith, long, mapped, c.requires.room)) in
    let fresh = subst (λ (v : Queue). is_in c.args.place v.places ≡ false) (sym c.self.view_is)
    c.requires.fresh in
    let appended =
    subst (λ spots. Appends spots c.append-line.new.spots c.get-state.result.line c.args.place
    (record { client = c.args.client; number = c.self.inside.next; after = c.args.place }))
    c.deref_mut.ensures.value c.append-line.ensures.spots in
    let some = subst (λ (t : Tally). 0 < t.jobs)
    (tally_seen _ _ _ _ _ _ _ _ c.self.view_is c.get-state.ensures) c.requires.client in
    let long : length c.append-line.new.spots ≡ c.self.inside.spots.len =
    (let same = appended.count in omega (arith, same, c.self.inside.spots.ok.0)) in
    let spots = with_items_is c.self.inside.spots c.append-line.new.spots long in
    let pushed = ap (λ (q : Chain). q.places) c.push_back.ensures in
    let numbered = subst (λ spots. Renumbers spots c.number_anew-self-inside.new.spots
    c.push_back.new.self.places c.number_anew-self-inside.result)
    (c.deref_mut-2.ensures.value ∙ spots) c.number_anew-self-inside.ensures in
    let long_now : length c.number_anew-self-inside.new.spots ≡ c.self.inside.spots.len =
    numbered.count ∙ long in
    let spots_now = with_items_is (with_items c.self.inside.spots c.append-line.new.spots)
    c.number_anew-self-inside.new.spots long_now in
    let base = subst (λ places. IsBase places c.append-line.new.spots c.set.new.self.known
    c.admit_entry.new.heads.room (c.self.inside.next + 1)) (sym pushed)
    (came_base _ _ _ _ _ _ _ (lined_of _ _ _ _ _ _ _ c.self.invariant
    (limit_seen _ _ _ _ _ _ c.self.view_is c.requires.limit)) c.args.place c.args.client
    c.get-state.result c.get-state.ensures room fresh c.append-line.new.spots appended
    c.set.new.self.known _ c.set.ensures c.append-line.ensures.line refl
    (λ most. seats_again _ _ (λ k. k.jobs) c.get-state.result c.get-state.ensures refl some _ _ _
    c.set.ensures most) c.admit_entry.new.heads.room c.admit_entry.ensures.kept) in
    let again = base_renumbered c.push_back.new.self.places c.append-line.new.spots
    c.number_anew-self-inside.new.spots c.set.new.self.known c.admit_entry.new.heads.room
    (c.self.inside.next + 1) c.number_anew-self-inside.result base numbered in
    holds_entered _ _ _ _ _ _ _ _ _ _ c.args.client c.args.place c.get-state.result _ c.self.view_is
    c.get-state.ensures c.set.ensures refl pushed
    (ap (map (λ (s : Spot). s.client)) spots_now
    ∙ owners_renumbered c.push_back.new.self.places c.append-line.new.spots
    c.number_anew-self-inside.new.spots c.set.new.self.known c.admit_entry.new.heads.room
    (c.self.inside.next + 1) c.number_anew-self-inside.result base numbered
    ∙ subst (λ spots. map (λ (s : Spot). s.client) c.append-line.new.spots
    ≡ set (map (λ (s : Spot). s.client) spots) c.args.place c.args.client)
    c.deref_mut.ensures.value c.append-line.ensures.owners)
