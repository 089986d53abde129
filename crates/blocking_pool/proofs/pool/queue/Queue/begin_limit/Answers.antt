use Rattle.std.proofs.Common.{◌≡◌, ◌≤◌, map, length, refl, subst, sym, ap, ◌∙◌, Some, arith}
use Rattle.std.proofs.lemmas.List.{with_items_is}
use Rattle.blocking_pool.specs.Growth.{greatest}
use Rattle.blocking_pool.specs.QueueForm.{Fits, AreAnew, AreHeld, IsQueue, LinesUp}
use Rattle.blocking_pool.specs.declared.pool.queue.Spot.{Spot}
use Rattle.blocking_pool.proofs.AdmitLemmas.{fits_anew}
use Rattle.blocking_pool.proofs.StepLemmas.{queue_anew}
use Rattle.blocking_pool.proofs.KeptLemmas.{limited, unlimited_seen, no_lines_in}
use Rattle.blocking_pool.proofs.LineUpLemmas.{base_up, held_up, owners_up, holds_counts}
use Rattle.blocking_pool.proofs.pool.queue.Queue.begin_limit.Goals as goal

pub line_up-self-inside-requires-clause-empty : goal.line_up-self-inside-requires-clause-empty
line_up-self-inside-requires-clause-empty c = (no_lines_in _ _ _ _ _ _ _
    (unlimited_seen _ _ _ _ _ _ c.self.view_is c.requires) c.self.invariant.lines).0

pub line_up-self-inside-requires-clause-held : goal.line_up-self-inside-requires-clause-held
line_up-self-inside-requires-clause-held c =
    subst (λ spots. AreHeld spots c.self.inside.clients.known c.self.inside.places.places)
    (sym c.deref_mut.ensures.value) c.self.invariant.held

pub heads_anew-self-inside-requires : goal.heads_anew-self-inside-requires
heads_anew-self-inside-requires c entries all =
    let up = subst (λ spots. LinesUp spots c.line_up-self-inside.new.spots
    c.self.inside.clients.known c.line_up-self-inside.new.clients.known
    c.self.inside.places.places c.line_up-self-inside.result)
    c.deref_mut.ensures.value c.line_up-self-inside.ensures in
    let long : length c.line_up-self-inside.new.spots ≡ c.self.inside.spots.len =
    (let same = up.count in omega (arith, same, c.self.inside.spots.ok.0)) in
    let spots = with_items_is c.self.inside.spots c.line_up-self-inside.new.spots long in
    let small : length c.line_up-self-inside.new.spots ≤ greatest =
    omega (arith, long, c.self.inside.spots.ok.1, c.self.inside.spots.small) in
    subst (λ spots. Fits spots (Some c.args.most) c.self.inside.heads.room entries)
    (sym (c.deref.ensures.value ∙ spots))
    (fits_anew _ _ _ _ _ (base_up _ _ _ _ _ _ up c.self.inside.heads.room c.self.invariant.seats)
    (Some c.args.most) entries all small)

pub invariant_of-self : goal.invariant_of-self
invariant_of-self c =
    let up = subst (λ spots. LinesUp spots c.line_up-self-inside.new.spots
    c.self.inside.clients.known c.line_up-self-inside.new.clients.known
    c.self.inside.places.places c.line_up-self-inside.result)
    c.deref_mut.ensures.value c.line_up-self-inside.ensures in
    let long : length c.line_up-self-inside.new.spots ≡ c.self.inside.spots.len =
    (let same = up.count in omega (arith, same, c.self.inside.spots.ok.0)) in
    let spots = with_items_is c.self.inside.spots c.line_up-self-inside.new.spots long in
    subst (λ spots. IsQueue c.self.inside.places spots c.line_up-self-inside.new.clients.known
    c.heads_anew-self-inside.new.heads (Some c.args.most) c.heads_anew-self-inside.result
    c.line_up-self-inside.result) (sym spots)
    (limited _ _ _ _ _ _ (Some c.args.most) refl
    (queue_anew c.self.inside.places c.line_up-self-inside.new.spots
    c.line_up-self-inside.new.clients.known c.self.inside.heads
    c.heads_anew-self-inside.new.heads (Some c.args.most) c.heads_anew-self-inside.result
    c.line_up-self-inside.result
    (base_up _ _ _ _ _ _ up c.self.inside.heads.room c.self.invariant.seats) (let same = up.count in
    let room = c.self.invariant.chain_room in omega (arith, same, room)) up.lined.left
    (subst (λ spots. AreAnew c.line_up-self-inside.new.clients.known spots (Some c.args.most)
    c.self.inside.heads c.heads_anew-self-inside.new.heads c.heads_anew-self-inside.result)
    (c.deref.ensures.value ∙ spots) c.heads_anew-self-inside.ensures))
    (held_up _ _ _ _ _ _ up c.self.invariant.held))

pub returns-clause-same : goal.returns-clause-same
returns-clause-same c =
    let up = subst (λ spots. LinesUp spots c.line_up-self-inside.new.spots
    c.self.inside.clients.known c.line_up-self-inside.new.clients.known
    c.self.inside.places.places c.line_up-self-inside.result)
    c.deref_mut.ensures.value c.line_up-self-inside.ensures in
    let long : length c.line_up-self-inside.new.spots ≡ c.self.inside.spots.len =
    (let same = up.count in omega (arith, same, c.self.inside.spots.ok.0)) in
    let spots = with_items_is c.self.inside.spots c.line_up-self-inside.new.spots long in
    holds_counts _ _ _ _ _ _ _ _ _ c.self.view_is
    (ap (map (λ (s : Spot). s.client)) spots ∙ owners_up _ _ _ _ _ _ up) up.same
