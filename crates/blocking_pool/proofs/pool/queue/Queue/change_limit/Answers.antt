use Rattle.std.proofs.Common.{◌≤◌, length, refl, subst, sym, Some, arith}
use Rattle.blocking_pool.specs.Growth.{greatest}
use Rattle.blocking_pool.specs.QueueForm.{Fits, AreAnew}
use Rattle.blocking_pool.proofs.AdmitLemmas.{fits_anew}
use Rattle.blocking_pool.proofs.StepLemmas.{base_of, queue_anew}
use Rattle.blocking_pool.proofs.KeptLemmas.{limited, limit_seen, lined_of}
use Rattle.blocking_pool.proofs.pool.queue.Queue.change_limit.Goals as goal

pub heads_anew-self-inside-requires : goal.heads_anew-self-inside-requires
heads_anew-self-inside-requires c entries all =
    let small : length c.self.inside.spots.items ≤ greatest = omega (
      arith,
      c.self.inside.spots.ok.0,
      c.self.inside.spots.ok.1,
      c.self.inside.spots.small,
    ) in
    let lined = lined_of _ _ _ _ _ _ _ c.self.invariant
    (limit_seen _ _ _ _ _ _ c.self.view_is c.requires) in
    subst (λ spots. Fits spots (Some c.args.most) c.self.inside.heads.room entries)
    (sym c.deref.ensures.value)
    (fits_anew _ _ _ _ _ (base_of _ _ _ _ _ _ _ lined) (Some c.args.most) entries all small)

pub invariant_of-self : goal.invariant_of-self
invariant_of-self c =
    let lined = lined_of _ _ _ _ _ _ _ c.self.invariant
    (limit_seen _ _ _ _ _ _ c.self.view_is c.requires) in
    limited _ _ _ _ _ _ (Some c.args.most) refl
    (queue_anew c.self.inside.places c.self.inside.spots.items c.self.inside.clients.known
    c.self.inside.heads c.heads_anew-self-inside.new.heads (Some c.args.most)
    c.heads_anew-self-inside.result c.self.inside.next
    (base_of _ _ _ _ _ _ _ lined) c.self.invariant.chain_room lined.left
    (subst (λ spots. AreAnew c.self.inside.clients.known spots (Some c.args.most)
    c.self.inside.heads c.heads_anew-self-inside.new.heads c.heads_anew-self-inside.result)
    c.deref.ensures.value c.heads_anew-self-inside.ensures))
    c.self.invariant.held
