-- What is left of the piece still holds.
use Rattle.std.proofs.Common.{rules, ◌≡◌, ◌+◌, length, drop, min, refl, sym, subst, arith}
use Rattle.std.proofs.lemmas.List.{length-drop}
use Rattle.blocking_ends.specs.Rules.{HoldFrom}
use Rattle.blocking_ends.proofs.Kept.{hold_after}
use Rattle.blocking_ends.proofs.hand.Hand.pass.Goals as goal

pub invariant_of-self : goal.invariant_of-self
invariant_of-self g c =
    let inside = c.self.inside in
    let left : c.min.result ≡ min c.args.count (length (drop inside.gone inside.piece.items)) =
    search rules in (
      omega (arith, c.self.invariant.0, left, length-drop inside.gone inside.piece.items),
      subst (λ k. HoldFrom g.R.PlaceRule.holds (inside.received + c.args.count)
          (drop (inside.gone + k) inside.piece.items)) (sym left)
          (hold_after g.R.PlaceRule.holds inside.received (inside.received + c.args.count)
          inside.gone c.args.count inside.piece.items refl c.self.invariant.1),
      c.self.invariant.2,
      c.self.invariant.3,
    )
