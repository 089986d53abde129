use Rattle.std.proofs.Common.{refl, ◌∙◌}
use Rattle.std.proofs.lemmas.List.{map-set}
use Rattle.std.proofs.Math.Seq.{map-set_same}
use Rattle.blocking_pool.specs.QueueForm.{nowhere}
use Rattle.blocking_pool.specs.declared.pool.queue.Spot.{Spot}
use Rattle.blocking_pool.proofs.pool.queue.append.Goals as goal

pub returns-then-line-eq0-clause-owners : goal.returns-then-line-eq0-clause-owners
returns-then-line-eq0-clause-owners c =
    map-set (λ (s : Spot). s.client) c.args.spots.now c.args.place c.args.spot

pub returns-clause-owners : goal.returns-clause-owners
returns-clause-owners c = map-set_same (λ (s : Spot). s.client) _ c.args.line.last _ nowhere refl
    ∙ map-set (λ (s : Spot). s.client) c.args.spots.now c.args.place c.args.spot
