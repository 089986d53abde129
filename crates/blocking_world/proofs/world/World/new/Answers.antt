use Rattle.std.proofs.Common.{option_map, reverse, subst, sym}
use Rattle.blocking_pool.specs.Limits.{limit_of_setting}
use Rattle.blocking_world_copiers.specs.Ties.{IsLawful}
use Rattle.blocking_world_state.proofs.laws.Legality.{positive_limit}
use Rattle.blocking_world_copiers.proofs.Begins.{begun}
use Rattle.blocking_world.proofs.world.World.new.Goals as goal

-- a new world is lawful
pub invariant_of-result : goal.invariant_of-result
invariant_of-result c =
    let none = c.new-2.ensures.items in
    subst (λ trace. IsLawful c.new.result.parts.crew.pool.counts.setting c.args.plan.items
    c.new.result (reverse trace)) (sym none)
    (begun (limit_of_setting (option_map (λ text. text.now) c.args.setting))
    c.args.plan.items c.new.result c.new.ensures
    (positive_limit (option_map (λ text. text.now) c.args.setting)))
