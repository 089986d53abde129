use Rattle.std.proofs.Common.{option_map}
use Rattle.blocking_pool.specs.Limits.{limit_of_setting}
use Rattle.blocking_world_pool.proofs.crew.Crew.new.Goals as goal
use Rattle.blocking_world_pool.proofs.ready.Changes.{empty_ready}

pub invariant_of-result : goal.invariant_of-result
invariant_of-result c =
    empty_ready (limit_of_setting (option_map (λ text. text.now) c.args.setting)) c.new.result
    c.new-2.result c.new.ensures c.new-2.ensures
