use Rattle.std.proofs.Common.{◌+◌, ◌++◌, ◌∷◌, [], take, ap, sym, ◌∙◌}
use Rattle.std.proofs.lemmas.List.{take_more}
use Rattle.blocking_pool.proofs.SweepLemmas.{still_parked, one_entered}
use Rattle.blocking_pool.proofs.pool.table.Table.enter_all.Goals as goal

pub enter_again-requires : goal.enter_again-requires
enter_again-requires g c =
    still_parked c.args.self.now c.loop-no.self c.args.due.now c.loop-no.no-index c.no-item.result
    c.loop-no-test.true c.no-item.is c.requires.once c.requires.parked c.loop-no.invariant

pub loop-no-preserved : goal.loop-no-preserved
loop-no-preserved g c =
    one_entered c.args.self.now c.loop-no.self c.enter_again.new.self
    (take c.loop-no.no-index c.args.due.now) (take (c.loop-no.no-index + 1) c.args.due.now)
    c.no-item.result
    (take_more c.args.due.now c.loop-no.no-index c.no-item.result c.loop-no-test.true
    ∙ ap (λ no. take c.loop-no.no-index c.args.due.now ++ no ∷ []) (sym c.no-item.is))
    c.loop-no.invariant c.enter_again.ensures
