-- So far the numbers of the steps before have entered.
use Rattle.std.proofs.Common.{take}
use Rattle.blocking_pool.proofs.SweepLemmas.{HasEntered}
use Rattle.blocking_pool.proofs.pool.table.Table.enter_all.Given as goal

abbrev pub invariant-loop-no : goal.invariant-loop-no
invariant-loop-no g l = HasEntered l.fn.self (take l.no-index l.due) l.self
