-- An edit makes this false. With an answer of its own it is refused without a second search.
use Rattle.std.proofs.Common.{rules}
use Rattle.blocking_sync.proofs.slot.RuledSlot.abandon.Goals as goal

pub returns-clause-slot : goal.returns-clause-slot
returns-clause-slot g c = search rules

pub returns-clause-found : goal.returns-clause-found
returns-clause-found g c = search rules
