use Rattle.blocking_headline.proofs.Sentences.{in_order, take, held, turn, within, reads, writes}
use Rattle.blocking_headline.proofs.All.{all}
use Rattle.blocking_headline.proofs.TaskWakes.{tasks}
use Rattle.blocking_headline.proofs.OwnerWakes.{owners}
use Rattle.blocking_headline.proofs.Frame.{whole}
use Rattle.blocking_headline.proofs.Alone.{same}
use Rattle.blocking_headline.proofs.Copied.{copies}
use Rattle.blocking_headline.proofs.headline.Goals as goal

pub returns-clause-in_order : goal.returns-clause-in_order
returns-clause-in_order c = in_order

pub returns-clause-take : goal.returns-clause-take
returns-clause-take c = take

pub returns-clause-held : goal.returns-clause-held
returns-clause-held c = held

pub returns-clause-turn : goal.returns-clause-turn
returns-clause-turn c = turn

pub returns-clause-within : goal.returns-clause-within
returns-clause-within c = within

pub returns-clause-reads : goal.returns-clause-reads
returns-clause-reads c = reads

pub returns-clause-writes : goal.returns-clause-writes
returns-clause-writes c = writes

pub returns-clause-all : goal.returns-clause-all
returns-clause-all c = all

pub returns-clause-tasks : goal.returns-clause-tasks
returns-clause-tasks c = tasks

pub returns-clause-owners : goal.returns-clause-owners
returns-clause-owners c = owners

pub returns-clause-page : goal.returns-clause-page
returns-clause-page c = whole

pub returns-clause-copies : goal.returns-clause-copies
returns-clause-copies c = copies

pub returns-clause-alone : goal.returns-clause-alone
returns-clause-alone c = same
