-- What is stripped is the letter, and what is left stands behind it.
use Rattle.blk_commands.proofs.Numbers.{stripped}
use Rattle.blk_commands.proofs.number.behind.Goals as goal

pub returns : goal.returns
returns c = stripped c.args.letter c.args.word.now c.strip_prefix.result
    c.strip_prefix.ensures.cases c.requires.some c.requires.ascii
