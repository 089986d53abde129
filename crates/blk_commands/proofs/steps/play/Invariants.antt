-- So far the instructions were played.
use Rattle.std.proofs.Common.{[], take}
use Rattle.blk_commands.specs.Plays.{PlaysInstructions, Takes}
use Rattle.blk_commands.proofs.steps.play.Given as goal

abbrev pub invariant-loop-instruction : goal.invariant-loop-instruction
invariant-loop-instruction l = Takes (PlaysInstructions (take l.instruction-index l.instructions))
    l.fn.world.history l.world.history [] l.events.items
