-- So far the actions of the actor were taken, one at least; the list of events has room for so many
-- more.
use Rattle.std.proofs.Common.{◌-◌, ◌^◌, vec_len}
use Rattle.blk_commands.specs.Plays.{Repeats, Takes}
use Rattle.blk_commands.proofs.steps.take_all.Given as goal

abbrev pub invariant-loop-alloc : goal.invariant-loop-alloc
invariant-loop-alloc l =
    Takes (Repeats l.actor) l.fn.world.history l.world.history l.fn.events.items l.events.items

abbrev pub decreases-loop-alloc : goal.decreases-loop-alloc
decreases-loop-alloc l = 2 ^ 64 - vec_len l.events
