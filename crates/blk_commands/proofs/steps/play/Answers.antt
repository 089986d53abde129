-- One more instruction was played.
use Rattle.std.proofs.Common.{[], ◌∷◌, ◌++◌, ap, sym, subst, take, ◌∙◌}
use Rattle.std.proofs.lemmas.List.{take_more}
use Rattle.blk_commands.specs.Plays.{PlaysInstructions, Takes}
use Rattle.blk_commands.specs.declared.instruction.Instruction.{Instruction}
use Rattle.blk_commands.proofs.PlayLemmas.{takes_instruction}
use Rattle.blk_commands.proofs.steps.play.Goals as goal

pub loop-instruction-preserved : goal.loop-instruction-preserved
loop-instruction-preserved c =
    let instructions = c.args.instructions.now in
    let at = c.loop-instruction.instruction-index in
    let instruction = c.instruction-item.result in
    subst (λ ls. Takes (PlaysInstructions ls) c.args.world.now.history
    c.play_instruction.new.world.history [] c.play_instruction.new.events.items)
    (sym (take_more instructions at instruction c.loop-instruction-test.true
    ∙ ap (λ (i : Instruction). take at instructions ++ i ∷ []) (sym c.instruction-item.is)))
    (takes_instruction (take at instructions) instruction c.args.world.now.history
    c.loop-instruction.world.history c.play_instruction.new.world.history
    c.loop-instruction.events.items
    c.play_instruction.new.events.items c.loop-instruction.invariant
    c.in_ok-play_instruction.ensures)
