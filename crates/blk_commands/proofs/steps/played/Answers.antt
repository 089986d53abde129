-- What the instructions made happen in a new world is shown.
use Rattle.std.proofs.Common.{ap, ◌∙◌, ◌≡◌, option_map, string_bytes, List, ℕ, Option}
use Rattle.blk_commands.specs.Plays.{new_history}
use Rattle.blk_commands.proofs.PlayLemmas.{shows_script}
use Rattle.blk_commands.proofs.steps.played.Goals as goal

pub returns : goal.returns
returns c =
    let setting : Option (List ℕ) = option_map string_bytes c.args.script.setting in
    let new : c.new-world.result.history ≡ new_history setting c.args.script.plan.items =
    ap (λ w. w.history) c.new-world.ensures.begins
    ∙ ap (λ text. new_history text c.args.script.plan.items) c.text_of.ensures in
    shows_script setting c.args.script.plan.items c.args.script.instructions.items
    c.as_slice.result.now c.new-world.result.history c.play-events.new.world.history
    c.in_ok-events.field-0.items c.as_slice-2.result.now c.of-ending.result c.shown.result
    c.as_slice.ensures.value new c.new-world.ensures.legal c.in_ok-events.ensures
    c.of-ending.ensures c.as_slice-2.ensures.value c.shown.ensures
