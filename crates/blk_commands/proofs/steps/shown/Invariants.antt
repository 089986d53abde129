-- So far the text has a line for each event.
use Rattle.std.proofs.Common.{◌≡◌, string_bytes, take}
use Rattle.std.specs.List.{flat_map}
use Rattle.blocking_world_laws.specs.Texts.{event_text}
use Rattle.blk_commands.specs.Plays.{line_of}
use Rattle.blk_commands.proofs.steps.shown.Given as goal

abbrev pub invariant-loop-event : goal.invariant-loop-event
invariant-loop-event l = string_bytes l.text
    ≡ flat_map (λ event. line_of (event_text event)) (take l.event-index l.events)
