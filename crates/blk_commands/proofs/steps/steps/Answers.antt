-- The text that was read is a script, and this is what it shows.
use Rattle.std.proofs.Common.{Ok, subst, string_bytes}
use Rattle.blk_commands.specs.Plays.{ShowsScript}
use Rattle.blk_commands.specs.Scripts.{Reads, lines_of, plan_in, setting_in}
use Rattle.blk_commands.proofs.steps.steps.Goals as goal

pub returns : goal.returns
returns g c =
    let reads : Reads (lines_of (string_bytes c.in_ok-text.text)) (Ok c.in_ok-script.script) =
    subst (λ text. Reads (lines_of text) (Ok c.in_ok-script.script)) c.as_str.ensures.value
    c.in_ok-script.ensures in
    let lines = lines_of (string_bytes c.in_ok-text.text) in
    let text = string_bytes c.in_ok-played.field-0 in
    let shown = subst (λ setting. ShowsScript setting c.in_ok-script.script.plan.items
    c.in_ok-script.script.instructions.items text) reads.1.setting c.in_ok-played.ensures in
    let planned = subst (λ plan. ShowsScript (setting_in lines) plan
    c.in_ok-script.script.instructions.items text) reads.1.plan shown in (
      string_bytes c.in_ok-text.text,
      c.in_ok-text.ensures.0,
      record {
        utf8 = c.in_ok-text.ensures.1;
        stand = reads.0;
        shown =
            subst (λ instructions. ShowsScript (setting_in lines) (plan_in lines) instructions text)
            reads.1.instructions planned;
      },
    )
