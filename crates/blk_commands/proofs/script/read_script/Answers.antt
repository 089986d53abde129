-- The lines are the parts of the text between its line feeds.
use Rattle.std.proofs.Common.{Ok, Err, map, ap, subst, ◌∙◌, ◌≡◌, lit<, arith, take}
use Rattle.std.specs.declared.alloc.AllocError.{AllocError}
use Rattle.std.proofs.lemmas.Iterator.Splits.{YieldsList-from_str_split}
use Rattle.std.proofs.lemmas.Iterator.Consumers.{map_from_collect}
use Rattle.std.proofs.lemmas.List.{length-map}
use Rattle.blk_commands.specs.Scripts.{Reads, lines_of}
use Rattle.blk_commands.proofs.ScriptLemmas.{all_told, fails_with, line_told, bad_line_told}
use Rattle.blk_commands.proofs.script.read_script.Goals as goal

pub returns-in_err-add : goal.returns-in_err-add
returns-in_err-add c =
    let parts = map_from_collect {E = AllocError} (Ok c.in_ok-lines.lines) c.in_ok-lines.ensures.ran
    (YieldsList-from_str_split 10 c.args.text.now (lit< tt) c.split.ensures.text
    c.split.ensures.has_more c.split.ensures.pattern) in
    let items = c.deref-line-items.result.now in
    let same : map (λ line. line.now) items ≡ lines_of c.args.text.now =
    ap (map (λ line. line.now)) c.deref-line-items.ensures.value ∙ parts in
    let told = bad_line_told items c.loop-place.place _ c.loop-place-test.true c.add.new.self
    c.in_err-add.field-0.0 c.loop-place.invariant.stand
    (c.in_err-add.ensures (take c.loop-place.place (map (λ line. line.now) items))
    c.loop-place.invariant.script) in
    fails_with (lines_of c.args.text.now) c.from_residual-in_err-add.result c.in_err-add.field-0.0
    c.from_residual-in_err-add.ensures.1
    (subst (λ lines. Reads lines (Err c.in_err-add.field-0.0)) same told)

pub loop-place-preserved : goal.loop-place-preserved
loop-place-preserved c =
    let items = c.deref-line-items.result.now in
    let told = line_told items c.loop-place.place _ c.loop-place-test.true c.add.new.self
    c.loop-place.invariant.stand
    (c.in_ok-add.ensures (take c.loop-place.place (map (λ line. line.now) items))
    c.loop-place.invariant.script) in
    record { stand = told.0; script = told.1 }

pub returns : goal.returns
returns c =
    let parts = map_from_collect {E = AllocError} (Ok c.in_ok-lines.lines) c.in_ok-lines.ensures.ran
    (YieldsList-from_str_split 10 c.args.text.now (lit< tt) c.split.ensures.text
    c.split.ensures.has_more c.split.ensures.pattern) in
    let items = c.deref-line-items.result.now in
    let same : map (λ line. line.now) items ≡ lines_of c.args.text.now =
    ap (map (λ line. line.now)) c.deref-line-items.ensures.value ∙ parts in
    subst (λ lines. Reads lines (Ok c.loop-place.script)) same
    (all_told (map (λ line. line.now) items) c.loop-place.place c.loop-place.script
    (omega (
      arith,
      length-map items (λ line. line.now),
      c.loop-place-test.false,
      c.loop-place.auto.place-end,
    ))
    c.loop-place.invariant.stand c.loop-place.invariant.script)
