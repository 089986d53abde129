-- The words are the parts of the line between its spaces.
use Rattle.std.proofs.Common.{◌≡◌, ◌∙◌, Ok, IfOk, ap, lit<, map, subst}
use Rattle.std.specs.declared.alloc.AllocError.{AllocError}
use Rattle.std.proofs.lemmas.Iterator.Splits.{YieldsList-from_str_split}
use Rattle.std.proofs.lemmas.Iterator.Consumers.{map_from_collect}
use Rattle.blk_commands.specs.Instructions.{instruction_of, words_of}
use Rattle.blk_commands.proofs.instruction.instruction_in.Goals as goal

pub returns : goal.returns
returns c =
    let parts = map_from_collect {E = AllocError} (Ok c.in_ok-words.words) c.in_ok-words.ensures.ran
    (YieldsList-from_str_split 32 c.args.line.now (lit< tt) c.split.ensures.text
    c.split.ensures.has_more c.split.ensures.pattern) in
    let same : map (λ word. word.now) c.as_slice.result.now ≡ words_of c.args.line.now =
    ap (map (λ word. word.now)) c.as_slice.ensures.value ∙ parts in
    subst (λ words. IfOk c.instruction_of.result
    (λ instruction. instruction ≡ instruction_of words)) same c.instruction_of.ensures
