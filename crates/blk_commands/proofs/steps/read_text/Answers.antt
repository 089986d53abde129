-- All that was read stands in the text, or is no text.
use Rattle.std.proofs.Common.{ap, sym, ◌∙◌, ◌≡◌, subst, drop, length, string_bytes}
use Rattle.std.proofs.lemmas.Str.{IsUtf8-string_bytes}
use Rattle.std.specs.Io.{appended_bytes}
use Rattle.std.specs.Io.KnownBytes.{Consumes}
use Rattle.blk_commands.proofs.steps.read_text.Goals as goal

pub returns : goal.returns
returns g c =
    let read = c.read_to_end.new.buf.items in
    let items : read ≡ string_bytes c.in-Ok-from_utf8.text =
    ap (λ v. v.items) (sym c.in-Ok-from_utf8.ensures.ok) in
    let same : appended_bytes c.new-bytes.result.items read ≡ string_bytes c.in-Ok-from_utf8.text =
    ap (λ xs. drop (length xs) read) c.new-bytes.ensures.items ∙ items in (
      (
        subst (λ bs. Consumes (g.R.Read.remaining c.args.input.now)
            (g.R.Read.remaining c.read_to_end.new.self) bs) same c.read_to_end.ensures.none_lost,
        c.in-Ok.ensures.end,
      ),
      IsUtf8-string_bytes c.in-Ok-from_utf8.text,
    )
