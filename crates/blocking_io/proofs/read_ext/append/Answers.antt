use Rattle.std.proofs.Common.{◌≡◌, ◌∙◌, ◌++◌, ap, rules, arith, [], take, vec_items}
use Rattle.std.proofs.lemmas.Grind.{common_steps}
use Rattle.blocking_io.proofs.Wholes.{at_end, count_of, cut_behind, gave_once, met_end}
use Rattle.blocking_io.proofs.read_ext.append.Given.{Over}
use Rattle.blocking_io.proofs.read_ext.append.Goals as goal
use Rattle.blocking_io.proofs.read_ext.append.Goals.{in-Ready-Ok, in_default-read}
use Rattle.blocking_io.proofs.read_ext.append.Goals.{in_default-read-2}

-- what was read stands behind what was there
added : (g : Over) (c : goal.After-truncate g) → vec_items c.truncate.new.self
    ≡ vec_items c.args.out.now ++ take (count_of c.poll_read-read.result) c.poll_read-read.new.buf
added g c =
    let counted : c.match-read.count ≡ count_of c.poll_read-read.result =
    elim c.match-read.branch [
      | in-Ready-Ok w ↦ search rules
      | in_default-read w ↦ grind (arith, common_steps)
      | in_default-read-2 w ↦ grind (arith, common_steps)
    ] in
    let front : take c.len-before.result c.deref_mut.result.now ≡ c.args.out.now.items =
    grind (arith, common_steps) in
    c.truncate.ensures.items
    ∙ (cut_behind _ _ _ _ _ _ _ (search rules) (search rules) (search rules)
    ∙ (ap (λ l. l ++ take c.match-read.count c.poll_read-read.new.buf) front
    ∙ ap (λ n. vec_items c.args.out.now ++ take n c.poll_read-read.new.buf) counted))

pub returns-clause-read : goal.returns-clause-read
returns-clause-read g c = (
  take (count_of c.poll_read-read.result) c.poll_read-read.new.buf,
  added g c,
  gave_once g.A.AsyncRead.reads _ _ _ _ _ c.poll_read-read.ensures.bytes,
)

pub returns-clause-all : goal.returns-clause-all
returns-clause-all g c = at_end c.poll_read-read.result _ (λ is. (
  [],
  added g c
      ∙ ap (λ p. vec_items c.args.out.now ++ take (count_of p) c.poll_read-read.new.buf) is,
  met_end g.A.AsyncRead.reads _ _ _ _ _ c.poll_read-read.ensures.bytes is (search rules),
))
