use Rattle.std.proofs.Common.{◌≡◌, arith, rules}
use Rattle.std.specs.Prelude.{Option, Some, None, Result, Ok, Err, IfSome, IfErr}
use Rattle.futures.specs.declared.task.Poll.{Poll}
use Rattle.futures.specs.declared.task.Poll.TheVariants.{Ready}
use Rattle.blocking_files.proofs.copying.CopyingFuture.poll.Goals.{then-is_none+in-Ready-Ok+in-Some-1}
use Rattle.blocking_files.proofs.copying.CopyingFuture.poll.Goals.{then-is_none+in-Ready-Ok+in-None-1}
use Rattle.blocking_files.proofs.copying.CopyingFuture.poll.Goals.{else-is_none}
use Rattle.blocking_files.proofs.copying.CopyingFuture.poll.Goals as goal

-- Where both files came, the call that opens them wasn't refused.
none_refused : {A B E : Type 0} (r : Poll (Result A E)) (came : A) (refused : Option (Result B E))
    (told : E → Type 0)
    → r ≡ Ready (Ok came)
    → IfSome refused (λ answer. IfErr answer (λ why. r ≡ Ready (Err why)))
    → IfSome refused (λ answer. IfErr answer told)
none_refused r came None told is said = tt
none_refused r came (Some (Ok files)) told is said = tt
none_refused r came (Some (Err why)) told is said = grind (arith, is, said)

pub returns-in-Ready-clause-refused : goal.returns-in-Ready-clause-refused
returns-in-Ready-clause-refused g c = λ none. elim c.if-is_none.branch [
  | then-is_none+in-Ready-Ok+in-Some-1 w ↦
      none_refused w.poll_open.result w.in-Ready-Ok.copier c.args.self.now.task.refused _
      (search rules) w.poll_open.ensures.refused
  | then-is_none+in-Ready-Ok+in-None-1 w ↦
      none_refused w.poll_open.result w.in-Ready-Ok.copier c.args.self.now.task.refused _
      (search rules) w.poll_open.ensures.refused
  | else-is_none w ↦ search rules
]
