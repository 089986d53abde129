use Rattle.std.proofs.Common.{arith, refl}
use Rattle.std.specs.Prelude.{◌≡◌, Option, Some, None, Result, Ok, Err}
use Rattle.std.specs.Prelude.{IsErr, IsSome, IsNone, IfSome, IfOk}
use Rattle.std.specs.Option.{ForSome}
use Rattle.futures.specs.Poll.{IfReady}
use Rattle.futures.specs.declared.task.Poll.{Poll}
use Rattle.futures.specs.declared.task.Poll.TheVariants.{Ready, Pending}
use Rattle.blocking_files.proofs.changing.ChangingFuture.poll.Goals as goal

-- Where every refusal is an error, an answer that is none is that of a call that was asked for.
came_of : {A E Q : Type 0} (r : Poll (Result A E)) (refused : Option (Result A E))
    (asked : Option Q)
    → ForSome refused (λ answer. IsErr answer)
    → IfSome refused (λ answer. r ≡ Ready answer)
    → (IsNone refused → IfReady r (λ _. IsSome asked))
    → IfReady r (λ answer. IfOk answer (λ _. IsSome asked))
came_of Pending refused asked errors told known = tt
came_of (Ready (Err why)) refused asked errors told known = tt
came_of (Ready (Ok done)) None asked errors told known = known refl
came_of (Ready (Ok done)) (Some answer) asked errors told known =
    let is_error : IsErr answer = errors answer refl in grind (arith, is_error, told)

pub returns-in-Some-clause-made : goal.returns-in-Some-clause-made
returns-in-Some-clause-made g c =
    came_of c.poll.result c.in-Some.task.refused c.poll.new.self.asked
    (c.args.self.now.unasked c.in-Some.task c.in-Some.is) c.poll.ensures.refused
    c.poll.ensures.known
