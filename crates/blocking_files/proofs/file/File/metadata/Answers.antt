use Rattle.std.proofs.Common.{arith, rules, refl}
use Rattle.std.specs.Prelude.{◌≡◌, Option, Some, None, Result, Ok, Err, MatchResult, IsOkAnd}
use Rattle.std.specs.Prelude.{IsSomeAnd, IsNone, IfSome, IfOk, IfErr}
use Rattle.std.specs.Arc.{arc_value}
use Rattle.blocking_files.specs.Asked.{IsFileLook}
use Rattle.blocking_files.proofs.file.File.metadata.Goals as goal

-- What is asked for is what was made of a share, where there was one.
asked_of : {S E W Q : Type 0} (share : Result S E) (what : Result W E) (asked : Option Q)
    (of : Q → W) (Made : S → W → Type 0) (Is : W → Type 0)
    → MatchResult share (λ x. IsOkAnd what (Made x)) (λ why. what ≡ Err why)
    → ((x : S) (w : W) → share ≡ Ok x → Made x w → Is w)
    → IfOk what (λ w. IsSomeAnd asked (λ a. of a ≡ w))
    → IfErr what (λ _. IsNone asked)
    → IfSome asked (λ a. Is (of a))
asked_of share what None of Made Is made is named refused = tt
asked_of (Ok x) (Ok w) (Some a) of Made Is made is named refused = rw named (is x w refl made)
asked_of (Ok x) (Err why) (Some a) of Made Is made is named refused = absurd made
asked_of (Err why) (Ok w) (Some a) of Made Is made is named refused = grind (arith, made)
asked_of (Err why) (Err other) (Some a) of Made Is made is named refused = grind (arith, refused)

pub returns-clause-asked : goal.returns-clause-asked
returns-clause-asked g c =
    asked_of c.try_clone.result c.map.result c.look.result.asked (λ asked. asked.value.what) _
    (IsFileLook (arc_value c.args.self.now.file)) c.map.ensures.cases
    (λ x w is post.
    let share : arc_value x ≡ arc_value c.args.self.now.file = rw is at c.try_clone.ensures in
    search (rules, post, share))
    c.look.ensures.asked c.look.ensures.refused
