use Rattle.std.proofs.Common.{◌≡◌, refl, ℕ, ◌-◌, ◌<◌, List, [], ◌∷◌, length, take, None, Some, ap, arith}
use Rattle.std.proofs.Common.{length-append}
use Rattle.blocking_world_laws.specs.Copies.{IsEnding, NoReply}
use Rattle.blocking_world_laws.specs.Traces.{◌▸◌, moment}
use Rattle.blocking_world_laws.specs.declared.event.Act.TheVariants.{Made}
use Rattle.blocking_world_laws.specs.declared.step.Step.TheVariants.{New}
use Rattle.blocking_headline.specs.CopierTraces.{asks_reader, asks_writer, reader, two, copy_inside, copy_written}
use Rattle.blocking_headline.specs.CopierTraces.{copy_flushed}
use Rattle.blocking_headline.specs.Words.{Close, Flush, HandleCall, HasReplied, Link, Linked, Moment, Okay, Owner, Pool}
use Rattle.blocking_headline.specs.Words.{Read, Replied}
use Rattle.blocking_headline.proofs.Accepts.{accepted}
use Rattle.blocking_headline.proofs.traces.copies.Goals as goal

-- the moments since the copier was linked, its link, and those before
abbrev since : List Moment → List Moment
since past = take (length past - 3) past

abbrev link : Moment
link = moment (Link 1 0 2) Pool None (Linked 0) 1

abbrev before : List Moment
before = [] ▸ moment (New 4 0) (Owner 0) None (Made 0 4) 1 ▸ moment (New 4 0) (Owner 1) None (Made 1 4) 1

too_short : (all written : List ℕ) → length all < length written → IsEnding written all → ⊥
too_short all written less ending =
    let many = ap length ending.1 in
    let parts = length-append ending.0 written in
    omega (arith, less, many, parts)

longer : (a b c d e : ℕ) → a ∷ b ∷ c ∷ [] ≡ d ∷ e ∷ [] → ⊥
longer a b c d e same = cc

not_two : ◌≡◌ {A = ℕ} 1 2 → ⊥
not_two e = omega (arith, e)

not_flush : (c : HandleCall) (n : ℕ) → c ≡ Read n → Some c ≡ Some Flush → ⊥
not_flush c n is e = cc

not_close : Some Close ≡ Some Flush → ⊥
not_close e = cc

not_replied : NoReply ≡ HasReplied Okay → ⊥
not_replied e = cc

pub returns-clause-accepts_copied : goal.returns-clause-accepts_copied
returns-clause-accepts_copied c = accepted 2 refl

pub returns-clause-refuses_wrong_count : goal.returns-clause-refuses_wrong_count
returns-clause-refuses_wrong_count c = (
  accepted 2 refl,
  λ at. not_two (at.copies (since (copy_flushed Flush two))
      before link 1 0 2 0 1 refl refl refl refl refl).2,
)

pub returns-clause-refuses_all_inside : goal.returns-clause-refuses_all_inside
returns-clause-refuses_all_inside c = (
  accepted 2 refl,
  λ at. too_short [] two (omega arith) (at.copies
      (since (copy_inside two ▸ asks_reader Flush ▸ reader (Replied Okay))) before link 1 0 2 0 2 refl refl refl refl refl).1,
)

pub returns-clause-refuses_unflushed : goal.returns-clause-refuses_unflushed
returns-clause-refuses_unflushed c = (
  accepted 2 refl,
  λ at. not_flush (Read 2) 2 refl
      (at.copies (since (copy_written two)) before link 1 0 2 0 2 refl refl refl refl refl).3,
)

pub returns-clause-refuses_closed : goal.returns-clause-refuses_closed
returns-clause-refuses_closed c = (
  accepted 2 refl,
  λ at. not_close
      (at.copies (since (copy_flushed Close two)) before link 1 0 2 0 2 refl refl refl refl refl).3,
)

pub returns-clause-refuses_unanswered : goal.returns-clause-refuses_unanswered
returns-clause-refuses_unanswered c = (
  accepted 2 refl,
  λ at. not_replied (at.copies
      (since (copy_written two ▸ asks_writer Flush)) before link 1 0 2 0 2 refl refl refl refl refl).4,
)

pub returns-clause-refuses_read_after : goal.returns-clause-refuses_read_after
returns-clause-refuses_read_after c = (
  accepted 2 refl,
  λ at. not_flush (Read 2) 2 refl (at.copies
      (since (copy_flushed Flush two ▸ asks_reader (Read 2))) before link 1 0 2 0 2 refl refl refl refl refl).3,
)

pub returns-clause-refuses_more : goal.returns-clause-refuses_more
returns-clause-refuses_more c = (
  accepted 2 refl,
  λ at. longer 97 97 98 97 98 (at.copies
      (since (copy_flushed Flush (97 ∷ 97 ∷ 98 ∷ []))) before link 1 0 2 0 2 refl refl refl refl refl).0,
)
