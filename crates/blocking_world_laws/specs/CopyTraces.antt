-- Short traces with a copier that reads owner 1 and writes owner 0, for the theorems that show what
-- the law of copies accepts and refuses. They are written as those of `OwnerTraces`.
use Rattle.std.specs.Prelude.{ℕ, List, [], ◌∷◌, None}
use Rattle.blocking_world_laws.specs.Traces.{◌▸◌, moment}
use Rattle.blocking_world_laws.specs.OwnerTraces.{polls, works, given}
use Rattle.blocking_world_laws.specs.declared.event.Act.TheVariants.{Asked, Accepted, Got, Filled}
use Rattle.blocking_world_laws.specs.declared.event.Act.TheVariants.{Replied, Peeked, Linked}
use Rattle.blocking_world_laws.specs.declared.event.Act.TheVariants.{Copied}
use Rattle.blocking_world_laws.specs.declared.event.Moment.{Moment}
use Rattle.blocking_world_laws.specs.declared.event.Party.TheVariants.{Owner, Pool}
use Rattle.blocking_world_laws.specs.declared.event.Reply.TheVariants.{Okay, Count}
use Rattle.blocking_world_laws.specs.declared.step.HandleAnswer.TheVariants.{Number}
use Rattle.blocking_world_laws.specs.declared.step.HandleCall.TheVariants.{Read, Write, Flush}
use Rattle.blocking_world_laws.specs.declared.step.Step.TheVariants.{Own, Link, Copy}

-- linked 0 / asked (to read 2) / got 6162 / replied ok 2
abbrev pub both_read : List Moment
both_read = []
    ▸ moment (Link 1 0 2) Pool None (Linked 0) 1
    ▸ moment (Copy 0) (Owner 1) None (Asked (Read 2)) 1
    ▸ moment (Own 1) (Owner 1) None (Got (97 ∷ 98 ∷ []) None) 1
    ▸ moment (Own 1) (Owner 1) None (Replied (Count 2)) 1

-- .. / replied ok 2 / asked (to write 6162) / accepted 1 / put 2 / replied ok 2
abbrev pub both_inside : List Moment
both_inside = both_read
    ▸ moment (Copy 0) (Owner 0) None (Asked (Write (97 ∷ 98 ∷ []))) 1
    ▸ polls (Accepted 1) 1
    ▸ polls (Filled 2 None) 2
    ▸ polls (Replied (Count 2)) 2

-- .. / replied ok 2 / peeked 2 / answered 1
abbrev pub one_taken : List Moment
one_taken = both_inside ▸ works 1 (Peeked (97 ∷ 98 ∷ [])) ▸ given 1 (Number 1)

-- .. / replied ok 2 / peeked 2 / answered 2
abbrev pub both_taken : List Moment
both_taken = both_inside ▸ works 1 (Peeked (97 ∷ 98 ∷ [])) ▸ given 1 (Number 2)

-- .. / accepted 2 / peeked 1 / answered 1: another session
abbrev pub taken_again : List Moment
taken_again = both_taken ▸ polls (Accepted 2) 2 ▸ works 2 (Peeked (99 ∷ [])) ▸ given 2 (Number 1)

-- .. / asked (to read 2) / replied ok 0 / asked (to flush) / replied ok
abbrev pub then_flushed : List Moment → List Moment
then_flushed past = past
    ▸ moment (Copy 0) (Owner 1) None (Asked (Read 2)) 2
    ▸ moment (Own 1) (Owner 1) None (Replied (Count 0)) 2
    ▸ moment (Copy 0) (Owner 0) None (Asked Flush) 2
    ▸ polls (Replied Okay) 2

-- copied so many
abbrev pub tells_copied : ℕ → Moment
tells_copied count = moment (Copy 0) Pool None (Copied count) 2
