-- A job that rests is parked or over, or bears a mark (a sweep, which names none, may have entered it).
use Rattle.std.proofs.Common.{◌≡◌, refl, ℕ, ◌==◌, ◌&&◌, ◌||◌, ◌⊎◌, inl, inr, not, Bool, true, false, List, []}
use Rattle.std.proofs.Common.{◌∷◌, ◌++◌, Option, Some, if◌then◌else◌, ap, sym, ◌∙◌}
use Rattle.blocking_pool.specs.Lists.{is_in}
use Rattle.blocking_pool.proofs.Lists.{turned as either_way}
use Rattle.blocking_pool.specs.declared.pool.answer.Woke.TheVariants.{Entered}
use Rattle.blocking_pool.specs.declared.pool.standing.Standing.{Standing}
use Rattle.blocking_pool.specs.declared.pool.standing.Standing.TheVariants.{Queued, Running, Parked}
use Rattle.blocking_pool.specs.declared.pool.standing.Standing.TheVariants.{Done, Dropped}
use Rattle.blocking_world_laws.specs.Answers.{PoolAnswers, end_of}
use Rattle.blocking_world_laws.specs.Jobs.{standing, stands_by, sweeps, is_parked, is_marked, has_ended}
use Rattle.blocking_world_laws.specs.Jobs.{ends_for_good, is_to_drop, is_woken}
use Rattle.blocking_world_laws.specs.Legal.{PoolLaw}
use Rattle.blocking_world_laws.specs.Queue.{taken_by}
use Rattle.blocking_world_laws.specs.Seen.{EachMayFollow}
use Rattle.blocking_world_laws.specs.Turns.{Turn, GoesOn, IsWaiting, MustGiveUp, HasGivenUp, turn}
use Rattle.blocking_world_laws.specs.declared.event.Act.{Act}
use Rattle.blocking_world_laws.specs.declared.event.Act.TheVariants.{Accepted, JobWoken, JobCancelled}
use Rattle.blocking_world_laws.specs.declared.event.Act.TheVariants.{Took, TookDropped, Ended, Swept}
use Rattle.blocking_world_laws.specs.declared.event.Act.TheVariants.{Stays, Stopped}
use Rattle.blocking_world_laws.specs.declared.event.Moment.{Moment}
use Rattle.blocking_world_laws.specs.declared.event.WaitEnd.TheVariants.{Woken, TimedOut}
use Rattle.blocking_headline.specs.Headline.{entered, ends, rests}
use Rattle.blocking_headline.proofs.Bools.{first_so, then_so, unless}

-- parked or over, or marked
abbrev Lies : Option Standing → Bool → Bool → Type 0
Lies st over mark = ((is_parked st || over) ≡ true) ⊎ (mark ≡ true)

abbrev after : Act → ℕ → Option Standing → Bool → Option Standing
after act s st mark = if sweeps act && is_parked st && mark then Some Queued else stands_by act s st

-- a job that an act names, which isn't this one
other : (t s : ℕ) → not ((s == t) || false) ≡ true → (t == s) ≡ false
other t s e = either_way t s ∙ differs (s == t) e
  where
    differs : (b : Bool) → not (b || false) ≡ true → b ≡ false
    differs true e = absurd cc
    differs false e = refl

swept : (st : Option Standing) (over mark : Bool) → Lies st over mark
    → Lies (if is_parked st && mark then Some Queued else st) over mark
swept st over true lies = inr refl
swept st over false (inr e) = absurd cc
swept st over false (inl e) = inl (rw (no_mark (is_parked st)) e)
  where
    no_mark : (b : Bool) → (b && false) ≡ false
    no_mark true = refl
    no_mark false = refl

same_if : (b : Bool) (new st : Option Standing) (over mark : Bool) → b ≡ false
    → Lies st over mark → Lies (if b then new else st) over mark
same_if true new st over mark e lies = absurd cc
same_if false new st over mark e lies = lies

abbrev runs_on : Act → Bool
runs_on (Ended t Running) = true
runs_on _ = false

-- no turn ends so
never : (at : Turn) (drop woken : Bool) (s : ℕ) → runs_on (end_of at drop woken s) ≡ false
never IsWaiting true woken s = refl
never IsWaiting false true s = refl
never IsWaiting false false s = refl
never HasGivenUp drop woken s = refl
never MustGiveUp drop woken s = refl
never GoesOn drop woken s = refl

ended : (how : Standing) (t s : ℕ) (b : Bool) (st : Option Standing) (over mark : Bool)
    → runs_on (Ended t how) ≡ false → (t == s) ≡ b → not (is_in s (entered (Ended t how) ++ [])) ≡ true
    → (b ≡ false → Lies st over mark)
    → Lies (if b then Some how else st) (ends_for_good (Ended t how) s || over) mark
ended Parked t s true st over mark run e away before = inl refl
ended Parked t s false st over mark run e away before = before refl
ended Done t s true st over mark run e away before = inl (rw e refl)
ended Done t s false st over mark run e away before = rw e (before refl)
ended Dropped t s true st over mark run e away before = inl (rw e refl)
ended Dropped t s false st over mark run e away before = rw e (before refl)
ended Queued t s true st over mark run e away before =
    absurd (let bad : true ≡ false = sym e ∙ other t s away in cc)
ended Queued t s false st over mark run e away before = before refl
ended Running t s b st over mark run e away before = absurd cc

-- after an act that neither enters the job nor takes it, and may end its turn
lies_after : (setting : ℕ) (past : List Moment) (now : Moment) (act : Act) (s : ℕ)
    (st : Option Standing) (over mark : Bool) → PoolAnswers setting past now act
    → not (is_in s (entered act ++ taken_by act)) ≡ true
    → (ends act s ≡ false → Lies st over mark)
    → Lies (after act s st mark) (ends_for_good act s || over) mark
lies_after setting past now (Accepted t) s st over mark answers away before =
    same_if (t == s) (Some Queued) st over mark (other t s away) (before refl)
lies_after setting past now (JobWoken t Entered) s st over mark answers away before =
    same_if (t == s) (Some Queued) st over mark (other t s away) (before refl)
lies_after setting past now (JobCancelled t Entered) s st over mark answers away before =
    same_if (t == s) (Some Queued) st over mark (other t s away) (before refl)
lies_after setting past now (Took t) s st over mark answers away before =
    same_if (t == s) (Some Running) st over mark (other t s away) (before refl)
lies_after setting past now (TookDropped t) s st over mark answers away before =
    same_if (t == s) (Some Running) st over mark (other t s away) (before refl)
lies_after setting past now (Ended t how) s st over mark answers away before =
    ended how t s (t == s) st over mark (ap runs_on answers
    ∙ never (turn past t) (is_to_drop past t) (is_woken past t) t) refl away before
lies_after setting past now (Swept n) s st over mark answers away before = swept st over mark (before refl)
lies_after setting past now (Stays v TimedOut) s st over mark answers away before =
    swept st over mark (before refl)
lies_after setting past now (Stopped v TimedOut) s st over mark answers away before =
    swept st over mark (before refl)
lies_after setting past now (Stays v Woken) s st over mark answers away before = before refl
lies_after setting past now (Stopped v Woken) s st over mark answers away before = before refl
lies_after setting past now _ s st over mark answers away before = before refl

more_marks : (st : Option Standing) (over mark new : Bool) → Lies st over mark → Lies st over (new || mark)
more_marks st over mark new (inl e) = inl e
more_marks st over mark true (inr e) = inr refl
more_marks st over mark false (inr e) = inr e

pub lies : (setting : ℕ) (plan : List Bool) (past : List Moment)
    → EachMayFollow (PoolLaw setting plan) past → (s : ℕ) → rests s past ≡ true
    → Lies (standing past s) (has_ended past s) (is_marked past s)
lies setting plan [] laws s e = absurd cc
lies setting plan (now ∷ past) laws s e =
    more_marks (standing (now ∷ past) s) (has_ended (now ∷ past) s) (is_marked past s) _
    (lies_after setting past now now.event.act s (standing past s) (has_ended past s)
    (is_marked past s) laws.0.answers (first_so _ (ends now.event.act s || rests s past) e)
    (λ f. lies setting plan past laws.1 s (unless (ends now.event.act s) (rests s past)
    (then_so (not (is_in s (entered now.event.act ++ taken_by now.event.act))) _ e) f)))
