-- Independence: what is kept of an owner keeps the page's fourth and fifth sentence by itself. Nothing of
-- other owners is in it, and of the pool only whether the owner's job rests is asked for.
use Rattle.std.specs.Prelude.{◌≡◌, ℕ, List, ◌∷◌, ◌++◌, filter, true}
use Rattle.blocking_headline.specs.Headline.{IsAll, rests, was_woken}
use Rattle.blocking_headline.specs.Words.{Moment, Owner, IsBeginning, IsSessionOf, acts_of_owner, accepted}
use Rattle.blocking_headline.specs.Words.{call, cut, events, gave, got, is_in_cut, is_waiting, last_job}
use Rattle.blocking_headline.specs.Words.{session, taken}

-- the moments of an owner and of its jobs
abbrev pub kept : ℕ → List Moment → List Moment
kept h seen = filter (λ now. is_in_cut h now.event) seen

-- the fourth sentence, of one owner
pub record Fourth (h : ℕ) (past : List Moment) (now : Moment) : Type 0 where
  pub reads : IsBeginning (got (acts_of_owner h (events (now ∷ past))))
      (gave (last_job (cut h (events (now ∷ past)))))
  pub writes : IsBeginning (taken (last_job (cut h (events (now ∷ past)))))
      (accepted (acts_of_owner h (events (now ∷ past))))
  pub all : now.event.party ≡ Owner h → IsAll (acts_of_owner h (events past))
      (last_job (cut h (events past))) (call (acts_of_owner h (events past))) now.event.act

-- Each moment that is kept keeps the fourth sentence, and who waits there for a job that rests was woken.
pub record IsIndependent (h : ℕ) (seen : List Moment) : Type 0 where
  pub fourth : (later past : List Moment) (now : Moment) → kept h seen ≡ later ++ now ∷ past
      → Fourth h past now
  pub fifth : (s : ℕ) → IsSessionOf (session (acts_of_owner h (events (kept h seen)))) s
      → is_waiting (acts_of_owner h (events (kept h seen))) ≡ true → rests s seen ≡ true
      → was_woken (Owner h) s (kept h seen) ≡ true
