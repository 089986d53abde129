-- The cut of a task: its own acts are the task's, and the acts of its job stand all in it.
use Rattle.std.proofs.Common.{arith, ◌≡◌, ℕ, List, [], ◌∷◌, Bool, true, false, refl, sym, ap, ◌∙◌}
use Rattle.std.proofs.Common.{◌&&◌, ◌||◌, not, cond, map, filter}
use Rattle.blocking_world_holders.proofs.Types.{Act, Event, Party}
use Rattle.blocking_world_holders.proofs.Words.{acts_of, acts_of_task, is_by_task, is_nothing}
use Rattle.blocking_world_holders.proofs.Words.{is_of_job, is_of_pool, is_some_worker, is_task}
use Rattle.blocking_world_holders.proofs.Words.{is_this, own, task_cut}

abbrev acts_in : List Event → List Act
acts_in seen = map (λ e. e.act) seen

-- an event that no worker made, and one that a worker made
own_more : (e : Event) (X : List Event) → is_some_worker e.party ≡ false
    → own (e ∷ X) ≡ e.act ∷ own X
own_more e X w = rw w refl

own_less : (e : Event) (X : List Event) → is_some_worker e.party ≡ true → own (e ∷ X) ≡ own X
own_less e X w = rw w refl

own_step : (e : Event) (X Y : List Event) (n p b w q : Bool) → is_some_worker e.party ≡ w
    → (w ≡ true → b ≡ false) → own X ≡ acts_in Y
    → own (cond ((not n && b) || (not p && not n && w && q)) (e ∷ X) X)
    ≡ acts_in (cond (not n && b) (e ∷ Y) Y)
own_step e X Y true true b w q i o h = h
own_step e X Y true false b w q i o h = h
own_step e X Y false p true true q i o h = let z = o refl in absurd (cc)
own_step e X Y false p true false q i o h = own_more e X i ∙ ap (λ (l : List Act). e.act ∷ l) h
own_step e X Y false true false w q i o h = h
own_step e X Y false false false false q i o h = h
own_step e X Y false false false true true i o h = own_less e X i ∙ h
own_step e X Y false false false true false i o h = h

-- no worker is a task
pub no_task : (k : ℕ) (who : Party) → is_some_worker who ≡ true → is_task k who ≡ false
no_task k who e = grind arith

-- the own acts of a task's cut are the task's
pub own_cut : (k s : ℕ) (seen : List Event) → own (task_cut k s seen) ≡ acts_of_task k seen
own_cut k s [] = refl
own_cut k s (e ∷ seen) =
    own_step e (task_cut k s seen) (filter (is_by_task k) seen) (is_nothing e.act)
    (is_of_pool e.act) (is_task k e.party) (is_some_worker e.party) (is_this s e.job) refl
    (no_task k e.party) (own_cut k s seen)

-- what the acts of a job are after one more event
pub acts_more : (s : ℕ) (e : Event) (X : List Event) (b : Bool) → is_of_job s e ≡ b
    → acts_of s (e ∷ X) ≡ cond b (e.act ∷ acts_of s X) (acts_of s X)
acts_more s e X true i = rw i refl
acts_more s e X false i = rw i refl

acts_step : (s : ℕ) (e : Event) (X seen : List Event) (b j : Bool) → is_of_job s e ≡ j
    → acts_of s X ≡ acts_of s seen
    → acts_of s (cond (b || j) (e ∷ X) X) ≡ acts_of s (e ∷ seen)
acts_step s e X seen true true i h =
    acts_more s e X true i ∙ ap (λ (l : List Act). e.act ∷ l) h ∙ sym (acts_more s e seen true i)
acts_step s e X seen true false i h = acts_more s e X false i ∙ h ∙ sym (acts_more s e seen false i)
acts_step s e X seen false true i h =
    acts_more s e X true i ∙ ap (λ (l : List Act). e.act ∷ l) h ∙ sym (acts_more s e seen true i)
acts_step s e X seen false false i h = h ∙ sym (acts_more s e seen false i)

-- the acts of the task's job stand all in the cut
pub acts_cut : (k s : ℕ) (seen : List Event) → acts_of s (task_cut k s seen) ≡ acts_of s seen
acts_cut k s [] = refl
acts_cut k s (e ∷ seen) =
    acts_step s e (task_cut k s seen) seen (is_by_task k e) (is_of_job s e) refl (acts_cut k s seen)
