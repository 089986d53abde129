-- The cut of a cut, the cut of a list in reverse, and what a cut keeps.
use Rattle.std.proofs.Common.{◌≡◌, refl, sym, ap, ◌∙◌, ℕ, Bool, true, false, List, [], ◌∷◌, ◌++◌}
use Rattle.std.proofs.Common.{cond, not, ◌&&◌}
use Rattle.std.specs.Prelude.{reverse}
use Rattle.std.proofs.lemmas.List.{append-nil, reverse-append}
use Rattle.std.proofs.lemmas.List.Elements.{filter-append}
use Rattle.std.specs.List.{filter}
use Rattle.blocking_world_laws.specs.Legal.{Legal}
use Rattle.blocking_world_laws.specs.Seen.{events, is_in_cut}
use Rattle.blocking_world_laws.specs.Solo.{AreIndependent, is_refusal, is_without_refusal}
use Rattle.blocking_world_laws.specs.declared.event.Event.{Event}
use Rattle.blocking_world_laws.specs.declared.event.Moment.{Moment}

-- an element that passed once passes again
both : {X : Type 0} (test : X → Bool) (x : X) (ys : List X) (b : Bool) → test x ≡ b
    → filter test ys ≡ ys
    → filter test (cond b (x ∷ ys) ys) ≡ cond b (x ∷ ys) ys
both test x ys true e h = rw (e, h) refl
both test x ys false e h = h

-- what passed a filter passes it again
filter_again : {X : Type 0} (test : X → Bool) (xs : List X)
    → filter test (filter test xs) ≡ filter test xs
filter_again test [] = refl
filter_again test (x ∷ xs) = both test x (filter test xs) (test x) refl (filter_again test xs)

-- what passes of a list in reverse is in reverse what passes of it
pub filter_reverse : {X : Type 0} (test : X → Bool) (xs : List X)
    → filter test (reverse xs) ≡ reverse (filter test xs)
filter_reverse test [] = refl
filter_reverse test (x ∷ xs) =
    ap (filter test) (reverse-append (x ∷ []) xs) ∙ filter-append test (reverse xs) (x ∷ [])
    ∙ last (test x) (filter_reverse test xs)
  where
    last : (b : Bool) → filter test (reverse xs) ≡ reverse (filter test xs)
        → filter test (reverse xs) ++ cond b (x ∷ []) []
        ≡ reverse (cond b (x ∷ filter test xs) (filter test xs))
    last true same = ap (λ l. l ++ x ∷ []) same ∙ sym (reverse-append (x ∷ []) (filter test xs))
    last false same = append-nil (filter test (reverse xs)) ∙ same

kept : (e : Event) (b : Bool) (xs ys : List Event)
    → (not (is_refusal e.act) && is_without_refusal xs) ≡ true
    → (is_without_refusal xs ≡ true → is_without_refusal ys ≡ true)
    → is_without_refusal (cond b (e ∷ ys) ys) ≡ true
kept e b xs ys h next = by (is_refusal e.act) refl b h
  where
    by : (r : Bool) → is_refusal e.act ≡ r → (b : Bool) → (not r && is_without_refusal xs) ≡ true
        → is_without_refusal (cond b (e ∷ ys) ys) ≡ true
    by true is b h = absurd cc
    by false is true h = rw (is) (next h)
    by false is false h = next h

-- where no new job was refused, none was in a part of it
without_refusal : (test : Event → Bool) (xs : List Event) → is_without_refusal xs ≡ true
    → is_without_refusal (filter test xs) ≡ true
without_refusal test [] h = h
without_refusal test (x ∷ xs) h = kept x (test x) xs (filter test xs) h (without_refusal test xs)

-- each owner is alone in its cut
pub independent : (setting : ℕ) (plan : List Bool) (past : List Moment) → Legal setting plan past
    → AreIndependent past
independent setting plan past legal sound h = record {
  own = filter_again (is_in_cut h) (events past);
  sound = without_refusal (is_in_cut h) (events past) sound;
  laws = legal.owners h;
}
