-- What an event leaves of the acts that a copier is read from.
use Rattle.std.proofs.Common.{◌≡◌, ℕ, ◌+◌, ◌==◌, ◌&&◌, ◌||◌, not, List, [], ◌∷◌, map, filter, cond}
use Rattle.std.proofs.Common.{Bool, true, false, refl, ap, ◌∙◌, arith}
use Rattle.std.proofs.lemmas.Bool.{eq-eqb}
use Rattle.blocking_world_laws.specs.Copies.{makes_copier, since, acts_since, is_by_either}
use Rattle.blocking_world_laws.specs.Copies.{polls_of}
use Rattle.blocking_world_laws.specs.Lent.{Copier, links, is_linking}
use Rattle.blocking_world_laws.specs.Seen.{events, cut, own, is_owner, is_nothing, is_of_pool}
use Rattle.blocking_world_laws.specs.Seen.{is_in_cut, is_some_worker, is_this}
use Rattle.blocking_world_laws.specs.declared.event.Event.{Event}
use Rattle.blocking_world_laws.specs.declared.event.Moment.{Moment}
use Rattle.blocking_world_laws.specs.declared.event.Party.{Party}
use Rattle.blocking_world_laws.specs.declared.event.Party.TheVariants.{Owner as ByOwner, Task}
use Rattle.blocking_world_laws.specs.declared.event.Party.TheVariants.{Worker, Pool}

-- whether an event is an own act of this owner
abbrev pub is_own : ℕ → Event → Bool
is_own h e = is_in_cut h e && not (is_some_worker e.party)

own_by : (a b : Bool) (h : ℕ) (e : Event) (es : List Event)
    → is_in_cut h e ≡ a → is_some_worker e.party ≡ b
    → own (cut h (e ∷ es)) ≡ cond (a && not b) (e.act ∷ own (cut h es)) (own (cut h es))
own_by true true h e es in_cut by = grind arith
own_by true false h e es in_cut by = grind arith
own_by false b h e es in_cut by = grind arith

pub own_other : (h : ℕ) (e : Event) (es : List Event) → is_own h e ≡ false
    → own (cut h (e ∷ es)) ≡ own (cut h es)
own_other h e es other = own_by (is_in_cut h e) (is_some_worker e.party) h e es refl refl
    ∙ ap (λ b. cond b (e.act ∷ own (cut h es)) (own (cut h es))) other

pub own_this : (h : ℕ) (e : Event) (es : List Event) → is_own h e ≡ true
    → own (cut h (e ∷ es)) ≡ e.act ∷ own (cut h es)
own_this h e es its = own_by (is_in_cut h e) (is_some_worker e.party) h e es refl refl
    ∙ ap (λ b. cond b (e.act ∷ own (cut h es)) (own (cut h es))) its

-- since the copier was made
pub since_more : (k : ℕ) (now : Moment) (past : List Moment)
    → makes_copier k now.step now.event.act ≡ false → since k (now ∷ past) ≡ now ∷ since k past
since_more k now past other = ap (λ b. cond b [] (now ∷ since k past)) other

pub since_other : (k h : ℕ) (now : Moment) (past : List Moment)
    → makes_copier k now.step now.event.act ≡ false → is_own h now.event ≡ false
    → acts_since k h (now ∷ past) ≡ acts_since k h past
since_other k h now past made other = ap (λ l. own (cut h (events l))) (since_more k now past made)
    ∙ own_other h now.event (events (since k past)) other

pub since_this : (k h : ℕ) (now : Moment) (past : List Moment)
    → makes_copier k now.step now.event.act ≡ false → is_own h now.event ≡ true
    → acts_since k h (now ∷ past) ≡ now.event.act ∷ acts_since k h past
since_this k h now past made its = ap (λ l. own (cut h (events l))) (since_more k now past made)
    ∙ own_this h now.event (events (since k past)) its

polls_by : (b : Bool) (c : Copier) (e : Event) (es : List Event)
    → is_by_either c e ≡ b → map (λ (x : Event). x.act) (filter (is_by_either c) (e ∷ es))
    ≡ cond b (e.act ∷ map (λ (x : Event). x.act) (filter (is_by_either c) es))
    (map (λ (x : Event). x.act) (filter (is_by_either c) es))
polls_by true c e es is = grind arith
polls_by false c e es is = grind arith

pub polls_other : (c : Copier) (now : Moment) (past : List Moment)
    → makes_copier c.number now.step now.event.act ≡ false → is_by_either c now.event ≡ false
    → polls_of c (now ∷ past) ≡ polls_of c past
polls_other c now past made other =
    ap (λ l. map (λ (x : Event). x.act) (filter (is_by_either c) (events l)))
    (since_more c.number now past made)
    ∙ polls_by false c now.event (events (since c.number past)) other

pub polls_this : (c : Copier) (now : Moment) (past : List Moment)
    → makes_copier c.number now.step now.event.act ≡ false → is_by_either c now.event ≡ true
    → polls_of c (now ∷ past) ≡ now.event.act ∷ polls_of c past
polls_this c now past made its =
    ap (λ l. map (λ (x : Event). x.act) (filter (is_by_either c) (events l)))
    (since_more c.number now past made)
    ∙ polls_by true c now.event (events (since c.number past)) its

-- ---- whose act it is

own_by_party : (h : ℕ) (p : Party) (x y z : Bool)
    → (((x && y) && (is_owner h p || (is_some_worker p && z))) && not (is_some_worker p))
    ≡ (x && (y && is_owner h p))
own_by_party h (ByOwner g) x y z = grind arith
own_by_party h (Task k) x y z = grind arith
own_by_party h (Worker v) x y z = grind arith
own_by_party h Pool x y z = grind arith

-- an own act is an owner's, by which something is done
pub own_is : (h : ℕ) (e : Event)
    → is_own h e ≡ (not (is_of_pool e.act) && (not (is_nothing e.act) && is_owner h e.party))
own_is h e =
    own_by_party h e.party (not (is_of_pool e.act)) (not (is_nothing e.act)) (is_this h e.owner)

out_of_both : (x y a b : Bool) → (y && (a || b)) ≡ false
    → ((x && (y && a)) ≡ false) × ((x && (y && b)) ≡ false)
out_of_both x y a b none = grind arith

-- an event that isn't by either owner is an own act of neither
pub neither : (c : Copier) (e : Event) → is_by_either c e ≡ false
    → (is_own c.reader e ≡ false) × (is_own c.writer e ≡ false)
neither c e other =
    let out = out_of_both (not (is_of_pool e.act)) (not (is_nothing e.act))
    (is_owner c.reader e.party) (is_owner c.writer e.party) other in
    (own_is c.reader e ∙ out.0, own_is c.writer e ∙ out.1)

-- and one by an owner is its own act, if something was done, and nothing that the pool decides
pub its_own : (h : ℕ) (e : Event) → e.party ≡ ByOwner h → is_nothing e.act ≡ false
    → is_of_pool e.act ≡ false → is_own h e ≡ true
its_own h e by something own =
    own_is h e ∙ ap (λ p. not (is_of_pool e.act) && (not (is_nothing e.act) && is_owner h p)) by
    ∙ its (is_of_pool e.act) (is_nothing e.act) (h == h) own something (eq-eqb h h refl)
  where
    its : (x y z : Bool) → x ≡ false → y ≡ false → z ≡ true → (not x && (not y && z)) ≡ true
    its x y z own something same = grind arith

pub not_own : (h g : ℕ) (e : Event) → e.party ≡ ByOwner h → (h == g) ≡ false → is_own g e ≡ false
not_own h g e by other =
    own_is g e ∙ ap (λ p. not (is_of_pool e.act) && (not (is_nothing e.act) && is_owner g p)) by
    ∙ none (not (is_of_pool e.act)) (not (is_nothing e.act)) (h == g) other
  where
    none : (x y z : Bool) → z ≡ false → (x && (y && z)) ≡ false
    none x y z other = grind arith

-- what doesn't make a copier leaves their number, and what makes one adds one
pub links_same : (now : Moment) (past : List Moment) → is_linking now.step now.event.act ≡ false
    → links (now ∷ past) ≡ links past
links_same now past none = grind arith

pub links_more : (now : Moment) (past : List Moment) → is_linking now.step now.event.act ≡ true
    → links (now ∷ past) ≡ 1 + links past
links_more now past one = grind arith
