-- What each event leaves of the copiers.
use Rattle.std.proofs.Common.{◌≡◌, ◌⊎◌, ⊎_elim, inl, inr, ℕ, ◌<◌, ◌≤◌, ◌==◌, ◌&&◌, ◌||◌, not}
use Rattle.std.proofs.Common.{if◌then◌else◌, List, [], ◌∷◌, map, Bool, true, false, refl, sym, ap}
use Rattle.std.proofs.Common.{◌∙◌, subst, Some, None, option_map, arith}
use Rattle.std.proofs.lemmas.Bool.Decides.{nat_tests}
use Rattle.std.proofs.lemmas.Bool.{eqb-true}
use Rattle.blocking_world_laws.specs.Copies.{makes_copier, is_by_either}
use Rattle.blocking_world_laws.specs.Lent.{Copier, copier_in, has_owner, links, is_linking}
use Rattle.blocking_world_laws.specs.Lent.{without_copier}
use Rattle.blocking_world_laws.specs.Seen.{events, is_nothing, is_owner}
use Rattle.blocking_world_laws.specs.declared.event.Act.{Act}
use Rattle.blocking_world_laws.specs.declared.event.Act.TheVariants.{Linked}
use Rattle.blocking_world_laws.specs.declared.event.Event.{Event}
use Rattle.blocking_world_laws.specs.declared.event.Moment.{Moment}
use Rattle.blocking_world_laws.specs.declared.event.Party.{Party}
use Rattle.blocking_world_laws.specs.declared.step.Step.{Step}
use Rattle.blocking_world_laws.specs.declared.step.Step.TheVariants.{Link}
use Rattle.blocking_world_laws.specs.declared.event.Party.TheVariants.{Owner as ByOwner, Task}
use Rattle.blocking_world_laws.specs.declared.event.Party.TheVariants.{Worker, Pool}
use Rattle.blocking_world_copiers.specs.Copiers.{CopierState, shown, belongs, has_number, heard}
use Rattle.blocking_world_copiers.specs.Copiers.{copier_at, is_lent, hear_first, without_number}
use Rattle.blocking_world_copiers.specs.Ties.{InOrder, CopierOf, CopierAs, AreApart, AllAs}
use Rattle.blocking_world_copiers.proofs.Seen.{own_other, since_other, polls_other, neither}
use Rattle.blocking_world_copiers.proofs.Seen.{links_same, links_more}

-- ---- a copier is over these lists

pub of_same : (c : CopierState) {a b pa pb p a' b' pa' pb' p' : List Act} → a' ≡ a → b' ≡ b
    → pa' ≡ pa → pb' ≡ pb → p' ≡ p → CopierOf c a b pa pb p → CopierOf c a' b' pa' pb' p'
of_same c {a} {b} {pa} {pb} {p} {a'} {b'} {pa'} {pb'} {p'} ea eb epa epb ep t =
    subst (λ x. CopierOf c x b' pa' pb' p') (sym ea)
    (subst (λ x. CopierOf c a x pa' pb' p') (sym eb)
    (subst (λ x. CopierOf c a b x pb' p') (sym epa)
    (subst (λ x. CopierOf c a b pa x p') (sym epb)
    (subst (λ x. CopierOf c a b pa pb x) (sym ep) t))))

-- ---- which events a copier has no part in

-- a copier that is made gets the next number
abbrev pub MakesNext : Step → Act → ℕ → Type 0
MakesNext (Link a b n) (Linked k) many = k ≡ many
MakesNext step act many = Unit {0}

pub makes_none : (k : ℕ) (step : Step) (act : Act) (many : ℕ) → k < many → MakesNext step act many
    → makes_copier k step act ≡ false
makes_none k (Link a b n) (Linked j) many known next = (let same = next in grind (arith, nat_tests))
makes_none k step act many known next = refl

-- an event by an owner to which it doesn't belong, or by nobody's, or by which nothing was done
abbrev pub IsOut : CopierState → Event → Type 0
IsOut c e = (h : ℕ) → e.party ≡ ByOwner h → is_nothing e.act ≡ false → belongs h c ≡ false

pub flip : (n m : ℕ) → (n == m) ≡ (m == n)
flip n m = grind (arith, nat_tests)

-- An owner that belongs to a copier is its reader, or else its writer.
pub belongs_is : (h : ℕ) (c : CopierState) → belongs h c ≡ true
    → (c.reader ≡ h) ⊎ (((c.reader == h) ≡ false) × (c.writer ≡ h))
belongs_is h c its = by (c.reader == h) refl its
  where
    by : (b : Bool) → (c.reader == h) ≡ b → (b || c.writer == h) ≡ true
        → (c.reader ≡ h) ⊎ (((c.reader == h) ≡ false) × (c.writer ≡ h))
    by true is its = inl (eqb-true c.reader h is)
    by false is its = inr (is, eqb-true c.writer h its)

-- It is lent to none of those to which neither of these is.
pub lent_once : (h : ℕ) (c : CopierState) (more : List CopierState) → belongs h c ≡ true
    → is_lent c.reader more ≡ false → is_lent c.writer more ≡ false → is_lent h more ≡ false
lent_once h c more its reader writer =
    ⊎_elim (λ reads. subst (λ g. is_lent g more ≡ false) reads reader)
    (λ writes. subst (λ g. is_lent g more ≡ false) writes.1 writer) (belongs_is h c its)

out_by : (c : CopierState) (p : Party) (nothing : Bool)
    → ((h : ℕ) → p ≡ ByOwner h → nothing ≡ false → belongs h c ≡ false)
    → (not nothing && (is_owner c.reader p || is_owner c.writer p)) ≡ false
out_by c (ByOwner h) true out = refl
out_by c (ByOwner h) false out = ap (λ b. b || (h == c.writer)) (flip h c.reader)
    ∙ ap (λ b. (c.reader == h) || b) (flip h c.writer) ∙ out h refl refl
out_by c (Task k) nothing out = grind arith
out_by c (Worker v) nothing out = grind arith
out_by c Pool nothing out = grind arith

pub out_is : (c : CopierState) (e : Event) → IsOut c e → is_by_either (shown c) e ≡ false
out_is c e out = out_by c e.party (is_nothing e.act) out

pub links_grow : (now : Moment) (past : List Moment) → links past ≤ links (now ∷ past)
links_grow now past = by (is_linking now.step now.event.act) refl
  where
    by : (b : Bool) → is_linking now.step now.event.act ≡ b → links past ≤ links (now ∷ past)
    by true is = let more = links_more now past is in omega (arith, more)
    by false is = let same = links_same now past is in omega (arith, same)

-- it stays as it was
pub aside : (c : CopierState) (now : Moment) (past : List Moment)
    → MakesNext now.step now.event.act (links past) → IsOut c now.event → CopierAs c past
    → CopierAs c (now ∷ past)
aside c now past next out t =
    let made = makes_none c.number now.step now.event.act (links past) t.known next in
    let other = out_is c now.event out in
    let both = neither (shown c) now.event other in
    let grow = links_grow now past in
    let known = t.known in
    record {
      known = omega (arith, grow, known);
      differ = t.differ;
      order = subst (InOrder c.core.next) (sym (since_other c.number c.writer now past made both.1))
          t.order;
      by = of_same c (own_other c.reader now.event (events past) both.0)
          (own_other c.writer now.event (events past) both.1)
          (since_other c.number c.reader now past made both.0)
          (since_other c.number c.writer now past made both.1)
          (polls_other (shown c) now past made other) t.by;
    }

-- so do all
pub all_aside : (cs : List CopierState) (now : Moment) (past : List Moment)
    → MakesNext now.step now.event.act (links past) → ((h : ℕ) → now.event.party ≡ ByOwner h
    → is_nothing now.event.act ≡ false → is_lent h cs ≡ false)
    → AllAs cs past → AllAs cs (now ∷ past)
all_aside [] now past next out t = tt
all_aside (c ∷ more) now past next out t = (
  aside c now past next
      (λ h by something. (split (belongs h c) (is_lent h more) (out h by something)).0) t.0,
  all_aside more now past next
      (λ h by something. (split (belongs h c) (is_lent h more) (out h by something)).1) t.1,
)
  where
    split : (a b : Bool) → (if a then true else b) ≡ false → (a ≡ false) × (b ≡ false)
    split a b none = grind arith

-- ---- lists

pub has_is : (h : ℕ) (cs : List CopierState) → has_owner h (map shown cs) ≡ is_lent h cs
has_is h [] = refl
has_is h (c ∷ cs) =
    by (c.reader == h) (c.writer == h) (has_owner h (map shown cs)) (is_lent h cs) (has_is h cs)
  where
    by : (x y z w : Bool) → z ≡ w → ((x || y) || z) ≡ (if (x || y) then true else w)
    by x y z w same = grind arith

pub in_is : (k : ℕ) (cs : List CopierState)
    → copier_in k (map shown cs) ≡ option_map shown (copier_at k cs)
in_is k [] = refl
in_is k (c ∷ cs) = by (c.number == k) (in_is k cs)
  where
    by : (b : Bool) → copier_in k (map shown cs) ≡ option_map shown (copier_at k cs)
        → (if b then Some (shown c) else copier_in k (map shown cs))
        ≡ option_map shown (if b then Some c else copier_at k cs)
    by b same = grind arith

heard_shown : (c : CopierState) (act : Act) → shown (heard c act) ≡ shown c
heard_shown c act = grind arith

pub hear_shown : (h : ℕ) (act : Act) (cs : List CopierState)
    → map shown (hear_first h act cs) ≡ map shown cs
hear_shown h act [] = refl
hear_shown h act (c ∷ cs) = by (belongs h c) (hear_shown h act cs)
  where
    by : (b : Bool) → map shown (hear_first h act cs) ≡ map shown cs → map shown
        (if b then heard c act ∷ cs else c ∷ hear_first h act cs) ≡ shown c ∷ map shown cs
    by true same = ap (λ x. x ∷ map shown cs) (heard_shown c act)
    by false same = ap (λ l. shown c ∷ l) same

-- what none has isn't taken out
none_without : (k : ℕ) (cs : List CopierState) → copier_at k cs ≡ None
    → without_copier k (map shown cs) ≡ map shown cs
none_without k [] none = refl
none_without k (c ∷ cs) none = by (c.number == k) none (λ more. none_without k cs more)
  where
    by : (b : Bool) → (if b then Some c else copier_at k cs) ≡ None
        → (copier_at k cs ≡ None → without_copier k (map shown cs) ≡ map shown cs)
        → (if not b then shown c ∷ without_copier k (map shown cs)
        else without_copier k (map shown cs)) ≡ shown c ∷ map shown cs
    by true none more = absurd cc
    by false none more = ap (λ l. shown c ∷ l) (more none)

pub without_shown : (k : ℕ) (cs : List CopierState) → AreApart cs
    → map shown (without_number k cs) ≡ without_copier k (map shown cs)
without_shown k [] apart = refl
without_shown k (c ∷ cs) apart = by (c.number == k) refl (without_shown k cs apart.3)
  where
    by : (b : Bool) → (c.number == k) ≡ b
        → map shown (without_number k cs) ≡ without_copier k (map shown cs)
        → map shown (if b then cs else c ∷ without_number k cs) ≡ (if not b
        then shown c ∷ without_copier k (map shown cs) else without_copier k (map shown cs))
    by true is more =
        sym (none_without k cs (ap (λ n. copier_at n cs) (sym (eqb-true c.number k is)) ∙ apart.0))
    by false is more = ap (λ l. shown c ∷ l) more

-- those that are left are tied, and apart
pub all_without : (k : ℕ) (cs : List CopierState) (past : List Moment) → AllAs cs past
    → AllAs (without_number k cs) past
all_without k [] past t = tt
all_without k (c ∷ cs) past t = by (has_number k c) (all_without k cs past t.1)
  where
    by : (b : Bool) → AllAs (without_number k cs) past
        → AllAs (if b then cs else c ∷ without_number k cs) past
    by true more = t.1
    by false more = (t.0, more)

at_without : (k n : ℕ) (cs : List CopierState) → copier_at n cs ≡ None
    → copier_at n (without_number k cs) ≡ None
at_without k n [] none = refl
at_without k n (c ∷ cs) none =
    by (has_number k c) (has_number n c) refl none (λ more. at_without k n cs more)
  where
    by : (a b : Bool) → has_number n c ≡ b → (if b then Some c else copier_at n cs) ≡ None
        → (copier_at n cs ≡ None → copier_at n (without_number k cs) ≡ None)
        → copier_at n (if a then cs else c ∷ without_number k cs) ≡ None
    by a b is none more = grind arith

lent_without : (k h : ℕ) (cs : List CopierState) → is_lent h cs ≡ false
    → is_lent h (without_number k cs) ≡ false
lent_without k h [] none = refl
lent_without k h (c ∷ cs) none =
    by (has_number k c) (belongs h c) refl none (λ more. lent_without k h cs more)
  where
    by : (a b : Bool) → belongs h c ≡ b → (if b then true else is_lent h cs) ≡ false
        → (is_lent h cs ≡ false → is_lent h (without_number k cs) ≡ false)
        → is_lent h (if a then cs else c ∷ without_number k cs) ≡ false
    by a b is none more = grind arith

pub apart_without : (k : ℕ) (cs : List CopierState) → AreApart cs → AreApart (without_number k cs)
apart_without k [] apart = tt
apart_without k (c ∷ cs) apart = by (has_number k c) (apart_without k cs apart.3)
  where
    by : (b : Bool) → AreApart (without_number k cs)
        → AreApart (if b then cs else c ∷ without_number k cs)
    by true more = apart.3
    by false more = (
      at_without k c.number cs apart.0,
      lent_without k c.reader cs apart.1,
      lent_without k c.writer cs apart.2,
      more,
    )

-- what they hear leaves them apart
pub hear_apart : (h : ℕ) (act : Act) (cs : List CopierState) → ((n : ℕ) (xs : List CopierState)
    → copier_at n xs ≡ None → copier_at n (hear_first h act xs) ≡ None)
    → ((g : ℕ) (xs : List CopierState) → is_lent g xs ≡ false
    → is_lent g (hear_first h act xs) ≡ false) → AreApart cs → AreApart (hear_first h act cs)
hear_apart h act [] at lent apart = tt
hear_apart h act (c ∷ cs) at lent apart = by (belongs h c) (hear_apart h act cs at lent apart.3)
  where
    names : shown (heard c act) ≡ shown c
    names = heard_shown c act

    by : (b : Bool) → AreApart (hear_first h act cs)
        → AreApart (if b then heard c act ∷ cs else c ∷ hear_first h act cs)
    by true more = (
      ap (λ (x : Copier). copier_at x.number cs) names ∙ apart.0,
      ap (λ (x : Copier). is_lent x.reader cs) names ∙ apart.1,
      ap (λ (x : Copier). is_lent x.writer cs) names ∙ apart.2,
      apart.3,
    )
    by false more =
        (at c.number cs apart.0, lent c.reader cs apart.1, lent c.writer cs apart.2, more)
