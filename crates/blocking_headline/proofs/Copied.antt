-- What a copier tells is so, of all that was seen since it was linked.
use Rattle.std.proofs.Common.{◌≡◌, refl, ℕ, ◌+◌, ◌<◌, ◌≤◌, ◌==◌, Bool, true, false, cond}
use Rattle.std.proofs.Common.{if◌then◌else◌, List, [], ◌∷◌, ◌++◌, length, Option, Some, None, ap, sym, ◌∙◌, arith}
use Rattle.std.specs.Prelude.{not, filter, min}
use Rattle.std.proofs.lemmas.Bool.{eqb-true}
use mathlib.Core.Path.{subst}
use Rattle.blocking_world_laws.specs.Core.{greatest}
use Rattle.blocking_world_laws.specs.Copies.{IsCopied, IsEnding, TellsTruly, StepTells, all_got, all_accepted}
use Rattle.blocking_world_laws.specs.Copies.{all_taken, makes_copier, since, acts_since, read_by, written_by}
use Rattle.blocking_world_laws.specs.Copies.{HasReplied, outcome, polls_of}
use Rattle.blocking_world_laws.specs.Sessions.{call}
use Rattle.blocking_world_laws.specs.declared.event.Reply.TheVariants.{Okay}
use Rattle.blocking_world_laws.specs.declared.step.HandleCall.TheVariants.{Flush}
use Rattle.blocking_headline.specs.Headline.{polls}
use Rattle.blocking_world_laws.specs.Legal.{Legal}
use Rattle.blocking_world_laws.specs.Lent.{Copier, copiers, copiers_by, copier_in, is_linking, links, without_copier}
use Rattle.blocking_world_laws.specs.Seen.{EachMayFollow, events, cut, acts_of_owner}
use Rattle.blocking_world_laws.specs.Steps.{StepLaw, Happens, IsOfCopier, has_action}
use Rattle.blocking_world_laws.specs.declared.event.Act.{Act}
use Rattle.blocking_world_laws.specs.declared.event.Act.TheVariants.{Linked, Copied, CopyFailed}
use Rattle.blocking_world_laws.specs.declared.event.Moment.{Moment}
use Rattle.blocking_world_laws.specs.declared.step.Step.{Step}
use Rattle.blocking_world_laws.specs.declared.step.Step.TheVariants.{Link, Copy}
use Rattle.blocking_headline.proofs.Bools.{same_self}

-- ---- the numbers of copiers

number_is : {j k : ℕ} → Linked j ≡ Linked k → j ≡ k
number_is e = cc

linked_number : (b : Bool) (past : List Moment) (r w n j : ℕ) → Happens b past (Link r w n) (Linked j)
    → j ≡ links past
linked_number true past r w n j happens = number_is happens.1
linked_number false past r w n j happens = absurd cc

-- each of these copiers has a number below this one
abbrev AllBelow : ℕ → List Copier → Type 0
AllBelow n [] = Unit {0}
AllBelow n (c ∷ more) = (c.number < n) × AllBelow n more

raised : (n m : ℕ) (cs : List Copier) → n ≤ m → AllBelow n cs → AllBelow m cs
raised n m [] more below = tt
raised n m (c ∷ cs) more below = (let less = below.0 in omega (arith, less, more), raised n m cs more below.1)

below_without : (k n : ℕ) (cs : List Copier) → AllBelow n cs → AllBelow n (without_copier k cs)
below_without k n [] below = tt
below_without k n (c ∷ cs) below = at (not (c.number == k)) refl (below_without k n cs below.1)
  where
    at : (b : Bool) → not (c.number == k) ≡ b → AllBelow n (without_copier k cs)
        → AllBelow n (cond (not (c.number == k)) (c ∷ without_copier k cs) (without_copier k cs))
    at true e rest = rw e (below.0, rest)
    at false e rest = rw e rest

more_links : (now : Moment) (past : List Moment)
    → links (now ∷ past) ≡ (if is_linking now.step now.event.act then 1 else 0) + links past
more_links now past = at (is_linking now.step now.event.act)
  where
    at : (b : Bool) → length (cond b (now ∷ filter (λ m. is_linking m.step m.event.act) past)
        (filter (λ m. is_linking m.step m.event.act) past)) ≡ (if b then 1 else 0) + links past
    at true = omega arith
    at false = omega arith

below_by : (past : List Moment) (step : Step) (act : Act) (n : ℕ) → Happens (has_action past step) past step act
    → n ≡ (if is_linking step act then 1 else 0) + links past → AllBelow (links past) (copiers past)
    → AllBelow n (copiers_by step act (copiers past))
below_by past (Link r w p) (Linked j) n happens e below =
    let is = linked_number (has_action past (Link r w p)) past r w p j happens in
    (omega (arith, is, e), raised (links past) n (copiers past) (omega (arith, e)) below)
below_by past (Copy k) (Copied count) n happens e below =
    raised (links past) n (without_copier k (copiers past)) (omega (arith, e))
    (below_without k (links past) (copiers past) below)
below_by past (Copy k) (CopyFailed side) n happens e below =
    raised (links past) n (without_copier k (copiers past)) (omega (arith, e))
    (below_without k (links past) (copiers past) below)
below_by past step act n happens e below = raised (links past) n (copiers past) (grind (arith, e)) below

all_below : (past : List Moment) → EachMayFollow StepLaw past → AllBelow (links past) (copiers past)
all_below [] steps = tt
all_below (now ∷ past) steps = below_by past now.step now.event.act (links (now ∷ past)) steps.0.act
    (more_links now past) (all_below past steps.1)

-- ---- the copier of a link

module _ (a b k : ℕ) where
  -- each of these copiers that has number k reads a and writes b
  abbrev AllSo : List Copier → Type 0
  AllSo [] = Unit {0}
  AllSo (c ∷ more) = ((c.number == k) ≡ true → (c.reader ≡ a) × (c.writer ≡ b)) × AllSo more

  so_without : (i : ℕ) (cs : List Copier) → AllSo cs → AllSo (without_copier i cs)
  so_without i [] so = tt
  so_without i (c ∷ cs) so = at (not (c.number == i)) refl (so_without i cs so.1)
    where
      at : (f : Bool) → not (c.number == i) ≡ f → AllSo (without_copier i cs)
          → AllSo (cond (not (c.number == i)) (c ∷ without_copier i cs) (without_copier i cs))
      at true e rest = rw e (so.0, rest)
      at false e rest = rw e rest

  so_below : (cs : List Copier) → AllBelow k cs → AllSo cs
  so_below [] below = tt
  so_below (c ∷ cs) below = (
    λ e. absurd (let is = eqb-true c.number k e in let less = below.0 in omega (arith, is, less)),
    so_below cs below.1,
  )

  found : (cs : List Copier) (c : Copier) → AllSo cs → copier_in k cs ≡ Some c
      → (c.number ≡ k) × (c.reader ≡ a) × (c.writer ≡ b)
  found [] c so e = absurd cc
  found (d ∷ cs) c so e = at (d.number == k) refl e (found cs c so.1)
    where
      at : (f : Bool) → (d.number == k) ≡ f → (if f then Some d else copier_in k cs) ≡ Some c
          → (copier_in k cs ≡ Some c → (c.number ≡ k) × (c.reader ≡ a) × (c.writer ≡ b))
          → (c.number ≡ k) × (c.reader ≡ a) × (c.writer ≡ b)
      at true is e rest =
          let same : d ≡ c = cc in
          subst (λ x. (x.number ≡ k) × (x.reader ≡ a) × (x.writer ≡ b)) same
          (eqb-true d.number k is, (so.0 is).0, (so.0 is).1)
      at false is e rest = rest e

  -- What is known of the moments from the link on: its copier, which moments are since then, and that later
  -- links have later numbers.
  record IsLinked (later all : List Moment) : Type 0 where
    pub so : AllSo (copiers all)
    pub part : since k all ≡ later
    pub less : k < links all

  at_link : (before : List Moment) (link : Moment) (step : Step) (act : Act) (m : ℕ) → step ≡ Link a b m
      → act ≡ Linked k → links before ≡ k → AllBelow k (copiers before)
      → AllSo (copiers_by step act (copiers before)) × (makes_copier k step act ≡ true) × (is_linking step act ≡ true)
  at_link before link step act m is made number below =
      rw (is, made) (((λ e. (refl, refl)), so_below (copiers before) below), same_self k, refl)

  if_made : (f : Bool) (now : Moment) (past : List Moment) → f ≡ true
      → (if f then [] else now ∷ since k past) ≡ []
  if_made true now past e = refl
  if_made false now past e = absurd cc

  linked_now : (before : List Moment) (link : Moment) (m : ℕ) → EachMayFollow StepLaw (link ∷ before)
      → link.step ≡ Link a b m → link.event.act ≡ Linked k → IsLinked [] (link ∷ before)
  linked_now before link m steps is made =
      let happens : Happens (has_action before (Link a b m)) before (Link a b m) (Linked k) =
      subst (λ t. Happens (has_action before (Link a b m)) before (Link a b m) t) made
      (subst (λ s. Happens (has_action before s) before s link.event.act) is steps.0.act) in
      let number = linked_number (has_action before (Link a b m)) before a b m k happens in
      let at = at_link before link link.step link.event.act m is made (sym number)
      (subst (λ n. AllBelow n (copiers before)) (sym number) (all_below before steps.1)) in
      let more = more_links link before ∙ ap (λ f. (if f then 1 else 0) + links before) at.2 in
      record {
        so = at.0;
        part = if_made (makes_copier k link.step link.event.act) link before at.1;
        less = omega (arith, number, more);
      }

  later_copiers : (past : List Moment) (step : Step) (act : Act) → Happens (has_action past step) past step act
      → k < links past → AllSo (copiers past)
      → AllSo (copiers_by step act (copiers past)) × (makes_copier k step act ≡ false)
  later_copiers past (Link r w p) (Linked j) happens less so =
      let is = linked_number (has_action past (Link r w p)) past r w p j happens in (
        (λ e. absurd (let same = eqb-true j k e in omega (arith, is, same, less)), so),
        other (j == k) (λ e. let same = eqb-true j k e in omega (arith, is, same, less)),
      )
    where
      other : (f : Bool) → (f ≡ true → ⊥) → f ≡ false
      other true never = absurd (never refl)
      other false never = refl
  later_copiers past (Copy i) (Copied n) happens less so = (so_without i (copiers past) so, refl)
  later_copiers past (Copy i) (CopyFailed side) happens less so = (so_without i (copiers past) so, refl)
  later_copiers past step act happens less so = (so, refl)

  not_made : (f : Bool) (now : Moment) (past later : List Moment) → f ≡ false → since k past ≡ later
      → (if f then [] else now ∷ since k past) ≡ now ∷ later
  not_made true now past later e is = absurd cc
  not_made false now past later e is = ap (λ l. now ∷ l) is

  linked_later : (now : Moment) (later past : List Moment) → EachMayFollow StepLaw (now ∷ past)
      → IsLinked later past → IsLinked (now ∷ later) (now ∷ past)
  linked_later now later past steps l =
      let at = later_copiers past now.step now.event.act steps.0.act l.less l.so in
      let more = more_links now past in
      let less = l.less in
      record {
        so = at.0;
        part = not_made (makes_copier k now.step now.event.act) now past later at.1 l.part;
        less = omega (arith, more, less);
      }

  linked : (later before : List Moment) (link : Moment) (m : ℕ) → EachMayFollow StepLaw (later ++ link ∷ before)
      → link.step ≡ Link a b m → link.event.act ≡ Linked k → IsLinked later (later ++ link ∷ before)
  linked [] before link m steps is made = linked_now before link m steps is made
  linked (now ∷ later) before link m steps is made =
      linked_later now later (later ++ link ∷ before) steps (linked later before link m steps.1 is made)

-- ---- what it tells

a_copier : (flag : Bool) (o : Option Copier) (past : List Moment) (k n : ℕ) → copier_in k (copiers past) ≡ o
    → Happens flag past (Copy k) (Copied n) → (c : Copier) × (o ≡ Some c)
a_copier true None past k n e happens = absurd (subst (λ o. IsOfCopier o past (Copied n)) e happens.1)
a_copier true (Some c) past k n e happens = (c, refl)
a_copier false o past k n e happens = absurd cc

pub copies : (setting : ℕ) (plan : List Bool) (past : List Moment) (now : Moment) → Legal setting plan (now ∷ past)
    → (later before : List Moment) (link : Moment) (a b m k n : ℕ)
    → past ≡ later ++ link ∷ before → link.step ≡ Link a b m → link.event.act ≡ Linked k
    → now.step ≡ Copy k → now.event.act ≡ Copied n
    → (all_accepted (acts_of_owner b (events later)) ≡ all_got (acts_of_owner a (events later)))
    × IsEnding (all_got (acts_of_owner a (events later))) (all_taken (cut b (events past)))
    × (n ≡ min (length (all_got (acts_of_owner a (events later)))) greatest)
    × (call (polls a b later) ≡ Some Flush) × (outcome (polls a b later) ≡ HasReplied Okay)
copies setting plan past now legal later before link a b m k n split is made step told =
    let l = linked a b k later before link m (subst (EachMayFollow StepLaw) split legal.steps.1) is made in
    let happens : Happens (has_action past (Copy k)) past (Copy k) (Copied n) =
    subst (λ t. Happens (has_action past (Copy k)) past (Copy k) t) told
    (subst (λ s. Happens (has_action past s) past s now.event.act) step legal.steps.0.act) in
    let c = a_copier (has_action past (Copy k)) (copier_in k (copiers past)) past k n refl happens in
    let law : TellsTruly (copier_in k (copiers past)) past (Copied n) =
    subst (λ t. StepTells (Copy k) past t) told
    (subst (λ s. StepTells s past now.event.act) step legal.copies.0.told) in
    let copied : IsCopied c.0 past n = subst (λ o. TellsTruly o past (Copied n)) c.1 law in
    let so = found a b k (copiers past) c.0 (subst (λ p. AllSo a b k (copiers p)) (sym split) l.so) c.1 in
    let part : since k past ≡ later = ap (since k) split ∙ l.part in
    let read : read_by c.0 past ≡ all_got (acts_of_owner a (events later)) =
    ap (λ i. all_got (acts_since i c.0.reader past)) so.0 ∙ ap (λ i. all_got (acts_since k i past)) so.1
    ∙ ap (λ p. all_got (acts_of_owner a (events p))) part in
    let wrote : written_by c.0 past ≡ all_accepted (acts_of_owner b (events later)) =
    ap (λ i. all_accepted (acts_since i c.0.writer past)) so.0 ∙ ap (λ i. all_accepted (acts_since k i past)) so.2
    ∙ ap (λ p. all_accepted (acts_of_owner b (events p))) part in
    let asked : polls_of c.0 past ≡ polls a b later =
    ap (λ i. polls c.0.reader c.0.writer (since i past)) so.0 ∙ ap (λ i. polls i c.0.writer (since k past)) so.1
    ∙ ap (λ i. polls a i (since k past)) so.2 ∙ ap (polls a b) part in
    let same = copied.written ∙ read in (
      sym wrote ∙ same,
      subst (λ l. IsEnding l (all_taken (cut b (events past)))) same
          (subst (λ i. IsEnding (written_by c.0 past) (all_taken (cut i (events past)))) so.2 copied.taken),
      copied.count ∙ ap (λ l. min (length l) greatest) same,
      ap call (sym asked) ∙ copied.flushed.asked,
      ap outcome (sym asked) ∙ copied.flushed.replied,
    )
