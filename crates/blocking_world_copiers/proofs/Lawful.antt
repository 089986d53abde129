-- Each step keeps the copiers tied to what was seen, and the laws.
use Rattle.std.proofs.Common.{◌≡◌, ◌⊎◌, ⊎_elim, inl, inr, ℕ, ◌<◌, ◌==◌, ◌&&◌, ◌||◌, not}
use Rattle.std.proofs.Common.{if◌then◌else◌, List, [], ◌∷◌, ◌++◌, length, min, take, drop, ◌^◌, ◌-◌}
use Rattle.std.proofs.Common.{Bool, true, false, refl, sym, ap, ◌∙◌, subst, Option, Some, None}
use Rattle.std.proofs.Common.{arith, append-nil, append_assoc}
use Rattle.std.proofs.lemmas.Bool.Decides.{nat_tests}
use Rattle.std.proofs.lemmas.Bool.{eqb-true, eq-eqb}
use Rattle.std.proofs.lemmas.List.{take-append-drop}
use Rattle.blocking_core.specs.declared.copy.CopyAction.{CopyAction}
use Rattle.blocking_core.specs.declared.copy.CopyAction.TheVariants as action
use Rattle.blocking_core.specs.declared.copy.CopyEnd.TheVariants as end
use Rattle.blocking_world_laws.specs.Copies.{Outcome, NotAsked, NoReply, HasReplied, makes_copier}
use Rattle.blocking_world_laws.specs.Copies.{acts_since, polls_of, all_got, all_accepted, outcome}
use Rattle.blocking_world_laws.specs.Copies.{next_of_copier, next_by as law_next_by}
use Rattle.blocking_world_laws.specs.Lent.{Copier, links}
use Rattle.blocking_world_laws.specs.Seen.{IsBeginning, events, acts_of_owner, is_nothing}
use Rattle.blocking_world_laws.specs.Seen.{is_of_pool, is_owner}
use Rattle.blocking_world_laws.specs.Sessions.{under_way, call, is_poll_over, may_ask, rests}
use Rattle.blocking_world_laws.specs.declared.event.Moment.{Moment}
use Rattle.blocking_world_laws.specs.declared.event.Party.TheVariants.{Owner as ByOwner}
use Rattle.blocking_world_laws.specs.declared.step.Step.{Step}
use Rattle.blocking_world_copiers.specs.Copiers.{CopierState, shown, belongs, between, next_by}
use Rattle.blocking_world_copiers.specs.Copiers.{next_of, as_action, copier_at, is_lent}
use Rattle.blocking_world_copiers.specs.Ties.{got_now, filled_now, IsOpen, InOrder, CopierBy}
use Rattle.blocking_world_copiers.specs.Ties.{CopierAs, AreApart, AllAs, next_from, WriterRests}
use Rattle.blocking_world_copiers.specs.declared.copier.CopierNext.TheVariants as next
use Rattle.blocking_world_copiers.proofs.Words.{Act, Asked, HandleCall, Read, Write, Flush, Okay}
use Rattle.blocking_world_copiers.proofs.Polls.{IsCopiers, PollAs, WriteAs, CallAs}
use Rattle.blocking_world_copiers.proofs.Copying.{asks_reader, asks_write, asks_flush, wrote_before}
use Rattle.blocking_world_copiers.proofs.OrderSteps.{asks_order}
use Rattle.blocking_world_copiers.proofs.Seen.{own_other, own_this, since_other, since_this}
use Rattle.blocking_world_copiers.proofs.Seen.{polls_this, its_own, not_own}
use Rattle.blocking_world_copiers.proofs.Stays.{MakesNext, aside, all_aside, of_same, makes_none}
use Rattle.blocking_world_copiers.proofs.Stays.{links_grow, flip, lent_once}

-- ---- one copier of them

pub found_as : (k : ℕ) (cs : List CopierState) (c : CopierState) (past : List Moment)
    → copier_at k cs ≡ Some c → AllAs cs past → (c.number ≡ k) × CopierAs c past
found_as k [] c past found t = absurd cc
found_as k (x ∷ cs) c past found t =
    by (x.number == k) refl found (λ more. found_as k cs c past more t.1)
  where
    by : (b : Bool) → (x.number == k) ≡ b → (if b then Some x else copier_at k cs) ≡ Some c
        → (copier_at k cs ≡ Some c → (c.number ≡ k) × CopierAs c past)
        → (c.number ≡ k) × CopierAs c past
    by true is found more = let same : x ≡ c = cc in
        subst (λ y. (y.number ≡ k) × CopierAs y past) same (eqb-true x.number k is, t.0)
    by false is found more = more found

-- where it belongs to one that is among them
lent_here : (k h : ℕ) (cs : List CopierState) (c : CopierState) → copier_at k cs ≡ Some c
    → is_lent h cs ≡ false → belongs h c ≡ false
lent_here k h [] c found none = absurd cc
lent_here k h (x ∷ cs) c found none =
    by (x.number == k) (belongs h x) refl found none (λ more out. lent_here k h cs c more out)
  where
    by : (a b : Bool) → belongs h x ≡ b → (if a then Some x else copier_at k cs) ≡ Some c
        → (if b then true else is_lent h cs) ≡ false
        → (copier_at k cs ≡ Some c → is_lent h cs ≡ false → belongs h c ≡ false)
        → belongs h c ≡ false
    by true false is found none more = let same : x ≡ c = cc in ap (belongs h) (sym same) ∙ is
    by false false is found none more = more found none
    by a true is found none more = absurd cc

-- it asks one of its owners, and the others stay
module _ (now : Moment) (past : List Moment)
    (k g : ℕ) (c : CopierState) (by_g : now.event.party ≡ ByOwner g) (its : belongs g c ≡ true)
    (next : MakesNext now.step now.event.act (links past)) (asks : CopierAs c (now ∷ past)) where
  apart_from : (x : CopierState) (cs : List CopierState) → copier_at k cs ≡ Some c
      → is_lent x.reader cs ≡ false → is_lent x.writer cs ≡ false → belongs g x ≡ false
  apart_from x cs found reader writer = by (belongs x.reader c) (belongs x.writer c)
      (lent_here k x.reader cs c found reader) (lent_here k x.writer cs c found writer)
    where
      by : (a b : Bool) → belongs x.reader c ≡ false → belongs x.writer c ≡ false
          → belongs g x ≡ false
      by a b r w = grind (arith, nat_tests)

  pub all_ask : (cs : List CopierState) → copier_at k cs ≡ Some c → AllAs cs past → AreApart cs
      → AllAs cs (now ∷ past)
  all_ask [] found t apart = absurd cc
  all_ask (x ∷ cs) found t apart =
      by (x.number == k) refl found (λ more. all_ask cs more t.1 apart.3)
    where
      owner_is : (h : ℕ) → now.event.party ≡ ByOwner h → g ≡ h
      owner_is h is = let both = sym by_g ∙ is in cc

      by : (b : Bool) → (x.number == k) ≡ b → (if b then Some x else copier_at k cs) ≡ Some c
          → (copier_at k cs ≡ Some c → AllAs cs (now ∷ past)) → AllAs (x ∷ cs) (now ∷ past)
      by true is found more =
          let same : x ≡ c = cc in (
            subst (λ y. CopierAs y (now ∷ past)) (sym same) asks,
            all_aside cs now past next (λ h of_h some. subst (λ n. is_lent n cs ≡ false)
                (owner_is h of_h) (lent_once g x cs
                (subst (λ y. belongs g y ≡ true) (sym same) its) apart.1 apart.2)) t.1,
          )
      by false is found more = (
        aside x now past next (λ h of_h some. subst (λ n. belongs n x ≡ false) (owner_is h of_h)
            (apart_from x cs found apart.1 apart.2)) t.0,
        more found,
      )

-- ---- what a copier has written is a beginning of what it has read

written_so : (before filled piece read : List ℕ) → read ≡ before ++ piece → IsBeginning filled piece
    → IsBeginning (before ++ filled) read
written_so before filled piece read is begins =
    (begins.0, is ∙ ap (λ l. before ++ l) begins.1 ∙ sym (append_assoc before filled begins.0))

filled_so : (bytes writer : List ℕ) (n : ℕ) → writer ≡ take n bytes → IsBeginning writer bytes
filled_so bytes writer n is =
    (drop n bytes, sym (take-append-drop n bytes) ∙ ap (λ l. l ++ drop n bytes) (sym is))

pub begins_by : (size : ℕ) (act : CopyAction ℕ) (copied : ℕ) (short : Bool) (piece : List ℕ)
    (a b pa pb p : List Act) → CopierBy size act copied short piece a b pa pb p → PollAs b
    → IsBeginning (all_accepted pb) (all_got pa)
begins_by size (action.Read most) copied short piece a b pa pb p t poll =
    subst (λ l. IsBeginning l (all_got pa)) (sym (wrote_before t t.stands.2.1))
    (⊎_elim (λ rests. ([], rests.1 ∙ sym (append-nil t.before))) (λ now. (got_now a, now.1))
    t.stands.3)
begins_by size (action.Write from to) copied short piece a b pa pb p t poll =
    subst (λ l. IsBeginning l (all_got pa)) (sym t.wrote) (written_so t.before (filled_now b)
    (between from to piece) (all_got pa) t.stands.1 (by t.stands.4))
  where
    by : WriterRests b ⊎ (under_way b ≡ Some (Write (between from to piece)))
        → IsBeginning (filled_now b) (between from to piece)
    by (inl rests) = (between from to piece, ap (λ l. l ++ between from to piece) (sym rests.1))
    by (inr runs) =
        let w : WriteAs (between from to piece) b = subst (λ c. CallAs c b) runs poll in
        ⊎_elim (λ calm. (between from to piece, ap (λ l. l ++ between from to piece) (sym calm.0)))
        (λ says. filled_so (between from to piece) (filled_now b) says.0 says.3) w.filled
begins_by size action.Flush copied short piece a b pa pb p t poll =
    subst (λ l. IsBeginning l (all_got pa)) (sym (wrote_before t
    (⊎_elim (λ rests. rests.1) (λ now. now.1) t.stands.3))) t.stands.0
begins_by size (action.Done (end.Copied n)) copied short piece a b pa pb p t poll =
    subst (λ l. IsBeginning l (all_got pa)) (sym (wrote_before t t.stands.3.1))
    ([], sym t.stands.0 ∙ sym (append-nil t.before))
begins_by size (action.Done (end.Reading why)) copied short piece a b pa pb p t poll =
    subst (λ l. IsBeginning l (all_got pa)) (sym (wrote_before t t.stands.2.1)) t.stands.0
begins_by size (action.Done (end.Writing why)) copied short piece a b pa pb p t poll =
    subst (λ l. IsBeginning l (all_got pa)) (sym (wrote_before t t.stands.2.1)) t.stands.0

-- what it tells is so
pub copied_by : (size : ℕ) (act : CopyAction ℕ) (copied : ℕ) (short : Bool) (piece : List ℕ)
    (a b pa pb p : List Act) (n : ℕ) → CopierBy size act copied short piece a b pa pb p
    → next_by act piece ≡ next.Copied n
    → (all_accepted pb ≡ all_got pa) × (call p ≡ Some Flush) × (outcome p ≡ HasReplied Okay)
    × (n ≡ min (length (all_accepted pb)) (2 ^ 64 - 1))
copied_by size (action.Read most) copied short piece a b pa pb p n t is = absurd cc
copied_by size (action.Write from to) copied short piece a b pa pb p n t is = absurd cc
copied_by size action.Flush copied short piece a b pa pb p n t is = absurd cc
copied_by size (action.Done (end.Copied m)) copied short piece a b pa pb p n t is =
    let same : m ≡ n = cc in
    let wrote : all_accepted pb ≡ t.before = wrote_before t t.stands.3.1 in (
      wrote ∙ t.stands.0,
      t.stands.4,
      t.stands.5,
      sym same ∙ t.stands.1 ∙ t.count ∙ sym (ap (λ l. min (length l) (2 ^ 64 - 1)) wrote),
    )
copied_by size (action.Done (end.Reading why)) copied short piece a b pa pb p n t is = absurd cc
copied_by size (action.Done (end.Writing why)) copied short piece a b pa pb p n t is = absurd cc

-- ---- what a copier does next, by what was seen

law_next : (c : Copier) (past : List Moment) (o : Outcome)
    → law_next_by c past o ≡ next_from c.piece (acts_since c.number c.reader past)
    (acts_since c.number c.writer past) (polls_of c past) o
law_next c past NotAsked = refl
law_next c past NoReply = refl
law_next c past (HasReplied reply) = refl

pub next_agrees : (c : CopierState) (past : List Moment) → CopierAs c past
    → as_action (next_of c) ≡ next_of_copier (shown c) past
next_agrees c past t =
    t.by.next_is ∙ sym (law_next (shown c) past (outcome (polls_of (shown c) past)))

-- ---- a copier asks

pub own_reader : (c : CopierState) → belongs c.reader c ≡ true
own_reader c = by (c.reader == c.reader) (c.writer == c.reader) (eq-eqb c.reader c.reader refl)
  where
    by : (x y : Bool) → x ≡ true → (x || y) ≡ true
    by x y is = grind arith

pub own_writer : (c : CopierState) → belongs c.writer c ≡ true
own_writer c = by (c.reader == c.writer) (c.writer == c.writer) (eq-eqb c.writer c.writer refl)
  where
    by : (x y : Bool) → y ≡ true → (x || y) ≡ true
    by x y is = grind arith

-- an open owner that rests may be asked
pub open_rests : (acts : List Act) → IsOpen acts → rests acts ≡ is_poll_over (under_way acts)
open_rests acts o = grind arith

pub open_asks : (acts : List Act) (asked : HandleCall) → IsOpen acts → IsCopiers asked
    → is_poll_over (under_way acts) ≡ true → may_ask acts asked ≡ true
open_asks acts asked o its over = grind arith

pub over_is : (o : Option HandleCall) → is_poll_over o ≡ true → o ≡ None
over_is o is = grind arith

asks_by_core : (size : ℕ) (act : CopyAction ℕ) (copied : ℕ) (short : Bool) (piece : List ℕ)
    (a b pa pb p : List Act) (asked : HandleCall) → CopierBy size act copied short piece a b pa pb p
    → next_by act piece ≡ next.AskReader asked → under_way a ≡ None
    → CopierBy size act copied short piece (Asked asked ∷ a) b (Asked asked ∷ pa) pb
    (Asked asked ∷ p)
asks_by_core size (action.Read most) copied short piece a b pa pb p asked t is rest =
    let same : Read most ≡ asked = cc in
    subst (λ x. CopierBy size (action.Read most) copied short piece (Asked x ∷ a) b (Asked x ∷ pa)
    pb (Asked x ∷ p)) same (asks_reader size copied short piece a b pa pb p most t rest)
asks_by_core size (action.Write from to) copied short piece a b pa pb p asked t is rest = absurd cc
asks_by_core size action.Flush copied short piece a b pa pb p asked t is rest = absurd cc
asks_by_core size (action.Done (end.Copied n)) copied short piece a b pa pb p asked t is rest =
    absurd cc
asks_by_core size (action.Done (end.Reading why)) copied short piece a b pa pb p asked t is rest =
    absurd cc
asks_by_core size (action.Done (end.Writing why)) copied short piece a b pa pb p asked t is rest =
    absurd cc

writes_by_core : (size : ℕ) (act : CopyAction ℕ) (copied : ℕ) (short : Bool) (piece : List ℕ)
    (a b pa pb p : List Act) (asked : HandleCall) → CopierBy size act copied short piece a b pa pb p
    → next_by act piece ≡ next.AskWriter asked → under_way b ≡ None
    → CopierBy size act copied short piece a (Asked asked ∷ b) pa (Asked asked ∷ pb)
    (Asked asked ∷ p)
writes_by_core size (action.Write from to) copied short piece a b pa pb p asked t is rest =
    let same : Write (between from to piece) ≡ asked = cc in
    subst (λ x. CopierBy size (action.Write from to)
    copied short piece a (Asked x ∷ b) pa (Asked x ∷ pb) (Asked x ∷ p)) same
    (asks_write size copied short piece a b pa pb p from to t rest)
writes_by_core size action.Flush copied short piece a b pa pb p asked t is rest =
    let same : Flush ≡ asked = cc in
    subst (λ x. CopierBy size action.Flush copied short piece a (Asked x ∷ b) pa (Asked x ∷ pb)
    (Asked x ∷ p)) same (asks_flush size copied short piece a b pa pb p t rest)
writes_by_core size (action.Read most) copied short piece a b pa pb p asked t is rest = absurd cc
writes_by_core size (action.Done (end.Copied n)) copied short piece a b pa pb p asked t is rest =
    absurd cc
writes_by_core size (action.Done (end.Reading why)) copied short piece a b pa pb p asked t is rest =
    absurd cc
writes_by_core size (action.Done (end.Writing why)) copied short piece a b pa pb p asked t is rest =
    absurd cc

asked_next : (step : Step) (asked : HandleCall) (many : ℕ) → MakesNext step (Asked asked) many
asked_next step asked many = grind arith

module _ (now : Moment) (past : List Moment) (c : CopierState) (t : CopierAs c past)
    (asked : HandleCall) (act_is : now.event.act ≡ Asked asked) where
  made : MakesNext now.step now.event.act (links past)
  made = subst (λ x. MakesNext now.step x (links past)) (sym act_is)
      (asked_next now.step asked (links past))

  unmade : (k : ℕ) → k < links past → makes_copier k now.step now.event.act ≡ false
  unmade k known = makes_none k now.step now.event.act (links past) known made

  known_more : c.number < links (now ∷ past)
  known_more = let grow = links_grow now past in let known = t.known in omega (arith, grow, known)

  by_one : (g : ℕ) → now.event.party ≡ ByOwner g → belongs g c ≡ true
      → polls_of (shown c) (now ∷ past) ≡ Asked asked ∷ polls_of (shown c) past
  by_one g by its =
      polls_this (shown c) now past (unmade c.number t.known)
      (ap (λ x. not (is_nothing x)
      && (is_owner c.reader now.event.party || is_owner c.writer now.event.party)) act_is
      ∙ ap (λ p. is_owner c.reader p || is_owner c.writer p) by ∙ ap (λ b. b || (g == c.writer))
      (flip g c.reader) ∙ ap (λ b. (c.reader == g) || b) (flip g c.writer) ∙ its)
      ∙ ap (λ x. x ∷ polls_of (shown c) past) act_is

  pub reader_asked : now.event.party ≡ ByOwner c.reader → next_of c ≡ next.AskReader asked
      → under_way (acts_of_owner c.reader (events past)) ≡ None → CopierAs c (now ∷ past)
  reader_asked by is rest =
      let mine = its_own c.reader now.event by (ap is_nothing act_is) (ap is_of_pool act_is) in
      let other = not_own c.reader c.writer now.event by t.differ in
      record {
        known = known_more;
        differ = t.differ;
        order = subst (InOrder c.core.next)
            (sym (since_other c.number c.writer now past (unmade c.number t.known) other)) t.order;
        by = of_same c (own_this c.reader now.event (events past) mine
            ∙ ap (λ x. x ∷ acts_of_owner c.reader (events past)) act_is)
            (own_other c.writer now.event (events past) other)
            (since_this c.number c.reader now past (unmade c.number t.known) mine
            ∙ ap (λ x. x ∷ acts_since c.number c.reader past) act_is)
            (since_other c.number c.writer now past (unmade c.number t.known) other)
            (by_one c.reader by (own_reader c)) (asks_by_core c.core.piece c.core.next c.core.copied
            c.core.is_short c.piece _ _ _ _ _ asked t.by is rest);
      }

  pub writer_asked : now.event.party ≡ ByOwner c.writer → next_of c ≡ next.AskWriter asked
      → under_way (acts_of_owner c.writer (events past)) ≡ None → CopierAs c (now ∷ past)
  writer_asked by is rest =
      let mine = its_own c.writer now.event by (ap is_nothing act_is) (ap is_of_pool act_is) in
      let other = not_own c.writer c.reader now.event by (flip c.writer c.reader ∙ t.differ) in
      record {
        known = known_more;
        differ = t.differ;
        order = subst (InOrder c.core.next)
            (sym (since_this c.number c.writer now past (unmade c.number t.known) mine
            ∙ ap (λ x. x ∷ acts_since c.number c.writer past) act_is))
            (asks_order c.core.next c.piece asked (acts_since c.number c.writer past) is t.order);
        by = of_same c (own_other c.reader now.event (events past) other)
            (own_this c.writer now.event (events past) mine
            ∙ ap (λ x. x ∷ acts_of_owner c.writer (events past)) act_is)
            (since_other c.number c.reader now past (unmade c.number t.known) other)
            (since_this c.number c.writer now past (unmade c.number t.known) mine
            ∙ ap (λ x. x ∷ acts_since c.number c.writer past) act_is)
            (by_one c.writer by (own_writer c)) (writes_by_core c.core.piece c.core.next
            c.core.copied c.core.is_short c.piece _ _ _ _ _ asked t.by is rest);
      }
