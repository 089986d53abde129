-- What owners do that are lent to copiers.
use Rattle.std.proofs.Common.{◌≡◌, ⊎_elim, ℕ, ◌<◌, ◌==◌, ◌&&◌, ◌||◌, not, if◌then◌else◌, List, []}
use Rattle.std.proofs.Common.{◌∷◌, Bool, true, false, refl, sym, ap, ◌∙◌, subst, Some, None, arith}
use Rattle.blocking_world_laws.specs.Copies.{acts_since, polls_of}
use Rattle.blocking_world_laws.specs.Lent.{links}
use Rattle.blocking_world_laws.specs.Seen.{EachMayFollow, events, cut, own, acts_of_owner}
use Rattle.blocking_world_laws.specs.Seen.{is_nothing, is_of_pool, is_owner}
use Rattle.blocking_world_laws.specs.Sessions.{under_way, is_owner_gone}
use Rattle.blocking_world_laws.specs.OwnerLaws.{OwnerLaw, OwnerLaws, OwnerActs, Polls}
use Rattle.blocking_world_laws.specs.declared.event.Moment.{Moment}
use Rattle.blocking_world_laws.specs.declared.event.Party.TheVariants.{Owner as ByOwner}
use Rattle.blocking_world_copiers.specs.Copiers.{CopierState, shown, belongs, heard, is_lent}
use Rattle.blocking_world_copiers.specs.Copiers.{hear_first}
use Rattle.blocking_world_copiers.specs.Ties.{got_now, filled_now, InOrder, CopierOf, CopierAs}
use Rattle.blocking_world_copiers.specs.Ties.{AreApart, AllAs}
use Rattle.blocking_world_copiers.proofs.Words.{Act, Made, Asked, Waits, Replied, HolderDropped}
use Rattle.blocking_world_copiers.proofs.Words.{Rest, next_of_owner_by, Event, HandleCall}
use Rattle.blocking_world_copiers.proofs.Polls.{StepAs, own_after, own_law}
use Rattle.blocking_world_copiers.proofs.Copying.{reader_acts, writer_acts}
use Rattle.blocking_world_copiers.proofs.OrderSteps.{reader_order, writer_order}
use Rattle.blocking_world_copiers.proofs.Seen.{is_own, own_other, own_this, since_other, since_this}
use Rattle.blocking_world_copiers.proofs.Seen.{polls_this, its_own, not_own}
use Rattle.blocking_world_copiers.proofs.Stays.{MakesNext, aside, all_aside, of_same, makes_none}
use Rattle.blocking_world_copiers.proofs.Stays.{links_grow, flip, belongs_is, lent_once}

-- ---- an owner that rests

abbrev pub IsIdle : List Act → Type 0
IsIdle [] = Unit {0}
IsIdle (Made h capacity ∷ acts) = acts ≡ []
IsIdle (Waits ∷ acts) = Unit {0}
IsIdle (Replied reply ∷ acts) = Unit {0}
IsIdle (HolderDropped ∷ acts) = Unit {0}
IsIdle (act ∷ acts) = ⊥

pub idle_rests : (cut : List Event) (acts : List Act) → IsIdle acts
    → next_of_owner_by cut acts ≡ Rest
idle_rests cut [] idle = refl
idle_rests cut (Made h capacity ∷ acts) idle = refl
idle_rests cut (Waits ∷ acts) idle = refl
idle_rests cut (Replied reply ∷ acts) idle = refl
idle_rests cut (HolderDropped ∷ acts) idle = refl
idle_rests cut (act ∷ acts) idle = absurd idle

goes_on : (cut : List Event) (act : Act) → (under_way (own cut) ≡ None → IsIdle (own cut))
    → OwnerActs cut act → under_way (act ∷ own cut) ≡ None → IsIdle (act ∷ own cut)
goes_on cut (Made h capacity) was does none = ap own does
goes_on cut (Asked asked) was does none = absurd cc
goes_on cut Waits was does none = tt
goes_on cut (Replied reply) was does none = tt
goes_on cut HolderDropped was does none = tt
goes_on cut act was does none =
    absurd (subst (λ next. Polls cut next act) (idle_rests cut (own cut) (was none)) does)

pub idle_as : (cut : List Event) → EachMayFollow OwnerLaw cut → under_way (own cut) ≡ None
    → IsIdle (own cut)
idle_as [] laws = λ none. tt
idle_as (now ∷ cut) laws =
    let was = idle_as cut laws.1 in
    own_after (λ l. under_way l ≡ None → IsIdle l) now cut (λ is. was)
    (λ is. goes_on cut now.act was (own_law now cut laws is))

idle_none : (acts : List Act) → IsIdle acts → is_owner_gone acts ≡ false
    → (got_now acts ≡ []) × (filled_now acts ≡ [])
idle_none [] idle there = (refl, refl)
idle_none (Made h capacity ∷ acts) idle there = (ap got_now idle, ap filled_now idle)
idle_none (Waits ∷ acts) idle there = (refl, refl)
idle_none (Replied reply ∷ acts) idle there = (refl, refl)
idle_none (HolderDropped ∷ acts) idle there = absurd cc
idle_none (act ∷ acts) idle there = absurd idle

-- nothing passes where no poll is under way
pub at_rest : (cut : List Event) → OwnerLaws cut → under_way (own cut) ≡ None
    → is_owner_gone (own cut) ≡ false → (got_now (own cut) ≡ []) × (filled_now (own cut) ≡ [])
at_rest cut laws none there = idle_none (own cut) (idle_as cut laws none) there

-- ---- a copier hears

pub heard_same : (c : CopierState) (act : Act) → ((heard c act).number ≡ c.number)
    × ((heard c act).reader ≡ c.reader) × ((heard c act).writer ≡ c.writer)
heard_same c act = grind arith

-- the polls of a copier by its number and its owners
abbrev polls_by : ℕ → ℕ → ℕ → List Moment → List Act
polls_by k h g past = polls_of (record { number = k; reader = h; writer = g; piece = 0 }) past

-- what is tied of a copier stays with its number and its owners
renamed : (c d : CopierState) (past : List Moment) → d.number ≡ c.number → d.reader ≡ c.reader
    → d.writer ≡ c.writer → c.number < links past → (c.reader == c.writer) ≡ false
    → InOrder d.core.next (acts_since c.number c.writer past)
    → CopierOf d (acts_of_owner c.reader (events past)) (acts_of_owner c.writer (events past))
    (acts_since c.number c.reader past) (acts_since c.number c.writer past)
    (polls_by c.number c.reader c.writer past) → CopierAs d past
renamed c d past n r w known differ order by = record {
  known = subst (λ k. k < links past) (sym n) known;
  differ = ap (λ h. h == d.writer) r ∙ ap (λ h. c.reader == h) w ∙ differ;
  order = subst (InOrder d.core.next)
      (sym (ap (λ k. acts_since k d.writer past) n ∙ ap (λ h. acts_since c.number h past) w)) order;
  by = of_same d (ap (λ h. acts_of_owner h (events past)) r)
      (ap (λ h. acts_of_owner h (events past)) w)
      (ap (λ k. acts_since k d.reader past) n ∙ ap (λ h. acts_since c.number h past) r)
      (ap (λ k. acts_since k d.writer past) n ∙ ap (λ h. acts_since c.number h past) w)
      (ap (λ k. polls_by k d.reader d.writer past) n
      ∙ ap (λ h. polls_by c.number h d.writer past) r
      ∙ ap (λ h. polls_by c.number c.reader h past) w) by;
}

either : (x a b : Bool) → x ≡ false → (a || b) ≡ true → (not x && (a || b)) ≡ true
either x a b something is = grind arith

module _ (now : Moment) (past : List Moment) (h : ℕ) (by_h : now.event.party ≡ ByOwner h)
    (something : is_nothing now.event.act ≡ false) (own_act : is_of_pool now.event.act ≡ false)
    (next : MakesNext now.step now.event.act (links past))
    (asked : HandleCall) (runs : under_way (acts_of_owner h (events past)) ≡ Some asked)
    (step : StepAs asked (acts_of_owner h (events past)) now.event.act) where
  polls_more : (c : CopierState) → CopierAs c past → belongs h c ≡ true
      → polls_of (shown c) (now ∷ past) ≡ now.event.act ∷ polls_of (shown c) past
  polls_more c t its =
      let made = makes_none c.number now.step now.event.act (links past) t.known next in
      polls_this (shown c) now past made
      (ap (λ p. not (is_nothing now.event.act) && (is_owner c.reader p || is_owner c.writer p)) by_h
      ∙ either (is_nothing now.event.act) (h == c.reader) (h == c.writer) something
      (ap (λ b. b || (h == c.writer)) (flip h c.reader)
      ∙ ap (λ b. (c.reader == h) || b) (flip h c.writer) ∙ its))

  known_now : (c : CopierState) → CopierAs c past → c.number < links (now ∷ past)
  known_now c t = let grow = links_grow now past in let known = t.known in
      omega (arith, grow, known)

  -- its reader's act
  hears_reader : (c : CopierState) → CopierAs c past → c.reader ≡ h → belongs h c ≡ true
      → CopierAs (heard c now.event.act) (now ∷ past)
  hears_reader c t same its =
      let made = makes_none c.number now.step now.event.act (links past) t.known next in
      let mine : is_own c.reader now.event ≡ true = subst (λ g. is_own g now.event ≡ true)
      (sym same) (its_own h now.event by_h something own_act) in
      let other : is_own c.writer now.event ≡ false =
      not_own h c.writer now.event by_h (ap (λ g. g == c.writer) (sym same) ∙ t.differ) in
      let f = heard_same c now.event.act in
      renamed c (heard c now.event.act) (now ∷ past) f.0 f.1 f.2 (known_now c t) t.differ
      (subst (InOrder (heard c now.event.act).core.next)
      (sym (since_other c.number c.writer now past made other))
      (reader_order c.number c.reader c.writer c.core.piece c.core.copied c.core.is_short c.piece
      _ _ _ _ _ c.core.next now.event.act asked t.by
      (ap (λ g. under_way (acts_of_owner g (events past))) same ∙ runs) t.order))
      (of_same (heard c now.event.act) (own_this c.reader now.event (events past) mine)
      (own_other c.writer now.event (events past) other)
      (since_this c.number c.reader now past made mine)
      (since_other c.number c.writer now past made other)
      (polls_more c t its)
      (reader_acts c.number c.reader c.writer c.core.piece c.core.copied c.core.is_short c.piece
      _ _ _ _ _ c.core.next now.event.act asked t.by
      (ap (λ g. under_way (acts_of_owner g (events past))) same ∙ runs) (subst
      (λ g. StepAs asked (acts_of_owner g (events past)) now.event.act) (sym same) step)))

  -- its writer's act
  hears_writer : (c : CopierState) → CopierAs c past → (c.reader == h) ≡ false
      → c.writer ≡ h → belongs h c ≡ true → CopierAs (heard c now.event.act) (now ∷ past)
  hears_writer c t reads same its =
      let made = makes_none c.number now.step now.event.act (links past) t.known next in
      let mine : is_own c.writer now.event ≡ true = subst (λ g. is_own g now.event ≡ true)
      (sym same) (its_own h now.event by_h something own_act) in
      let other : is_own c.reader now.event ≡ false =
      not_own h c.reader now.event by_h (flip h c.reader ∙ reads) in
      let f = heard_same c now.event.act in
      renamed c (heard c now.event.act) (now ∷ past) f.0 f.1 f.2 (known_now c t) t.differ
      (subst (InOrder (heard c now.event.act).core.next)
      (sym (since_this c.number c.writer now past made mine))
      (writer_order c.number c.reader c.writer c.core.piece c.core.copied c.core.is_short c.piece
      _ _ _ _ _ c.core.next now.event.act asked t.by
      (ap (λ g. under_way (acts_of_owner g (events past))) same ∙ runs) (subst (λ g.
      StepAs asked (acts_of_owner g (events past)) now.event.act) (sym same) step) t.order))
      (of_same (heard c now.event.act) (own_other c.reader now.event (events past) other)
      (own_this c.writer now.event (events past) mine)
      (since_other c.number c.reader now past made other)
      (since_this c.number c.writer now past made mine)
      (polls_more c t its)
      (writer_acts c.number c.reader c.writer c.core.piece c.core.copied c.core.is_short c.piece
      _ _ _ _ _ c.core.next now.event.act asked t.by
      (ap (λ g. under_way (acts_of_owner g (events past))) same ∙ runs) (subst
      (λ g. StepAs asked (acts_of_owner g (events past)) now.event.act) (sym same) step)))

  hears : (c : CopierState) → CopierAs c past → belongs h c ≡ true
      → CopierAs (heard c now.event.act) (now ∷ past)
  hears c t its = ⊎_elim (λ reads. hears_reader c t reads its)
      (λ writes. hears_writer c t writes.0 writes.1 its) (belongs_is h c its)

  same_owner : (g : ℕ) → now.event.party ≡ ByOwner g → g ≡ h
  same_owner g is = let both = sym is ∙ by_h in cc

  pub all_hear : (cs : List CopierState) → AllAs cs past → AreApart cs
      → AllAs (hear_first h now.event.act cs) (now ∷ past)
  all_hear [] t apart = tt
  all_hear (c ∷ more) t apart = by (belongs h c) refl (all_hear more t.1 apart.3)
    where
      by : (b : Bool) → belongs h c ≡ b → AllAs (hear_first h now.event.act more) (now ∷ past)
          → AllAs (if b then heard c now.event.act ∷ more else c ∷ hear_first h now.event.act more)
          (now ∷ past)
      by true its heard_more = (
        hears c t.0 its,
        all_aside more now past next (λ g is some. subst (λ k. is_lent k more ≡ false)
            (sym (same_owner g is)) (lent_once h c more its apart.1 apart.2)) t.1,
      )
      by false not_its heard_more = (
        aside c now past next (λ g is some.
            subst (λ k. belongs k c ≡ false) (sym (same_owner g is)) not_its) t.0,
        heard_more,
      )
