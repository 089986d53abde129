-- Each step keeps assemblies lawful.
use Rattle.std.proofs.Common.{◌≡◌, inl, ℕ, ◌<◌, ◌==◌, ◌&&◌, ◌||◌, not, cond, if◌then◌else◌, nat_lt}
use Rattle.std.proofs.Common.{List, [], ◌∷◌, map, filter, Bool, true, false, refl, sym, ap}
use Rattle.std.proofs.Common.{◌∙◌, subst, Option, Some, None, option_map, slice_get, arith}
use Rattle.std.proofs.lemmas.Bool.Decides.{nat_tests}
use Rattle.std.proofs.lemmas.Bool.{eqb-true, eq-eqb}
use Rattle.blocking_core.specs.declared.copy.CopyAction.{CopyAction}
use Rattle.blocking_core.specs.declared.copy.CopyAction.TheVariants as action
use Rattle.blocking_core.specs.declared.copy.CopyEnd.TheVariants as end
use Rattle.blocking_world_laws.specs.Copies.{CopierAction, AskReader, AskWriter, Tells as TellsEnd}
use Rattle.blocking_world_laws.specs.Copies.{StepTells, TellsTruly, is_by_either, makes_copier}
use Rattle.blocking_world_laws.specs.Copies.{since, all_accepted, all_got, acts_since}
use Rattle.blocking_world_laws.specs.Copies.{next_of_copier}
use Rattle.blocking_world_laws.specs.Growth.{IsPlanned}
use Rattle.blocking_world_laws.specs.Lent.{Copier, copiers, copiers_by, copier_in, has_owner, links}
use Rattle.blocking_world_laws.specs.Lent.{is_linking, without_copier}
use Rattle.blocking_world_laws.specs.Seen.{EachMayFollow, IsBeginning, events, cut, own}
use Rattle.blocking_world_laws.specs.Seen.{acts_of_owner, is_nothing, is_of_pool, is_some_worker}
use Rattle.blocking_world_laws.specs.Seen.{is_in_cut}
use Rattle.blocking_world_laws.specs.Sessions.{under_way, is_poll_over, is_made, is_closed}
use Rattle.blocking_world_laws.specs.Sessions.{was_asked_inner, may_ask, rests}
use Rattle.blocking_world_laws.specs.Sessions.{is_pending_operation}
use Rattle.blocking_world_laws.specs.OwnerLaws.{OwnerLaw, OwnerLaws, OwnerActs, OwnerMayAct}
use Rattle.blocking_world_laws.specs.Steps.{StepLaw, Happens, Fits, has_action, named, party}
use Rattle.blocking_world_laws.specs.Steps.{job_of, owner_of, may_lend, may_copy, asked_by}
use Rattle.blocking_world_laws.specs.Steps.{act_of_copier, IsOfCopier, copier_party}
use Rattle.blocking_world_laws.specs.declared.event.Act.TheVariants.{Linked, NoAction}
use Rattle.blocking_world_laws.specs.declared.event.Act.TheVariants.{Copied as CopiedAll}
use Rattle.blocking_world_laws.specs.declared.event.Act.TheVariants.{CopyFailed}
use Rattle.blocking_world_laws.specs.declared.event.Moment.{Moment}
use Rattle.blocking_world_laws.specs.declared.event.Party.{Party}
use Rattle.blocking_world_laws.specs.declared.event.Party.TheVariants.{Owner as ByOwner, Pool}
use Rattle.blocking_world_laws.specs.declared.step.Step.{Step}
use Rattle.blocking_world_laws.specs.declared.step.Step.TheVariants.{New, Ask, Own, DropOwner}
use Rattle.blocking_world_laws.specs.declared.step.Step.TheVariants.{Spawn, OfTask, Arrive, Take}
use Rattle.blocking_world_laws.specs.declared.step.Step.TheVariants.{Job, Io, End, Wait, Late}
use Rattle.blocking_world_laws.specs.declared.step.Step.TheVariants.{SetLimit, SetClientLimit}
use Rattle.blocking_world_laws.specs.declared.step.Step.TheVariants.{Sweep, Stray, Strike, Link}
use Rattle.blocking_world_laws.specs.declared.step.Step.TheVariants.{Copy}
use Rattle.blocking_world_state.specs.Moves.{may_ask_in, rests_in}
use Rattle.blocking_world_state.specs.Ties.{IsFree, IsLawful as PartsAreLawful}
use Rattle.blocking_world_state.proofs.laws.Actions.{asks_by as owner_rests}
use Rattle.blocking_world_state.proofs.laws.Actions.{asked_by as owner_asked}
use Rattle.blocking_world_state.proofs.laws.Legality.{stays_lawful, step_keeps, copier_lawful}
use Rattle.blocking_world_copiers.specs.Assemblies.{Assembled, AllStay, Tells, Takes, Polls, Ends}
use Rattle.blocking_world_copiers.specs.Assemblies.{Copies, IfLent, IfLinks, IfCopies, CopiesAt}
use Rattle.blocking_world_copiers.specs.Assemblies.{Does, may_lend_in, may_link_in, may_do_in}
use Rattle.blocking_world_copiers.specs.Assemblies.{may_copy_in}
use Rattle.blocking_world_copiers.specs.Copiers.{CopierState, shown, new_copier, belongs, heard}
use Rattle.blocking_world_copiers.specs.Copiers.{between, next_by, next_of, as_action, copier_at}
use Rattle.blocking_world_copiers.specs.Copiers.{is_lent, hear_first, without_number}
use Rattle.blocking_world_copiers.specs.Ties.{got_now, filled_now, IsOpen, InOrder, CopierOf}
use Rattle.blocking_world_copiers.specs.Ties.{CopierAs, AreApart, AllAs, Copied, IsLawful}
use Rattle.blocking_world_copiers.specs.declared.copier.CopierNext.{CopierNext}
use Rattle.blocking_world_copiers.specs.declared.copier.CopierNext.TheVariants as next
use Rattle.blocking_world_copiers.proofs.Words.{Act, Asked, Event, HandleCall, Read, Write, Flush}
use Rattle.blocking_world_copiers.proofs.Polls.{IsCopiers, poll_as, step_as}
use Rattle.blocking_world_copiers.proofs.Copying.{none_asking}
use Rattle.blocking_world_copiers.proofs.OrderSteps.{told_order}
use Rattle.blocking_world_copiers.proofs.Endings.{took_all}
use Rattle.blocking_world_copiers.proofs.Seen.{is_own, own_other, its_own, links_same, links_more}
use Rattle.blocking_world_copiers.proofs.Seen.{neither}
use Rattle.blocking_world_copiers.proofs.Stays.{MakesNext, out_is, hear_apart, all_aside, of_same}
use Rattle.blocking_world_copiers.proofs.Stays.{has_is, in_is, hear_shown, without_shown}
use Rattle.blocking_world_copiers.proofs.Stays.{all_without, apart_without}
use Rattle.blocking_world_copiers.proofs.Owners.{all_hear, at_rest, heard_same}
use Rattle.blocking_world_copiers.proofs.Lawful.{found_as, all_ask, begins_by, copied_by}
use Rattle.blocking_world_copiers.proofs.Lawful.{next_agrees, open_rests, open_asks, over_is}
use Rattle.blocking_world_copiers.proofs.Lawful.{reader_asked, writer_asked, own_reader, own_writer}

-- What a step keeps beside the parts.
record Kept (w : Assembled) (past : List Moment) (now : Moment) (new : Assembled) : Type 0 where
  copied : Copied new (now ∷ past)
  step : StepLaw past now
  told : StepTells now.step past now.event.act

-- ---- all of it, by what a step keeps

-- a copier that is found is one of those of the code
code_of : (k : ℕ) (cs : List CopierState) (c : Copier) → copier_in k (map shown cs) ≡ Some c
    → (x : CopierState) × (copier_at k cs ≡ Some x) × (shown x ≡ c)
code_of k cs c found = by (copier_at k cs) refl (sym (in_is k cs) ∙ found)
  where
    by : (o : Option CopierState) → copier_at k cs ≡ o → option_map shown o ≡ Some c
        → (x : CopierState) × (copier_at k cs ≡ Some x) × (shown x ≡ c)
    by None is same = absurd cc
    by (Some x) is same = (x, is, (let e = same in cc))

whole : (setting : ℕ) (plan : List Bool) (w : Assembled)
    (past : List Moment) (lawful : IsLawful setting plan w past) (now : Moment) (new : Assembled)
    → PartsAreLawful setting plan new.parts (now ∷ past) → Kept w past now new
    → IsLawful setting plan new (now ∷ past)
whole setting plan w past lawful now new parts k = record {
  parts = parts;
  copied = k.copied;
  legal = record {
    steps = (k.step, lawful.legal.steps);
    pool = parts.legal.pool;
    owners = parts.legal.owners;
    tasks = parts.legal.tasks;
    wakes = parts.legal.wakes;
    owner_wakes = parts.legal.owner_wakes;
    served = parts.legal.served;
    staffed = parts.legal.staffed;
    copies = (
      record {
        copies = λ n c found.
            let mine = code_of n new.copiers c (ap (copier_in n) k.copied.shown_are ∙ found) in
            let tie = (found_as n new.copiers mine.0 (now ∷ past) mine.1 k.copied.each).1 in
            subst (λ x. IsBeginning (all_accepted (acts_since x.number x.writer (now ∷ past)))
            (all_got (acts_since x.number x.reader (now ∷ past)))) mine.2
            (begins_by mine.0.core.piece mine.0.core.next mine.0.core.copied mine.0.core.is_short
            mine.0.piece _ _ _ _ _ tie.by (poll_as (cut mine.0.writer (events (now ∷ past)))
            (parts.legal.owners mine.0.writer)));
        told = k.told;
      },
      lawful.legal.copies,
    );
  };
}

-- ---- what is only told

-- where nothing is done, or what isn't a copier's beginning or end, the copiers of the laws stay
stay_by : (step : Step) (act : Act) (before : List Copier) → is_nothing act ≡ true
    → copiers_by step act before ≡ before
stay_by step act before is = grind arith

no_link : (step : Step) (act : Act) → is_nothing act ≡ true → is_linking step act ≡ false
no_link step act is = grind arith

no_next : (step : Step) (act : Act) (many : ℕ) → is_nothing act ≡ true → MakesNext step act many
no_next step act many is = grind arith

-- The copiers hang together after an event by which none is made, where they are these by now.
copied_as : (w : Assembled) (past : List Moment) (t : Copied w past) (now : Moment)
    (new : Assembled) (cs : List CopierState) → new.copiers ≡ cs → new.made ≡ w.made
    → is_linking now.step now.event.act ≡ false → map shown cs ≡ copiers (now ∷ past)
    → AreApart cs → AllAs cs (now ∷ past) → Copied new (now ∷ past)
copied_as w past t now new cs are made none shown_as apart each = record {
  shown_are = ap (map shown) are ∙ shown_as;
  made_is = made ∙ t.made_is ∙ sym (links_same now past none);
  apart = subst AreApart (sym are) apart;
  each = subst (λ l. AllAs l (now ∷ past)) (sym are) each;
}

-- nothing is done: all stays
module _ (w : Assembled) (past : List Moment) (t : Copied w past) (now : Moment) (new : Assembled)
    (stays : AllStay w new) where
  idle_copied : is_nothing now.event.act ≡ true → Copied new (now ∷ past)
  idle_copied nothing =
      copied_as w past t now new w.copiers stays.copiers stays.made
      (no_link now.step now.event.act nothing)
      (t.shown_are ∙ sym (stay_by now.step now.event.act (copiers past) nothing)) t.apart
      (all_aside w.copiers now past (no_next now.step now.event.act (links past) nothing)
      (λ h by some. absurd (let none = sym some ∙ nothing in cc)) t.each)

-- what makes no copier makes none
unlinked : (many : ℕ) (step : Step) (act : Act) → is_linking step act ≡ false
    → MakesNext step act many
unlinked many step act none = grind arith

with_last : {X : Type 0} (MayFollow : List X → X → Type 0) (b : Bool) (x : X) (xs : List X)
    → b ≡ true → EachMayFollow MayFollow (cond b (x ∷ xs) xs) → MayFollow xs x
with_last MayFollow true x xs e laws = laws.0
with_last MayFollow false x xs e laws = absurd cc

-- an own act of an owner stands in its cut
in_is_cut : (h : ℕ) (e : Event) → e.party ≡ ByOwner h → is_nothing e.act ≡ false
    → is_of_pool e.act ≡ false → is_in_cut h e ≡ true
in_is_cut h e by some own_act = by_both (its_own h e by some own_act)
  where
    by_both : is_own h e ≡ true → is_in_cut h e ≡ true
    by_both is = and_left (is_in_cut h e) (not (is_some_worker e.party)) is
      where
        and_left : (x y : Bool) → (x && y) ≡ true → x ≡ true
        and_left x y is = grind arith

-- whoever makes it keeps the laws of owners
owner_acts : (h : ℕ) (e : Event) (es : List Event) → OwnerLaws (cut h (e ∷ es))
    → e.party ≡ ByOwner h → is_nothing e.act ≡ false → is_of_pool e.act ≡ false
    → OwnerActs (cut h es) e.act
owner_acts h e es laws by some own_act =
    subst (λ b. OwnerMayAct b (cut h es) e) (ap is_some_worker by)
    (with_last OwnerLaw (is_in_cut h e) e (cut h es) (in_is_cut h e by some own_act) laws).acts

-- a step that does nothing
idle_law : (past : List Moment) (step : Step) (e : Event) → has_action past step ≡ false
    → e.act ≡ NoAction → e.party ≡ named step → e.job ≡ None → e.owner ≡ None
    → StepLaw past (record { step = step; event = e })
idle_law past step e none act by of owned =
    let nothing : is_nothing e.act ≡ true = ap is_nothing act in
    record {
      act = subst (λ b. Happens b past step e.act) (sym none) act;
      by = by ∙ sym (ap (λ b. if b then named step else party past step) nothing);
      of = of ∙ sym (ap (λ b. if b then None else job_of past step e.act) nothing);
      owned = owned ∙ sym (ap (λ j. owner_of j past) of);
    }

-- a step that does something
done_law : (past : List Moment) (step : Step) (e : Event) → has_action past step ≡ true
    → is_nothing e.act ≡ false → Fits past step e.act → e.party ≡ party past step → e.job ≡ None
    → job_of past step e.act ≡ None → e.owner ≡ None
    → StepLaw past (record { step = step; event = e })
done_law past step e has something fits by of jobless owned =
    record {
      act = subst (λ b. Happens b past step e.act) (sym has) (something, fits);
      by = by ∙ sym (ap (λ b. if b then named step else party past step) something);
      of = of ∙ sym jobless ∙ sym (ap (λ b. if b then None else job_of past step e.act) something);
      owned = owned ∙ sym (ap (λ j. owner_of j past) of);
    }

module _ (setting : ℕ) (plan : List Bool) (w : Assembled) (past : List Moment)
    (lawful : IsLawful setting plan w past) where
  t : Copied w past
  t = lawful.copied

  lent_is : (h : ℕ) → has_owner h (copiers past) ≡ is_lent h w.copiers
  lent_is h = ap (has_owner h) (sym t.shown_are) ∙ has_is h w.copiers

  found_is : (k : ℕ) → copier_in k (copiers past) ≡ option_map shown (copier_at k w.copiers)
  found_is k = ap (copier_in k) (sym t.shown_are) ∙ in_is k w.copiers

  -- ---- something is told that does nothing

  told_nothing : (step : Step) (e : Event) (new : Assembled)
      → has_action past step ≡ false → Tells step (named step) NoAction w e new
      → IsLawful setting plan new (record { step = step; event = e } ∷ past)
  told_nothing step e new none does =
      let m = does.moves in
      whole setting plan w past lawful (record { step = step; event = e }) new (copier_lawful
      setting plan w.parts past lawful.parts new.parts e step (named step) NoAction m)
      (record {
        copied = idle_copied w past t (record { step = step; event = e }) new does.stays
            (ap is_nothing m.act_is);
        step = idle_law past step e none m.act_is m.by m.jobless m.ownerless;
        told = tells_none step e.act m.act_is;
      })
    where
      tells_none : (step : Step) (act : Act) → act ≡ NoAction → StepTells step past act
      tells_none (Copy k) act is = subst (λ x. TellsTruly (copier_in k (copiers past)) past x)
          (sym is) (by (copier_in k (copiers past)))
        where
          by : (o : Option Copier) → TellsTruly o past NoAction
          by None = tt
          by (Some c) = tt
      tells_none step act is = tt

  -- ---- the parts' own steps

  -- an event of a step of the parts: the copiers stay, if it is no lent owner's and no copier's
  module _ (step : Step) (e : Event) (new : Assembled) (free : IsFree past step)
      (does : Takes (IsPlanned plan) step w e new) where
    abbrev now : Moment
    now = record { step = step; event = e }

    parts_now : PartsAreLawful setting plan new.parts (now ∷ past)
    parts_now = stays_lawful setting plan w.parts past lawful.parts new.parts e step does.steps

    law_now : StepLaw past now
    law_now = step_keeps setting plan w.parts past lawful.parts new.parts e step does.steps free

    takes_lawful : is_linking step e.act ≡ false
        → copiers_by step e.act (copiers past) ≡ copiers past → StepTells step past e.act
        → ((h : ℕ) → e.party ≡ ByOwner h → is_nothing e.act ≡ false → is_lent h w.copiers ≡ false)
        → IsLawful setting plan new (now ∷ past)
    takes_lawful none same told out =
        whole setting plan w past lawful now new parts_now
        (record {
          copied = copied_as w past t now new w.copiers does.stays.copiers does.stays.made none
              (t.shown_are ∙ sym same) t.apart
              (all_aside w.copiers now past (unlinked (links past) step e.act none) out t.each);
          step = law_now;
          told = told;
        })

  -- ---- who takes a step

  -- a party that is no owner
  abbrev IsNoOwner : Party → Type 0
  IsNoOwner (ByOwner h) = ⊥
  IsNoOwner who = Unit {0}

  no_owner : (b : Bool) (who one other : Party) (h : ℕ) → who ≡ (if b then one else other)
      → IsNoOwner one → IsNoOwner other → who ≡ ByOwner h → ⊥
  no_owner true who one other h is first second by = subst IsNoOwner (sym is ∙ by) first
  no_owner false who one other h is first second by = subst IsNoOwner (sym is ∙ by) second

  -- of the other owner
  this_owner : (b : Bool) (who : Party) (h g : ℕ) → who ≡ (if b then ByOwner h else ByOwner h)
      → who ≡ ByOwner g → h ≡ g
  this_owner true who h g is by = let both = sym is ∙ by in cc
  this_owner false who h g is by = let both = sym is ∙ by in cc

  made_lent : (h : ℕ) (cs : List CopierState) → AllAs cs past
      → is_made (acts_of_owner h (events past)) ≡ false → is_lent h cs ≡ false
  made_lent h [] all unmade = refl
  made_lent h (c ∷ cs) all unmade =
      by (c.reader == h) (c.writer == h) refl refl (made_lent h cs all.1 unmade)
    where
      by : (x y : Bool) → (c.reader == h) ≡ x → (c.writer == h) ≡ y → is_lent h cs ≡ false
          → (if (x || y) then true else is_lent h cs) ≡ false
      by true y r w more = absurd (let there =
          sym (ap (λ g. is_made (acts_of_owner g (events past))) (eqb-true c.reader h r))
          ∙ all.0.by.reader_open.made in let none = sym unmade ∙ there in cc)
      by false true r w more = absurd (let there =
          sym (ap (λ g. is_made (acts_of_owner g (events past))) (eqb-true c.writer h w))
          ∙ all.0.by.writer_open.made in let none = sym unmade ∙ there in cc)
      by false false r w more = more

  -- a step of nobody's who is an owner
  plain : (step : Step) (e : Event) (new : Assembled) (free : IsFree past step)
      → Takes (IsPlanned plan) step w e new → is_linking step e.act ≡ false
      → copiers_by step e.act (copiers past) ≡ copiers past → StepTells step past e.act
      → IsNoOwner (named step) → IsNoOwner (party past step)
      → IsLawful setting plan new (record { step = step; event = e } ∷ past)
  plain step e new free does none same told one other =
      takes_lawful step e new free does none same told
      (λ h by some. absurd (no_owner (is_nothing e.act) e.party (named step) (party past step) h
      (law_now step e new free does).by one other by))

  -- an owner is made
  makes : (capacity client : ℕ) (e : Event) (new : Assembled)
      → Takes (IsPlanned plan) (New capacity client) w e new
      → IsLawful setting plan new (record { step = New capacity client; event = e } ∷ past)
  makes capacity client e new does =
      let law = law_now (New capacity client) e new tt does in
      takes_lawful (New capacity client) e new tt does refl refl tt
      (λ h by some.
      let act = law.act.1 in
      let laws = (parts_now (New capacity client) e new tt does).legal.owners h in
      let acts = owner_acts h e (events past) laws by some (ap is_of_pool act) in
      let none : cut h (events past) ≡ [] = subst (OwnerActs (cut h (events past))) act acts in
      made_lent h w.copiers t.each (ap (λ c. is_made (own c)) none))

  -- a step at an owner
  no_lent : (a : Bool) (b : Bool) → b ≡ true → (a && not b) ≡ false
  no_lent a b is = grind arith

  asks : (h : ℕ) (call : HandleCall) (e : Event) (new : Assembled) (b : Bool)
      → is_lent h w.copiers ≡ b → IfLent b (IsPlanned plan) h (Ask h call) w e new
      → IsLawful setting plan new (record { step = Ask h call; event = e } ∷ past)
  asks h call e new true is does =
      told_nothing (Ask h call) e new (no_lent (may_ask (acts_of_owner h (events past)) call)
      (has_owner h (copiers past)) (lent_is h ∙ is)) does
  asks h call e new false is does =
      let free = lent_is h ∙ is in
      takes_lawful (Ask h call) e new free does refl refl tt
      (λ g by some. subst (λ n. is_lent n w.copiers ≡ false) (this_owner (is_nothing e.act) e.party
      h g (law_now (Ask h call) e new free does).by by) is)

  drops : (h : ℕ) (e : Event) (new : Assembled) (b : Bool)
      → is_lent h w.copiers ≡ b → IfLent b (IsPlanned plan) h (DropOwner h) w e new
      → IsLawful setting plan new (record { step = DropOwner h; event = e } ∷ past)
  drops h e new true is does = told_nothing (DropOwner h) e new (no_lent
      (rests (acts_of_owner h (events past))) (has_owner h (copiers past)) (lent_is h ∙ is)) does
  drops h e new false is does =
      let free = lent_is h ∙ is in
      takes_lawful (DropOwner h) e new free does refl refl tt
      (λ g by some. subst (λ n. is_lent n w.copiers ≡ false) (this_owner (is_nothing e.act) e.party
      h g (law_now (DropOwner h) e new free does).by by) is)

  -- ---- an owner's poll

  hear_nothing : (h : ℕ) (act : Act) (cs : List CopierState) → is_nothing act ≡ true
      → hear_first h act cs ≡ cs
  hear_nothing h act [] nothing = refl
  hear_nothing h act (c ∷ cs) nothing = by (belongs h c) (hear_nothing h act cs nothing)
    where
      same : heard c act ≡ c
      same = grind arith

      by : (b : Bool) → hear_first h act cs ≡ cs
          → (if b then heard c act ∷ cs else c ∷ hear_first h act cs) ≡ c ∷ cs
      by true more = ap (λ x. x ∷ cs) same
      by false more = ap (λ l. c ∷ l) more

  polled : (o : Option HandleCall) → not (is_poll_over o) ≡ true
      → (asked : HandleCall) × (o ≡ Some asked)
  polled None is = absurd cc
  polled (Some asked) is = (asked, refl)

  polls : (h : ℕ) (e : Event) (new : Assembled) → Polls (IsPlanned plan) h w e new
      → IsLawful setting plan new (record { step = Own h; event = e } ∷ past)
  polls h e new does =
      whole setting plan w past lawful now new parts_next
      (record {
        copied = copied_as w past t now new (hear_first h e.act w.copiers) does.copiers does.made
            refl (hear_shown h e.act w.copiers ∙ t.shown_are) (apart_hear w.copiers t.apart)
            (by (is_nothing e.act) refl);
        step = law;
        told = tt;
      })
    where
      now : Moment
      now = record { step = Own h; event = e }

      parts_next : PartsAreLawful setting plan new.parts (now ∷ past)
      parts_next =
          stays_lawful setting plan w.parts past lawful.parts new.parts e (Own h) does.steps

      law : StepLaw past (now)
      law = step_keeps setting plan w.parts past lawful.parts new.parts e (Own h) does.steps tt

      same_party : (b : Bool) (who one : Party) → who ≡ (if b then one else one) → who ≡ one
      same_party true who one is = is
      same_party false who one is = is

      by_h : e.party ≡ ByOwner h
      by_h = same_party (is_nothing e.act) e.party (ByOwner h) law.by

      acts_here : (b : Bool) → Happens b past (Own h) e.act → is_nothing e.act ≡ false
          → (b ≡ true) × (is_of_pool e.act ≡ false)
      acts_here true happens some = (refl, happens.1)
      acts_here false happens some = absurd (let none = sym some ∙ ap is_nothing happens in cc)

      by : (b : Bool) → is_nothing e.act ≡ b
          → AllAs (hear_first h e.act w.copiers) (now ∷ past)
      by true nothing =
          subst (λ cs. AllAs cs (now ∷ past))
          (sym (hear_nothing h e.act w.copiers nothing))
          (all_aside w.copiers now past tt
          (λ g of_g some. absurd (let none = sym some ∙ nothing in cc)) t.each)
      by false some =
          let happens = acts_here (has_action past (Own h)) law.act some in
          let runs = polled (under_way (acts_of_owner h (events past))) happens.0 in
          let acts =
          owner_acts h e (events past) (parts_next.legal.owners h) by_h some happens.1 in
          all_hear now past h by_h some happens.1 tt runs.0 runs.1
          (step_as (cut h (events past)) e.act runs.0 runs.1 (poll_as (cut h (events past))
          (lawful.parts.legal.owners h)) acts) w.copiers t.each t.apart

      none_shown : (o : Option CopierState) → option_map shown o ≡ None → o ≡ None
      none_shown o is = grind arith

      at_heard : (n : ℕ) (cs : List CopierState) → copier_at n cs ≡ None
          → copier_at n (hear_first h e.act cs) ≡ None
      at_heard n cs none =
          none_shown (copier_at n (hear_first h e.act cs)) (sym (in_is n (hear_first h e.act cs))
          ∙ ap (copier_in n) (hear_shown h e.act cs) ∙ in_is n cs ∙ ap (option_map shown) none)

      lent_heard : (g : ℕ) (cs : List CopierState) → is_lent g cs ≡ false
          → is_lent g (hear_first h e.act cs) ≡ false
      lent_heard g cs none = sym (has_is g (hear_first h e.act cs))
          ∙ ap (has_owner g) (hear_shown h e.act cs) ∙ has_is g cs ∙ none

      same_names : (c : CopierState) → ((heard c e.act).number ≡ c.number)
          × ((heard c e.act).reader ≡ c.reader) × ((heard c e.act).writer ≡ c.writer)
      same_names c = heard_same c e.act

      apart_hear : (cs : List CopierState) → AreApart cs → AreApart (hear_first h e.act cs)
      apart_hear cs apart = hear_apart h e.act cs at_heard lent_heard apart

  -- ---- a copier is made

  may_lend_is : (h : ℕ) → may_lend past h ≡ may_lend_in w h
  may_lend_is h =
      lends (rests (acts_of_owner h (events past))) (is_closed (acts_of_owner h (events past)))
      (was_asked_inner (acts_of_owner h (events past)))
      (is_pending_operation (acts_of_owner h (events past))) (has_owner h (copiers past))
      ∙ ap (λ b. b && not (has_owner h (copiers past))) (sym (owner_asked setting plan w.parts past
      lawful.parts.tied h (Read 0) (slice_get w.parts.owners h) refl))
      ∙ ap (λ b. may_ask_in (slice_get w.parts.owners h) (Read 0) && not b) (lent_is h)
    where
      lends : (r c i p o : Bool) → (((r && not c) && not i) && not o)
          ≡ ((((r && (not c || false)) && (not i || false)) && (not false || p)) && not o)
      lends r c i p o = grind arith

  may_link_is : (a b n : ℕ) → has_action past (Link a b n) ≡ may_link_in w a b n
  may_link_is a b n =
      ap (λ x. ((x && may_lend past b) && not (a == b)) && nat_lt 0 n) (may_lend_is a)
      ∙ ap (λ x. ((may_lend_in w a && x) && not (a == b)) && nat_lt 0 n) (may_lend_is b)

  fresh : (cs : List CopierState) → AllAs cs past → copier_at w.made cs ≡ None
  fresh [] all = refl
  fresh (c ∷ cs) all = by (c.number == w.made) refl (fresh cs all.1)
    where
      by : (b : Bool) → (c.number == w.made) ≡ b → copier_at w.made cs ≡ None
          → (if b then Some c else copier_at w.made cs) ≡ None
      by true is more = absurd (let known = all.0.known in let same = eqb-true c.number w.made is in
          let many = t.made_is in omega (arith, known, same, many))
      by false is more = more

  -- what the parts of such a test are
  record MayLink (a b n : ℕ) : Type 0 where
    first : may_lend_in w a ≡ true
    second : may_lend_in w b ≡ true
    apart : (a == b) ≡ false
    positive : 0 < n

  may_link_so : (a b n : ℕ) → may_link_in w a b n ≡ true → MayLink a b n
  may_link_so a b n is =
      by (may_lend_in w a) (may_lend_in w b) (a == b) (nat_lt 0 n) refl refl refl refl is
    where
      by : (x y z v : Bool) → may_lend_in w a ≡ x → may_lend_in w b ≡ y → (a == b) ≡ z
          → nat_lt 0 n ≡ v → (((x && y) && not z) && v) ≡ true → MayLink a b n
      by true true false true x y z v is =
          record { first = x; second = y; apart = z; positive = grind (arith, nat_tests) }
      by false y z v _ _ _ _ is = absurd cc
      by true false z v _ _ _ _ is = absurd cc
      by true true true v _ _ _ _ is = absurd cc
      by true true false false _ _ _ _ is = absurd cc

  -- an owner that may be lent is open, rests, and is lent to nobody
  record Lendable (h : ℕ) : Type 0 where
    is_open : IsOpen (acts_of_owner h (events past))
    resting : under_way (acts_of_owner h (events past)) ≡ None
    free : is_lent h w.copiers ≡ false

  lendable : (h : ℕ) → may_lend_in w h ≡ true → Lendable h
  lendable h may =
      let parts = lend_parts (acts_of_owner h (events past)) (has_owner h (copiers past))
      (may_lend_is h ∙ may) in
      record { is_open = parts.0; resting = parts.1; free = sym (lent_is h) ∙ parts.2 }
    where
      lend_parts : (acts : List Act) (o : Bool)
          → (((rests acts && not (is_closed acts)) && not (was_asked_inner acts)) && not o) ≡ true
          → IsOpen acts × (under_way acts ≡ None) × (o ≡ false)
      lend_parts acts o is = grind arith

  links_so : (a b n : ℕ) (e : Event) (new : Assembled) (x : Bool)
      → may_link_in w a b n ≡ x → IfLinks x a b n w e new
      → IsLawful setting plan new (record { step = Link a b n; event = e } ∷ past)
  links_so a b n e new false is does = told_nothing (Link a b n) e new (may_link_is a b n ∙ is) does
  links_so a b n e new true is does =
      whole setting plan w past lawful now new (copier_lawful setting plan w.parts past lawful.parts
      new.parts e (Link a b n) Pool (Linked w.made) does.moves)
      (record {
        copied = record {
          shown_are = ap (map shown) does.copiers ∙ ap (λ l. shown (new_copier w.made a b n) ∷ l)
              t.shown_are ∙ sym (ap (λ x. copiers_by (Link a b n) x (copiers past)) act_is);
          made_is = does.made ∙ (let more = links_more now past linking in let many = t.made_is in
              omega (arith, more, many));
          apart = subst AreApart (sym does.copiers)
              (fresh w.copiers t.each, reads.free, writes.free, t.apart);
          each = subst (λ cs. AllAs cs (now ∷ past)) (sym does.copiers) (
            new_as,
            all_aside w.copiers now past next
                (λ g of_g some. absurd (let other = sym does.moves.by ∙ of_g in cc)) t.each,
          );
        };
        step = done_law past (Link a b n) e (may_link_is a b n ∙ is) (ap is_nothing act_is)
            (act_is ∙ ap Linked t.made_is) does.moves.by does.moves.jobless refl
            does.moves.ownerless;
        told = tt;
      })
    where
      now : Moment
      now = record { step = Link a b n; event = e }

      act_is : e.act ≡ Linked w.made
      act_is = does.moves.act_is

      so : MayLink a b n
      so = may_link_so a b n is

      reads : Lendable a
      reads = lendable a so.first

      writes : Lendable b
      writes = lendable b so.second

      linking : is_linking (Link a b n) e.act ≡ true
      linking = ap (is_linking (Link a b n)) act_is

      next : MakesNext (Link a b n) e.act (links past)
      next = subst (λ x. MakesNext (Link a b n) x (links past)) (sym act_is) t.made_is

      made : makes_copier w.made (Link a b n) e.act ≡ true
      made = ap (makes_copier w.made (Link a b n)) act_is ∙ eq-eqb w.made w.made refl

      none_since : since w.made (now ∷ past) ≡ []
      none_since = ap
          (λ x. if x then [] else now ∷ since w.made past) made

      out : is_by_either (shown (new_copier w.made a b n)) e ≡ false
      out = out_is (new_copier w.made a b n) e
          (λ g of_g some. absurd (let other = sym does.moves.by ∙ of_g in cc))

      nothing_a : (got_now (acts_of_owner a (events past)) ≡ [])
          × (filled_now (acts_of_owner a (events past)) ≡ [])
      nothing_a = at_rest (cut a (events past)) (lawful.parts.legal.owners a) reads.resting
          reads.is_open.gone

      nothing_b : (got_now (acts_of_owner b (events past)) ≡ [])
          × (filled_now (acts_of_owner b (events past)) ≡ [])
      nothing_b = at_rest (cut b (events past)) (lawful.parts.legal.owners b) writes.resting
          writes.is_open.gone

      begins : CopierOf (new_copier w.made a b n) (acts_of_owner a (events past))
          (acts_of_owner b (events past)) [] [] []
      begins = record {
        positive = so.positive;
        reader_open = reads.is_open;
        writer_open = writes.is_open;
        before = [];
        wrote = sym nothing_b.1;
        count = refl;
        short = refl;
        stands =
            (refl, refl, (writes.resting, nothing_b.1), inl ((reads.resting, nothing_a.0), refl));
        next_is = refl;
        asking = none_asking reads.resting writes.resting;
      }

      new_as : CopierAs (new_copier w.made a b n) (now ∷ past)
      new_as = record {
        known = (let more = links_more now past linking in
            let many = t.made_is in omega (arith, more, many));
        differ = so.apart;
        order = subst (InOrder (action.Read n)) (sym (ap (λ l. own (cut b (events l))) none_since))
            refl;
        by = of_same (new_copier w.made a b n)
            (own_other a e (events past) (neither (shown (new_copier w.made a b n)) e out).0)
            (own_other b e (events past) (neither (shown (new_copier w.made a b n)) e out).1)
            (ap (λ l. own (cut a (events l))) none_since)
            (ap (λ l. own (cut b (events l))) none_since)
            (ap (λ l. map (λ (x : Event). x.act) (filter
            (is_by_either (shown (new_copier w.made a b n))) (events l))) none_since)
            begins;
      }

  -- ---- a copier's step

  rests_is : (h : ℕ) → IsOpen (acts_of_owner h (events past)) → rests_in
      (slice_get w.parts.owners h) ≡ is_poll_over (under_way (acts_of_owner h (events past)))
  rests_is h o =
      owner_rests setting plan w.parts past lawful.parts.tied h (slice_get w.parts.owners h) refl
      ∙ open_rests (acts_of_owner h (events past)) o

  asks_is : (h : ℕ) (asked : HandleCall) → IsOpen (acts_of_owner h (events past))
      → IsCopiers asked → is_poll_over (under_way (acts_of_owner h (events past))) ≡ true
      → may_ask_in (slice_get w.parts.owners h) asked ≡ true
  asks_is h asked o its over =
      owner_asked setting plan w.parts past lawful.parts.tied h asked (slice_get w.parts.owners h)
      refl ∙ open_asks (acts_of_owner h (events past)) asked o its over

  -- where both owners rest, the one that it asks may be asked
  may_do_is : (c : CopierState) (tie : CopierAs c past)
      → is_poll_over (under_way (acts_of_owner c.reader (events past))) ≡ true
      → is_poll_over (under_way (acts_of_owner c.writer (events past))) ≡ true
      → (act : CopyAction ℕ) → may_do_in w c.reader c.writer (next_by act c.piece) ≡ true
  may_do_is c tie reader writer (action.Read most) =
      asks_is c.reader (Read most) tie.by.reader_open tt reader
  may_do_is c tie reader writer (action.Write from to) =
      asks_is c.writer (Write (between from to c.piece)) tie.by.writer_open tt writer
  may_do_is c tie reader writer action.Flush = asks_is c.writer Flush tie.by.writer_open tt writer
  may_do_is c tie reader writer (action.Done (end.Copied n)) = refl
  may_do_is c tie reader writer (action.Done (end.Reading why)) = refl
  may_do_is c tie reader writer (action.Done (end.Writing why)) = refl

  may_copy_is : (c : CopierState) → CopierAs c past
      → may_copy (Some (shown c)) past ≡ may_copy_in w c
  may_copy_is c tie =
      same_test (is_poll_over (under_way (acts_of_owner c.reader (events past))))
      (is_poll_over (under_way (acts_of_owner c.writer (events past))))
      (rests_in (slice_get w.parts.owners c.reader)) (rests_in (slice_get w.parts.owners c.writer))
      (may_do_in w c.reader c.writer (next_of c)) (rests_is c.reader tie.by.reader_open)
      (rests_is c.writer tie.by.writer_open) (λ r v. may_do_is c tie r v c.core.next)
    where
      same_test : (x y r v d : Bool) → r ≡ x → v ≡ y → (x ≡ true → y ≡ true → d ≡ true)
          → (x && y) ≡ ((r && v) && d)
      same_test true true r v d reader writer does = let done = does refl refl in grind arith
      same_test true false r v d reader writer does = grind arith
      same_test false y r v d reader writer does = grind arith

  has_copy : (k : ℕ) (c : CopierState) → copier_at k w.copiers ≡ Some c
      → has_action past (Copy k) ≡ may_copy_in w c
  has_copy k c found = ap (λ o. may_copy o past) (found_is k ∙ ap (option_map shown) found)
      ∙ may_copy_is c (found_as k w.copiers c past found t.each).1

  -- both owners rest
  both_over : (c : CopierState) → CopierAs c past
      → may_copy_in w c ≡ true → (under_way (acts_of_owner c.reader (events past)) ≡ None)
      × (under_way (acts_of_owner c.writer (events past)) ≡ None)
  both_over c tie may =
      let over =
      both (is_poll_over (under_way (acts_of_owner c.reader (events past)))) (is_poll_over
      (under_way (acts_of_owner c.writer (events past)))) (may_copy_is c tie ∙ may) in (
        over_is (under_way (acts_of_owner c.reader (events past))) over.0,
        over_is (under_way (acts_of_owner c.writer (events past))) over.1,
      )
    where
      both : (x y : Bool) → (x && y) ≡ true → (x ≡ true) × (y ≡ true)
      both x y is = grind arith

  module _ (k : ℕ) (c : CopierState) (found : copier_at k w.copiers ≡ Some c)
      (may : may_copy_in w c ≡ true) (e : Event) (new : Assembled) where
    tie : CopierAs c past
    tie = (found_as k w.copiers c past found t.each).1

    abbrev copy_now : Moment
    copy_now = record { step = Copy k; event = e }

    seen_is : copier_in k (copiers past) ≡ Some (shown c)
    seen_is = found_is k ∙ ap (option_map shown) found

    -- what is seen of it is what it does next
    copy_law : (what : CopierAction) → as_action (next_of c) ≡ what → e.act ≡ act_of_copier what
        → is_nothing e.act ≡ false → e.party ≡ asked_by what (shown c) → e.job ≡ None
        → e.owner ≡ None → StepLaw past copy_now
    copy_law what is act some by jobless ownerless =
        let agrees : what ≡ next_of_copier (shown c) past = sym is ∙ next_agrees c past tie in
        done_law past (Copy k) e (has_copy k c found ∙ may) some
        (subst (λ o. IsOfCopier o past e.act) (sym seen_is) (act ∙ ap act_of_copier agrees))
        (by ∙ ap (λ x. asked_by x (shown c)) agrees ∙ sym (ap (λ o. copier_party o past) seen_is))
        jobless refl ownerless

    -- it asks an owner
    asked_so : (g : ℕ) (asked : HandleCall)
        → belongs g c ≡ true → Tells (Copy k) (ByOwner g) (Asked asked) w e new
        → CopierAs c (copy_now ∷ past) → (what : CopierAction)
        → as_action (next_of c) ≡ what
        → Asked asked ≡ act_of_copier what → ByOwner g ≡ asked_by what (shown c)
        → IsLawful setting plan new (copy_now ∷ past)
    asked_so g asked its does after what is act by =
        whole setting plan w past lawful copy_now new (copier_lawful setting plan w.parts past
        lawful.parts new.parts e (Copy k) (ByOwner g) (Asked asked) does.moves)
        (record {
          copied = copied_as w past t copy_now new w.copiers does.stays.copiers does.stays.made
              (ap (is_linking (Copy k)) does.moves.act_is)
              (t.shown_are ∙ sym (ap (λ x. copiers_by (Copy k) x (copiers past)) does.moves.act_is))
              t.apart (all_ask copy_now past k g c does.moves.by its
              (subst (λ x. MakesNext (Copy k) x (links past)) (sym does.moves.act_is) tt)
              after w.copiers found t.each t.apart);
          step = copy_law what is (does.moves.act_is ∙ act) (ap is_nothing does.moves.act_is)
              (does.moves.by ∙ by) does.moves.jobless does.moves.ownerless;
          told = subst (λ x. TellsTruly (copier_in k (copiers past)) past x) (sym does.moves.act_is)
              (tells_none (copier_in k (copiers past)));
        })
      where
        tells_none : (o : Option Copier) → TellsTruly o past (Asked asked)
        tells_none None = tt
        tells_none (Some x) = tt

    -- it tells its end
    ended_so : (act : Act) → Ends k act w e new → is_nothing act ≡ false → is_linking (Copy k) act
        ≡ false → copiers_by (Copy k) act (copiers past) ≡ without_copier k (copiers past)
        → MakesNext (Copy k) act (links past)
        → as_action (next_of c) ≡ TellsEnd act → TellsTruly (Some (shown c)) past act
        → IsLawful setting plan new (copy_now ∷ past)
    ended_so act does some none gone next is truly =
        whole setting plan w past lawful copy_now new (copier_lawful setting plan w.parts past
        lawful.parts new.parts e (Copy k) Pool act does.moves)
        (record {
          copied = copied_as w past t copy_now new (without_number k w.copiers) does.copiers
              does.made (ap (is_linking (Copy k)) does.moves.act_is ∙ none)
              (without_shown k w.copiers t.apart ∙ ap (without_copier k) t.shown_are ∙ sym gone
              ∙ sym (ap (λ x. copiers_by (Copy k) x (copiers past)) does.moves.act_is))
              (apart_without k w.copiers t.apart)
              (all_aside (without_number k w.copiers) copy_now past
              (subst (λ x. MakesNext (Copy k) x (links past)) (sym does.moves.act_is) next)
              (λ g of_g something. absurd (let other = sym does.moves.by ∙ of_g in cc))
              (all_without k w.copiers past t.each));
          step =
              copy_law (TellsEnd act) is does.moves.act_is (ap is_nothing does.moves.act_is ∙ some)
              does.moves.by does.moves.jobless does.moves.ownerless;
          told = subst (λ x. TellsTruly (copier_in k (copiers past)) past x) (sym does.moves.act_is)
              (subst (λ o. TellsTruly o past act) (sym seen_is) truly);
        })

    copies_so : (n : CopierNext) → next_of c ≡ n → Copies k c n w e new
        → IsLawful setting plan new (copy_now ∷ past)
    copies_so (next.AskReader asked) is does =
        asked_so c.reader asked (own_reader c) does (reader_asked copy_now past c tie
        asked does.moves.act_is does.moves.by is (both_over c tie may).0) (AskReader asked)
        (ap as_action is) refl refl
    copies_so (next.AskWriter asked) is does =
        asked_so c.writer asked (own_writer c) does (writer_asked copy_now past c tie
        asked does.moves.act_is does.moves.by is (both_over c tie may).1) (AskWriter asked)
        (ap as_action is) refl refl
    copies_so (next.Copied n) is does =
        let so = copied_by c.core.piece c.core.next c.core.copied c.core.is_short c.piece _ _ _ _ _
        n tie.by is in
        ended_so (CopiedAll n) does refl refl refl tt (ap as_action is) (record {
          written = so.0;
          taken = took_all c.number c.writer past (lawful.legal.owners c.writer)
              (told_order c.core.next c.piece n (acts_since c.number c.writer past) is tie.order);
          flushed = record { asked = so.1; replied = so.2 };
          count = so.3;
        })
    copies_so (next.Failed at) is does =
        ended_so (CopyFailed at) does refl refl refl tt (ap as_action is) tt

  copies_at : (k : ℕ) (e : Event) (new : Assembled) (o : Option CopierState)
      → copier_at k w.copiers ≡ o → CopiesAt k o w e new
      → IsLawful setting plan new (record { step = Copy k; event = e } ∷ past)
  copies_at k e new None none does = told_nothing (Copy k) e new
      (ap (λ o. may_copy o past) (found_is k ∙ ap (option_map shown) none)) does
  copies_at k e new (Some c) found does = by (may_copy_in w c) refl does
    where
      by : (b : Bool) → may_copy_in w c ≡ b → IfCopies b k c w e new
          → IsLawful setting plan new (record { step = Copy k; event = e } ∷ past)
      by true may does = copies_so k c found may e new (next_of c) refl does
      by false may does = told_nothing (Copy k) e new (has_copy k c found ∙ may) does

  -- ---- each step

  pub does_lawful : (step : Step) (e : Event) (new : Assembled) → Does (IsPlanned plan) step w e new
      → IsLawful setting plan new (record { step = step; event = e } ∷ past)
  does_lawful (New capacity client) e new does = makes capacity client e new does
  does_lawful (Ask h call) e new does = asks h call e new (is_lent h w.copiers) refl does
  does_lawful (DropOwner h) e new does = drops h e new (is_lent h w.copiers) refl does
  does_lawful (Own h) e new does = polls h e new does
  does_lawful (Link a b n) e new does = links_so a b n e new (may_link_in w a b n) refl does
  does_lawful (Copy k) e new does = copies_at k e new (copier_at k w.copiers) refl does
  does_lawful (Spawn client) e new does = plain (Spawn client) e new tt does refl refl tt tt tt
  does_lawful (OfTask k call) e new does = plain (OfTask k call) e new tt does refl refl tt tt tt
  does_lawful Arrive e new does = plain Arrive e new tt does refl refl tt tt tt
  does_lawful (Take v) e new does = plain (Take v) e new tt does refl refl tt tt tt
  does_lawful (Job v) e new does = plain (Job v) e new tt does refl refl tt tt tt
  does_lawful (Io v answer) e new does = plain (Io v answer) e new tt does refl refl tt tt tt
  does_lawful (End v) e new does = plain (End v) e new tt does refl refl tt tt tt
  does_lawful (Wait v) e new does = plain (Wait v) e new tt does refl refl tt tt tt
  does_lawful (Late v) e new does = plain (Late v) e new tt does refl refl tt tt tt
  does_lawful (SetLimit n) e new does = plain (SetLimit n) e new tt does refl refl tt tt tt
  does_lawful (SetClientLimit limit) e new does =
      plain (SetClientLimit limit) e new tt does refl refl tt tt tt
  does_lawful Sweep e new does = plain Sweep e new tt does refl refl tt tt tt
  does_lawful (Stray s) e new does = plain (Stray s) e new tt does refl refl tt tt tt
  does_lawful (Strike s) e new does = plain (Strike s) e new tt does refl refl tt tt tt

  -- and leaves the setting
  pub does_setting : (step : Step) (e : Event) (new : Assembled)
      → Does (IsPlanned plan) step w e new → new.parts.crew.pool.counts.setting ≡ setting
  does_setting step e new does =
      (does_lawful step e new does).parts.tied.crewed.tied.counted.setting_is
