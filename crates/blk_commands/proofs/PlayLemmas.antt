-- What is played after what was played before.
use Rattle.std.proofs.Common.{◌≡◌, ℕ, ◌+◌, Bool, true, List, [], ◌∷◌, ◌++◌, length, map, take, refl}
use Rattle.std.proofs.Common.{ap, sym, ◌∙◌, subst, append_assoc, inl, inr, arith, rules, get_or}
use Rattle.std.proofs.Common.{Result, Ok, Err, is_ok, IfOk, OnOk, Option, String, string_bytes}
use Rattle.std.proofs.Common.{if◌then◌else◌}
use Rattle.std.proofs.lemmas.Bool.{cases_eq}
use Rattle.std.proofs.lemmas.List.{append-nil, length-append, map-append, reverse-append}
use Rattle.std.proofs.lemmas.List.{take-append-le, take_all}
use Rattle.std.proofs.lemmas.List.Elements.{All-append}
use Rattle.std.specs.Prelude.{reverse}
use Rattle.std.specs.Global.{Global}
use Rattle.std.specs.declared.alloc.AllocError.{AllocError}
use Rattle.blocking_world_laws.specs.Legal.{Legal}
use Rattle.blocking_world.specs.Runs.{Adds, Follow, History}
use Rattle.blocking_world_laws.specs.declared.event.Event.{Event}
use Rattle.blocking_world_laws.specs.declared.event.Moment.{Moment}
use Rattle.blocking_world_laws.specs.declared.step.Step.{Step}
use Rattle.blk_commands.specs.Plays.{IsLegal, PlaysInstruction, PlaysInstructions, Repeats}
use Rattle.blk_commands.specs.Plays.{ShowsScript, Takes, after, ending_of, has_next, new_history}
use Rattle.blk_commands.specs.Plays.{shown_text, step_of}
use Rattle.blk_commands.specs.declared.instruction.Actor.{Actor}
use Rattle.blk_commands.specs.declared.instruction.Instruction.{Instruction}
use Rattle.blk_commands.specs.declared.instruction.Instruction.TheVariants.{One}
use Rattle.blk_commands.specs.declared.steps.Ending.{Ending}

-- what comes after two rows of moments, one after the other
pub after-append : (early late past : List Moment)
    → after (early ++ late) past ≡ after late (after early past)
after-append early late past = ap (λ ms. ms ++ past) (reverse-append early late)
    ∙ append_assoc (reverse late) (reverse early) past

-- two rows that follow each other are one row that follows
pub follows : (early late : List Moment) (a b c : History) → Follow early a b → Follow late b c
    → Follow (early ++ late) a c
follows early late a b c first second =
    let behind : History → History = λ h. record h { past = after late h.past } in
    let at_past : List Moment → History = λ past. record a { past = past } in
    second ∙ (ap behind first ∙ ap at_past (sym (after-append early late a.past)))

-- one more instruction
pub plays_more : (instructions : List Instruction) (instruction : Instruction)
    (past early late : List Moment) → PlaysInstructions instructions past early
    → PlaysInstruction instruction (after early past) late
    → PlaysInstructions (instructions ++ instruction ∷ []) past (early ++ late)
plays_more [] instruction past early late none plays = (
  late,
  [],
  ap (λ ms. ms ++ late) none ∙ sym (append-nil late),
  subst (λ ms. PlaysInstruction instruction (after ms past) late) none plays,
  refl,
)
plays_more (first ∷ instructions) instruction past early late played plays =
    let same : after early past ≡ after played.1 (after played.0 past) =
    ap (λ ms. after ms past) played.2 ∙ after-append played.0 played.1 past in (
      played.0,
      played.1 ++ late,
      ap (λ ms. ms ++ late) played.2 ∙ append_assoc played.0 played.1 late,
      played.3,
      plays_more instructions instruction (after played.0 past) played.1 late played.4
          (subst (λ p. PlaysInstruction instruction p late) same plays),
    )

-- one more action
pub repeats_more : (actor : Actor) (past moments : List Moment) (moment : Moment)
    → Repeats actor past moments
    → has_next actor (after moments past) ≡ true → moment.step ≡ step_of actor
    → Repeats actor past (moments ++ moment ∷ [])
repeats_more actor past moments moment before action is = record {
  some = omega (arith, length-append moments (moment ∷ []), before.some);
  same = All-append (λ m. m.step ≡ step_of actor) moments (moment ∷ []) before.same
      (λ k d l. search rules);
  goes_on = λ k above below. elim (cases_eq k (length moments)) [
    | inl same ↦ subst (λ ms. has_next actor (after ms past) ≡ true)
        (sym (ap (λ n. take n (moments ++ moment ∷ [])) same
        ∙ (take-append-le (length moments) moments (moment ∷ []) (omega arith)
        ∙ take_all (length moments) moments (omega arith)))) action
    | inr other ↦ subst (λ ms. has_next actor (after ms past) ≡ true)
        (sym (take-append-le k moments (moment ∷ [])
        (omega (arith, length-append moments (moment ∷ []), other))))
        (before.goes_on k above (omega (arith, length-append moments (moment ∷ []), other)))
  ];
}

-- ---- what is taken

-- moments of one step are one moment
one_moment : (step : Step) (moments : List Moment) → map (λ moment. moment.step) moments ≡ step ∷ []
    → (moment : Moment) × (moment.step ≡ step) × (moments ≡ moment ∷ [])
one_moment step [] same = search rules
one_moment step (moment ∷ []) same = (moment, ap (λ steps. get_or steps 0 step) same, refl)
one_moment step (moment ∷ other ∷ rest) same = search rules

-- the events of two rows
joined_events : (early late : List Moment) (e0 e1 e2 : List Event)
    → e1 ≡ e0 ++ map (λ moment. moment.event) early
    → e2 ≡ e1 ++ map (λ moment. moment.event) late
    → e2 ≡ e0 ++ map (λ moment. moment.event) (early ++ late)
joined_events early late e0 e1 e2 first second =
    second ∙ (ap (λ es. es ++ map (λ moment. moment.event) late) first
    ∙ (append_assoc e0 (map (λ moment. moment.event) early) (map (λ moment. moment.event) late)
    ∙ ap (λ es. e0 ++ es) (sym (map-append (λ moment. moment.event) early late))))

-- one step was taken, and what was seen is added
pub takes_step : (step : Step) (old new : History) (before seen now : List Event)
    (r : Result (Unit {0}) AllocError)
    → Adds (step ∷ []) seen old new → Legal new.setting new.plan new.past
    → now ≡ (if is_ok r then before ++ seen else before)
    → OnOk r (Takes (PlaysInstruction (One step)) old new before now)
takes_step step old new before seen now (Ok u) adds legal grown = record {
  moments = adds.moments;
  plays = one_moment step adds.moments adds.steps_are;
  follow = adds.follow;
  events_are = grown ∙ ap (λ es. before ++ es) (sym adds.events_are);
  legal = λ l. legal;
}
takes_step step old new before seen now (Err e) adds legal grown = tt

-- one more
pub takes_next : (actor : Actor) (a b c : History) (e0 e1 e2 : List Event)
    → Takes (Repeats actor) a b e0 e1
    → has_next actor b.past ≡ true → Takes (PlaysInstruction (One (step_of actor))) b c e1 e2
    → Takes (Repeats actor) a c e0 e2
takes_next actor a b c e0 e1 e2 early action late = record {
  moments = early.moments ++ late.moments;
  plays = subst (λ ms. Repeats actor a.past (early.moments ++ ms)) (sym late.plays.2)
      (repeats_more actor a.past early.moments late.plays.0 early.plays
      (subst (λ past. has_next actor past ≡ true) (ap (λ h. h.past) early.follow) action)
      late.plays.1);
  follow = follows early.moments late.moments a b c early.follow late.follow;
  events_are = joined_events early.moments late.moments e0 e1 e2 early.events_are late.events_are;
  legal = λ l. late.legal (early.legal l);
}

-- each action is an event more
pub one_event_more : (step : Step) (old new : History) (before now : List Event)
    → Takes (PlaysInstruction (One step)) old new before now
    → length now ≡ length before + 1
one_event_more step old new before now took =
    ap length took.events_are ∙ (length-append before (map (λ moment. moment.event) took.moments)
    ∙ ap (λ ms. length before + length (map (λ moment. moment.event) ms)) took.plays.2)

-- ---- instructions

-- one more instruction
pub takes_instruction : (instructions : List Instruction) (instruction : Instruction)
    (a b c : History) (e1 e2 : List Event) → Takes (PlaysInstructions instructions) a b [] e1
    → Takes (PlaysInstruction instruction) b c e1 e2
    → Takes (PlaysInstructions (instructions ++ instruction ∷ [])) a c [] e2
takes_instruction instructions instruction a b c e1 e2 early late = record {
  moments = early.moments ++ late.moments;
  plays = plays_more instructions instruction a.past early.moments late.moments early.plays
      (subst (λ past. PlaysInstruction instruction past late.moments)
      (ap (λ h. h.past) early.follow) late.plays);
  follow = follows early.moments late.moments a b c early.follow late.follow;
  events_are = joined_events early.moments late.moments [] e1 e2 early.events_are late.events_are;
  legal = λ l. late.legal (early.legal l);
}

-- ---- scripts

-- what the instructions made happen in a new world is what the script shows
pub shows_script : (setting : Option (List ℕ)) (plan : List Bool)
    (instructions told : List Instruction) (a b : History) (events listed : List Event)
    (ending : Ending) (r : Result (String Global) AllocError) → told ≡ instructions
    → a ≡ new_history setting plan → IsLegal a
    → Takes (PlaysInstructions told) a b [] events → ending ≡ ending_of b → listed ≡ events
    → IfOk r (λ text. string_bytes text ≡ shown_text listed ending)
    → IfOk r (λ text. ShowsScript setting plan instructions (string_bytes text))
shows_script setting plan instructions told a b events listed ending (Ok text) same_lines new begins
    took stands same_events shown = record {
      moments = took.moments;
      end = b;
      plays = subst (λ ls. PlaysInstructions ls [] took.moments) same_lines
          (subst (λ h. PlaysInstructions told h.past took.moments) new took.plays);
      follow = subst (λ h. Follow took.moments h b) new took.follow;
      legal = took.legal begins;
      shown = shown ∙ (ap (λ es. shown_text es ending) (same_events ∙ took.events_are)
          ∙ ap (λ en. shown_text (map (λ moment. moment.event) took.moments) en) stands);
    }
shows_script setting plan instructions told a b events listed ending (Err e) same_lines new begins
    took stands same_events shown = tt
