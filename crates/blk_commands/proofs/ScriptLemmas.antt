-- What a script is with one more line.
use Rattle.std.proofs.Common.{◌≡◌, ℕ, ◌==◌, true, List, [], ◌∷◌, ◌++◌, length, map, Option, Some}
use Rattle.std.proofs.Common.{None, is_none, slice_get, take, get_or, ◌+◌, ◌<◌, ◌&&◌, Result, Ok}
use Rattle.std.proofs.Common.{Err, IsErrAnd, Bor, inl, inr, refl, ap, sym, ◌∙◌, subst, arith, rules}
use Rattle.std.proofs.lemmas.Bool.{cases_eq}
use Rattle.std.proofs.lemmas.Grind.{common_steps}
use Rattle.std.proofs.lemmas.List.{append-nil, get_or-map, length-map, take_all, take_more}
use Rattle.std.proofs.lemmas.List.Concat.{flat_map-append}
use Rattle.std.proofs.lemmas.List.Elements.{filter_map-append}
use Rattle.std.specs.List.{after_first, cons_option, filter_map, flat_map}
use Rattle.std.specs.Option.{option_map}
use Rattle.std.specs.String.{string_bytes}
use Rattle.blk_commands.specs.Instructions.{is_space}
use Rattle.blk_commands.specs.Lines.{is_minus, saying_of}
use Rattle.blk_commands.specs.Scripts.{AddsLine, AllMayStand, IsScriptOf, Reads, instruction_said}
use Rattle.blk_commands.specs.Scripts.{instructions_in, plan_in, plan_said, may_follow, may_say}
use Rattle.blk_commands.specs.Scripts.{setting_in, setting_said}
use Rattle.blk_commands.specs.declared.instruction.Instruction.{Instruction}
use Rattle.blk_commands.specs.declared.line.Saying.{Saying}
use Rattle.blk_commands.specs.declared.line.Saying.TheVariants.{Nothing, Setting, Plan, Does}
use Rattle.blk_commands.specs.declared.script.Script.{Script}
use Rattle.blk_commands.specs.declared.script.ScriptFault.{ScriptFault}
use Rattle.blk_commands.specs.declared.script.ScriptFault.TheVariants.{NotAStep, Memory}

-- ---- lists

-- one more element adds what it gives, if it gives anything
filtered : {X Y : Type 0} (h : X → Option Y) (xs : List X) (x : X) (o : Option Y) → h x ≡ o
    → filter_map h (xs ++ x ∷ []) ≡ filter_map h xs ++ cons_option o []
filtered h xs x o e =
    filter_map-append h xs (x ∷ []) ∙ ap (λ p. filter_map h xs ++ cons_option p []) e

unfiltered : {X Y : Type 0} (h : X → Option Y) (xs : List X) (x : X) → h x ≡ None
    → filter_map h (xs ++ x ∷ []) ≡ filter_map h xs
unfiltered h xs x e = filtered h xs x None e ∙ append-nil (filter_map h xs)

flattened : {X Y : Type 0} (f : X → List Y) (xs : List X) (x : X) (ys : List Y) → f x ≡ ys
    → flat_map f (xs ++ x ∷ []) ≡ flat_map f xs ++ ys
flattened f xs x ys e =
    flat_map-append f xs (x ∷ []) ∙ ap (λ zs. flat_map f xs ++ zs) (append-nil (f x) ∙ e)

-- a list with no first element is empty
empty_from_none : {X : Type 0} (xs : List X) → slice_get xs 0 ≡ None → xs ≡ []
empty_from_none [] e = refl
empty_from_none (x ∷ xs) e = search rules

empty_from_length : {X : Type 0} (xs : List X) → (length xs == 0) ≡ true → xs ≡ []
empty_from_length [] e = refl
empty_from_length (x ∷ xs) e = absurd (grind (arith, common_steps, e))

-- where there is nothing, there is nothing of it
none_from_none : {X Y : Type 0} (f : X → Y) (o : Option X) → is_none o ≡ true
    → option_map f o ≡ None
none_from_none f None e = refl
none_from_none f (Some x) e = search rules

-- ---- what one more line leaves as it is

setting_kept : (before : List (List ℕ)) (line : List ℕ) (s : Option Saying) → saying_of line ≡ s
    → setting_said s line ≡ None
    → setting_in (before ++ line ∷ []) ≡ setting_in before
setting_kept before line s e none =
    ap (λ xs. slice_get xs 0) (unfiltered (λ l. setting_said (saying_of l) l) before line
    (ap (λ t. setting_said t line) e ∙ none))

plan_kept : (before : List (List ℕ)) (line : List ℕ) (s : Option Saying) → saying_of line ≡ s
    → plan_said s line ≡ []
    → plan_in (before ++ line ∷ []) ≡ plan_in before
plan_kept before line s e none =
    flattened (λ l. plan_said (saying_of l) l) before line [] (ap (λ t. plan_said t line) e ∙ none)
    ∙ append-nil (plan_in before)

instructions_kept : (before : List (List ℕ)) (line : List ℕ) (s : Option Saying)
    → saying_of line ≡ s → instruction_said s ≡ None
    → instructions_in (before ++ line ∷ []) ≡ instructions_in before
instructions_kept before line s e none =
    unfiltered (λ l. instruction_said (saying_of l)) before line (ap instruction_said e ∙ none)

-- ---- one more line

pub adds_nothing : (before : List (List ℕ)) (line : List ℕ) (script : Script)
    → saying_of line ≡ Some Nothing
    → IsScriptOf before script
    → (may_follow before line ≡ true) × IsScriptOf (before ++ line ∷ []) script
adds_nothing before line script e is = (
  ap (λ s. may_say s (length (instructions_in before) == 0) (is_none (setting_in before))
      (length (plan_in before) == 0)) e,
  record {
    setting = is.setting ∙ sym (setting_kept before line _ e refl);
    plan = is.plan ∙ sym (plan_kept before line _ e refl);
    instructions = is.instructions ∙ sym (instructions_kept before line _ e refl);
  },
)

pub adds_setting : (before : List (List ℕ)) (line : List ℕ) (old new : Script)
    → saying_of line ≡ Some Setting
    → (old.instructions.len == 0) ≡ true → is_none old.setting ≡ true
    → option_map string_bytes new.setting ≡ Some (after_first is_space line)
    → new.plan.items ≡ old.plan.items → new.instructions.items ≡ old.instructions.items
    → IsScriptOf before old → (may_follow before line ≡ true) × IsScriptOf (before ++ line ∷ []) new
adds_setting before line old new e first unset said plan instructions is =
    let none : setting_in before ≡ None =
    sym is.setting ∙ none_from_none string_bytes old.setting unset in
    let at_head : (length (instructions_in before) == 0) ≡ true =
    ap (λ n. n == 0) (sym (ap length is.instructions) ∙ sym old.instructions.ok.0) ∙ first in (
      ap (λ s. may_say s (length (instructions_in before) == 0) (is_none (setting_in before))
          (length (plan_in before) == 0)) e
          ∙ (ap (λ b. b && is_none (setting_in before)) at_head ∙ ap is_none none),
      record {
        setting =
            said ∙ sym (ap (λ xs. slice_get xs 0) (filtered (λ l. setting_said (saying_of l) l)
            before line (Some (after_first is_space line)) (ap (λ t. setting_said t line) e))
            ∙ ap (λ xs. slice_get (xs ++ after_first is_space line ∷ []) 0)
            (empty_from_none (filter_map (λ l. setting_said (saying_of l) l) before) none));
        plan = plan ∙ (is.plan ∙ sym (plan_kept before line _ e refl));
        instructions =
            instructions ∙ (is.instructions ∙ sym (instructions_kept before line _ e refl));
      },
    )

pub adds_plan : (before : List (List ℕ)) (line : List ℕ) (old new : Script)
    → saying_of line ≡ Some Plan
    → (old.instructions.len == 0) ≡ true → (old.plan.len == 0) ≡ true
    → new.plan.items ≡ map is_minus (after_first is_space line)
    → new.setting ≡ old.setting → new.instructions.items ≡ old.instructions.items
    → IsScriptOf before old → (may_follow before line ≡ true) × IsScriptOf (before ++ line ∷ []) new
adds_plan before line old new e first unplanned said setting instructions is =
    let none : (length (plan_in before) == 0) ≡ true =
    ap (λ n. n == 0) (sym (ap length is.plan) ∙ sym old.plan.ok.0) ∙ unplanned in
    let at_head : (length (instructions_in before) == 0) ≡ true =
    ap (λ n. n == 0) (sym (ap length is.instructions) ∙ sym old.instructions.ok.0) ∙ first in (
      ap (λ s. may_say s (length (instructions_in before) == 0) (is_none (setting_in before))
          (length (plan_in before) == 0)) e
          ∙ (ap (λ b. b && (length (plan_in before) == 0)) at_head ∙ none),
      record {
        setting = ap (option_map string_bytes) setting
            ∙ (is.setting ∙ sym (setting_kept before line _ e refl));
        plan = said ∙ sym (flattened (λ l. plan_said (saying_of l) l) before line
            (map is_minus (after_first is_space line)) (ap (λ t. plan_said t line) e)
            ∙ ap (λ xs. xs ++ map is_minus (after_first is_space line))
            (empty_from_length (plan_in before) none));
        instructions =
            instructions ∙ (is.instructions ∙ sym (instructions_kept before line _ e refl));
      },
    )

pub adds_instruction : (before : List (List ℕ)) (line : List ℕ) (old new : Script)
    (instruction : Instruction) → saying_of line ≡ Some (Does instruction)
    → new.setting ≡ old.setting → new.plan.items ≡ old.plan.items
    → new.instructions.items ≡ old.instructions.items ++ instruction ∷ []
    → IsScriptOf before old → (may_follow before line ≡ true) × IsScriptOf (before ++ line ∷ []) new
adds_instruction before line old new instruction e setting plan instructions is = (
  ap (λ s. may_say s (length (instructions_in before) == 0) (is_none (setting_in before))
      (length (plan_in before) == 0)) e,
  record {
    setting = ap (option_map string_bytes) setting
        ∙ (is.setting ∙ sym (setting_kept before line _ e refl));
    plan = plan ∙ (is.plan ∙ sym (plan_kept before line _ e refl));
    instructions = instructions ∙ (ap (λ xs. xs ++ instruction ∷ []) is.instructions
        ∙ sym (filtered (λ l. instruction_said (saying_of l)) before line (Some instruction)
        (ap instruction_said e)));
  },
)

-- ---- all lines

-- one more of them may stand
pub stands_more : (lines : List (List ℕ)) (k : ℕ) → AllMayStand lines k
    → may_follow (take k lines) (get_or lines k []) ≡ true
    → AllMayStand lines (k + 1)
stands_more lines k all now j below = elim (cases_eq j k) [
  | inl same ↦ subst (λ i. may_follow (take i lines) (get_or lines i []) ≡ true) (sym same) now
  | inr other ↦ all j (omega (arith, other))
]

-- an error that was handed on
pub fails_with : (lines : List (List ℕ)) (r : Result Script ScriptFault) (f : ScriptFault)
    → IsErrAnd r (λ e. e ≡ f)
    → Reads lines (Err f) → Reads lines r
fails_with lines (Ok script) f is reads = absurd is
fails_with lines (Err e) f is reads = subst (λ g. Reads lines (Err g)) (sym is) reads

module _ (items : List (Bor (List ℕ))) (k : ℕ) (d : Bor (List ℕ)) (there : k < length items) where
  -- the text of the line at this place
  text_at : get_or (map (λ line. line.now) items) k [] ≡ (get_or items k d).now
  text_at = get_or-map (λ line. line.now) items k d [] there

  fits : k < length (map (λ line. line.now) items)
  fits = omega (arith, length-map items (λ (line : Bor (List ℕ)). line.now), there)

  -- a line that may not stand is what the reading tells
  pub bad_line_told : (new : Script) (f : ScriptFault)
      → AllMayStand (map (λ line. line.now) items) k
      → AddsLine (take k (map (λ line. line.now) items)) (get_or items k d).now (k + 1) new (Err f)
      → Reads (map (λ line. line.now) items) (Err f)
  bad_line_told new (NotAStep n) all bad = record {
    place = k;
    counted = bad.1;
    there = fits;
    others = all;
    bad_line = ap (may_follow (take k (map (λ line. line.now) items))) text_at ∙ bad.0;
  }
  bad_line_told new Memory all bad = tt

  -- a line that may stand keeps what the reading knows
  pub line_told : (new : Script) → AllMayStand (map (λ line. line.now) items) k
      → (may_follow (take k (map (λ line. line.now) items)) (get_or items k d).now ≡ true)
      × IsScriptOf (take k (map (λ line. line.now) items) ++ (get_or items k d).now ∷ []) new
      → AllMayStand (map (λ line. line.now) items) (k + 1)
      × IsScriptOf (take (k + 1) (map (λ line. line.now) items)) new
  line_told new all told = (
    stands_more (map (λ line. line.now) items) k all
        (ap (may_follow (take k (map (λ line. line.now) items))) text_at ∙ told.0),
    subst (λ ls. IsScriptOf ls new)
        (sym (take_more (map (λ line. line.now) items) k [] fits
        ∙ ap (λ t. take k (map (λ line. line.now) items) ++ t ∷ []) text_at))
        told.1,
  )

-- once each line was read, the script is theirs
pub all_told : (lines : List (List ℕ)) (k : ℕ) (script : Script) → k ≡ length lines
    → AllMayStand lines k
    → IsScriptOf (take k lines) script → Reads lines (Ok script)
all_told lines k script e all is = (
  subst (AllMayStand lines) e all,
  subst (λ ls. IsScriptOf ls script) (take_all k lines (omega (arith, e))) is,
)
