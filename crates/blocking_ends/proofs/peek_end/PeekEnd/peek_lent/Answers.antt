-- What is lent is copied first, and what stands behind it follows: each item holds at its place.
use Rattle.std.proofs.Common.{rules, ◌≡◌, ℕ, ◌+◌, ◌-◌, ◌≤◌, ◌∙◌, ◌++◌, List, [], length, take, drop}
use Rattle.std.proofs.Common.{refl, sym, ap, subst, arith, take-add}
use Rattle.std.proofs.lemmas.List.{append-nil, drop-drop, drop_all, drop_at, length-append}
use Rattle.std.proofs.lemmas.List.{length-take-le, take-append-le, take-take, take_all, take_at}
use Rattle.blocking_ends.specs.Rules.{HoldFrom}
use Rattle.blocking_ends.proofs.Kept.{hold_joined, hold_moved}
use Rattle.blocking_ends.proofs.peek_end.PeekEnd.peek_lent.Goals as goal

module _ {X : Type 0} where
  -- what was copied first stands first
  copied_first : (first : ℕ) (shown one out : List X) → one ≡ take first shown
      → first ≡ length shown → take first (one ++ drop first out) ≡ shown
  copied_first first shown one out is all =
      let long : length one ≡ first =
      ap length is ∙ length-take-le first shown (omega (arith, all)) in
      take_at one (drop first out) first long ∙ is ∙ take_all first shown (omega (arith, all))

  peeked_held : (holds : ℕ → X → Type 0) (received first n : ℕ) (shown one out more end : List X)
      → one ≡ take first shown → first ≡ length shown → n ≤ length more
      → HoldFrom holds received shown → HoldFrom holds (received + first) (take n more)
      → HoldFrom holds received
      (take (first + n) (take first (one ++ drop first out) ++ (more ++ end)))
  peeked_held holds received first n shown one out more end is all within held also =
      let front = copied_first first shown one out is all in
      let parts : take (first + n) (shown ++ (more ++ end)) ≡ shown ++ take n more =
      take-add first n (shown ++ (more ++ end))
      ∙ (λ i. take_at shown (more ++ end) first (sym all) i
      ++ take n (drop_at shown (more ++ end) first (sym all) i))
      ∙ ap (λ l. shown ++ l) (take-append-le n more end within)
      in
      subst (λ l. HoldFrom holds received l)
      (sym (ap (λ l. take (first + n) (l ++ (more ++ end))) front ∙ parts))
      (hold_joined holds received (received + first) shown (take n more) (omega (arith, all)) held
      also)

  -- what was not copied stays
  peeked_rest : (first n : ℕ) (one out more : List X) → length one ≡ first → first ≤ length out
      → n ≤ length more
      → drop n more
      ≡ drop n (take (length (one ++ drop first out) - first) (drop first (one ++ drop first out)))
      → drop (first + n) (take first (one ++ drop first out) ++ (more ++ drop
      (length (one ++ drop first out) - first) (drop first (one ++ drop first out))))
      ≡ drop (first + n) out
  peeked_rest first n one out more long within some left =
      let behind : drop first (one ++ drop first out) ≡ drop first out =
      drop_at one (drop first out) first long in
      let sizes = length-append one (drop first out) in
      let rest = ap length behind in
      let all : take (length (one ++ drop first out) - first) (drop first (one ++ drop first out))
      ≡ drop first (one ++ drop first out) =
      take_all (length (one ++ drop first out) - first) (drop first (one ++ drop first out))
      (omega (arith, sizes, rest, long)) in
      let none : drop (length (one ++ drop first out) - first) (drop first (one ++ drop first out))
      ≡ [] =
      drop_all (length (one ++ drop first out) - first) (drop first (one ++ drop first out))
      (omega (arith, sizes, rest, long)) in
      let front = take_at one (drop first out) first long in
      ap (λ l. drop (first + n) (take first (one ++ drop first out) ++ (more ++ l))) none
      ∙ ap (λ l. drop (first + n) (take first (one ++ drop first out) ++ l)) (append-nil more)
      ∙ ap (λ l. drop (first + n) (l ++ more)) front
      ∙ sym (drop-drop n first (one ++ more))
      ∙ ap (drop n) (drop_at one more first long)
      ∙ left
      ∙ ap (drop n) (all ∙ behind)
      ∙ drop-drop n first out

  -- what is lent is what was copied first, as far as there was a place
  first_is_lent : (first : ℕ) (shown one out : List X) → one ≡ take first shown → first ≡ length out
      → first ≤ length shown
      → take (length shown) (take first (one ++ drop first out)) ≡ take (length out) shown
  first_is_lent first shown one out is whole within =
      let long : length one ≡ first = ap length is ∙ length-take-le first shown within in
      let front = take_at one (drop first out) first long in
      take_all (length shown) (take first (one ++ drop first out))
      (omega (arith, ap length front, long, within))
      ∙ front ∙ is ∙ ap (λ n. take n shown) whole

  -- or all of it, with more behind
  all_is_lent : (first n : ℕ) (shown one out more end : List X) → one ≡ take first shown
      → first ≡ length shown → first ≤ length out
      → take (length shown) (take (first + n) (take first (one ++ drop first out) ++ (more ++ end)))
      ≡ take (length out) shown
  all_is_lent first n shown one out more end is all within =
      let front = copied_first first shown one out is all in
      take-take (length shown) (first + n) (take first (one ++ drop first out) ++ (more ++ end))
      (omega (arith, all))
      ∙ ap (λ l. take (length shown) (l ++ (more ++ end))) front
      ∙ take_at shown (more ++ end) (length shown) refl
      ∙ sym (take_all (length out) shown (omega (arith, all, within)))

pub returns-then-first-out-clause-lent : goal.returns-then-first-out-clause-lent
returns-then-first-out-clause-lent g c =
    rw (← c.shown-lent.ensures.shown)
    (first_is_lent c.min-first.result c.shown-lent.result.now c.copy_from_slice.new.self
    c.args.out.now (search rules) (search rules) (omega arith))

pub returns-clause-lent : goal.returns-clause-lent
returns-clause-lent g c =
    rw (← c.shown-lent.ensures.shown)
    (all_is_lent c.min-first.result c.peek.result c.shown-lent.result.now c.copy_from_slice.new.self
    c.args.out.now c.peek.new.out _ (search rules) (search rules) (omega arith))

pub returns-then-first-out-clause-held : goal.returns-then-first-out-clause-held
returns-then-first-out-clause-held g c =
    let shown = c.shown-lent.result.now in
    let held : HoldFrom g.R.PlaceRule.holds c.args.self.now.received shown =
    subst (λ l. HoldFrom g.R.PlaceRule.holds c.args.self.now.received l)
    (sym c.shown-lent.ensures.shown) c.shown-lent.ensures.held in
    hold_moved g.R.PlaceRule.holds c.args.self.now.received c.min-first.result shown
    c.copy_from_slice.new.self c.args.out.now (search rules) (omega arith) held

pub returns-clause-held : goal.returns-clause-held
returns-clause-held g c =
    let shown = c.shown-lent.result.now in
    let held : HoldFrom g.R.PlaceRule.holds c.args.self.now.received shown =
    subst (λ l. HoldFrom g.R.PlaceRule.holds c.args.self.now.received l)
    (sym c.shown-lent.ensures.shown) c.shown-lent.ensures.held in
    let place : c.deref-2.result.now.received + c.deref-2.result.now.pipe.lent
    ≡ c.args.self.now.received + c.min-first.result = search rules in
    peeked_held g.R.PlaceRule.holds c.args.self.now.received c.min-first.result c.peek.result shown
    c.copy_from_slice.new.self c.args.out.now c.peek.new.out _
    (search rules) (search rules) (search rules) held (subst (λ n. HoldFrom g.R.PlaceRule.holds n
    (take c.peek.result c.peek.new.out)) place c.peek.ensures.held)

pub returns-clause-rest : goal.returns-clause-rest
returns-clause-rest g c =
    let first = c.min-first.result in
    let long : length c.copy_from_slice.new.self ≡ first = search rules in
    peeked_rest first c.peek.result c.copy_from_slice.new.self c.args.out.now c.peek.new.out long
    (omega arith) (search rules) c.peek.ensures.rest
