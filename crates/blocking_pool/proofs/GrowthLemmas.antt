-- A growth, start by start.
use Rattle.std.proofs.Common.{◌≡◌, ℕ, ◌+◌, ◌<◌, Bool, true, false, cond, eqb, not, refl, sym, ap}
use Rattle.std.proofs.Common.{◌∙◌, subst, inl, inr, arith, add-zero, MatchBool}
use Rattle.std.proofs.lemmas.Bool.{cases_lt, ne_eqb, false≢true}
use Rattle.blocking_pool.specs.declared.pool.bell.BellKind.TheVariants.{Silent, All}
use Rattle.blocking_pool.specs.Counts.{Counts, limit_of, louder}
use Rattle.blocking_pool.specs.Growth.{Asking, RefusesNone, Narrows, Growth, Grows, StartAnswer}
use Rattle.blocking_pool.specs.Growth.{Refusals, is_due, after_growth, ring_of, one_more, none_more}
use Rattle.blocking_pool.specs.Growth.{greatest}

-- so many workers started, and none refused
abbrev pub plain : ℕ → Growth
plain started = record { started = started; refused = false }

module _ (asking : Asking) (may_still : ℕ → Bool → Type 0) (ready : ℕ) (old new : Counts) where
  -- The growth so far: so many starts were due and went well.
  pub record IsGrowing : Type 0 where
    pub started : ℕ
    pub counts : new ≡ after_growth old (plain started)
    pub each : (m : ℕ) → m < started → (is_due ready old.idle old.workers (limit_of old) m ≡ true)
        × StartAnswer asking.may_answer (old.next_worker + m) false
    pub steady : Narrows asking.may_answer may_still
    pub refusals : RefusesNone asking

-- whether a start is due after m others
pub due_after : (ready idle workers limit m : ℕ)
    → is_due ready (idle + m) (workers + m) limit 0 ≡ is_due ready idle workers limit m
due_after ready idle workers limit m = rw (add-zero (idle + m), add-zero (workers + m)) refl

-- an answer that may still be given might have been given before
pub answer_before : (may_answer may_still : ℕ → Bool → Type 0) (number : ℕ) (refused : Bool)
    → Narrows may_answer may_still → StartAnswer may_still number refused
    → StartAnswer may_answer number refused
answer_before may_answer may_still number refused steady = by_number (eqb number greatest)
  where
    by_number : (b : Bool) → MatchBool b (refused ≡ true) (may_still number refused)
        → MatchBool b (refused ≡ true) (may_answer number refused)
    by_number true answered = answered
    by_number false answered = steady number refused answered

more_grown : (old : Counts) (started : ℕ)
    → one_more (after_growth old (plain started)) ≡ after_growth old (plain (started + 1))
more_grown old started =
    let workers : old.workers + started + 1 ≡ old.workers + (started + 1) = omega arith in
    let idle : old.idle + started + 1 ≡ old.idle + (started + 1) = omega arith in
    let arriving : old.arriving + started + 1 ≡ old.arriving + (started + 1) = omega arith in
    let next : old.next_worker + started + 1 ≡ old.next_worker + (started + 1) = omega arith in
    let some : eqb (started + 1) 0 ≡ false = ne_eqb (started + 1) 0 (λ e. omega arith) in
    let bell : louder (ring_of (plain (started + 1))) old.bell ≡ All =
    ap (λ b. louder (cond b Silent All) old.bell) some in
    cc

none_grown : (old : Counts) (started : ℕ) → none_more (after_growth old (plain started))
    ≡ after_growth old (record { started = started; refused = true })
none_grown old started = refl

-- one start after others
abbrev pub and_then : Asking → Asking → Asking
and_then asking next = record asking { refusals_after = next.refusals_after }

-- one start more
pub grows_more :
    (asking next : Asking) (may_then : ℕ → Bool → Type 0) (ready : ℕ) (old counts new : Counts)
    → is_due ready counts.idle counts.workers (limit_of old) 0 ≡ true → new ≡ one_more counts
    → StartAnswer next.may_answer counts.next_worker false → Narrows next.may_answer may_then
    → next.refusals_before ≡ asking.refusals_after → RefusesNone next
    → IsGrowing asking next.may_answer ready old counts
    → IsGrowing (and_then asking next) may_then ready old new
grows_more asking next may_then ready old counts new due one answered steady on none growing =
    record {
      started = growing.started + 1;
      counts = one ∙ ap one_more growing.counts ∙ more_grown old growing.started;
      each = λ m below. elim (cases_lt m growing.started) [
        | inl earlier ↦ growing.each m earlier
        | inr last ↦ subst (λ k. (is_due ready old.idle old.workers (limit_of old) k ≡ true)
            × StartAnswer asking.may_answer (old.next_worker + k) false)
            (let is : growing.started ≡ m = omega arith in is) here
      ];
      steady = λ n answer may. growing.steady n answer (steady n answer may);
      refusals = none ∙ on ∙ growing.refusals;
    }
  where
    here : (is_due ready old.idle old.workers (limit_of old) growing.started ≡ true)
        × StartAnswer asking.may_answer (old.next_worker + growing.started) false
    here = (
      sym (due_after ready old.idle old.workers (limit_of old) growing.started)
          ∙ ap (λ c. is_due ready c.idle c.workers (limit_of old) 0) (sym growing.counts) ∙ due,
      answer_before
          asking.may_answer next.may_answer (old.next_worker + growing.started) false growing.steady
          (subst (λ c. StartAnswer next.may_answer c.next_worker false) growing.counts answered),
    )

-- no further start is due
pub grows_enough :
    (asking : Asking) (may_still : ℕ → Bool → Type 0) (ready : ℕ) (old counts : Counts)
    → is_due ready counts.idle counts.workers (limit_of old) 0 ≡ false
    → IsGrowing asking may_still ready old counts
    → (growth : Growth) × Grows asking ready old counts growth
grows_enough asking may_still ready old counts due growing = (
  plain growing.started,
  record {
    starts = record {
      each = growing.each;
      next = sym (due_after ready old.idle old.workers (limit_of old) growing.started)
          ∙ ap (λ c. is_due ready c.idle c.workers (limit_of old) 0) (sym growing.counts) ∙ due;
      cause = λ never. absurd (false≢true never);
    };
    counts = growing.counts;
    refusals = growing.refusals;
  },
)

-- the next start is refused
pub grows_no_more : (asking next : Asking) (ready : ℕ) (old counts new : Counts)
    → is_due ready counts.idle counts.workers (limit_of old) 0 ≡ true → new ≡ none_more counts
    → StartAnswer next.may_answer counts.next_worker true
    → next.refusals_before ≡ asking.refusals_after
    → Refusals (not (eqb counts.next_worker greatest)) next.refusals_before next.refusals_after
    → IsGrowing asking next.may_answer ready old counts
    → (growth : Growth) × Grows (and_then asking next) ready old new growth
grows_no_more asking next ready old counts new due none answered on refusals growing = (
  record { started = growing.started; refused = true },
  record {
    starts = record {
      each = growing.each;
      next = sym (due_after ready old.idle old.workers (limit_of old) growing.started)
          ∙ ap (λ c. is_due ready c.idle c.workers (limit_of old) 0) (sym growing.counts) ∙ due;
      cause = λ _. answer_before
          asking.may_answer next.may_answer (old.next_worker + growing.started) true growing.steady
          (subst (λ c. StartAnswer next.may_answer c.next_worker true) growing.counts answered);
    };
    counts = none ∙ ap none_more growing.counts ∙ none_grown old growing.started;
    refusals = subst (λ n. Refusals (not (eqb (old.next_worker + growing.started) greatest)) n
        next.refusals_after) (on ∙ growing.refusals)
        (subst (λ c. Refusals (not (eqb c.next_worker greatest)) next.refusals_before
        next.refusals_after) growing.counts refusals);
  },
)
