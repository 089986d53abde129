-- What a copier does keeps the order in which it asks its writer.
use Rattle.std.proofs.Common.{◌≡◌, ⊎_elim, ℕ, zero, suc, ◌+◌, ◌-◌, ◌&&◌, not, nat_le, nat_lt}
use Rattle.std.proofs.Common.{if◌then◌else◌, List, ◌∷◌, Bool, true, false, refl, ap, ◌∙◌, subst}
use Rattle.std.proofs.Common.{Some}
use Rattle.blocking_core.specs.Copying.{next_after}
use Rattle.blocking_core.specs.declared.copy.CopyAction.{CopyAction}
use Rattle.blocking_core.specs.declared.copy.CopyAction.TheVariants as action
use Rattle.blocking_core.specs.declared.copy.CopyEnd.TheVariants as end
use Rattle.blocking_world_copiers.specs.Copiers.{CopierState, answer_of, between, heard, next_by}
use Rattle.blocking_world_copiers.specs.Ties.{asks_writes, ends_flush, asks_flushes, IsJustFlushed}
use Rattle.blocking_world_copiers.specs.Ties.{InOrder, CopierOf}
use Rattle.blocking_world_copiers.specs.declared.copier.CopierNext.TheVariants as next
use Rattle.blocking_world_copiers.proofs.Words.{Act, Asked, Replied, call, under_way, HandleCall}
use Rattle.blocking_world_copiers.proofs.Words.{Write, Flush, Reply, Count, Okay, Failed}
use Rattle.blocking_world_copiers.proofs.Polls.{StepAs}
use Rattle.blocking_world_copiers.proofs.Copying.{none_asked}
use Rattle.blocking_world_copiers.proofs.Orders.{writes_flush}

-- whichever of two it does
either_in : (b : Bool) (x y : CopyAction ℕ) (acts : List Act) → InOrder x acts → InOrder y acts
    → InOrder (if b then x else y) acts
either_in true x y acts first second = first
either_in false x y acts first second = second

-- ---- a reply, over acts by which only writes were asked

module _ (size copied : ℕ) (short : Bool) (acts : List Act) (writes : asks_writes acts ≡ true) where
  -- its reader replies
  pub after_read : (most : ℕ) (told : Reply) → InOrder
      (next_after size copied short (action.Read most) (answer_of (action.Read most) told)) acts
  after_read most (Count zero) = writes_flush acts writes
  after_read most (Count (suc n)) =
      either_in (nat_le (suc n) most) (action.Write 0 (suc n)) (action.Read most) acts writes writes
  after_read most (Failed why) = tt
  after_read most told = writes

  -- its writer replies to a write
  pub after_write : (from to : ℕ) (told : Reply) → InOrder (next_after size copied short
      (action.Write from to) (answer_of (action.Write from to) told)) acts
  after_write from to (Count zero) = writes_flush acts writes
  after_write from to (Count (suc n)) =
      either_in (nat_lt (suc n) (to - from)) (action.Write (from + suc n) to) (if nat_le (suc n)
      (to - from) then action.Read size else action.Write from to) acts writes
      (either_in (nat_le (suc n) (to - from)) (action.Read size) (action.Write from to) acts writes
      writes)
  after_write from to (Failed why) = tt
  after_write from to told = writes

-- and to a flush
module _ (size copied : ℕ) (acts : List Act) (flushes : asks_flushes acts ≡ true)
    (called : call acts ≡ Some Flush) where
  goes_on : (told : Reply) → ends_flush (Some Flush) told ≡ false
      → asks_flushes (Replied told ∷ acts) ≡ true
  goes_on told none = ap (λ c. not (ends_flush c told) && asks_flushes acts) called
      ∙ ap (λ b. not b && asks_flushes acts) none ∙ flushes

  pub after_flush : (short : Bool) (told : Reply)
      → InOrder (next_after size copied short action.Flush (answer_of action.Flush told))
      (Replied told ∷ acts)
  after_flush true Okay = tt
  after_flush false Okay = (called, flushes)
  after_flush short (Failed why) = tt
  after_flush short told = goes_on told refl

-- ---- an act of one of its owners

module _ (k h g size copied : ℕ) (short : Bool) (piece : List ℕ) (a b pa pb p : List Act) where
  abbrev pub copier_with : CopyAction ℕ → CopierState
  copier_with act = record {
    number = k;
    reader = h;
    writer = g;
    core = record {
      next = act;
      piece = size;
      copied = copied;
      is_short = short;
    };
    piece = piece;
  }

  -- of its reader
  pub reader_order : (act : CopyAction ℕ) (x : Act) (asked : HandleCall)
      → CopierOf (copier_with act) a b pa pb p → under_way a ≡ Some asked → InOrder act pb
      → InOrder (heard (copier_with act) x).core.next pb
  reader_order (action.Read most) (Replied told) asked t runs order =
      after_read size copied short pb order most told
  reader_order (action.Read most) x asked t runs order = order
  reader_order (action.Write from to) x asked t runs order = absurd (none_asked t.stands.2.0 runs)
  reader_order action.Flush x asked t runs order = absurd (none_asked t.stands.2.0 runs)
  reader_order (action.Done (end.Copied n)) x asked t runs order =
      absurd (none_asked t.stands.2.0 runs)
  reader_order (action.Done (end.Reading why)) x asked t runs order =
      absurd (none_asked t.stands.1.0 runs)
  reader_order (action.Done (end.Writing why)) x asked t runs order =
      absurd (none_asked t.stands.1.0 runs)

  -- of its writer
  pub writer_order : (act : CopyAction ℕ) (x : Act) (asked : HandleCall)
      → CopierOf (copier_with act) a b pa pb p → under_way b ≡ Some asked → StepAs asked b x
      → InOrder act pb
      → InOrder (heard (copier_with act) x).core.next (x ∷ pb)
  writer_order (action.Read most) x asked t runs step order = absurd (none_asked t.stands.2.0 runs)
  writer_order (action.Write from to) (Asked other) asked t runs step order = absurd step
  writer_order (action.Write from to) (Replied told) asked t runs step order =
      after_write size copied short (Replied told ∷ pb) order from to told
  writer_order (action.Write from to) x asked t runs step order = order
  writer_order action.Flush (Asked other) asked t runs step order = absurd step
  writer_order action.Flush (Replied told) asked t runs step order =
      after_flush size copied pb order flush_called short told
    where
      flush_called : call pb ≡ Some Flush
      flush_called =
          let flushes : under_way b ≡ Some Flush =
          ⊎_elim (λ rests. absurd (none_asked rests.0 runs)) (λ now. now.0) t.stands.3 in
          (t.asking.writing Flush flushes).2
  writer_order action.Flush x asked t runs step order = order
  writer_order (action.Done (end.Copied n)) x asked t runs step order =
      absurd (none_asked t.stands.3.0 runs)
  writer_order (action.Done (end.Reading why)) x asked t runs step order =
      absurd (none_asked t.stands.2.0 runs)
  writer_order (action.Done (end.Writing why)) x asked t runs step order =
      absurd (none_asked t.stands.2.0 runs)

-- ---- it asks, and it tells

pub asks_order : (act : CopyAction ℕ) (piece : List ℕ) (asked : HandleCall) (acts : List Act)
    → next_by act piece ≡ next.AskWriter asked → InOrder act acts → InOrder act (Asked asked ∷ acts)
asks_order (action.Read most) piece asked acts is order = absurd cc
asks_order (action.Write from to) piece asked acts is order =
    let same : Write (between from to piece) ≡ asked = cc in
    subst (λ c. asks_writes (Asked c ∷ acts) ≡ true) same order
asks_order action.Flush piece asked acts is order =
    let same : Flush ≡ asked = cc in subst (λ c. asks_flushes (Asked c ∷ acts) ≡ true) same order
asks_order (action.Done (end.Copied n)) piece asked acts is order = absurd cc
asks_order (action.Done (end.Reading why)) piece asked acts is order = absurd cc
asks_order (action.Done (end.Writing why)) piece asked acts is order = absurd cc

-- where it tells that all was copied, its flush has just ended without a fault
pub told_order : (act : CopyAction ℕ) (piece : List ℕ) (n : ℕ) (acts : List Act)
    → next_by act piece ≡ next.Copied n → InOrder act acts → IsJustFlushed acts
told_order (action.Read most) piece n acts is order = absurd cc
told_order (action.Write from to) piece n acts is order = absurd cc
told_order action.Flush piece n acts is order = absurd cc
told_order (action.Done (end.Copied m)) piece n acts is order = order
told_order (action.Done (end.Reading why)) piece n acts is order = absurd cc
told_order (action.Done (end.Writing why)) piece n acts is order = absurd cc
