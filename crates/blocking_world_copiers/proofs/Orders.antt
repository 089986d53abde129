-- In which order a copier asks its writer: it writes, and then flushes once.
use Rattle.std.proofs.Common.{◌≡◌, ℕ, List, [], ◌∷◌, ◌&&◌, not, Bool, true, false, refl, ap, ◌∙◌}
use Rattle.std.proofs.Common.{subst, Option, Some, None, arith}
use Rattle.blocking_world_laws.specs.Copies.{is_write}
use Rattle.blocking_world_copiers.specs.Ties.{asks_writes, ends_flush, asks_flushes}
use Rattle.blocking_world_copiers.proofs.Words.{Act, Asked, Replied, call, HandleCall, Write, Flush}
use Rattle.blocking_world_copiers.proofs.Words.{Reply}

both : (x y : Bool) → (x && y) ≡ true → (x ≡ true) × (y ≡ true)
both x y is = grind arith

-- ---- where nothing but writes was asked

pub asked_write : (acts : List Act) (asked : HandleCall) → asks_writes acts ≡ true
    → call acts ≡ Some asked → is_write (Some asked) ≡ true
asked_write [] asked is called = absurd cc
asked_write (Asked one ∷ acts) asked is called = let same : one ≡ asked = cc in
    subst (λ c. is_write (Some c) ≡ true) same (both (is_write (Some one)) (asks_writes acts) is).0
asked_write (act ∷ acts) asked is called = asked_write acts asked is called

-- no flush ends
no_end : (asked : HandleCall) (reply : Reply) → is_write (Some asked) ≡ true
    → ends_flush (Some asked) reply ≡ false
no_end Flush reply is = absurd cc
no_end asked reply is = refl

write_ends_none : (acts : List Act) (reply : Reply) → asks_writes acts ≡ true
    → ends_flush (call acts) reply ≡ false
write_ends_none acts reply is = by (call acts) refl
  where
    by : (o : Option HandleCall) → call acts ≡ o → ends_flush o reply ≡ false
    by None called = refl
    by (Some asked) called = no_end asked reply (asked_write acts asked is called)

pub writes_flush : (acts : List Act) → asks_writes acts ≡ true → asks_flushes acts ≡ true
writes_flush [] is = refl
writes_flush (Asked asked ∷ acts) is = by asked is
  where
    by : (asked : HandleCall) → asks_writes (Asked asked ∷ acts) ≡ true
        → asks_flushes (Asked asked ∷ acts) ≡ true
    by Flush is = absurd cc
    by asked is = is
writes_flush (Replied reply ∷ acts) is =
    ap (λ b. not b && asks_flushes acts) (write_ends_none acts reply is) ∙ writes_flush acts is
writes_flush (act ∷ acts) is = writes_flush acts is

pub writes_before : (act : Act) (acts : List Act) → asks_writes (act ∷ acts) ≡ true
    → asks_writes acts ≡ true
writes_before (Asked asked) acts is = (both (is_write (Some asked)) (asks_writes acts) is).1
writes_before act acts is = is

-- ---- where a flush may follow them

pub flushes_before : (act : Act) (acts : List Act) → asks_flushes (act ∷ acts) ≡ true
    → asks_flushes acts ≡ true
flushes_before (Asked asked) acts is = by asked is
  where
    by : (asked : HandleCall) → asks_flushes (Asked asked ∷ acts) ≡ true → asks_flushes acts ≡ true
    by Flush is = is
    by asked is = writes_flush acts (both (is_write (Some asked)) (asks_writes acts) is).1
flushes_before (Replied reply) acts is =
    (both (not (ends_flush (call acts) reply)) (asks_flushes acts) is).1
flushes_before act acts is = is

-- until the flush is asked, nothing but writes was
pub flushes_write : (acts : List Act) (bytes : List ℕ) → asks_flushes acts ≡ true
    → call acts ≡ Some (Write bytes) → asks_writes acts ≡ true
flushes_write [] bytes is called = refl
flushes_write (Asked asked ∷ acts) bytes is called =
    by asked (let same : asked ≡ Write bytes = cc in same) is
  where
    by : (asked : HandleCall) → asked ≡ Write bytes → asks_flushes (Asked asked ∷ acts) ≡ true
        → asks_writes (Asked asked ∷ acts) ≡ true
    by Flush same is = absurd cc
    by asked same is = is
flushes_write (act ∷ acts) bytes is called =
    flushes_write acts bytes (flushes_before act acts is) called

-- a write, or the flush
abbrev pub IsToWriter : HandleCall → Type 0
IsToWriter (Write bytes) = Unit {0}
IsToWriter Flush = Unit {0}
IsToWriter asked = ⊥

pub flushes_asked : (acts : List Act) (asked : HandleCall) → asks_flushes acts ≡ true
    → call acts ≡ Some asked → IsToWriter asked
flushes_asked [] asked is called = absurd cc
flushes_asked (Asked one ∷ acts) asked is called =
    subst IsToWriter (let same : one ≡ asked = cc in same) (by one is)
  where
    by : (one : HandleCall) → asks_flushes (Asked one ∷ acts) ≡ true → IsToWriter one
    by Flush is = tt
    by (Write bytes) is = tt
    by one is = absurd cc
flushes_asked (act ∷ acts) asked is called =
    flushes_asked acts asked (flushes_before act acts is) called
