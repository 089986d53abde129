-- What is in the hand of a worker, comes out of it and is put into it.
use Rattle.std.proofs.Common.{◌≡◌, ◌-◌, ◌==◌, ℕ, Bool, true, false, List, slice_get, Option, Some}
use Rattle.std.proofs.Common.{None, if◌then◌else◌, ap, sym, subst, refl, arith, ◌∙◌, OnSome}
use Rattle.std.proofs.lemmas.Bool.{cond_both}
use Rattle.std.proofs.lemmas.Bool.Decides.{nat_tests}
use Rattle.blocking_world_pool.proofs.Types.{WorkerPass, Hand, Free, Holds}
use Rattle.blocking_world_pool.proofs.Types.{Out, JobInHand, TurnStage}
use Rattle.blocking_world_pool.proofs.Words.{hand_in, hand_at, with_hand, hand_of, pass_in, held_if}
use Rattle.blocking_pool.proofs.Places.{got_same, set_same}
use Rattle.blocking_world_pool.proofs.hands.Rows.{IsAt}

-- ---- one hand

-- a pass is that of an idle worker
pub pass_is : (hand : Hand) (pass : WorkerPass) → Some pass ≡ pass_in hand → hand ≡ Free pass
pass_is hand pass is = grind arith

-- a job of which a test holds is what a hand holds
pub held_is : (test : TurnStage → Bool) (hand : Hand) (held : JobInHand)
    → Some held ≡ held_if test hand
    → (hand ≡ Holds held) × (test held.stage ≡ true)
held_is test hand held is = grind arith

-- ---- the hands

-- the hand of a worker is the one that it has, if it is there
pub hand_is : (row : List Hand) (v : ℕ) → hand_at row v ≡ hand_in (hand_of row v)
hand_is row v = cond_both (v == 0) None (slice_get row (v - 1))
    (λ found. hand_at row v ≡ hand_in found) (λ none. rw none refl) (λ some. rw some refl)

-- what a worker has in hand, put there again, changes nothing
pub put_back : (row : List Hand) (v : ℕ) (hand : Hand) → hand_of row v ≡ Some hand
    → with_hand row v hand ≡ row
put_back row v hand is =
    set_same row (v - 1) hand (let at : slice_get row (v - 1) ≡ Some hand = grind (arith, is) in at)

-- the hands, where one has changed so or not
pub changed_if : {row' : List Hand} {before after : Hand} (row : List Hand) (v : ℕ) (taken : Bool)
    (changed : Hand) → Some before ≡ hand_of row v → after ≡ (if taken then changed else before)
    → row' ≡ with_hand row v after → row' ≡ (if taken then with_hand row v changed else row)
changed_if row v true changed at out is = is ∙ ap (with_hand row v) out
changed_if {row'} {before} row v false changed at out is =
    is ∙ ap (with_hand row v) out ∙ put_back row v before (sym at)

-- a worker whose hand was let out is there, and has nothing in hand
pub is_out : (row : List Hand) (v : ℕ) (hand : Hand) → IsAt row v hand
    → hand_of (with_hand row v Out) v ≡ Some Out
is_out row v hand at = grind (arith, nat_tests, got_same)

-- ---- a hand that was lent

-- what holds where something was lent, which it was
pub lent_hand : {X P : Type 0} {o : Option X} {x : X} → o ≡ Some x → OnSome o P → P
lent_hand {X} {P} is holds = subst (λ (found : Option X). OnSome found P) is holds
