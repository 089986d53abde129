-- The place where the result of an operation comes, after each act.
use Rattle.std.proofs.Common.{arith, ◌≡◌, ℕ, Bool, true, false, refl, sym, ap, ◌∙◌, subst, Some}
use Rattle.blocking_world_holders.proofs.Words.{Content, Empty, Full, Slot, after_put, empty_slot}
use Rattle.blocking_world_holders.proofs.Words.{slot_after, AskResult, Finish, JobAction, Kind}
use Rattle.blocking_world_holders.proofs.Words.{Operating, Over, PutResult, first_action}
use Rattle.blocking_world_holders.proofs.Words.{HoldsResult, IsPutBy, PlaceAs}

-- whether a session of this kind runs an operation
abbrev pub is_operating : Kind → Bool
is_operating Operating = true
is_operating _ = false

-- the job of another session puts no result
unput : (kind : Kind) (next : JobAction) (given_up put : Bool) → is_operating kind ≡ false
    → IsPutBy kind next given_up put → put ≡ false
unput kind next given_up put other is = grind arith

puts_none : (kind : Kind) (next : JobAction) (given_up put : Bool) → is_operating kind ≡ false
    → put ≡ false → IsPutBy kind next given_up put
puts_none Operating next given_up put other none = absurd (cc)
puts_none _ next given_up put other none = none

-- before the result is put its number doesn't matter
renumbered : (content : Content ℕ) (put found : Bool) (n m : ℕ) → put ≡ false
    → HoldsResult content put found n → HoldsResult content put found m
renumbered Empty put found n m none holds = holds
renumbered (Full k) put found n m none holds = absurd (let was = holds.0 in cc)
renumbered _ put found n m none holds = absurd holds

-- nothing stands there before, and nothing was found
nothing_yet : (content : Content ℕ) (put found : Bool) (n : ℕ) → put ≡ false
    → HoldsResult content put found n → (content ≡ Empty) × (found ≡ false)
nothing_yet Empty put found n none holds = (refl, sym holds ∙ none)
nothing_yet (Full k) put found n none holds = absurd (let was = holds.0 in cc)
nothing_yet _ put found n none holds = absurd holds

module _ (place : Slot ℕ (Unit {0})) (gave put found : Bool) (n : ℕ) (seated : Bool) where
  -- ---- its job acts

  -- the job of another session leaves it as it is
  pub kept : (kind : Kind) (next after : JobAction) (gives : Bool) (m : ℕ)
      → is_operating kind ≡ false → PlaceAs place kind next gave put found n seated
      → PlaceAs place kind after gives put found m seated
  kept kind next after gives m other t =
      let none = unput kind next gave put other t.put_is in
      record {
        put_is = puts_none kind after gives put other none;
        content = renumbered
            place.content put found n m none t.content;
        seat = t.seat;
        reason = t.reason;
      }

  -- and so does one that gives up
  pub given_up : (kind : Kind) (next : JobAction) → PlaceAs place kind next gave put found n seated
      → PlaceAs place kind Over true put found n seated
  given_up kind next t =
      record { put_is = of kind t.put_is; content = t.content; seat = t.seat; reason = t.reason }
    where
      of : (kind : Kind) → IsPutBy kind next gave put → IsPutBy kind Over true put
      of Operating is = λ stays. absurd (cc)
      of _ is = is

  -- the operation gives its number
  pub answered : (m : ℕ) → PlaceAs place Operating AskResult gave put found n seated
      → PlaceAs place Operating PutResult gave put found m seated
  answered m t = record {
    put_is = t.put_is;
    content = renumbered place.content put found n m
        t.put_is t.content;
    seat = t.seat;
    reason = t.reason;
  }

  -- nothing stands there when the result is put
  pub unfilled : PlaceAs place Operating PutResult gave put found n seated → place.content ≡ Empty
  unfilled t = (nothing_yet place.content put found n t.put_is t.content).0

  -- the result is put
  pub filled : (m : ℕ) → m ≡ n → PlaceAs place Operating PutResult gave put found n seated
      → PlaceAs (after_put place m) Operating Finish gave true found n false
  filled m same t =
      let e = nothing_yet place.content put found n t.put_is t.content in
      subst (λ (l : Slot ℕ (Unit {0})). PlaceAs l Operating Finish gave true found n false)
      (sym (ap (λ c. slot_after c place.seat m) e.0))
      (record {
        put_is = refl;
        content = (refl, e.1, same);
        seat = refl;
        reason = λ sits. absurd (cc);
      })

  -- and then the job's own
  pub finished : PlaceAs place Operating Finish gave put found n seated
      → PlaceAs place Operating Over gave put found n seated
  finished t =
      record { put_is = λ stays. t.put_is; content = t.content; seat = t.seat; reason = t.reason }

  -- ---- its owner looks

  module _ (kind : Kind) (next : JobAction)
      (t : PlaceAs place kind next gave put found n seated) where
    -- the owner finds the result
    pub taken : (m : ℕ) → place.content ≡ Full m
        → PlaceAs (record place { content = Empty }) kind next gave put true n seated
    taken m full =
        let holds = subst (λ c. HoldsResult c put found n) full t.content in
        record { put_is = t.put_is; content = holds.0; seat = t.seat; reason = t.reason }

    -- it finds nothing, and is seated
    pub waits : kind ≡ Operating → put ≡ false
        → PlaceAs (record place { seat = Some tt }) kind next gave put found n true
    waits operates none = record {
      put_is = t.put_is;
      content = t.content;
      seat = refl;
      reason = λ sits. (operates, none);
    }

-- a session begins with an empty one
pub begun : (kind : Kind) → PlaceAs empty_slot kind (first_action kind) false false false 0 false
begun kind = record { put_is = of kind; content = refl; seat = refl; reason = λ sits. absurd (cc) }
  where
    of : (kind : Kind) → IsPutBy kind (first_action kind) false false
    of Operating = refl
    of _ = refl
