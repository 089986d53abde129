-- What an owner does by itself is nothing to the crew.
use Rattle.std.proofs.Common.{◌≡◌, ℕ, List, length, true, refl, Option, Some, arith}
use Rattle.blocking_world_state.proofs.Types.{Act}
use Rattle.blocking_world_state.proofs.Words.{OwnerMachine, Met, JobNumber, is_aside, Owner, Did}
use Rattle.blocking_world_state.proofs.Words.{drain_did, receive_did, fill_did, did, IsDid, Session}
use Rattle.blocking_world_state.proofs.Words.{reach, drained, received, filled}
use Rattle.blocking_world_state.proofs.moves.PollActs.{is_look, did_holds}

drains : (met : Met (List ℕ × Option JobNumber)) (poll : OwnerMachine ℕ) (session : Session)
    (owner : Owner) → is_aside (drain_did met poll session owner).act ≡ true
drains met poll session owner = grind arith

receives : (met : Met (ℕ × Option JobNumber)) (poll : OwnerMachine ℕ) (session : Session)
    (owner : Owner) → is_aside (receive_did met poll session owner).act ≡ true
receives met poll session owner = grind arith

fills : (bytes : List ℕ)
    (met : Met (ℕ × Option JobNumber)) (poll : OwnerMachine ℕ) (session : Session) (owner : Owner)
    → is_aside (fill_did bytes met poll session owner).act ≡ true
fills bytes met poll session owner = grind arith

looks : (act : Act) → is_look act ≡ true → is_aside act ≡ true
looks act is = grind arith

acts : (owner : Owner) (done : Did) → did owner ≡ Some done → is_aside done.act ≡ true
acts owner done =
    did_holds (λ (d : Did). is_aside d.act ≡ true) owner
    (λ poll at. record {
      replies = λ told. refl;
      drops = refl;
      closes = λ s here. refl;
      drains = λ most s here goes. drains (drained (reach most s) s) poll s owner;
      receives = λ s here. receives (received s) poll s owner;
      fills = λ bytes s here. fills bytes (filled (length bytes) s) poll s owner;
      looks = λ act at s new here look number pipe. looks act look;
    }) done

-- so what is told of it may be told
pub told_aside : (old left : Owner) (act : Act) → IsDid (did old) old (Some act) left
    → is_aside act ≡ true
told_aside old left act is = grind (arith, acts)
