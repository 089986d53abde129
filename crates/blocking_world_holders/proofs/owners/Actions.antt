-- An owner that is polled has something to do, and so has a job that is neither asking nor over.
use Rattle.std.proofs.Common.{◌≡◌, ℕ, ◌<◌, List, [], ◌∷◌, length, Bool, true, false, refl, sym, ap}
use Rattle.std.proofs.Common.{◌∙◌, subst, arith, Option, Some, None, if◌then◌else◌, ◌||◌, ◌&&◌, not}
use Rattle.std.proofs.Common.{is_none, is_some}
use Rattle.std.proofs.lemmas.Bool.Decides.{nat_tests}
use Rattle.blocking_world_holders.proofs.Types.{Fault, ItemAction, OpAction, ReadAction, SeekAction}
use Rattle.blocking_world_holders.proofs.Types.{WriteAction, OwnerAction, Reply, Act, Event, Told}
use Rattle.blocking_world_holders.proofs.Types.{HandleCall, SessionJob, OwnerNext, NextActs as Acts}
use Rattle.blocking_world_holders.proofs.Types.{Rests, OwnerStage}
use Rattle.blocking_world_holders.proofs.Words.{item_next, op_next, OwnerMachine, owner_next}
use Rattle.blocking_world_holders.proofs.Words.{read_next, seek_next, Abandoned, Content, GivenUp}
use Rattle.blocking_world_holders.proofs.Words.{write_next, is_in, Consume, JobAction, Kind}
use Rattle.blocking_world_holders.proofs.Words.{Operating, PutPiece, Reading, Seeking, Streaming}
use Rattle.blocking_world_holders.proofs.Words.{Writing, fault, has_finished, has_given_up}
use Rattle.blocking_world_holders.proofs.Words.{has_result, is_asking, is_over, next_but_wake}
use Rattle.blocking_world_holders.proofs.Words.{number, accepted, got, kind_in, acts_of, own}
use Rattle.blocking_world_holders.proofs.Words.{is_again, seen_is_closed, is_for_closed}
use Rattle.blocking_world_holders.proofs.Words.{seen_is_into_inner, seen_is_pending_operation}
use Rattle.blocking_world_holders.proofs.Words.{is_poll_over, seen_is_shut, jobs_of, kind_of_job}
use Rattle.blocking_world_holders.proofs.Words.{seen_last_session, seen_may_ask, seen_rests}
use Rattle.blocking_world_holders.proofs.Words.{seen_session, under_way, seen_was_asked_inner}
use Rattle.blocking_world_holders.proofs.Words.{OperationAs, OpProgress, op_action_as}
use Rattle.blocking_world_holders.proofs.Words.{op_action_of, Flows, HoldsResult, LastAs}
use Rattle.blocking_world_holders.proofs.Words.{OwnerAs, SlotAs, has_found, is_told, state_as}
use Rattle.blocking_world_holders.proofs.Words.{Owner, awaited_as, awaits_operation, close_did, did}
use Rattle.blocking_world_holders.proofs.Words.{did_in, drain_did, fill_did, fill_did_in, find_did}
use Rattle.blocking_world_holders.proofs.Words.{last_item, look_did, looked_as, may_ask, may_ask_at}
use Rattle.blocking_world_holders.proofs.Words.{next_at, next_by, next_of, next_to_say, op_as}
use Rattle.blocking_world_holders.proofs.Words.{op_in, read_as, read_in, receive_did, reply_as}
use Rattle.blocking_world_holders.proofs.Words.{reply_did, rests, seek_as, seek_in, item_as}
use Rattle.blocking_world_holders.proofs.Words.{item_in, worked, worked_by, write_as, write_in}
use Rattle.blocking_world_holders.proofs.Words.{OfBytes, OfItems, is_piped, ReadProgress, ReadAs}
use Rattle.blocking_world_holders.proofs.Words.{read_action_as, read_action_of, SeekProgress}
use Rattle.blocking_world_holders.proofs.Words.{SeekAs, seek_action_as, seek_action_of, JobAs}
use Rattle.blocking_world_holders.proofs.Words.{action_of, kind_of, Session, drained, filled}
use Rattle.blocking_world_holders.proofs.Words.{fits_in, found_put, goods_of, holds}
use Rattle.blocking_world_holders.proofs.Words.{op_works, reach, received}
use Rattle.blocking_world_holders.proofs.Words.{session_after_find, session_after_look}
use Rattle.blocking_world_holders.proofs.Words.{item_works, read_at_put, read_works}
use Rattle.blocking_world_holders.proofs.Words.{write_consumes, write_works, ItemAs, ItemProgress}
use Rattle.blocking_world_holders.proofs.Words.{item_action_as, item_action_of, WriteProgress}
use Rattle.blocking_world_holders.proofs.Words.{WriteAs, write_action_as, write_action_of}
use Rattle.blocking_world_holders.proofs.Clashes.{nothing}
use Rattle.blocking_world_holders.proofs.owners.Cuts.{kind_is}
use Rattle.blocking_world_holders.proofs.owners.Goods.{piped_here, through_here}
use Rattle.blocking_world_holders.proofs.owners.PoolAnswers.{pends_so}
use Rattle.blocking_world_holders.proofs.owners.Polls.{owner_by_parts, bound, doing, fits_at}
use Rattle.blocking_world_holders.proofs.owners.States.{gone_is, is_lent, lent, lent_at, looks_lent}
use Rattle.blocking_world_holders.proofs.owners.States.{may_be_asked, open_lent, open_piped}
use Rattle.blocking_world_holders.proofs.owners.Steps.{its_last}
use Rattle.blocking_world_holders.proofs.owners.ReadJobs as read_job
use Rattle.blocking_world_holders.proofs.owners.ItemJobs as item_job
use Rattle.blocking_world_holders.proofs.owners.WriteJobs as write_job
use Rattle.blocking_world_holders.proofs.owners.SeekJobs as seek_job
use Rattle.blocking_world_holders.proofs.owners.OpJobs as op_job

-- ---- its poll

-- whether an owner does nothing next
abbrev pub is_rest : OwnerNext → Bool
is_rest Rests = true
is_rest _ = false

-- the laws have a word for a reply that is told
is_some_reply : (x : ℕ) (r : Reply ℕ) → is_told r ≡ true → is_some (reply_as x r) ≡ true
is_some_reply x r told = grind arith

-- a reply that there is to be told is something to do
to_say : (told : Option Told) → is_some told ≡ true → is_rest (next_to_say told) ≡ false
to_say told known = grind arith

-- the call of a poll is under way
polled_is : (bytes client : ℕ) (asked : Option HandleCall) (p : OwnerMachine ℕ)
    (last : Option Session) (cut : List Event)
    → (t : OwnerAs (owner_by_parts bytes client asked (OwnerStage.Polls p) last) cut)
    → under_way (own cut) ≡ Some t.stage.0.call
polled_is bytes client asked p last cut t = t.polled ∙ sym t.asked ∙ t.stage.0.asked_is

woken_is : (bytes client : ℕ) (asked : Option HandleCall) (p : OwnerMachine ℕ) (note : _)
    (last : Option Session) (cut : List Event)
    → (t : OwnerAs (owner_by_parts bytes client asked (OwnerStage.Wakes p note) last) cut)
    → under_way (own cut) ≡ Some t.stage.0.call
woken_is bytes client asked p note last cut t = t.polled ∙ sym t.asked ∙ t.stage.0.asked_is

rest_at : (bytes client : ℕ) (asked : Option HandleCall) (here : OwnerStage) (last : Option Session)
    (cut : List Event) → OwnerAs (owner_by_parts bytes client asked here last) cut
    → is_poll_over (under_way (own cut)) ≡ is_rest (next_at here last)
rest_at bytes client asked (OwnerStage.Wakes p note) last cut t =
    ap is_poll_over (woken_is bytes client asked p note last cut t)
rest_at bytes client asked (OwnerStage.Polls p) last cut t =
    ap is_poll_over (polled_is bytes client asked p last cut t) ∙ by_next p.next refl
  where
    by_next : (a : OwnerAction ℕ) → p.next ≡ a → false ≡ is_rest (next_by (owner_next p) last)
    by_next (OwnerAction.Reply r) is =
        sym (ap (λ a. is_rest (next_by a last)) (doing p t.stage.1 ∙ is)
        ∙ to_say (reply_as (last_item last) r) (is_some_reply (last_item last) r
        (fits_at bytes client asked p cut last (OwnerAction.Reply r) t is).0))
    by_next OwnerAction.Deliver is =
        absurd (fits_at bytes client asked p cut last OwnerAction.Deliver t is)
    by_next OwnerAction.Pending is =
        absurd (fits_at bytes client asked p cut last OwnerAction.Pending t is)
    by_next _ is = sym (ap (λ a. is_rest (next_by a last)) (doing p t.stage.1 ∙ is))
rest_at bytes client asked _ last cut t = ap is_poll_over t.polled

-- an owner has something to do exactly while a poll of it is under way
pub rests_next : (owner : Owner) (cut : List Event) → OwnerAs owner cut
    → is_poll_over (under_way (own cut)) ≡ is_rest (next_of owner)
rests_next owner cut t =
    rest_at owner.capacity owner.client owner.asked owner.stage owner.session cut t

rests_at : (bytes client : ℕ)
    (asked : Option HandleCall) (here : OwnerStage) (last : Option Session) (cut : List Event)
    → OwnerAs (owner_by_parts bytes client asked here last) cut
    → seen_rests (own cut) ≡ rests (owner_by_parts bytes client asked here last)
rests_at bytes client asked (OwnerStage.Rests st end) last cut t =
    rw (t.made, t.gone.1, t.polled) refl
rests_at bytes client asked (OwnerStage.Polls p) last cut t =
    rw (t.made, t.gone.1, polled_is bytes client asked p last cut t) refl
rests_at bytes client asked (OwnerStage.Wakes p note) last cut t =
    rw (t.made, t.gone.1, woken_is bytes client asked p note last cut t) refl
rests_at bytes client asked _ last cut t = rw (t.made, t.gone.1) refl

-- and it rests where the law says
pub rests_is : (owner : Owner) (cut : List Event) → OwnerAs owner cut
    → seen_rests (own cut) ≡ rests owner
rests_is owner cut t =
    rests_at owner.capacity owner.client owner.asked owner.stage owner.session cut t

asked_at : (bytes client : ℕ) (asked : Option HandleCall)
    (here : OwnerStage) (last : Option Session) (cut : List Event) (call : HandleCall)
    → OwnerAs (owner_by_parts bytes client asked here last) cut
    → (seen_rests (own cut) && (not (seen_is_closed (own cut)) || is_for_closed call))
    ≡ may_ask_at here call
asked_at bytes client asked (OwnerStage.Rests st end) last cut call t =
    ap (λ b. b && (not (seen_is_closed (own cut)) || is_for_closed call))
    (rests_at bytes client asked (OwnerStage.Rests st end) last cut t)
    ∙ ap (λ b. not b || is_for_closed call) (gone_is (own cut) st t.stage.0) ∙ may_be_asked st call
asked_at bytes client asked here last cut call t =
    ap (λ b. b && (not (seen_is_closed (own cut)) || is_for_closed call))
    (rests_at bytes client asked here last cut t)

-- and for the result of an operation where one is pending
again_at : (bytes client : ℕ) (asked : Option HandleCall) (here : OwnerStage)
    (last : Option Session) (cut : List Event) (call : HandleCall) (inner : Bool)
    → OwnerAs (owner_by_parts bytes client asked here last) cut
    → (may_ask_at here call
    && inner && (not (is_again call) || seen_is_pending_operation (own cut)))
    ≡ (may_ask_at here call && inner && (not (is_again call) || awaits_operation here asked))
again_at bytes client asked (OwnerStage.Rests st end) last cut call inner t =
    ap (λ b. may_ask_at (OwnerStage.Rests st end) call && inner && (not (is_again call) || b))
    (pends_so bytes client asked st end last cut t)
again_at bytes client asked _ last cut call inner t = refl

-- so it may be asked for what the law says
pub may_ask_is : (owner : Owner) (cut : List Event) (call : HandleCall) → OwnerAs owner cut
    → seen_may_ask (own cut) call ≡ may_ask owner call
may_ask_is owner cut call t =
    ap (λ b. b && inner (seen_was_asked_inner (own cut))
    && (not (is_again call) || seen_is_pending_operation (own cut)))
    (asked_at owner.capacity owner.client owner.asked owner.stage owner.session cut call t)
    ∙ ap (λ b. may_ask_at owner.stage call && inner b
    && (not (is_again call) || seen_is_pending_operation (own cut))) t.gone.2
    ∙ again_at owner.capacity owner.client owner.asked owner.stage owner.session cut call
    (inner (seen_is_into_inner owner.asked)) t
  where
    inner : Bool → Bool
    inner b = not b || seen_is_into_inner (Some call)

-- ---- what it does is there to be done

look_some : (content : Content (Option (Fault ℕ))) (finished given_up back : Bool)
    (why : Option (Fault ℕ)) (p : OwnerMachine ℕ) (s : Session) (owner : Owner)
    → SlotAs content finished given_up back why → given_up ≡ false
    → is_some (look_did (looked_as content) p s owner) ≡ true
look_some GivenUp finished given_up back why p s owner slot stays = absurd (let gave = slot.1 in cc)
look_some (Abandoned over) finished given_up back why p s owner slot stays = absurd slot
look_some _ finished given_up back why p s owner slot stays = refl

find_some : (content : Content ℕ) (put found : Bool) (number : ℕ) (p : OwnerMachine ℕ) (s : Session)
    (owner : Owner) → HoldsResult content put found number
    → is_some (find_did (awaited_as content) p s owner) ≡ true
find_some GivenUp put found number p s owner holds = absurd holds
find_some (Abandoned over) put found number p s owner holds = absurd holds
find_some _ put found number p s owner holds = refl

told_some : (told : Option Told) (p : OwnerMachine ℕ) (owner : Owner) → is_some told ≡ true
    → is_some (reply_did told p owner) ≡ true
told_some told p owner known = grind arith

-- what passes through the pipe of a session, by its kind
goods_at : (last : Option Session) (bytes : Kind → ℕ) (cut : List Event) (k : Kind)
    → LastAs last bytes cut → kind_in (seen_last_session (own cut)) ≡ k → (s : Session)
    → last ≡ Some s
    → s.goods ≡ goods_of k
goods_at None bytes cut k l is s e = absurd (nothing e)
goods_at (Some r) bytes cut k l is s e = let same : r ≡ s = cc in
    subst (λ (x : Session). x.goods ≡ goods_of k) same (l.lent.goods ∙ ap goods_of is)

-- who was asked to write something, and has a session, can fill
fill_some : (p : OwnerMachine ℕ) (asked : Option HandleCall) (last : Option Session) (owner : Owner)
    (offered : List ℕ) → asked ≡ Some (HandleCall.Write offered) → 0 < length offered
    → is_some last ≡ true → ((s : Session) → last ≡ Some s → s.goods ≡ OfBytes)
    → is_some (fill_did_in p asked last owner) ≡ true
fill_some p (Some (HandleCall.Write (byte ∷ more))) (Some s) owner offered asks some there goods =
    ap is_some (through_here OfBytes s.goods (Some
    (fill_did (byte ∷ more) (filled (length (byte ∷ more)) s) p s owner)) (goods s refl))
fill_some p (Some (HandleCall.Write (byte ∷ more))) None owner offered asks some there goods =
    absurd (cc)
fill_some p (Some (HandleCall.Write [])) last owner offered asks some there goods =
    let none : [] ≡ offered = cc in
    let count = ap (λ (l : List ℕ). length l) none in
    absurd (omega (arith, count, some))
fill_some p _ last owner offered asks some there goods = absurd (cc)

some_by : (bytes client : ℕ) (asked : Option HandleCall)
    (p : OwnerMachine ℕ) (cut : List Event) (a : OwnerAction ℕ) (last : Option Session)
    → OwnerAs (owner_by_parts bytes client asked (OwnerStage.Polls p) last) cut
    → p.next ≡ a → (n : ℕ) → next_by a last ≡ Acts n
    → is_some (did_in a p last (owner_by_parts bytes client asked (OwnerStage.Polls p) last)) ≡ true
some_by bytes client asked p cut (OwnerAction.Reply r) last t is n e =
    told_some (reply_as (last_item last) r) p
    (owner_by_parts bytes client asked (OwnerStage.Polls p) last) (is_some_reply (last_item last)
    r (fits_at bytes client asked p cut last (OwnerAction.Reply r) t is).0)
some_by bytes client asked p cut (OwnerAction.Fill most) last t is n e =
    let fits = fits_at bytes client asked p cut last (OwnerAction.Fill most) t is in
    fill_some p asked last (owner_by_parts bytes client asked (OwnerStage.Polls p) last) fits.0
    (sym t.asked ∙ t.stage.0.asked_is ∙ ap Some fits.1) (subst (λ n. 0 < n) fits.2 fits.3)
    (lent last (bound bytes) cut p.state t.last t.stage.0.at_is (ap is_lent fits.4))
    (goods_at last (bound bytes) cut Writing t.last
    (lent_at (own cut) Writing true (t.stage.0.at_is ∙ ap state_as fits.4)).0)
some_by bytes client asked p cut OwnerAction.DropHandle last t is n e = refl
some_by bytes client asked p cut OwnerAction.Close (Some s) t is n e =
    let fits = fits_at bytes client asked p cut (Some s) OwnerAction.Close t is in
    ap is_some (piped_here s.goods
    (Some (close_did p s (owner_by_parts bytes client asked (OwnerStage.Polls p) (Some s))))
    (ap is_piped t.last.lent.goods ∙ open_piped (own cut) p.state fits.0 t.stage.0.at_is))
some_by bytes client asked p cut (OwnerAction.Drain most) (Some s) t is n e =
    let fits = fits_at bytes client asked p cut (Some s) (OwnerAction.Drain most) t is in
    let kind = (lent_at (own cut) Reading true (t.stage.0.at_is ∙ ap state_as fits.2)).0 in
    ap is_some (through_here OfBytes s.goods (Some (drain_did (drained (reach most s) s)
    p s (owner_by_parts bytes client asked (OwnerStage.Polls p) (Some s))))
    (t.last.lent.goods ∙ ap goods_of kind))
some_by bytes client asked p cut OwnerAction.Receive (Some s) t is n e =
    let fits = fits_at bytes client asked p cut (Some s) OwnerAction.Receive t is in
    let kind = (lent_at (own cut) Streaming true (t.stage.0.at_is ∙ ap state_as fits.1)).0 in
    ap is_some (through_here OfItems s.goods (Some (receive_did (received s) p
    s (owner_by_parts bytes client asked (OwnerStage.Polls p) (Some s))))
    (t.last.lent.goods ∙ ap goods_of kind))
some_by bytes client asked p cut OwnerAction.PollSlot (Some s) t is n e =
    let works = acts_of s.number.serial cut in
    look_some s.slot.content (has_finished works) (has_given_up works)
    (is_none (seen_session (own cut))) (fault (kind_in (seen_last_session (own cut))) works) p
    (session_after_look s.slot.content s) (owner_by_parts bytes client asked (OwnerStage.Polls p)
    (Some s)) t.last.result.slot (stays (has_given_up works) refl)
  where
    stays : (b : Bool) → has_given_up (acts_of s.number.serial cut) ≡ b
        → has_given_up (acts_of s.number.serial cut) ≡ false
    stays true is = absurd (let gone = t.last.result.let_go is in let here = t.gone.0 in cc)
    stays false is = is
some_by bytes client asked p cut OwnerAction.PollResult (Some s) t is n e =
    let works = acts_of s.number.serial cut in
    find_some s.result.content (has_result works)
    (has_found (own cut)) (number works) p (session_after_find s.result.content s)
    (owner_by_parts bytes client asked (OwnerStage.Polls p) (Some s)) t.place.content
some_by bytes client asked p cut OwnerAction.Close None t is n e =
    let fits = fits_at bytes client asked p cut None OwnerAction.Close t is in
    lent None (bound bytes) cut p.state t.last t.stage.0.at_is (open_lent p.state fits.0)
some_by bytes client asked p cut (OwnerAction.Drain most) None t is n e =
    let fits = fits_at bytes client asked p cut None (OwnerAction.Drain most) t is in
    lent None (bound bytes) cut p.state t.last t.stage.0.at_is (ap is_lent fits.2)
some_by bytes client asked p cut OwnerAction.Receive None t is n e =
    let fits = fits_at bytes client asked p cut None OwnerAction.Receive t is in
    lent None (bound bytes) cut p.state t.last t.stage.0.at_is (ap is_lent fits.1)
some_by bytes client asked p cut OwnerAction.PollSlot None t is n e =
    let fits = fits_at bytes client asked p cut None OwnerAction.PollSlot t is in
    lent None (bound bytes) cut p.state t.last t.stage.0.at_is
    (looks_lent t.stage.0.call p.state p.is_at_end fits.0)
some_by bytes client asked p cut OwnerAction.PollResult None t is n e =
    let fits = fits_at bytes client asked p cut None OwnerAction.PollResult t is in
    lent None (bound bytes) cut p.state t.last t.stage.0.at_is (ap is_lent fits.1)
some_by bytes client asked p cut _ last t is n e = absurd (cc)

some_at : (bytes client : ℕ) (asked : Option HandleCall) (here : OwnerStage) (last : Option Session)
    (cut : List Event) → OwnerAs (owner_by_parts bytes client asked here last) cut → (n : ℕ)
    → next_at here last ≡ Acts n
    → is_some (did (owner_by_parts bytes client asked here last)) ≡ true
some_at bytes client asked (OwnerStage.Polls p) last cut t n e =
    let turn = doing p t.stage.1 in
    ap (λ a. is_some
    (did_in a p last (owner_by_parts bytes client asked (OwnerStage.Polls p) last))) turn
    ∙ some_by bytes client asked p cut p.next last t refl n
    (ap (λ a. next_by a last) (sym turn) ∙ e)
some_at bytes client asked _ last cut t n e = absurd (cc)

-- an owner that is to act by itself can
pub acts_some : (owner : Owner) (cut : List Event) → OwnerAs owner cut → (n : ℕ)
    → next_of owner ≡ Acts n → is_some (did owner) ≡ true
acts_some owner cut t n e =
    some_at owner.capacity owner.client owner.asked owner.stage owner.session cut t n e

-- ---- its job

-- The session of a job of this kind that does this next, and what went through its pipe.
record Meets (last : Option Session) (kind : Kind) (a : JobAction) (cut : List Event) : Type 0 where
  pub session : Session
  pub here : last ≡ Some session
  pub goods : session.goods ≡ goods_of kind
  pub flow : Flows kind session (seen_is_shut (own cut)) (got (own cut)) (accepted (own cut)) a
      (acts_of session.number.serial cut)

meets : (owner : Owner) (cut : List Event) (n : ℕ) (kind : Kind) (a : JobAction) → OwnerAs owner cut
    → kind_of_job n (own cut) ≡ kind → is_in n (jobs_of (own cut)) ≡ true
    → next_but_wake kind (acts_of n cut) ≡ a → is_over a ≡ false → Meets owner.session kind a cut
meets owner cut n kind a t of among table goes =
    let l = its_last owner.capacity owner.client owner.asked owner.stage owner.session n cut t among
    (ap (λ k. is_over (next_but_wake k (acts_of n cut))) of ∙ ap is_over table ∙ goes) in
    let s = l.session in
    let last : LastAs (Some s) (bound owner.capacity) cut =
    subst (λ o. LastAs o (bound owner.capacity) cut) l.here t.last in
    let same : kind_in (seen_last_session (own cut)) ≡ kind =
    sym (kind_is s (bound owner.capacity) cut last)
    ∙ ap (λ m. kind_of_job m (own cut)) (sym l.same) ∙ of in
    let works = acts_of s.number.serial cut in
    let next : next_but_wake kind works ≡ a =
    ap (λ m. next_but_wake kind (acts_of m cut)) (sym l.same) ∙ table in
    record {
      session = s;
      here = l.here;
      goods = last.lent.goods ∙ ap goods_of same;
      flow = subst (λ b.
          Flows kind s (seen_is_shut (own cut)) (got (own cut)) (accepted (own cut)) b works) next
          (subst (λ k. Flows k s (seen_is_shut (own cut)) (got (own cut)) (accepted (own cut))
          (next_but_wake k works) works) same last.flow);
    }

-- what it puts fits
put_fits : (s : Session) (shut : Bool) (took written : List ℕ) (acts : List Act) (bytes : List ℕ)
    → Flows Reading s shut took written (PutPiece bytes) acts → fits_in bytes s ≡ true
put_fits s shut took written acts bytes flow = let within = flow.passed_is.2 in
    grind (arith, nat_tests)

-- what it takes out is inside
taken_holds : (s : Session) (shut : Bool) (took written : List ℕ) (acts : List Act) (count : ℕ)
    → Flows Writing s shut took written (Consume count) acts → holds count s ≡ true
taken_holds s shut took written acts count flow = let within = flow.written_is.2 in
    grind (arith, nat_tests)

-- a job that reads, whose next action is its own, can take it
read_some : (owner : Owner) (cut : List Event) (n : ℕ) (p : ReadProgress)
    → OwnerAs owner cut → kind_of_job n (own cut) ≡ Reading → ReadAs p (acts_of n cut)
    → is_in n (jobs_of (own cut)) ≡ true
    → is_asking (read_action_of p) ≡ false → is_over (read_action_of p) ≡ false
    → is_some (worked (SessionJob.Read p) owner) ≡ true
read_some owner cut n p t of r among asks over = by_next (read_next p.core) refl asks over
  where
    at_last : (a : ReadAction) → read_next p.core ≡ a → (a ≡ ReadAction.Deliver → ⊥)
        → is_over (read_action_as p.piece a) ≡ false
        → ((s : Session) → Flows Reading s (seen_is_shut (own cut)) (got (own cut))
        (accepted (own cut)) (read_action_as p.piece a) (acts_of s.number.serial cut)
        → is_some (worked_by SessionJob.Read (read_works a p s) owner) ≡ true)
        → is_some (read_in a owner.session p owner) ≡ true
    at_last a is other goes here =
        let m = meets owner cut n Reading (read_action_as p.piece a) t of among
        (read_job.does p (acts_of n cut) r is other).table goes in
        subst (λ o. is_some (read_in a o p owner) ≡ true) (sym m.here)
        (ap (λ w. is_some (worked_by SessionJob.Read w owner)) (through_here OfBytes m.session.goods
        (read_works a p m.session) m.goods) ∙ here m.session m.flow)

    by_next : (a : ReadAction) → read_next p.core ≡ a → is_asking (read_action_as p.piece a) ≡ false
        → is_over (read_action_as p.piece a) ≡ false → is_some (read_as a p owner) ≡ true
    by_next ReadAction.Deliver is asks over = refl
    by_next (ReadAction.Put count) is asks over =
        at_last (ReadAction.Put count) is (λ e. cc) refl
        (λ s flow. ap (λ b. is_some (worked_by SessionJob.Read
        (if b then Some (read_at_put (found_put p.piece s) p s) else None) owner))
        (put_fits s (seen_is_shut (own cut)) (got (own cut)) (accepted (own cut))
        (acts_of s.number.serial cut) p.piece flow))
    by_next (ReadAction.Read most) is asks over = absurd (cc)
    by_next ReadAction.Done is asks over = absurd (cc)
    by_next a is asks over = at_last a is (λ e. cc) refl (λ s flow. refl)

-- and one that writes
write_some : (owner : Owner) (cut : List Event) (n : ℕ) (p : WriteProgress)
    → OwnerAs owner cut → kind_of_job n (own cut) ≡ Writing → WriteAs p (acts_of n cut)
    → is_in n (jobs_of (own cut)) ≡ true
    → is_asking (write_action_of p) ≡ false → is_over (write_action_of p) ≡ false
    → is_some (worked (SessionJob.Write p) owner) ≡ true
write_some owner cut n p t of r among asks over = by_next (write_next p.core) refl asks over
  where
    at_last : (a : WriteAction) → write_next p.core ≡ a → (a ≡ WriteAction.Deliver → ⊥)
        → is_over (write_action_as p.piece a) ≡ false
        → ((s : Session) → Flows Writing s (seen_is_shut (own cut)) (got (own cut))
        (accepted (own cut)) (write_action_as p.piece a) (acts_of s.number.serial cut)
        → is_some (worked_by SessionJob.Write (write_works a p s) owner) ≡ true)
        → is_some (write_in a owner.session p owner) ≡ true
    at_last a is other goes here =
        let m = meets owner cut n Writing (write_action_as p.piece a) t of among
        (write_job.does p (acts_of n cut) r is other).table goes in
        subst (λ o. is_some (write_in a o p owner) ≡ true) (sym m.here)
        (ap (λ w. is_some (worked_by SessionJob.Write w owner)) (through_here OfBytes
        m.session.goods (write_works a p m.session) m.goods) ∙ here m.session m.flow)

    by_next : (a : WriteAction) → write_next p.core ≡ a → is_asking (write_action_as p.piece a)
        ≡ false → is_over (write_action_as p.piece a) ≡ false → is_some (write_as a p owner) ≡ true
    by_next WriteAction.Deliver is asks over = refl
    by_next (WriteAction.Consume count) is asks over =
        at_last (WriteAction.Consume count) is (λ e. cc) refl
        (λ s flow. ap (λ b. is_some (worked_by SessionJob.Write
        (if b then Some (write_consumes count p s) else None) owner))
        (taken_holds s (seen_is_shut (own cut)) (got (own cut)) (accepted (own cut))
        (acts_of s.number.serial cut) count flow))
    by_next (WriteAction.Write count) is asks over = absurd (cc)
    by_next WriteAction.Flush is asks over = absurd (cc)
    by_next WriteAction.Done is asks over = absurd (cc)
    by_next a is asks over = at_last a is (λ e. cc) refl (λ s flow. refl)

-- and one that runs an iterator
item_some : (owner : Owner) (cut : List Event) (n : ℕ) (p : ItemProgress)
    → OwnerAs owner cut → kind_of_job n (own cut) ≡ Streaming → ItemAs p (acts_of n cut)
    → is_in n (jobs_of (own cut)) ≡ true
    → is_asking (item_action_of p) ≡ false → is_over (item_action_of p) ≡ false
    → is_some (worked (SessionJob.Items p) owner) ≡ true
item_some owner cut n p t of r among asks over = by_next (item_next p.core) refl asks over
  where
    at_last : (a : ItemAction) → item_next p.core ≡ a → (a ≡ ItemAction.Deliver → ⊥)
        → is_over (item_action_as p.item a) ≡ false
        → ((s : Session) → is_some (worked_by SessionJob.Items (item_works a p s) owner) ≡ true)
        → is_some (item_in a owner.session p owner) ≡ true
    at_last a is other goes here =
        let m = meets owner cut n Streaming (item_action_as p.item a) t of among
        (item_job.does p (acts_of n cut) r is other).table goes in
        subst (λ o. is_some (item_in a o p owner) ≡ true) (sym m.here)
        (ap (λ w. is_some (worked_by SessionJob.Items w owner)) (through_here OfItems
        m.session.goods (item_works a p m.session) m.goods) ∙ here m.session)

    by_next : (a : ItemAction) → item_next p.core ≡ a → is_asking (item_action_as p.item a) ≡ false
        → is_over (item_action_as p.item a) ≡ false → is_some (item_as a p owner) ≡ true
    by_next ItemAction.Deliver is asks over = refl
    by_next ItemAction.Send is asks over = at_last ItemAction.Send is (λ e. cc) refl (λ s. refl)
    by_next ItemAction.Close is asks over = at_last ItemAction.Close is (λ e. cc) refl (λ s. refl)
    by_next ItemAction.Finish is asks over = at_last ItemAction.Finish is (λ e. cc) refl (λ s. refl)
    by_next _ is asks over = absurd (cc)

-- and one that seeks
seek_some : (owner : Owner) (cut : List Event) (n : ℕ) (p : SeekProgress)
    → OwnerAs owner cut → kind_of_job n (own cut) ≡ Seeking p.goal → SeekAs p (acts_of n cut)
    → is_in n (jobs_of (own cut)) ≡ true
    → is_asking (seek_action_of p) ≡ false → is_over (seek_action_of p) ≡ false
    → is_some (worked (SessionJob.Seek p) owner) ≡ true
seek_some owner cut n p t of r among asks over = by_next (seek_next p.core) refl asks over
  where
    by_next : (a : SeekAction) → seek_next p.core ≡ a → is_asking (seek_action_as a) ≡ false
        → is_over (seek_action_as a) ≡ false → is_some (seek_as a p owner) ≡ true
    by_next SeekAction.Deliver is asks over = refl
    by_next SeekAction.Finish is asks over =
        let m = meets
        owner cut n (Seeking p.goal) (seek_action_as SeekAction.Finish) t of among
        (seek_job.does p (acts_of n cut) r is (λ e. cc)).table refl in
        subst (λ o. is_some (seek_in SeekAction.Finish o p owner) ≡ true) (sym m.here) refl
    by_next _ is asks over = absurd (cc)

-- and one that runs an operation
op_some : (owner : Owner) (cut : List Event) (n : ℕ) (p : OpProgress)
    → OwnerAs owner cut → kind_of_job n (own cut) ≡ Operating → OperationAs p (acts_of n cut)
    → is_in n (jobs_of (own cut)) ≡ true
    → is_asking (op_action_of p) ≡ false → is_over (op_action_of p) ≡ false
    → is_some (worked (SessionJob.Operate p) owner) ≡ true
op_some owner cut n p t of r among asks over = by_next (op_next p.core) refl asks over
  where
    at_last : (a : OpAction) → op_next p.core ≡ a → (a ≡ OpAction.Deliver → ⊥)
        → is_over (op_action_as a) ≡ false
        → ((s : Session) → is_some (worked_by SessionJob.Operate (op_works a p s) owner)
        ≡ true) → is_some (op_in a owner.session p owner) ≡ true
    at_last a is other goes here =
        let m = meets owner cut n Operating (op_action_as a) t of among
        (op_job.does p (acts_of n cut) r is other).table goes in
        subst (λ o. is_some (op_in a o p owner) ≡ true) (sym m.here) (here m.session)

    by_next : (a : OpAction) → op_next p.core ≡ a → is_asking (op_action_as a) ≡ false
        → is_over (op_action_as a) ≡ false → is_some (op_as a p owner) ≡ true
    by_next OpAction.Deliver is asks over = refl
    by_next OpAction.PutResult is asks over =
        at_last OpAction.PutResult is (λ e. cc) refl (λ s. refl)
    by_next OpAction.Finish is asks over = at_last OpAction.Finish is (λ e. cc) refl (λ s. refl)
    by_next _ is asks over = absurd (cc)

-- a job whose next action is its own can take it
pub works_some : (owner : Owner) (cut : List Event) (n : ℕ) (p : SessionJob) → OwnerAs owner cut
    → kind_of_job n (own cut) ≡ kind_of p → JobAs p (acts_of n cut)
    → is_in n (jobs_of (own cut)) ≡ true → is_asking (action_of p) ≡ false
    → is_over (action_of p) ≡ false → is_some (worked p owner) ≡ true
works_some owner cut n (SessionJob.Read p) t of r among asks over =
    read_some owner cut n p t of r among asks over
works_some owner cut n (SessionJob.Write p) t of r among asks over =
    write_some owner cut n p t of r among asks over
works_some owner cut n (SessionJob.Items p) t of r among asks over =
    item_some owner cut n p t of r among asks over
works_some owner cut n (SessionJob.Seek p) t of r among asks over =
    seek_some owner cut n p t of r among asks over
works_some owner cut n (SessionJob.Operate p) t of r among asks over =
    op_some owner cut n p t of r among asks over
