-- An owner that waits for a job at rest was woken, or wakes the job.
use Rattle.std.proofs.Common.{◌≡◌, ℕ, ◌<◌, List, length, Bool, true, false, refl, sym, ap, ◌∙◌}
use Rattle.std.proofs.Common.{subst, arith, Option, Some, None, ⊎_elim, ◌||◌, ◌⊎◌, is_some, is_none}
use Rattle.std.proofs.Common.{not}
use Rattle.std.proofs.lemmas.Bool.{or_left}
use Rattle.blocking_world_holders.proofs.Types.{Fault, Act, Event}
use Rattle.blocking_world_holders.proofs.Words.{Content, Empty, FindRoom, JobAction, Kind}
use Rattle.blocking_world_holders.proofs.Words.{Operating, Peek, Reading, Seeking, SendItem}
use Rattle.blocking_world_holders.proofs.Words.{Streaming, Writing, fault, has_finished}
use Rattle.blocking_world_holders.proofs.Words.{has_given_up, has_result, is_over, next_but_wake}
use Rattle.blocking_world_holders.proofs.Words.{is_job_seated, HasReason, IsSessionOf, IsStuck}
use Rattle.blocking_world_holders.proofs.Words.{is_waking, accepted, got, kind_in, acts_of, own}
use Rattle.blocking_world_holders.proofs.Words.{SeenSession, seen_capacity}
use Rattle.blocking_world_holders.proofs.Words.{seen_is_dropped as is_dropped, seen_is_shut}
use Rattle.blocking_world_holders.proofs.Words.{seen_last_session as last_session}
use Rattle.blocking_world_holders.proofs.Words.{seen_session as session, is_waiting, was_woken}
use Rattle.blocking_world_holders.proofs.Words.{Flows, IsOwnerStuckIn, IsPutBy, IsStuckIn, LastAs}
use Rattle.blocking_world_holders.proofs.Words.{OwnerAs, PlaceIn, SlotAs, is_finding, is_piped_kind}
use Rattle.blocking_world_holders.proofs.Words.{is_seated, seat_of, Owner, capacity_of, Session}
use Rattle.blocking_world_holders.proofs.owners.Cuts.{inside_is}
use Rattle.blocking_world_holders.proofs.owners.Polls.{last_is}
use Rattle.blocking_world_holders.proofs.owners.States.{session_is_last}

-- ---- what a job and its owner find, by the kind of the session

module _ (s : Session) (shut : Bool) (took written : List ℕ) (acts : List Act) where
  -- a job that looks for room, or for bytes, has its end of the pipe open
  finding_lasts : (kind : Kind) (a : JobAction) → is_finding a ≡ true
      → Flows kind s shut took written a acts → s.pipe.is_job_open ≡ true
  finding_lasts Reading FindRoom finding flow = flow.passed_is.0
  finding_lasts Reading Peek finding flow = absurd flow.passed_is
  finding_lasts Writing Peek finding flow = flow.written_is.0
  finding_lasts Writing FindRoom finding flow = absurd flow.written_is
  finding_lasts Streaming (SendItem x) finding flow = flow.passed_is.0
  finding_lasts Streaming FindRoom finding flow = flow.passed_is.0
  finding_lasts Streaming Peek finding flow = absurd flow.passed_is
  finding_lasts Reading (SendItem x) finding flow = flow.passed_is.0
  finding_lasts Writing (SendItem x) finding flow = absurd flow.written_is
  finding_lasts Reading _ finding flow = absurd (cc)
  finding_lasts Streaming _ finding flow = absurd (cc)
  finding_lasts Writing _ finding flow = absurd (cc)
  finding_lasts (Seeking goal) FindRoom finding flow = absurd flow.next_is
  finding_lasts (Seeking goal) Peek finding flow = absurd flow.next_is
  finding_lasts (Seeking goal) (SendItem x) finding flow = absurd flow.next_is
  finding_lasts (Seeking goal) _ finding flow = absurd (cc)
  finding_lasts Operating FindRoom finding flow = absurd flow.next_is
  finding_lasts Operating Peek finding flow = absurd flow.next_is
  finding_lasts Operating (SendItem x) finding flow = absurd flow.next_is
  finding_lasts Operating _ finding flow = absurd (cc)
  finding_lasts _ a finding flow = absurd flow

  -- a job that is over has closed its end, where its owner sits there, unless it gave up
  over_closed : (kind : Kind) (a : JobAction) → Flows kind s shut took written a acts
      → is_over a ≡ true → is_some s.pipe.owner_seat ≡ true → s.pipe.is_job_open ≡ true
      → has_given_up acts ≡ true
  over_closed Reading a flow over sits lasts = flow.unclosed over lasts
  over_closed Streaming a flow over sits lasts = flow.unclosed over lasts
  over_closed Writing a flow over sits lasts = flow.unclosed over lasts
  over_closed (Seeking goal) a flow over sits lasts =
      absurd (let nobody = flow.plain.unseated in cc)
  over_closed Operating a flow over sits lasts = absurd (let nobody = flow.plain.unseated in cc)
  over_closed _ a flow over sits lasts = absurd flow

  -- a job without a pipe doesn't look into it
  unseated : (kind : Kind) (a : JobAction) → is_piped_kind kind ≡ false → is_finding a ≡ true
      → Flows kind s shut took written a acts → ⊥
  unseated (Seeking goal) FindRoom none finding flow = flow.next_is
  unseated (Seeking goal) Peek none finding flow = flow.next_is
  unseated (Seeking goal) (SendItem x) none finding flow = flow.next_is
  unseated (Seeking goal) _ none finding flow = cc
  unseated Operating FindRoom none finding flow = flow.next_is
  unseated Operating Peek none finding flow = flow.next_is
  unseated Operating (SendItem x) none finding flow = flow.next_is
  unseated Operating _ none finding flow = cc
  unseated _ a none finding flow = cc

-- not both can't go on at a pipe that holds something
not_both : (s : Session) (kind : Kind) → 0 < s.pipe.capacity → IsStuckIn kind s
    → IsOwnerStuckIn kind s → ⊥
not_both s Reading some full none = let empty = ap (λ (l : List ℕ). length l) none in
    absurd (omega (arith, full, empty, some))
not_both s Writing some none full = let empty = ap (λ (l : List ℕ). length l) none in
    absurd (omega (arith, full, empty, some))
not_both s _ some full none = let empty = ap (λ (l : List ℕ). length l) none in
    absurd (omega (arith, full, empty, some))

module _ (s : Session) (capacity : Kind → ℕ) (cut : List Event) (t : LastAs (Some s) capacity cut)
    (placed : PlaceIn (Some s) cut) where
  abbrev works : List Act
  works = acts_of s.number.serial cut

  abbrev kind : Kind
  kind = kind_in (last_session (own cut))

  -- a job that finished has closed its end of the pipe, and left the handle in the slot
  full_slot : (content : Content (Option (Fault ℕ))) (finished given_up back : Bool)
      (why : Option (Fault ℕ)) → SlotAs content finished given_up back why → finished ≡ true
      → back ≡ false → content ≡ Empty → ⊥
  full_slot Empty finished given_up back why slot done lent empty = let same = slot.0 in cc
  full_slot _ finished given_up back why slot done lent empty = cc

  -- Who sits in a seat doesn't wait for a job that finished.
  not_finished : is_none (session (own cut)) ≡ false → has_given_up works ≡ false
      → has_finished works ≡ true → is_seated (Some s) ≡ true → ⊥
  not_finished lent stays done sits = at (is_some s.pipe.owner_seat) refl sits
    where
      -- nor for the result of one that put it
      by_place : is_some s.result.seat ≡ true → ⊥
      by_place sits =
          let why = placed.reason sits in
          let over = last_is (next_but_wake kind works)
          (sym t.result.over_is ∙ or_left (has_finished works) (has_given_up works) done) in
          let put = subst (λ a. IsPutBy Operating a (has_given_up works) (has_result works))
          over (subst (λ k. IsPutBy k (next_but_wake kind works) (has_given_up works)
          (has_result works)) why.0 placed.put_is) in
          (let both = put stays in let none = why.1 in cc)

      in_slot : (b : Bool) → is_some s.slot.seat ≡ b → b || is_some s.result.seat ≡ true → ⊥
      in_slot true seat sits =
          full_slot s.slot.content (has_finished works) (has_given_up works)
          (is_none (session (own cut))) (fault kind works) t.result.slot done lent
          (t.seats.reason.slot seat).0
      in_slot false seat sits = by_place sits

      at : (b : Bool) → is_some s.pipe.owner_seat ≡ b
          → b || (is_some s.slot.seat || is_some s.result.seat) ≡ true → ⊥
      at true seat sits = (let given_up = over_closed s (seen_is_shut (own cut)) (got (own cut))
          (accepted (own cut)) works kind (next_but_wake kind works) t.flow
          (sym t.result.over_is ∙ or_left (has_finished works) (has_given_up works) done) seat
          (t.seats.reason.owner seat).1 in cc)
      at false seat sits = in_slot (is_some s.slot.seat) refl sits

  -- Who sits in a seat doesn't wait for a job that sits in its own.
  not_seated : has_given_up works ≡ false → is_job_seated cut ≡ true → is_seated (Some s) ≡ true → ⊥
  not_seated stays job sits = at (is_some s.pipe.owner_seat) refl sits
    where
      there : is_some s.pipe.job_seat ≡ true
      there = ap is_some (t.seats.job ∙ ap (λ b. seat_of b s.number) job)

      finds : is_finding (next_but_wake kind works) ≡ true
      finds = without (is_finding (next_but_wake kind works)) (has_given_up works) stays
          (t.seats.reason.job there).0
        where
          without : (a b : Bool) → b ≡ false → a || b ≡ true → a ≡ true
          without a b none e = grind arith

      lasts : s.pipe.is_job_open ≡ true
      lasts = finding_lasts s (seen_is_shut (own cut)) (got (own cut)) (accepted (own cut)) works
          kind (next_but_wake kind works) finds t.flow

      looks_nowhere : is_piped_kind kind ≡ false → ⊥
      looks_nowhere none = unseated s (seen_is_shut (own cut)) (got (own cut)) (accepted (own cut))
          works kind (next_but_wake kind works) none finds t.flow

      in_slot : (b : Bool) → is_some s.slot.seat ≡ b → b || is_some s.result.seat ≡ true → ⊥
      in_slot true seat sits =
          ⊎_elim (λ shut. (let open_is = (t.seats.reason.job there).2 in cc))
          (λ other. ⊎_elim (λ closed. (let open_is = lasts in cc))
          (λ without. looks_nowhere without) other)
          (t.seats.reason.slot seat).1
      in_slot false seat sits =
          let operates = (placed.reason sits).0 in
          looks_nowhere (ap is_piped_kind operates)

      at : (b : Bool) → is_some s.pipe.owner_seat ≡ b
          → b || (is_some s.slot.seat || is_some s.result.seat) ≡ true → ⊥
      at true seat sits =
          let holds = t.lent.holds in
          let some = t.lent.some in
          not_both s kind (omega (arith, holds, some)) (t.seats.reason.job there).1
          (t.seats.reason.owner seat).0
      at false seat sits = in_slot (is_some s.slot.seat) refl sits

-- A job that sits in the pipe can't go on, and its owner's end is open.
pub seated_reason : (s : Session) (bytes : Kind → ℕ) (cut : List Event)
    → ((kind : Kind) → seen_capacity kind (own cut) ≡ bytes kind) → LastAs (Some s) bytes cut
    → is_some s.pipe.job_seat ≡ true → HasReason cut
seated_reason s bytes cut same t seated =
    let reason = t.seats.reason.job seated in (
      t.lent.shut_is ∙ ap not reason.2,
      by_kind (kind_in (last_session (own cut)))
          (same (kind_in (last_session (own cut)))) reason.1,
    )
  where
    by_kind : (kind : Kind)
        → seen_capacity kind (own cut) ≡ bytes (kind_in (last_session (own cut))) → IsStuckIn kind s
        → IsStuck kind cut
    by_kind Writing whole none = inside_is s bytes cut t ∙ none
    by_kind _ whole full =
        let within = t.lent.within in
        let holds = t.lent.holds in
        ap (λ (l : List ℕ). length l) (inside_is s bytes cut t)
        ∙ omega (arith, full, within, holds, whole)

-- An owner that waits in a session whose job is over, or sits in its own seat, was woken.
pub not_lost : (owner : Owner) (cut : List Event) → OwnerAs owner cut → (s : ℕ)
    → IsSessionOf (session (own cut)) s → is_waiting (own cut) ≡ true
    → (has_finished (acts_of s cut) || has_given_up (acts_of s cut) ≡ true)
    ⊎ (is_job_seated cut ≡ true) → was_woken cut ≡ true
not_lost owner cut t s of waits rests =
    ⊎_elim (λ woken. woken) (λ sits. absurd
    (lost owner.session t.last t.place (session (own cut)) refl of sits)) (t.told waits).1
  where
    there : is_dropped (own cut) ≡ false
    there = t.gone.0 ∙ (t.told waits).0

    stays : (works : List Act) → (has_given_up works ≡ true → is_dropped (own cut) ≡ true)
        → (b : Bool) → has_given_up works ≡ b → has_given_up works ≡ false
    stays works let_go true is = absurd (let gone = let_go is in let here = there in cc)
    stays works let_go false is = is

    only : (a b : Bool) → b ≡ false → a || b ≡ true → a ≡ true
    only a b none e = grind arith

    lost : (last : Option Session) → LastAs last (capacity_of owner) cut → PlaceIn last cut
        → (r : Option SeenSession) → session (own cut) ≡ r → IsSessionOf r s → is_seated last ≡ true
        → ⊥
    lost None l placed r is of sits = cc
    lost (Some held) l placed None is of sits = of
    lost (Some held) l placed (Some r) is of sits =
        let begun : Some r ≡ Some
        (record { serial = held.number.serial; kind = kind_in (last_session (own cut)) }) =
        sym (session_is_last (own cut) r is) ∙ l.lent.begun in
        let same : held.number.serial ≡ s = sym (ap (serial_in s) begun) ∙ of in
        let works = acts_of held.number.serial cut in
        let goes = stays works l.result.let_go (has_given_up works) refl in
        ⊎_elim
        (λ over. not_finished held (capacity_of owner) cut l placed (ap is_none is) goes
        (only (has_finished works) (has_given_up works) goes (subst (λ n. has_finished
        (acts_of n cut) || has_given_up (acts_of n cut) ≡ true) (sym same) over)) sits)
        (λ seated. not_seated held (capacity_of owner) cut l placed goes seated sits) rests
      where
        serial_in : ℕ → Option SeenSession → ℕ
        serial_in n None = n
        serial_in n (Some r) = r.serial

-- ---- a job that is seated stays so, or its wake is under way

-- the job is seated, or a wake of it is under way
abbrev pub IsTold : ℕ → List Event → Type 0
IsTold s cut = (is_job_seated cut ≡ true) ⊎ (is_waking s (own cut) ≡ true)
