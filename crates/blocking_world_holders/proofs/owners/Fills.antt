-- The session of an owner who writes after it fills the pipe.
use Rattle.std.proofs.Common.{◌≡◌, ℕ, ◌<◌, ◌≤◌, ◌==◌, List, ◌++◌, length, length-append}
use Rattle.std.proofs.Common.{append_assoc, Bool, true, false, refl, sym, ap, ◌∙◌, subst, arith}
use Rattle.std.proofs.Common.{Option, if◌then◌else◌, min, take, eqb-true, length-take}
use Rattle.std.proofs.lemmas.Bool.Decides.{nat_tests}
use Rattle.std.proofs.lemmas.List.{take-append-le}
use Rattle.blocking_world_holders.proofs.Types.{Act, FillShut, Filled, Waits}
use Rattle.blocking_world_holders.proofs.Words.{room, Closed, Met, Served, Waiting, fill, JobNumber}
use Rattle.blocking_world_holders.proofs.Words.{AskFlush, CloseEnd, Consume, Finish, JobAction}
use Rattle.blocking_world_holders.proofs.Words.{OfferBytes, Over, Peek, Writing, has_given_up}
use Rattle.blocking_world_holders.proofs.Words.{next_but_wake, seen_fill, IsBeginning, SeenSession}
use Rattle.blocking_world_holders.proofs.Words.{SessionAs, WrittenAs, Wrote, wrote_by, Session}
use Rattle.blocking_world_holders.proofs.Words.{filled, serial_of, session_after_fill}
use Rattle.blocking_world_holders.proofs.owners.Drains.{lent_with, written_with, owner_sits}

-- ---- what a fill finds

-- What an owner finds that fills the pipe: the job's end is open, and as many bytes go in as there
-- is room for, of those it has.
pub record Enters (n free : ℕ) (lasts : Bool) (seat : Option JobNumber)
    (went : ℕ × Option JobNumber) : Type 0 where
  pub many : went.0 ≡ min n free
  pub seat_is : went.1 ≡ seat
  pub lasts_is : lasts ≡ true
  pub room : 0 < free

-- by whether there is no room
abbrev entry : Bool → ℕ → Option JobNumber → Met (ℕ × Option JobNumber)
entry full count seat = if full then Waiting else Served (count, seat)

pub enters : (n free : ℕ) (lasts : Bool) (seat : Option JobNumber) (went : ℕ × Option JobNumber)
    → fill n free lasts seat ≡ Served went → Enters n free lasts seat went
enters n free false seat went e = absurd (cc)
enters n free true seat went e = at (free == 0) refl e
  where
    at : (b : Bool) → (free == 0) ≡ b → entry b (min n free) seat ≡ Served went
        → Enters n free true seat went
    at true t e = absurd (cc)
    at false t e =
        let same : went ≡ (min n free, seat) = cc in
        record {
          many = ap (λ w. w.0) same;
          seat_is = ap (λ w. w.1) same;
          lasts_is = refl;
          room = grind (arith, nat_tests);
        }

-- so of some bytes some go in
pub some_enter : (n free : ℕ) (lasts : Bool) (seat : Option JobNumber) (went : ℕ × Option JobNumber)
    → fill n free lasts seat ≡ Served went → 0 < n
    → (0 < went.0) × (went.0 ≤ n) × (went.0 ≤ free)
some_enter n free lasts seat went e some =
    let f = enters n free lasts seat went e in
    let many = f.many in
    let any = f.room in
    (omega (arith, many, any, some), omega (arith, many), omega (arith, many))

-- an owner that waits found no room, with the job's end open
pub no_room : (n free : ℕ) (lasts : Bool) (seat : Option JobNumber)
    → fill n free lasts seat ≡ Waiting → (free ≡ 0) × (lasts ≡ true)
no_room n free false seat e = absurd (cc)
no_room n free true seat e = at (free == 0) refl e
  where
    at : (b : Bool) → (free == 0) ≡ b → entry b (min n free) seat ≡ Waiting
        → (free ≡ 0) × (true ≡ true)
    at true t e = (eqb-true free 0 t, refl)
    at false t e = absurd (cc)

-- ---- of a session

module _ (n : ℕ) (s : Session) where
  pub filled_some : (went : ℕ × Option JobNumber) → filled n s ≡ Served went → 0 < n
      → (0 < went.0) × (went.0 ≤ n) × (went.0 ≤ room s.pipe)
  filled_some went e some =
      some_enter n (room s.pipe) s.pipe.is_job_open s.pipe.job_seat went e some

  -- the note that it takes is that of the job that is seated
  pub filled_note : (went : ℕ × Option JobNumber) → filled n s ≡ Served went
      → (went.1 ≡ s.pipe.job_seat) × (s.pipe.is_job_open ≡ true)
  filled_note went e = let f = enters n (room s.pipe) s.pipe.is_job_open s.pipe.job_seat went e in
      (f.seat_is, f.lasts_is)

  pub fill_full : filled n s ≡ Waiting → (room s.pipe ≡ 0) × (s.pipe.is_job_open ≡ true)
  fill_full e = no_room n (room s.pipe) s.pipe.is_job_open s.pipe.job_seat e

-- ---- what a fill is seen to find

abbrev pub fill_act : Met (ℕ × Option JobNumber) → Act
fill_act (Served went) = Filled went.0 (serial_of went.1)
fill_act Waiting = Waits
fill_act Closed = FillShut

pub fill_seen : (n free : ℕ) (lasts : Bool) (seat : Option JobNumber)
    → fill_act (fill n free lasts seat) ≡ seen_fill (fill n free lasts (serial_of seat))
fill_seen n free false seat = refl
fill_seen n free true seat = at (free == 0)
  where
    at : (b : Bool) → fill_act (entry b (min n free) seat)
        ≡ seen_fill (if b then Waiting else Served (min n free, serial_of seat))
    at b = grind arith

-- ---- what was written, where more goes in

-- what is at the front of these is at the front of more
longer : (piece items more : List ℕ) → IsBeginning piece items → IsBeginning piece (items ++ more)
longer piece items more found =
    (found.0 ++ more, ap (λ l. l ++ more) found.1 ∙ append_assoc piece found.0 more)

-- where the owner's end is open, nothing was drained
goes_in : (next : JobAction) (out items more : List ℕ) (lasts given_up : Bool) (w : Wrote)
    → WrittenAs next out items lasts false given_up w
    → WrittenAs next out (items ++ more) lasts false given_up w
goes_in Peek out items more lasts given_up w p = p
goes_in (OfferBytes piece) out items more lasts given_up w p =
    (p.0, p.1, longer piece items more p.2, p.3)
goes_in (Consume n) out items more lasts given_up w p =
    let fits = p.2 in (
      p.0,
      p.1 ∙ ap (λ l. out ++ l) (sym (take-append-le n items more fits)),
      rw length-append (omega (arith, fits)),
    )
goes_in AskFlush out items more lasts given_up w p =
    (p.0, p.1, λ none. absurd (let still = (p.2 none).1 in cc))
goes_in CloseEnd out items more lasts given_up w p =
    (p.0, p.1, (λ none. absurd (let still = (p.2.0 none).1 in cc), p.2.1))
goes_in Finish out items more lasts given_up w p =
    (p.0, p.1, (λ none. absurd (let still = (p.2.0 none).1 in cc), p.2.1))
goes_in Over out items more lasts given_up w p = λ stays.
    ((p stays).0, (λ none. absurd (let still = ((p stays).1.0 none).1 in cc), (p stays).1.1))
goes_in _ out items more lasts given_up w p = absurd p

-- ---- each fill

module _ (s : Session) (capacity : ℕ) (last : Option SeenSession) (shut back dropped : Bool)
    (took accepted : List ℕ) (acts : List Act) (js ps ss : Bool) where
  -- some of these bytes go in
  pub fills : (bytes : List ℕ) (went : ℕ × Option JobNumber) → filled (length bytes) s ≡ Served went
      → shut ≡ false
      → SessionAs s Writing capacity last shut back dropped took accepted acts js ps ss
      → SessionAs (session_after_fill bytes (Served went) s) Writing capacity last shut back dropped
      took (accepted ++ take went.0 bytes) acts false ps ss
  fills bytes went found unshut t =
      let f = enters (length bytes) (room s.pipe) s.pipe.is_job_open s.pipe.job_seat went found in
      let many = f.many in
      let any = f.room in
      let more = take went.0 bytes in
      let within = t.lent.within in
      let holds = t.lent.holds in
      let entered : length more ≤ room s.pipe = simp length-take (omega (arith, many)) in
      let written = subst (λ b. WrittenAs (next_but_wake Writing acts) t.flow.out s.pipe.items
      s.pipe.is_job_open b (has_given_up acts) (wrote_by acts)) unshut t.flow.written_is in
      record {
        lent = lent_with s t.lent (rw length-append (omega (arith, within, holds, entered)));
        flow = record {
          closed_is = t.flow.closed_is;
          out = t.flow.out;
          inside = ap (λ l. l ++ more) t.flow.inside ∙ append_assoc t.flow.out s.pipe.items more;
          removed = t.flow.removed;
          begun = longer (wrote_by acts).taken accepted more t.flow.begun;
          written_is =
              subst (λ b. WrittenAs (next_but_wake Writing acts) t.flow.out (s.pipe.items ++ more)
              s.pipe.is_job_open b (has_given_up acts) (wrote_by acts)) (sym unshut)
              (goes_in (next_but_wake Writing acts) t.flow.out s.pipe.items more s.pipe.is_job_open
              (has_given_up acts) (wrote_by acts) written);
          sound = t.flow.sound;
          ungot = t.flow.ungot;
          ungiven = t.flow.ungiven;
          unclosed = t.flow.unclosed;
        };
        result = t.result;
        seats = record {
          job = refl;
          owner = t.seats.owner;
          slot = t.seats.slot;
          reason = record {
            job = λ seated. absurd (cc);
            owner = λ seated.
                (let full = (t.seats.reason.owner seated).0 in absurd (omega (arith, full, any)));
            slot = t.seats.reason.slot;
          };
        };
      }

  -- none go in, and it is seated there
  pub fill_waits : (bytes : List ℕ) → filled (length bytes) s ≡ Waiting
      → SessionAs s Writing capacity last shut back dropped took accepted acts js ps ss
      → SessionAs (session_after_fill bytes Waiting s) Writing capacity last shut back dropped took
      accepted acts js true ss
  fill_waits bytes found t = record {
    lent = lent_with s t.lent t.lent.within;
    flow = written_with s t.flow t.flow.closed_is t.flow.written_is t.flow.unclosed;
    result = t.result;
    seats = owner_sits s t.seats (fill_full (length bytes) s found);
  }
